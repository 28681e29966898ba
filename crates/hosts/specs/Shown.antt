-- What a host shows of its executor.
use Rattle.std.specs.Prelude.{ℕ, ◌+◌, ◌-◌, ◌^◌, min, Option, None, Some, length}
use Rattle.std.specs.Option.{option_map}
use Rattle.exec_lines.specs.Job.{job_of}
use Rattle.exec_node.specs.Executor.{ExecutorView}
use Rattle.slots.specs.Slot.{Slot}
use Rattle.slots.specs.Status.{node_at}

-- how many requests the batch has that it is to run, if it is up and has a job
abbrev pub job_len_in : Option ExecutorView → Option ℕ
job_len_in None = None
job_len_in (Some e) = option_map (λ job. length job.batch.requests) (job_of e.state.work)

abbrev pub job_len_of : Slot ExecutorView → Option ℕ
job_len_of slot = job_len_in (node_at slot)

-- how far it has come, if it is up
abbrev pub steps_of : Slot ExecutorView → Option ℕ
steps_of slot = option_map (λ e. min (e.state.chain.have.number + e.state.standing.epoch) (2 ^ 64 - 1)) (node_at slot)

-- the epoch that it is in, if it is up
abbrev pub epoch_of : Slot ExecutorView → Option ℕ
epoch_of slot = option_map (λ e. e.state.standing.epoch) (node_at slot)
