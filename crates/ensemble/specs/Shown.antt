-- What nodes show of themselves.
use Rattle.std.specs.Prelude.{ℕ, ◌+◌, ◌-◌, ◌*◌, ◌%◌, ◌==◌, ◌&&◌, Bool, false, not, List, length, Option, None, Some, is_some, is_none, max, slice_get, if◌then◌else◌}
use Rattle.std.specs.List.{list_any, fold}
use Rattle.sessions.specs.declared.request.Request.{Request}
use Rattle.verifier.specs.Verifier.{VerifierView}
use Rattle.exec_lines.specs.State.{ExecutorState}
use Rattle.exec_lines.specs.Lines.{may_cut, has_number, requests_taken}
use Rattle.exec_node.specs.Executor.{ExecutorView}
use Rattle.events.specs.declared.event.Replica.{Replica}
use Rattle.events.specs.declared.event.Replica.TheVariants.{Executor, Verifier}
use Rattle.slots.specs.Slot.{Slot}
use Rattle.slots.specs.Status.{node_at}
use Rattle.proxies.specs.Proxy.{ProxyView, request_of}
use Rattle.hosts.specs.Host.{HostView}
use Rattle.hosts.specs.Shown.{job_len_of, epoch_of}
use Rattle.hosts.specs.Orders.{has_due}
use Rattle.ensemble.specs.Nodes.{NodesView}

-- ---- proxies, which are numbered from 1

abbrev pub is_free_in : Option ProxyView → Bool
is_free_in None = false
is_free_in (Some p) = is_none p.asked

-- the proxy of this number is there and has nothing outstanding
abbrev pub is_free_at : List ProxyView → ℕ → Bool
is_free_at proxies number = if number == 0 then false else is_free_in (slice_get proxies (number - 1))

abbrev pub outstanding_in : Option ProxyView → Option Request
outstanding_in None = None
outstanding_in (Some p) = request_of p.asked

-- what the proxy of this number has outstanding
abbrev pub outstanding_at : List ProxyView → ℕ → Option Request
outstanding_at proxies number = if number == 0 then None else outstanding_in (slice_get proxies (number - 1))

-- ---- replicas

abbrev pub is_host_up : Option HostView → Bool
is_host_up None = false
is_host_up (Some h) = is_some (node_at h.slot)

abbrev pub is_slot_up : Option (Slot VerifierView) → Bool
is_slot_up None = false
is_slot_up (Some v) = is_some (node_at v)

-- the replica is there and up
abbrev pub is_up_at : NodesView → Replica → Bool
is_up_at n (Executor id) = is_host_up (slice_get n.executors id)
is_up_at n (Verifier id) = is_slot_up (slice_get n.verifiers id)

-- an executor has a batch to run
abbrev pub has_job : HostView → Bool
has_job h = is_some (job_len_of h.slot)

abbrev pub has_job_in : Option HostView → Bool
has_job_in None = false
has_job_in (Some h) = has_job h

-- this executor leads, may begin a batch, and has a number and a request for one
abbrev pub may_give : ℕ → ℕ → ExecutorState → Bool
may_give u id s = may_cut u id s && (has_number s && not (length (requests_taken s) == 0))

abbrev pub would_cut_in : Option ExecutorView → Bool
would_cut_in None = false
would_cut_in (Some e) = may_give e.u e.id e.state

-- a cut, at whatever moment, would give a batch
abbrev pub would_cut : Slot ExecutorView → Bool
would_cut slot = would_cut_in (node_at slot)

-- a letter is under way
abbrev pub has_letters : NodesView → Bool
has_letters n = not (length n.mail == 0)

-- no letter is under way, no executor has a job, and no host holds an order that its executor could obey now
abbrev pub is_quiet : NodesView → Bool
is_quiet n = not (has_letters n) && (not (list_any has_job n.executors) && not (list_any has_due n.executors))

-- ---- the leader

abbrev pub later_epoch : ℕ → Option ℕ → ℕ
later_epoch latest None = latest
later_epoch latest (Some epoch) = max latest epoch

-- the latest epoch of the executors that are up, and 1 if none is
abbrev pub latest_epoch : List HostView → ℕ
latest_epoch hosts = fold (λ latest h. later_epoch latest (epoch_of h.slot)) 1 hosts

-- executors take turns
abbrev pub leader_of : NodesView → ℕ
leader_of n = (latest_epoch n.executors - 1) % (2 * n.u + 1)
