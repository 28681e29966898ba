-- What a record of a service has, and the service of a process that begins with it.
use Rattle.std.specs.Prelude.{◌≡◌, ℕ, List, Option}
use Rattle.grammar.specs.declared.reader.Dialect.{Dialect}
use Rattle.ensemble.specs.Kept.{ProcessView}
use Rattle.service.specs.declared.assignment.Outstanding.{Outstanding}
use Rattle.service.specs.declared.pause.Pause.{Pause}
use Rattle.service.specs.Service.{ServiceView}
use Rattle.service.specs.Process.{KeptService, NobodyWaits, reopened_service}

-- what is kept of the replicas and proxies, and the least number that the next connection may have
pub record RecordView : Type 0 where
  pub replicas : ProcessView
  pub next : ℕ

-- what is kept of a service by such a record, if its bytes are read in this grammar
abbrev pub kept_in : Dialect → RecordView → KeptService
kept_in dialect r = record { replicas = r.replicas; dialect = dialect; next = r.next }

-- the service of a process that begins with this, in which no proxy waits for anything
pub record IsBegunWith (kept : KeptService) (v : ServiceView) : Type 0 where
  pub waiting : List (Option Outstanding)
  pub pauses : List Pause
  pub nobody : NobodyWaits waiting
  pub is : v ≡ reopened_service kept waiting pauses
