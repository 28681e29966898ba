-- What a log of pieces says.
use Rattle.std.specs.Prelude.{ℕ, List, map}
use Rattle.std.specs.declared.alloc.Global.{Global}
use Rattle.std.specs.declared.vec.Vec.{Vec}
use Rattle.grammar.specs.Reads.{with_mark}
use Rattle.connections.specs.declared.history.Hearing.{Hearing}
use Rattle.connections.specs.declared.history.Passing.{Passing}
use Rattle.connections.specs.declared.history.PassedAs.{PassedAs}

module _ {K : Type 0} where
  abbrev pub logged_one : K × Vec ℕ Global → K × List ℕ
  logged_one e = (e.0, e.1.items)

  -- the pieces, without where they lay in memory
  abbrev pub logged : List (K × Vec ℕ Global) → List (K × List ℕ)
  logged log = map logged_one log

-- a piece as it came, by the number of its connection
abbrev pub heard_one : Hearing × Vec ℕ Global → ℕ × List ℕ
heard_one e = (e.0.number, with_mark e.0.dialect e.0.is_full e.1.items)

abbrev pub heard_logged : List (Hearing × Vec ℕ Global) → List (ℕ × List ℕ)
heard_logged log = map heard_one log

abbrev pub passed_one : PassedAs × Vec ℕ Global → Passing × List ℕ
passed_one e = (e.0.passing, with_mark e.0.dialect e.0.is_full e.1.items)

abbrev pub passed_logged : List (PassedAs × Vec ℕ Global) → List (Passing × List ℕ)
passed_logged log = map passed_one log
