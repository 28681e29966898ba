-- A decree is encoded as an option of what is committed.
use Rattle.std.proofs.Common.{◌≡◌, ℕ, List, ◌++◌, Option, Some, None, IfSome}
use Rattle.base.specs.declared.fault.Fault.{Fault}
use Rattle.wire.specs.Record.{NoPrefix, Refused}
use Rattle.wire.proofs.Values.{Refused-weaker}
use Rattle.wire.specs.Field.{option_text}
use Rattle.decrees.specs.declared.decree.Decree.{Decree}
use Rattle.decrees.specs.declared.decree.Decree.TheVariants.{Commit, Rollback}
use Rattle.decrees.specs.Record.{commit_text, decree_text}

no_decree : {fits : Option (ℕ × List ℕ) → Type 0} (all : (o : Option (ℕ × List ℕ)) → fits o) (bytes : List ℕ) → NoPrefix fits (option_text commit_text) bytes → NoPrefix (λ _. Unit {0}) decree_text bytes
no_decree {fits} all bytes none = record { none = λ d rest f same. by d rest same }
  where
    by : (d : Decree) (rest : List ℕ) → bytes ≡ decree_text d ++ rest → ⊥
    by Rollback rest same = none.none None rest (all None) same
    by (Commit n token) rest same = none.none (Some (n, token.0)) rest (all (Some (n, token.0))) same

pub refused_decree : {fits : Option (ℕ × List ℕ) → Type 0} (all : (o : Option (ℕ × List ℕ)) → fits o) (bytes : List ℕ) (e : Fault) → Refused e (NoPrefix fits (option_text commit_text) bytes) → Refused e (NoPrefix (λ _. Unit {0}) decree_text bytes)
refused_decree {fits} all bytes e = Refused-weaker e (no_decree {fits = fits} all bytes)

-- what is committed fits as it is
pub fits_all : (o : Option (ℕ × List ℕ)) → IfSome o (λ p. Unit {0} × Unit {0})
fits_all None = tt
fits_all (Some p) = (tt, tt)
