-- A token that is backed has its executors.
use Rattle.std.proofs.Common.{◌≡◌, ℕ, zero, suc, Bool, true, false, List, Option, Some, None, refl, sym, subst, IsTrue, is_some}
use Rattle.std.specs.Prelude.{nat_lt, if◌then◌else◌}
use Rattle.std.specs.Option.{option_map_or}
use Rattle.token.specs.declared.Token.{Token}
use Rattle.decrees.specs.declared.standing.Standing.{Standing}
use Rattle.decrees.specs.declared.votes.Verdict.TheVariants.{Commit, Hopeless, Wait}
use Rattle.decrees.specs.Count.{member_count}
use Rattle.decrees.specs.Votes.{Vote, support, heard, backed, backed_below, is_hopeless}
use Rattle.decrees.specs.Laws.{CommitIsBacked}

module _ (u : ℕ) (s : Standing) (votes : List Vote) where
  Has : Token → Type 0
  Has token = IsTrue (nat_lt u (support u s votes token))

  chosen : (b : Bool) (x token : Token) → nat_lt u (support u s votes x) ≡ b → (if b then Some x else None) ≡ Some token → IsTrue (nat_lt u (support u s votes token))
  chosen true x token e h = subst (λ (t : Token). IsTrue (nat_lt u (support u s votes t))) (cc h) (subst IsTrue (sym e) refl)
  chosen false x token e h = absurd (cc h)

  one_more : (before now : Option Token) (token : Token) → (before ≡ Some token → IsTrue (nat_lt u (support u s votes token)))
      → (if is_some before then before else if nat_lt u (option_map_or (support u s votes) now 0) then now else None) ≡ Some token → IsTrue (nat_lt u (support u s votes token))
  one_more (Some x) now token ih h = ih h
  one_more None (Some x) token ih h = chosen (nat_lt u (support u s votes x)) x token refl h
  one_more None None token ih h = none (nat_lt u 0) h
    where
      none : (b : Bool) → ◌≡◌ {A = Option Token} (if b then None else None) (Some token) → IsTrue (nat_lt u (support u s votes token))
      none true e = absurd (cc e)
      none false e = absurd (cc e)

  backed_support : (n : ℕ) (token : Token) → backed_below u s votes n ≡ Some token → IsTrue (nat_lt u (support u s votes token))
  backed_support zero token h = absurd (cc h)
  backed_support (suc n) token h = one_more (backed_below u s votes n) (heard s votes n) token (backed_support n token) h

  by_verdict : (o : Option Token) (b : Bool) (token : Token) → option_map_or (λ t. Commit t) o (if b then Hopeless else Wait) ≡ Commit token → o ≡ Some token
  by_verdict (Some x) b token h = cc h
  by_verdict None true token h = absurd (cc h)
  by_verdict None false token h = absurd (cc h)

pub commit_is_backed : CommitIsBacked
commit_is_backed u s votes token h =
    backed_support u s votes (member_count u) token (by_verdict u s votes (backed u s votes) (is_hopeless u s votes) token h)
