-- The state after the members of a chain, and a member more.
use Rattle.std.proofs.Common.{◌≡◌, ℕ, zero, suc, ◌-◌, Bool, true, false, List, [], ◌∷◌, ◌++◌, length, Some, refl, sym, ap, ◌∙◌, subst, arith}
use Rattle.std.specs.Prelude.{slice_get, slice_index_or, remove, IsTrue, ◌&&◌, ◌==◌}
use Rattle.std.proofs.lemmas.Bool.{and_parts, eqb-true}
use Rattle.decrees.specs.declared.decree.Decree.{Decree}
use Rattle.decrees.specs.declared.decree.Decree.TheVariants.{Commit, Rollback}
use Rattle.decrees.specs.Votes.{token_eq}
use Rattle.decrees.proofs.TokenLemmas.{token_eq-true}
use Rattle.states.specs.State.{StateView}
use Rattle.executor.specs.Work.{TentativeView}
use Rattle.rollback.specs.Chain.{tip, is_over, are_linked, IsChain, commits_state, commits_first}

at : (s : StateView) (ts : List TentativeView) (n : ℕ) (t : TentativeView) → length ts ≡ suc n → slice_get ts n ≡ Some t → tip s ts ≡ t.after
at s [] n t l e = absurd (cc e)
at s (x ∷ []) zero t l e = (let here : x ≡ t = cc e in ap (λ (y : TentativeView). y.after) here)
at s (x ∷ []) (suc n) t l e = absurd (cc e)
at s (x ∷ y ∷ ts) zero t l e = absurd (omega (arith, l))
at s (x ∷ y ∷ ts) (suc n) t l e = at x.after (y ∷ ts) n t (omega (arith, l)) e

-- it is that of the last member
pub tip_is_last : (s : StateView) (ts : List TentativeView) (t : TentativeView) → slice_get ts (length ts - 1) ≡ Some t → tip s ts ≡ t.after
tip_is_last s [] t e = absurd (cc e)
tip_is_last s (x ∷ ts) t e =
    let n : length ts ≡ suc (length ts) - 1 = omega arith in
    at s (x ∷ ts) (length ts) t refl (ap (slice_get (x ∷ ts)) n ∙ e)

and_true : (b : Bool) → b ≡ true → (b && true) ≡ true
and_true true h = refl
and_true false h = h

both : (b c d : Bool) → (b && c) ≡ true → (c ≡ true → d ≡ true) → (b && d) ≡ true
both true c d h f = f h
both false c d h f = absurd (cc h)

-- a member over the last one links
pub linked-push : (s : StateView) (ts : List TentativeView) (t : TentativeView) → IsTrue (are_linked s ts) → IsTrue (is_over (tip s ts) t) → IsTrue (are_linked s (ts ++ t ∷ []))
linked-push s [] t e over = and_true (is_over s t) over
linked-push s (x ∷ ts) t e over = both (is_over s x) (are_linked x.after ts) (are_linked x.after (ts ++ t ∷ [])) e (λ h. linked-push x.after ts t h over)

-- the decree that commits a state is that of its number and token
pub commit_is : (d : Decree) (s : StateView) → IsTrue (commits_state d s) → d ≡ Commit s.number s.token
commit_is (Commit n t) s e =
    let h = and_parts (s.number == n) (token_eq s.token t) e in
    λ i. Commit (sym (eqb-true s.number n h.0) i) (sym (token_eq-true s.token t h.1) i)
commit_is Rollback s e = absurd (cc e)

-- what is left of a chain when its first member is committed
pub linked-rest : (d : Decree) (s : StateView) (ts : List TentativeView) (first : TentativeView) → commits_first d ts ≡ true → first ≡ slice_index_or ts 0 first → IsChain (record { have = s; members = ts })
    → IsChain (record { have = first.after; members = remove ts 0 })
linked-rest d s [] first e is c = absurd (cc e)
linked-rest d s (t ∷ ts) first e is c = record {
  few = omega (arith, c.few);
  linked = subst (λ (x : TentativeView). IsTrue (are_linked x.after ts)) (sym is) (and_parts (is_over s t) (are_linked t.after ts) c.linked).1;
}
