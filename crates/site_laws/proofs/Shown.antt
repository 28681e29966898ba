-- What members show is enough.
use Rattle.std.proofs.Common.{◌≡◌, ⊎_elim, ℕ, List, [], ◌∷◌, ◌++◌, None, Some, refl, ap, subst}
use Rattle.std.specs.Prelude.{Contains, flat_map}
use Rattle.std.proofs.lemmas.List.Elements.{Contains-push_cases}
use Rattle.decrees.specs.declared.node.Letter.{Letter}
use Rattle.exec_lines.specs.declared.body.Body.{Body}
use Rattle.hosts.specs.Host.{LettersAreAmong}
use Rattle.ensemble.proofs.Lists.{in_none}
use Rattle.site_laws.specs.Orders.{AreAllowed, all_shown}
use Rattle.site_laws.specs.Site.{Deed, shown_by, went_out, WentBefore, left_by, all_by, HadLeft}
use Rattle.site_laws.specs.Site as deed
use Rattle.site_laws.proofs.Allowed.{MayShow}

-- the letters that went out are those that left
same_letters : (before : List (ℕ × Deed)) → flat_map went_out (all_shown shown_by before) ≡ all_by left_by before
same_letters [] = refl
same_letters ((m, deed.Came l) ∷ before) = same_letters before
same_letters ((m, deed.Left l) ∷ before) = ap (λ (ls : List (Letter Body)). l ∷ ls) (same_letters before)
same_letters ((m, deed.Took l None) ∷ before) = same_letters before
same_letters ((m, deed.Took l (Some a)) ∷ before) = same_letters before
same_letters ((m, deed.Asked r quiet) ∷ before) = same_letters before
same_letters ((m, deed.Again number) ∷ before) = same_letters before
same_letters ((m, deed.CutAt moment) ∷ before) = same_letters before
same_letters ((m, deed.Advanced) ∷ before) = same_letters before
same_letters ((m, deed.Ran) ∷ before) = same_letters before
same_letters ((m, deed.Collected) ∷ before) = same_letters before
same_letters ((m, deed.OpenedExecutor) ∷ before) = same_letters before
same_letters ((m, deed.OpenedVerifier) ∷ before) = same_letters before
same_letters ((m, deed.Suspected) ∷ before) = same_letters before
same_letters ((m, deed.Trimmed) ∷ before) = same_letters before
same_letters ((m, deed.Forgot) ∷ before) = same_letters before
same_letters ((m, deed.ExecutorEnded) ∷ before) = same_letters before
same_letters ((m, deed.VerifierEnded) ∷ before) = same_letters before

none_came : (before : List (ℕ × Deed)) → LettersAreAmong [] (all_by left_by before)
none_came before l c = absurd (in_none l c)

had_left : (before : List (ℕ × Deed)) (x : ℕ × Deed) → MayShow shown_by WentBefore before x → HadLeft before x
had_left before (m, deed.Came l) may = λ x one. ⊎_elim
    (λ (none : Contains [] x). absurd (in_none x none))
    (λ (same : l ≡ x). subst (λ (y : Letter Body). Contains (all_by left_by before) y) same (subst (λ (ls : List (Letter Body)). Contains ls l) (same_letters before) may.0))
    (Contains-push_cases [] l x one)
had_left before (m, deed.Left l) may = none_came before
had_left before (m, deed.Took l answer) may = none_came before
had_left before (m, deed.Asked r quiet) may = none_came before
had_left before (m, deed.Again number) may = none_came before
had_left before (m, deed.CutAt moment) may = none_came before
had_left before (m, deed.Advanced) may = none_came before
had_left before (m, deed.Ran) may = none_came before
had_left before (m, deed.Collected) may = none_came before
had_left before (m, deed.OpenedExecutor) may = none_came before
had_left before (m, deed.OpenedVerifier) may = none_came before
had_left before (m, deed.Suspected) may = none_came before
had_left before (m, deed.Trimmed) may = none_came before
had_left before (m, deed.Forgot) may = none_came before
had_left before (m, deed.ExecutorEnded) may = none_came before
had_left before (m, deed.VerifierEnded) may = none_came before

pub all_had_left : (before order : List (ℕ × Deed)) → AreAllowed (MayShow shown_by WentBefore) before order → AreAllowed HadLeft before order
all_had_left before [] all = tt
all_had_left before (x ∷ order) all = (had_left before x all.0, all_had_left (before ++ x ∷ []) order all.1)
