-- The errors of a step.
use Rattle.std.proofs.Common.{◌≡◌, Bool, true, false, Result, Err, refl, sym, ◌∙◌, subst, inl, inr}
use Rattle.std.specs.Prelude.{◌⊎◌, IsTrue, IfErr, IsOk, not}
use Rattle.base.specs.declared.fault.Fault.{Fault}
use Rattle.base.specs.declared.fault.Fault.TheVariants.{NoMemory, Stopped, Unfit}

-- a tentative state was refused, or there was no memory, or a counter was at its limit
pub errors : {X : Type 0} (refused : Bool) (r : Result X Fault) (e : Fault) (Counted : Type 0) → r ≡ Err e → (IsTrue refused → r ≡ Err Unfit)
    → (IsTrue (not refused) → IfErr r (λ fault. (fault ≡ NoMemory) ⊎ ((fault ≡ Stopped) × Counted)))
    → ((e ≡ Unfit) × IsTrue refused) ⊎ ((e ≡ NoMemory) ⊎ ((e ≡ Stopped) × Counted))
errors {X} true r e Counted is unfit other =
    let both : ◌≡◌ {A = Result X Fault} (Err e) (Err Unfit) = sym is ∙ unfit refl in
    inl (cc both, refl)
errors {X} false r e Counted is unfit other = inr (subst (λ (x : Result X Fault). IfErr x (λ fault. (fault ≡ NoMemory) ⊎ ((fault ≡ Stopped) × Counted))) is (other refl))

-- an Ok is no error
pub no_error : {X : Type 0} (r : Result X Fault) (e : Fault) → r ≡ Err e → IsOk r → ⊥
no_error {X} r e is ok = cc (subst (λ (x : Result X Fault). IsOk x) is ok)
