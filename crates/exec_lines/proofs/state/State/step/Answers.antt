use Rattle.std.proofs.Common.{◌≡◌, Bool, true, false, Result, Ok, Err, inl, subst}
use Rattle.std.specs.Prelude.{not, IfErr, ◌⊎◌}
use Rattle.base.specs.declared.fault.Fault.{Fault}
use Rattle.base.specs.declared.fault.Fault.TheVariants.{NoMemory, Stopped}
use Rattle.exec_lines.specs.Step.{IsCounted, is_refused}
use Rattle.exec_lines.specs.declared.input.Input.{Input}
use Rattle.exec_lines.proofs.state.State.step.Goals as goal

twice : (b : Bool) → not (not b) ≡ true → b ≡ true
twice true e = e
twice false e = absurd (cc e)

no_memory : {X : Type 0} (P : Type 0) (r : Result X Fault) → IfErr r (λ fault. fault ≡ NoMemory) → IfErr r (λ fault. (fault ≡ NoMemory) ⊎ ((fault ≡ Stopped) × P))
no_memory P (Ok x) h = tt
no_memory P (Err e) h = inl h

pub returns-in-Adopt-clause-done : goal.returns-in-Adopt-clause-done
returns-in-Adopt-clause-done c = rw c.in-Adopt.is c.on_adopt.ensures.done

pub returns-in-Adopt-clause-err : goal.returns-in-Adopt-clause-err
returns-in-Adopt-clause-err c allowed =
    let may = twice _ (subst (λ (x : Input). not (is_refused c.args.self.now x) ≡ true) c.in-Adopt.is allowed) in
    no_memory (IsCounted c.args.self.now) c.on_adopt.result (c.on_adopt.ensures.adopted may)
