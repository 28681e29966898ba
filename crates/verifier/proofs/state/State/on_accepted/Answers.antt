use Rattle.std.proofs.Common.{◌≡◌, ℕ, ◌≤◌, ◌⊎◌, ◌^◌, true, List, IfErr, sym, ◌∙◌, ap, subst}
use Rattle.base.specs.declared.fault.Fault.TheVariants.{NoMemory, Stopped}
use Rattle.verifier.specs.declared.tally.Tallied.{Tallied}
use Rattle.verifier.specs.State.{VerifierState, next_place}
use Rattle.verifier.specs.Lines.{learn, is_fitting}
use Rattle.verifier.specs.Tally.{is_accepted, tally_with}
use Rattle.verifier.proofs.PlaceLemmas.{accepted-next}
use Rattle.verifier.proofs.state.State.on_accepted.Goals as goal

pub returns-clause-err : goal.returns-clause-err
returns-clause-err c =
    let s = c.args.self.now in
    let t = c.args.accepted in
    let fits : is_fitting s c.args.place t.decree ≡ true = sym c.is_fitting.ensures ∙ c.if-not-is_fitting.false in
    let heard : c.add.new.self ≡ tally_with s.tally t = c.in_ok-add.ensures.ok ∙ ap (λ (z : VerifierState). tally_with z.tally t) c.self.view_is in
    let accepted : is_accepted c.args.u (tally_with s.tally t) t.view t.decree ≡ true =
    ap (λ (ts : List Tallied). is_accepted c.args.u ts t.view t.decree) (sym heard) ∙ (sym c.is_accepted.ensures ∙ c.if-not-is_accepted.false) in
    subst (λ (n : ℕ). IfErr c.decide.result (λ fault. (fault ≡ NoMemory) ⊎ ((fault ≡ Stopped) × (2 ^ 64 ≤ n))))
    (ap (λ (z : VerifierState). next_place (learn z t.decree)) c.self.view_is ∙ sym (accepted-next c.args.u c.args.id s t.from t.view c.args.place t.decree fits accepted))
    c.decide.ensures.err
