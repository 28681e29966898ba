use Rattle.std.proofs.Common.{◌≡◌, Some, None, true, false, sym, ap, ◌∙◌}
use Rattle.std.specs.Prelude.{not, option_map}
use Rattle.executor.specs.Work.{CommittedView}
use Rattle.exec_lines.specs.State.{is_behind}
use Rattle.exec_lines.proofs.LineLemmas.{parcel_stays, parcel_came}
use Rattle.exec_lines.proofs.state.State.on_parcel.Goals as goal

pub returns-then-not-is_behind-clause-done : goal.returns-then-not-is_behind-clause-done
returns-then-not-is_behind-clause-done c =
    let current : is_behind c.args.self.now ≡ false = sym c.is_behind.ensures ∙ c.if-not-is_behind.true in
    (λ i. record { state = c.args.self.now; saves = c.nothing.ensures.saves i; letters = c.nothing.ensures.letters i }) ∙ sym (parcel_stays c.args.self.now c.args.parcel current)

pub adopt_committed-requires : goal.adopt_committed-requires
adopt_committed-requires c = sym c.is_behind.ensures ∙ c.if-not-is_behind.false

pub returns-in-Some-clause-done : goal.returns-in-Some-clause-done
returns-in-Some-clause-done c =
    let taken = sym c.in_ok-committed.ensures ∙ ap (option_map (λ (x : CommittedView). x.state)) c.in-Some.is in
    rw (parcel_came c.args.self.now c.args.parcel (Some c.in-Some.committed.state) (sym c.is_behind.ensures ∙ c.if-not-is_behind.false) taken) c.adopt_committed.ensures

pub returns-in-Some-clause-fits_none : goal.returns-in-Some-clause-fits_none
returns-in-Some-clause-fits_none c current =
    let clash : false ≡ true = sym (ap not (sym c.is_behind.ensures ∙ c.if-not-is_behind.false)) ∙ current in
    absurd (cc clash)

pub returns-in-None-clause-done : goal.returns-in-None-clause-done
returns-in-None-clause-done c =
    let taken = sym c.in_ok-committed.ensures ∙ ap (option_map (λ (x : CommittedView). x.state)) c.in-None.is in
    (λ i. record { state = c.args.self.now; saves = c.nothing-in-None.ensures.saves i; letters = c.nothing-in-None.ensures.letters i })
    ∙ sym (parcel_came c.args.self.now c.args.parcel None (sym c.is_behind.ensures ∙ c.if-not-is_behind.false) taken)
