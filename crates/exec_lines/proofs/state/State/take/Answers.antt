use Rattle.std.proofs.Common.{◌≡◌, None, sym, ap, ◌∙◌, subst}
use Rattle.base.specs.declared.fault.Fault.{Fault}
use Rattle.wire.specs.Record.{Refused}
use Rattle.items.specs.Map.{Items}
use Rattle.states.specs.State.{StateView}
use Rattle.transfer.specs.Parcel.{take_of}
use Rattle.exec_lines.proofs.state.State.take.Goals as goal

pub returns-in-Ok : goal.returns-in-Ok
returns-in-Ok c =
    let own : c.pages-own.result.now.items ≡ c.self.inside.chain.have.items = c.pages-own.ensures.items ∙ ap (λ (s : StateView). s.items) c.committed.ensures in
    rw (← c.self.view_is) (sym (sym (ap (λ (m : Items). take_of m c.args.parcel c.self.inside.standing.n c.self.inside.standing.token) own) ∙ c.in-Ok.ensures.taken.0))

pub returns-in-Err-BadRecord : goal.returns-in-Err-BadRecord
returns-in-Err-BadRecord c =
    let own : c.pages-own.result.now.items ≡ c.self.inside.chain.have.items = c.pages-own.ensures.items ∙ ap (λ (s : StateView). s.items) c.committed.ensures in
    let none = subst (λ (fault : Fault). Refused fault (take_of c.pages-own.result.now.items c.args.parcel c.self.inside.standing.n c.self.inside.standing.token ≡ None)) c.in-Err-BadRecord.field-0-is c.in-Err-BadRecord.ensures.refused in
    rw (← c.self.view_is) (sym (sym (ap (λ (m : Items). take_of m c.args.parcel c.self.inside.standing.n c.self.inside.standing.token) own) ∙ none))
