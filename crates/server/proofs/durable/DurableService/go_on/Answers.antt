use Rattle.std.proofs.Common.{◌≡◌, ◌++◌, List, Option, ℕ, inr, refl, ap, subst, ◌∙◌}
use Rattle.server.specs.Answering.{AnsweringView}
use Rattle.loop_messages.specs.declared.message.Said.{Said}
use Rattle.server.proofs.DurableLemmas.{held_is_handed_out, nothing_leaves}
use Rattle.server.proofs.durable.DurableService.go_on.Goals as goal

pub returns-then-self-clause-saved : goal.returns-then-self-clause-saved
returns-then-self-clause-saved g c =
    held_is_handed_out c.args.seconds c.args.self.now.answering c.hand_out.new.self.answering c.args.self.now.held.items c.hand_out.result.items c.hand_out.new.self.held.items c.hand_out.ensures.answering c.hand_out.ensures.releases

pub returns-in-Err-clause-saved : goal.returns-in-Err-clause-saved
returns-in-Err-clause-saved g c =
    nothing_leaves c.args.seconds c.args.self.now.answering c.args.self.now.answering c.note.new.self.answering c.args.self.now.held.items c.new.result.items c.note.new.self.held.items (inr refl) (ap (λ (a : AnsweringView). a.service) c.note.ensures.answering)
    (ap (λ (l : List Said). l ++ c.note.new.self.answering.said) (ap (λ h. h.items) c.note.ensures.held) ∙ ap (λ (a : AnsweringView). c.args.self.now.held.items ++ a.said) c.note.ensures.answering)
    c.new.ensures.items (λ found may. subst (λ s. g.S.Save.may_find s found) c.note.ensures.saver may)
