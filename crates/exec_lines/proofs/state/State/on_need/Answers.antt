use Rattle.std.proofs.Common.{sym, ◌∙◌}
use Rattle.exec_lines.proofs.LineLemmas.{need_answered}
use Rattle.exec_lines.proofs.state.State.on_need.Goals as goal

pub returns-clause-done : goal.returns-clause-done
returns-clause-done c = rw (need_answered c.args.id c.args.self.now c.args.from c.args.need.now (sym c.has_more.ensures ∙ c.if-not-has_more.false)) c.send_parcel.ensures
