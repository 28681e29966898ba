use Rattle.std.proofs.Common.{[], refl, ◌∙◌, subst}
use Rattle.dialect.specs.State.{State, Runs, to}
use Rattle.dialect.specs.Stage.{stage_state}
use Rattle.dialect.proofs.RunLemmas.{runs_by}
use Rattle.dialect.proofs.SpellsLemmas.{read_on}
use Rattle.dialect.proofs.reader.Reader.feed.Goals as goal

pub returns-then-goes_on-clause-spells : goal.returns-then-goes_on-clause-spells
returns-then-goes_on-clause-spells c = λ fed before h.
    read_on fed c.args.piece.now before c.new.result.items c.args.self.now (stage_state c.extend.new.self) h
    (subst (λ (s : State). Runs s c.args.piece.now [] c.new.result.items (stage_state c.extend.new.self)) c.self.view_is
    (runs_by (stage_state c.self.inside.stage) c.args.piece.now [] c.new.result.items (stage_state c.extend.new.self) (to [] (stage_state c.extend.new.self)) c.in_ok-extend.ensures.ok c.new.ensures.items refl))

pub returns-clause-spells : goal.returns-clause-spells
returns-clause-spells c = λ fed before h.
    read_on fed c.args.piece.now before c.in_ok-turns.turns.items c.args.self.now (stage_state c.read_piece.new.stage) h
    (subst (λ (s : State). Runs s c.args.piece.now [] c.in_ok-turns.turns.items (stage_state c.read_piece.new.stage)) (c.in_ok-stage.ensures ∙ c.self.view_is) c.in_ok-turns.ensures.runs)
