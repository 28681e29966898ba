use Rattle.std.proofs.Common.{◌≡◌, ◌+◌, ◌≤◌, ◌++◌, refl, sym, ap, ◌∙◌, rules, subst}
use Rattle.proto.specs.declared.block.TheConstants.{MOST_BLOCK_BYTES}
use Rattle.proto.specs.declared.line.TheConstants.{MOST_LINE_BYTES}
use Rattle.proto.specs.Reader.{ReadsTurns}
use Rattle.proto.specs.Stage.{IsStage, staged, reading}
use Rattle.proto.proofs.ReaderLemmas.{closed_keeps, held_within}
use Rattle.proto.proofs.reader.Reader.feed.Goals as goal

pub read_piece-requires : goal.read_piece-requires
read_piece-requires c =
    let same : c.in_ok-stage.stage ≡ c.self.inside.stage = search rules in
    subst IsStage (sym same) c.self.invariant.stage

pub returns-in_err-turns-clause-held : goal.returns-in_err-turns-clause-held
returns-in_err-turns-clause-held c = subst (λ r. r.held ≤ MOST_BLOCK_BYTES + (MOST_LINE_BYTES + 2)) c.self.view_is (held_within c.self.inside.stage c.self.invariant.stage)

pub invariant_of-self-2 : goal.invariant_of-self-2
invariant_of-self-2 c = record {
  whole = refl;
  stage = c.in_ok-turns.ensures.stage;
  keeps_none = λ closed. closed_keeps _ c.in_ok-turns.turns.items _ c.in_ok-turns.ensures.reads closed;
}

pub returns-clause-turns : goal.returns-clause-turns
returns-clause-turns c = λ is_open.
    let same : c.in_ok-stage.stage ≡ c.self.inside.stage = search rules in
    let kept : staged c.in_ok-stage.stage ≡ c.args.self.now.kept = ap staged same ∙ ap (λ r. r.kept) c.self.view_is in
    subst (λ k. ReadsTurns (k ++ c.args.piece.now) c.in_ok-turns.turns.items (reading c.read_piece.new.stage c.in_ok-turns.closed)) kept c.in_ok-turns.ensures.reads
