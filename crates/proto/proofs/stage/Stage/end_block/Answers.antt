use Rattle.std.proofs.Common.{◌≡◌, ◌++◌, ◌<◌, ◌+◌, ◌-◌, ◌≤◌, take, drop, length, ap, sym, ◌∙◌, subst, arith}
use Rattle.proto.specs.Line.{meaning}
use Rattle.proto.specs.Stage.{OpensBlock}
use Rattle.proto.specs.declared.line.Line.TheVariants.{Opens}
use Rattle.proto.proofs.StageLemmas.{done_gives, opens_block, some_line, skipped}
use Rattle.proto.proofs.stage.Stage.end_block.Goals as goal

pub header_of-requires : goal.header_of-requires
header_of-requires c =
    let self = c.args.self.now in
    record {
      some = subst (λ line. 0 < length line) (sym c.as_slice.ensures) (some_line c.args.size self.line self.block self.dropped c.requires.inside);
      opens = subst (λ line. OpensBlock (meaning (take (length line - 1) line))) (sym c.as_slice.ensures) (opens_block c.args.size self.line self.block self.dropped c.requires.inside);
    }

pub returns-clause-gives : goal.returns-clause-gives
returns-clause-gives c =
    let self = c.args.self.now in
    let n = c.args.size + 2 - c.args.self.now.dropped - c.len.result in
    let inside = c.requires.inside.2 in
    let small : c.args.self.now.dropped + length c.args.self.now.block < c.args.size + 2 = subst (λ size. c.args.self.now.dropped + length c.args.self.now.block < size + 2) c.requires.inside.1 inside.partial in
    let exact : c.args.self.now.dropped + length c.args.self.now.block + (c.args.size + 2 - c.args.self.now.dropped - c.len.result) ≡ c.args.size + 2 =
    omega (arith, c.len.ensures, small) in
    let there : c.args.size + 2 - c.args.self.now.dropped - c.len.result ≤ length c.args.piece.now = omega (arith, c.len.ensures, c.requires.ends) in
    let some : 0 < c.args.size + 2 - c.args.self.now.dropped - c.len.result = omega (arith, c.len.ensures, small) in
    let held : c.replace-held.result ≡ self.block ++ drop (skipped c.args.size self.dropped n) (take n c.args.piece.now) =
    c.replace-held.ensures.value ∙ c.in_ok-extend.ensures.ok
    ∙ ap (λ ys. self.block ++ ys) (c.split_at-2.ensures.back ∙ ap (drop c.skip_of-skip.result) c.split_at.ensures.front ∙ ap (λ k. drop k (take n c.args.piece.now)) c.skip_of-skip.ensures.skip) in
    let read : Opens c.in_ok-header.header ≡ meaning (take (length self.line - 1) self.line) =
    c.in_ok-header.ensures ∙ ap (λ line. meaning (take (length line - 1) line)) c.as_slice.ensures in
    let empty = c.replace-held.ensures.after ∙ c.new.ensures in
    let gives = done_gives c.args.size self.line self.block self.dropped c.requires.inside c.args.piece.now n there c.in_ok-header.header c.in_ok-turn.turn c.replace-held.result read some exact held c.in_ok-turn.ensures in
    (gives.0, gives.1, gives.2, rw (c.clear.ensures, empty) gives.3)
