use Rattle.std.proofs.Common.{◌≡◌, ◌++◌, drop, length, ap, ◌∙◌}
use Rattle.proto.proofs.StageLemmas.{open_takes, more_takes, on_ok, skipped}
use Rattle.proto.proofs.stage.Stage.extend.Goals as goal

pub returns-in-None-clause-takes : goal.returns-in-None-clause-takes
returns-in-None-clause-takes c =
    let self = c.args.self.now in
    let line = rw c.in-None.is at c.requires.stage in
    let goes_on = rw c.in-None.is at c.requires.goes_on in
    on_ok c.extend.result _ _ (open_takes self.line self.block self.dropped line c.args.piece.now self.size c.extend.new.self goes_on.0 goes_on.1) c.extend.ensures.ok

pub returns-in_ok-extend-in-Some-clause-takes : goal.returns-in_ok-extend-in-Some-clause-takes
returns-in_ok-extend-in-Some-clause-takes c =
    let self = c.args.self.now in
    let inside = rw c.in-Some.is at c.requires.stage in
    let goes_on = rw c.in-Some.is at c.requires.goes_on in
    let block : c.extend-in-Some.new.self ≡ self.block ++ drop (skipped c.in-Some.size self.dropped (length c.args.piece.now)) c.args.piece.now =
    c.in_ok-extend-in-Some.ensures.ok ∙ ap (λ ys. self.block ++ ys) (c.split_at.ensures.back ∙ ap (λ k. drop k c.args.piece.now) c.skip_of-skip.ensures.skip) in
    rw (block, c.skip_of-skip.ensures.skip) (more_takes c.in-Some.size self.line self.block self.dropped inside c.args.piece.now goes_on)
