use Rattle.std.proofs.Common.{◌≡◌, ◌+◌, ◌++◌, take, drop, Some, ap, sym, ◌∙◌, rules, subst, List, ℕ}
use Rattle.proto.specs.Line.{meaning}
use Rattle.proto.specs.Stage.{IsTurnWithin}
use Rattle.proto.specs.declared.line.Line.TheVariants.{Whole, Opens}
use Rattle.proto.proofs.StageLemmas.{whole_gives, within_gives, opens_gives}
use Rattle.proto.proofs.stage.Stage.end_line.Goals as goal

pub returns-in-Whole-clause-gives : goal.returns-in-Whole-clause-gives
returns-in-Whole-clause-gives c =
    let self = c.args.self.now in
    let cut = c.requires.ends in
    let line : c.extend.new.self ≡ self.line ++ take c.args.at c.args.piece.now = c.in_ok-extend.ensures.ok ∙ ap (λ ys. self.line ++ ys) c.split_at.ensures.front in
    let means : meaning (self.line ++ take c.args.at c.args.piece.now) ≡ Whole c.in-Whole.turn = ap meaning (sym (c.as_slice.ensures ∙ line)) ∙ sym c.in_ok-turn.ensures ∙ c.in-Whole.is in
    rw c.clear.ensures (whole_gives self.line self.block self.dropped c.requires.line c.args.piece.now self.size c.args.at c.in-Whole.turn cut.0 cut.1 cut.2 cut.3 means)

pub returns-in-Some-clause-gives : goal.returns-in-Some-clause-gives
returns-in-Some-clause-gives c =
    let self = c.args.self.now in
    let cut = c.requires.ends in
    let line : c.extend.new.self ≡ self.line ++ take c.args.at c.args.piece.now = c.in_ok-extend.ensures.ok ∙ ap (λ ys. self.line ++ ys) c.split_at.ensures.front in
    let means : meaning (self.line ++ take c.args.at c.args.piece.now) ≡ Opens c.in-Opens.header = ap meaning (sym (c.as_slice.ensures ∙ line)) ∙ sym c.in_ok-turn.ensures ∙ c.in-Opens.is in
    let within : IsTurnWithin c.in-Opens.header (drop (c.args.at + 1) c.args.piece.now) (Some c.in-Some.turn) =
    subst (λ (after : List ℕ). IsTurnWithin c.in-Opens.header after (Some c.in-Some.turn)) c.split_at-in-Opens.ensures.back (rw c.in-Some.is at c.in_ok-turn-in-Opens.ensures) in
    rw c.clear-in-Some.ensures (within_gives self.line self.block self.dropped c.requires.line c.args.piece.now self.size c.args.at c.in-Opens.header c.in-Some.turn cut.0 cut.1 cut.2 cut.3 means within)

pub returns-in_ok-extend-in-Opens-clause-gives : goal.returns-in_ok-extend-in-Opens-clause-gives
returns-in_ok-extend-in-Opens-clause-gives c =
    let self = c.args.self.now in
    let cut = c.requires.ends in
    let line : c.extend.new.self ≡ self.line ++ take c.args.at c.args.piece.now = c.in_ok-extend.ensures.ok ∙ ap (λ ys. self.line ++ ys) c.split_at.ensures.front in
    let means : meaning (self.line ++ take c.args.at c.args.piece.now) ≡ Opens c.in-Opens.header = ap meaning (sym (c.as_slice.ensures ∙ line)) ∙ sym c.in_ok-turn.ensures ∙ c.in-Opens.is in
    rw c.reserve.ensures (opens_gives self.line self.block self.dropped c.requires.line c.args.piece.now c.args.at c.in-Opens.header c.extend-in-Opens.new.self cut.0 cut.1 cut.2 cut.3 means
    (c.in_ok-extend-in-Opens.ensures.ok ∙ ap (λ xs. xs ++ c.as_slice-in-Opens.result.now) line ∙ ap (λ xs. (self.line ++ take c.args.at c.args.piece.now) ++ xs) (search rules)))
