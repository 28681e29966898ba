use Rattle.std.proofs.Common.{◌≡◌, ℕ, ◌++◌, List, length, take, true, false, refl, sym, ap, ◌∙◌, subst, rules}
use Rattle.dialect.specs.Stage.{starts_binary, CutsLine}
use Rattle.dialect.specs.declared.stage.Cut.TheVariants.{End, TooLong, Open}
use Rattle.dialect.proofs.StageLemmas.{binary_step, open_step, long_step, end_step, after_line}
use Rattle.dialect.proofs.stage.Stage.step_line.Goals as goal

pub returns-then-starts_binary-clause-runs : goal.returns-then-starts_binary-clause-runs
returns-then-starts_binary-clause-runs c =
    let held = c.args.self.now.held.items in
    let starts : starts_binary c.args.self.now.held.items c.args.piece.now ≡ true =
    ap (λ (ys : List ℕ). starts_binary ys c.args.piece.now) (sym c.as_slice.ensures.value) ∙ sym c.starts_binary.ensures ∙ c.if-starts_binary.true in
    binary_step c.args.self.now.part held c.args.piece.now c.args.turns.now.items c.push.new.self.items c.requires.line starts c.in_ok-push.ensures.items

pub returns-in_ok-extend_from_slice-in-Open-clause-runs : goal.returns-in_ok-extend_from_slice-in-Open-clause-runs
returns-in_ok-extend_from_slice-in-Open-clause-runs c =
    let held = c.args.self.now.held.items in
    let starts : starts_binary c.args.self.now.held.items c.args.piece.now ≡ false =
    ap (λ (ys : List ℕ). starts_binary ys c.args.piece.now) (sym c.as_slice.ensures.value) ∙ sym c.starts_binary.ensures ∙ c.if-starts_binary.false in
    let count : c.len.result ≡ length c.args.self.now.held.items = search rules in
    let cut : CutsLine (length c.args.self.now.held.items) c.args.piece.now Open = subst (λ (n : ℕ). CutsLine n c.args.piece.now Open) count c.in-Open.ensures in
    open_step c.args.self.now.part held c.args.piece.now c.args.turns.now.items c.args.turns.now.items c.extend_from_slice.new.self.items c.requires.line starts cut c.in_ok-extend_from_slice-in-Open.ensures.items refl

pub returns-in_ok-push-in-TooLong-clause-runs : goal.returns-in_ok-push-in-TooLong-clause-runs
returns-in_ok-push-in-TooLong-clause-runs c =
    let held = c.args.self.now.held.items in
    let starts : starts_binary c.args.self.now.held.items c.args.piece.now ≡ false =
    ap (λ (ys : List ℕ). starts_binary ys c.args.piece.now) (sym c.as_slice.ensures.value) ∙ sym c.starts_binary.ensures ∙ c.if-starts_binary.false in
    let count : c.len.result ≡ length c.args.self.now.held.items = search rules in
    let cut : CutsLine (length c.args.self.now.held.items) c.args.piece.now (TooLong c.in-TooLong.n) = subst (λ (n : ℕ). CutsLine n c.args.piece.now (TooLong c.in-TooLong.n)) count c.in-TooLong.ensures in
    long_step c.args.self.now.part held c.args.piece.now c.args.turns.now.items c.push-in-TooLong.new.self.items c.in-TooLong.n c.clear.new.self.items c.requires.line starts cut c.clear.ensures.items c.in_ok-push-in-TooLong.ensures.items

pub returns-in_ok-end_line-in-End-clause-runs : goal.returns-in_ok-end_line-in-End-clause-runs
returns-in_ok-end_line-in-End-clause-runs c =
    let held = c.args.self.now.held.items in
    let starts : starts_binary c.args.self.now.held.items c.args.piece.now ≡ false =
    ap (λ (ys : List ℕ). starts_binary ys c.args.piece.now) (sym c.as_slice.ensures.value) ∙ sym c.starts_binary.ensures ∙ c.if-starts_binary.false in
    let count : c.len.result ≡ length c.args.self.now.held.items = search rules in
    let cut : CutsLine (length c.args.self.now.held.items) c.args.piece.now (End c.in-End.at) = subst (λ (n : ℕ). CutsLine n c.args.piece.now (End c.in-End.at)) count c.in-End.ensures in
    let line : c.extend_from_slice-in-End.new.self.items ≡ held ++ take c.in-End.at c.args.piece.now =
    c.in_ok-extend_from_slice-in-End.ensures.items ∙ ap (λ (ys : List ℕ). c.args.self.now.held.items ++ ys) c.split_at.ensures.front in
    end_step c.args.self.now.part held c.args.piece.now c.args.turns.now.items c.end_line.new.turns.items c.in-End.at c.extend_from_slice-in-End.new.self.items _ c.requires.line starts cut line
    c.in_ok-end_line-in-End.ensures.turns c.in_ok-end_line-in-End.ensures.part

pub returns-in_ok-end_line-in-End-clause-state : goal.returns-in_ok-end_line-in-End-clause-state
returns-in_ok-end_line-in-End-clause-state c = after_line c.extend_from_slice-in-End.new.self.items _ c.in_ok-end_line-in-End.ensures.part
