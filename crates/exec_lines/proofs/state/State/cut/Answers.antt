use Rattle.std.proofs.Common.{◌≡◌, ◌+◌, sym, ap, ◌∙◌, arith, subst}
use Rattle.std.proofs.lemmas.Bool.Decides.{nat_tests}
use Rattle.std.specs.Prelude.{true}
use Rattle.batches.specs.declared.batch.TheConstants.{MOST_REQUESTS}
use Rattle.batches.specs.Cut.{IsCut, taken, left}
use Rattle.states.specs.State.{StateView}
use Rattle.exec_lines.specs.State.{ExecutorState}
use Rattle.exec_lines.specs.Lines.{has_number, after_cut}
use Rattle.exec_lines.proofs.CutLemmas.{cut_is}
use Rattle.exec_lines.proofs.LineLemmas.{cut_leaves}
use Rattle.exec_lines.proofs.state.State.cut.Goals.{In-Ok}
use Rattle.exec_lines.proofs.state.State.cut.Goals as goal

-- there is a number for the batch
has : (c : In-Ok) → has_number c.args.self.now ≡ true
has c = grind (arith, nat_tests, c.if-next_number-gt-GREATEST_NUMBER.false, c.next_number.ensures)

pub returns-clause-batch : goal.returns-clause-batch
returns-clause-batch c =
    let s : ExecutorState = record { known = c.self.inside.known; standing = c.self.inside.standing; chain = c.self.inside.chain; gather = c.self.inside.gather; work = c.self.inside.work } in
    let number : has_number s ≡ true = subst (λ (x : ExecutorState). has_number x ≡ true) (sym c.self.view_is) (has c) in
    let is = subst (λ (t : StateView). IsCut s.standing.epoch (t.number + 1) c.args.moment (taken MOST_REQUESTS t.sessions s.gather) c.in-Ok.batch) c.tip-tip.ensures c.in-Ok.ensures.batch in
    rw (← c.self.view_is) (cut_is s c.args.moment c.in-Ok.batch number is)

pub returns-clause-left : goal.returns-clause-left
returns-clause-left c =
    let s : ExecutorState = record { known = c.self.inside.known; standing = c.self.inside.standing; chain = c.self.inside.chain; gather = c.self.inside.gather; work = c.self.inside.work } in
    let number : has_number s ≡ true = subst (λ (x : ExecutorState). has_number x ≡ true) (sym c.self.view_is) (has c) in
    let is = subst (λ (t : StateView). c.cut.new.gather ≡ left MOST_REQUESTS t.sessions s.gather) c.tip-tip.ensures c.in-Ok.ensures.left in
    cut_leaves s c.cut.new.gather number is ∙ ap after_cut c.self.view_is
