use Rattle.std.proofs.Common.{◌≡◌, ◌++◌, ◌-◌, [], ◌∷◌, List, ap, sym, ◌∙◌, append_assoc, arith}
use Rattle.std.specs.Prelude.{pos}
use Rattle.row_store.specs.declared.change.RowChange.TheVariants.{Remove}
use Rattle.shelf.specs.WaitingView.{removals}
use Rattle.shelf.proofs.LogLemmas.{removes_next}
use Rattle.shelf.proofs.planning.plan_removes.Goals as goal

pub loop-number-preserved : goal.loop-number-preserved
loop-number-preserved c =
    let first = c.args.first in
    let number = c.loop-number.number in
    c.in_ok-plan_remove.ensures
    ∙ (ap (λ xs. xs ++ Remove 1 (pos number) ∷ []) c.loop-number.invariant
    ∙ (append_assoc c.args.out.now.items (removals first (number - first)) (Remove 1 (pos number) ∷ [])
    ∙ ap (λ xs. c.args.out.now.items ++ xs) (sym (removes_next first number c.loop-number.auto.number))))

pub returns : goal.returns
returns c =
    let count : c.loop-number.number - c.args.first ≡ c.args.end - c.args.first = omega (arith, c.loop-number.auto.number-end c.at_least-number-end.ensures.low, c.loop-number-test.false, c.at_least-number-end.ensures.same) in
    c.loop-number.invariant ∙ ap (λ n. c.args.out.now.items ++ removals c.args.first n) count
