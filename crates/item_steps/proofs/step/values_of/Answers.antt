use Rattle.std.proofs.Common.{◌≡◌, ◌+◌, arith, ap, sym, ◌∙◌, length, drop}
use Rattle.std.proofs.lemmas.List.{length-append}
use Rattle.item_steps.specs.Steps.{values}
use Rattle.item_steps.proofs.FewLemmas.{few_values}
use Rattle.item_steps.proofs.step.values_of.Goals as goal

pub new-requires : goal.new-requires
new-requires c =
    let later = values c.args.with_unique (drop c.loop-i.i c.args.keys.now) (drop c.loop-i.i c.args.answers.now) in
    let all : length c.loop-i.list.items + length later ≡ length (values c.args.with_unique c.args.keys.now c.args.answers.now) = sym (length-append c.loop-i.list.items later) ∙ ap length c.loop-i.invariant in
    omega (arith, all, few_values c.args.with_unique c.args.keys.now c.args.answers.now, c.requires.few)
