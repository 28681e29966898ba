use Rattle.std.proofs.Common.{◌≡◌, ◌∙◌, ◌++◌, ◌∷◌, [], ap, arith, length-append, take}
use Rattle.std.specs.List.{zip}
use Rattle.mixer.specs.Groups.{commands_of, number_after}
use Rattle.mixer.proofs.GroupLemmas.{numbers_more, below_next}
use Rattle.mixer.proofs.groups.group_numbers.Goals as goal

pub loop-i-preserved : goal.loop-i-preserved
loop-i-preserved c =
    let rs = c.args.requests.now in
    let ns = c.loop-i.numbers.items in
    let n = c.number_after.result in
    let i = c.loop-i.i in
    let items : c.push.new.self.items ≡ ns ++ n ∷ [] = c.in_ok-push.ensures.items in
    let number = rw c.deref.ensures.value at c.number_after.ensures.number ∙ ap (λ r. number_after (zip (commands_of (take i rs)) ns) r.command) c.index-requests-i.is in
    let small = rw c.deref.ensures.value at c.number_after.ensures.small in (
      rw items (rw length-append (omega arith)),
      rw items (below_next i n ns c.loop-i.invariant.1 (omega arith)),
      rw items (numbers_more rs ns _ i n c.index-requests-i.result (omega arith) c.loop-i.invariant.0 c.loop-i.invariant.2 number),
    )
