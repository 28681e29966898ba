use Rattle.std.proofs.Common.{ℕ, ◌+◌, List, ◌∷◌, drop, arith, subst}
use Rattle.std.specs.List.{flat_map}
use Rattle.std.proofs.lemmas.List.{take_all}
use Rattle.items.specs.declared.item.Item.{Item}
use Rattle.wire.specs.Item.{entry_text}
use Rattle.wire.specs.Record.{Puts}
use Rattle.token.specs.Merged.{AreParts, lent}
use Rattle.token.proofs.MergeLemmas.{one-more, one-put}
use Rattle.token.proofs.merged.put_entries.Goals as goal

pub loop-preserved : goal.loop-preserved
loop-preserved g c = λ class whole are len.
    let i = c.loop.counter in
    let so_far = c.loop.invariant class whole are len in
    let more = one-more whole i (omega (arith, c.loop-test.true, len)) in
    let left : AreParts class (more.0 ∷ drop (i + 1) whole) (lent c.loop.left) = subst (λ es. AreParts class es (lent c.loop.left)) more.1 so_far.0 in (
      c.in_ok-put_next.ensures.left class more.0 (drop (i + 1) whole) left,
      one-put g.S.Sink.holds whole i more.0 c.args.sink.now c.loop.sink c.put_next.new.sink more.2 so_far.1 (c.in_ok-put_next.ensures.put class more.0 (drop (i + 1) whole) left),
    )

pub returns : goal.returns
returns g c = λ class whole are len.
    subst (λ (es : List (List ℕ × Item)). Puts g.S.Sink.holds (flat_map entry_text es) c.args.sink.now c.loop.sink) (take_all c.loop.counter whole (omega (arith, c.loop-test.false, len)))
    (c.loop.invariant class whole are len).1
