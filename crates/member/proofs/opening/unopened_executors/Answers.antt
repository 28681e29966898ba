use Rattle.std.proofs.Common.{ℕ, [], ◌∷◌, ◌++◌, sym, ap, ◌∙◌, arith, vec_len, replicate}
use Rattle.std.proofs.lemmas.Grind.{replicate_next}
use Rattle.slots.specs.declared.slot.Slot.TheVariants.{Down}
use Rattle.slots.specs.Slots.{nothing_kept}
use Rattle.hosts.specs.Host.{HostView}
use Rattle.member.proofs.opening.unopened_executors.Goals as goal

pub loop-alloc-preserved : goal.loop-alloc-preserved
loop-alloc-preserved c =
    let x : HostView = record { slot = Down nothing_kept; held = []; sent = [] } in
    record {
      made =
          c.push_reserved.ensures.items
          ∙ ((λ i. c.loop-alloc.invariant.made i ++ c.unopened.ensures i ∷ [])
          ∙ (sym (replicate_next (vec_len c.loop-alloc.hosts) x)
          ∙ ap (λ (k : ℕ). replicate k x) (sym c.push_reserved.ensures.len)));
      most = omega (arith, c.push_reserved.ensures.len, c.loop-alloc-test.true);
      room = omega (arith, c.push_reserved.ensures.capacity, c.loop-alloc.invariant.room);
    }
