use Rattle.std.proofs.Common.{◌≡◌, ◌≢◌, ℕ, ◌<◌, ◌+◌, ◌⊎◌, inl, inr, false, List, [], get_or, refl, sym, ap, ◌∙◌, subst, arith}
use Rattle.pages.specs.Group.{AreUnwrittenKept}
use Rattle.pages.proofs.LongLemmas.{same_or_other}
use Rattle.pages.proofs.GroupLemmas.{kept-all}
use Rattle.pages.proofs.groups.Groups.seal_each.Goals as goal

pub loop-group-init : goal.loop-group-init
loop-group-init c = (c.requires, λ g l. absurd (omega (arith, l)), refl)

pub loop-group-preserved : goal.loop-group-preserved
loop-group-preserved c = (c.in_ok-seal_one.ensures.kept, λ g l. by g l (same_or_other g c.loop-group.group), c.in_ok-seal_one.ensures.items ∙ c.loop-group.invariant.2)
  where
    by : (g : ℕ) → g < c.loop-group.group + 1 → (g ≡ c.loop-group.group) ⊎ (g ≢ c.loop-group.group) → get_or c.seal_one.new.written g false ≡ false
    by g l (inl e) = ap (λ (k : ℕ). get_or c.seal_one.new.written k false) e ∙ c.in_ok-seal_one.ensures.done
    by g l (inr other) = c.in_ok-seal_one.ensures.others g other ∙ c.loop-group.invariant.1 g (omega (arith, l, other))

pub returns-clause-kept : goal.returns-clause-kept
returns-clause-kept c =
    subst (λ (t : List (List ℕ)). AreUnwrittenKept c.args.layout c.loop-group.self t []) (sym c.renew_top.ensures)
    (kept-all c.args.layout c.loop-group.self c.loop-group.tree c.loop-group.left c.loop-group.invariant.0 (λ g l. c.loop-group.invariant.1 g (omega (arith, l, c.loop-group-test.false))))

pub returns-clause-items : goal.returns-clause-items
returns-clause-items c = c.loop-group.invariant.2
