use Rattle.std.proofs.Common.{◌≡◌, ◌≢◌, ℕ, ◌<◌, ◌+◌, ◌⊎◌, inl, inr, [], get_or, sym, ap, ◌∙◌, arith}
use Rattle.pages.specs.Group.{page_in_group}
use Rattle.pages.specs.declared.group.TheConstants.{GROUP_PAGES}
use Rattle.pages.proofs.LongLemmas.{same_or_other}
use Rattle.pages.proofs.TreeLemmas.{digest-in, same-each}
use Rattle.pages.proofs.tree.Tree.renew.Goals as goal

pub loop-group-init : goal.loop-group-init
loop-group-init c = (λ l. absurd (omega (arith, l)), λ g i l m. absurd (omega (arith, l)))

pub loop-group-preserved : goal.loop-group-preserved
loop-group-preserved c = (λ l. c.in_ok-renew_group.ensures.count, λ g i l m. by g i l m (same_or_other g c.loop-group.group))
  where
    by : (g i : ℕ) → g < c.loop-group.group + 1 → i < GROUP_PAGES → (g ≡ c.loop-group.group) ⊎ (g ≢ c.loop-group.group)
        → get_or c.renew_group.new.self (page_in_group g i) [] ≡ get_or c.args.digests.now (page_in_group g i) []
    by g i l m (inl e) =
        ap (λ (k : ℕ). get_or c.renew_group.new.self (page_in_group k i) []) e ∙ c.in_ok-renew_group.ensures.own i m
        ∙ digest-in c.args.digests.now c.of_group.result c.loop-group.group i c.of_group.ensures m ∙ ap (λ (k : ℕ). get_or c.args.digests.now (page_in_group k i) []) (sym e)
    by g i l m (inr other) = c.in_ok-renew_group.ensures.others g i other m ∙ c.loop-group.invariant.1 g i (omega (arith, l, other)) m

pub returns : goal.returns
returns c =
    c.renew_top.ensures ∙ same-each c.loop-group.self c.args.digests.now (c.loop-group.invariant.0 (omega (arith, c.loop-group-test.false))) c.told-digests
    (λ g i l m. c.loop-group.invariant.1 g i (omega (arith, l, c.loop-group-test.false)) m)
