use Rattle.std.proofs.Common.{◌≡◌, ◌*◌, true, false, sym, ◌∙◌, arith}
use Rattle.std.proofs.lemmas.List.{get_or-replicate}
use Rattle.pages.specs.declared.group.TheConstants.{GROUP_PAGES}
use Rattle.pages.proofs.branch.Nodes.new.Goals as goal

pub renew_above-requires : goal.renew_above-requires
renew_above-requires c = λ k some few left right.
    absurd (let both : true ≡ false = sym (get_or-replicate (2 * GROUP_PAGES) (2 * k) true false (omega (arith, few))) ∙ left in cc)
