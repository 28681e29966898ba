use Rattle.std.proofs.Common.{◌∙◌}
use Rattle.pages.specs.Page.{page_digest_in, of_each}
use Rattle.transfer.proofs.need.Need.of_state.Goals as goal

pub returns : goal.returns
returns c =
    let digests = c.new.ensures ∙ (c.in_ok-digests_of.ensures ∙ (λ i. of_each (page_digest_in (c.pages.ensures.laid i) (c.pages.ensures.items i)))) in
    λ i. record { number = c.number.ensures.number i; digests = digests i }
