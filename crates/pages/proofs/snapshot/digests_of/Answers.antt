use Rattle.std.proofs.Common.{[], ◌∙◌, refl, arith}
use Rattle.std.proofs.lemmas.List.{length-set}
use Rattle.std.proofs.lemmas.List.FromFn.{fill_by_all}
use Rattle.pages.specs.Page.{page_digest_in, page_count}
use Rattle.pages.specs.Joined.{joined_pages, items_of}
use Rattle.pages.proofs.StateLemmas.{next-value, digest-at}
use Rattle.pages.proofs.snapshot.digests_of.Goals as goal

pub loop-number-init : goal.loop-number-init
loop-number-init c = (refl, λ layout sealed k l. absurd (omega (arith, l)))

pub loop-number-preserved : goal.loop-number-preserved
loop-number-preserved c = (
  length-set c.loop-number.digests c.loop-number.number c.digest.result ∙ c.loop-number.invariant.0,
  λ layout sealed. next-value (page_digest_in layout (joined_pages (items_of c.args.pages.now.items))) c.loop-number.digests c.loop-number.number c.digest.result
      (omega (arith, c.loop-number-test.true, c.loop-number.invariant.0))
      (c.digest.ensures ∙ digest-at layout c.args.pages.now.items c.loop-number.number c.index.result.now sealed c.loop-number-test.true c.index.ensures)
      (c.loop-number.invariant.1 layout sealed),
)

pub returns : goal.returns
returns c = λ layout sealed.
    fill_by_all (page_digest_in layout (joined_pages (items_of c.args.pages.now.items))) c.loop-number.digests page_count [] c.loop-number.invariant.0
    (λ k l. c.loop-number.invariant.1 layout sealed k (omega (arith, l, c.loop-number-test.false)))
