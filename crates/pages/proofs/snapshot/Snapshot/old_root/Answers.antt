use Rattle.std.proofs.Common.{refl, ap, ◌∙◌, arith, []}
use Rattle.std.proofs.lemmas.List.{length-set}
use Rattle.std.proofs.lemmas.List.FromFn.{fill_by_all}
use Rattle.token.specs.declared.tree.TheConstants.{OLD_PAGES, OLD_HEIGHT}
use Rattle.token.specs.Digest.{root_of}
use Rattle.pages.specs.Page.{digest_among}
use Rattle.pages.proofs.StateLemmas.{next-value}
use Rattle.pages.proofs.snapshot.Snapshot.old_root.Goals as goal

pub old_digest-requires-clause-fits : goal.old_digest-requires-clause-fits
old_digest-requires-clause-fits c = c.requires.texts c.loop-number.number c.loop-number-test.true

pub loop-number-init : goal.loop-number-init
loop-number-init c = (refl, λ k l. absurd (omega (arith, l)))

pub loop-number-preserved : goal.loop-number-preserved
loop-number-preserved c = (
  length-set c.loop-number.digests c.loop-number.number c.old_digest.result ∙ c.loop-number.invariant.0,
  next-value (digest_among OLD_PAGES c.args.self.now.items) c.loop-number.digests c.loop-number.number c.old_digest.result
      (omega (arith, c.loop-number-test.true, c.loop-number.invariant.0)) c.old_digest.ensures c.loop-number.invariant.1,
)

pub returns : goal.returns
returns c =
    c.root.ensures
    ∙ ap (root_of OLD_HEIGHT) (fill_by_all (digest_among OLD_PAGES c.args.self.now.items) c.loop-number.digests OLD_PAGES [] c.loop-number.invariant.0
    (λ k l. c.loop-number.invariant.1 k (omega (arith, l, c.loop-number-test.false))))
