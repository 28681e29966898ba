use Rattle.std.proofs.Common.{◌≡◌, List, ℕ, true, All, ap, sym, subst, ◌∙◌, arith}
use Rattle.std.proofs.lemmas.List.{take_all}
use Rattle.pages.specs.Page.{page_number}
use Rattle.pages.specs.Others.{has_page}
use Rattle.pages.proofs.OtherLemmas.{added-within, keys-next}
use Rattle.pages.proofs.page_set.PageSet.add_keys.Goals as goal

pub loop-key-preserved : goal.loop-key-preserved
loop-key-preserved c =
    let more = added-within c.loop-key.self c.add.new.self c.page_of.result c.add.ensures.has c.add.ensures.others in
    let own : has_page c.add.new.self (page_number c.key-item.result) ≡ true = ap (has_page c.add.new.self) (sym c.page_of.ensures.number) ∙ c.add.ensures.has in
    record {
      has = keys-next c.loop-key.self c.add.new.self c.args.keys.now c.loop-key.key-index c.key-item.result c.loop-key-test.true c.key-item.is c.loop-key.invariant.has more own;
      within = λ p there. more p (c.loop-key.invariant.within p there);
    }

pub returns-clause-has : goal.returns-clause-has
returns-clause-has c =
    subst (λ (keys : List (List ℕ)). All (λ key. has_page c.loop-key.self (page_number key) ≡ true) keys) (take_all c.loop-key.key-index c.args.keys.now (omega (arith, c.loop-key-test.false))) c.loop-key.invariant.has
