use Rattle.std.proofs.Common.{length, refl, sym, ap, ◌∙◌, arith}
use Rattle.std.proofs.lemmas.Bool.{false≢true}
use Rattle.std.specs.Prelude.{◌==◌, nat_le}
use Rattle.std.specs.List.{list_all}
use Rattle.std.specs.FinMap.{entries}
use Rattle.pages.specs.Page.{page_number}
use Rattle.pages.proofs.OldLemmas.{all-from_pages, all-in_part, within-from_test, test-from_within}
use Rattle.pages.proofs.snapshot.Snapshot.has_data_within.Goals as goal

pub returns-then-not-are_within : goal.returns-then-not-are_within
returns-then-not-are_within c = (
  λ no. absurd (false≢true no),
  λ within.
      let all = all-in_part (λ e. nat_le (length e.1.block) c.args.most) (λ e. page_number e.0 == c.loop-number.number) (entries c.args.self.now.items) (test-from_within c.args.most (entries c.args.self.now.items) within) in
      absurd (false≢true (sym c.if-not-are_within.true ∙ c.are_within.ensures ∙ ap (list_all (λ e. nat_le (length e.1.block) c.args.most)) c.sorted_page.ensures.entries ∙ all)),
)

pub returns : goal.returns
returns c = (
  λ yes. within-from_test c.args.most (entries c.args.self.now.items) (all-from_pages (λ e. nat_le (length e.1.block) c.args.most) (entries c.args.self.now.items)
      (λ p l. c.loop-number.invariant p (omega (arith, l, c.loop-number-test.false)))),
  λ within. refl,
)
