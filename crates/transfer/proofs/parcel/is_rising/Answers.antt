use Rattle.std.proofs.Common.{rules}
use Rattle.std.specs.Ordering.{nat_cmp, is_lt}
use Rattle.std.specs.Cmp.{nat_cmp_total}
use Rattle.std.proofs.lemmas.List.Sorted.{answers_always}
use Rattle.wire.proofs.Sorting.{sorted_answer}
use Rattle.transfer.proofs.parcel.is_rising.Goals as goal

pub returns : goal.returns
returns c =
    sorted_answer nat_cmp_total c.args.pages.now c.is_sorted_by.result (c.is_sorted_by.ensures.cases (λ a b. is_lt (nat_cmp a.0 b.0)) (answers_always _ _ _ (λ f a r g h. search rules)))
