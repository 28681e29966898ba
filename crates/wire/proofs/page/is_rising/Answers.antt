use Rattle.std.proofs.Common.{rules}
use Rattle.std.specs.Ordering.{is_lt}
use Rattle.std.proofs.lemmas.List.Sorted.{answers_always}
use Rattle.std.specs.Cmp.Lexicographic.{nat_list_cmp_total}
use Rattle.items.specs.Map.{by_bytes}
use Rattle.wire.proofs.Sorting.{sorted_answer}
use Rattle.wire.proofs.page.is_rising.Goals as goal

pub returns : goal.returns
returns c =
    sorted_answer nat_list_cmp_total c.args.entries.now c.is_sorted_by.result (c.is_sorted_by.ensures.cases (λ a b. is_lt (by_bytes a.0 b.0)) (answers_always _ _ _ (λ f a r g h. search rules)))
