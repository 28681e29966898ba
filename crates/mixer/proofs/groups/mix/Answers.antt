use Rattle.std.proofs.Common.{◌≡◌, ℕ, List, [], ◌∷◌, ◌++◌, ◌∙◌, map, sym, ap, arith}
use Rattle.std.specs.List.{zip, range_with_len}
use Rattle.std.proofs.lemmas.List.FromFn.{map-range_with_len_more}
use Rattle.item_steps.specs.declared.group.Task.{Task}
use Rattle.mixer.specs.Groups.{members, numbers_of, tasks_from, group_count, groups_of}
use Rattle.mixer.proofs.PlaceLemmas.{each_place_once}
use Rattle.mixer.proofs.groups.mix.Goals as goal

pub loop-number-preserved : goal.loop-number-preserved
loop-number-preserved c =
    let f : ℕ → List Task = λ number. members number (zip (numbers_of c.args.requests.now) (tasks_from 0 c.args.requests.now)) in
    let n = c.loop-number.number in
    let group : c.in_ok-group_at.field-0 ≡ f n = rw (c.deref-in-loop-number.ensures.value, c.in_ok-numbers.ensures.numbers) at c.in_ok-group_at.ensures in
    c.in_ok-push.ensures.items
    ∙ ap (λ gs. gs ++ c.in_ok-group_at.field-0 ∷ []) c.loop-number.invariant
    ∙ ap (λ g. map f (range_with_len 0 n) ++ g ∷ []) group
    ∙ sym (map-range_with_len_more f 0 n n (omega arith))

pub returns-clause-each_place_once : goal.returns-clause-each_place_once
returns-clause-each_place_once c =
    let f : ℕ → List Task = λ number. members number (zip (numbers_of c.args.requests.now) (tasks_from 0 c.args.requests.now)) in
    let counted : c.group_count-count.result ≡ group_count (numbers_of c.args.requests.now) = rw (c.deref.ensures.value, c.in_ok-numbers.ensures.numbers) at c.group_count-count.ensures in
    let all : c.loop-number.number ≡ group_count (numbers_of c.args.requests.now) = omega arith in
    let same : c.loop-number.groups.items ≡ groups_of c.args.requests.now = c.loop-number.invariant ∙ ap (λ n. map f (range_with_len 0 n)) all in
    rw same (each_place_once c.args.requests.now)
