use Rattle.std.proofs.Common.{◌≡◌, ◌<◌, ◌++◌, ◌∷◌, [], length, map, set, Some, rules, arith, sym, ap, ◌∙◌, subst, append_assoc, length-append}
use Rattle.std.proofs.lemmas.List.{map-set, length-map}
use Rattle.std.proofs.lemmas.List.FromFn.{length-map-range_with_len}
use Rattle.std.proofs.lemmas.Option.{slice_get-get_or}
use Rattle.std.proofs.Math.Nat.{mod-lt}
use Rattle.round.specs.Sittings.{running_in, dealt}
use Rattle.round.proofs.Lists.{map_at}
use Rattle.round.proofs.Dealt.{dealt_turn, turn_more}
use Rattle.round.proofs.open.deal.Goals as goal

pub index_mut-requires : goal.index_mut-requires
index_mut-requires c =
    let wide = sym (length-map c.loop-task.lists.items (λ v. v.items)) ∙ ap length c.loop-task.invariant.3 ∙ length-map-range_with_len (λ caller. map (running_in []) (dealt c.args.callers caller c.loop-task.yielded)) 0 c.args.callers in
    let low : c.loop-task.caller < c.args.callers = subst (λ n. n < c.args.callers) (sym c.loop-task.invariant.2) (mod-lt (length c.loop-task.yielded) c.requires) in
    let ok = c.loop-task.lists.ok in
    omega arith

pub loop-task-preserved : goal.loop-task-preserved
loop-task-preserved c =
    let i = c.loop-task.invariant in
    let v = c.index_mut.result.now in
    let wide : length c.loop-task.lists.items ≡ c.args.callers = sym (length-map c.loop-task.lists.items (λ v. v.items)) ∙ ap length i.3 ∙ length-map-range_with_len (λ caller. map (running_in []) (dealt c.args.callers caller c.loop-task.yielded)) 0 c.args.callers in
    let low : c.loop-task.caller < c.args.callers = subst (λ n. n < c.args.callers) (sym i.2) (mod-lt (length c.loop-task.yielded) c.requires) in
    let pushed = c.in_ok-push.ensures.items in
    let there = slice_get-get_or c.loop-task.lists.items c.loop-task.caller v (omega arith) ∙ ap (λ x. Some x) (sym c.index_mut.ensures.value) in
    let list = map_at (λ v. v.items) c.loop-task.lists.items c.loop-task.caller v there in (
      search rules,
      search rules,
      turn_more c.args.callers c.loop-task.caller (length c.loop-task.yielded) _ i.2 (length-append c.loop-task.yielded (c.in-Some.task ∷ [])),
      map-set (λ v. v.items) c.loop-task.lists.items c.loop-task.caller c.push.new.self
          ∙ ap (λ l. set (map (λ v. v.items) c.loop-task.lists.items) c.loop-task.caller l) (pushed ∙ ap (λ r. v.items ++ r ∷ []) c.new.ensures)
          ∙ dealt_turn c.args.callers c.loop-task.yielded c.in-Some.task (map (λ v. v.items) c.loop-task.lists.items) c.loop-task.caller v.items i.3 i.2 list,
      append_assoc _ (c.in-Some.task ∷ []) _ ∙ ap (λ l. c.loop-task.yielded ++ l) (sym c.in-Some.ensures.steps.0) ∙ i.4,
    )
