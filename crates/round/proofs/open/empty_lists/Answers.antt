use Rattle.std.proofs.Common.{◌≡◌, ◌+◌, ◌++◌, [], ◌∷◌, map, arith, sym, ap, ◌∙◌}
use Rattle.std.proofs.lemmas.List.{map-append}
use Rattle.std.proofs.lemmas.List.FromFn.{map-range_with_len_more}
use Rattle.round.specs.Sittings.{running_in, dealt}
use Rattle.round.proofs.open.empty_lists.Goals as goal

pub loop-made-preserved : goal.loop-made-preserved
loop-made-preserved c =
    let zer : 0 + c.loop-made.made ≡ c.loop-made.made = omega arith in
    ap (λ l. map (λ v. v.items) l) c.in_ok-push.ensures.items ∙ map-append (λ v. v.items) c.loop-made.lists.items (c.new.result ∷ []) ∙ (λ k. c.loop-made.invariant k ++ c.new.ensures.items k ∷ [])
    ∙ sym (map-range_with_len_more (λ caller. map (running_in []) (dealt c.args.callers caller [])) 0 c.loop-made.made c.loop-made.made zer)
