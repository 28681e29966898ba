use Rattle.std.proofs.Common.{◌≡◌, ◌+◌, ◌++◌, ◌∷◌, [], length, map, rules, arith, sym, ap, ◌∙◌, append_assoc, append-nil, length-append}
use Rattle.std.specs.List.{range_with_len}
use Rattle.std.proofs.lemmas.List.{map-append, length-map}
use Rattle.std.proofs.lemmas.List.FromFn.{length-map-range_with_len, map-range_with_len_more}
use Rattle.pages.specs.Page.{page_count}
use Rattle.round.specs.Tickets.{maker, made}
use Rattle.round.specs.Sittings.{running_in, dealt, seat_of}
use Rattle.round.proofs.Lists.{at_range, nil_from}
use Rattle.round.proofs.open.seat_callers.Goals as goal

pub new-requires-clause-few : goal.new-requires-clause-few
new-requires-clause-few g c =
    let i = c.loop-running.invariant in
    let steps = ap (λ l. map (λ v. v.items) (c.loop-running.yielded ++ l)) c.in-Some.ensures.steps.0 in
    let all = sym (map-append (λ v. v.items) c.loop-running.yielded _) ∙ sym steps ∙ ap (λ l. map (λ v. v.items) l) i.6 ∙ c.requires.lists in
    let r = at_range (λ caller. map (running_in []) (dealt g.J.Room.callers caller g.J.Room.group)) g.J.Room.callers 0 (map (λ v. v.items) c.loop-running.yielded) c.in-Some.running.items _ all in
    let n : length (map (λ v. v.items) c.loop-running.yielded) ≡ length c.loop-running.yielded = length-map c.loop-running.yielded (λ v. v.items) in
    let low = r.1 in
    omega arith

pub new-requires-clause-has : goal.new-requires-clause-has
new-requires-clause-has g c =
    let i = c.loop-running.invariant in
    let steps = ap (λ l. map (λ v. v.items) (c.loop-running.yielded ++ l)) c.in-Some.ensures.steps.0 in
    let all = sym (map-append (λ v. v.items) c.loop-running.yielded _) ∙ sym steps ∙ ap (λ l. map (λ v. v.items) l) i.6 ∙ c.requires.lists in
    let r = at_range (λ caller. map (running_in []) (dealt g.J.Room.callers caller g.J.Room.group)) g.J.Room.callers 0 (map (λ v. v.items) c.loop-running.yielded) c.in-Some.running.items _ all in
    let n : length (map (λ v. v.items) c.loop-running.yielded) ≡ length c.loop-running.yielded = length-map c.loop-running.yielded (λ v. v.items) in
    let at : 0 + length (map (λ v. v.items) c.loop-running.yielded) ≡ c.len-in-loop-running.result = omega arith in
    r.0 ∙ ap (λ caller. map (running_in []) (dealt g.J.Room.callers caller g.J.Room.group)) at

pub loop-running-preserved : goal.loop-running-preserved
loop-running-preserved g c =
    let i = c.loop-running.invariant in
    let t = c.new_name-token.ensures.master in
    let n = length-append c.loop-running.yielded (c.in-Some.running ∷ []) in
    let next : (page_count + length c.loop-running.yielded) + 1 ≡ page_count + length (c.loop-running.yielded ++ c.in-Some.running ∷ []) = omega arith in
    let count : length c.loop-running.yielded + 1 ≡ length (c.loop-running.yielded ++ c.in-Some.running ∷ []) = omega arith in
    let same : c.len-in-loop-running.result ≡ length c.loop-running.yielded = omega arith in
    let zer : 0 + length c.loop-running.yielded ≡ length c.loop-running.yielded = omega arith in
    let pushed : c.push.new.self.items ≡ c.loop-running.seats.items ++ c.new.result ∷ [] = c.in_ok-push.ensures.items in
    let seat = seat_of g.J.Room.callers g.J.Room.group in (
      search rules,
      search rules,
      t.0 ∙ i.2,
      t.1 ∙ ap (λ m. (made m.0, m.1)) i.3 ∙ ap (λ k. (maker k, [])) next,
      search (rules, n),
      pushed ∙ (λ k. i.5 k ++ (c.new.ensures ∙ ap seat same) k ∷ []) ∙ sym (map-range_with_len_more seat 0 (length c.loop-running.yielded) (length c.loop-running.yielded) zer)
          ∙ ap (λ k. map seat (range_with_len 0 k)) count,
      append_assoc _ (c.in-Some.running ∷ []) _ ∙ ap (λ l. c.loop-running.yielded ++ l) (sym c.in-Some.ensures.steps.0) ∙ i.6,
    )

pub returns-clause-master : goal.returns-clause-master
returns-clause-master g c =
    let i = c.loop-running.invariant in
    let none : c.loop-running.running-iterator.rest.items ≡ [] = nil_from _ (let z = c.in-None.ensures.steps.0 in let ok = c.loop-running.running-iterator.rest.ok in omega arith) in
    let all = sym (append-nil _) ∙ ap (λ l. c.loop-running.yielded ++ l) (sym none) ∙ i.6 in
    let wide : length c.loop-running.yielded ≡ g.J.Room.callers = ap length all ∙ sym (length-map c.args.lists.items (λ v. v.items)) ∙ ap length c.requires.lists
    ∙ length-map-range_with_len (λ caller. map (running_in []) (dealt g.J.Room.callers caller g.J.Room.group)) 0 g.J.Room.callers in
    (i.2, i.3 ∙ ap (λ n. (maker (page_count + n), [])) wide)

pub returns-clause-seats : goal.returns-clause-seats
returns-clause-seats g c =
    let i = c.loop-running.invariant in
    let none : c.loop-running.running-iterator.rest.items ≡ [] = nil_from _ (let z = c.in-None.ensures.steps.0 in let ok = c.loop-running.running-iterator.rest.ok in omega arith) in
    let all = sym (append-nil _) ∙ ap (λ l. c.loop-running.yielded ++ l) (sym none) ∙ i.6 in
    let wide : length c.loop-running.yielded ≡ g.J.Room.callers = ap length all ∙ sym (length-map c.args.lists.items (λ v. v.items)) ∙ ap length c.requires.lists
    ∙ length-map-range_with_len (λ caller. map (running_in []) (dealt g.J.Room.callers caller g.J.Room.group)) 0 g.J.Room.callers in
    i.5 ∙ ap (λ n. map (seat_of g.J.Room.callers g.J.Room.group) (range_with_len 0 n)) wide
