-- What one process heard and gave, and then another one, is of one service.
use Rattle.std.proofs.Common.{◌≡◌, ◌⊎◌, inl, inr, ⊎_elim, ℕ, suc, ◌+◌, ◌<◌, ◌≤◌, List, [], ◌∷◌, ◌++◌, map, length, Some, slice_get, refl, sym, ap, ◌∙◌, subst, arith, append_assoc}
use Rattle.std.specs.Prelude.{Bool, Contains}
use Rattle.std.proofs.lemmas.List.{append-nil, map-append}
use Rattle.std.proofs.lemmas.List.Elements.{Contains-append_left, Contains-append_right, Contains-append_cases}
use Rattle.proto.specs.declared.command.Command.{Command}
use Rattle.proto.specs.declared.reply.Reply as replies
use Rattle.sessions.specs.declared.request.Request.{Request}
use Rattle.grammar.specs.declared.reader.Dialect.{Dialect}
use Rattle.grammar.specs.Asks.{IsAskedIn}
use Rattle.session.specs.Taken.{SessionOk}
use Rattle.session.proofs.TakenLemmas.{session_implies}
use Rattle.connections.specs.declared.connections.CommandNumber.{CommandNumber}
use Rattle.connections.specs.Connection.{ConnectionView}
use Rattle.connections.specs.Slots.{slot_in}
use Rattle.connections.specs.Connections.{ConnectionsView, bytes_of_connection, WasReplied, IsAnswered, IsHere, IsConnections}
use Rattle.connections.specs.History.{Passed, IsHistory, heard_among, given_among, moments_among}
use Rattle.connections.proofs.HistoryLemmas.{heard_both, given_both, moments_both}
use Rattle.connections.proofs.TakeLemmas.{contains_at}
use Rattle.connections.proofs.TextLemmas.{answered_implies}
use Rattle.ensemble.specs.declared.noted.Noted.TheVariants as noted
use Rattle.ensemble.specs.Moments.{moments_in, latest_of, IsSince}
use Rattle.ensemble.specs.Ensemble.{EnsembleView, IsEnsemble}
use Rattle.ensemble.specs.Process.{ensemble_after}
use Rattle.ensemble.proofs.Moments as of_order
use Rattle.service.specs.declared.assignment.Assignment.{Assignment}
use Rattle.service.specs.Service.{ServiceView, asked_keys, before_ask, asked_as, assigned_as, command_number_of, IsAnsweredEarlier, IsAssigned, IsService, WasAnsweredBy, WasMoment, HasMoments, HasEnsemble}
use Rattle.service.specs.Process.{passed_history, IsWhole, IsServiceAlone, connections_after, service_after}
use Rattle.service.proofs.OrderLemmas.{Order, before_same, asked_below, asked_count}
use Rattle.service.proofs.MomentLemmas.{handed_of, moment_late, moment_stays}
use Rattle.service.proofs.Lists.{below_or_not, get_both, splits, bytes_before, bytes_behind, bytes_of_none, last_behind}

-- ---- the order

keys_both : (early late : Order) → asked_keys (early ++ late) ≡ asked_keys early ++ asked_keys late
keys_both [] late = refl
keys_both ((key, noted.Asked) ∷ early) late = ap (λ (keys : List (ℕ × ℕ)). key ∷ keys) (keys_both early late)
keys_both ((key, noted.Answered) ∷ early) late = keys_both early late
keys_both ((key, noted.Moment) ∷ early) late = keys_both early late

-- what was before a request of the second order
before_later : (early late : Order) (k : ℕ) → before_ask (length (asked_keys early) + k) (early ++ late) ≡ early ++ before_ask k late
before_later [] late k = ap (λ (n : ℕ). before_ask n late) (omega arith)
before_later ((key, noted.Asked) ∷ early) late k =
    let next : suc (length (asked_keys early)) + k ≡ suc (length (asked_keys early) + k) = omega arith in
    ap (λ (n : ℕ). before_ask n ((key, noted.Asked) ∷ (early ++ late))) next ∙ ap (λ (o : Order). (key, noted.Asked) ∷ o) (before_later early late k)
before_later ((key, noted.Answered) ∷ early) late k = ap (λ (o : Order). (key, noted.Answered) ∷ o) (before_later early late k)
before_later ((key, noted.Moment) ∷ early) late k = ap (λ (o : Order). (key, noted.Moment) ∷ o) (before_later early late k)

module _ (b v : ServiceView) (hb : IsWhole b) (own : IsServiceAlone v) (dialect : v.connections.dialect ≡ b.connections.dialect) (from : v.connections.first ≡ b.connections.next) where
  abbrev c1 : ConnectionsView
  c1 = b.connections

  abbrev c2 : ConnectionsView
  c2 = v.connections

  abbrev joined : ConnectionsView
  joined = connections_after c1 c2

  abbrev one : IsConnections c1
  one = hb.connections

  abbrev two : IsConnections c2
  two = own.connections

  -- ---- connections of the first process, and of the second

  early_heard : (number : ℕ) → number < c1.next → bytes_of_connection number joined.heard ≡ bytes_of_connection number c1.heard
  early_heard number less = bytes_before number c1.heard c2.heard (two.none_before number (let f = from in omega (arith, less, f))).0

  early_given : (number : ℕ) → number < c1.next → bytes_of_connection number joined.given ≡ bytes_of_connection number c1.given
  early_given number less = bytes_before number c1.given c2.given (two.none_before number (let f = from in omega (arith, less, f))).1

  late_heard : (number : ℕ) → c1.next ≤ number → bytes_of_connection number joined.heard ≡ bytes_of_connection number c2.heard
  late_heard number more = bytes_behind number c1.heard c2.heard (one.fresh number more).0

  late_given : (number : ℕ) → c1.next ≤ number → bytes_of_connection number joined.given ≡ bytes_of_connection number c2.given
  late_given number more = bytes_behind number c1.given c2.given (one.fresh number more).1

  replied_first : (number turn : ℕ) (reply : replies.Reply) → WasReplied c1.replied number turn reply → WasReplied joined.replied number turn reply
  replied_first number turn reply was = Contains-append_left c1.replied c2.replied (record { connection = number; turn = turn }, reply) was

  replied_second : (number turn : ℕ) (reply : replies.Reply) → WasReplied c2.replied number turn reply → WasReplied joined.replied number turn reply
  replied_second number turn reply was = Contains-append_right c1.replied c2.replied (record { connection = number; turn = turn }, reply) was

  later : (number : ℕ) → c2.first ≤ number → c1.next ≤ number
  later number since = let f = from in omega (arith, since, f)

  taken_of : (e : CommandNumber × Command) → Contains joined.taken e → (Contains c1.taken e × (e.0.connection < c1.next)) ⊎ (Contains c2.taken e × (c1.next ≤ e.0.connection))
  taken_of e inside = ⊎_elim
      (λ (old : Contains c1.taken e). inl (old, one.below e old))
      (λ (new : Contains c2.taken e). inr (new, later e.0.connection (two.since e new)))
      (Contains-append_cases c1.taken c2.taken e inside)

  here : (key : ℕ) (c : ConnectionView) → slot_in c2.table key ≡ Some c → IsHere joined c
  here key c at =
      let h = two.here key c at in
      let since = h.since in
      let n = later c.number since in
      record {
        below = h.below;
        reads = h.reads;
        since = let least = one.least in omega (arith, least, n);
        talks = subst (λ (z : List ℕ × List ℕ). SessionOk c2.dialect (WasReplied joined.replied c.number) z.0 c.session z.1) (λ i. (sym (late_heard c.number n) i, sym (late_given c.number n) i))
            (session_implies c2.dialect (WasReplied c2.replied c.number) (WasReplied joined.replied c.number) (bytes_of_connection c.number c2.heard) c.session (bytes_of_connection c.number c2.given) (replied_second c.number) h.talks);
        counted = λ e inside is. ⊎_elim
            (λ (old : Contains c1.taken e × (e.0.connection < c1.next)). let less = old.1 in absurd (omega (arith, less, is, n)))
            (λ (new : Contains c2.taken e × (c1.next ≤ e.0.connection)). h.counted e new.0 is)
            (taken_of e inside);
      }

  answered : (number : ℕ) → IsAnswered c2.dialect (WasReplied joined.replied number) (bytes_of_connection number joined.heard) (bytes_of_connection number joined.given)
  answered number = ⊎_elim
      (λ (less : number < c1.next). subst (λ (z : Dialect × List ℕ × List ℕ). IsAnswered z.0 (WasReplied joined.replied number) z.1 z.2) (λ i. (sym dialect i, sym (early_heard number less) i, sym (early_given number less) i))
      (answered_implies c1.dialect (WasReplied c1.replied number) (WasReplied joined.replied number) (bytes_of_connection number c1.heard) (bytes_of_connection number c1.given) (replied_first number) (one.answered number)))
      (λ (more : c1.next ≤ number). subst (λ (z : List ℕ × List ℕ). IsAnswered c2.dialect (WasReplied joined.replied number) z.0 z.1) (λ i. (sym (late_heard number more) i, sym (late_given number more) i))
      (answered_implies c2.dialect (WasReplied c2.replied number) (WasReplied joined.replied number) (bytes_of_connection number c2.heard) (bytes_of_connection number c2.given) (replied_second number) (two.answered number)))
      (below_or_not number c1.next)

  asked : (e : CommandNumber × Command) → Contains joined.taken e → IsAskedIn c2.dialect (bytes_of_connection e.0.connection joined.heard) e.0.turn e.1
  asked e inside = ⊎_elim
      (λ (old : Contains c1.taken e × (e.0.connection < c1.next)). subst (λ (z : Dialect × List ℕ). IsAskedIn z.0 z.1 e.0.turn e.1) (λ i. (sym dialect i, sym (early_heard e.0.connection old.1) i)) (one.asked e old.0))
      (λ (new : Contains c2.taken e × (c1.next ≤ e.0.connection)). subst (λ (bytes : List ℕ). IsAskedIn c2.dialect bytes e.0.turn e.1) (sym (late_heard e.0.connection new.1)) (two.asked e new.0))
      (taken_of e inside)

  once : (i j : ℕ) (x y : CommandNumber × Command) → slice_get joined.taken i ≡ Some x → slice_get joined.taken j ≡ Some y → x.0.connection ≡ y.0.connection → x.0.turn ≡ y.0.turn → i ≡ j
  once i j x y at_i at_j same turn = ⊎_elim
      (λ (old : slice_get c1.taken i ≡ Some x). ⊎_elim
      (λ (older : slice_get c1.taken j ≡ Some y). one.once i j x y old older same turn)
      (λ (new : (k : ℕ) × (j ≡ length c1.taken + k) × (slice_get c2.taken k ≡ Some y)).
      let below = one.below x (contains_at c1.taken i x old) in
      let since = later y.0.connection (two.since y (contains_at c2.taken new.0 y new.2)) in
      absurd (omega (arith, below, since, same)))
      (get_both c1.taken c2.taken j y at_j))
      (λ (new : (k : ℕ) × (i ≡ length c1.taken + k) × (slice_get c2.taken k ≡ Some x)). ⊎_elim
      (λ (old : slice_get c1.taken j ≡ Some y).
      let below = one.below y (contains_at c1.taken j y old) in
      let since = later x.0.connection (two.since x (contains_at c2.taken new.0 x new.2)) in
      absurd (omega (arith, below, since, same)))
      (λ (newer : (k : ℕ) × (j ≡ length c1.taken + k) × (slice_get c2.taken k ≡ Some y)).
      new.1 ∙ (ap (λ (k : ℕ). length c1.taken + k) (two.once new.0 newer.0 x y new.2 newer.2 same turn) ∙ sym newer.1))
      (get_both c1.taken c2.taken j y at_j))
      (get_both c1.taken c2.taken i x at_i)

  connections_join : IsConnections joined
  connections_join = record {
    here = here;
    one_key = two.one_key;
    answered = answered;
    fresh = λ number above.
        let least = two.least in
        let n = later number (omega (arith, least, above)) in
        let f = two.fresh number above in
        (late_heard number n ∙ f.0, late_given number n ∙ f.1);
    asked = asked;
    below = λ e inside. ⊎_elim
        (λ (old : Contains c1.taken e × (e.0.connection < c1.next)). let less = old.1 in let f = from in let least = two.least in omega (arith, less, f, least))
        (λ (new : Contains c2.taken e × (c1.next ≤ e.0.connection)). two.below e new.0)
        (taken_of e inside);
    least = let first = one.least in let second = two.least in let f = from in omega (arith, first, second, f);
    none_before = λ number less.
        let least = one.least in
        let early : number < c1.next = omega (arith, less, least) in
        let none = one.none_before number less in
        (early_heard number early ∙ none.0, early_given number early ∙ none.1);
    since = λ e inside. ⊎_elim
        (λ (old : Contains c1.taken e × (e.0.connection < c1.next)). one.since e old.0)
        (λ (new : Contains c2.taken e × (c1.next ≤ e.0.connection)). let n = new.1 in let least = one.least in omega (arith, n, least))
        (taken_of e inside);
    once = once;
  }

  history_join : IsHistory (passed_history joined)
  history_join = record {
    heard = heard_both c1.passed c2.passed ∙ (λ i. hb.history.heard i ++ own.history.heard i);
    given = given_both c1.passed c2.passed ∙ (λ i. hb.history.given i ++ own.history.given i);
  }

  -- ---- what was asked

  abbrev all : ServiceView
  all = service_after b v

  assigned_first : (a : Assignment) → IsAssigned b a → IsAssigned all a
  assigned_first a x = record {
    command = x.command;
    taken = Contains-append_left c1.taken c2.taken (command_number_of a, x.command) x.taken;
    request = x.request;
    quiet = x.quiet;
    asked = Contains-append_left b.asked v.asked (x.request, x.quiet) x.asked;
    of_proxy = x.of_proxy;
    numbered = x.numbered;
    same = x.same;
  }

  assigned_second : (a : Assignment) → IsAssigned v a → IsAssigned all a
  assigned_second a x = record {
    command = x.command;
    taken = Contains-append_right c1.taken c2.taken (command_number_of a, x.command) x.taken;
    request = x.request;
    quiet = x.quiet;
    asked = Contains-append_right b.asked v.asked (x.request, x.quiet) x.asked;
    of_proxy = x.of_proxy;
    numbered = x.numbered;
    same = x.same;
  }

  -- of which process the connection is
  first_below : (a : Assignment) → Contains b.assignments a → a.connection < c1.next
  first_below a inside = let x = hb.service.each a inside in one.below (command_number_of a, x.command) x.taken

  second_since : (a : Assignment) → Contains v.assignments a → c1.next ≤ a.connection
  second_since a inside = let x = own.service.each a inside in later a.connection (two.since (command_number_of a, x.command) x.taken)

  none_else : (r : Request × Bool) → Contains all.asked r → (a : Assignment) × Contains all.assignments a × (a.proxy ≡ r.0.client) × (a.number ≡ r.0.number)
  none_else r inside = ⊎_elim
      (λ (old : Contains b.asked r). let n = hb.service.none_else r old in (n.0, Contains-append_left b.assignments v.assignments n.0 n.1, n.2, n.3))
      (λ (new : Contains v.asked r). let n = own.service.none_else r new in (n.0, Contains-append_right b.assignments v.assignments n.0 n.1, n.2, n.3))
      (Contains-append_cases b.asked v.asked r inside)

  asked_once : (i j : ℕ) (x y : Assignment) → slice_get all.assignments i ≡ Some x → slice_get all.assignments j ≡ Some y → x.connection ≡ y.connection → x.turn ≡ y.turn → i ≡ j
  asked_once i j x y at_i at_j same turn = ⊎_elim
      (λ (old : slice_get b.assignments i ≡ Some x). ⊎_elim
      (λ (older : slice_get b.assignments j ≡ Some y). hb.service.once i j x y old older same turn)
      (λ (new : (k : ℕ) × (j ≡ length b.assignments + k) × (slice_get v.assignments k ≡ Some y)).
      let below = first_below x (contains_at b.assignments i x old) in
      let since = second_since y (contains_at v.assignments new.0 y new.2) in
      absurd (omega (arith, below, since, same)))
      (get_both b.assignments v.assignments j y at_j))
      (λ (new : (k : ℕ) × (i ≡ length b.assignments + k) × (slice_get v.assignments k ≡ Some x)). ⊎_elim
      (λ (old : slice_get b.assignments j ≡ Some y).
      let below = first_below y (contains_at b.assignments j y old) in
      let since = second_since x (contains_at v.assignments new.0 x new.2) in
      absurd (omega (arith, below, since, same)))
      (λ (newer : (k : ℕ) × (j ≡ length b.assignments + k) × (slice_get v.assignments k ≡ Some y)).
      new.1 ∙ (ap (λ (k : ℕ). length b.assignments + k) (own.service.once new.0 newer.0 x y new.2 newer.2 same turn) ∙ sym newer.1))
      (get_both b.assignments v.assignments j y at_j))
      (get_both b.assignments v.assignments i x at_i)

  replied : (e : CommandNumber × replies.Reply) → Contains joined.replied e → (a : Assignment) × Contains all.assignments a × (command_number_of a ≡ e.0) × Contains all.answered ((a.proxy, a.number), e.1) × Contains all.order ((a.proxy, a.number), noted.Answered)
  replied e inside = ⊎_elim
      (λ (old : Contains c1.replied e).
      let r = hb.service.replied e old in
      (r.0, Contains-append_left b.assignments v.assignments r.0 r.1, r.2, Contains-append_left b.answered v.answered ((r.0.proxy, r.0.number), e.1) r.3, Contains-append_left b.order v.order ((r.0.proxy, r.0.number), noted.Answered) r.4))
      (λ (new : Contains c2.replied e).
      let r = own.service.replied e new in
      (r.0, Contains-append_right b.assignments v.assignments r.0 r.1, r.2, Contains-append_right b.answered v.answered ((r.0.proxy, r.0.number), e.1) r.3, Contains-append_right b.order v.order ((r.0.proxy, r.0.number), noted.Answered) r.4))
      (Contains-append_cases c1.replied c2.replied e inside)

  ordered : asked_keys all.order ≡ map assigned_as all.assignments
  ordered = keys_both b.order v.order ∙ ((λ i. hb.service.ordered i ++ own.service.ordered i) ∙ sym (map-append assigned_as b.assignments v.assignments))

  -- a command that was answered before
  earlier_first : (connection turn : ℕ) (order now : Order) → now ≡ order → IsAnsweredEarlier b.assignments connection turn order → IsAnsweredEarlier all.assignments connection turn now
  earlier_first connection turn order now same was = record {
    assignment = was.assignment;
    assigned = Contains-append_left b.assignments v.assignments was.assignment was.assigned;
    of_connection = was.of_connection;
    of_turn = was.of_turn;
    answered = subst (λ (o : Order). Contains o ((was.assignment.proxy, was.assignment.number), noted.Answered)) (sym same) was.answered;
  }

  earlier_second : (connection turn : ℕ) (order now : Order) → now ≡ b.order ++ order → IsAnsweredEarlier v.assignments connection turn order → IsAnsweredEarlier all.assignments connection turn now
  earlier_second connection turn order now same was = record {
    assignment = was.assignment;
    assigned = Contains-append_right b.assignments v.assignments was.assignment was.assigned;
    of_connection = was.of_connection;
    of_turn = was.of_turn;
    answered = subst (λ (o : Order). Contains o ((was.assignment.proxy, was.assignment.number), noted.Answered)) (sym same) (Contains-append_right b.order order ((was.assignment.proxy, was.assignment.number), noted.Answered) was.answered);
  }

  in_turn : (i : ℕ) (a : Assignment) → slice_get all.assignments i ≡ Some a → (turn : ℕ) → 1 ≤ turn → turn < a.turn → IsAnsweredEarlier all.assignments a.connection turn (before_ask i all.order)
  in_turn i a at turn from_one below = ⊎_elim
      (λ (old : slice_get b.assignments i ≡ Some a). earlier_first a.connection turn (before_ask i b.order) (before_ask i all.order) (before_same i b.order v.order (asked_below b hb.service i a old)) (hb.service.in_turn i a old turn from_one below))
      (λ (new : (k : ℕ) × (i ≡ length b.assignments + k) × (slice_get v.assignments k ≡ Some a)).
      let index : i ≡ length (asked_keys b.order) + new.0 = new.1 ∙ ap (λ (n : ℕ). n + new.0) (sym (asked_count b hb.service)) in
      earlier_second a.connection turn (before_ask new.0 v.order) (before_ask i all.order) (ap (λ (n : ℕ). before_ask n all.order) index ∙ before_later b.order v.order new.0) (own.service.in_turn new.0 a new.2 turn from_one below))
      (get_both b.assignments v.assignments i a at)

  service_joins : IsService all
  service_joins = record {
    each = λ a inside. ⊎_elim
        (λ (old : Contains b.assignments a). assigned_first a (hb.service.each a old))
        (λ (new : Contains v.assignments a). assigned_second a (own.service.each a new))
        (Contains-append_cases b.assignments v.assignments a inside);
    none_else = none_else;
    in_order = map-append asked_as b.asked v.asked ∙ ((λ i. hb.service.in_order i ++ own.service.in_order i) ∙ sym (map-append assigned_as b.assignments v.assignments));
    once = asked_once;
    replied = replied;
    ordered = ordered;
    in_turn = in_turn;
    waits = λ a w. Contains-append_right b.assignments v.assignments a (own.service.waits a w);
    in_own_slot = own.service.in_own_slot;
    unreplied = λ a w reply was. ⊎_elim
        (λ (old : Contains c1.replied (record { connection = a.connection; turn = a.turn }, reply)).
        let r = hb.service.replied (record { connection = a.connection; turn = a.turn }, reply) old in
        let same : r.0.connection ≡ a.connection = ap (λ (n : CommandNumber). n.connection) r.2 in
        let below = first_below r.0 r.1 in
        let since = second_since a (own.service.waits a w) in
        absurd (omega (arith, below, since, same)))
        (λ (new : Contains c2.replied (record { connection = a.connection; turn = a.turn }, reply)). own.service.unreplied a w reply new)
        (Contains-append_cases c1.replied c2.replied (record { connection = a.connection; turn = a.turn }, reply) was);
  }

  -- ---- moments

  -- one of the first process
  early_moment : (early rest : List Passed) → c1.passed ≡ early ++ rest → WasMoment c2.dialect all.order all.assignments all.answered early (rest ++ c2.passed)
  early_moment early rest is = subst (λ (d : Dialect). WasMoment d all.order all.assignments all.answered early (rest ++ c2.passed)) (sym dialect)
      (moment_stays c1.dialect b.order v.order b.assignments v.assignments b.answered all.answered early (rest ++ c2.passed) (λ x i. Contains-append_left b.answered v.answered x i)
      (λ moment c. inr (subst (λ (moments : List ℕ). Contains moments moment) (sym (moments_both rest c2.passed)) (Contains-append_right (moments_among rest) (moments_among c2.passed) moment (handed_of v own.moments moment c))))
      (moment_late c1.dialect b.order b.assignments b.answered early rest c2.passed (hb.moments early rest is)))

  module _ (rest late : List Passed) (is : c2.passed ≡ rest ++ late) where
    abbrev second : WasMoment c2.dialect v.order v.assignments v.answered rest late
    second = own.moments rest late is

    abbrev first : WasMoment c1.dialect b.order b.assignments b.answered c1.passed []
    first = hb.moments c1.passed [] (sym (append-nil c1.passed))

    abbrev passed : List Passed
    passed = c1.passed ++ rest

    abbrev asked_then : List Assignment
    asked_then = b.assignments ++ second.asked_then

    abbrev order_then : Order
    order_then = b.order ++ second.order_then

    none_heard : (number : ℕ) → number < c1.next → bytes_of_connection number (heard_among rest) ≡ []
    none_heard number less = bytes_of_none number (heard_among rest) (heard_among late)
        (ap (bytes_of_connection number) (sym (heard_both rest late) ∙ (ap heard_among (sym is) ∙ own.history.heard)) ∙ (two.none_before number (let f = from in omega (arith, less, f))).0)

    none_given : (number : ℕ) → number < c1.next → bytes_of_connection number (given_among rest) ≡ []
    none_given number less = bytes_of_none number (given_among rest) (given_among late)
        (ap (bytes_of_connection number) (sym (given_both rest late) ∙ (ap given_among (sym is) ∙ own.history.given)) ∙ (two.none_before number (let f = from in omega (arith, less, f))).1)

    first_heard : (number : ℕ) → number < c1.next → bytes_of_connection number (heard_among passed) ≡ bytes_of_connection number (heard_among c1.passed)
    first_heard number less = ap (bytes_of_connection number) (heard_both c1.passed rest) ∙ bytes_before number (heard_among c1.passed) (heard_among rest) (none_heard number less)

    first_given : (number : ℕ) → number < c1.next → bytes_of_connection number (given_among passed) ≡ bytes_of_connection number (given_among c1.passed)
    first_given number less = ap (bytes_of_connection number) (given_both c1.passed rest) ∙ bytes_before number (given_among c1.passed) (given_among rest) (none_given number less)

    second_heard : (number : ℕ) → c1.next ≤ number → bytes_of_connection number (heard_among passed) ≡ bytes_of_connection number (heard_among rest)
    second_heard number more = ap (bytes_of_connection number) (heard_both c1.passed rest) ∙ bytes_behind number (heard_among c1.passed) (heard_among rest) (ap (bytes_of_connection number) hb.history.heard ∙ (one.fresh number more).0)

    second_given : (number : ℕ) → c1.next ≤ number → bytes_of_connection number (given_among passed) ≡ bytes_of_connection number (given_among rest)
    second_given number more = ap (bytes_of_connection number) (given_both c1.passed rest) ∙ bytes_behind number (given_among c1.passed) (given_among rest) (ap (bytes_of_connection number) hb.history.given ∙ (one.fresh number more).1)

    -- what was asked in the second process by then
    among_second : (a : Assignment) → Contains second.asked_then a → Contains v.assignments a
    among_second a i = subst (λ (xs : List Assignment). Contains xs a) (sym second.split_asked) (Contains-append_left second.asked_then second.asked_later a i)

    heard_then : (a : Assignment) → Contains asked_then a → (command : Command) × IsAskedIn c2.dialect (bytes_of_connection a.connection (heard_among passed)) a.turn command
    heard_then a inside = ⊎_elim
        (λ (old : Contains b.assignments a).
        let x = hb.service.each a old in
        let less = first_below a old in
        let bytes : bytes_of_connection a.connection (heard_among passed) ≡ bytes_of_connection a.connection c1.heard = first_heard a.connection less ∙ ap (bytes_of_connection a.connection) hb.history.heard in
        (x.command, subst (λ (z : Dialect × List ℕ). IsAskedIn z.0 z.1 a.turn x.command) (λ i. (sym dialect i, sym bytes i)) (one.asked (command_number_of a, x.command) x.taken)))
        (λ (new : Contains second.asked_then a).
        let h = second.heard a new in
        (h.0, subst (λ (bytes : List ℕ). IsAskedIn c2.dialect bytes a.turn h.0) (sym (second_heard a.connection (second_since a (among_second a new)))) h.1))
        (Contains-append_cases b.assignments second.asked_then a inside)

    answered_first : (number turn : ℕ) (reply : replies.Reply) → WasAnsweredBy first.asked_then b.answered first.order_then number turn reply → WasAnsweredBy asked_then all.answered order_then number turn reply
    answered_first number turn reply w =
        let key : ℕ × ℕ = (w.0.proxy, w.0.number) in (
          w.0,
          Contains-append_left b.assignments second.asked_then w.0 (subst (λ (xs : List Assignment). Contains xs w.0) (sym first.split_asked) (Contains-append_left first.asked_then first.asked_later w.0 w.1)),
          w.2,
          w.3,
          Contains-append_left b.answered v.answered (key, reply) w.4,
          Contains-append_left b.order second.order_then (key, noted.Answered) (subst (λ (o : Order). Contains o (key, noted.Answered)) (sym first.split_order) (Contains-append_left first.order_then first.later_order (key, noted.Answered) w.5)),
        )

    answered_second : (number turn : ℕ) (reply : replies.Reply) → WasAnsweredBy second.asked_then v.answered second.order_then number turn reply → WasAnsweredBy asked_then all.answered order_then number turn reply
    answered_second number turn reply w =
        let key : ℕ × ℕ = (w.0.proxy, w.0.number) in
        (w.0, Contains-append_right b.assignments second.asked_then w.0 w.1, w.2, w.3, Contains-append_right b.answered v.answered (key, reply) w.4, Contains-append_right b.order second.order_then (key, noted.Answered) w.5)

    given_then : (number : ℕ) → IsAnswered c2.dialect (WasAnsweredBy asked_then all.answered order_then number) (bytes_of_connection number (heard_among passed)) (bytes_of_connection number (given_among passed))
    given_then number = ⊎_elim
        (λ (less : number < c1.next). subst (λ (z : Dialect × List ℕ × List ℕ). IsAnswered z.0 (WasAnsweredBy asked_then all.answered order_then number) z.1 z.2) (λ i. (sym dialect i, sym (first_heard number less) i, sym (first_given number less) i))
        (answered_implies c1.dialect (WasAnsweredBy first.asked_then b.answered first.order_then number) (WasAnsweredBy asked_then all.answered order_then number) (bytes_of_connection number (heard_among c1.passed)) (bytes_of_connection number (given_among c1.passed)) (answered_first number) (first.given number)))
        (λ (more : c1.next ≤ number). subst (λ (z : List ℕ × List ℕ). IsAnswered c2.dialect (WasAnsweredBy asked_then all.answered order_then number) z.0 z.1) (λ i. (sym (second_heard number more) i, sym (second_given number more) i))
        (answered_implies c2.dialect (WasAnsweredBy second.asked_then v.answered second.order_then number) (WasAnsweredBy asked_then all.answered order_then number) (bytes_of_connection number (heard_among rest)) (bytes_of_connection number (given_among rest)) (answered_second number) (second.given number)))
        (below_or_not number c1.next)

    -- one of the second process
    late_moment : WasMoment c2.dialect all.order all.assignments all.answered passed late
    late_moment = record {
      order_then = order_then;
      later_order = second.later_order;
      split_order = ap (λ (o : Order). b.order ++ o) second.split_order ∙ sym (append_assoc b.order second.order_then second.later_order);
      asked_then = asked_then;
      asked_later = second.asked_later;
      split_asked = ap (λ (xs : List Assignment). b.assignments ++ xs) second.split_asked ∙ sym (append_assoc b.assignments second.asked_then second.asked_later);
      ordered = keys_both b.order second.order_then ∙ ((λ i. hb.service.ordered i ++ second.ordered i) ∙ sym (map-append assigned_as b.assignments second.asked_then));
      heard = heard_then;
      given = given_then;
      moments = λ moment c. subst (λ (moments : List ℕ). Contains moments moment) (sym (moments_both c1.passed rest)) (⊎_elim
          (λ (old : Contains (moments_in b.order) moment). Contains-append_left (moments_among c1.passed) (moments_among rest) moment (handed_of b hb.moments moment old))
          (λ (new : Contains (moments_in second.order_then) moment). Contains-append_right (moments_among c1.passed) (moments_among rest) moment (second.moments moment new))
          (Contains-append_cases (moments_in b.order) (moments_in second.order_then) moment (subst (λ (moments : List ℕ). Contains moments moment) (of_order.moments_both b.order second.order_then) c)));
      later = λ moment c. subst (λ (moments : List ℕ). IsSince moments (moments_among late) moment) (sym (moments_both c1.passed rest)) (⊎_elim
          (λ (last : latest_of (moments_among rest) ≡ Some moment). inl (last_behind (moments_among c1.passed) (moments_among rest) moment last))
          (λ (after : Contains (moments_among late) moment). inr after)
          (second.later moment c));
    }

  moments_join : HasMoments all
  moments_join early late is = ⊎_elim
      (λ (old : (rest : List Passed) × (c1.passed ≡ early ++ rest) × (late ≡ rest ++ c2.passed)). subst (λ (p : List Passed). WasMoment c2.dialect all.order all.assignments all.answered early p) (sym old.2) (early_moment early old.0 old.1))
      (λ (new : (rest : List Passed) × (early ≡ c1.passed ++ rest) × (c2.passed ≡ rest ++ late)). subst (λ (p : List Passed). WasMoment c2.dialect all.order all.assignments all.answered p late) (sym new.1) (late_moment new.0 late new.2))
      (splits c1.passed c2.passed early late is)

  -- ---- all of it

  ensemble_joins : IsEnsemble (ensemble_after b.replicas.ensemble v.replicas.ensemble) → HasEnsemble all
  ensemble_joins world =
      let h = hb.ensemble in
      record {
        ensemble = ensemble_after b.replicas.ensemble v.replicas.ensemble;
        these = refl;
        world = world;
        same_asked = λ i. (sym (ap (λ (e : EnsembleView). e.asked) h.these) ∙ h.same_asked) i ++ own.same_asked i;
        same_answered = λ i. (sym (ap (λ (e : EnsembleView). e.answered) h.these) ∙ h.same_answered) i ++ own.same_answered i;
        same_order = λ i. (sym (ap (λ (e : EnsembleView). e.order) h.these) ∙ h.same_order) i ++ own.same_order i;
      }

  pub joined_whole : IsEnsemble (ensemble_after b.replicas.ensemble v.replicas.ensemble) → IsWhole all
  joined_whole world = record {
    connections = connections_join;
    history = history_join;
    moments = moments_join;
    service = service_joins;
    ensemble = ensemble_joins world;
    remembers = own.remembers;
  }
