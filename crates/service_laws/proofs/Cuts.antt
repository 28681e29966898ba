-- All connections have one order, of which each moment is a cut.
use Rattle.std.proofs.Common.{◌≡◌, ⊎_elim, ℕ, ◌≤◌, List, [], ◌++◌, map, length, take, Some, sym, ap, ◌∙◌, subst, arith}
use Rattle.std.specs.Prelude.{Contains, slice_get}
use Rattle.std.proofs.lemmas.List.Concat.{flat_map-append}
use Rattle.std.proofs.lemmas.List.Elements.{Contains-append_left}
use Rattle.std.proofs.lemmas.Option.{slice_get_within}
use Rattle.proto.specs.declared.command.Command.{Command}
use Rattle.proto.specs.declared.reply.Reply as replies
use Rattle.memcached_spec.specs.Asked.{IsAsked}
use Rattle.memcached_spec.specs.Fed.{fed_by, fed_to}
use Rattle.memcached_spec.specs.Server.{Line}
use Rattle.memcached_spec.proofs.Longer.{asked_longer}
use Rattle.states.specs.State.{initial_state}
use Rattle.executor.specs.declared.answered.Answered.{Answered}
use Rattle.executor.proofs.RoundLemmas.{get_map}
use Rattle.grammar.specs.Asks.{IsAskedIn}
use Rattle.grammar.proofs.AskLemmas.{asked_stays, same_asked_in, shown_imply}
use Rattle.events.specs.declared.event.Event.{Event}
use Rattle.run_laws.specs.Run.{Executed}
use Rattle.one_server_laws.specs.Laws.{WorldsAreOfOneServer}
use Rattle.one_server_laws.specs.InTime.{WasCut, WorldsAreInTime}
use Rattle.one_server_laws.specs.Run.{IsRun}
use Rattle.one_server_laws.specs.Saved.{IsMet}
use Rattle.connections.specs.Connections.{bytes_in, bytes_of_connection, IsConnections}
use Rattle.connections.specs.History.{Passed, IsHistory, heard_among, given_among, moments_among}
use Rattle.connections.proofs.HistoryLemmas.{heard_both}
use Rattle.connections.proofs.TakeLemmas.{contains_at}
use Rattle.ensemble.specs.declared.noted.Noted.{Noted}
use Rattle.ensemble.specs.Moments.{moments_in}
use Rattle.ensemble.specs.Ensemble.{IsPast}
use Rattle.ensemble.proofs.Moments.{cut_moments}
use Rattle.linear_laws.proofs.Runs.{IsMadeOf, made_of_run}
use Rattle.service.specs.declared.assignment.Assignment.{Assignment}
use Rattle.service.specs.Service.{ServiceView, IsService, HasEnsemble, HasMoments, WasMoment, WasAnsweredBy, assigned_as}
use Rattle.service.proofs.MomentLemmas.{history_of, handed_of}
use Rattle.service_laws.specs.Serving.{IsServing, WasAnsweredFor}
use Rattle.service_laws.specs.Orders.{RanAt, RanInTurn, IsConnectionOrder, AreCuts, IsLinearizableService}
use Rattle.service_laws.proofs.AskedLemmas.{place_of}
use Rattle.service_laws.proofs.ServingLemmas.{is_assignment, is_assigned, for_one, is_served, is_serving}
use Rattle.service_laws.proofs.Past.{RunThere, take_front, in_front, front_or_behind, has_run_in_turn}
use Rattle.service_laws.specs.InTime.{IsInTime}
use Rattle.service_laws.proofs.InTurn.{are_in_turn}
use Rattle.service_laws.proofs.InTime.{asked_in, are_in_time}
use Rattle.service_laws.proofs.ConnectionRuns.{lines_of, lines_begin}
use Rattle.service_laws.proofs.Turns.{IsRunOf, owner, turn_of_request, same_asked, order_of}

-- ---- a run that a longer one begins with

ran_on : (run more : List Executed) (place : ℕ) (a : Assignment) → RanAt run place a → RanAt (run ++ more) place a
ran_on run more place a ran = (ran.0, record { executed = ran.1.executed; there = in_front run more place ran.1.executed ran.1.there; given = ran.1.given }, ran.2, ran.3)

front_in_turn : (run more : List Executed) (xs : List Assignment) → RanInTurn (run ++ more) xs → RanInTurn run xs
front_in_turn run more xs in_turn b place t in_b ran from_one lt =
    let was = in_turn b place t in_b (ran_on run more place b ran) from_one lt in
    let earlier = was.5 in
    let within = slice_get_within run place ran.1.executed ran.1.there in
    let there : slice_get run was.4 ≡ Some was.6.1.executed = ⊎_elim
    (λ (there : slice_get run was.4 ≡ Some was.6.1.executed). there)
    (λ (behind : length run ≤ was.4). absurd (omega (arith, earlier, within, behind)))
    (front_or_behind run more was.4 was.6.1.executed was.6.1.there) in
    (was.0, was.1, was.2, was.3, was.4, earlier, (was.6.0, record { executed = was.6.1.executed; there = there; given = was.6.1.given }, was.6.2, was.6.3))

module _ (v : ServiceView) (talks : IsConnections v.connections) (logs : IsHistory (history_of v.connections)) (ok : IsService v) (over : HasEnsemble v) where
  from_one : (a : Assignment) → Contains v.assignments a → 1 ≤ a.turn
  from_one a i = (is_assignment v talks ok over a i).of_connection.from_one

  module _ (run : List Executed) (is_run : IsRun (IsMet over.world.through.worlds) over.world.events over.world.now run) where
    -- now
    run_of_now : HasMoments v → IsRunOf v.connections.dialect v.connections.heard v.connections.given (moments_among v.connections.passed) v.assignments (IsMet over.world.through.worlds) over.world.events over.world.now run
    run_of_now moments = record {
      is_run = is_run;
      moments = λ r c. handed_of v moments r.batch.moment (subst (λ (o : List ((ℕ × ℕ) × Noted)). Contains (moments_in o) r.batch.moment) over.same_order (cut_moments over.ensemble.order over.world.events over.world.cuts r.batch.moment (is_run.moments r c)));
      once = ok.once;
      for_one = for_one v talks ok over;
      from_one = from_one;
      asks = λ proxy number command was.
          let a = is_assigned v talks ok over proxy number command was in
          let is = is_assignment v talks ok over a.0 a.1 in
          let own : IsAsked (fed_to a.0.proxy over.world.events) a.0.number command = subst (λ (k : ℕ × ℕ). IsAsked (fed_to k.0 over.world.events) k.1 command) (λ i. (sym a.2 i, sym a.3 i)) was in
          let same = same_asked (fed_to a.0.proxy over.world.events) a.0.number is.command command is.of_proxy own in
          (a.0, a.1, a.2, a.3, subst (IsAskedIn v.connections.dialect (bytes_of_connection a.0.connection v.connections.heard) a.0.turn) same is.of_connection);
      served = is_served v talks ok over run is_run;
    }

    -- at an earlier moment
    module _ (early late : List Passed) (split : v.connections.passed ≡ early ++ late) (m : WasMoment v.connections.dialect v.order v.assignments v.answered early late) (y : IsPast over.world.events over.world.through.worlds m.order_then)
        (first more : List Executed) (is_first : IsRun (IsMet over.world.through.worlds) y.before y.now first) (extends : run ≡ first ++ more) where
      -- its bytes are a beginning of those of now
      longer : (c number : ℕ) (command : Command) → IsAskedIn v.connections.dialect (bytes_of_connection c (heard_among early)) number command → IsAskedIn v.connections.dialect (bytes_of_connection c v.connections.heard) number command
      longer c number command is =
          let all : bytes_of_connection c (heard_among early) ++ bytes_of_connection c (heard_among late) ≡ bytes_of_connection c v.connections.heard =
          sym (flat_map-append (bytes_in c) (heard_among early) (heard_among late)) ∙ ap (bytes_of_connection c) (sym (heard_both early late) ∙ (ap heard_among (sym split) ∙ logs.heard)) in
          subst (λ (bytes : List ℕ). IsAskedIn v.connections.dialect bytes number command) all (asked_stays v.connections.dialect (bytes_of_connection c (heard_among early)) (bytes_of_connection c (heard_among late)) number command is)

      fed_longer : (proxy number : ℕ) (command : Command) → IsAsked (fed_to proxy y.before) number command → IsAsked (fed_to proxy over.world.events) number command
      fed_longer proxy number command is =
          subst (λ (bytes : List ℕ). IsAsked bytes number command) (sym (flat_map-append (fed_by proxy) y.before y.after) ∙ ap (fed_to proxy) (sym y.split)) (asked_longer (fed_to proxy y.before) (fed_to proxy y.after) number command is)

      in_all : (a : Assignment) → Contains m.asked_then a → Contains v.assignments a
      in_all a i = subst (λ (xs : List Assignment). Contains xs a) (sym m.split_asked) (Contains-append_left m.asked_then m.asked_later a i)

      -- the command that a proxy's bytes asked by then
      asked_by_then : (proxy number : ℕ) (command : Command) → IsAsked (fed_to proxy y.before) number command → (a : Assignment) × Contains v.assignments a × (a.proxy ≡ proxy) × (a.number ≡ number) × IsAskedIn v.connections.dialect (bytes_of_connection a.connection (heard_among early)) a.turn command
      asked_by_then proxy number command was =
          let key : Contains (map assigned_as m.asked_then) (proxy, number) = subst (λ (keys : List (ℕ × ℕ)). Contains keys (proxy, number)) m.ordered (asked_in m.order_then (proxy, number) (y.asked proxy number command was)) in
          let at = place_of (map assigned_as m.asked_then) (proxy, number) key in
          let a = get_map assigned_as m.asked_then at.0 (proxy, number) at.1 in
          let then = contains_at m.asked_then at.0 a.0 a.1 in
          let its_proxy : a.0.proxy ≡ proxy = sym (ap (λ (k : ℕ × ℕ). k.0) a.2) in
          let its_number : a.0.number ≡ number = sym (ap (λ (k : ℕ × ℕ). k.1) a.2) in
          let is = is_assignment v talks ok over a.0 (in_all a.0 then) in
          let own : IsAsked (fed_to a.0.proxy over.world.events) a.0.number command = subst (λ (k : ℕ × ℕ). IsAsked (fed_to k.0 over.world.events) k.1 command) (λ i. (sym its_proxy i, sym its_number i)) (fed_longer proxy number command was) in
          let of_proxy = same_asked (fed_to a.0.proxy over.world.events) a.0.number is.command command is.of_proxy own in
          let h = m.heard a.0 then in
          let of_connection = same_asked_in v.connections.dialect (bytes_of_connection a.0.connection v.connections.heard) a.0.turn h.0 is.command (longer a.0.connection a.0.turn h.0 h.1) is.of_connection in
          (a.0, in_all a.0 then, its_proxy, its_number, subst (IsAskedIn v.connections.dialect (bytes_of_connection a.0.connection (heard_among early)) a.0.turn) (of_connection ∙ of_proxy) h.1)

      -- a reply that was given by then is of the run by then
      answered_then : (c turn : ℕ) (reply : replies.Reply) → WasAnsweredBy m.asked_then v.answered m.order_then c turn reply → WasAnsweredFor first v.assignments c turn reply
      answered_then c turn reply was =
          let a = was.0 in
          let sent = y.sent a.proxy a.number was.5 in
          let early_one = is_first.replied a.proxy a.number sent.0 sent.1 in
          let late_one = is_run.replied a.proxy a.number reply (over.world.answers ((a.proxy, a.number), reply) (subst (λ (xs : List ((ℕ × ℕ) × replies.Reply)). Contains xs ((a.proxy, a.number), reply)) (sym over.same_answered) was.4)) in
          let there : slice_get run early_one.place ≡ Some early_one.given.executed = ap (λ (r : List Executed). slice_get r early_one.place) extends ∙ in_front first more early_one.place early_one.given.executed early_one.given.there in
          let one = is_run.once early_one.place late_one.place early_one.answered late_one.answered (record { executed = early_one.given.executed; there = there; given = early_one.given.given }) late_one.given (early_one.client_is ∙ sym late_one.client_is) (early_one.number_is ∙ sym late_one.number_is) in
          (a, in_all a was.1, was.2, was.3, record { place = early_one.place; answered = early_one.answered; given = early_one.given; client_is = early_one.client_is; number_is = early_one.number_is; reply_is = ap (λ (x : Answered). x.reply) one.1 ∙ late_one.reply_is })

      run_of_then : IsRunOf v.connections.dialect (heard_among early) (given_among early) (moments_among early) v.assignments (IsMet over.world.through.worlds) y.before y.now first
      run_of_then = record {
        is_run = is_first;
        moments = λ r c. m.moments r.batch.moment (y.moments r.batch.moment (is_first.moments r c));
        once = ok.once;
        for_one = for_one v talks ok over;
        from_one = from_one;
        asks = asked_by_then;
        served = λ c. let g = m.given c in record { taken = g.taken; texts = shown_imply (WasAnsweredBy m.asked_then v.answered m.order_then c) (WasAnsweredFor first v.assignments c) (answered_then c) 1 g.taken (bytes_of_connection c (given_among early)) g.texts; first = g.first };
      }

    module _ (moments : HasMoments v) (in_turn : RanInTurn run v.assignments) (there : RunThere (IsMet over.world.through.worlds) [] over.world.events over.world.through.worlds run) where
      abbrev made : (lines : List Line) × IsMadeOf initial_state run lines
      made = made_of_run initial_state run is_run.follows

      abbrev all_lines : List Line
      all_lines = lines_of (owner v.assignments) (turn_of_request v.assignments) initial_state run made.0 made.1

      cut : (early late : List Passed) → v.connections.passed ≡ early ++ late → (before after : List Line) × (all_lines ≡ before ++ after) × IsConnectionOrder v.connections.dialect (heard_among early) (given_among early) (moments_among early) before
      cut early late split =
          let m = moments early late split in
          let y = over.world.past m.order_then m.later_order (over.same_order ∙ m.split_order) in
          let r = there (length y.before) y.now y.there in
          let front : take (length y.before) over.world.events ≡ y.before = ap (take (length y.before)) y.split ∙ take_front y.before y.after in
          let is : IsRun (IsMet over.world.through.worlds) y.before y.now r.0 = subst (λ (all : List Event). IsRun (IsMet over.world.through.worlds) all y.now r.0) front r.1 in
          let lines = lines_begin (owner v.assignments) (turn_of_request v.assignments) initial_state run r.0 r.2.0 r.2.1 made.0 made.1 in
          let turns : RanInTurn r.0 v.assignments = front_in_turn r.0 r.2.0 v.assignments (subst (λ (all : List Executed). RanInTurn all v.assignments) r.2.1 in_turn) in (
            lines_of (owner v.assignments) (turn_of_request v.assignments) initial_state r.0 lines.0 lines.1,
            lines.2,
            lines.3,
            order_of v.connections.dialect (heard_among early) (given_among early) (moments_among early) v.assignments (IsMet over.world.through.worlds) y.before y.now r.0 (run_of_then early late split m y r.0 r.2.0 is r.2.1) turns lines.0 lines.1,
          )

      has_order : (cut : (r : Executed) → Contains run r → WasCut over.world.events r.batch) → (lines : List Line) × IsConnectionOrder v.connections.dialect v.connections.heard v.connections.given (moments_among v.connections.passed) lines × AreCuts v.connections.dialect v.connections.passed lines × IsInTime v lines
      has_order in_time = (
        all_lines,
        order_of v.connections.dialect v.connections.heard v.connections.given (moments_among v.connections.passed) v.assignments (IsMet over.world.through.worlds) over.world.events over.world.now run (run_of_now moments) in_turn made.0 made.1,
        cut,
        are_in_time v talks ok over moments run (run_of_now moments) in_turn in_time made.0 made.1,
      )

pub linearizable : (v : ServiceView) → IsConnections v.connections → IsHistory (history_of v.connections) → HasMoments v → IsService v → HasEnsemble v → WorldsAreOfOneServer → WorldsAreInTime → IsLinearizableService v
linearizable v talks logs moments ok some_world law in_time =
    let serving : IsServing v = is_serving v talks ok some_world law in
    record {
      serving = serving;
      in_turn = λ over. are_in_turn v talks ok over;
      one_order = λ over distinct.
          let w = over.world in
          let in_turn = are_in_turn v talks ok over in
          let run = has_run_in_turn in_time w.config w.events w.now w.through v.assignments distinct in_turn in
          has_order v talks logs ok over run.0 run.1.is_run moments run.2 run.3 run.1.cut;
    }
