-- Each batch of the order is in time.
use Rattle.std.proofs.Common.{◌≡◌, ◌⊎◌, ⊎_elim, ℕ, suc, inl, inr, Bool, true, false, List, [], ◌∷◌, ◌++◌, map, length, take, Some, refl, sym, ap, ◌∙◌, subst, arith, append_assoc}
use Rattle.std.specs.Prelude.{Contains, slice_get, flat_map, ◌==◌, if◌then◌else◌}
use Rattle.std.proofs.lemmas.Bool.{eq-eqb}
use Rattle.std.proofs.lemmas.List.Elements.{Contains-append_left, Contains-append_right}
use Rattle.std.proofs.lemmas.List.{append-nil}
use Rattle.proto.specs.declared.command.Command.{Command}
use Rattle.item_steps.specs.declared.step.Step.{Step}
use Rattle.item_steps.specs.Steps.{steps}
use Rattle.sessions.specs.declared.request.Request.{Request}
use Rattle.sessions.specs.Fresh.{next_number}
use Rattle.batches.specs.declared.batch.Batch.{Batch}
use Rattle.states.specs.State.{StateView, initial_state}
use Rattle.states.specs.Followed.{moment_of}
use Rattle.executor.proofs.RoundLemmas.{get_map}
use Rattle.grammar.specs.declared.turn.Turn.{Turn}
use Rattle.grammar.specs.Asks.{SpellsIn, commands_in, IsAskedIn}
use Rattle.grammar.proofs.ReadLemmas.{some_spelled}
use Rattle.memcached_spec.specs.Server.{Line, Made, Tick, Do, made_for}
use Rattle.run_laws.specs.Run.{Executed, IsOver, IsRunFrom}
use Rattle.run_laws.proofs.Elements.{in_head, in_tail, in_none, first_or_other}
use Rattle.run_laws.proofs.Replies.{runs_next}
use Rattle.one_server_laws.specs.Saved.{IsMet}
use Rattle.one_server_laws.specs.InTime.{WasCut}
use Rattle.connections.specs.Connections.{bytes_of_connection, IsConnections}
use Rattle.connections.specs.History.{heard_among, moments_among}
use Rattle.connections.proofs.TakeLemmas.{contains_at}
use Rattle.ensemble.specs.declared.noted.Noted.{Noted}
use Rattle.ensemble.specs.declared.noted.Noted.TheVariants as noted
use Rattle.ensemble.specs.Moments.{moments_in, IsNow}
use Rattle.ensemble.proofs.Moments.{moments_both, moment_longer, now_after, cut_place, two_splits}
use Rattle.service.specs.declared.assignment.Assignment.{Assignment}
use Rattle.service.specs.Service.{ServiceView, IsService, HasEnsemble, HasMoments, asked_keys, assigned_as}
use Rattle.linear_laws.proofs.Rounds.{RoundMade, steps_made, runner_in}
use Rattle.linear_laws.proofs.Runs.{IsMadeOf, steps_made-append, steps_next}
use Rattle.linear_laws.proofs.InTime.{did_step}
use Rattle.service_laws.specs.Orders.{RanInTurn}
use Rattle.service_laws.specs.InTime.{IsTimely, IsStepInTime, IsBatchInTime, FollowInTime, IsInTime}
use Rattle.service_laws.proofs.AskedLemmas.{place_of}
use Rattle.service_laws.proofs.ServingLemmas.{for_one}
use Rattle.service_laws.proofs.Renamed.{renamed_line}
use Rattle.service_laws.proofs.ConnectionRuns.{owner_in, AreInTurn, line_ran, one_steps, none_steps, max_is, lines_of}
use Rattle.service_laws.proofs.Turns.{IsRunOf, owner, turn_of_request, at_seam, carried, owner_is, turn_is, are_in_turn}

-- ---- lists

abbrev Order : Type 0
Order = List ((ℕ × ℕ) × Noted)

pub asked_in : (order : List ((ℕ × ℕ) × Noted)) (key : ℕ × ℕ) → Contains order (key, noted.Asked) → Contains (asked_keys order) key
asked_in [] key c = absurd (in_none (key, noted.Asked) c)
asked_in ((k, noted.Answered) ∷ order) key c = ⊎_elim
    (λ (same : ◌≡◌ {A = (ℕ × ℕ) × Noted} (k, noted.Answered) (key, noted.Asked)). absurd (let kinds : noted.Answered ≡ noted.Asked = ap (λ (x : (ℕ × ℕ) × Noted). x.1) same in cc kinds))
    (λ (later : Contains order (key, noted.Asked)). asked_in order key later)
    (first_or_other (k, noted.Answered) (key, noted.Asked) order c)
asked_in ((k, noted.Moment) ∷ order) key c = ⊎_elim
    (λ (same : ◌≡◌ {A = (ℕ × ℕ) × Noted} (k, noted.Moment) (key, noted.Asked)). absurd (let kinds : noted.Moment ≡ noted.Asked = ap (λ (x : (ℕ × ℕ) × Noted). x.1) same in cc kinds))
    (λ (later : Contains order (key, noted.Asked)). asked_in order key later)
    (first_or_other (k, noted.Moment) (key, noted.Asked) order c)
asked_in ((k, noted.Asked) ∷ order) key c = ⊎_elim
    (λ (same : ◌≡◌ {A = (ℕ × ℕ) × Noted} (k, noted.Asked) (key, noted.Asked)). subst (Contains (k ∷ asked_keys order)) (ap (λ (x : (ℕ × ℕ) × Noted). x.0) same) (in_head k (asked_keys order)))
    (λ (later : Contains order (key, noted.Asked)). in_tail k key (asked_keys order) (asked_in order key later))
    (first_or_other (k, noted.Asked) (key, noted.Asked) order c)

in_map : {X Y : Type 0} (f : X → Y) (xs : List X) (y : Y) → Contains (map f xs) y → (x : X) × Contains xs x × (f x ≡ y)
in_map f [] y c = absurd (in_none y c)
in_map f (x ∷ xs) y c = elim (first_or_other (f x) y (map f xs) c) [
  | inl same ↦ (x, in_head x xs, same)
  | inr later ↦ let there = in_map f xs y later in (there.0, in_tail x there.0 xs there.1, there.2)
]

module _ (v : ServiceView) (talks : IsConnections v.connections) (ok : IsService v) (over : HasEnsemble v) (moments : HasMoments v) where
  -- ---- one batch

  -- a batch that was cut when the command had been asked
  timely_of : (a : Assignment) → Contains v.assignments a → (b : Batch) → WasCut over.world.events b → (q : Request) → Contains b.requests q → q.client ≡ a.proxy → q.number ≡ a.number → IsTimely v.connections.dialect v.connections.passed a.connection a.turn b.moment
  timely_of a in_a b cut q in_q client number early late split not_asked =
      let m = moments early late split in
      let c = over.world.cuts cut.before cut.after cut.executor b.moment cut.split in
      let key : ℕ × ℕ = (a.proxy, a.number) in
      let ask : (ℕ × ℕ) × Noted = (key, noted.Asked) in
      let there : Contains c.early ask = subst (λ (k : ℕ × ℕ). Contains c.early (k, noted.Asked)) (λ i. (client i, number i)) (c.asked q.client q.number q.command (cut.asked q in_q)) in
      let place = cut_place c.early ask there in
      let behind : Order = place.1 ++ c.late in
      let order_is : v.order ≡ place.0 ++ ask ∷ behind = sym over.same_order ∙ (c.split ∙ (ap (λ (o : Order). o ++ c.late) place.2 ∙ append_assoc place.0 (ask ∷ place.1) c.late)) in
      let then_noted : Contains (moments_in place.1) b.moment = now_after place.0 place.1 key b.moment (subst (λ (o : Order). IsNow o b.moment) place.2 c.now) in
      ⊎_elim
      (λ (old : (mid : Order) × (m.order_then ≡ place.0 ++ ask ∷ mid)).
      let inside : Contains m.order_then ask = subst (λ (o : Order). Contains o ask) (sym old.1) (Contains-append_right place.0 (ask ∷ old.0) ask (in_head ask old.0)) in
      let keys : Contains (map assigned_as m.asked_then) key = subst (λ (ks : List (ℕ × ℕ)). Contains ks key) m.ordered (asked_in m.order_then key inside) in
      let at = place_of (map assigned_as m.asked_then) key keys in
      let d = get_map assigned_as m.asked_then at.0 key at.1 in
      let asked_so = contains_at m.asked_then at.0 d.0 d.1 in
      let in_all : Contains v.assignments d.0 = subst (λ (xs : List Assignment). Contains xs d.0) (sym m.split_asked) (in_front_of m.asked_then m.asked_later d.0 asked_so) in
      let at_d = place_of v.assignments d.0 in_all in
      let at_a = place_of v.assignments a in_a in
      let same_place = for_one v talks ok over at_d.0 at_a.0 d.0 a at_d.1 at_a.1 (sym (ap (λ (k : ℕ × ℕ). k.0) d.2)) (sym (ap (λ (k : ℕ × ℕ). k.1) d.2)) in
      let same : d.0 ≡ a = some_same (sym at_d.1 ∙ (ap (slice_get v.assignments) same_place ∙ at_a.1)) in
      let h = m.heard d.0 asked_so in
      absurd (not_asked h.0 (subst (λ (x : Assignment). IsAskedIn v.connections.dialect (bytes_of_connection x.connection (heard_among early)) x.turn h.0) same h.1)))
      (λ (new : (mid : Order) × (place.0 ≡ m.order_then ++ mid) × (m.later_order ≡ mid ++ ask ∷ behind)).
      let later : Contains (moments_in m.later_order) b.moment = subst (λ (ms : List ℕ). Contains ms b.moment) (sym (ap moments_in new.2 ∙ moments_both new.0 (ask ∷ behind))) (Contains-append_right (moments_in new.0) (moments_in behind) b.moment (moment_longer place.1 c.late b.moment then_noted)) in
      m.later b.moment later)
      (two_splits m.order_then m.later_order place.0 ask behind (sym m.split_order ∙ order_is))
    where
      some_same : {x y : Assignment} → Some x ≡ Some y → x ≡ y
      some_same e = cc e

      in_front_of : (xs ys : List Assignment) (x : Assignment) → Contains xs x → Contains (xs ++ ys) x
      in_front_of xs ys x i = Contains-append_left xs ys x i

  -- ---- all of them

  module _ (run : List Executed) (serves : IsRunOf v.connections.dialect v.connections.heard v.connections.given (moments_among v.connections.passed) v.assignments (IsMet over.world.through.worlds) over.world.events over.world.now run) (in_turn : RanInTurn run v.assignments)
      (cut : (r : Executed) → Contains run r → WasCut over.world.events r.batch) where
    abbrev its_owner : ℕ → ℕ → ℕ
    its_owner = owner v.assignments

    abbrev renamed : StateView → Line → Line
    renamed s = renamed_line (owner_in its_owner s)

    abbrev its_turn : ℕ → ℕ → ℕ
    its_turn = turn_of_request v.assignments

    -- the turns that the connection's bytes spell
    abbrev spelled : (c : ℕ) → (turns : List Turn) × SpellsIn v.connections.dialect (bytes_of_connection c v.connections.heard) turns
    spelled c = some_spelled v.connections.dialect (bytes_of_connection c v.connections.heard)

    abbrev commands_of : ℕ → List Command
    commands_of c = commands_in (spelled c).0

    -- so many of the connection's commands were executed in these lines, and the rest of the run executes the others in turn
    record IsAt (c : ℕ) (s : StateView) (later : List Executed) (lines : List Line) (made : IsMadeOf s later lines) (earlier : List Line) : Type 0 where
      count : ℕ
      executed : steps_made c earlier ≡ flat_map steps (take count (commands_of c))
      others : AreInTurn its_owner its_turn c (commands_of c) s later lines made count

    module _ (s : StateView) (e : Executed) (is_over : IsOver s e) (later : List Executed) (lines : List Line) (made : IsMadeOf s (e ∷ later) lines) (earlier : List Line) where
      -- after the round one command more was executed, or none
      next_at : (c : ℕ) → IsAt c s (e ∷ later) lines made earlier → IsAt c e.new later made.1 made.4 (earlier ++ map (renamed s) made.0)
      next_at c at = elim at.others [
        | inl (one, others) ↦ record {
          count = suc at.count;
          executed = steps_made-append c earlier (map (renamed s) made.0) ∙ ((λ i. at.executed i ++ one_steps s e is_over made.0 made.3 its_owner its_turn c (commands_of c) at.count one i) ∙ steps_next (commands_of c) at.count one.ran.runner.1.command one.command_is);
          others = others;
        }
        | inr (none, others) ↦ record {
          count = at.count;
          executed = steps_made-append c earlier (map (renamed s) made.0) ∙ ((λ i. at.executed i ++ none_steps s e is_over made.0 made.3 its_owner its_turn c (commands_of c) at.count none i) ∙ append-nil (flat_map steps (take at.count (commands_of c))));
          others = others;
        }
      ]

      module _ (here : (c : ℕ) → IsAt c s (e ∷ later) lines made earlier) (place : ℕ) (there : slice_get run place ≡ Some e) where
        step_in_time : (d : Made) → Contains made.0 (Do d) → IsStepInTime v e.batch.moment earlier (renamed s (Do d))
        step_in_time d i =
            let one = line_ran s e is_over made.0 made.3 d i in
            let w = carried v.connections.dialect v.connections.heard v.connections.given (moments_among v.connections.passed) v.assignments (IsMet over.world.through.worlds) over.world.events over.world.now run serves in_turn s e made.0 place d.client one there in
            let q = one.runner.1 in
            let own : ℕ = owner_in its_owner s d.client in
            let conn : w.a.connection ≡ own =
            sym (owner_is v.connections.dialect v.connections.heard v.connections.given (moments_among v.connections.passed) v.assignments (IsMet over.world.through.worlds) over.world.events over.world.now run serves in_turn w.a w.there) ∙ (λ j. its_owner (w.proxy j) (w.number j)) in
            let its_number : q.number ≡ next_number s.sessions d.client = runs_next s.sessions [] e.batch.requests one.runner one.runs ∙ ap (next_number s.sessions) one.client in
            let at = here own in
            let turn_here : w.a.turn ≡ its_turn d.client (next_number s.sessions d.client) =
            sym (turn_is v.connections.dialect v.connections.heard v.connections.given (moments_among v.connections.passed) v.assignments (IsMet over.world.through.worlds) over.world.events over.world.now run serves in_turn w.a w.there) ∙ (λ j. its_turn (w.proxy j) (w.number j)) in
            let next : its_turn d.client (next_number s.sessions d.client) ≡ suc at.count = elim at.others [
              | inl (o, others) ↦ let same : d.client ≡ o.proxy = o.only d.client one refl in ap (λ (p : ℕ). its_turn p (next_number s.sessions p)) same ∙ o.its_turn
              | inr (none, others) ↦ absurd (none d.client one refl)
            ] in
            record {
              made = record d { client = own };
              is = refl;
              turn = w.a.turn;
              command = q.command;
              asked = subst (λ (c : ℕ). IsAskedIn v.connections.dialect (bytes_of_connection c v.connections.heard) w.a.turn q.command) conn w.asks;
              step = subst (λ (ss : List Step). Contains ss d.step) one.made (did_step made.0 d i);
              executed = record { turns = (spelled own).0; spells = (spelled own).1; count = at.count; made = at.executed };
              next = turn_here ∙ next;
              timely = subst (λ (c : ℕ). IsTimely v.connections.dialect v.connections.passed c w.a.turn e.batch.moment) conn
                  (timely_of w.a w.there e.batch (cut e (contains_at run place e there)) q (runner_in s e.batch one.runner one.runs) (one.client ∙ sym w.proxy) (its_number ∙ sym w.number));
            }

        of_line : (l : Line) → Contains made.3.rest l → IsStepInTime v e.batch.moment earlier (renamed s l)
        of_line (Tick m) c = absurd (made.3.no_tick m c)
        of_line (Do d) c = step_in_time d (subst (λ (ls : List Line). Contains ls (Do d)) (sym made.3.begins) (in_tail (Tick (moment_of s e.batch)) (Do d) made.3.rest c))

        one_batch : IsBatchInTime v earlier (map (renamed s) made.0)
        one_batch = record {
          moment = e.batch.moment;
          now = moment_of s e.batch;
          late = elim (max_is e.batch.moment s.moment) [
            | inl is ↦ omega (arith, is)
            | inr (is, le) ↦ omega (arith, is, le)
          ];
          rest = map (renamed s) made.3.rest;
          begins = ap (map (renamed s)) made.3.begins;
          each = λ line c. let from = in_map (renamed s) made.3.rest line c in subst (IsStepInTime v e.batch.moment earlier) from.2 (of_line from.0 from.1);
        }

    in_time : (s : StateView) (before later : List Executed) (lines : List Line) (made : IsMadeOf s later lines) → IsRunFrom s later → run ≡ before ++ later → (earlier : List Line) → ((c : ℕ) → IsAt c s later lines made earlier)
        → (batches : List (List Line)) × (lines_of its_owner its_turn s later lines made ≡ flat_map (λ batch. batch) batches) × FollowInTime v earlier batches
    unfolding lines_of
    in_time s before [] lines made follows is earlier here = ([], refl, tt)
    in_time s before (e ∷ later) lines made follows is earlier here =
        let at : slice_get run (length before) ≡ Some e = ap (λ (r : List Executed). slice_get r (length before)) is ∙ at_seam before e later in
        let this : List Line = map (renamed s) made.0 in
        let rest = in_time e.new (before ++ e ∷ []) later made.1 made.4 follows.1 (is ∙ sym (append_assoc before (e ∷ []) later)) (earlier ++ this) (λ c. next_at s e follows.0 later lines made earlier c (here c)) in (
          this ∷ rest.0,
          ap (λ (ls : List Line). this ++ ls) rest.1,
          (one_batch s e follows.0 later lines made earlier here (length before) at, rest.2),
        )

    pub are_in_time : (lines : List Line) (made : IsMadeOf initial_state run lines) → IsInTime v (lines_of its_owner (turn_of_request v.assignments) initial_state run lines made)
    are_in_time lines made = in_time initial_state [] run lines made serves.is_run.follows refl [] (λ c. record {
      count = 0;
      executed = refl;
      others = are_in_turn v.connections.dialect v.connections.heard v.connections.given (moments_among v.connections.passed) v.assignments (IsMet over.world.through.worlds) over.world.events over.world.now run serves in_turn c (spelled c).0 (spelled c).1
          [] run initial_state lines made serves.is_run.follows refl 0 refl 0 (λ a place there own lt ran. absurd (omega (arith, lt))) (λ t from_one le. absurd (omega (arith, from_one, le)));
    })
