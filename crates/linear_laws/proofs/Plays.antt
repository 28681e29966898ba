-- A play is linearizable.
use Rattle.std.proofs.Common.{◌≡◌, ℕ, suc, ◌+◌, ◌-◌, ◌⊎◌, inl, inr, List, [], ◌∷◌, ◌++◌, length, take, Some, refl, sym, ap, ◌∙◌, subst, arith}
use Rattle.std.specs.Prelude.{slice_get, flat_map, Contains}
use Rattle.std.proofs.lemmas.List.Elements.{Contains-append_cases}
use Rattle.proto.specs.declared.command.Command.{Command}
use Rattle.proto.specs.declared.reply.Reply.{Reply}
use Rattle.proto.specs.declared.turn.Turn.{Turn}
use Rattle.proto.specs.Grammar.{Spells}
use Rattle.proto.proofs.SpellsLemmas.{spells_one, spells_some}
use Rattle.item_steps.specs.Steps.{steps}
use Rattle.states.specs.State.{StateView, initial_state}
use Rattle.states.specs.Followed.{moment_of}
use Rattle.memcached_spec.specs.Asked.{asked, TextsBy}
use Rattle.client.proofs.TakenLemmas.{texts_imply}
use Rattle.events.specs.declared.event.Event.{Event}
use Rattle.worlds.specs.Clients.{ClientSlot}
use Rattle.worlds.specs.World.{WorldView}
use Rattle.run_laws.specs.Run.{Executed, IsRunFrom}
use Rattle.run_laws.proofs.Elements.{in_head, in_tail, in_none}
use Rattle.memcached_spec.specs.Fed.{fed_to, IsMoment}
use Rattle.one_server_laws.specs.Saved.{IsMet}
use Rattle.one_server_laws.specs.Served.{WasAnswered}
use Rattle.one_server_laws.specs.Run.{IsRun, RunsGrow}
use Rattle.one_server_laws.specs.InTime.{WasCut, RunsGrowInTime, IsOneServerInTime, WorldsAreInTime}
use Rattle.memcached_spec.specs.Server.{Line, Tick}
use Rattle.memcached_spec.specs.Order.{replies_from, IsExecutedFor, IsAnsweredBy, IsOrder, OrdersGrow}
use Rattle.linear_laws.specs.InTime.{AreBatchesOfCuts, OrdersGrowInTime, IsLinearizableInTime}
use Rattle.linear_laws.specs.Laws.{seen, last_of, given_in, history_of, PlaysAreLinearizable, ReachedAreLinearizable}
use Rattle.executor.proofs.RoundLemmas.{get_map}
use Rattle.linear_laws.proofs.Flat.{after_first}
use Rattle.linear_laws.proofs.Rounds.{contains_at, answers_made}
use Rattle.linear_laws.proofs.Runs.{IsMadeOf, made_of_run, made_on, made_leads, AreOfCommands, ClientMade, client_made}
use Rattle.linear_laws.proofs.Fresh.{all_fresh}
use Rattle.linear_laws.proofs.InTime.{max_is, first_number, batches_of, is_linearizable}

-- a list whose members are at the same places of another is a beginning of it
beginning : {X : Type 0} (xs ys : List X) → ((i : ℕ) (x : X) → slice_get xs i ≡ Some x → slice_get ys i ≡ Some x) → xs ≡ take (length xs) ys
beginning [] ys h = refl
beginning (x ∷ xs) [] h = absurd (let none = h 0 x refl in cc none)
beginning {X} (x ∷ xs) (y ∷ ys) h =
    let first : y ≡ x = cc (h 0 x refl) in
    λ i. sym first i ∷ beginning xs ys (λ k. h (suc k)) i

module _ (met : StateView → Type 0) (events : List Event) (w : WorldView) (run : List Executed) (is_run : IsRun met events w run) (lines : List Line) (made : IsMadeOf initial_state run lines) where
  of_client : (c : ℕ) (turns : List Turn) (rest : List ℕ) → Spells (fed_to c events) turns rest → AreOfCommands c (asked turns) run
  of_client c turns rest spells e q in_run in_batch client =
      let a = is_run.asked e q in_run in_batch in
      let theirs : Spells (fed_to c events) a.turns a.rest = subst (λ k. Spells (fed_to k events) a.turns a.rest) client a.spells in
      let same = spells_one (fed_to c events) a.turns turns a.rest rest theirs spells in
      (a.from_one, subst (λ (ts : List Turn). slice_get (asked ts) (q.number - 1) ≡ Some q.command) same.0 a.is)

  of_turns : (c : ℕ) (turns : List Turn) (rest : List ℕ) → Spells (fed_to c events) turns rest → ClientMade (asked turns) run lines c 0
  of_turns c turns rest spells = client_made c (asked turns) initial_state run lines 0 is_run.follows made (of_client c turns rest spells) (first_number c)

  ran_first : (c : ℕ) (turns : List Turn) (m : ClientMade (asked turns) run lines c 0) → m.ran ≡ take (length m.ran) (asked turns)
  ran_first c turns m = beginning m.ran (asked turns) (λ i x at. let same : 0 + i ≡ i = omega arith in sym (ap (slice_get (asked turns)) same) ∙ m.theirs i x at)

  executed_for : (c : ℕ) (turns : List Turn) (rest : List ℕ) → Spells (fed_to c events) turns rest → IsExecutedFor lines c (fed_to c events)
  executed_for c turns rest spells =
      let m = of_turns c turns rest spells in
      record { turns = turns; rest = rest; spells = spells; count = length m.ran; made = m.made ∙ ap (flat_map steps) (ran_first c turns m) }

  abbrev spelled : (c : ℕ) → (turns : List Turn) × (rest : List ℕ) × Spells (fed_to c events) turns rest
  spelled c = spells_some (suc (length (fed_to c events))) (fed_to c events) (omega arith)

  asked_only : (c : ℕ) → IsExecutedFor lines c (fed_to c events)
  asked_only c = executed_for c (spelled c).0 (spelled c).1 (spelled c).2

  reply_there : (c : ℕ) (turns : List Turn) (rest : List ℕ) (spells : Spells (fed_to c events) turns rest) (number : ℕ) (r : Reply) → WasAnswered run c number r
      → slice_get (replies_from (take (length (of_turns c turns rest spells).ran) (asked turns)) (answers_made c lines)) (number - 1) ≡ Some r
  reply_there c turns rest spells number r was =
      let m = of_turns c turns rest spells in
      let g = m.replied was.given.executed was.answered (contains_at run was.place was.given.executed was.given.there) was.given.given was.client_is in
      let is = g.1 in
      let number_is = was.number_is in
      let place : g.0 ≡ number - 1 = omega (arith, is, number_is) in
      subst (λ (cs : List Command). slice_get (replies_from cs (answers_made c lines)) (number - 1) ≡ Some r) (ran_first c turns m)
      (subst (λ (k : ℕ). slice_get (replies_from m.ran (answers_made c lines)) k ≡ Some r) place (g.2 ∙ ap Some was.reply_is))

  answered : (i : ℕ) (given : List ℕ) → slice_get (given_in w) i ≡ Some given → IsAnsweredBy lines (suc i) (fed_to (suc i) events) given
  unfolding executed_for
  answered i given there =
      let slot = get_map (λ (x : ClientSlot). x.given) w.clients i given there in
      let s = is_run.served i slot.0 slot.1 in
      let f = s.first in
      record {
        executed = executed_for (suc i) f.turns f.rest f.spells;
        taken = s.taken;
        more = f.more;
        first = f.is;
        texts = texts_imply (WasAnswered run (suc i)) _ (reply_there (suc i) f.turns f.rest f.spells) 1 s.taken given (subst (TextsBy (WasAnswered run (suc i)) 1 s.taken) (sym slot.2) s.texts);
      }

  -- each tick is the moment of a cut
  ticks : (s : StateView) (later : List Executed) (ls : List Line) → IsMadeOf s later ls → IsRunFrom s later → ((r : Executed) → Contains later r → IsMoment events r.batch.moment) → (s.moment ≡ 0) ⊎ IsMoment events s.moment
      → (m : ℕ) → Contains ls (Tick m) → IsMoment events m
  ticks s [] ls h follows cuts before m c = absurd (in_none (Tick m) (subst (λ (l : List Line). Contains l (Tick m)) h c))
  ticks s (e ∷ later) ls h follows cuts before m c =
      let now : IsMoment events (moment_of s e.batch) = elim (max_is e.batch.moment s.moment) [
        | inl is ↦ subst (IsMoment events) (sym is) (cuts e (in_head e later))
        | inr (is, le) ↦ elim before [
          | inl none ↦ let same : e.batch.moment ≡ moment_of s e.batch = omega (arith, none, le, is) in subst (IsMoment events) same (cuts e (in_head e later))
          | inr was ↦ subst (IsMoment events) (sym is) was
        ]
      ] in
      elim (Contains-append_cases h.0 h.1 (Tick m) (subst (λ (l : List Line). Contains l (Tick m)) h.2 c)) [
        | inl here ↦ subst (IsMoment events) (sym (h.3.ticks m here)) now
        | inr there ↦ ticks e.new later h.1 h.4 follows.1 (λ r k. cuts r (in_tail e r later k)) (inr (subst (IsMoment events) (sym follows.0.round.moment) now)) m there
      ]

  pub are_batches : ((r : Executed) → Contains run r → WasCut events r.batch) → AreBatchesOfCuts events lines
  are_batches cut = batches_of events spelled run lines is_run.follows made (λ c. of_client c (spelled c).0 (spelled c).1 (spelled c).2) cut

  pub is_order : IsOrder events (given_in w) lines
  is_order = record {
    done = record { last = seen (last_of initial_state run); leads = made_leads initial_state run lines made; fresh = all_fresh initial_state run lines is_run.follows made };
    moments = ticks initial_state run lines made is_run.follows is_run.moments (inl refl);
    asked_only = asked_only;
    answered = answered;
  }

module _ (met : StateView → Type 0) where
  orders_grow : (past : List Event) (before : List Executed) (lines : List Line) (es : List Event) (xs : List WorldView) → IsMadeOf initial_state before lines → RunsGrow met past before es xs → OrdersGrow past lines es (history_of xs)
  orders_grow past before lines [] [] made grow = tt
  orders_grow past before lines [] (x ∷ xs) made grow = absurd grow
  orders_grow past before lines (e ∷ es) [] made grow = absurd grow
  orders_grow past before lines (e ∷ es) (x ∷ xs) made (run, extends, is_run, grow) =
      let follows : IsRunFrom initial_state (before ++ extends.0) = subst (IsRunFrom initial_state) extends.1 is_run.follows in
      let later = made_of_run (last_of initial_state before) extends.0 (after_first initial_state before extends.0 follows) in
      let made_now : IsMadeOf initial_state run (lines ++ later.0) = subst (λ (r : List Executed). IsMadeOf initial_state r (lines ++ later.0)) (sym extends.1) (made_on initial_state before extends.0 lines later.0 made later.1) in
      (later.0, is_order met (past ++ e ∷ []) x run is_run (lines ++ later.0) made_now, orders_grow (past ++ e ∷ []) run (lines ++ later.0) es xs made_now grow)

pub plays_are_linearizable : PlaysAreLinearizable
plays_are_linearizable events [] none = absurd none
plays_are_linearizable events (first ∷ later) (run, is_run, grow) =
    let made = made_of_run initial_state run is_run.follows in
    (made.0, is_order (IsMet (first ∷ later)) [] first run is_run made.0 made.1, orders_grow (IsMet (first ∷ later)) [] run made.0 events later made.1 grow)

module _ (met : StateView → Type 0) where
  orders_grow_in_time : (past : List Event) (before : List Executed) (lines : List Line) (es : List Event) (xs : List WorldView) → IsMadeOf initial_state before lines → RunsGrowInTime met past before es xs → OrdersGrowInTime past lines es (history_of xs)
  orders_grow_in_time past before lines [] [] made grow = tt
  orders_grow_in_time past before lines [] (x ∷ xs) made grow = absurd grow
  orders_grow_in_time past before lines (e ∷ es) [] made grow = absurd grow
  orders_grow_in_time past before lines (e ∷ es) (x ∷ xs) made (run, extends, in_time, grow) =
      let follows : IsRunFrom initial_state (before ++ extends.0) = subst (IsRunFrom initial_state) extends.1 in_time.is_run.follows in
      let later = made_of_run (last_of initial_state before) extends.0 (after_first initial_state before extends.0 follows) in
      let made_now : IsMadeOf initial_state run (lines ++ later.0) = subst (λ (r : List Executed). IsMadeOf initial_state r (lines ++ later.0)) (sym extends.1) (made_on initial_state before extends.0 lines later.0 made later.1) in (
        later.0,
        is_order met (past ++ e ∷ []) x run in_time.is_run (lines ++ later.0) made_now,
        are_batches met (past ++ e ∷ []) x run in_time.is_run (lines ++ later.0) made_now in_time.cut,
        orders_grow_in_time (past ++ e ∷ []) run (lines ++ later.0) es xs made_now grow,
      )

plays_are_in_time : (events : List Event) (worlds : List WorldView) → IsOneServerInTime events worlds → IsLinearizableInTime events (history_of worlds)
plays_are_in_time events [] none = absurd none
plays_are_in_time events (first ∷ later) (run, in_time, grow) =
    let made = made_of_run initial_state run in_time.is_run.follows in (
      made.0,
      is_order (IsMet (first ∷ later)) [] first run in_time.is_run made.0 made.1,
      are_batches (IsMet (first ∷ later)) [] first run in_time.is_run made.0 made.1 in_time.cut,
      orders_grow_in_time (IsMet (first ∷ later)) [] run made.0 events later made.1 grow,
    )

pub reached_are_linearizable : WorldsAreInTime → ReachedAreLinearizable
reached_are_linearizable are_in_time c events worlds reached distinct =
    let h = plays_are_in_time events worlds (are_in_time c events worlds reached distinct) in
    record { order = is_linearizable events (history_of worlds) h; in_time = h }
