-- Each batch of an order is in time.
use Rattle.std.proofs.Common.{◌≡◌, ◌⊎◌, ℕ, suc, ◌+◌, ◌≤◌, inl, inr, Bool, true, false, List, [], ◌∷◌, ◌++◌, map, take, refl, sym, ap, ◌∙◌, subst, arith}
use Rattle.std.specs.Prelude.{Contains, flat_map, max, ◌==◌, if◌then◌else◌}
use Rattle.std.specs.FinMap.{get-empty}
use Rattle.std.specs.Option.{option_map_or}
use Rattle.std.specs.Ordering.{nat_cmp}
use Rattle.std.proofs.lemmas.Bool.{eq-eqb}
use Rattle.std.proofs.lemmas.List.{append-nil}
use Rattle.proto.specs.declared.command.Command.{Command}
use Rattle.proto.specs.declared.turn.Turn.{Turn}
use Rattle.proto.specs.Grammar.{Spells}
use Rattle.item_steps.specs.Steps.{steps}
use Rattle.item_steps.specs.declared.step.Step.{Step}
use Rattle.sessions.specs.declared.sessions.LastReply.{LastReply}
use Rattle.sessions.specs.Fresh.{next_number}
use Rattle.states.specs.State.{StateView, initial_state}
use Rattle.states.specs.Followed.{moment_of}
use Rattle.events.specs.declared.event.Event.{Event}
use Rattle.memcached_spec.specs.Asked.{asked, IsAsked}
use Rattle.memcached_spec.specs.Fed.{fed_to}
use Rattle.memcached_spec.specs.Server.{Line, Made, Tick, Do, made_for}
use Rattle.memcached_spec.specs.Order.{AllGiven, OrdersGrow, IsLinearizable}
use Rattle.run_laws.specs.Run.{Executed, IsOver, IsRunFrom}
use Rattle.run_laws.proofs.Elements.{in_head, in_tail, in_none, first_or_other}
use Rattle.run_laws.proofs.Replies.{runs_next}
use Rattle.one_server_laws.specs.InTime.{WasCut}
use Rattle.linear_laws.specs.InTime.{IsStepOfAsked, IsBatchOfCut, FollowAsBatches, AreBatchesOfCuts, OrdersGrowInTime, IsLinearizableInTime}
use Rattle.linear_laws.proofs.Answers.{number_stays}
use Rattle.linear_laws.proofs.Rounds.{RoundMade, RanOne, steps_made, runner_in}
use Rattle.linear_laws.proofs.Runs.{IsMadeOf, AreOfCommands, steps_made-append, steps_next, its_command, number_after}

-- the greater of two moments is one of them
pub max_is : (a b : ℕ) → (max a b ≡ a) ⊎ ((max a b ≡ b) × (a ≤ b))
max_is a b = grind (arith)

-- a step that is among the lines is one of its client's
pub did_step : (lines : List Line) (d : Made) → Contains lines (Do d) → Contains (steps_made d.client lines) d.step
did_step [] d i = absurd (in_none (Do d) i)
did_step (Tick m ∷ lines) d i = elim (first_or_other (Tick m) (Do d) lines i) [
  | inl same ↦ absurd (cc same)
  | inr later ↦ did_step lines d later
]
did_step (Do x ∷ lines) d i = elim (first_or_other (Do x) (Do d) lines i) [
  | inl same ↦
      let here : x ≡ d = cc same in
      let own : (x.client == d.client) ≡ true = eq-eqb x.client d.client (ap (λ (y : Made). y.client) here) in
      subst (λ (b : Bool). Contains (map (λ (y : Made). y.step) (if b then x ∷ made_for d.client lines else made_for d.client lines)) d.step) (sym own)
      (subst (λ (y : Made). Contains (x.step ∷ steps_made d.client lines) y.step) here (in_head x.step (steps_made d.client lines)))
  | inr later ↦ by (x.client == d.client) (did_step lines d later)
]
  where
    by : (b : Bool) → Contains (steps_made d.client lines) d.step → Contains (map (λ (y : Made). y.step) (if b then x ∷ made_for d.client lines else made_for d.client lines)) d.step
    by true later = in_tail x.step d.step (steps_made d.client lines) later
    by false later = later

-- what made a line of a round is a request of its batch
ran : (s : StateView) (e : Executed) (first : List Line) → RoundMade s e first → (d : Made) → Contains first (Do d) → RanOne s e first d.client
ran s e first round d i = elim (round.each d.client) [
  | inl one ↦ one
  | inr none ↦ absurd (in_none d.step (subst (λ (ss : List Step). Contains ss d.step) none.made (did_step first d i)))
]

-- a client's first request has number 1
pub first_number : (c : ℕ) → next_number initial_state.sessions c ≡ 1
first_number c = ap (λ o. option_map_or (λ (k : LastReply). k.number + 1) o 1) (get-empty nat_cmp c)

module _ (events : List Event) (spelled : (c : ℕ) → (turns : List Turn) × (rest : List ℕ) × Spells (fed_to c events) turns rest) where
  abbrev commands_of : ℕ → List Command
  commands_of c = asked (spelled c).0

  -- so many of the client's commands were executed in these lines, and its next request asks the one after them
  record IsAt (s : StateView) (earlier : List Line) (c : ℕ) : Type 0 where
    count : ℕ
    made : steps_made c earlier ≡ flat_map steps (take count (commands_of c))
    next : next_number s.sessions c ≡ suc count

  step_of : (s : StateView) (e : Executed) (first : List Line) → RoundMade s e first → (cut : WasCut events e.batch) (earlier : List Line) → ((c : ℕ) → IsAt s earlier c) → (d : Made) → Contains first (Do d) → IsStepOfAsked events cut.before earlier (Do d)
  step_of s e first round cut earlier here d i =
      let one = ran s e first round d i in
      let q = one.runner.1 in
      let at = here d.client in
      record {
        made = d;
        is = refl;
        number = q.number;
        command = q.command;
        asked = subst (λ (c : ℕ). IsAsked (fed_to c cut.before) q.number q.command) one.client (cut.asked q (runner_in s e.batch one.runner one.runs));
        step = subst (λ (ss : List Step). Contains ss d.step) one.made (did_step first d i);
        executed = record { turns = (spelled d.client).0; rest = (spelled d.client).1; spells = (spelled d.client).2; count = at.count; made = at.made };
        next = runs_next s.sessions [] e.batch.requests one.runner one.runs ∙ (ap (next_number s.sessions) one.client ∙ at.next);
      }

  one_batch : (s : StateView) (e : Executed) (first : List Line) → RoundMade s e first → WasCut events e.batch → (earlier : List Line) → ((c : ℕ) → IsAt s earlier c) → IsBatchOfCut events earlier first
  one_batch s e first round cut earlier here = record {
    before = cut.before;
    after = cut.after;
    executor = cut.executor;
    moment = e.batch.moment;
    split = cut.split;
    now = moment_of s e.batch;
    late = elim (max_is e.batch.moment s.moment) [
      | inl is ↦ omega (arith, is)
      | inr (is, le) ↦ omega (arith, is, le)
    ];
    rest = round.rest;
    begins = round.begins;
    each = of_line;
  }
    where
      of_line : (l : Line) → Contains round.rest l → IsStepOfAsked events cut.before earlier l
      of_line (Tick m) c = absurd (round.no_tick m c)
      of_line (Do d) c = step_of s e first round cut earlier here d (subst (λ (ls : List Line). Contains ls (Do d)) (sym round.begins) (in_tail (Tick (moment_of s e.batch)) (Do d) round.rest c))

  -- after the round one command more was executed, or none
  next_at : (s : StateView) (e : Executed) (over : IsOver s e) (run : List Executed) (first : List Line) → RoundMade s e first → (earlier : List Line) (c : ℕ) → AreOfCommands c (commands_of c) (e ∷ run) → IsAt s earlier c → IsAt e.new (earlier ++ first) c
  next_at s e over run first round earlier c of_commands at = elim (round.each c) [
    | inl one ↦
        let command = its_command c (commands_of c) s e over run (first ++ []) first [] at.count refl of_commands at.next one in
        record {
          count = suc at.count;
          made = steps_made-append c earlier first ∙ ((λ i. at.made i ++ one.made i) ∙ steps_next (commands_of c) at.count one.runner.1.command command);
          next = number_after c (commands_of c) s e over run (first ++ []) first [] at.count refl of_commands at.next one;
        }
    | inr none ↦ record {
      count = at.count;
      made = steps_made-append c earlier first ∙ ((λ i. at.made i ++ none.made i) ∙ append-nil (flat_map steps (take at.count (commands_of c))));
      next = number_stays s e over c none.none ∙ at.next;
    }
  ]

  -- each round is such a batch
  batches_from : (s : StateView) (run : List Executed) (lines : List Line) → IsRunFrom s run → IsMadeOf s run lines → ((c : ℕ) → AreOfCommands c (commands_of c) run) → ((r : Executed) → Contains run r → WasCut events r.batch) → (earlier : List Line) → ((c : ℕ) → IsAt s earlier c)
      → (batches : List (List Line)) × (lines ≡ flat_map (λ batch. batch) batches) × FollowAsBatches events earlier batches
  batches_from s [] lines follows made of_commands cut earlier here = ([], made, tt)
  batches_from s (e ∷ run) lines follows made of_commands cut earlier here =
      let rest = batches_from e.new run made.1 follows.1 made.4 (λ c x q there. of_commands c x q (in_tail e x run there)) (λ r c. cut r (in_tail e r run c)) (earlier ++ made.0) (λ c. next_at s e follows.0 run made.0 made.3 earlier c (of_commands c) (here c)) in (
        made.0 ∷ rest.0,
        made.2 ∙ ap (λ (ls : List Line). made.0 ++ ls) rest.1,
        (one_batch s e made.0 made.3 (cut e (in_head e run)) earlier here, rest.2),
      )

  pub batches_of : (run : List Executed) (lines : List Line) → IsRunFrom initial_state run → IsMadeOf initial_state run lines → ((c : ℕ) → AreOfCommands c (asked (spelled c).0) run) → ((r : Executed) → Contains run r → WasCut events r.batch) → AreBatchesOfCuts events lines
  batches_of run lines follows made of_commands cut = batches_from initial_state run lines follows made of_commands cut [] (λ c. record { count = 0; made = refl; next = first_number c })

-- such orders are orders
orders_grow : (past : List Event) (before : List Line) (es : List Event) (gs : List AllGiven) → OrdersGrowInTime past before es gs → OrdersGrow past before es gs
orders_grow past before [] [] grow = tt
orders_grow past before [] (g ∷ gs) grow = absurd grow
orders_grow past before (e ∷ es) [] grow = absurd grow
orders_grow past before (e ∷ es) (g ∷ gs) (more, order, batches, grow) = (more, order, orders_grow (past ++ e ∷ []) (before ++ more) es gs grow)

pub is_linearizable : (events : List Event) (history : List AllGiven) → IsLinearizableInTime events history → IsLinearizable events history
is_linearizable events [] none = absurd none
is_linearizable events (first ∷ later) (lines, order, batches, grow) = (lines, order, orders_grow [] lines events later grow)
