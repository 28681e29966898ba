-- Small lists of decrees and their runs, computed.
use Rattle.std.proofs.Common.{◌+◌, ◌∙◌, ◌≡◌, inl, inr, false, List, [], ◌∷◌, length, replicate, Some, refl, arith, take, ℕ, ◌<◌, ◌≤◌, true, map, ap, sym, subst, ◌++◌, None}
use Rattle.std.specs.Prelude.{Contains, slice_get, All, ◌&&◌, ◌==◌, if◌then◌else◌}
use Rattle.std.specs.FinMap.{empty, get, get-empty}
use Rattle.token.specs.declared.Token.{Token}
use Rattle.token.specs.declared.form.Form.TheVariants.{Current}
use Rattle.token.specs.Digest.{digest}
use Rattle.decrees.specs.declared.decree.Decree.{Decree}
use Rattle.decrees.specs.declared.decree.Decree.TheVariants.{Commit, Rollback}
use Rattle.decrees.specs.Standing.{standing}
use Rattle.batches.specs.declared.batch.Batch.{Batch}
use Rattle.batches.specs.declared.batch.TheConstants.{MOST_REQUESTS, GREATEST_NUMBER}
use Rattle.wire.specs.Batch.{batch_text}
use Rattle.states.specs.State.{StateView, IsState, initial_state, with_token}
use Rattle.executor.specs.declared.answered.Answered.{Answered}
use Rattle.executor.specs.Fresh.{Runner, runs}
use Rattle.executor.specs.Round.{runners, group_of, first_place, steps_in, GroupsRun, answered, kept_after}
use Rattle.item_steps.specs.declared.step.Stamp.{Stamp}
use Rattle.item_steps.specs.declared.step.Answer.{Answer}
use Rattle.item_steps.specs.declared.step.Answer.TheVariants.{Seen}
use Rattle.item_steps.specs.Steps.{steps, value}
use Rattle.items.proofs.AliveLemmas.{get-alive}
use Rattle.std.proofs.lemmas.Map.Entries.{option_filter}
use Rattle.item_steps.specs.Schedule.{Placed, items_after, answers_in}
use Rattle.items.specs.Map.{Items, alive, is_alive, by_bytes}
use Rattle.sessions.specs.declared.request.Request.{Request}
use Rattle.sessions.specs.declared.sessions.LastReply.{LastReply}
use Rattle.proto.specs.declared.command.Command.TheVariants as command
use Rattle.proto.specs.declared.reply.Reply.TheVariants.{Values}
use Rattle.std.specs.Option.{option_map_or}
use Rattle.std.specs.Ordering.{nat_cmp}
use Rattle.std.specs.List.{range_with_len}
use Rattle.std.proofs.lemmas.List.Elements.{All-cons, All-nil}
use Rattle.states.proofs.StateLemmas.{first_is_state}
use Rattle.run_laws.specs.Texts.{inner_texts}
use Rattle.run_laws.specs.Run.{Executed, IsOver, states_of}
use Rattle.run_laws.specs.Chosen.{IsMade, commits, IsRunOf, IsCommitted}
use Rattle.run_laws.proofs.Elements.{in_head, in_none}
use Rattle.run_laws.proofs.Small.{form_over_none}

-- ---- no Commit, no round

nothing_chosen : IsRunOf (Contains []) (Contains []) [] []
nothing_chosen = record { follows = tt; one_each = refl; states_met = λ s c. absurd (in_none s c); known_rounds = λ e c. absurd (in_none e c) }

rollbacks_add_none : IsRunOf (Contains []) (Contains []) (Rollback ∷ Rollback ∷ []) []
rollbacks_add_none = record { follows = tt; one_each = refl; states_met = λ s c. absurd (in_none s c); known_rounds = λ e c. absurd (in_none e c) }

abbrev sevens : Token
sevens = record { 0 = replicate 32 7 }

abbrev eights : Token
eights = record { 0 = replicate 32 8 }

-- the Commits are in the order of the decrees
commits_in_order : commits (Rollback ∷ Commit 1 sevens ∷ Rollback ∷ Commit 2 eights ∷ []) ≡ (1, sevens) ∷ (2, eights) ∷ []
commits_in_order = refl

stands_at_last : (standing (Commit 1 sevens ∷ Rollback ∷ Commit 2 eights ∷ Rollback ∷ [])).n ≡ 2
stands_at_last = refl

-- ---- a tree over 256 leaves has 255 inner nodes

inner_nodes : length (inner_texts 8 (replicate 256 (7 ∷ []))) ≡ 255
inner_nodes = refl

-- ---- one Commit, one round: a batch without requests, over the first state, in epoch 2

one_first : 1 ≤ 1
one_first = omega arith

one_last : 1 ≤ GREATEST_NUMBER
one_last = omega arith

none_few : length {A = Request} [] ≤ MOST_REQUESTS
none_few = omega arith

abbrev batch : Batch
batch = record { epoch = 2; n = 1; moment = 1000; requests = []; first = one_first; last = one_last; few = none_few }

abbrev second : StateView
second = with_token (record {
  form = Current;
  number = 1;
  previous = initial_state.token;
  epoch = 2;
  batch = digest (batch_text batch);
  moment = 1000;
  token = initial_state.token;
  sessions = empty;
  items = alive empty 1000;
})

abbrev executed : Executed
executed = record { batch = batch; ordered = false; new = second; replies = [] }

is_over : IsOver initial_state executed
is_over = record {
  next = refl;
  round = record {
    groups = 0;
    all_run = λ k d lt. absurd (omega (arith, lt));
    answers = [];
    run = (refl, refl);
    replied = refl;
    sessions = refl;
    moment = refl;
    form = sym (form_over_none 1000);
    number = refl;
    previous = refl;
    epoch = refl;
    batch_is = refl;
    token = refl;
  };
}

abbrev decrees : List Decree
decrees = Rollback ∷ Commit 1 second.token ∷ []

abbrev met : List StateView
met = second ∷ []

-- the state is one, and was made of what is before it
second_is_state : IsState second
second_is_state = record {
  sessions_fit = first_is_state.sessions_fit;
  form_fit = refl;
  few = omega arith;
  first = λ e. absurd (omega (arith, e));
  token = λ l. refl;
}

second_is_made : IsMade (Contains met) (Contains (executed ∷ [])) (standing (take 1 decrees)) (Commit 1 second.token)
second_is_made = record {
  old = initial_state;
  executed = executed;
  is_over = is_over;
  known_round = in_head executed [];
  old_known = inl refl;
  old_number = refl;
  old_token = refl;
  new_met = in_head second [];
  new_number = refl;
  new_token = refl;
}

-- so the run has that round alone
has_one_round : IsRunOf (Contains met) (Contains (executed ∷ [])) decrees (executed ∷ [])
has_one_round = record { follows = (is_over, tt); one_each = refl; states_met = λ s c. c; known_rounds = λ e c. c }

-- a round that is none of those that were executed is in no run, whatever state it made
not_executed : (other : Executed) → other.new ≡ second → IsRunOf (Contains met) (Contains []) decrees (other ∷ []) → ⊥
not_executed other same run = in_none other (run.known_rounds other (in_head other []))

its_states : states_of (executed ∷ []) ≡ initial_state ∷ second ∷ []
its_states = refl

is_committed : IsCommitted decrees second
is_committed = inr (1, omega arith, refl)

is_of_run : slice_get (states_of (executed ∷ [])) second.number ≡ Some second
is_of_run = refl

-- ---- one request: client 1 asks for a key that is not there, in an ordered batch

abbrev request : Request
request = record { client = 1; number = 1; command = command.Get ((97 ∷ []) ∷ []); is_client = one_first; is_numbered = one_first }

one_few : length (request ∷ []) ≤ MOST_REQUESTS
one_few = omega arith

abbrev asking : Batch
asking = record { epoch = 1; n = 1; moment = 1000; requests = request ∷ []; first = one_first; last = one_last; few = one_few }

abbrev its_step : List Placed
its_step = map (λ step. (0, step)) (steps request.command)

abbrev nothing : Items
nothing = alive initial_state.items 1000

abbrev place : Stamp
place = first_place initial_state asking

abbrev its_answers : List (ℕ × Answer)
its_answers = answers_in place nothing its_step ++ []

abbrev reply : Answered
reply = answered its_answers (0, request)

abbrev asked : StateView
asked = with_token (record {
  form = Current;
  number = 1;
  previous = initial_state.token;
  epoch = 1;
  batch = digest (batch_text asking);
  moment = 1000;
  token = initial_state.token;
  sessions = kept_after initial_state.sessions (reply ∷ []);
  items = items_after place nothing its_step;
})

-- it is the client's first request, so it runs
it_is_next : runs initial_state.sessions [] request ≡ true
it_is_next =
    let none : get initial_state.sessions 1 ≡ None = get-empty nat_cmp 1 in
    ap (λ o. (1 == option_map_or (λ (k : LastReply). k.number + 1) o 1) && true) none

it_runs : runners initial_state asking ≡ (0, request) ∷ []
it_runs = ap (λ b. (if b then (0, request) ∷ [] else []) ++ []) it_is_next

abbrev executed_alone : Executed
executed_alone = record { batch = asking; ordered = true; new = asked; replies = reply ∷ [] }

its_round : IsOver initial_state executed_alone
its_round = record {
  next = refl;
  round = record {
    groups = 1;
    all_run = subst (All (λ (r : Runner). group_of asking true r < 1)) (sym it_runs) (All-cons (λ (r : Runner). group_of asking true r < 1) (0, request) [] (omega arith) (All-nil (λ (r : Runner). group_of asking true r < 1)));
    answers = its_answers;
    run = subst (λ rs. GroupsRun (λ group. map (steps_in asking true group) rs) place nothing (range_with_len 0 1) asked.items its_answers) (sym it_runs)
        (its_step, [], (0, [], refl, (refl, tt)), (refl, refl), refl);
    replied = ap (λ rs. map (answered its_answers) rs) (sym it_runs);
    sessions = refl;
    moment = refl;
    form = sym (form_over_none 1000);
    number = refl;
    previous = refl;
    epoch = refl;
    batch_is = refl;
    token = refl;
  };
}

-- the reply says that nothing was found
its_reply : reply.reply ≡ Values []
its_reply =
    let none : get nothing (97 ∷ []) ≡ None = get-alive initial_state.items 1000 (97 ∷ []) ∙ ap (option_filter (is_alive 1000)) (get-empty by_bytes (97 ∷ [])) in
    ap (λ o. Values (value false (97 ∷ []) (Seen o) ++ [])) none
