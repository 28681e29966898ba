-- What an executor keeps and sends was asked, line by line.
use Rattle.std.proofs.Common.{◌≡◌, ℕ, zero, suc, ◌+◌, Bool, true, false, List, [], ◌∷◌, ◌++◌, filter, Option, Some, None, refl, sym, subst, ap, ◌∙◌}
use Rattle.std.specs.Prelude.{Contains, ◌≤◌, not, ◌==◌, ◌&&◌, nat_lt, if◌then◌else◌, flat_map, option_map}
use Rattle.std.specs.FinMap.{get}
use Rattle.std.specs.List.{AllByRecursion, list_any}
use Rattle.std.proofs.lemmas.Bool.{cond_both}
use Rattle.items.specs.Map.{Items}
use Rattle.sessions.specs.declared.request.Request.{Request}
use Rattle.sessions.specs.declared.sessions.LastReply.{LastReply}
use Rattle.sessions.specs.Fresh.{is_next}
use Rattle.batches.specs.declared.batch.Batch.{Batch}
use Rattle.batches.specs.declared.batch.TheConstants.{MOST_REQUESTS, GREATEST_NUMBER}
use Rattle.batches.specs.Waiting.{is_later}
use Rattle.batches.specs.Cut.{is_past, left}
use Rattle.decrees.specs.declared.decree.Decree.{Decree}
use Rattle.decrees.specs.declared.ballot.Ballot.{Ballot}
use Rattle.decrees.specs.declared.ballot.Ballot.TheVariants as ballot
use Rattle.decrees.specs.declared.node.Letter.{Letter}
use Rattle.decrees.specs.declared.node.Node.{Node}
use Rattle.decrees.specs.declared.node.Node.TheVariants.{Client, Executor, Verifier}
use Rattle.decrees.specs.declared.standing.Standing.{Standing}
use Rattle.decrees.specs.Count.{member_count}
use Rattle.states.specs.State.{StateView}
use Rattle.executor.specs.declared.answered.Answered.{Answered}
use Rattle.executor.specs.declared.work.Ended.{Ended}
use Rattle.executor.specs.declared.work.Ended.TheVariants.{On, Done}
use Rattle.executor.specs.BatchRequest.{BatchRequest}
use Rattle.executor.specs.Round.{first_place}
use Rattle.executor.specs.StepOf.{step_in, step_of}
use Rattle.executor.specs.Work.{WorkView, TentativeView, is_group_done, least_of, all_begun}
use Rattle.rollback.specs.Chain.{ChainView, chain_tip, undone, commits_first, without_first, first_replies, is_standing, chain_from, replies_on_commit}
use Rattle.transfer.specs.declared.need.Need.{Need}
use Rattle.transfer.specs.Need.{need_of}
use Rattle.transfer.specs.Parcel.{ParcelView, answer_of, take_of}
use Rattle.exec_lines.specs.declared.body.Body.{Body}
use Rattle.exec_lines.specs.declared.body.Body.TheVariants as body
use Rattle.exec_lines.specs.declared.input.Input.{Input}
use Rattle.exec_lines.specs.declared.input.Input.TheVariants as input
use Rattle.exec_lines.specs.Begun.{begun_at, begin_of, moved_on, finish_of}
use Rattle.exec_lines.specs.State.{ExecutorState, ExecutorOutcome, is_behind, next_batch_number, runs_in_order, executor_letter, to_first_verifiers, to_all_verifiers, to_first_executors, to_other_executors, token_told, to_clients, unchanged, one_letter}
use Rattle.exec_lines.specs.Lines.{waits, wanted, went_on, begin, batch_of, has_number, requests_taken, cut_where, cut_batch, after_cut, ordered, may_cut, on_cut, may_obey_order, on_order, stepped, work_after, on_step, finished, on_finish, needs, rolled_back, roll_back, commit_first, obey, decree_is_due, on_decree, is_told, goes_on, stood_without, stood, on_stands, has_more, on_need, came, on_parcel, resumed}
use Rattle.exec_lines.specs.Step.{from_client, from_executor, on_ballot, from_verifier, on_letter, executor_step}
use Rattle.events.specs.declared.event.Event.{Event}
use Rattle.events.specs.declared.event.Event.TheVariants as event
use Rattle.worlds.specs.Asked.{IsAskedRequest}
use Rattle.one_server_laws.specs.InTime.{WasCut}
use Rattle.one_server_laws.proofs.Each.{each_of_both, each_taken, each_filtered, each_in}

abbrev pub AreAskedRequests : List Event → List Request → Type 0
AreAskedRequests events rs = AllByRecursion (IsAskedRequest events) rs

abbrev pub IsAskedMember : List Event → TentativeView → Type 0
IsAskedMember events t = WasCut events t.batch

abbrev pub AreAskedMembers : List Event → List TentativeView → Type 0
AreAskedMembers events ts = AllByRecursion (IsAskedMember events) ts

abbrev pub IsAskedWork : List Event → Option WorkView → Type 0
IsAskedWork events None = Unit {0}
IsAskedWork events (Some w) = WasCut events w.batch

-- what waits was asked, and so were the batch that is executed and those of the chain
pub record IsAskedState (events : List Event) (s : ExecutorState) : Type 0 where
  pub waiting : AreAskedRequests events s.gather
  pub working : IsAskedWork events s.work
  pub members : AreAskedMembers events s.chain.members

-- what is wanted or ordered was asked
abbrev pub IsAskedBody : List Event → Body → Type 0
IsAskedBody events (body.Want r) = IsAskedRequest events r
IsAskedBody events (body.Order b) = WasCut events b
IsAskedBody events (body.Reply number reply) = Unit {0}
IsAskedBody events (body.Need q) = Unit {0}
IsAskedBody events (body.Parcel p) = Unit {0}
IsAskedBody events (body.Ballot b) = Unit {0}

abbrev pub IsAskedLetter : List Event → Letter Body → Type 0
IsAskedLetter events l = IsAskedBody events l.body

abbrev pub AreAskedLetters : List Event → List (Letter Body) → Type 0
AreAskedLetters events ls = AllByRecursion (IsAskedLetter events) ls

pub record IsAskedOutcome (events : List Event) (o : ExecutorOutcome) : Type 0 where
  pub state : IsAskedState events o.state
  pub letters : AreAskedLetters events o.letters

-- the last event is a cut at this moment, and what was asked had been asked before
pub record IsCutNow (events : List Event) (moment : ℕ) : Type 0 where
  pub before : List Event
  pub executor : ℕ
  pub split : events ≡ before ++ event.Cut executor moment ∷ []
  pub asked : (r : Request) → IsAskedRequest events r → IsAskedRequest before r

-- no tentative state is handed in, and the others bring what was asked
abbrev pub BringsAsked : List Event → Input → Type 0
BringsAsked events (input.Letter l) = IsAskedBody events l.body
BringsAsked events (input.Cut moment) = IsCutNow events moment
BringsAsked events (input.Step place) = Unit {0}
BringsAsked events input.Finish = Unit {0}
BringsAsked events (input.Adopt t) = ⊥

-- what work comes to has the batch of the work
abbrev pub IsAskedEnd : List Event → Ended → Type 0
IsAskedEnd events (On w) = WasCut events w.batch
IsAskedEnd events (Done t) = IsAskedMember events t

module _ (events : List Event) where
  -- ---- letters

  verifiers_hear : (id n : ℕ) (b : Ballot) → AreAskedLetters events (to_first_verifiers id n b)
  verifiers_hear id zero b = tt
  verifiers_hear id (suc n) b = each_of_both (IsAskedLetter events) (to_first_verifiers id n b) (executor_letter id (Verifier n) (body.Ballot b) ∷ []) (verifiers_hear id n b) (tt, tt)

  executors_hear : (id n : ℕ) (b : Body) → IsAskedBody events b → AreAskedLetters events (to_first_executors id n b)
  executors_hear id zero b h = tt
  executors_hear id (suc n) b h =
      each_of_both (IsAskedLetter events) (to_first_executors id n b) (if n == id then [] else executor_letter id (Executor n) b ∷ []) (executors_hear id n b h)
      (cond_both (n == id) [] (executor_letter id (Executor n) b ∷ []) (AreAskedLetters events) (λ _. tt) (λ _. (h, tt)))

  clients_hear : (id : ℕ) (answered : List Answered) → AreAskedLetters events (to_clients id answered)
  clients_hear id [] = tt
  clients_hear id (a ∷ answered) = (tt, clients_hear id answered)

  tokens_heard : (u id : ℕ) (t : TentativeView) → AreAskedLetters events (token_told u id t)
  tokens_heard u id t = verifiers_hear id (member_count u) (ballot.Token t.batch.epoch t.after.number t.before.token t.after.token)

  all_tokens_heard : (u id : ℕ) (ts : List TentativeView) → AreAskedLetters events (flat_map (token_told u id) ts)
  all_tokens_heard u id [] = tt
  all_tokens_heard u id (t ∷ ts) = each_of_both (IsAskedLetter events) (token_told u id t) (flat_map (token_told u id) ts) (tokens_heard u id t) (all_tokens_heard u id ts)

  needs_heard : (u id : ℕ) (s : ExecutorState) → AreAskedLetters events (needs u id s)
  needs_heard u id s = cond_both (is_behind s) (to_other_executors u id (body.Need (need_of s.chain.have))) [] (AreAskedLetters events) (λ _. executors_hear id (member_count u) (body.Need (need_of s.chain.have)) tt) (λ _. tt)

  pub resumed_heard : (u id : ℕ) (s : ExecutorState) → AreAskedLetters events (resumed u id s).letters
  resumed_heard u id s =
      each_of_both (IsAskedLetter events) (flat_map (token_told u id) s.chain.members) (to_all_verifiers u id (ballot.Ask (s.known + 1)) ++ needs u id s) (all_tokens_heard u id s.chain.members)
      (each_of_both (IsAskedLetter events) (to_all_verifiers u id (ballot.Ask (s.known + 1))) (needs u id s) (verifiers_hear id (member_count u) (ballot.Ask (s.known + 1))) (needs_heard u id s))

  -- ---- work

  begun_asked : (base : StateView) (b : Batch) (in_order : Bool) → WasCut events b → IsAskedEnd events (begin_of base b in_order)
  begun_asked base b in_order is = by (least_of None None (all_begun base b in_order))
    where
      by : (o : Option ℕ) → IsAskedEnd events (begun_at base b in_order o)
      by None = is
      by (Some group) = is

  moved_asked : (w : WorkView) (o : Option ℕ) → WasCut events w.batch → IsAskedEnd events (moved_on w o)
  moved_asked w None is = is
  moved_asked w (Some group) is = is

  finish_asked : (w : WorkView) → WasCut events w.batch → IsAskedEnd events (finish_of w)
  finish_asked w is = cond_both (is_group_done w.progress) (moved_on w (least_of (Some w.progress.group) None w.progress.running)) (On w) (IsAskedEnd events)
      (λ _. moved_asked w (least_of (Some w.progress.group) None w.progress.running) is) (λ _. is)

  -- a step leaves the batch
  step_asked : (w : WorkView) (place : ℕ) → WasCut events w.batch → IsAskedWork events (step_of w place)
  step_asked w place is = by (step_in (first_place w.base w.batch) w.progress.group place w.progress.items w.progress.running)
    where
      by : (o : Option (Items × List BatchRequest)) → IsAskedWork events (option_map (λ s. record w { progress = record { items = s.0; running = s.1; group = w.progress.group } }) o)
      by None = tt
      by (Some s) = is

  -- ---- line by line

  module _ (u id : ℕ) (s : ExecutorState) (ok : IsAskedState events s) where
    quiet : IsAskedOutcome events (unchanged s)
    quiet = record { state = ok; letters = tt }

    said : (to : Node) (b : Body) → IsAskedBody events b → IsAskedOutcome events (one_letter id s to b)
    said to b h = record { state = ok; letters = (h, tt) }

    -- of a state that differs in what waits
    went_on_asked : (now : ExecutorState) → AreAskedRequests events now.gather → now.chain ≡ s.chain → (ls : List (Letter Body)) → AreAskedLetters events ls → (e : Ended) → IsAskedEnd events e → IsAskedOutcome events (went_on u id now ls e)
    went_on_asked now waiting chain ls heard (On w) is = record {
      state = record { waiting = waiting; working = is; members = subst (λ c. AreAskedMembers events c.members) (sym chain) ok.members };
      letters = heard;
    }
    went_on_asked now waiting chain ls heard (Done t) is = record {
      state = record {
        waiting = waiting;
        working = tt;
        members = each_of_both (IsAskedMember events) now.chain.members (t ∷ []) (subst (λ c. AreAskedMembers events c.members) (sym chain) ok.members) (is, tt);
      };
      letters = each_of_both (IsAskedLetter events) ls (token_told u id t) heard (tokens_heard u id t);
    }

    begin_asked : (now : ExecutorState) → AreAskedRequests events now.gather → now.chain ≡ s.chain → (ls : List (Letter Body)) → AreAskedLetters events ls → (b : Batch) → WasCut events b → IsAskedOutcome events (begin u id now ls b)
    begin_asked now waiting chain ls heard b is =
        went_on_asked now waiting chain ls heard (begin_of (chain_tip now.chain) b (runs_in_order now.standing b.n)) (begun_asked (chain_tip now.chain) b (runs_in_order now.standing b.n) is)

    waits_asked : (r : Request) → IsAskedRequest events r → IsAskedOutcome events (waits s r)
    waits_asked r is = record {
      state = record {
        waiting = cond_both (is_later r s.gather) (filter (λ q. not (r.client == q.client)) s.gather ++ r ∷ []) s.gather (AreAskedRequests events)
            (λ _. each_of_both (IsAskedRequest events) (filter (λ q. not (r.client == q.client)) s.gather) (r ∷ []) (each_filtered (IsAskedRequest events) (λ q. not (r.client == q.client)) s.gather ok.waiting) (is, tt))
            (λ _. ok.waiting);
        working = ok.working;
        members = ok.members;
      };
      letters = tt;
    }

    want_asked : (r : Request) (o : Option LastReply) → IsAskedRequest events r → IsAskedOutcome events (wanted id s r o)
    want_asked r None is = waits_asked r is
    want_asked r (Some kept) is = cond_both (kept.number == r.number) (one_letter id s (Client r.client) (body.Reply r.number kept.reply)) (if nat_lt r.number kept.number then unchanged s else waits s r) (IsAskedOutcome events)
        (λ _. said (Client r.client) (body.Reply r.number kept.reply) tt)
        (λ _. cond_both (nat_lt r.number kept.number) (unchanged s) (waits s r) (IsAskedOutcome events) (λ _. quiet) (λ _. waits_asked r is))

    -- the requests of a batch that is cut were asked, since they waited
    taken_asked : AreAskedRequests events (requests_taken s)
    taken_asked = each_taken (IsAskedRequest events) MOST_REQUESTS (filter (is_next (chain_tip s.chain).sessions) s.gather) (each_filtered (IsAskedRequest events) (is_next (chain_tip s.chain).sessions) s.gather ok.waiting)

    after_cut_asked : AreAskedRequests events (after_cut s).gather
    after_cut_asked = cond_both (has_number s) (left MOST_REQUESTS (chain_tip s.chain).sessions s.gather) s.gather (AreAskedRequests events)
        (λ _. each_filtered (IsAskedRequest events) (λ r. not (is_past (chain_tip s.chain).sessions r) && not (list_any (λ b. b.client == r.client) (requests_taken s))) s.gather ok.waiting)
        (λ _. ok.waiting)

    cut_batch_asked : (moment : ℕ) (b : Batch) → IsCutNow events moment → cut_batch s moment ≡ Some b → WasCut events b
    cut_batch_asked moment b at e = by (has_number s) refl e
      where
        of_requests : (rs : List Request) (first : 1 ≤ next_batch_number s) (last : next_batch_number s ≤ GREATEST_NUMBER) (few : _) → AreAskedRequests events rs → batch_of s.standing.epoch (next_batch_number s) moment rs first last few ≡ Some b → WasCut events b
        of_requests [] first last few were none = absurd (cc none)
        of_requests (r ∷ rs) first last few were some =
            let same : record { epoch = s.standing.epoch; n = next_batch_number s; moment = moment; requests = r ∷ rs; first = first; last = last; few = few } ≡ b = cc some in
            record {
              before = at.before;
              after = [];
              executor = at.executor;
              split = at.split ∙ ap (λ (y : Batch). at.before ++ event.Cut at.executor y.moment ∷ []) same;
              asked = λ q c. at.asked q (each_in (IsAskedRequest events) (r ∷ rs) q were (subst (λ (y : Batch). Contains y.requests q) (sym same) c));
            }

        by : (has : Bool) (is : has_number s ≡ has) → cut_where s moment has is ≡ Some b → WasCut events b
        by true is some = of_requests (requests_taken s) _ _ _ taken_asked some
        by false is none = absurd (cc none)

    cut_asked : (moment : ℕ) → IsCutNow events moment → IsAskedOutcome events (on_cut u id s moment)
    cut_asked moment at = cond_both (may_cut u id s) (ordered u id (after_cut s) (cut_batch s moment)) (unchanged s) (IsAskedOutcome events) (λ _. by (cut_batch s moment) refl) (λ _. quiet)
      where
        by : (o : Option Batch) → cut_batch s moment ≡ o → IsAskedOutcome events (ordered u id (after_cut s) o)
        by None none = record { state = record { waiting = after_cut_asked; working = ok.working; members = ok.members }; letters = tt }
        by (Some b) some =
            let is = cut_batch_asked moment b at some in
            begin_asked (after_cut s) after_cut_asked refl (to_other_executors u id (body.Order b)) (executors_hear id (member_count u) (body.Order b) is) b is

    order_asked : (b : Batch) → WasCut events b → IsAskedOutcome events (on_order u id s b)
    order_asked b is = cond_both (may_obey_order s b) (begin u id s [] b) (unchanged s) (IsAskedOutcome events) (λ _. begin_asked s ok.waiting refl [] tt b is) (λ _. quiet)

    on_step_asked : (place : ℕ) → IsAskedOutcome events (on_step s place)
    on_step_asked place = by (work_after s.work place) (after s.work ok.working)
      where
        after : (o : Option WorkView) → IsAskedWork events o → IsAskedWork events (work_after o place)
        after None is = tt
        after (Some w) is = step_asked w place is

        by : (o : Option WorkView) → IsAskedWork events o → IsAskedOutcome events (stepped s o)
        by None is = quiet
        by (Some w) is = record { state = record { waiting = ok.waiting; working = is; members = ok.members }; letters = tt }

    finish_line_asked : IsAskedOutcome events (on_finish u id s)
    finish_line_asked = by s.work ok.working
      where
        by : (o : Option WorkView) → IsAskedWork events o → IsAskedOutcome events (finished u id s o)
        by None is = quiet
        by (Some w) is = cond_both (is_group_done w.progress) (went_on u id s [] (finish_of w)) (unchanged s) (IsAskedOutcome events) (λ _. went_on_asked s ok.waiting refl [] tt (finish_of w) (finish_asked w is)) (λ _. quiet)

    rolled_back_asked : (d : Decree) → IsAskedOutcome events (roll_back u id s d)
    rolled_back_asked d = record { state = record { waiting = ok.waiting; working = tt; members = tt }; letters = needs_heard u id (rolled_back s d) }

    committed_asked : (d : Decree) → IsAskedOutcome events (commit_first id s d)
    committed_asked d = record { state = record { waiting = ok.waiting; working = ok.working; members = without s.chain.members ok.members }; letters = clients_hear id (first_replies s.chain.members) }
      where
        without : (ts : List TentativeView) → AreAskedMembers events ts → AreAskedMembers events (without_first s.chain.have ts).members
        without [] h = tt
        without (t ∷ ts) h = h.1

    obey_asked : (d : Decree) → IsAskedOutcome events (obey u id s d)
    obey_asked d = cond_both (commits_first d s.chain.members) (commit_first id s d) (roll_back u id s d) (IsAskedOutcome events) (λ _. committed_asked d) (λ _. rolled_back_asked d)

    decree_asked : (v place : ℕ) (d : Decree) → IsAskedOutcome events (on_decree u id s v place d)
    decree_asked v place d = cond_both (decree_is_due s place d) (obey u id s d) (if nat_lt (s.known + 1) place then one_letter id s (Verifier v) (body.Ballot (ballot.Ask (s.known + 1))) else unchanged s) (IsAskedOutcome events)
        (λ _. obey_asked d)
        (λ _. cond_both (nat_lt (s.known + 1) place) (one_letter id s (Verifier v) (body.Ballot (ballot.Ask (s.known + 1)))) (unchanged s) (IsAskedOutcome events) (λ _. said (Verifier v) (body.Ballot (ballot.Ask (s.known + 1))) tt) (λ _. quiet))

    -- the members over what stands are among those that were
    over_asked : (st : Standing) (have : StateView) (ts : List TentativeView) (c : ChainView) → chain_from st have ts ≡ Some c → AreAskedMembers events ts → AreAskedMembers events c.members
    over_asked st have [] c = cond_both (is_standing st have) (Some (record { have = have; members = [] })) None (λ (o : Option ChainView). o ≡ Some c → Unit {0} → AreAskedMembers events c.members)
        (λ _ e h. let same : ◌≡◌ {A = ChainView} (record { have = have; members = [] }) c = cc e in subst (λ (y : ChainView). AreAskedMembers events y.members) same tt)
        (λ _ e h. absurd (cc e))
    over_asked st have (t ∷ ts) c = cond_both (is_standing st have) (Some (record { have = have; members = t ∷ ts })) (chain_from st t.after ts) (λ (o : Option ChainView). o ≡ Some c → AreAskedMembers events (t ∷ ts) → AreAskedMembers events c.members)
        (λ _ e h. let same : ◌≡◌ {A = ChainView} (record { have = have; members = t ∷ ts }) c = cc e in subst (λ (y : ChainView). AreAskedMembers events y.members) same h)
        (λ _ e h. over_asked st t.after ts c e h.1)

    stood_asked : (place : ℕ) (st : Standing) (o : Option ChainView) → chain_from st s.chain.have s.chain.members ≡ o → IsAskedOutcome events (stood u id s place st o)
    stood_asked place st None is = record { state = record { waiting = ok.waiting; working = tt; members = tt }; letters = needs_heard u id (stood_without s place st) }
    stood_asked place st (Some c) is = record {
      state = record {
        waiting = ok.waiting;
        working = cond_both (goes_on s st) s.work None (IsAskedWork events) (λ _. ok.working) (λ _. tt);
        members = cond_both (goes_on s st) c (undone c) (λ (y : ChainView). AreAskedMembers events y.members) (λ _. over_asked st s.chain.have s.chain.members c is ok.members) (λ _. tt);
      };
      letters = clients_hear id (replies_on_commit st s.chain.have s.chain.members);
    }

    stands_asked : (place : ℕ) (st : Standing) → IsAskedOutcome events (on_stands u id s place st)
    stands_asked place st = cond_both (is_told s place st) (stood u id s place st (chain_from st s.chain.have s.chain.members)) (unchanged s) (IsAskedOutcome events)
        (λ _. stood_asked place st (chain_from st s.chain.have s.chain.members) refl) (λ _. quiet)

    need_asked : (e : ℕ) (q : Need) → IsAskedOutcome events (on_need id s e q)
    need_asked e q = cond_both (has_more s q) (one_letter id s (Executor e) (body.Parcel (answer_of s.chain.have q))) (unchanged s) (IsAskedOutcome events) (λ _. said (Executor e) (body.Parcel (answer_of s.chain.have q)) tt) (λ _. quiet)

    came_asked : (o : Option StateView) → IsAskedOutcome events (came s o)
    came_asked None = quiet
    came_asked (Some state) = record { state = record { waiting = ok.waiting; working = ok.working; members = tt }; letters = tt }

    parcel_asked : (p : ParcelView) → IsAskedOutcome events (on_parcel s p)
    parcel_asked p = cond_both (is_behind s) (came s (take_of s.chain.have.items p s.standing.n s.standing.token)) (unchanged s) (IsAskedOutcome events) (λ _. came_asked (take_of s.chain.have.items p s.standing.n s.standing.token)) (λ _. quiet)

    -- ---- any input

    from_client_asked : (b : Body) → IsAskedBody events b → IsAskedOutcome events (from_client id s b)
    from_client_asked (body.Want r) is = want_asked r (get s.chain.have.sessions r.client) is
    from_client_asked (body.Order b) is = quiet
    from_client_asked (body.Reply number reply) is = quiet
    from_client_asked (body.Need q) is = quiet
    from_client_asked (body.Parcel p) is = quiet
    from_client_asked (body.Ballot b) is = quiet

    from_executor_asked : (e : ℕ) (b : Body) → IsAskedBody events b → IsAskedOutcome events (from_executor u id s e b)
    from_executor_asked e (body.Want r) is = quiet
    from_executor_asked e (body.Order b) is = order_asked b is
    from_executor_asked e (body.Reply number reply) is = quiet
    from_executor_asked e (body.Need q) is = need_asked e q
    from_executor_asked e (body.Parcel p) is = parcel_asked p
    from_executor_asked e (body.Ballot b) is = quiet

    on_ballot_asked : (v : ℕ) (b : Ballot) → IsAskedOutcome events (on_ballot u id s v b)
    on_ballot_asked v (ballot.Decided place d) = decree_asked v place d
    on_ballot_asked v (ballot.Token epoch n previous token) = quiet
    on_ballot_asked v (ballot.Accept view place d) = quiet
    on_ballot_asked v (ballot.Accepted view place d) = quiet
    on_ballot_asked v (ballot.Ask place) = quiet
    on_ballot_asked v (ballot.Change view) = quiet
    on_ballot_asked v (ballot.Promise view count accepted) = quiet
    on_ballot_asked v (ballot.Stands place st) = stands_asked place st

    from_verifier_asked : (v : ℕ) (b : Body) → IsAskedOutcome events (from_verifier u id s v b)
    from_verifier_asked v (body.Ballot b) = on_ballot_asked v b
    from_verifier_asked v (body.Want r) = quiet
    from_verifier_asked v (body.Order b) = quiet
    from_verifier_asked v (body.Reply number reply) = quiet
    from_verifier_asked v (body.Need q) = quiet
    from_verifier_asked v (body.Parcel p) = quiet

    letter_asked : (from : Node) (b : Body) → IsAskedBody events b → IsAskedOutcome events (on_letter u id s from b)
    letter_asked (Client c) b is = from_client_asked b is
    letter_asked (Executor e) b is = from_executor_asked e b is
    letter_asked (Verifier v) b is = from_verifier_asked v b

    pub step_keeps_asked : (x : Input) → BringsAsked events x → IsAskedOutcome events (executor_step u id s x)
    step_keeps_asked (input.Letter l) may = letter_asked l.from l.body may
    step_keeps_asked (input.Cut moment) may = cut_asked moment may
    step_keeps_asked (input.Step place) may = on_step_asked place
    step_keeps_asked input.Finish may = finish_line_asked
    step_keeps_asked (input.Adopt t) may = absurd may
