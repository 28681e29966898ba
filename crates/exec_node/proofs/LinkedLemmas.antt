-- Members stay over just the states before them, and work over just the tip.
use Rattle.std.proofs.Common.{◌≡◌, ℕ, ◌+◌, Bool, true, false, List, [], ◌∷◌, ◌++◌, Option, Some, None, refl, sym, subst}
use Rattle.std.specs.Prelude.{nat_lt, ◌==◌, not, IsTrue, IfSome, option_map, if◌then◌else◌}
use Rattle.std.specs.FinMap.{get}
use Rattle.std.proofs.lemmas.Bool.{cond_both}
use Rattle.items.specs.Map.{Items}
use Rattle.decrees.specs.declared.decree.Decree.{Decree}
use Rattle.decrees.specs.declared.ballot.Ballot.{Ballot}
use Rattle.decrees.specs.declared.ballot.Ballot.TheVariants as ballot
use Rattle.decrees.specs.declared.standing.Standing.{Standing}
use Rattle.decrees.specs.declared.node.Letter.{Letter}
use Rattle.decrees.specs.declared.node.Node.{Node}
use Rattle.decrees.specs.declared.node.Node.TheVariants.{Client, Executor, Verifier}
use Rattle.sessions.specs.declared.request.Request.{Request}
use Rattle.sessions.specs.declared.sessions.LastReply.{LastReply}
use Rattle.batches.specs.declared.batch.Batch.{Batch}
use Rattle.states.specs.State.{StateView}
use Rattle.executor.specs.declared.work.Ended.{Ended}
use Rattle.executor.specs.declared.work.Ended.TheVariants.{On, Done}
use Rattle.executor.specs.BatchRequest.{BatchRequest}
use Rattle.executor.specs.Round.{first_place}
use Rattle.executor.specs.Kept.{IsTentative, IsTentativeOver}
use Rattle.executor.specs.StepOf.{step_in}
use Rattle.executor.specs.Work.{TentativeView, WorkView, is_group_done, least_of, all_begun}
use Rattle.transfer.specs.Parcel.{take_of}
use Rattle.rollback.specs.Chain.{ChainView, tip, chain_tip, AreOver, IsRecorded, commits_first, without_first, undone, chain_from}
use Rattle.rollback.proofs.StandingLemmas.{IsEndOf, end_is}
use Rattle.exec_lines.specs.declared.body.Body.{Body}
use Rattle.exec_lines.specs.declared.body.Body.TheVariants as body
use Rattle.exec_lines.specs.declared.input.Input.TheVariants as input
use Rattle.exec_lines.specs.Begun.{begin_of, begun_at, finish_of, moved_on}
use Rattle.exec_lines.specs.State.{ExecutorState, ExecutorOutcome, IsExecutor, WorksOverTip, is_behind, runs_in_order}
use Rattle.exec_lines.specs.Lines.{wanted, went_on, ordered, after_cut, cut_batch, may_cut, may_obey_order, stepped, work_after, finished, on_decree, decree_is_due, has_more, came, is_told, goes_on, stood, on_stands}
use Rattle.exec_lines.specs.Step.{from_client, from_executor, from_verifier, on_ballot, on_letter}
use Rattle.exec_node.specs.Laws.{AreTentative, AreStates, IsLinkedExecutor, LinkedStays}

over_push : (s : StateView) (ts : List TentativeView) (t : TentativeView) → AreOver s ts → IsTentativeOver (tip s ts) t → AreOver s (ts ++ t ∷ [])
over_push s [] t over last = (last, tt)
over_push s (x ∷ ts) t over last = (over.0, over_push x.after ts t over.1 last)

last_of : (ts : List TentativeView) (t : TentativeView) → AreTentative (ts ++ t ∷ []) → IsTentative t
last_of [] t are = are.0
last_of (x ∷ ts) t are = last_of ts t are.1

-- what is owed of the outcome of a step
abbrev Stays : ExecutorOutcome → Type 0
Stays o = AreStates o.state.chain → IsLinkedExecutor o.state

-- work, or what came of it, is over just this state
abbrev IsJustOver : StateView → Ended → Type 0
IsJustOver base (On w) = w.base ≡ base
IsJustOver base (Done t) = t.before ≡ base

begun_over : (base : StateView) (batch : Batch) (ordered : Bool) (first : Option ℕ) → IsJustOver base (begun_at base batch ordered first)
begun_over base batch ordered None = refl
begun_over base batch ordered (Some group) = refl

moved_over : (base : StateView) (w : WorkView) (next : Option ℕ) → w.base ≡ base → IsJustOver base (moved_on w next)
moved_over base w None over = over
moved_over base w (Some group) over = over

finish_over : (base : StateView) (w : WorkView) → w.base ≡ base → IsJustOver base (finish_of w)
finish_over base w over =
    cond_both (is_group_done w.progress) _ _ (IsJustOver base) (λ _. moved_over base w (least_of (Some w.progress.group) None w.progress.running) over) (λ _. over)

of_ended : (u id : ℕ) (s : ExecutorState) (letters : List (Letter Body)) (e : Ended) → IsLinkedExecutor s → IsJustOver (chain_tip s.chain) e → Stays (went_on u id s letters e)
of_ended u id s letters (On w) l over = λ _. record { chain = l.chain; over = over }
of_ended u id s letters (Done t) l over = λ are. record {
  chain = record {
    state = l.chain.state;
    few = are.few;
    over = over_push s.chain.have s.chain.members t l.chain.over (record { is = last_of s.chain.members t are.members; over = over });
  };
  over = tt;
}

of_begun : (u id : ℕ) (s : ExecutorState) (letters : List (Letter Body)) (b : Batch) → IsLinkedExecutor s → Stays (went_on u id s letters (begin_of (chain_tip s.chain) b (runs_in_order s.standing b.n)))
of_begun u id s letters b l =
    let in_order = runs_in_order s.standing b.n in
    of_ended u id s letters (begin_of (chain_tip s.chain) b in_order) l (begun_over (chain_tip s.chain) b in_order (least_of None None (all_begun (chain_tip s.chain) b in_order)))

-- another gather
waiting : (s : ExecutorState) (gather : List Request) → IsLinkedExecutor s → IsLinkedExecutor (record s { gather = gather })
waiting s gather l = record { chain = l.chain; over = l.over }

of_want : (id : ℕ) (s : ExecutorState) (r : Request) (kept : Option LastReply) → IsLinkedExecutor s → Stays (wanted id s r kept)
of_want id s r None l = λ _. waiting s _ l
of_want id s r (Some kept) l =
    cond_both (kept.number == r.number) _ _ Stays (λ _ _. l)
    (λ _. cond_both (nat_lt r.number kept.number) _ _ Stays (λ _ _. l) (λ _ _. waiting s _ l))

of_cut : (u id : ℕ) (s : ExecutorState) (b : Option Batch) → IsLinkedExecutor s → Stays (ordered u id (after_cut s) b)
of_cut u id s None l = λ _. waiting s _ l
of_cut u id s (Some b) l = of_begun u id (after_cut s) _ b (waiting s _ l)

no_work : (s : ExecutorState) (work : Option WorkView) (state : StateView) → IfSome work (WorksOverTip s) → is_behind s ≡ true → IfSome work (λ w. w.base ≡ state)
no_work s None state works behind = tt
no_work s (Some w) state works behind = absurd (subst (λ (b : Bool). IsTrue (not b) → ⊥) (sym behind) (λ e. cc e) works.current)

of_parcel : (s : ExecutorState) (state : Option StateView) → IsExecutor s → IsLinkedExecutor s → is_behind s ≡ true → Stays (came s state)
of_parcel s None x l behind = λ _. l
of_parcel s (Some state) x l behind = λ are. record {
  chain = record { state = are.have; few = are.few; over = tt };
  over = no_work s s.work state x.works behind;
}

-- the committed chain, and its tip
first_is_committed : (have : StateView) (ts : List TentativeView) → IsRecorded (record { have = have; members = ts }) → AreStates (without_first have ts) → IsRecorded (without_first have ts)
first_is_committed have [] r are = r
first_is_committed have (t ∷ ts) r are = record { state = are.have; few = are.few; over = r.over.1 }

same_tip : (have : StateView) (ts : List TentativeView) → tip have ts ≡ chain_tip (without_first have ts)
same_tip have [] = refl
same_tip have (t ∷ ts) = refl

of_decree : (u id : ℕ) (s : ExecutorState) (v place : ℕ) (d : Decree) → IsLinkedExecutor s → Stays (on_decree u id s v place d)
of_decree u id s v place d l =
    cond_both (decree_is_due s place d) _ _ Stays
    (λ _. cond_both (commits_first d s.chain.members) _ _ Stays
    (λ _ are. record {
      chain = first_is_committed s.chain.have s.chain.members l.chain are;
      over = subst (λ (x : StateView). IfSome s.work (λ w. w.base ≡ x)) (same_tip s.chain.have s.chain.members) l.over;
    })
    (λ _ are. record { chain = record { state = l.chain.state; few = are.few; over = tt }; over = tt }))
    (λ _. cond_both (nat_lt (s.known + 1) place) _ _ Stays (λ _ _. l) (λ _ _. l))

-- the end of the chain with the work, if the epoch goes on, and else the state that stands alone
abbrev told_state : ExecutorState → ℕ → Standing → ChainView → Bool → ExecutorState
told_state s place st c on = record s { known = place; standing = st; chain = if on then c else undone c; work = if on then s.work else None }

over_end : (s : ExecutorState) (place : ℕ) (st : Standing) (c : ChainView) (on : Bool) → IsLinkedExecutor s → IsEndOf st s.chain.have s.chain.members c → AreStates (told_state s place st c on).chain → IsLinkedExecutor (told_state s place st c on)
over_end s place st c true l is are = record {
  chain = record { state = are.have; few = are.few; over = is.over l.chain.over };
  over = subst (λ (x : StateView). IfSome s.work (λ w. w.base ≡ x)) is.same l.over;
}
over_end s place st c false l is are = record { chain = record { state = are.have; few = are.few; over = tt }; over = tt }

of_stood : (u id : ℕ) (s : ExecutorState) (place : ℕ) (st : Standing) (c : Option ChainView) → IsLinkedExecutor s → IfSome c (IsEndOf st s.chain.have s.chain.members) → Stays (stood u id s place st c)
of_stood u id s place st None l is = λ are. record { chain = record { state = l.chain.state; few = are.few; over = tt }; over = tt }
of_stood u id s place st (Some c) l is = over_end s place st c (goes_on s st) l is

of_stands : (u id : ℕ) (s : ExecutorState) (place : ℕ) (st : Standing) → IsLinkedExecutor s → Stays (on_stands u id s place st)
of_stands u id s place st l =
    cond_both (is_told s place st) _ _ Stays
    (λ _. of_stood u id s place st (chain_from st s.chain.have s.chain.members) l (end_is st s.chain.have s.chain.members)) (λ _ _. l)

step_over : (w : WorkView) (base : StateView) (made : Option (Items × List BatchRequest)) → w.base ≡ base
    → IfSome (option_map (λ (x : Items × List BatchRequest). record w { progress = record { items = x.0; running = x.1; group = w.progress.group } }) made) (λ z. z.base ≡ base)
step_over w base None over = tt
step_over w base (Some made) over = over

after_step : (base : StateView) (work : Option WorkView) (place : ℕ) → IfSome work (λ w. w.base ≡ base) → IfSome (work_after work place) (λ w. w.base ≡ base)
after_step base None place over = tt
after_step base (Some w) place over = step_over w base (step_in (first_place w.base w.batch) w.progress.group place w.progress.items w.progress.running) over

of_step : (s : ExecutorState) (after : Option WorkView) → IsLinkedExecutor s → IfSome after (λ w. w.base ≡ chain_tip s.chain) → Stays (stepped s after)
of_step s None l over = λ _. l
of_step s (Some w) l over = λ _. record { chain = l.chain; over = over }

of_finish : (u id : ℕ) (s : ExecutorState) (work : Option WorkView) → IsLinkedExecutor s → IfSome work (λ w. w.base ≡ chain_tip s.chain) → Stays (finished u id s work)
of_finish u id s None l over = λ _. l
of_finish u id s (Some w) l over =
    cond_both (is_group_done w.progress) _ _ Stays (λ _. of_ended u id s [] (finish_of w) l (finish_over (chain_tip s.chain) w over)) (λ _ _. l)

of_client : (id : ℕ) (s : ExecutorState) (b : Body) → IsLinkedExecutor s → Stays (from_client id s b)
of_client id s (body.Want r) l = of_want id s r (get s.chain.have.sessions r.client) l
of_client id s (body.Order b) l = λ _. l
of_client id s (body.Reply number reply) l = λ _. l
of_client id s (body.Need q) l = λ _. l
of_client id s (body.Parcel p) l = λ _. l
of_client id s (body.Ballot b) l = λ _. l

of_executor : (u id : ℕ) (s : ExecutorState) (e : ℕ) (b : Body) → IsExecutor s → IsLinkedExecutor s → Stays (from_executor u id s e b)
of_executor u id s e (body.Want r) x l = λ _. l
of_executor u id s e (body.Order b) x l = cond_both (may_obey_order s b) _ _ Stays (λ _. of_begun u id s [] b l) (λ _ _. l)
of_executor u id s e (body.Reply number reply) x l = λ _. l
of_executor u id s e (body.Need q) x l = cond_both (has_more s q) _ _ Stays (λ _ _. l) (λ _ _. l)
of_executor u id s e (body.Parcel p) x l =
    cond_both (is_behind s) _ _ Stays (λ behind. of_parcel s (take_of s.chain.have.items p s.standing.n s.standing.token) x l behind) (λ _ _. l)
of_executor u id s e (body.Ballot b) x l = λ _. l

of_ballot : (u id : ℕ) (s : ExecutorState) (v : ℕ) (b : Ballot) → IsLinkedExecutor s → Stays (on_ballot u id s v b)
of_ballot u id s v (ballot.Token epoch n previous token) l = λ _. l
of_ballot u id s v (ballot.Accept view place d) l = λ _. l
of_ballot u id s v (ballot.Accepted view place d) l = λ _. l
of_ballot u id s v (ballot.Decided place d) l = of_decree u id s v place d l
of_ballot u id s v (ballot.Ask place) l = λ _. l
of_ballot u id s v (ballot.Change view) l = λ _. l
of_ballot u id s v (ballot.Promise view count accepted) l = λ _. l
of_ballot u id s v (ballot.Stands place standing) l = of_stands u id s place standing l

of_verifier : (u id : ℕ) (s : ExecutorState) (v : ℕ) (b : Body) → IsLinkedExecutor s → Stays (from_verifier u id s v b)
of_verifier u id s v (body.Want r) l = λ _. l
of_verifier u id s v (body.Order b) l = λ _. l
of_verifier u id s v (body.Reply number reply) l = λ _. l
of_verifier u id s v (body.Need q) l = λ _. l
of_verifier u id s v (body.Parcel p) l = λ _. l
of_verifier u id s v (body.Ballot b) l = of_ballot u id s v b l

of_letter : (u id : ℕ) (s : ExecutorState) (from : Node) (b : Body) → IsExecutor s → IsLinkedExecutor s → Stays (on_letter u id s from b)
of_letter u id s (Client c) b x l = of_client id s b l
of_letter u id s (Executor e) b x l = of_executor u id s e b x l
of_letter u id s (Verifier v) b x l = of_verifier u id s v b l

pub linked_stays : LinkedStays
linked_stays u id s (input.Letter m) not_in x l = of_letter u id s m.from m.body x l
linked_stays u id s (input.Cut moment) not_in x l = cond_both (may_cut u id s) _ _ Stays (λ _. of_cut u id s (cut_batch s moment) l) (λ _ _. l)
linked_stays u id s (input.Step place) not_in x l = of_step s (work_after s.work place) l (after_step (chain_tip s.chain) s.work place l.over)
linked_stays u id s input.Finish not_in x l = of_finish u id s s.work l l.over
linked_stays u id s (input.Adopt t) not_in x l = absurd (cc not_in)
