-- A step that saves nothing leaves what was saved.
use Rattle.std.proofs.Common.{◌≡◌, ℕ, ◌+◌, false, List, [], Option, Some, None, refl}
use Rattle.std.specs.Prelude.{nat_lt, ◌==◌}
use Rattle.std.specs.FinMap.{get}
use Rattle.std.proofs.lemmas.Bool.{cond_both}
use Rattle.decrees.specs.declared.decree.Decree.{Decree}
use Rattle.decrees.specs.declared.ballot.Ballot.{Ballot}
use Rattle.decrees.specs.declared.ballot.Ballot.TheVariants as ballot
use Rattle.decrees.specs.declared.standing.Standing.{Standing}
use Rattle.decrees.specs.declared.node.Letter.{Letter}
use Rattle.decrees.specs.declared.node.Node.{Node}
use Rattle.decrees.specs.declared.node.Node.TheVariants.{Client, Executor, Verifier}
use Rattle.sessions.specs.declared.request.Request.{Request}
use Rattle.sessions.specs.declared.sessions.LastReply.{LastReply}
use Rattle.batches.specs.declared.batch.Batch.{Batch}
use Rattle.states.specs.State.{StateView}
use Rattle.executor.specs.declared.work.Ended.{Ended}
use Rattle.executor.specs.declared.work.Ended.TheVariants.{On, Done}
use Rattle.executor.specs.Work.{WorkView, is_group_done}
use Rattle.transfer.specs.Parcel.{take_of}
use Rattle.rollback.specs.Chain.{ChainView, chain_tip, commits_first, chain_from}
use Rattle.exec_lines.specs.declared.body.Body.{Body}
use Rattle.exec_lines.specs.declared.body.Body.TheVariants as body
use Rattle.exec_lines.specs.declared.input.Input.TheVariants as input
use Rattle.exec_lines.specs.Begun.{begin_of, finish_of}
use Rattle.exec_lines.specs.State.{ExecutorState, ExecutorOutcome, is_behind, runs_in_order, after_crash}
use Rattle.exec_lines.specs.Lines.{wanted, went_on, ordered, after_cut, cut_batch, may_cut, may_obey_order, stepped, work_after, finished, may_adopt, on_decree, decree_is_due, has_more, came, is_told, stood, on_stands}
use Rattle.exec_lines.specs.Step.{from_client, from_executor, from_verifier, on_ballot, on_letter}
use Rattle.exec_node.specs.Laws.{UnsavedExecutorStays}

-- if nothing is saved, what was saved is the same
abbrev Kept : ExecutorState → ExecutorOutcome → Type 0
Kept s o = o.saves ≡ false → after_crash o.state ≡ after_crash s

of_want : (id : ℕ) (s : ExecutorState) (r : Request) (kept : Option LastReply) → Kept s (wanted id s r kept)
of_want id s r None = λ _. refl
of_want id s r (Some kept) =
    cond_both (kept.number == r.number) _ _ (Kept s) (λ _ _. refl)
    (λ _. cond_both (nat_lt r.number kept.number) _ _ (Kept s) (λ _ _. refl) (λ _ _. refl))

-- what comes of work, after a change of what is lost at a crash
of_ended : (u id : ℕ) (s t : ExecutorState) (letters : List (Letter Body)) (e : Ended) → after_crash t ≡ after_crash s → Kept s (went_on u id t letters e)
of_ended u id s t letters (On w) same = λ _. same
of_ended u id s t letters (Done d) same = λ e. absurd (cc e)

of_cut : (u id : ℕ) (s : ExecutorState) (b : Option Batch) → Kept s (ordered u id (after_cut s) b)
of_cut u id s None = λ _. refl
of_cut u id s (Some b) = of_ended u id s (after_cut s) _ (begin_of (chain_tip s.chain) b (runs_in_order s.standing b.n)) refl

of_order : (u id : ℕ) (s : ExecutorState) (b : Batch) → Kept s (from_executor u id s 0 (body.Order b))
of_order u id s b =
    cond_both (may_obey_order s b) _ _ (Kept s) (λ _. of_ended u id s s [] (begin_of (chain_tip s.chain) b (runs_in_order s.standing b.n)) refl) (λ _ _. refl)

of_parcel : (s : ExecutorState) (state : Option StateView) → Kept s (came s state)
of_parcel s None = λ _. refl
of_parcel s (Some state) = λ e. absurd (cc e)

of_step : (s : ExecutorState) (after : Option WorkView) → Kept s (stepped s after)
of_step s None = λ _. refl
of_step s (Some w) = λ _. refl

of_finish : (u id : ℕ) (s : ExecutorState) (work : Option WorkView) → Kept s (finished u id s work)
of_finish u id s None = λ _. refl
of_finish u id s (Some w) = cond_both (is_group_done w.progress) _ _ (Kept s) (λ _. of_ended u id s s [] (finish_of w) refl) (λ _ _. refl)

of_decree : (u id : ℕ) (s : ExecutorState) (v place : ℕ) (d : Decree) → Kept s (on_decree u id s v place d)
of_decree u id s v place d =
    cond_both (decree_is_due s place d) _ _ (Kept s)
    (λ _. cond_both (commits_first d s.chain.members) _ _ (Kept s) (λ _ e. absurd (cc e)) (λ _ e. absurd (cc e)))
    (λ _. cond_both (nat_lt (s.known + 1) place) _ _ (Kept s) (λ _ _. refl) (λ _ _. refl))

of_stood : (u id : ℕ) (s : ExecutorState) (place : ℕ) (st : Standing) (c : Option ChainView) → Kept s (stood u id s place st c)
of_stood u id s place st None = λ e. absurd (cc e)
of_stood u id s place st (Some c) = λ e. absurd (cc e)

of_stands : (u id : ℕ) (s : ExecutorState) (place : ℕ) (st : Standing) → Kept s (on_stands u id s place st)
of_stands u id s place st =
    cond_both (is_told s place st) _ _ (Kept s) (λ _. of_stood u id s place st (chain_from st s.chain.have s.chain.members)) (λ _ _. refl)

of_client : (id : ℕ) (s : ExecutorState) (b : Body) → Kept s (from_client id s b)
of_client id s (body.Want r) = of_want id s r (get s.chain.have.sessions r.client)
of_client id s (body.Order b) = λ _. refl
of_client id s (body.Reply number reply) = λ _. refl
of_client id s (body.Need q) = λ _. refl
of_client id s (body.Parcel p) = λ _. refl
of_client id s (body.Ballot b) = λ _. refl

of_executor : (u id : ℕ) (s : ExecutorState) (e : ℕ) (b : Body) → Kept s (from_executor u id s e b)
of_executor u id s e (body.Want r) = λ _. refl
of_executor u id s e (body.Order b) = of_order u id s b
of_executor u id s e (body.Reply number reply) = λ _. refl
of_executor u id s e (body.Need q) = cond_both (has_more s q) _ _ (Kept s) (λ _ _. refl) (λ _ _. refl)
of_executor u id s e (body.Parcel p) = cond_both (is_behind s) _ _ (Kept s) (λ _. of_parcel s (take_of s.chain.have.items p s.standing.n s.standing.token)) (λ _ _. refl)
of_executor u id s e (body.Ballot b) = λ _. refl

of_ballot : (u id : ℕ) (s : ExecutorState) (v : ℕ) (b : Ballot) → Kept s (on_ballot u id s v b)
of_ballot u id s v (ballot.Token epoch n previous token) = λ _. refl
of_ballot u id s v (ballot.Accept view place d) = λ _. refl
of_ballot u id s v (ballot.Accepted view place d) = λ _. refl
of_ballot u id s v (ballot.Decided place d) = of_decree u id s v place d
of_ballot u id s v (ballot.Ask place) = λ _. refl
of_ballot u id s v (ballot.Change view) = λ _. refl
of_ballot u id s v (ballot.Promise view count accepted) = λ _. refl
of_ballot u id s v (ballot.Stands place standing) = of_stands u id s place standing

of_verifier : (u id : ℕ) (s : ExecutorState) (v : ℕ) (b : Body) → Kept s (from_verifier u id s v b)
of_verifier u id s v (body.Want r) = λ _. refl
of_verifier u id s v (body.Order b) = λ _. refl
of_verifier u id s v (body.Reply number reply) = λ _. refl
of_verifier u id s v (body.Need q) = λ _. refl
of_verifier u id s v (body.Parcel p) = λ _. refl
of_verifier u id s v (body.Ballot b) = of_ballot u id s v b

of_letter : (u id : ℕ) (s : ExecutorState) (from : Node) (b : Body) → Kept s (on_letter u id s from b)
of_letter u id s (Client c) b = of_client id s b
of_letter u id s (Executor e) b = of_executor u id s e b
of_letter u id s (Verifier v) b = of_verifier u id s v b

pub unsaved_stays : UnsavedExecutorStays
unsaved_stays u id s (input.Letter l) = of_letter u id s l.from l.body
unsaved_stays u id s (input.Cut moment) = cond_both (may_cut u id s) _ _ (Kept s) (λ _. of_cut u id s (cut_batch s moment)) (λ _ _. refl)
unsaved_stays u id s (input.Step place) = of_step s (work_after s.work place)
unsaved_stays u id s input.Finish = of_finish u id s s.work
unsaved_stays u id s (input.Adopt t) = cond_both (may_adopt s t) _ _ (Kept s) (λ _. λ e. absurd (cc e)) (λ _ _. refl)
