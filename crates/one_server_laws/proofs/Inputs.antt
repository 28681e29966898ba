-- Each input of an executor, whole, is some steps of the machine.
use Rattle.std.proofs.Common.{◌≡◌, ℕ, ◌+◌, ◌-◌, ◌≤◌, Bool, true, false, List, [], ◌∷◌, ◌++◌, take, Option, Some, None, refl, sym, ◌∙◌, ap, subst, arith, slice_get}
use Rattle.std.specs.Prelude.{not, IsTrue, ◌==◌, nat_lt, option_map, if◌then◌else◌}
use Rattle.std.specs.FinMap.{get}
use Rattle.std.proofs.lemmas.Bool.{cond_both, eqb-true, ltb-true, ltb-false, not-true, and_parts, true≢false}
use Rattle.sessions.specs.declared.request.Request.{Request}
use Rattle.sessions.specs.declared.sessions.LastReply.{LastReply}
use Rattle.batches.specs.declared.batch.Batch.{Batch}
use Rattle.batches.specs.declared.batch.TheConstants.{GREATEST_NUMBER}
use Rattle.decrees.specs.declared.decree.Decree.{Decree}
use Rattle.decrees.specs.declared.ballot.Ballot.{Ballot}
use Rattle.decrees.specs.declared.ballot.Ballot.TheVariants as ballot
use Rattle.decrees.specs.declared.node.Letter.{Letter}
use Rattle.decrees.specs.declared.node.Node.{Node}
use Rattle.decrees.specs.declared.node.Node.TheVariants.{Client, Executor, Verifier}
use Rattle.decrees.specs.Count.{member_count}
use Rattle.decrees.specs.declared.standing.Standing.{Standing}
use Rattle.decrees.specs.Standing.{standing, may_follow}
use Rattle.decrees.specs.Start.{could_stand}
use Rattle.states.specs.State.{StateView}
use Rattle.executor.specs.declared.work.Ended.{Ended}
use Rattle.executor.specs.declared.work.Ended.TheVariants.{On, Done}
use Rattle.executor.specs.Work.{WorkView, is_group_done, least_of}
use Rattle.rollback.specs.Chain.{ChainView, tip, chain_tip, commits_first, chain_from}
use Rattle.transfer.specs.declared.need.Need.{Need}
use Rattle.transfer.specs.Parcel.{ParcelView, answer_of, take_of}
use Rattle.exec_lines.specs.declared.body.Body.{Body}
use Rattle.exec_lines.specs.declared.body.Body.TheVariants as body
use Rattle.exec_lines.specs.declared.input.Input.{Input}
use Rattle.exec_lines.specs.declared.input.Input.TheVariants as input
use Rattle.exec_lines.specs.Begun.{begin_of, finish_of, moved_on}
use Rattle.exec_lines.specs.State.{ExecutorState, ExecutorOutcome, is_behind, is_primary, may_begin, next_batch_number, runs_in_order, to_other_executors, token_told, unchanged, one_letter}
use Rattle.exec_lines.specs.Lines.{waits, wanted, on_want, completed, went_on, begin, batch_of, has_number, requests_taken, cut_where, cut_batch, after_cut, ordered, may_cut, on_cut, may_obey_order, on_order, stepped, work_after, on_step, finished, on_finish, roll_back, commit_first, obey, decree_is_due, on_decree, is_told, stood, on_stands, has_more, on_need, came, on_parcel}
use Rattle.exec_lines.specs.Step.{from_client, from_executor, on_ballot, from_verifier, on_letter, executor_step}
use Rattle.agreement_laws.specs.Letters.{Letters}
use Rattle.agreement_laws.specs.Laws.{IsStandingAt}
use Rattle.custody_laws.specs.Durable as durable
use Rattle.custody_laws.specs.Durable.{Durable}
use Rattle.custody_laws.specs.Machine.{ExecutorMachine, said_of, HaveNoToken}
use Rattle.world_laws.specs.Ballots.{ballots}
use Rattle.world_laws.proofs.BallotLemmas.{ballots-append}
use Rattle.one_server_laws.specs.Saved.{saved_of}
use Rattle.one_server_laws.specs.Machines.{IsWorkOver, HasWork}
use Rattle.one_server_laws.proofs.Steps.{said_below}
use Rattle.one_server_laws.proofs.Moves.{no_ballots, none_told, no_token, Moves, heard_moves, made_moves, made_alone, obeyed_moves, stood_moves}
use Rattle.one_server_laws.proofs.Works.{Comes, begun_comes, moved_comes, stepped_comes}
use Rattle.one_server_laws.proofs.Lines.{told_is, obey_none, obey_is, parcel_moves}
use Rattle.one_server_laws.proofs.Stood.{parts, reached_is, stood_is, stood_none, stood_saves}

-- What a step owes: it is some steps of the machine, with its ballots, or without them if it stops with the new record. What is not saved
-- is as it was, and its work is over the tip.
pub record IsStepOf (u id : ℕ) (m : ExecutorMachine) (s : ExecutorState) (o : ExecutorOutcome) : Type 0 where
  pub done : Moves false u id m (saved_of o.state) (ballots o.letters)
  pub alone : Moves false u id m (saved_of o.state) []
  pub unsaved : o.saves ≡ false → saved_of o.state ≡ saved_of s
  pub works : HasWork (saved_of o.state) o.state.work

-- a decree that is told is chosen at its place, and what is told to stand stands there
pub record MayTell (m : ExecutorMachine) (b : Body) : Type 0 where
  pub decided : (place : ℕ) (d : Decree) → b ≡ body.Ballot (ballot.Decided place d) → slice_get m.decrees (place - 1) ≡ Some d
  pub stands : (place : ℕ) (st : Standing) → b ≡ body.Ballot (ballot.Stands place st) → IsStandingAt m.decrees place st

abbrev pub MayHear : ExecutorMachine → Node → Body → Type 0
MayHear m (Client c) b = Unit {0}
MayHear m (Executor e) b = Unit {0}
MayHear m (Verifier v) b = MayTell m b

-- no tentative state is handed in, and letters tell what is chosen
abbrev pub MayCome : ExecutorMachine → Input → Type 0
MayCome m (input.Letter l) = MayHear m l.from l.body
MayCome m (input.Cut moment) = Unit {0}
MayCome m (input.Step place) = Unit {0}
MayCome m input.Finish = Unit {0}
MayCome m (input.Adopt t) = ⊥

module _ (u id : ℕ) (m : ExecutorMachine) (s : ExecutorState) (at : slice_get m.executors id ≡ Some (saved_of s)) (below : s.chain.have.number ≤ s.standing.n) (works : HasWork (saved_of s) s.work) where
  -- what is saved stays, and letters with no token are sent
  quiet : (o : ExecutorOutcome) → saved_of o.state ≡ saved_of s → HaveNoToken (ballots o.letters) → HasWork (saved_of s) o.state.work → IsStepOf u id m s o
  quiet o same others its = record {
    done = subst (λ (y : Durable). Moves false u id m y (ballots o.letters)) (sym same) (heard_moves u id m (saved_of s) at false (ballots o.letters) others);
    alone = subst (λ (y : Durable). Moves false u id m y []) (sym same) (heard_moves u id m (saved_of s) at false [] none_told);
    unsaved = λ _. same;
    works = subst (λ (y : Durable). HasWork y o.state.work) (sym same) its;
  }

  silent : IsStepOf u id m s (unchanged s)
  silent = quiet (unchanged s) refl none_told works

  -- ---- work that goes on, or comes to its end

  -- of a state that differs in what waits
  went_on_is : (now : ExecutorState) → now.known ≡ s.known → now.standing ≡ s.standing → now.chain ≡ s.chain → (ls : List (Letter Body)) → ballots ls ≡ [] → (e : Ended) → Comes (saved_of s) e → IsStepOf u id m s (went_on u id now ls e)
  went_on_is now known standing chain ls silent_letters (On w) over =
      quiet (went_on u id now ls (On w)) (λ i. record { known = known i; standing = standing i; have = (chain i).have; chain = (chain i).members }) (subst HaveNoToken (sym silent_letters) none_told) over
  went_on_is now known standing chain ls silent_letters (Done t) made =
      let is : saved_of (completed u id now ls t).state ≡ record (saved_of s) { chain = s.chain.members ++ t ∷ [] } = λ i. record { known = known i; standing = standing i; have = (chain i).have; chain = (chain i).members ++ t ∷ [] } in
      let sent : ballots (completed u id now ls t).letters ≡ said_below id (member_count u) (said_of t) =
      ballots-append ls (token_told u id t) ∙ ((λ i. silent_letters i ++ ballots (token_told u id t)) ∙ told_is u id s.standing.epoch (tip s.chain.have s.chain.members) t made.0) in
      record {
        done = subst (λ (z : Durable × Letters). Moves false u id m z.0 z.1) (λ i. (sym is i, sym sent i)) (made_moves u id m (saved_of s) at t made.0 made.1);
        alone = subst (λ (z : Durable). Moves false u id m z []) (sym is) (made_alone u id m (saved_of s) at t made.0 made.1);
        unsaved = λ e. absurd (cc e);
        works = tt;
      }

  level_of : IsTrue (not (is_behind s)) → s.chain.have.number ≡ s.standing.n
  level_of free = let high = ltb-false s.chain.have.number s.standing.n (not-true (is_behind s) free) in omega (arith, below, high)

  -- ---- line by line

  want_is : (r : Request) → IsStepOf u id m s (on_want id s r)
  want_is r = by (get s.chain.have.sessions r.client)
    where
      waits_is : IsStepOf u id m s (waits s r)
      waits_is = quiet (waits s r) refl none_told works

      by : (k : Option LastReply) → IsStepOf u id m s (wanted id s r k)
      by None = waits_is
      by (Some kept) = cond_both (kept.number == r.number) (one_letter id s (Client r.client) (body.Reply r.number kept.reply)) (if nat_lt r.number kept.number then unchanged s else waits s r) (IsStepOf u id m s)
          (λ _. quiet (one_letter id s (Client r.client) (body.Reply r.number kept.reply)) refl none_told works)
          (λ _. cond_both (nat_lt r.number kept.number) (unchanged s) (waits s r) (IsStepOf u id m s) (λ _. silent) (λ _. waits_is))

  -- the batch that is cut is of the standing epoch, and the next one
  abbrev IsNextBatch : Batch → Type 0
  IsNextBatch b = (b.epoch ≡ s.standing.epoch) × (b.n ≡ next_batch_number s)

  cut_is_next : (moment : ℕ) (b : Batch) → cut_batch s moment ≡ Some b → IsNextBatch b
  cut_is_next moment b e = by (has_number s) refl e
    where
      of_requests : (rs : List Request) (first : 1 ≤ next_batch_number s) (last : next_batch_number s ≤ GREATEST_NUMBER) (few : _) → batch_of s.standing.epoch (next_batch_number s) moment rs first last few ≡ Some b → IsNextBatch b
      of_requests [] first last few none = absurd (cc none)
      of_requests (r ∷ rs) first last few some =
          let same : record { epoch = s.standing.epoch; n = next_batch_number s; moment = moment; requests = r ∷ rs; first = first; last = last; few = few } ≡ b = cc some in
          (ap (λ (y : Batch). y.epoch) (sym same), ap (λ (y : Batch). y.n) (sym same))

      by : (has : Bool) (is : has_number s ≡ has) → cut_where s moment has is ≡ Some b → IsNextBatch b
      by true is some = of_requests (requests_taken s) _ _ _ some
      by false is none = absurd (cc none)

  begun_is : (now : ExecutorState) → now.known ≡ s.known → now.standing ≡ s.standing → now.chain ≡ s.chain → (ls : List (Letter Body)) → ballots ls ≡ [] → IsTrue (not (is_behind s)) → (b : Batch) → IsNextBatch b → IsStepOf u id m s (begin u id now ls b)
  begun_is now known standing chain ls silent_letters free b next =
      went_on_is now known standing chain ls silent_letters (begin_of (chain_tip now.chain) b (runs_in_order now.standing b.n))
      (subst (λ (base : StateView). Comes (saved_of s) (begin_of base b (runs_in_order now.standing b.n))) (ap chain_tip (sym chain))
      (begun_comes (saved_of s) b (runs_in_order now.standing b.n) (level_of free) next.0 next.1))

  cut_is : (moment : ℕ) → IsStepOf u id m s (on_cut u id s moment)
  cut_is moment = cond_both (may_cut u id s) (ordered u id (after_cut s) (cut_batch s moment)) (unchanged s) (IsStepOf u id m s)
      (λ may. by (and_parts (not (is_behind s)) _ (and_parts (is_primary u id s) (may_begin s) may).1).0 (cut_batch s moment) refl)
      (λ _. silent)
    where
      by : IsTrue (not (is_behind s)) → (o : Option Batch) → cut_batch s moment ≡ o → IsStepOf u id m s (ordered u id (after_cut s) o)
      by free None none = quiet (unchanged (after_cut s)) refl none_told works
      by free (Some b) some =
          begun_is (after_cut s) refl refl refl (to_other_executors u id (body.Order b)) (no_ballots id (member_count u) (body.Order b) (λ to. refl)) free b (cut_is_next moment b some)

  order_is : (b : Batch) → IsStepOf u id m s (on_order u id s b)
  order_is b = cond_both (may_obey_order s b) (begin u id s [] b) (unchanged s) (IsStepOf u id m s)
      (λ may.
      let parts = and_parts (b.epoch == s.standing.epoch) _ may in
      let more = and_parts (may_begin s) (b.n == next_batch_number s) parts.1 in
      begun_is s refl refl refl [] refl (and_parts (not (is_behind s)) _ more.0).0 b (eqb-true b.epoch s.standing.epoch parts.0, eqb-true b.n (next_batch_number s) more.1))
      (λ _. silent)

  step_is : (place : ℕ) → IsStepOf u id m s (on_step s place)
  step_is place = by s.work refl (work_after s.work place) refl
    where
      over : (w now : WorkView) → s.work ≡ Some w → work_after (Some w) place ≡ Some now → IsWorkOver (saved_of s) now
      over w now is e = stepped_comes (saved_of s) w now place (subst (HasWork (saved_of s)) is works) e

      by : (work : Option WorkView) → s.work ≡ work → (o : Option WorkView) → work_after s.work place ≡ o → IsStepOf u id m s (stepped s o)
      by work is None e = silent
      by None is (Some now) e = let clash : ◌≡◌ {A = Option WorkView} None (Some now) = ap (λ (w : Option WorkView). work_after w place) (sym is) ∙ e in absurd (cc clash)
      by (Some w) is (Some now) e = quiet (stepped s (Some now)) refl none_told (over w now is (ap (λ (w : Option WorkView). work_after w place) (sym is) ∙ e))

  finish_is : IsStepOf u id m s (on_finish u id s)
  finish_is = by s.work refl
    where
      by : (work : Option WorkView) → s.work ≡ work → IsStepOf u id m s (finished u id s work)
      by None is = silent
      by (Some w) is = cond_both (is_group_done w.progress) (went_on u id s [] (finish_of w)) (unchanged s) (IsStepOf u id m s)
          (λ done.
          let its : finish_of w ≡ moved_on w (least_of (Some w.progress.group) None w.progress.running) = ap (λ (b : Bool). if b then moved_on w (least_of (Some w.progress.group) None w.progress.running) else On w) done in
          subst (λ (e : Ended). IsStepOf u id m s (went_on u id s [] e)) (sym its)
          (went_on_is s refl refl refl [] refl (moved_on w (least_of (Some w.progress.group) None w.progress.running)) (moved_comes (saved_of s) w (subst (HasWork (saved_of s)) is works) done)))
          (λ _. silent)

  obeyed_is : (d : Decree) → slice_get m.decrees s.known ≡ Some d → IsStepOf u id m s (obey u id s d)
  obeyed_is d got =
      let o = obey_is u id s d works in
      record {
        done = subst (λ (z : Durable × Letters). Moves false u id m z.0 z.1) (λ i. (sym o.0 i, sym (obey_none u id s d) i)) (obeyed_moves u id m (saved_of s) at d [] got none_told);
        alone = subst (λ (z : Durable). Moves false u id m z []) (sym o.0) (obeyed_moves u id m (saved_of s) at d [] got none_told);
        unsaved = λ e. absurd (always_saves e);
        works = o.1;
      }
    where
      always_saves : (obey u id s d).saves ≡ false → ⊥
      always_saves = cond_both (commits_first d s.chain.members) (commit_first id s d) (roll_back u id s d) (λ (o : ExecutorOutcome). o.saves ≡ false → ⊥) (λ _ e. cc e) (λ _ e. cc e)

  decree_is : (v place : ℕ) (d : Decree) → slice_get m.decrees (place - 1) ≡ Some d → IsStepOf u id m s (on_decree u id s v place d)
  decree_is v place d told = cond_both (decree_is_due s place d) (obey u id s d) (if nat_lt (s.known + 1) place then one_letter id s (Verifier v) (body.Ballot (ballot.Ask (s.known + 1))) else unchanged s) (IsStepOf u id m s)
      (λ due.
      let here = eqb-true place (s.known + 1) (and_parts (place == (s.known + 1)) (may_follow s.standing d) due).0 in
      let same : place - 1 ≡ s.known = omega (arith, here) in
      obeyed_is d (subst (λ k. slice_get m.decrees k ≡ Some d) same told))
      (λ _. cond_both (nat_lt (s.known + 1) place) (one_letter id s (Verifier v) (body.Ballot (ballot.Ask (s.known + 1)))) (unchanged s) (IsStepOf u id m s)
      (λ _. quiet (one_letter id s (Verifier v) (body.Ballot (ballot.Ask (s.known + 1)))) refl (no_token _ (s.known + 1) refl) works)
      (λ _. silent))

  -- what is told to stand, if the state that stands is found, or is not
  stood_of : (place : ℕ) (st : Standing) → nat_lt s.known place ≡ true → IsStandingAt m.decrees place st → (o : Option ChainView) → chain_from st s.chain.have s.chain.members ≡ o → IsStepOf u id m s (stood u id s place st o)
  stood_of place st beyond told o is =
      let after = stood_is u id s place st o is works in
      let saved : saved_of (stood u id s place st o).state ≡ durable.durable_stood (saved_of s) place (standing (take place m.decrees)) =
      after.0 ∙ (ap (durable.stood_on (saved_of s) place st) (sym (reached_is st s.chain.have s.chain.members ∙ ap (option_map parts) is)) ∙ ap (durable.durable_stood (saved_of s) place) told.stands) in
      let moves = stood_moves u id m (saved_of s) at place [] (ltb-true s.known place beyond) told.within none_told in
      record {
        done = subst (λ (z : Durable × Letters). Moves false u id m z.0 z.1) (λ i. (sym saved i, sym (stood_none u id s place st o) i)) moves;
        alone = subst (λ (z : Durable). Moves false u id m z []) (sym saved) moves;
        unsaved = λ e. absurd (true≢false (sym (stood_saves u id s place st o) ∙ e));
        works = after.1;
      }

  stands_is : (place : ℕ) (st : Standing) → IsStandingAt m.decrees place st → IsStepOf u id m s (on_stands u id s place st)
  stands_is place st told = cond_both (is_told s place st) (stood u id s place st (chain_from st s.chain.have s.chain.members)) (unchanged s) (IsStepOf u id m s)
      (λ counts. stood_of place st (and_parts (nat_lt s.known place) (could_stand place st) counts).0 told (chain_from st s.chain.have s.chain.members) refl)
      (λ _. silent)

  need_is : (e : ℕ) (q : Need) → IsStepOf u id m s (on_need id s e q)
  need_is e q = cond_both (has_more s q) (one_letter id s (Executor e) (body.Parcel (answer_of s.chain.have q))) (unchanged s) (IsStepOf u id m s)
      (λ _. quiet (one_letter id s (Executor e) (body.Parcel (answer_of s.chain.have q))) refl none_told works)
      (λ _. silent)

  parcel_is : (p : ParcelView) → IsStepOf u id m s (on_parcel s p)
  parcel_is p = cond_both (is_behind s) (came s (take_of s.chain.have.items p s.standing.n s.standing.token)) (unchanged s) (IsStepOf u id m s)
      (λ behind. by behind (take_of s.chain.have.items p s.standing.n s.standing.token) refl)
      (λ _. silent)
    where
      -- an executor that is behind has no work
      no_work : is_behind s ≡ true → (x : Durable) (w : Option WorkView) → HasWork (saved_of s) w → HasWork x w
      no_work behind x None over = tt
      no_work behind x (Some w) over = let low = ltb-true s.chain.have.number s.standing.n behind in let level = over.level in absurd (omega (arith, low, level))

      by : is_behind s ≡ true → (o : Option StateView) → take_of s.chain.have.items p s.standing.n s.standing.token ≡ o → IsStepOf u id m s (came s o)
      by behind None is = silent
      by behind (Some state) is =
          let moves = parcel_moves u id m s at p state behind is in
          record { done = moves; alone = moves; unsaved = λ e. absurd (cc e); works = no_work behind (record (saved_of s) { have = state; chain = [] }) s.work works }

  -- ---- any input

  client_is : (b : Body) → IsStepOf u id m s (from_client id s b)
  client_is (body.Want r) = want_is r
  client_is (body.Order b) = silent
  client_is (body.Reply number reply) = silent
  client_is (body.Need q) = silent
  client_is (body.Parcel p) = silent
  client_is (body.Ballot b) = silent

  executor_is : (e : ℕ) (b : Body) → IsStepOf u id m s (from_executor u id s e b)
  executor_is e (body.Want r) = silent
  executor_is e (body.Order b) = order_is b
  executor_is e (body.Reply number reply) = silent
  executor_is e (body.Need q) = need_is e q
  executor_is e (body.Parcel p) = parcel_is p
  executor_is e (body.Ballot b) = silent

  ballot_is : (v : ℕ) (b : Ballot) → MayTell m (body.Ballot b) → IsStepOf u id m s (on_ballot u id s v b)
  ballot_is v (ballot.Decided place d) may = decree_is v place d (may.decided place d refl)
  ballot_is v (ballot.Token epoch n previous token) may = silent
  ballot_is v (ballot.Accept view place d) may = silent
  ballot_is v (ballot.Accepted view place d) may = silent
  ballot_is v (ballot.Ask place) may = silent
  ballot_is v (ballot.Change view) may = silent
  ballot_is v (ballot.Promise view count accepted) may = silent
  ballot_is v (ballot.Stands place st) may = stands_is place st (may.stands place st refl)

  verifier_is : (v : ℕ) (b : Body) → MayTell m b → IsStepOf u id m s (from_verifier u id s v b)
  verifier_is v (body.Ballot b) may = ballot_is v b may
  verifier_is v (body.Want r) may = silent
  verifier_is v (body.Order b) may = silent
  verifier_is v (body.Reply number reply) may = silent
  verifier_is v (body.Need q) may = silent
  verifier_is v (body.Parcel p) may = silent

  letter_is : (from : Node) (b : Body) → MayHear m from b → IsStepOf u id m s (on_letter u id s from b)
  letter_is (Client c) b may = client_is b
  letter_is (Executor e) b may = executor_is e b
  letter_is (Verifier v) b may = verifier_is v b may

  pub input_is : (i : Input) → MayCome m i → IsStepOf u id m s (executor_step u id s i)
  input_is (input.Letter l) may = letter_is l.from l.body may
  input_is (input.Cut moment) may = cut_is moment
  input_is (input.Step place) may = step_is place
  input_is input.Finish may = finish_is
  input_is (input.Adopt t) may = absurd may
