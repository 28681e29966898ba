-- The laws of the executors of reached worlds, from those of reached machines.
use Rattle.std.proofs.Common.{◌≡◌, ℕ, ◌-◌, ◌<◌, Bool, true, false, List, take, Option, Some, inl, inr, refl, sym, ap, ◌∙◌, subst, ⊎_elim, slice_get, arith}
use Rattle.std.specs.Prelude.{Contains, not, IsTrue}
use Rattle.std.proofs.lemmas.Option.{slice_get_within}
use Rattle.decrees.specs.Count.{member_count}
use Rattle.decrees.specs.declared.decree.Decree.{Decree}
use Rattle.decrees.specs.declared.decree.Decree.TheVariants.{Commit, Rollback}
use Rattle.decrees.specs.declared.standing.Standing.{Standing}
use Rattle.decrees.specs.Standing.{standing, decree_at}
use Rattle.states.specs.State.{StateView}
use Rattle.exec_node.specs.Executor.{ExecutorView}
use Rattle.agreement_laws.specs.ChosenList.{chosen}
use Rattle.run_laws.specs.Run.{Executed}
use Rattle.run_laws.specs.Met.{ToldApart}
use Rattle.run_laws.specs.Chosen.{IsMade, IsCommitted}
use Rattle.custody_laws.specs.Durable.{Durable}
use Rattle.custody_laws.specs.Laws.{IsInCustody}
use Rattle.custody_laws.proofs.Custody.{reached_ok, chosen_is_made, committed_is_chosen, last_commit_is_kept}
use Rattle.slots.specs.Slot.{Slot}
use Rattle.worlds.specs.World.{WorldView}
use Rattle.slots.specs.Status.{is_gone}
use Rattle.world_laws.specs.Laws.{chosen_list}
use Rattle.worlds.proofs.SlotLemmas.{get_within}
use Rattle.one_server_laws.specs.Saved.{AreLinked, Has, HasOne, IsMet, IsExecuted, DigestsAreDistinct}
use Rattle.one_server_laws.specs.Machines.{IsSameExecutor, HasExecutorMachine}
use Rattle.one_server_laws.specs.HeldLaws.{SavedIsHad, EachHasOneInWorlds, ChosenIsMadeInWorlds, IsChosenState, CommittedIsChosenInWorlds, ExecutorKeeps, ExecutorsKeepChosen, ExecutorsKeepChosenInWorlds}
use Rattle.one_server_laws.proofs.Records.{chain_is_linked}
use Rattle.one_server_laws.proofs.Kept.{saved_is_had, had_in, had_is, recorded_in, saved_in}
use Rattle.one_server_laws.proofs.Plays.{are_of_executor_machines}

-- ---- the laws

-- more states met, and more rounds
made_more : (met more : StateView → Type 0) (rounds new : Executed → Type 0) → ((s : StateView) → met s → more s) → ((r : Executed) → rounds r → new r) → (s : Standing) (d : Decree) → IsMade met rounds s d → IsMade more new s d
made_more met more rounds new h k s Rollback made = tt
made_more met more rounds new h k s (Commit n t) made = record {
  old = made.old;
  executed = made.executed;
  is_over = made.is_over;
  known_round = k made.executed made.known_round;
  old_known = ⊎_elim inl (λ m. inr (h made.old m)) made.old_known;
  old_number = made.old_number;
  old_token = made.old_token;
  new_met = h made.executed.new made.new_met;
  new_number = made.new_number;
  new_token = made.new_token;
}

module _ {worlds : List WorldView} {w : WorldView} (h : HasExecutorMachine w.u worlds w) where
  decrees_are : h.now.decrees ≡ chosen_list w
  decrees_are = h.same.decrees ∙ ap (chosen w.u) (sym h.same.letters)

  linked_at : (id : ℕ) (y : Durable) → slice_get h.now.executors id ≡ Some y → AreLinked y.have y.chain
  linked_at id y at = chain_is_linked (Contains h.now.met) (Contains h.now.rounds) y.standing.epoch y.have y.chain ((reached_ok w.u h.before h.now h.reached).execs id y at).chain

  made_at : (place : ℕ) (d : Decree) → decree_at (chosen_list w) place ≡ Some d → IsMade (IsMet worlds) (IsExecuted worlds) (standing (take (place - 1) (chosen_list w))) d
  made_at place d at =
      made_more (Contains h.now.met) (IsMet worlds) (Contains h.now.rounds) (IsExecuted worlds) h.met h.rounds (standing (take (place - 1) (chosen_list w))) d
      (subst (λ (ds : List Decree). IsMade (Contains h.now.met) (Contains h.now.rounds) (standing (take (place - 1) ds)) d) decrees_are
      (chosen_is_made w.u h.before h.now h.reached place d (subst (λ (ds : List Decree). decree_at ds place ≡ Some d) (sym decrees_are) at)))

  chosen_of : (id : ℕ) (y : Durable) → slice_get h.now.executors id ≡ Some y → IsChosenState worlds w y.have
  chosen_of id y at =
      let is = committed_is_chosen w.u h.before h.now id y h.reached at in
      record { known = ⊎_elim inl (λ m. inr (h.met y.have m)) is.known; committed = subst (λ (ds : List Decree). IsCommitted ds y.have) decrees_are is.committed }

  some_same : (x y : Durable) → ◌≡◌ {A = Option Durable} (Some x) (Some y) → x ≡ y
  some_same x y e = cc e

  -- what the machine has of an executor is what this one has
  had_is_mine : (id : ℕ) (x : Durable) → Has w id x → (y : Durable) × (slice_get h.now.executors id ≡ Some y) × (x ≡ y)
  had_is_mine id x has =
      let mine = h.same.executors id has.slot has.there in
      (mine.0, mine.1, had_is w.u id has.slot x mine.0 (linked_at id mine.0 mine.1) mine.2 has.had)

  has_one : (id : ℕ) → id < member_count w.u → HasOne w id
  has_one id within =
      let count = h.same.count in
      let slot = get_within w.executors id (omega (arith, within, count)) in
      let mine = h.same.executors id slot.0 slot.1 in (
        mine.0,
        record { slot = slot.0; there = slot.1; had = had_in w.u id slot.0 mine.0 (linked_at id mine.0 mine.1) mine.2 },
        λ y has. let other = had_is_mine id y has in other.2 ∙ some_same other.0 mine.0 (sym other.1 ∙ mine.1),
      )

  -- digests tell apart what the machine has met
  told_apart : DigestsAreDistinct worlds → ToldApart (Contains h.now.met)
  told_apart distinct = record {
    states = (reached_ok w.u h.before h.now h.reached).told;
    distinct = λ a b p q e. distinct a b (p.0, h.met p.0 p.1, p.2) (q.0, h.met q.0 q.1, q.2) e;
  }

  not_true : (b : Bool) → IsTrue (not b) → b ≡ false
  not_true true e = absurd (cc e)
  not_true false e = refl

  -- what the machine keeps is in the record of this slot
  keeps_in : (kept : IsInCustody h.now (λ id. is_gone (slice_get w.executors id))) (slot : Slot ExecutorView) (mine : Durable) → slice_get w.executors kept.executor ≡ Some slot → slice_get h.now.executors kept.executor ≡ Some mine
      → IsSameExecutor w.u kept.executor mine slot → 0 < (standing h.now.decrees).n → ExecutorKeeps worlds w
  keeps_in kept slot mine placed at mine_same above =
      let same = subst (λ (y : Durable). IsSameExecutor w.u kept.executor y slot) (some_same mine kept.durable (sym at ∙ kept.there)) mine_same in
      let number = kept.number in
      let spelled = recorded_in w.u kept.executor slot kept.durable kept.state (linked_at kept.executor kept.durable kept.there) same kept.keeps (omega (arith, above, number)) in
      record {
        executor = kept.executor;
        slot = slot;
        there = placed;
        not_lost = ap is_gone (sym placed) ∙ not_true (is_gone (slice_get w.executors kept.executor)) kept.not_lost;
        saved = kept.durable;
        has_saved = saved_in w.u kept.executor slot kept.durable same spelled;
        recorded = spelled;
        last = kept.state;
        keeps = kept.keeps;
        is_met = h.met kept.state kept.is_met;
        number = kept.number ∙ ap (λ (ds : List Decree). (standing ds).n) decrees_are;
        token = kept.token ∙ ap (λ (ds : List Decree). (standing ds).token) decrees_are;
      }

  kept_by : IsInCustody h.now (λ id. is_gone (slice_get w.executors id)) → 0 < (standing h.now.decrees).n → ExecutorKeeps worlds w
  kept_by kept above =
      let within = slice_get_within h.now.executors kept.executor kept.durable kept.there in
      let machine_count = (reached_ok w.u h.before h.now h.reached).count in
      let count = h.same.count in
      let slot = get_within w.executors kept.executor (omega (arith, within, machine_count, count)) in
      let mine = h.same.executors kept.executor slot.0 slot.1 in
      keeps_in kept slot.0 mine.0 slot.1 mine.1 mine.2 above

  keeps : DigestsAreDistinct worlds → ExecutorsKeepChosen worlds w
  keeps distinct few some =
      let above = subst (λ (ds : List Decree). 0 < (standing ds).n) (sym decrees_are) some in
      kept_by (last_commit_is_kept w.u h.before h.now (λ id. is_gone (slice_get w.executors id)) h.reached (told_apart distinct) few above) above

pub chosen_is_made_in_worlds : ChosenIsMadeInWorlds
chosen_is_made_in_worlds c events worlds w r ends place d at = made_at (are_of_executor_machines c events worlds w r ends) place d at

pub committed_is_chosen_in_worlds : CommittedIsChosenInWorlds
committed_is_chosen_in_worlds c events worlds w id x r ends has =
    let h = are_of_executor_machines c events worlds w r ends in
    let mine = had_is_mine h id x has in
    subst (λ (y : Durable). IsChosenState worlds w y.have) (sym mine.2) (chosen_of h id mine.0 mine.1)

pub saved_is_had_by : SavedIsHad
saved_is_had_by w id x has = record { slot = has.slot; there = has.there; had = saved_is_had w.u id has.slot x has.saved }

pub each_has_one_in_worlds : EachHasOneInWorlds
each_has_one_in_worlds c events worlds w id r ends within = has_one (are_of_executor_machines c events worlds w r ends) id within

pub executors_keep_in_worlds : ExecutorsKeepChosenInWorlds
executors_keep_in_worlds c events worlds w r ends distinct = keeps (are_of_executor_machines c events worlds w r ends) distinct
