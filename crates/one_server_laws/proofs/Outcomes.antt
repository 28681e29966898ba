-- What an executor of a world comes to by an input is kept by a machine that is reached, with the same chosen decrees.
use Rattle.std.proofs.Common.{◌≡◌, ℕ, List, Some, sym, ◌∙◌, ap, subst, slice_get}
use Rattle.std.specs.Prelude.{Contains}
use Rattle.decrees.specs.declared.decree.Decree.{Decree}
use Rattle.states.specs.State.{StateView}
use Rattle.exec_lines.specs.declared.input.Input.{Input}
use Rattle.exec_lines.specs.Step.{executor_step}
use Rattle.exec_node.specs.Executor.{ExecutorView, executor_outcome}
use Rattle.agreement_laws.specs.Laws.{IsStandingAt}
use Rattle.run_laws.specs.Run.{Executed}
use Rattle.custody_laws.specs.Durable.{Durable}
use Rattle.custody_laws.specs.Machine.{ExecutorMachine}
use Rattle.custody_laws.proofs.Kept.{ExecOk}
use Rattle.custody_laws.proofs.Custody.{reached_ok}
use Rattle.slots.specs.declared.slot.Slot.TheVariants.{Up}
use Rattle.worlds.specs.World.{WorldView}
use Rattle.worlds.proofs.SlotLemmas.{set_get}
use Rattle.one_server_laws.specs.Saved.{saved_of, AreLinked}
use Rattle.one_server_laws.specs.Machines.{IsUp}
use Rattle.one_server_laws.proofs.Steps.{steps_reached}
use Rattle.one_server_laws.proofs.Inputs.{MayCome, IsStepOf, input_is}
use Rattle.one_server_laws.proofs.Records.{chain_is_linked}
use Rattle.one_server_laws.proofs.Plays.{Held}

-- a machine that is reached keeps this, with these decrees
pub record IsKeptOver (decrees : List Decree) (id : ℕ) (x : Durable) : Type 0 where
  pub machine : ExecutorMachine
  pub same : machine.decrees ≡ decrees
  pub ok : ExecOk machine.decrees machine.letters (Contains machine.met) (Contains machine.rounds) id x

module _ {u : ℕ} {met : StateView → Type 0} {rounds : Executed → Type 0} {w : WorldView} (held : Held u met rounds w) (id : ℕ) (e : ExecutorView) (placed : slice_get w.executors id ≡ Some (Up e)) where
  pub mine_is : (d : Durable) × (slice_get held.now.executors id ≡ Some d) × IsUp u id d e
  mine_is = held.same.executors id (Up e) placed

  -- the machine has what the executor has saved
  pub has_saved : slice_get held.now.executors id ≡ Some (saved_of e.state)
  has_saved = mine_is.1 ∙ ap (λ (y : Durable). Some y) (sym mine_is.2.saved)

  module _ (x : Input) (may : MayCome held.now x) where
    pub outcome_is : executor_outcome e x ≡ executor_step u id e.state x
    outcome_is = λ i. executor_step (mine_is.2.same_u i) (mine_is.2.same_id i) e.state x

    pub outcome_kept : IsKeptOver held.now.decrees id (saved_of (executor_outcome e x).state)
    outcome_kept =
        let up : IsUp u id (saved_of e.state) e = subst (λ (y : Durable). IsUp u id y e) (sym mine_is.2.saved) mine_is.2 in
        let ok = (reached_ok u held.before held.now held.is_reached).execs id (saved_of e.state) has_saved in
        let step : IsStepOf u id held.now e.state (executor_outcome e x) = subst (IsStepOf u id held.now e.state) (sym outcome_is) (input_is u id held.now e.state has_saved ok.below up.works x may) in
        let later = steps_reached u held.before held.now step.alone.now held.is_reached step.alone.steps in
        let there : slice_get step.alone.now.executors id ≡ Some (saved_of (executor_outcome e x).state) =
        ap (λ (xs : List Durable). slice_get xs id) step.alone.executors ∙ set_get held.now.executors id (saved_of (executor_outcome e x).state) (saved_of e.state) has_saved in
        record { machine = step.alone.now; same = step.alone.decrees; ok = (reached_ok u later.0 step.alone.now later.1).execs id (saved_of (executor_outcome e x).state) there }

    -- each member of what it saves is over the state before it
    pub outcome_linked : AreLinked (executor_outcome e x).state.chain.have (executor_outcome e x).state.chain.members
    outcome_linked =
        let kept = outcome_kept in
        chain_is_linked (Contains kept.machine.met) (Contains kept.machine.rounds) (executor_outcome e x).state.standing.epoch (executor_outcome e x).state.chain.have (executor_outcome e x).state.chain.members kept.ok.chain

    -- what stands for it then stands after so many chosen decrees
    pub outcome_stands : IsStandingAt held.now.decrees (executor_outcome e x).state.known (executor_outcome e x).state.standing
    outcome_stands =
        let kept = outcome_kept in
        subst (λ (ds : List Decree). IsStandingAt ds (executor_outcome e x).state.known (executor_outcome e x).state.standing) kept.same (record { within = kept.ok.known; stands = kept.ok.stands })
