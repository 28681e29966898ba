-- Each state that was met in worlds has the token of its parts.
use Rattle.std.proofs.Common.{◌≡◌, ℕ, List, [], ◌∷◌, Some, refl, sym, subst, ⊎_elim, slice_get, arith}
use Rattle.std.specs.Prelude.{Contains}
use Rattle.states.specs.State.{StateView, initial_state}
use Rattle.executor.specs.Work.{TentativeView}
use Rattle.run_laws.specs.Run.{Executed}
use Rattle.run_laws.specs.Met.{IsTold}
use Rattle.run_laws.proofs.Elements.{in_head, in_tail, in_none, first_or_other}
use Rattle.custody_laws.specs.Durable.{Durable, In, Keeps}
use Rattle.custody_laws.proofs.Kept.{Chain-in}
use Rattle.custody_laws.proofs.Custody.{reached_ok}
use Rattle.events.specs.declared.event.Event.{Event}
use Rattle.events.specs.Config.{ConfigView}
use Rattle.worlds.specs.World.{WorldView, WorldRuns, ReachedWorlds}
use Rattle.one_server_laws.specs.Saved.{IsSavedIn, IsKeptIn, IsExecutedIn, IsMet, IsExecuted}
use Rattle.one_server_laws.specs.HeldLaws.{MetAreToldApart}
use Rattle.one_server_laws.proofs.Records.{chain_is_linked}
use Rattle.one_server_laws.proofs.Kept.{saved_is}
use Rattle.one_server_laws.proofs.Plays.{Held, event_held, start_held}

first_is_told : IsTold initial_state
first_is_told = record { first = λ z. refl; token = λ low. absurd (omega (arith, low)) }

-- what an executor of this world keeps
module _ {u : ℕ} {met : StateView → Type 0} {rounds : Executed → Type 0} {w : WorldView} (held : Held u met rounds w) where
  durable_is_told : (id : ℕ) (y : Durable) (s : StateView) → slice_get held.now.executors id ≡ Some y → Keeps y s → IsTold s
  durable_is_told id y s at keeps =
      let good = reached_ok u held.before held.now held.is_reached in
      let ok = good.execs id y at in
      ⊎_elim
      (λ (e : y.have ≡ s). subst IsTold e (⊎_elim (λ (first : y.have ≡ initial_state). subst IsTold (sym first) first_is_told) (λ m. good.told y.have m) ok.have_known))
      (λ (k : (t : TentativeView) × In t y.chain × (t.after ≡ s)).
      subst IsTold k.2 (good.told k.0.after (Chain-in (Contains held.now.met) (Contains held.now.rounds) y.standing.epoch y.have y.chain ok.chain k.1).is_met))
      keeps

  kept_is_told : (s : StateView) → IsKeptIn w s → IsTold s
  kept_is_told s kept =
      let mine = held.same.executors kept.0 kept.2.slot kept.2.there in
      let chain = ((reached_ok u held.before held.now held.is_reached).execs kept.0 mine.0 mine.1).chain in
      let linked = chain_is_linked (Contains held.now.met) (Contains held.now.rounds) mine.0.standing.epoch mine.0.have mine.0.chain chain in
      let same = saved_is u kept.0 kept.2.slot kept.1 mine.0 linked mine.2 (subst (λ (v : ℕ). IsSavedIn v kept.0 kept.2.slot kept.1) held.same.same_u kept.2.saved) in
      durable_is_told kept.0 mine.0 s mine.1 (subst (λ (y : Durable). Keeps y s) same kept.3)

-- whatever is asked of the states that are met and of the rounds
told_in_runs : {u : ℕ} (met : StateView → Type 0) (rounds : Executed → Type 0) (w : WorldView) (es : List Event) (ws : List WorldView) → Held u met rounds w → ((x : WorldView) → Contains ws x → (s : StateView) → IsKeptIn x s → met s)
    → ((x : WorldView) → Contains ws x → (r : Executed) → IsExecutedIn x r → rounds r) → WorldRuns w es ws → (x : WorldView) → Contains ws x → (s : StateView) → IsKeptIn x s → IsTold s
told_in_runs met rounds w es [] held new_met new_rounds h x c s kept = absurd (in_none x c)
told_in_runs met rounds w [] (y ∷ ws) held new_met new_rounds h x c s kept = absurd h
told_in_runs met rounds w (e ∷ es) (y ∷ ws) held new_met new_rounds h x c s kept =
    let now = event_held met rounds w held e y h.0 (new_met y (in_head y ws)) (new_rounds y (in_head y ws)) in
    ⊎_elim
    (λ (same : y ≡ x). kept_is_told now s (subst (λ (z : WorldView). IsKeptIn z s) (sym same) kept))
    (λ later. told_in_runs met rounds y es ws now (λ z i. new_met z (in_tail y z ws i)) (λ z i. new_rounds z (in_tail y z ws i)) h.1 x later s kept)
    (first_or_other y x ws c)

met_is_told : (c : ConfigView) (events : List Event) (worlds : List WorldView) → ReachedWorlds c events worlds → (s : StateView) → IsMet worlds s → IsTold s
met_is_told c events [] r s m = absurd r
met_is_told c events (first ∷ later) r s m =
    let worlds : List WorldView = first ∷ later in
    let start = start_held c (IsMet worlds) (IsExecuted worlds) first r.0 in
    ⊎_elim
    (λ (same : first ≡ m.0). kept_is_told start s (subst (λ (z : WorldView). IsKeptIn z s) (sym same) m.2))
    (λ among. told_in_runs (IsMet worlds) (IsExecuted worlds) first events later start (λ x c y k. (x, in_tail first x later c, k)) (λ x c y k. (x, in_tail first x later c, k)) r.1 m.0 among s m.2)
    (first_or_other first m.0 later m.1)

pub met_are_told_apart : MetAreToldApart
met_are_told_apart c events worlds r distinct = record { states = met_is_told c events worlds r; distinct = distinct }
