-- The state that a run ends with is in the record of an executor that is not lost.
use Rattle.std.proofs.Common.{◌≡◌, inr, ℕ, zero, suc, ◌<◌, List, [], ◌∷◌, length, Some, sym, ◌∙◌, subst, slice_get, arith}
use Rattle.std.specs.Prelude.{Contains}
use Rattle.decrees.specs.Standing.{standing}
use Rattle.states.specs.State.{StateView}
use Rattle.run_laws.specs.Run.{Executed, made_in, states_of}
use Rattle.run_laws.specs.Laws.{EndsAt}
use Rattle.run_laws.proofs.Elements.{in_head, in_tail}
use Rattle.run_laws.proofs.Tokens.{both_tell}
use Rattle.run_laws.proofs.Runs.{run_ends}
use Rattle.custody_laws.specs.Durable.{Keeps}
use Rattle.world_laws.specs.Laws.{chosen_list}
use Rattle.one_server_laws.specs.Saved.{IsMet}
use Rattle.one_server_laws.proofs.Proved.{executors_keep_in_worlds}
use Rattle.one_server_laws.proofs.Told.{met_are_told_apart}
use Rattle.one_server_laws.specs.Laws.{ExecutorsKeepTheRun}

got_in : (xs : List StateView) (i : ℕ) (x : StateView) → slice_get xs i ≡ Some x → Contains xs x
got_in [] i x e = absurd (cc e)
got_in (y ∷ xs) zero x e = let same : y ≡ x = cc e in subst (Contains (y ∷ xs)) same (in_head y xs)
got_in (y ∷ xs) (suc i) x e = in_tail y x xs (got_in xs i x e)

-- a state of the run after a round
made_at : (run : List Executed) (n : ℕ) (x : StateView) → 0 < n → slice_get (states_of run) n ≡ Some x → Contains (made_in run) x
made_at run zero x low e = absurd (omega (arith, low))
made_at run (suc n) x low e = got_in (made_in run) n x e

pub keep_the_run : ExecutorsKeepTheRun
keep_the_run c events worlds w reached ends distinct few run is some =
    let apart = met_are_told_apart c events worlds reached distinct in
    let end : EndsAt (chosen_list w) run = run_ends (made_in run) run (chosen_list w) run (record { follows = is.follows; one_each = is.one_each; states_met = λ s at. at; known_rounds = λ r at. at }) in
    let count = end.count in
    let above : 0 < (standing (chosen_list w)).n = omega (arith, some, count) in
    let kept = executors_keep_in_worlds c events worlds w reached ends distinct few above in
    let inside = made_at run (length run) end.last some end.is_last in
    let same : kept.last ≡ end.last = both_tell (IsMet worlds) apart kept.last end.last (inr kept.is_met) (inr (is.states_met end.last inside)) (kept.number ∙ sym end.number) (kept.token ∙ sym end.token) in
    record {
      executor = kept.executor;
      slot = kept.slot;
      there = kept.there;
      not_lost = kept.not_lost;
      saved = kept.saved;
      recorded = kept.recorded;
      last = end.last;
      is_last = end.is_last;
      keeps = subst (Keeps kept.saved) same kept.keeps;
    }
