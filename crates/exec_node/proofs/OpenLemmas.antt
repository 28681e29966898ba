-- An executor that goes on from its record.
use Rattle.std.proofs.Common.{◌≡◌, ◌-◌, ◌^◌, ◌<◌, ◌⊎◌, ℕ, Bool, true, List, Option, Some, None, Result, Ok, Err, inl, inr, sym, ap, ◌∙◌, subst}
use Rattle.std.specs.Prelude.{IfErr}
use Rattle.base.specs.declared.fault.Fault.{Fault}
use Rattle.base.specs.declared.fault.Fault.TheVariants.{Stopped}
use Rattle.decrees.specs.declared.node.Letter.{Letter}
use Rattle.exec_lines.specs.declared.body.Body.{Body}
use Rattle.exec_lines.specs.State.{ExecutorState}
use Rattle.exec_lines.specs.Lines.{resumed}
use Rattle.exec_lines.specs.Record.{executor_text, executor_text_in}
use Rattle.wire.specs.FrontLaws.{head_of}
use Rattle.states.specs.declared.version.Version.{Version}
use Rattle.states.specs.declared.version.Version.TheVariants.{First, Second}
use Rattle.exec_node.specs.Record.{IsReadRecord}
use Rattle.exec_node.specs.Executor.{ExecutorView, OpensExecutor, IsCountedRecord, IsToBeSaved, StoredExecutor}

-- the state of a record is that of the executor that was opened
abbrev At : ℕ → ℕ → ExecutorState → Option (List ℕ) → ℕ → Bool → ExecutorView
At u id s saved failures told = record { id = id; u = u; state = s; up = true; saved = saved; failures = failures; told = told }

goes_on : (u id : ℕ) (bytes : List ℕ) (failures : ℕ) (told : Bool) (s : ExecutorState) (e : ExecutorView) (letters : List (Letter Body)) → IsReadRecord u id bytes s
    → e ≡ At u id s (Some (executor_text u id s)) failures told → letters ≡ (resumed u id s).letters → OpensExecutor u id (Some bytes) failures told e letters
goes_on u id bytes failures told s e letters read is said =
    let same : s ≡ e.state = sym (ap (λ (x : ExecutorView). x.state) is) in (
      is ∙ ap (λ (x : ExecutorState). At u id x (Some (executor_text u id x)) failures told) same,
      subst (IsReadRecord u id bytes) same read,
      said ∙ ap (λ (x : ExecutorState). (resumed u id x).letters) same,
    )

pub opens : (u id : ℕ) (saved : Option (List ℕ)) (failures : ℕ) (told : Bool) (s : ExecutorState) (e : ExecutorView) (letters : List (Letter Body)) → StoredExecutor u id saved (Some (Ok (Second, s)))
    → e ≡ At u id s saved failures told → letters ≡ (resumed u id s).letters → OpensExecutor u id saved failures told e letters
opens u id None failures told s e letters stored is said = absurd stored
opens u id (Some bytes) failures told s e letters stored is said =
    goes_on u id bytes failures told s e letters (Second, stored) (is ∙ ap (λ (x : List ℕ). At u id s (Some x) failures told) stored.spelled) said

pub renews : (u id : ℕ) (saved : Option (List ℕ)) (failures : ℕ) (told : Bool) (s : ExecutorState) (e : ExecutorView) (letters : List (Letter Body)) → StoredExecutor u id saved (Some (Ok (First, s)))
    → e ≡ At u id s (Some (executor_text u id s)) failures told → letters ≡ (resumed u id s).letters → OpensExecutor u id saved failures told e letters
renews u id None failures told s e letters stored is said = absurd stored
renews u id (Some bytes) failures told s e letters stored is said = goes_on u id bytes failures told s e letters (First, stored) is said

pub counted_record : (u id : ℕ) (saved : Option (List ℕ)) (version : Version) (s : ExecutorState) → StoredExecutor u id saved (Some (Ok (version, s))) → s.known ≡ 2 ^ 64 - 1 → IsCountedRecord u id saved
counted_record u id None version s stored counted = absurd stored
counted_record u id (Some bytes) version s stored counted = (s, (version, stored), counted)

-- what is read of version 1 is to be saved, and what is read of today's is not
pub first_is_saved : (u id : ℕ) (saved : Option (List ℕ)) (s : ExecutorState) → StoredExecutor u id saved (Some (Ok (First, s))) → IsToBeSaved u id saved
first_is_saved u id None s stored = absurd stored
first_is_saved u id (Some bytes) s stored = (s, stored)

pub second_stays : (u id : ℕ) (saved : Option (List ℕ)) (s : ExecutorState) → StoredExecutor u id saved (Some (Ok (Second, s))) → IsToBeSaved u id saved → ⊥
second_stays u id None s stored old = stored
second_stays u id (Some bytes) s stored old = not_both (sym old.1.spelled ∙ stored.spelled)
  where
    not_both : executor_text_in First u id old.0 ≡ executor_text_in Second u id s → ⊥
    not_both e = (let marks : 1 ≡ 2 = ap head_of e in cc)

pub none_is_saved : (u id : ℕ) (saved : Option (List ℕ)) → StoredExecutor u id saved None → IsToBeSaved u id saved
none_is_saved u id None stored = tt
none_is_saved u id (Some bytes) stored = absurd stored

-- if it is opened from a record of version 1, a call is refused as one that saves
module _ {N K : Type 0} (u id : ℕ) (saved : Option (List ℕ)) (s : ExecutorState) (stored : StoredExecutor u id saved (Some (Ok (First, s)))) where
  pub renewal_stopped : (failed : K → ℕ) (keeper : K) (r : Result N (Fault × K)) → IfErr r (λ refused. refused.0 ≡ Stopped → ((failed keeper < failed refused.1) ⊎ (failed keeper ≡ 2 ^ 64 - 1)) ⊎ IsCountedRecord u id saved)
      → IfErr r (λ refused. refused.0 ≡ Stopped → (IsToBeSaved u id saved × ((failed keeper < failed refused.1) ⊎ (failed keeper ≡ 2 ^ 64 - 1))) ⊎ IsCountedRecord u id saved)
  renewal_stopped failed keeper (Ok n) h = tt
  renewal_stopped failed keeper (Err e) h = λ stop. elim (h stop) [
    | inl save ↦ inl (first_is_saved u id saved s stored, save)
    | inr counted ↦ inr counted
  ]

  pub renewal_is_saved : (keeper : K) (r : Result N (Fault × K)) → (IsToBeSaved u id saved → ⊥) → IfErr r (λ refused. refused.1 ≡ keeper)
  renewal_is_saved keeper r stays = absurd (stays (first_is_saved u id saved s stored))
