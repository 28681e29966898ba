-- What is always true of a slot, and by what it is identified.
use Rattle.std.specs.Prelude.{◌≡◌, ℕ, Bool, IsTrue, List, Option, ◌⊎◌, refl}
use Rattle.std.specs.Coded.{Coded, code_by, coded×, coded⊎, coded_ℕ, coded_bool, coded_list, coded_option}
use Rattle.std.proofs.Common.{inl, inr}
use Rattle.keeper.specs.Kept.{Kept}
use Rattle.exec_lines.specs.State.{ExecutorState}
use Rattle.exec_node.specs.Executor.{ExecutorView, executor_view_code}
use Rattle.verifier.specs.State.{VerifierState}
use Rattle.verifier.specs.Verifier.{VerifierView}
use Rattle.slots.specs.Slot.{Slot}
use Rattle.slots.specs.declared.slot.Slot.TheVariants.{Up, Down, Gone}

abbrev pub verifier_up : VerifierView → Bool
verifier_up v = v.up

abbrev pub executor_up : ExecutorView → Bool
executor_up e = e.up

-- a replica that is there was not stopped
abbrev pub IsUpAt : {N : Type 0} → (N → Bool) → Slot N → Type 0
IsUpAt up (Up n) = IsTrue (up n)
IsUpAt up (Down kept) = Unit {0}
IsUpAt up (Gone kept) = Unit {0}

-- a verifier is identified by what it keeps
abbrev verifier_view_code : Coded VerifierState → Coded VerifierView
verifier_view_code state =
    code_by ((((((ℕ × ℕ) × VerifierState) × Bool) × Option (List ℕ)) × ℕ) × Bool)
    (coded× (coded× (coded× (coded× (coded× (coded× coded_ℕ coded_ℕ) state) coded_bool) (coded_option (coded_list coded_ℕ))) coded_ℕ) coded_bool)
    (λ v. ((((((v.id, v.u), v.state), v.up), v.saved), v.failures), v.told))
    (λ p. record { id = p.0.0.0.0.0.0; u = p.0.0.0.0.0.1; state = p.0.0.0.0.1; up = p.0.0.0.1; saved = p.0.0.1; failures = p.0.1; told = p.1 })
    (λ _. refl)

abbrev kept_code : Coded Kept
kept_code =
    code_by ((Option (List ℕ) × ℕ) × Bool) (coded× (coded× (coded_option (coded_list coded_ℕ)) coded_ℕ) coded_bool)
    (λ k. ((k.saved, k.failures), k.fails_next))
    (λ p. record { saved = p.0.0; failures = p.0.1; fails_next = p.1 })
    (λ _. refl)

module _ {N : Type 0} where
  abbrev slot_parts : Slot N → N ⊎ (Kept ⊎ Kept)
  slot_parts (Up n) = inl n
  slot_parts (Down kept) = inr (inl kept)
  slot_parts (Gone kept) = inr (inr kept)

  abbrev slot_of_parts : N ⊎ (Kept ⊎ Kept) → Slot N
  slot_of_parts (inl n) = Up n
  slot_of_parts (inr (inl kept)) = Down kept
  slot_of_parts (inr (inr kept)) = Gone kept

  pub slot_of_parts-slot_parts : (s : Slot N) → slot_of_parts (slot_parts s) ≡ s
  slot_of_parts-slot_parts (Up n) = refl
  slot_of_parts-slot_parts (Down kept) = refl
  slot_of_parts-slot_parts (Gone kept) = refl

  -- a slot is identified by what is there
  abbrev slot_code : Coded N → Coded (Slot N)
  slot_code n = code_by (N ⊎ (Kept ⊎ Kept)) (coded⊎ n (coded⊎ kept_code kept_code)) slot_parts slot_of_parts slot_of_parts-slot_parts

-- by the code of its state
abbrev pub executor_slot_code : Coded ExecutorState → Coded (Slot ExecutorView)
executor_slot_code state = slot_code (executor_view_code state)

abbrev pub verifier_slot_code : Coded VerifierState → Coded (Slot VerifierView)
verifier_slot_code state = slot_code (verifier_view_code state)
