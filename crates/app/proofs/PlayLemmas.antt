-- What holds of the bytes that were read, if those are known.
use Rattle.std.proofs.Common.{◌≡◌, ◌⊎◌, ℕ, List, Option, Some, None, ⊎_elim, sym, subst}
use Rattle.std.specs.Prelude.{IfSome}
use Rattle.std.specs.Io.KnownBytes.{Appends}
use Rattle.schedules.specs.declared.fault.ScheduleFault.{ScheduleFault}
use Rattle.schedules.specs.declared.fault.ScheduleFault.TheVariants.{NoMemory}
use Rattle.schedules.specs.Schedule.{IsRefusedRightly}
use Rattle.streams.specs.Writes.{Taken}
use Rattle.app.specs.declared.fault.PlayFault.{PlayFault}
use Rattle.app.specs.declared.fault.PlayFault.TheVariants.{Refused, Read}
use Rattle.app.specs.Printed.{refusal_text}
use Rattle.app.specs.Play.{Shows, IsPlayFaultOf, IsPrinted, IsPrintedInPart, IsShown, IsShownInPart, IsRefused}

pub shown_known : (known : Option (List ℕ)) (read slice text : List ℕ) → IfSome known (λ input. read ≡ input) → slice ≡ read → Shows slice text → IfSome known (λ bytes. Shows bytes text)
shown_known None read slice text same is shows = tt
shown_known (Some input) read slice text same is shows = subst (λ bytes. Shows bytes text) same (subst (λ bytes. Shows bytes text) is shows)

pub refused_known : (known : Option (List ℕ)) (read slice : List ℕ) (fault : ScheduleFault) → IfSome known (λ input. read ≡ input) → slice ≡ read → IsRefusedRightly slice fault → IsPlayFaultOf known (Refused fault)
refused_known None read slice fault same is right = tt
refused_known (Some input) read slice fault same is right = subst (λ bytes. IsRefusedRightly bytes fault) same (subst (λ bytes. IsRefusedRightly bytes fault) is right)

no_memory_known : (known : Option (List ℕ)) → IsPlayFaultOf known (Refused NoMemory)
no_memory_known None = tt
no_memory_known (Some input) = tt

-- a fault of reading
pub unread_known : (known : Option (List ℕ)) (fault : PlayFault) → (fault ≡ Read) ⊎ (fault ≡ Refused NoMemory) → IsPlayFaultOf known fault
unread_known known fault only = ⊎_elim (λ is. subst (IsPlayFaultOf known) (sym is) tt) (λ is. subst (IsPlayFaultOf known) (sym is) (no_memory_known known)) only

module _ {S : Type 0} {takes : S → List ℕ → Taken → S → Type 0} {contents : S → Option (List ℕ)} where
  pub all_known : (known : Option (List ℕ)) (old new : S) (text slice : List ℕ) → IfSome known (λ bytes. Shows bytes text) → slice ≡ text → IsPrinted takes contents slice old new → IsShown takes contents known old new
  all_known known old new text slice shows is wrote = (text, shows, subst (λ (t : List ℕ). IsPrinted takes contents t old new) is wrote)

  pub part_known : (known : Option (List ℕ)) (old new : S) (text slice : List ℕ) → IfSome known (λ bytes. Shows bytes text) → slice ≡ text → IsPrintedInPart takes contents slice old new → IsShownInPart takes contents known old new
  part_known known old new text slice shows is wrote = (text, shows, subst (λ (t : List ℕ). IsPrintedInPart takes contents t old new) is wrote)

pub refusal_known : (known old new : Option (List ℕ)) (fault : ScheduleFault) → IsPlayFaultOf known (Refused fault) → Appends old new (refusal_text fault) → IfSome known (λ bytes. IsRefused bytes old new)
refusal_known None old new fault right wrote = tt
refusal_known (Some input) old new fault right wrote = (fault, right, wrote)
