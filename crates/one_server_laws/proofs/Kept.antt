-- What an executor of a world has saved is what the machine's has.
use Rattle.std.proofs.Common.{◌≡◌, ℕ, ◌<◌, List, [], Option, Some, None, inl, inr, sym, ap, ◌∙◌, subst, arith}
use Rattle.states.specs.State.{StateView}
use Rattle.executor.specs.Work.{TentativeView}
use Rattle.exec_node.specs.Executor.{ExecutorView}
use Rattle.custody_laws.specs.Durable.{Durable, first_durable, In, Keeps}
use Rattle.slots.specs.Slot.{Slot}
use Rattle.slots.specs.declared.slot.Slot.TheVariants.{Up, Down, Gone}
use Rattle.one_server_laws.specs.Saved.{AreLinked, IsSpelled, FoundIn, IsSavedIn, IsHadIn}
use Rattle.one_server_laws.specs.Machines.{IsRecordOf, IsSameExecutor}
use Rattle.one_server_laws.specs.HeldLaws.{executor_record}
use Rattle.one_server_laws.proofs.Records.{one_is_spelled}

-- what is found in a record, and what the machine's executor has
spelled_is_found : (u id : ℕ) (o : Option (List ℕ)) (x : Durable) → IsSpelled u id o x → FoundIn u id o x
spelled_is_found u id None x spelled = absurd (let text = spelled.text in cc text)
spelled_is_found u id (Some bytes) x spelled = spelled

found_of : (u id : ℕ) (o : Option (List ℕ)) (y : Durable) → AreLinked y.have y.chain → IsRecordOf u id o y → FoundIn u id o y
found_of u id None y linked same = same
found_of u id (Some bytes) y linked same = record { text = ap (λ (b : List ℕ). Some b) same; linked = linked }

found_is : (u id : ℕ) (o : Option (List ℕ)) (x y : Durable) → AreLinked y.have y.chain → IsRecordOf u id o y → FoundIn u id o x → x ≡ y
found_is u id None x y linked same found = found ∙ sym same
found_is u id (Some bytes) x y linked same found = one_is_spelled u id (Some bytes) x y found (found_of u id (Some bytes) y linked same)

-- and alike in a slot
pub saved_is_had : (u id : ℕ) (slot : Slot ExecutorView) (x : Durable) → IsSavedIn u id slot x → IsHadIn u id slot x
saved_is_had u id (Up e) x saved = saved
saved_is_had u id (Down kept) x saved = spelled_is_found u id kept.saved x saved
saved_is_had u id (Gone kept) x saved = spelled_is_found u id kept.saved x saved

pub had_in : (u id : ℕ) (slot : Slot ExecutorView) (y : Durable) → AreLinked y.have y.chain → IsSameExecutor u id y slot → IsHadIn u id slot y
had_in u id (Up e) y linked same = same.saved
had_in u id (Down kept) y linked same = found_of u id kept.saved y linked same
had_in u id (Gone kept) y linked same = found_of u id kept.saved y linked same

pub had_is : (u id : ℕ) (slot : Slot ExecutorView) (x y : Durable) → AreLinked y.have y.chain → IsSameExecutor u id y slot → IsHadIn u id slot x → x ≡ y
had_is u id (Up e) x y linked same had = sym had ∙ same.saved
had_is u id (Down kept) x y linked same had = found_is u id kept.saved x y linked same had
had_is u id (Gone kept) x y linked same had = found_is u id kept.saved x y linked same had

pub saved_is : (u id : ℕ) (slot : Slot ExecutorView) (x y : Durable) → AreLinked y.have y.chain → IsSameExecutor u id y slot → IsSavedIn u id slot x → x ≡ y
saved_is u id slot x y linked same saved = had_is u id slot x y linked same (saved_is_had u id slot x saved)

-- what keeps a state of a number above 0 is in a record
none_in : {t : TentativeView} → In t [] → ⊥
none_in i = elim i [ ]

keeps_none : (s : StateView) → Keeps first_durable s → 0 < s.number → ⊥
keeps_none s (inl e) low = let n : 0 ≡ s.number = ap (λ (x : StateView). x.number) e in omega (arith, n, low)
keeps_none s (inr h) low = none_in h.1

spelled_by : (u id : ℕ) (o : Option (List ℕ)) (y : Durable) (s : StateView) → AreLinked y.have y.chain → IsRecordOf u id o y → Keeps y s → 0 < s.number → IsSpelled u id o y
spelled_by u id None y s linked same keeps low = absurd (keeps_none s (subst (λ (x : Durable). Keeps x s) same keeps) low)
spelled_by u id (Some bytes) y s linked same keeps low = record { text = ap (λ (b : List ℕ). Some b) same; linked = linked }

pub recorded_in : (u id : ℕ) (slot : Slot ExecutorView) (y : Durable) (s : StateView) → AreLinked y.have y.chain → IsSameExecutor u id y slot → Keeps y s → 0 < s.number → IsSpelled u id (executor_record slot) y
recorded_in u id (Up e) y s linked same keeps low = record { text = same.recorded; linked = linked }
recorded_in u id (Down kept) y s linked same keeps low = spelled_by u id kept.saved y s linked same keeps low
recorded_in u id (Gone kept) y s linked same keeps low = spelled_by u id kept.saved y s linked same keeps low

pub saved_in : (u id : ℕ) (slot : Slot ExecutorView) (y : Durable) → IsSameExecutor u id y slot → IsSpelled u id (executor_record slot) y → IsSavedIn u id slot y
saved_in u id (Up e) y same spelled = same.saved
saved_in u id (Down kept) y same spelled = spelled
saved_in u id (Gone kept) y same spelled = spelled
