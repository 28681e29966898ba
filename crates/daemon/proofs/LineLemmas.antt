-- The lines of one kind, over all looks at a count.
use Rattle.std.proofs.Common.{◌≡◌, ℕ, true, false, cond, not, ◌+◌, ◌-◌, ◌<◌, ◌≤◌, List, [], ◌∷◌, Option, Some, None, arith, refl}
use Rattle.std.proofs.lemmas.Bool.{and_parts, not-true, ltb-true}
use Rattle.daemon.specs.declared.told.Told.{Told}
use Rattle.daemon.specs.Told.{is_second, is_line_due, report_lines, number_of_all, told_of_all, NeverFalls, IsUpTo, IsBefore, Rises}

pub numbers : (told : Told) (looks : List (ℕ × ℕ)) → told.count + number_of_all (report_lines told looks) ≡ (told_of_all told looks).count
numbers told [] = omega arith
numbers told (look ∷ looks) =
    elim (is_line_due told look.0 look.1) as (λ b. is_line_due told look.0 look.1 ≡ b → told.count + number_of_all (cond b ((look.0 - told.count, look.1) ∷ report_lines (cond b (record { count = look.0; second = Some look.1 }) told) looks) (report_lines (cond b (record { count = look.0; second = Some look.1 }) told) looks)) ≡ (told_of_all (cond b (record { count = look.0; second = Some look.1 }) told) looks).count) [
      | true ↦ λ e.
          let below : told.count < look.0 = ltb-true _ _ (and_parts _ _ e).0 in
          let rest = numbers (record { count = look.0; second = Some look.1 }) looks in
          omega arith
      | false ↦ λ e. numbers told looks
    ] refl

-- another second than the last one, and not before it, is after it
is_after : (last : Option ℕ) (from second : ℕ) → not (is_second last second) ≡ true → IsUpTo last from → from ≤ second → IsBefore last second
is_after None from second other up l = tt
is_after (Some last) from second other up l = grind (arith, not-true)

stays_up_to : (last : Option ℕ) (from second : ℕ) → IsUpTo last from → from ≤ second → IsUpTo last second
stays_up_to None from second up l = tt
stays_up_to (Some last) from second up l = omega arith

pub seconds : (told : Told) (looks : List (ℕ × ℕ)) (from : ℕ) → IsUpTo told.second from → NeverFalls from looks → Rises told.second (report_lines told looks)
seconds told [] from up falls = tt
seconds told (look ∷ looks) from up falls =
    elim (is_line_due told look.0 look.1) as (λ b. is_line_due told look.0 look.1 ≡ b → Rises told.second (cond b ((look.0 - told.count, look.1) ∷ report_lines (cond b (record { count = look.0; second = Some look.1 }) told) looks) (report_lines (cond b (record { count = look.0; second = Some look.1 }) told) looks))) [
      | true ↦ λ e. (is_after told.second from look.1 (and_parts _ _ e).1 up falls.0, seconds (record { count = look.0; second = Some look.1 }) looks look.1 (omega arith) falls.1)
      | false ↦ λ e. seconds told looks look.1 (stays_up_to told.second from look.1 up falls.0) falls.1
    ] refl
