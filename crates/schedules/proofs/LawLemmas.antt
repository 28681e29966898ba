-- One schedule, and one first bad line.
use Rattle.std.proofs.Common.{◌≡◌, ℕ, zero, suc, ◌<◌, ◌≤◌, List, [], ◌∷◌, length, take, map, inl, inr, ⊎_elim, refl, sym, ap, subst, ◌∙◌, arith}
use Rattle.std.specs.List.{AllZip}
use Rattle.std.proofs.lemmas.Bool.{cases_Bool, cases_lt}
use Rattle.schedules.specs.declared.line.ScheduleLine.{ScheduleLine}
use Rattle.schedules.specs.declared.schedule.Schedule.{Schedule}
use Rattle.schedules.specs.Line.{IsLineText}
use Rattle.schedules.specs.Schedule.{lines_of, is_skipped, told_lines, SaySchedule, SpellsSchedule, AllFit, IsFirstBad}
use Rattle.schedules.specs.Reading.{line_view}
use Rattle.schedules.specs.Laws.{IsSameSchedule}
use Rattle.schedules.proofs.OptionLemmas.{at_some}
use Rattle.schedules.proofs.LineLemmas.{line_read}
use Rattle.schedules.proofs.HeadLemmas.{size_read, clients_read}

-- ---- one schedule

same_lines : (lines : List (List ℕ)) (xs ys : List ScheduleLine) → AllZip IsLineText xs lines → AllZip IsLineText ys lines → map line_view xs ≡ map line_view ys
same_lines [] [] [] a b = refl
same_lines [] [] (y ∷ ys) a b = absurd b
same_lines [] (x ∷ xs) ys a b = absurd a
same_lines (line ∷ lines) [] ys a b = absurd a
same_lines (line ∷ lines) (x ∷ xs) [] a b = absurd b
same_lines (line ∷ lines) (x ∷ xs) (y ∷ ys) a b =
    let first : line_view x ≡ line_view y = at_some (line_view x) (line_view y) (sym (line_read x line a.0) ∙ line_read y line b.0) in
    let rest = same_lines lines xs ys a.1 b.1 in
    cc

same_schedule : (lines : List (List ℕ)) (s t : Schedule) → SaySchedule lines s → SaySchedule lines t → IsSameSchedule s t
same_schedule [] s t a b = absurd a
same_schedule (size ∷ []) s t a b = absurd a
same_schedule (size ∷ clients ∷ lines) s t a b =
    let u : s.config.u ≡ t.config.u = at_some s.config.u t.config.u (sym (size_read s.config.u size a.0) ∙ size_read t.config.u size b.0) in
    let c : s.config.clients ≡ t.config.clients = at_some s.config.clients t.config.clients (sym (clients_read s.config.clients clients a.1) ∙ clients_read t.config.clients clients b.1) in
    record {
      config = ap (λ (n : ℕ). record { u = n; clients = s.config.clients }) u ∙ ap (λ (n : ℕ). record { u = t.config.u; clients = n }) c;
      lines = same_lines lines s.lines.items t.lines.items a.2 b.2;
    }

pub one_is_spelled : (bytes : List ℕ) (s t : Schedule) → SpellsSchedule bytes s → SpellsSchedule bytes t → IsSameSchedule s t
one_is_spelled bytes s t a b = same_schedule (told_lines (lines_of bytes)) s t a b

-- ---- a bad line

all_lines_fit : (n : ℕ) (lines : List (List ℕ)) (xs : List ScheduleLine) → AllZip IsLineText xs lines → AllFit (suc (suc n)) lines
all_lines_fit n [] xs h = tt
all_lines_fit n (line ∷ lines) [] h = absurd h
all_lines_fit n (line ∷ lines) (x ∷ xs) h = (inr (x, h.0), all_lines_fit (suc n) lines xs h.1)

schedule_fits : (lines : List (List ℕ)) (s : Schedule) → SaySchedule lines s → AllFit 0 lines × (2 ≤ length lines)
schedule_fits [] s h = absurd h
schedule_fits (size ∷ []) s h = absurd h
schedule_fits (size ∷ clients ∷ lines) s h = (((s.config.u, h.0), ((s.config.clients, h.1), all_lines_fit 0 lines s.lines.items h.2)), omega arith)

-- the first so many of lines that fit do
front_fits : (place n : ℕ) (lines : List (List ℕ)) → AllFit place (told_lines lines) → AllFit place (told_lines (take n lines))
front_fits place zero lines h = tt
front_fits place (suc n) [] h = tt
front_fits place (suc n) (line ∷ lines) h =
    elim (cases_Bool (is_skipped line)) [
      | inl skipped ↦ rw skipped (front_fits place n lines (rw skipped at h))
      | inr says ↦ rw says ((rw says at h).0, front_fits (suc place) n lines (rw says at h).1)
    ]

pub bad_spells_none : (bytes : List ℕ) (number : ℕ) (s : Schedule) → IsFirstBad (lines_of bytes) number → SpellsSchedule bytes s → ⊥
bad_spells_none bytes number s bad h =
    let fits = schedule_fits (told_lines (lines_of bytes)) s h in
    ⊎_elim (λ x. x.1 (front_fits 0 (suc bad.before) (lines_of bytes) fits.0)) (λ x. omega (arith, x.1, fits.1)) bad.bad

-- ---- one first bad line

front_of_front : (m n : ℕ) (lines : List (List ℕ)) → m ≤ n → take m (take n lines) ≡ take m lines
front_of_front zero n lines l = refl
front_of_front (suc m) zero lines l = absurd (omega arith)
front_of_front (suc m) (suc n) [] l = refl
front_of_front (suc m) (suc n) (x ∷ lines) l = ap (λ (xs : List (List ℕ)). x ∷ xs) (front_of_front m n lines (omega arith))

-- none is bad before one that is the first
not_before : (lines : List (List ℕ)) (a b : ℕ) (x : IsFirstBad lines a) (y : IsFirstBad lines b) → x.before < y.before → ⊥
not_before lines a b x y l =
    let within : y.before ≤ length lines = ⊎_elim (λ h. omega (arith, h.0)) (λ h. omega (arith, h.0)) y.bad in
    let fits : AllFit 0 (told_lines (take (suc x.before) lines)) = subst (λ (ls : List (List ℕ)). AllFit 0 (told_lines ls)) (front_of_front (suc x.before) y.before lines (omega arith)) (front_fits 0 (suc x.before) (take y.before lines) y.all_fit) in
    ⊎_elim (λ h. h.1 fits) (λ h. omega (arith, h.0, within)) x.bad

pub one_is_first_bad : (lines : List (List ℕ)) (a b : ℕ) → IsFirstBad lines a → IsFirstBad lines b → a ≡ b
one_is_first_bad lines a b x y =
    elim (cases_lt x.before y.before) [
      | inl l ↦ absurd (not_before lines a b x y l)
      | inr l ↦ elim (cases_lt y.before x.before) [
        | inl m ↦ absurd (not_before lines b a y x m)
        | inr m ↦ omega (arith, x.numbered, y.numbered)
      ]
    ]
