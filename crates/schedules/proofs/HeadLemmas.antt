-- What a whole file says.
use Rattle.std.proofs.Common.{◌≡◌, ℕ, ◌+◌, cond, leb, List, [], ◌∷◌, ◌++◌, map, Option, Some, None, Result, Ok, Err, inl, inr, refl, sym, ap, subst, ◌∙◌, codes, bytes_eq}
use Rattle.std.specs.List.{AllZip}
use Rattle.std.proofs.lemmas.Bool.{cases_Bool, leb-true, le-leb}
use Rattle.std.proofs.lemmas.Slice.Eq.{bytes_eq-Decides}
use Rattle.proto.specs.Line.{◌>>=◌}
use Rattle.proto.specs.Number.{number_below}
use Rattle.events.specs.Config.{ConfigView}
use Rattle.schedules.specs.declared.schedule.TheConstants.{MOST_CLIENTS}
use Rattle.schedules.specs.declared.line.ScheduleLine.{ScheduleLine}
use Rattle.schedules.specs.declared.schedule.Schedule.{Schedule}
use Rattle.schedules.specs.Parts.{parted}
use Rattle.schedules.specs.Line.{IsLineText}
use Rattle.schedules.specs.Schedule.{is_skipped, told_lines, IsSizeText, IsClientsText, SaySchedule}
use Rattle.schedules.specs.Reading.{LineView, line_view, line_said, size_said, clients_said, or_bad, head_said, with_lines, lines_said}
use Rattle.schedules.proofs.OptionLemmas.{bind_some, guard_some, at_some}
use Rattle.schedules.proofs.LinesLemmas.{parted_text}
use Rattle.schedules.proofs.LineLemmas.{line_text}

-- ---- the first two lines

pub size_read : (u : ℕ) (line : List ℕ) → IsSizeText u line → size_said line ≡ Some u
size_read u line (rest, e, written) = rw (e, written) refl

pub size_text : (line : List ℕ) (u : ℕ) → size_said line ≡ Some u → IsSizeText u line
size_text line u h =
    let p = bind_some (parted 32 line) (λ (p : List ℕ × List ℕ). cond (bytes_eq p.0 (codes "u")) (number_below 4 p.1) None) u h in
    let g = guard_some (bytes_eq p.0.0 (codes "u")) (number_below 4 p.0.1) u p.2 in
    (p.0.1, parted_text 32 line p.0 p.1 ∙ ap (λ (w : List ℕ). w ++ 32 ∷ p.0.1) ((bytes_eq-Decides p.0.0 (codes "u")).0 g.0), g.1)

pub clients_read : (c : ℕ) (line : List ℕ) → IsClientsText c line → clients_said line ≡ Some c
clients_read c line ((rest, e, written), some) = rw (e, written, le-leb 1 c some) refl

pub clients_text : (line : List ℕ) (c : ℕ) → clients_said line ≡ Some c → IsClientsText c line
clients_text line c h =
    let p = bind_some (parted 32 line) (λ (p : List ℕ × List ℕ). (cond (bytes_eq p.0 (codes "clients")) (number_below (MOST_CLIENTS + 1) p.1) None) >>= λ n. cond (leb 1 n) (Some n) None) c h in
    let n = bind_some (cond (bytes_eq p.0.0 (codes "clients")) (number_below (MOST_CLIENTS + 1) p.0.1) None) (λ (n : ℕ). cond (leb 1 n) (Some n) None) c p.2 in
    let g = guard_some (bytes_eq p.0.0 (codes "clients")) (number_below (MOST_CLIENTS + 1) p.0.1) n.0 n.1 in
    let some = guard_some (leb 1 n.0) (Some n.0) c n.2 in
    subst (λ (m : ℕ). IsClientsText m line) (at_some n.0 c some.1)
    ((p.0.1, parted_text 32 line p.0 p.1 ∙ ap (λ (w : List ℕ). w ++ 32 ∷ p.0.1) ((bytes_eq-Decides p.0.0 (codes "clients")).0 g.0), g.1), leb-true 1 n.0 some.0)

-- ---- results

pub or_bad_ok : {A B : Type 0} (o : Option A) (k : ℕ) (f : A → Result B ℕ) (y : B) → or_bad o k f ≡ Ok y → (x : A) × (o ≡ Some x) × (f x ≡ Ok y)
or_bad_ok None k f y e = absurd (cc)
or_bad_ok (Some x) k f y e = (x, refl, e)

with_ok : (front : List LineView) (r : Result (List LineView) ℕ) (vs : List LineView) → with_lines front r ≡ Ok vs → (ws : List LineView) × (r ≡ Ok ws) × (front ++ ws ≡ vs)
with_ok front (Ok ws) vs e = (ws, refl, cc)
with_ok front (Err n) vs e = absurd (cc)

abbrev pub read_whole : {A : Type 0} → A → Result A ℕ
read_whole x = Ok x

pub at_ok : {A : Type 0} (x y : A) → read_whole x ≡ read_whole y → x ≡ y
at_ok x y e = cc

-- ---- all lines

-- the lines say this of the size of the world, where u may be known, and the rest
abbrev pub Tells : Option ℕ → List (List ℕ) → ConfigView → List ScheduleLine → Type 0
Tells None [] c xs = ⊥
Tells None (size ∷ []) c xs = ⊥
Tells None (size ∷ clients ∷ lines) c xs = IsSizeText c.u size × IsClientsText c.clients clients × AllZip IsLineText xs lines
Tells (Some u) [] c xs = ⊥
Tells (Some u) (clients ∷ lines) c xs = (u ≡ c.u) × IsClientsText c.clients clients × AllZip IsLineText xs lines

size_tells : (u : ℕ) (line : List ℕ) (lines : List (List ℕ)) (c : ConfigView) (xs : List ScheduleLine) → size_said line ≡ Some u → Tells (Some u) lines c xs → Tells None (line ∷ lines) c xs
size_tells u line [] c xs e h = absurd h
size_tells u line (clients ∷ lines) c xs e h = (subst (λ (n : ℕ). IsSizeText n line) h.0 (size_text line u e), h.1, h.2)

abbrev Head : Type 0
Head = ConfigView × ℕ × List (List ℕ)

pub head_tells : (size : Option ℕ) (before : ℕ) (lines : List (List ℕ)) (h : Head) → head_said size before lines ≡ Ok h → (xs : List ScheduleLine) → AllZip IsLineText xs (told_lines h.2) → Tells size (told_lines lines) h.0 xs
head_tells None before [] h e xs all = absurd (cc)
head_tells (Some u) before [] h e xs all = absurd (cc)
head_tells None before (line ∷ lines) h e xs all =
    elim (cases_Bool (is_skipped line)) [
      | inl skipped ↦ rw skipped (head_tells None (before + 1) lines h (rw skipped at e) xs all)
      | inr says ↦
          let u = or_bad_ok (size_said line) (before + 1) (λ (u : ℕ). head_said (Some u) (before + 1) lines) h (rw says at e) in
          rw says (size_tells u.0 line (told_lines lines) h.0 xs u.1 (head_tells (Some u.0) (before + 1) lines h u.2 xs all))
    ]
head_tells (Some u) before (line ∷ lines) h e xs all =
    elim (cases_Bool (is_skipped line)) [
      | inl skipped ↦ rw skipped (head_tells (Some u) (before + 1) lines h (rw skipped at e) xs all)
      | inr says ↦
          let c = or_bad_ok (clients_said line) (before + 1) (λ (c : ℕ). Ok (record { u = u; clients = c }, before + 1, lines)) h (rw says at e) in
          let made : Head = (record { u = u; clients = c.0 }, before + 1, lines) in
          rw says (subst (λ (g : Head). AllZip IsLineText xs (told_lines g.2) → Tells (Some u) (line ∷ told_lines lines) g.0 xs) (at_ok made h c.2) (λ rest. (refl, clients_text line c.0 c.1, rest)) all)
    ]

line_tells : (line : List ℕ) (lines : List (List ℕ)) (v : LineView) (vs all : List LineView) (xs : List ScheduleLine) → line_said line ≡ Some v → ((ys : List ScheduleLine) → map line_view ys ≡ vs → AllZip IsLineText ys lines) → v ∷ vs ≡ all → map line_view xs ≡ all → AllZip IsLineText xs (line ∷ lines)
line_tells line lines v vs all [] e rest made m = absurd (cc)
line_tells line lines v vs all (x ∷ xs) e rest made m = (line_text line v e x cc, rest xs cc)

none_tells : (xs : List ScheduleLine) → map line_view xs ≡ [] → AllZip IsLineText xs []
none_tells [] m = tt
none_tells (x ∷ xs) m = absurd (cc)

pub lines_tell : (before : ℕ) (lines : List (List ℕ)) (vs : List LineView) → lines_said before lines ≡ Ok vs → (xs : List ScheduleLine) → map line_view xs ≡ vs → AllZip IsLineText xs (told_lines lines)
lines_tell before [] vs e xs m = none_tells xs (m ∙ sym (at_ok [] vs e))
lines_tell before (line ∷ lines) vs e xs m =
    elim (cases_Bool (is_skipped line)) [
      | inl skipped ↦ rw skipped (lines_tell (before + 1) lines vs (rw skipped at e) xs m)
      | inr says ↦
          let v = or_bad_ok (line_said line) (before + 1) (λ (said : LineView). with_lines (said ∷ []) (lines_said (before + 1) lines)) vs (rw says at e) in
          let others = with_ok (v.0 ∷ []) (lines_said (before + 1) lines) vs v.2 in
          rw says (line_tells line (told_lines lines) v.0 others.0 vs xs v.1 (λ ys n. lines_tell (before + 1) lines others.0 others.1 ys n) others.2 m)
    ]

pub says_schedule : (lines : List (List ℕ)) (s : Schedule) → Tells None lines s.config s.lines.items → SaySchedule lines s
says_schedule [] s h = absurd h
says_schedule (size ∷ []) s h = absurd h
says_schedule (size ∷ clients ∷ lines) s h = h
