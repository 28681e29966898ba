-- The laws, from what holds of every reached machine.
use Rattle.std.proofs.Common.{◌≡◌, ℕ, zero, suc, ◌+◌, ◌-◌, ◌<◌, ◌≤◌, true, List, [], ◌∷◌, ◌++◌, length, take, fold, Option, Some, None, slice_get, inl, inr, refl, sym, ◌∙◌, ap, subst, ⊎_elim, arith, length-take-le, option_and_then, ◌⊎◌}
use Rattle.std.proofs.lemmas.Bool.{and_from, eq-eqb, cases_order, cond_both, leb-true, leb-false}
use Rattle.decrees.specs.declared.decree.Decree.{Decree}
use Rattle.decrees.specs.declared.decree.Decree.TheVariants.{Commit, Rollback}
use Rattle.decrees.specs.declared.ballot.Ballot.TheVariants.{Accept, Accepted}
use Rattle.decrees.specs.declared.node.Node.TheVariants.{Verifier}
use Rattle.decrees.specs.declared.standing.Standing.{Standing}
use Rattle.decrees.specs.Standing.{first_standing, standing_after, standing, may_follow, is_log_from, is_log, decree_at}
use Rattle.verifier.specs.State.{VerifierState, known, decree_of, next_place}
use Rattle.agreement_laws.specs.Letters.{Letters, Sent, Chosen, RestsOn, Backed, StandsAt}
use Rattle.agreement_laws.proofs.Logs.{length_both, log_at, start_stands}
use Rattle.std.specs.Prelude.{nat_le}
use Rattle.agreement_laws.specs.Machine.{VerifierSlot, New, Up, Stopped, Machine, Event, first_machine, reached, letters_of}
use Rattle.agreement_laws.specs.ChosenList.{last_place, chosen}
use Rattle.agreement_laws.specs.Laws.{AtMostOne, AllBacked, recorded, record_of, Holds, StartsAbove, AllKept, ToldIsChosen, IsStandingAt, ToldStands, ListIsChosen, ListIsBacked, LogsAreChosen, ListGrows}
use Rattle.agreement_laws.proofs.Count.{Quorum-outside}
use Rattle.agreement_laws.proofs.Places.{at_index, index_at, at_within, within_at, get_within, take_at, same_decrees, front_decrees}
use Rattle.agreement_laws.proofs.Letters.{AtLeast, LettersOk, chosen_stays, chosen_proposed, agreed}
use Rattle.agreement_laws.proofs.Stand.{Stand, Stand-down, Chosen-more}
use Rattle.agreement_laws.proofs.Machine.{SlotOk, reached_ok}
use Rattle.agreement_laws.proofs.Grows.{run_grows, run-append}
use Rattle.agreement_laws.proofs.ChosenList.{chosen_below_last, chosen_from-says, chosen_from-some}

pub at_most_one : AtMostOne
at_most_one u events p a b c k = agreed (reached_ok u events).letters p a b c k

-- a chosen decree was proposed, and so it is backed
pub chosen_backed : {u : ℕ} {ls : Letters} → LettersOk u ls → (p : ℕ) (d : Decree) → Chosen u ls p d → Backed u ls p d
chosen_backed ok p d c = let l = chosen_proposed ok p d c in ok.backed l.0 c.0 p d l.1

pub all_backed : AllBacked
all_backed u events p d c = chosen_backed (reached_ok u events).letters p d c

-- who accepted a decree that is chosen holds it
accepts : {u : ℕ} {ls : Letters} {v : ℕ} (s : VerifierState) (p : ℕ) (d : Decree) → LettersOk u ls → Stand u ls v s → (c : Chosen u ls p d) → (a : Option (ℕ × Decree)) → s.accepted ≡ a → p ≡ next_place s → AtLeast c.0 a → Holds s p d
accepts s p d ok st c None is place least = absurd least
accepts {u} {ls} {v} s p d ok st c (Some b) is place least =
    let was = st.grounds.accepted_sent b.0 b.1 is in
    let proposal = subst (λ y. Sent ls (Verifier was.1.0) (Accept b.0 y b.1)) (sym place) was.1.1 in
    let same : b.1 ≡ d = sym (chosen_stays ok (suc b.0) c.0 b.0 was.1.0 p d b.1 (omega arith) least c.1 proposal) in
    inr (place, (b.0, subst (λ y. s.accepted ≡ Some (b.0, y)) same is))

-- a chosen decree's place is above 0
pub chosen_above : {u : ℕ} {ls : Letters} → LettersOk u ls → (p : ℕ) (d : Decree) → Chosen u ls p d → 1 ≤ p
chosen_above ok p d c = let all = (chosen_backed ok p d c).all in omega (arith, all)

-- at each place of the list the decree is chosen
list_chosen : (u : ℕ) (ls : Letters) (p : ℕ) (d : Decree) → decree_at (chosen u ls) p ≡ Some d → Chosen u ls p d
list_chosen u ls p d e =
    let i = at_index (chosen u ls) p d e in
    let at : 1 + (p - 1) ≡ p = omega (arith, i.0) in
    subst (λ z. Chosen u ls z d) at (chosen_from-says u ls 1 (last_place ls) (p - 1) d i.1)

-- and each chosen decree is in it
pub chosen_listed : {u : ℕ} {ls : Letters} → LettersOk u ls → (p : ℕ) (d : Decree) → Chosen u ls p d → decree_at (chosen u ls) p ≡ Some d
chosen_listed {u} {ls} ok p d c =
    let low = chosen_above ok p d c in
    let last = chosen_below_last u ls p d c in
    let backed = chosen_backed ok p d c in
    let all = backed.all in
    let some = chosen_from-some u ls 1 (last_place ls) (p - 1) (omega (arith, low, last))
    (λ k le. ⊎_elim
    (λ (e : 1 + k ≡ p). (d, subst (λ z. Chosen u ls z d) (sym e) c))
    (⊎_elim
    (λ (e : 1 + k < p). let w = within_at backed.before (1 + k) (omega arith) (omega (arith, all, e)) in (w.0, backed.chosen (1 + k) w.0 w.1))
    (λ (e : p < 1 + k). absurd (omega (arith, le, e))))
    (cases_order (1 + k) p)) in
    let at = index_at (chosen u ls) p (p - 1) some.0 (omega (arith, low)) some.1 in
    let same : some.0 ≡ d = agreed ok p some.0 d (list_chosen u ls p some.0 at) c in
    subst (λ x. decree_at (chosen u ls) p ≡ Some x) same at

-- what stands at a place is what the chosen list stands for there
stands_listed : {u : ℕ} {ls : Letters} {place : ℕ} {st : Standing} → LettersOk u ls → StandsAt u ls place st → IsStandingAt (chosen u ls) place st
stands_listed {u} {ls} {place} {st} ok h =
    let f = front_decrees h.before (chosen u ls) (λ p d e. chosen_listed ok p d (h.chosen p d e)) in
    let size : length (chosen u ls) ≡ length h.before + length f.0 = ap (λ (z : List Decree). length z) f.1 ∙ length_both h.before f.0 in
    let front : take place (chosen u ls) ≡ h.before = ap (take place) f.1 ∙ (ap (λ n. take n (h.before ++ f.0)) (sym h.all) ∙ take_all h.before f.0) in
    record { within = omega (arith, size, h.all); stands = sym h.stands ∙ ap standing (sym front) }
  where
    take_all : (xs ys : List Decree) → take (length xs) (xs ++ ys) ≡ xs
    take_all [] ys = refl
    take_all (x ∷ xs) ys = ap (λ z. x ∷ z) (take_all xs ys)

pub told_stands : ToldStands
told_stands u events v p s sent = let ok = (reached_ok u events).letters in stands_listed ok (ok.stood v p s sent)

-- a known place is of the log, or below its start
known_or_below : (s : VerifierState) (p : ℕ) → p ≤ known s → (p ≤ s.start.place) ⊎ ((d : Decree) × (decree_of s p ≡ Some d))
known_or_below s p within = cond_both (nat_le p s.start.place) None (slice_get s.log (p - (s.start.place + 1))) (λ o. (p ≤ s.start.place) ⊎ ((d : Decree) × (o ≡ Some d)))
    (λ e. inl (leb-true p s.start.place e))
    (λ e. let above = leb-false p s.start.place e in inr (get_within s.log (p - (s.start.place + 1)) (omega (arith, above, within))))

holds : {u : ℕ} {ls : Letters} {v : ℕ} (s : VerifierState) (p : ℕ) (d : Decree) → LettersOk u ls → Stand u ls v s → 1 ≤ p → (c : Chosen u ls p d) → Sent ls (Verifier v) (Accepted c.0 p d) → Holds s p d ⊎ StartsAbove (chosen u ls) s p
holds {u} {ls} {v} s p d ok st low c sent = ⊎_elim
    (λ (within : p ≤ known s). ⊎_elim
    (λ (below : p ≤ s.start.place).
    let at = stands_listed ok (start_stands st.grounds.log) in
    inr (record { forgotten = below; within = at.within; stands = at.stands }))
    (λ (at : (b : Decree) × (decree_of s p ≡ Some b)).
    let same : at.0 ≡ d = agreed ok p at.0 d (log_at st.grounds.log p at.0 at.1) c in
    inl (inl (subst (λ y. decree_of s p ≡ Some y) same at.1)))
    (known_or_below s p within))
    (λ (next : (p ≡ known s + 1) × AtLeast c.0 s.accepted). inl (accepts s p d ok st c s.accepted refl next.0 next.1))
    (st.owns.kept c.0 p d sent).1

slot_at : (slots : List VerifierSlot) (v : ℕ) → v < length slots → (slot : VerifierSlot) × (slice_get slots v ≡ Some slot)
slot_at [] v h = absurd (omega arith)
slot_at (x ∷ xs) zero h = (x, refl)
slot_at (x ∷ xs) (suc v) h = slot_at xs v (omega arith)

-- a record stands by the verifier's letters
pub record_stands : (u : ℕ) (events : List Event) (v : ℕ) (saved : VerifierState) → record_of (reached u events).verifiers v ≡ Some saved → Stand u (letters_of u events) v saved
record_stands u events v saved has = by (slice_get (reached u events).verifiers v) refl has
  where
    by : (o : Option VerifierSlot) → slice_get (reached u events).verifiers v ≡ o → option_and_then recorded o ≡ Some saved → Stand u (letters_of u events) v saved
    by None at e = absurd (cc)
    by (Some New) at e = absurd (cc)
    by (Some (Up s x)) at e =
        let st = (reached_ok u events).stands v (Up s x) at in
        let same : x ≡ saved = cc in
        subst (Stand u (letters_of u events) v) (sym st.1 ∙ same) (Stand-down st.0)
    by (Some (Stopped x)) at e =
        let same : x ≡ saved = cc in
        subst (Stand u (letters_of u events) v) same ((reached_ok u events).stands v (Stopped x) at).0

-- who has said that it accepted a decree has a record
has_record : (u : ℕ) (ls : Letters) (v : ℕ) (slot : VerifierSlot) (w p : ℕ) (d : Decree) → SlotOk u ls v slot → 1 ≤ p → Sent ls (Verifier v) (Accepted w p d) → (saved : VerifierState) × (recorded slot ≡ Some saved)
has_record u ls v New w p d st low sent = absurd (⊎_elim
    (λ (z : p ≤ 0). omega (arith, low, z))
    (λ (z : (p ≡ 0 + 1) × ⊥). z.1)
    (st.owns.kept w p d sent).1)
has_record u ls v (Up s saved) w p d st low sent = (saved, refl)
has_record u ls v (Stopped saved) w p d st low sent = (saved, refl)

record_at : (slots : List VerifierSlot) (v : ℕ) (slot : VerifierSlot) (saved : VerifierState) → slice_get slots v ≡ Some slot → recorded slot ≡ Some saved → record_of slots v ≡ Some saved
record_at slots v slot saved at has = ap (option_and_then recorded) at ∙ has

pub all_kept : AllKept
all_kept u events lost p d few c =
    let good = reached_ok u events in
    let ok = good.letters in
    let count = good.count in
    let low = chosen_above ok p d c in
    let q = Quorum-outside lost few c.1 in
    let at = slot_at (reached u events).verifiers q.0 (omega (arith, q.1, count)) in
    let has = has_record u (letters_of u events) q.0 at.0 c.0 p d (good.stands q.0 at.0 at.1) low q.3 in
    let recorded_at : record_of (reached u events).verifiers q.0 ≡ Some has.0 = record_at (reached u events).verifiers q.0 at.0 has.0 at.1 has.1 in
    record {
      verifier = q.0;
      saved = has.0;
      is_member = q.1;
      not_lost = q.2;
      has_record = recorded_at;
      keeps = holds has.0 p d ok (record_stands u events q.0 has.0 recorded_at) low c q.3;
    }

pub told_is_chosen : ToldIsChosen
told_is_chosen u events v p d sent = (reached_ok u events).letters.decided v p d sent

pub list_is_chosen : ListIsChosen
list_is_chosen u events p d = (list_chosen u (letters_of u events) p d, chosen_listed (reached_ok u events).letters p d)

-- what backs a decree are those before it in the list
before_is : {u : ℕ} {ls : Letters} → LettersOk u ls → (p : ℕ) (d : Decree) → decree_at (chosen u ls) p ≡ Some d → (b : Backed u ls p d) → b.before ≡ take (p - 1) (chosen u ls)
before_is {u} {ls} ok p d at b =
    let within = at_within (chosen u ls) p d at in
    let all = b.all in
    let few : length (take (p - 1) (chosen u ls)) ≡ p - 1 = length-take-le (p - 1) (chosen u ls) (omega (arith, within.0, within.1)) in
    same_decrees b.before (take (p - 1) (chosen u ls)) (omega (arith, all, few))
    (λ q x e. let w = at_within b.before q x e in take_at (p - 1) (chosen u ls) q x (omega (arith, all, w.1)) (chosen_listed ok q x (b.chosen q x e)))

list_rests : {u : ℕ} {ls : Letters} → LettersOk u ls → (p : ℕ) (d : Decree) → decree_at (chosen u ls) p ≡ Some d → RestsOn u ls (take (p - 1) (chosen u ls)) d
list_rests {u} {ls} ok p d at =
    let b = chosen_backed ok p d (list_chosen u ls p d at) in
    subst (λ ds. RestsOn u ls ds d) (before_is ok p d at b) b.rests

may_follow-rests : (u : ℕ) (ls : Letters) (before : List Decree) (d : Decree) → RestsOn u ls before d → may_follow (standing before) d ≡ true
may_follow-rests u ls before (Commit n t) r = eq-eqb n ((standing before).n + 1) r.next
may_follow-rests u ls before Rollback r = refl

log_from : (s : Standing) (ds : List Decree) → ((i : ℕ) (d : Decree) → slice_get ds i ≡ Some d → may_follow (fold standing_after s (take i ds)) d ≡ true) → is_log_from s ds ≡ true
log_from s [] h = refl
log_from s (d ∷ ds) h = and_from (may_follow s d) (is_log_from (standing_after s d) ds) (h 0 d refl) (log_from (standing_after s d) ds (λ i b e. h (suc i) b e))

pub list_is_log : {u : ℕ} {ls : Letters} → LettersOk u ls → is_log (chosen u ls) ≡ true
list_is_log {u} {ls} ok = log_from first_standing (chosen u ls)
    (λ i d e.
    let at = index_at (chosen u ls) (i + 1) i d refl e in
    let same : (i + 1) - 1 ≡ i = omega arith in
    may_follow-rests u ls (take i (chosen u ls)) d (subst (λ k. RestsOn u ls (take k (chosen u ls)) d) same (list_rests ok (i + 1) d at)))

pub list_is_backed : ListIsBacked
list_is_backed u events = record {
  rests = λ p d at. list_rests (reached_ok u events).letters p d at;
  log = list_is_log (reached_ok u events).letters;
}

pub logs_are_chosen : LogsAreChosen
logs_are_chosen u events v saved has =
    let l = (record_stands u events v saved has).grounds.log in
    let f = front_decrees (l.before ++ saved.log) (chosen u (letters_of u events)) (λ p d at. chosen_listed (reached_ok u events).letters p d (l.all p d at)) in
    record { before = l.before; more = f.0; placed = l.placed; stands = l.stood; all = f.1 }

-- what is chosen by these letters is chosen by more
chosen_front : {u : ℕ} (ls all new : Letters) → all ≡ ls ++ new → LettersOk u all → (more : List Decree) × (chosen u all ≡ chosen u ls ++ more)
chosen_front {u} ls all new e ok = front_decrees (chosen u ls) (chosen u all)
    (λ p d at. chosen_listed ok p d (subst (λ z. Chosen u z p d) (sym e) (Chosen-more new (list_chosen u ls p d at))))

pub list_grows : ListGrows
list_grows u events more =
    let later = run_grows u more (reached u events) in
    chosen_front (letters_of u events) (letters_of u (events ++ more)) later.0
    (ap (λ (m : Machine). m.letters) (run-append u events more (first_machine u)) ∙ later.1)
    (reached_ok u (events ++ more)).letters
