-- The computed list of chosen decrees: each is chosen, each chosen one is in it, and it only grows.
use Rattle.std.proofs.Common.{◌≡◌, ℕ, zero, suc, ◌+◌, ◌<◌, ◌≤◌, ◌⊎◌, Bool, true, ◌&&◌, List, [], ◌∷◌, Option, Some, None, slice_get, inl, inr, refl, sym, ◌∙◌, ap, subst, ⊎_elim, arith, bytes_eq, if◌then◌else◌}
use Rattle.std.specs.Prelude.{◌==◌}
use Rattle.std.specs.Option.{option_or}
use Rattle.std.proofs.Math.Nat.{le-max_left, le-max_right}
use Rattle.std.proofs.lemmas.Slice.Eq.{bytes_eq-Decides}
use Rattle.std.proofs.lemmas.Bool.{and_parts, and_from, or_cases, or_left, or_right, eqb-true, eq-eqb, lt-ltb, cond_both, false≢true}
use Rattle.decrees.specs.declared.decree.Decree.{Decree}
use Rattle.decrees.specs.declared.decree.Decree.TheVariants.{Commit, Rollback}
use Rattle.decrees.specs.declared.ballot.Ballot.{Ballot}
use Rattle.decrees.specs.declared.ballot.Ballot.TheVariants.{Token, Accept, Accepted, Decided, Ask, Change, Promise, Stands}
use Rattle.decrees.specs.declared.node.Node.{Node}
use Rattle.decrees.specs.declared.node.Node.TheVariants.{Client, Executor, Verifier}
use Rattle.decrees.specs.Count.{count_below, member_count}
use Rattle.verifier.specs.Tally.{decree_eq}
use Rattle.agreement_laws.specs.Letters.{Letters, Sent, here, there, ChosenIn, Chosen}
use Rattle.agreement_laws.specs.ChosenList.{is_verifier, says_accepted, has_sent_accepted, is_chosen_in, chosen_by, chosen_among, chosen_at, place_of_ballot, last_place, before_gap, chosen_from}
use Rattle.agreement_laws.proofs.Count.{count_more, Quorum-enough, Quorum-someone}
use Rattle.agreement_laws.proofs.Steps.{decree_eq-true}

decree_eq-same : (d : Decree) → decree_eq d d ≡ true
decree_eq-same (Commit n t) = and_from (n == n) (bytes_eq t.0 t.0) (eq-eqb n n refl) ((bytes_eq-Decides t.0 t.0).1 refl)
decree_eq-same Rollback = refl

is_verifier-is : (v : ℕ) (n : Node) → is_verifier v n ≡ true → n ≡ Verifier v
is_verifier-is v (Client c) e = absurd (false≢true e)
is_verifier-is v (Executor x) e = absurd (false≢true e)
is_verifier-is v (Verifier x) e = ap Verifier (eqb-true x v e)

says_accepted-is : (w p : ℕ) (d : Decree) (b : Ballot) → says_accepted w p d b ≡ true → b ≡ Accepted w p d
says_accepted-is w p d (Accepted x q b) e =
    let h = and_parts (x == w) ((q == p) && decree_eq b d) e in
    let g = and_parts (q == p) (decree_eq b d) h.1 in
    λ i. Accepted (eqb-true x w h.0 i) (eqb-true q p g.0 i) (decree_eq-true b d g.1 i)
says_accepted-is w p d (Token e n previous t) h = absurd (false≢true h)
says_accepted-is w p d (Accept x q b) h = absurd (false≢true h)
says_accepted-is w p d (Decided q b) h = absurd (false≢true h)
says_accepted-is w p d (Ask q) h = absurd (false≢true h)
says_accepted-is w p d (Change x) h = absurd (false≢true h)
says_accepted-is w p d (Promise x k a) h = absurd (false≢true h)
says_accepted-is w p d (Stands x k) h = absurd (false≢true h)

says_accepted-own : (w p : ℕ) (d : Decree) → says_accepted w p d (Accepted w p d) ≡ true
says_accepted-own w p d = and_from (w == w) ((p == p) && decree_eq d d) (eq-eqb w w refl) (and_from (p == p) (decree_eq d d) (eq-eqb p p refl) (decree_eq-same d))

has-sent : (ls : Letters) (w p : ℕ) (d : Decree) (v : ℕ) → has_sent_accepted ls w p d v ≡ true → Sent ls (Verifier v) (Accepted w p d)
has-sent [] w p d v e = absurd (false≢true e)
has-sent (l ∷ ls) w p d v e = ⊎_elim
    (λ a. let h = and_parts (is_verifier v l.from) (says_accepted w p d l.body) a in here (is_verifier-is v l.from h.0) (says_accepted-is w p d l.body h.1))
    (λ b. there (has-sent ls w p d v b))
    (or_cases (is_verifier v l.from && says_accepted w p d l.body) (has_sent_accepted ls w p d v) e)

sent-has : (ls : Letters) (w p : ℕ) (d : Decree) (v : ℕ) → Sent ls (Verifier v) (Accepted w p d) → has_sent_accepted ls w p d v ≡ true
sent-has [] w p d v h = elim h [ ]
sent-has (l ∷ ls) w p d v (here f b) = or_left (is_verifier v l.from && says_accepted w p d l.body) (has_sent_accepted ls w p d v)
    (and_from (is_verifier v l.from) (says_accepted w p d l.body)
    (subst (λ z. is_verifier v z ≡ true) (sym f) (eq-eqb v v refl))
    (subst (λ z. says_accepted w p d z ≡ true) (sym b) (says_accepted-own w p d)))
sent-has (l ∷ ls) w p d v (there h) = or_right (is_verifier v l.from && says_accepted w p d l.body) (has_sent_accepted ls w p d v) (sent-has ls w p d v h)

-- the test is true of what is chosen in the view
is_chosen_in-true : (u : ℕ) (ls : Letters) (w p : ℕ) (d : Decree) → ChosenIn u ls w p d → is_chosen_in u ls w p d ≡ true
is_chosen_in-true u ls w p d q =
    let more = count_more q.member (has_sent_accepted ls w p d) (member_count u) (λ v below e. sent-has ls w p d v (q.each v below e)) in
    let enough = Quorum-enough q in
    lt-ltb u (count_below (has_sent_accepted ls w p d) (member_count u)) (omega (arith, enough, more))

-- and of nothing else
is_chosen_in-says : (u : ℕ) (ls : Letters) (w p : ℕ) (d : Decree) → is_chosen_in u ls w p d ≡ true → ChosenIn u ls w p d
is_chosen_in-says u ls w p d e = record { member = has_sent_accepted ls w p d; enough = e; each = λ v below h. has-sent ls w p d v h }

option_or-one : (a b : Option Decree) (d : Decree) → option_or a b ≡ Some d → (a ≡ Some d) ⊎ (b ≡ Some d)
option_or-one (Some a) b d e = inl e
option_or-one None b d e = inr e

option_or-left : (a b : Option Decree) (d : Decree) → a ≡ Some d → (x : Decree) × (option_or a b ≡ Some x)
option_or-left (Some a) b d e = (a, refl)
option_or-left None b d e = absurd (cc)

option_or-right : (a b : Option Decree) (d : Decree) → b ≡ Some d → (x : Decree) × (option_or a b ≡ Some x)
option_or-right (Some a) b d e = (a, refl)
option_or-right None b d e = (d, e)

chosen_by-says : (u : ℕ) (ls : Letters) (p : ℕ) (b : Ballot) (d : Decree) → chosen_by u ls p b ≡ Some d → Chosen u ls p d
chosen_by-says u ls p (Accepted w q x) d =
    cond_both ((q == p) && is_chosen_in u ls w p x) (Some x) None (λ o. o ≡ Some d → Chosen u ls p d)
    (λ t e. let same : x ≡ d = cc in (w, is_chosen_in-says u ls w p d (subst (λ z. is_chosen_in u ls w p z ≡ true) same (and_parts (q == p) (is_chosen_in u ls w p x) t).1)))
    (λ f e. absurd (cc))
chosen_by-says u ls p (Token e n previous t) d = λ h. absurd (cc)
chosen_by-says u ls p (Accept x q b) d = λ h. absurd (cc)
chosen_by-says u ls p (Decided q b) d = λ h. absurd (cc)
chosen_by-says u ls p (Ask q) d = λ h. absurd (cc)
chosen_by-says u ls p (Change x) d = λ h. absurd (cc)
chosen_by-says u ls p (Promise x k a) d = λ h. absurd (cc)
chosen_by-says u ls p (Stands x k) d = λ h. absurd (cc)

chosen_by-own : (u : ℕ) (ls : Letters) (w p : ℕ) (d : Decree) → is_chosen_in u ls w p d ≡ true → chosen_by u ls p (Accepted w p d) ≡ Some d
chosen_by-own u ls w p d e = ap (λ (b : Bool). if b then Some d else None) (and_from (p == p) (is_chosen_in u ls w p d) (eq-eqb p p refl) e)

chosen_among-says : (u : ℕ) (all : Letters) (p : ℕ) (ls : Letters) (d : Decree) → chosen_among u all p ls ≡ Some d → Chosen u all p d
chosen_among-says u all p [] d e = absurd (cc)
chosen_among-says u all p (l ∷ ls) d e = ⊎_elim (λ a. chosen_by-says u all p l.body d a) (λ b. chosen_among-says u all p ls d b) (option_or-one (chosen_by u all p l.body) (chosen_among u all p ls) d e)

found_among : (u : ℕ) (all : Letters) (w p : ℕ) (d : Decree) (ls : Letters) (v : ℕ) → is_chosen_in u all w p d ≡ true → Sent ls (Verifier v) (Accepted w p d) → (x : Decree) × (chosen_among u all p ls ≡ Some x)
found_among u all w p d [] v e h = elim h [ ]
found_among u all w p d (l ∷ ls) v e (here f b) = option_or-left (chosen_by u all p l.body) (chosen_among u all p ls) d (subst (λ z. chosen_by u all p z ≡ Some d) (sym b) (chosen_by-own u all w p d e))
found_among u all w p d (l ∷ ls) v e (there h) = let r = found_among u all w p d ls v e h in option_or-right (chosen_by u all p l.body) (chosen_among u all p ls) r.0 r.1

-- the computed decree of a place is chosen there
chosen_at-says : (u : ℕ) (ls : Letters) (p : ℕ) (d : Decree) → chosen_at u ls p ≡ Some d → Chosen u ls p d
chosen_at-says u ls p d e = chosen_among-says u ls p ls d e

-- and if a decree is chosen, one is computed
chosen_at-some : (u : ℕ) (ls : Letters) (p : ℕ) (d : Decree) → Chosen u ls p d → (x : Decree) × (chosen_at u ls p ≡ Some x)
chosen_at-some u ls p d c =
    let s = Quorum-someone c.1 in
    found_among u ls c.0 p d ls s.0 (is_chosen_in-true u ls c.0 p d c.1) s.1

place_below_last : (ls : Letters) (w p : ℕ) (d : Decree) (v : ℕ) → Sent ls (Verifier v) (Accepted w p d) → p ≤ last_place ls
place_below_last [] w p d v h = elim h [ ]
place_below_last (l ∷ ls) w p d v (here f b) =
    let most = le-max_left (place_of_ballot l.body) (last_place ls) in
    let mine : place_of_ballot l.body ≡ p = ap place_of_ballot b in
    omega (arith, most, mine)
place_below_last (l ∷ ls) w p d v (there h) =
    let most = le-max_right (place_of_ballot l.body) (last_place ls) in
    let rest = place_below_last ls w p d v h in
    omega (arith, most, rest)

-- no decree is chosen after the last place
pub chosen_below_last : (u : ℕ) (ls : Letters) (p : ℕ) (d : Decree) → Chosen u ls p d → p ≤ last_place ls
chosen_below_last u ls p d c = let s = Quorum-someone c.1 in place_below_last ls c.0 p d s.0 s.1

-- the list is that of a first decree and of the rest, if the place has a decree
from_first : (u : ℕ) (ls : Letters) (p : ℕ) (o : Option Decree) (rest : List Decree) (i : ℕ) (d : Decree) → chosen_at u ls p ≡ o → ((k : ℕ) → slice_get rest k ≡ Some d → Chosen u ls ((p + 1) + k) d) → slice_get (before_gap o rest) i ≡ Some d → Chosen u ls (p + i) d
from_first u ls p None rest i d is later h = absurd (cc)
from_first u ls p (Some x) rest zero d is later h =
    let at : p ≡ p + 0 = omega arith in
    let same : x ≡ d = cc in
    subst (λ (z : ℕ × Decree). Chosen u ls z.0 z.1) (λ j. (at j, same j)) (chosen_at-says u ls p x is)
from_first u ls p (Some x) rest (suc i) d is later h =
    let at : (p + 1) + i ≡ p + suc i = omega arith in
    subst (λ z. Chosen u ls z d) at (later i h)

-- each decree of the list is chosen at its place
pub chosen_from-says : (u : ℕ) (ls : Letters) (p n i : ℕ) (d : Decree) → slice_get (chosen_from u ls p n) i ≡ Some d → Chosen u ls (p + i) d
chosen_from-says u ls p zero i d e = absurd (cc)
chosen_from-says u ls p (suc n) i d e = from_first u ls p (chosen_at u ls p) (chosen_from u ls (p + 1) n) i d refl (λ k h. chosen_from-says u ls (p + 1) n k d h) e

-- the list goes on as long as each place has a chosen decree
pub chosen_from-some : (u : ℕ) (ls : Letters) (p n i : ℕ) → i < n → ((k : ℕ) → k ≤ i → (d : Decree) × Chosen u ls (p + k) d) → (x : Decree) × (slice_get (chosen_from u ls p n) i ≡ Some x)
chosen_from-some u ls p zero i below all = absurd (omega arith)
chosen_from-some u ls p (suc n) zero below all =
    let at : p + 0 ≡ p = omega arith in
    let first = all 0 (omega arith) in
    let some = chosen_at-some u ls p first.0 (subst (λ z. Chosen u ls z first.0) at first.1) in
    (some.0, ap (λ o. slice_get (before_gap o (chosen_from u ls (p + 1) n)) 0) some.1)
chosen_from-some u ls p (suc n) (suc i) below all =
    let at : p + 0 ≡ p = omega arith in
    let first = all 0 (omega arith) in
    let some = chosen_at-some u ls p first.0 (subst (λ z. Chosen u ls z first.0) at first.1) in
    let rest = chosen_from-some u ls (p + 1) n i (omega arith) (λ k le.
    let next = all (suc k) (omega (arith, le)) in
    let there_at : p + suc k ≡ (p + 1) + k = omega arith in
    (next.0, subst (λ z. Chosen u ls z next.0) there_at next.1)) in
    (rest.0, ap (λ o. slice_get (before_gap o (chosen_from u ls (p + 1) n)) (suc i)) some.1 ∙ rest.1)
