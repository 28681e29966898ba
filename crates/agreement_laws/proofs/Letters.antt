-- What holds of all letters ever sent, and that it lets one decree be chosen at a place.
use Rattle.std.proofs.Common.{◌≡◌, ℕ, zero, suc, ◌+◌, ◌%◌, ◌<◌, ◌≤◌, ◌⊎◌, [], ◌∷◌, ◌++◌, Option, Some, None, inl, inr, refl, sym, ◌∙◌, subst, ⊎_elim, arith}
use Rattle.std.specs.Bool.{⊤}
use Rattle.std.proofs.lemmas.Bool.{cases_order}
use Rattle.decrees.specs.declared.decree.Decree.{Decree}
use Rattle.decrees.specs.declared.ballot.Ballot.{Ballot}
use Rattle.decrees.specs.declared.ballot.Ballot.TheVariants.{Accept, Accepted, Decided, Promise, Stands}
use Rattle.decrees.specs.declared.node.Node.{Node}
use Rattle.decrees.specs.declared.node.Node.TheVariants.{Verifier}
use Rattle.decrees.specs.declared.standing.Standing.{Standing}
use Rattle.decrees.specs.Count.{member_count}
use Rattle.agreement_laws.specs.Letters.{Letters, Sent, here, there, Quorum, ChosenIn, Chosen, Backed, StandsAt}
use Rattle.agreement_laws.proofs.Count.{Quorum-shared, Quorum-someone}

pub Sent-left : (xs ys : Letters) {n : Node} {b : Ballot} → Sent xs n b → Sent (xs ++ ys) n b
Sent-left [] ys h = elim h [ ]
Sent-left (x ∷ xs) ys (here e f) = here e f
Sent-left (x ∷ xs) ys (there h) = there (Sent-left xs ys h)

pub Sent-split : (xs ys : Letters) {n : Node} {b : Ballot} → Sent (xs ++ ys) n b → Sent xs n b ⊎ Sent ys n b
Sent-split [] ys h = inr h
Sent-split (x ∷ xs) ys (here e f) = inl (here e f)
Sent-split (x ∷ xs) ys (there h) = ⊎_elim (λ l. inl (there l)) inr (Sent-split xs ys h)

-- an accepted decree of this view or a higher one
abbrev pub AtLeast : ℕ → Option (ℕ × Decree) → Type 0
AtLeast view None = ⊥
AtLeast view (Some a) = view ≤ a.0

-- who knows so many decrees and has this acceptance has not forgotten an acceptance of the place in the view
abbrev pub Covers : ℕ → Option (ℕ × Decree) → ℕ → ℕ → Type 0
Covers known a view place = (place ≤ known) ⊎ ((place ≡ known + 1) × AtLeast view a)

abbrev pub NoHigher : Option (ℕ × Decree) → Option (ℕ × Decree) → Type 0
NoHigher None best = ⊤
NoHigher (Some a) None = ⊥
NoHigher (Some a) (Some b) = a.0 ≤ b.0

-- the proposal is that of a lower view, if there is a best one
abbrev pub Repeats : Letters → ℕ → ℕ → Decree → Option (ℕ × Decree) → Type 0
Repeats ls view place d None = ⊤
Repeats ls view place d (Some b) = (b.0 < view) × (d ≡ b.1) × ((l : ℕ) × Sent ls (Verifier l) (Accept b.0 place b.1))

-- a promise for the view, from one that did not know the place, with no acceptance of it above the best
abbrev pub Promises : Letters → ℕ → ℕ → Option (ℕ × Decree) → ℕ → Type 0
Promises ls view place best p = (k : ℕ) × (a : Option (ℕ × Decree)) × Sent ls (Verifier p) (Promise view k a) × (k < place) × (place ≡ k + 1 → NoHigher a best)

-- a quorum was asked before the proposal
pub record Safe (u : ℕ) (ls : Letters) (view place : ℕ) (d : Decree) : Type 0 where
  pub best : Option (ℕ × Decree)
  pub asked : Quorum u (Promises ls view place best)
  pub same : Repeats ls view place d best

-- what holds of all letters
pub record LettersOk (u : ℕ) (ls : Letters) : Type 0 where
  pub leader : (v w p : ℕ) (d : Decree) → Sent ls (Verifier v) (Accept w p d) → w % member_count u ≡ v
  pub one : (v w p : ℕ) (d b : Decree) → Sent ls (Verifier v) (Accept w p d) → Sent ls (Verifier v) (Accept w p b) → d ≡ b
  pub accepted : (v w p : ℕ) (d : Decree) → Sent ls (Verifier v) (Accepted w p d) → (l : ℕ) × Sent ls (Verifier l) (Accept w p d)
  pub promised : (v w k x : ℕ) (d : Decree) → Sent ls (Verifier v) (Promise w k (Some (x, d))) → (x ≤ w) × ((l : ℕ) × Sent ls (Verifier l) (Accept x (k + 1) d))
  pub covers : (v w k : ℕ) (a : Option (ℕ × Decree)) (x p : ℕ) (d : Decree) → Sent ls (Verifier v) (Promise w k a) → Sent ls (Verifier v) (Accepted x p d) → x < w → Covers k a x p
  pub safe : (v w p : ℕ) (d : Decree) → Sent ls (Verifier v) (Accept w p d) → (w ≡ 0) ⊎ Safe u ls w p d
  pub backed : (v w p : ℕ) (d : Decree) → Sent ls (Verifier v) (Accept w p d) → Backed u ls p d
  pub decided : (v p : ℕ) (d : Decree) → Sent ls (Verifier v) (Decided p d) → Chosen u ls p d
  pub stood : (v p : ℕ) (s : Standing) → Sent ls (Verifier v) (Stands p s) → StandsAt u ls p s

-- one proposal for a place in a view, whoever sent it
one_of_all : {u : ℕ} {ls : Letters} (ok : LettersOk u ls) (v l w p : ℕ) (d b : Decree) → Sent ls (Verifier v) (Accept w p d) → Sent ls (Verifier l) (Accept w p b) → d ≡ b
one_of_all {u} {ls} ok v l w p d b h k =
    let same : l ≡ v = sym (ok.leader l w p b k) ∙ ok.leader v w p d h in
    ok.one v w p d b h (subst (λ x. Sent ls (Verifier x) (Accept w p b)) same k)

AtLeast-best : (x : ℕ) (a best : Option (ℕ × Decree)) → AtLeast x a → NoHigher a best → (b : ℕ × Decree) × (best ≡ Some b) × (x ≤ b.0)
AtLeast-best x None best h n = absurd h
AtLeast-best x (Some a) None h n = absurd n
AtLeast-best x (Some a) (Some b) h n = (b, refl, omega (arith, h, n))

-- what is chosen in a view is what is proposed in each higher one
pub chosen_stays : {u : ℕ} {ls : Letters} (ok : LettersOk u ls) (fuel x w l p : ℕ) (b d : Decree) → w < fuel → x ≤ w → ChosenIn u ls x p b → Sent ls (Verifier l) (Accept w p d) → b ≡ d
chosen_stays {u} {ls} ok zero x w l p b d f h c q = absurd (omega arith)
chosen_stays {u} {ls} ok (suc fuel) x w l p b d f h c q =
    ⊎_elim
    (λ (e : x ≡ w).
    let s = Quorum-someone c in
    let a = ok.accepted s.0 x p b s.1 in
    one_of_all ok a.0 l x p b d a.1 (subst (λ y. Sent ls (Verifier l) (Accept y p d)) (sym e) q))
    (⊎_elim
    (λ (less : x < w). ⊎_elim
    (λ (z : w ≡ 0). absurd (omega arith))
    (λ (s : Safe u ls w p d).
    let both = Quorum-shared s.asked c in
    let k = both.1.0 in
    let a = both.1.1 in
    ⊎_elim
    (λ (known : p ≤ k). absurd (omega (arith, both.1.3)))
    (λ (at : (p ≡ k + 1) × AtLeast x a).
    let top = AtLeast-best x a s.best at.1 (both.1.4 at.0) in
    let same = subst (Repeats ls w p d) top.1 s.same in
    chosen_stays ok fuel x top.0.0 same.2.0 p b top.0.1 (omega (arith, same.0)) top.2 c same.2.1 ∙ sym same.1)
    (ok.covers both.0 w k a x p b both.1.2 both.2 less))
    (ok.safe l w p d q))
    (λ (more : w < x). absurd (omega arith)))
    (cases_order x w)

-- a chosen decree was proposed
pub chosen_proposed : {u : ℕ} {ls : Letters} → LettersOk u ls → (p : ℕ) (d : Decree) (c : Chosen u ls p d) → (l : ℕ) × Sent ls (Verifier l) (Accept c.0 p d)
chosen_proposed {u} {ls} ok p d c = let s = Quorum-someone c.1 in ok.accepted s.0 c.0 p d s.1

-- at each place at most one decree is chosen
pub agreed : {u : ℕ} {ls : Letters} → LettersOk u ls → (p : ℕ) (a b : Decree) → Chosen u ls p a → Chosen u ls p b → a ≡ b
agreed {u} {ls} ok p a b c k =
    let of_a = chosen_proposed ok p a c in
    let of_b = chosen_proposed ok p b k in
    ⊎_elim
    (λ (e : c.0 ≤ k.0). chosen_stays ok (suc k.0) c.0 k.0 of_b.0 p a b (omega arith) e c.1 of_b.1)
    (λ (e : k.0 ≤ c.0). sym (chosen_stays ok (suc c.0) k.0 c.0 of_a.0 p b a (omega arith) e k.1 of_a.1))
    (either c.0 k.0)
  where
    either : (x y : ℕ) → (x ≤ y) ⊎ (y ≤ x)
    either x y = ⊎_elim (λ (e : x ≡ y). inl (omega arith)) (⊎_elim (λ (e : x < y). inl (omega arith)) (λ (e : y < x). inr (omega arith))) (cases_order x y)
