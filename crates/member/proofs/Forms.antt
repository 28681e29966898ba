-- The record of a member, in the form of that of a process.
use Rattle.std.proofs.Common.{◌≡◌, ◌≢◌, ⊎_elim, ℕ, zero, suc, ◌<◌, ◌+◌, ◌*◌, List, [], ◌∷◌, length, replicate, Some, slice_get, slice_set, refl, sym, ap, ◌∙◌, arith}
use Rattle.std.proofs.lemmas.Bool.{cases_lt}
use Rattle.std.proofs.lemmas.Option.{same_Some}
use Rattle.keeper.specs.Kept.{Kept}
use Rattle.slots.specs.Slots.{nothing_kept}
use Rattle.ensemble.specs.Kept.{ProcessView}
use Rattle.ensemble.proofs.Lists.{set_cases}
use Rattle.site_laws.specs.Lives.{MemberKept}
use Rattle.member.specs.ProcessForm.{kept_alone, HasNoOther, process_form, IsFormOf, FormIsOfOneMember}

-- ---- lists of which all but one are alike

module _ {X : Type 0} (d : X) where
  all_are : (xs : List X) → ((i : ℕ) (x : X) → slice_get xs i ≡ Some x → x ≡ d) → replicate (length xs) d ≡ xs
  all_are [] each = refl
  all_are (x ∷ xs) each =
      ap (λ (ys : List X). d ∷ ys) (all_are xs (λ i y at. each (suc i) y at)) ∙ ap (λ (y : X). y ∷ xs) (sym (each 0 x refl))

  pub all_but : (xs : List X) (i : ℕ) (k : X) → slice_get xs i ≡ Some k → ((j : ℕ) (x : X) → slice_get xs j ≡ Some x → j ≢ i → x ≡ d) → slice_set (replicate (length xs) d) i k ≡ xs
  all_but [] i k at each = absurd (cc at)
  all_but (x ∷ xs) zero k at each =
      (let here : x ≡ k = cc at in
      ap (λ (ys : List X). k ∷ ys) (all_are xs (λ j y there. each (suc j) y there (λ e. omega (arith, e)))) ∙ ap (λ (y : X). y ∷ xs) (sym here))
  all_but (x ∷ xs) (suc i) k at each =
      ap (λ (ys : List X). d ∷ ys) (all_but xs i k at (λ j y there other. each (suc j) y there (λ e. other (omega (arith, e)))))
      ∙ ap (λ (y : X). y ∷ xs) (sym (each 0 x refl (λ e. omega (arith, e))))

  of_copies : (n j : ℕ) (x : X) → slice_get (replicate n d) j ≡ Some x → x ≡ d
  of_copies zero j x at = absurd (cc at)
  of_copies (suc n) zero x at = (let here : d ≡ x = cc at in sym here)
  of_copies (suc n) (suc j) x at = of_copies n j x at

  pub others : (n i : ℕ) (k : X) (j : ℕ) (x : X) → slice_get (slice_set (replicate n d) i k) j ≡ Some x → j ≢ i → x ≡ d
  others n i k j x at other =
      ⊎_elim (λ (same : (j ≡ i) × (x ≡ k)). absurd (other same.0)) (λ (before : slice_get (replicate n d) j ≡ Some x). of_copies n j x before) (set_cases (replicate n d) i j k x at)

  pub own_is : (n i : ℕ) (k : X) → i < n → slice_get (slice_set (replicate n d) i k) i ≡ Some k
  own_is zero i k low = absurd (omega (arith, low))
  own_is (suc n) zero k low = refl
  own_is (suc n) (suc i) k low = own_is n i k (omega (arith, low))

  copies_many : (n : ℕ) → length (replicate n d) ≡ n
  copies_many zero = refl
  copies_many (suc n) = ap suc (copies_many n)

  pub so_many : (n i : ℕ) (k : X) → length (slice_set (replicate n d) i k) ≡ n
  so_many zero i k = refl
  so_many (suc n) zero k = ap suc (copies_many n)
  so_many (suc n) (suc i) k = ap suc (so_many n i k)

-- ---- keepers

pub alone_has_no_other : (count id : ℕ) (kept : Kept) (keepers : List Kept) → kept_alone count id kept ≡ keepers → HasNoOther id keepers
alone_has_no_other count id kept keepers is i k at other =
    others nothing_kept count id kept i k (ap (λ (ks : List Kept). slice_get ks i) is ∙ at) other

pub alone_are_so_many : (count id : ℕ) (kept : Kept) (keepers : List Kept) → kept_alone count id kept ≡ keepers → length keepers ≡ count
alone_are_so_many count id kept keepers is = ap (λ (ks : List Kept). length ks) (sym is) ∙ so_many nothing_kept count id kept

pub is_alone : (count id : ℕ) (kept : Kept) (keepers : List Kept) → length keepers ≡ count → HasNoOther id keepers → slice_get keepers id ≡ Some kept → kept_alone count id kept ≡ keepers
is_alone count id kept keepers many none at =
    ap (λ (n : ℕ). kept_alone n id kept) (sym many) ∙ all_but nothing_kept keepers id kept at none

-- among the first of these nothing was kept but of that of this number
abbrev pub HasNoOtherBelow : ℕ → ℕ → List Kept → Type 0
HasNoOtherBelow n id keepers = (i : ℕ) (kept : Kept) → i < n → slice_get keepers i ≡ Some kept → i ≢ id → kept ≡ nothing_kept

same_own : (n m i j : ℕ) (k l : Kept) → i < n → j < m → i ≡ j → kept_alone n i k ≡ kept_alone m j l → k ≡ l
same_own n m i j k l low_i low_j same is =
    same_Some k l (sym (own_is nothing_kept n i k low_i) ∙ (ap (λ (ks : List Kept). slice_get ks i) is ∙ (ap (λ (at : ℕ). slice_get (kept_alone m j l) at) same ∙ own_is nothing_kept m j l low_j)))

pub one_member : FormIsOfOneMember
one_member id p a b of_a of_b =
    let form : process_form a ≡ process_form b = of_a.form ∙ sym of_b.form in
    let number : a.id ≡ b.id = of_a.own ∙ sym of_b.own in
    let u : a.u ≡ b.u = ap (λ (q : ProcessView). q.u) form in
    let proxies : a.proxies ≡ b.proxies = ap (λ (q : ProcessView). q.proxies) form in
    let executor : a.executor ≡ b.executor = same_own (2 * a.u + 1) (2 * b.u + 1) a.id b.id a.executor b.executor of_a.place of_b.place number (ap (λ (q : ProcessView). q.executors) form) in
    let verifier : a.verifier ≡ b.verifier = same_own (2 * a.u + 1) (2 * b.u + 1) a.id b.id a.verifier b.verifier of_a.place of_b.place number (ap (λ (q : ProcessView). q.verifiers) form) in
    λ i. record { id = number i; u = u i; executor = executor i; verifier = verifier i; proxies = proxies i }
