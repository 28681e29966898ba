-- Lists of as many members as a group has pages each, as one list, and the place of a member in it.
use Rattle.std.proofs.Common.{◌≡◌, ◌≢◌, ℕ, zero, suc, ◌+◌, ◌*◌, ◌<◌, ◌/◌, ◌%◌, List, [], ◌∷◌, ◌++◌, length, get_or, set, refl, ap, ◌∙◌, arith, ◌⊎◌, inl, inr, ⊎_elim, length-append}
use Rattle.std.specs.List.{flat_map}
use Rattle.std.proofs.lemmas.List.{get_or_append_left, get_or-append-add}
use Rattle.pages.specs.Page.{page_count}
use Rattle.pages.specs.Group.{page_in_group, AreLong}
use Rattle.pages.specs.declared.group.TheConstants.{GROUPS, GROUP_PAGES}

-- the place of a page
pub place-of : (n : ℕ) → n < page_count → (page_in_group (n / GROUP_PAGES) (n % GROUP_PAGES) ≡ n) × (n / GROUP_PAGES < GROUPS) × (n % GROUP_PAGES < GROUP_PAGES)
place-of n l = (omega arith, omega arith, omega arith)

pub same_or_other : (m n : ℕ) → (m ≡ n) ⊎ (m ≢ n)
same_or_other zero zero = inl refl
same_or_other zero (suc n) = inr (λ e. omega (arith, e))
same_or_other (suc m) zero = inr (λ e. omega (arith, e))
same_or_other (suc m) (suc n) = ⊎_elim (λ e. inl (ap suc e)) (λ other. inr (λ e. other (omega (arith, e)))) (same_or_other m n)

module _ {X : Type 0} where
  -- all members, in order
  abbrev pub joined : List (List X) → List X
  joined lists = flat_map (λ list. list) lists

  -- member i of list g, as one of all
  pub member-in : (lists : List (List X)) (g i : ℕ) (d : X) → AreLong lists → i < GROUP_PAGES → get_or (joined lists) (page_in_group g i) d ≡ get_or (get_or lists g []) i d
  member-in [] g i d long l = refl
  member-in (x ∷ lists) zero i d long l =
      let same : page_in_group 0 i ≡ i = omega arith in
      ap (λ (k : ℕ). get_or (x ++ joined lists) k d) same ∙ get_or_append_left x (joined lists) d i (omega (arith, l, long.0))
  member-in (x ∷ lists) (suc g) i d long l =
      let same : page_in_group (suc g) i ≡ length x + page_in_group g i = omega (arith, long.0) in
      ap (λ (k : ℕ). get_or (x ++ joined lists) k d) same ∙ get_or-append-add x (joined lists) (page_in_group g i) d ∙ member-in lists g i d long.1 l

  pub long-at : (lists : List (List X)) (g : ℕ) → AreLong lists → g < length lists → length (get_or lists g []) ≡ GROUP_PAGES
  long-at [] g long l = absurd (omega arith)
  long-at (x ∷ lists) zero long l = long.0
  long-at (x ∷ lists) (suc g) long l = long-at lists g long.1 (omega (arith, l))

  pub long-set : (lists : List (List X)) (g : ℕ) (x : List X) → AreLong lists → length x ≡ GROUP_PAGES → AreLong (set lists g x)
  long-set [] g x long one = long
  long-set (y ∷ lists) zero x long one = (one, long.1)
  long-set (y ∷ lists) (suc g) x long one = (long.0, long-set lists g x long.1 one)

  pub long-push : (lists : List (List X)) (x : List X) → AreLong lists → length x ≡ GROUP_PAGES → AreLong (lists ++ x ∷ [])
  long-push [] x long one = (one, tt)
  long-push (y ∷ lists) x long one = (long.0, long-push lists x long.1 one)

  pub long-all : (lists : List (List X)) → AreLong lists → length (joined lists) ≡ GROUP_PAGES * length lists
  long-all [] long = refl
  long-all (x ∷ lists) long = omega (arith, length-append x (joined lists), long.0, long-all lists long.1)
