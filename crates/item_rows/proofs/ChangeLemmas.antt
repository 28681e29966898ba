-- A file whose rows follow late says what it should.
use Rattle.std.proofs.Common.{◌≡◌, ◌⊎◌, ⊎_elim, ℕ, Bool, true, false, List, [], ◌∷◌, ◌++◌, Option, None, Some, refl, sym, ap, ◌∙◌, subst}
use Rattle.std.specs.Prelude.{◌==◌, if◌then◌else◌, IsSome}
use Rattle.item_rows.specs.Changes.{Rows, ItemChange, with_change, rows_after, or_first, last_change, IsNamed, IsUnnamed}

module _ {X : Type 0} where
  -- what is in a row: the last change of it, or what it was
  abbrev pub or_row : Option (Option X) → Option X → Option X
  or_row None row = row
  or_row (Some v) row = v

  abbrev one : ℕ → ItemChange X → Option (Option X)
  one p c = if p == c.0 then Some c.1 else None

  changed_row : (rows : Rows X) (c : ItemChange X) (p : ℕ) (o : Option (Option X)) → or_row o (with_change rows c p) ≡ or_row (or_first o (one p c)) (rows p)
  changed_row rows c p (Some v) = refl
  changed_row rows c p None = by (p == c.0) refl
    where
      by : (same : Bool) → (p == c.0) ≡ same → with_change rows c p ≡ or_row (one p c) (rows p)
      by true e = rw e refl
      by false e = rw e refl

  -- what changes say of a row
  pub says : (rows : Rows X) (cs : List (ItemChange X)) (p : ℕ) → rows_after rows cs p ≡ or_row (last_change p cs) (rows p)
  says rows [] p = refl
  says rows (c ∷ cs) p = says (with_change rows c) cs p ∙ changed_row rows c p (last_change p cs)

  or_none : (a : Option (Option X)) → a ≡ or_first a None
  or_none (Some v) = refl
  or_none None = refl

  or_assoc : (a b c : Option (Option X)) → or_first (or_first a b) c ≡ or_first a (or_first b c)
  or_assoc (Some v) b c = refl
  or_assoc None b c = refl

  pub last_change-append : (p : ℕ) (xs ys : List (ItemChange X)) → last_change p (xs ++ ys) ≡ or_first (last_change p ys) (last_change p xs)
  last_change-append p [] ys = or_none (last_change p ys)
  last_change-append p (c ∷ xs) ys = ap (λ (o : Option (Option X)). or_first o (one p c)) (last_change-append p xs ys) ∙ or_assoc (last_change p ys) (last_change p xs) (one p c)

  pub folded : (rows now before : Rows X) (dropped kept new : List (ItemChange X))
      → ((p : ℕ) → rows_after rows (dropped ++ kept) p ≡ before p)
      → ((p : ℕ) → (now p ≡ rows p) ⊎ (now p ≡ rows_after before new p))
      → ((p : ℕ) → IsNamed p dropped → IsUnnamed p (kept ++ new) → now p ≡ rows_after before new p)
      → (p : ℕ) → rows_after now (kept ++ new) p ≡ rows_after before new p
  folded rows now before dropped kept new told puts waits p = by (last_change p new) refl (last_change p kept) refl (last_change p dropped) refl
    where
      both : rows_after now (kept ++ new) p ≡ or_row (or_first (last_change p new) (last_change p kept)) (now p)
      both = says now (kept ++ new) p ∙ ap (λ (o : Option (Option X)). or_row o (now p)) (last_change-append p kept new)

      was : before p ≡ or_row (or_first (last_change p kept) (last_change p dropped)) (rows p)
      was = sym (told p) ∙ (says rows (dropped ++ kept) p ∙ ap (λ (o : Option (Option X)). or_row o (rows p)) (last_change-append p dropped kept))

      by : (n : Option (Option X)) → last_change p new ≡ n → (k : Option (Option X)) → last_change p kept ≡ k → (d : Option (Option X)) → last_change p dropped ≡ d → rows_after now (kept ++ new) p ≡ rows_after before new p
      by (Some v) in_new k in_kept d in_dropped = both ∙ (λ i. or_row (or_first (in_new i) (last_change p kept)) (now p)) ∙ sym (says before new p ∙ ap (λ (o : Option (Option X)). or_row o (before p)) in_new)
      by None in_new (Some v) in_kept d in_dropped =
          (both ∙ (λ i. or_row (or_first (in_new i) (in_kept i)) (now p)))
          ∙ sym ((says before new p ∙ ap (λ (o : Option (Option X)). or_row o (before p)) in_new) ∙ (was ∙ ap (λ (o : Option (Option X)). or_row (or_first o (last_change p dropped)) (rows p)) in_kept))
      by None in_new None in_kept (Some w) in_dropped =
          (both ∙ (λ i. or_row (or_first (in_new i) (in_kept i)) (now p)))
          ∙ waits p (subst (λ (o : Option (Option X)). IsSome o) (sym in_dropped) refl) (last_change-append p kept new ∙ (λ i. or_first (in_new i) (in_kept i)))
      by None in_new None in_kept None in_dropped =
          (both ∙ (λ i. or_row (or_first (in_new i) (in_kept i)) (now p)))
          ∙ ⊎_elim
          (λ (stays : now p ≡ rows p). stays ∙ sym ((says before new p ∙ ap (λ (o : Option (Option X)). or_row o (before p)) in_new) ∙ (was ∙ (λ i. or_row (or_first (in_kept i) (in_dropped i)) (rows p)))))
          (λ (is : now p ≡ rows_after before new p). is)
          (puts p)
