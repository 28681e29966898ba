-- Old pages in a record.
use Rattle.std.proofs.Common.{◌≡◌, ◌≢◌, ℕ, ◌<◌, true, List, [], ◌++◌, length, map, get_or, Option, Some, None, refl, sym, ap, ◌∙◌, arith, subst, inl, inr, append_assoc}
use Rattle.std.specs.Prelude.{◌==◌, IfSome, IsTrue}
use Rattle.std.specs.Int.{w32}
use Rattle.std.specs.List.{flat_map}
use Rattle.std.specs.FinMap.{entries, entries_sorted, is_sorted}
use Rattle.std.proofs.lemmas.Bool.Decides.{nat_tests}
use Rattle.std.proofs.lemmas.List.{length-map, get_or-map}
use Rattle.std.proofs.lemmas.List.Elements.{filter_passes}
use Rattle.std.proofs.lemmas.List.FromFn.{length-map-range_with_len, get_or-map-range_with_len, fill_by_all}
use Rattle.base.specs.declared.fault.Fault.{Fault}
use Rattle.base.proofs.MapLemmas.{from_t, sorted_filter}
use Rattle.items.specs.declared.item.Item.{Item}
use Rattle.items.specs.Map.{Items, by_bytes}
use Rattle.wire.specs.Record.{IsPrefixFree, NoPrefix, Refused}
use Rattle.wire.specs.Number.{num}
use Rattle.wire.specs.Field.{option_text, CountFits}
use Rattle.wire.specs.FieldLaws.{list_prefix_free, option_prefix_free}
use Rattle.wire.specs.Item.{page_text, EntriesFit, PageFits}
use Rattle.wire.specs.ItemLaws.{page_prefix_free}
use Rattle.wire.proofs.Values.{Refused-weaker}
use Rattle.token.specs.declared.form.Form.TheVariants.{Old}
use Rattle.token.specs.declared.tree.TheConstants.{OLD_PAGES}
use Rattle.pages.specs.Form.{HasTexts}
use Rattle.pages.specs.Page.{number_among}
use Rattle.pages.specs.Old.{old_entries, IsOldPage, AreGiven, given_at, given_or}
use Rattle.pages.proofs.FormLemmas.{same_among}
use Rattle.states.specs.StateRecord.{changed_page}
use Rattle.states.specs.OldRecord.{old_pages, old_pages_text, old_changes, old_changes_text, AreOfOld, AreInPlace, AreOthers}
use Rattle.states.proofs.EntryLemmas.{which}

-- so many values that are encoded alike are the same
pub values_free : {X : Type 0} (encoding : X → List ℕ) → IsPrefixFree encoding → (xs ys : List X) (r s : List ℕ) → length xs ≡ length ys → flat_map encoding xs ++ r ≡ flat_map encoding ys ++ s → (xs ≡ ys) × (r ≡ s)
values_free encoding free xs ys r s len e =
    (list_prefix_free encoding free).apart xs ys r s
    (append_assoc (num w32 (length xs)) (flat_map encoding xs) r ∙ (λ i. num w32 (len i) ++ e i) ∙ sym (append_assoc (num w32 (length ys)) (flat_map encoding ys) s))

same_values : {X : Type 0} (encoding : X → List ℕ) → IsPrefixFree encoding → (xs ys : List X) (r s : List ℕ) → length xs ≡ length ys → flat_map encoding xs ++ r ≡ flat_map encoding ys ++ s → xs ≡ ys
same_values encoding free xs ys r s len e = (values_free encoding free xs ys r s len e).0

pub number_of : (a b : ℕ) → (a == b) ≡ true → a ≡ b
number_of a b e = grind (arith, nat_tests)

module _ (m : Items) where
  pub count_old : length (old_pages m) ≡ OLD_PAGES
  count_old = length-map-range_with_len (old_entries m) 0 OLD_PAGES

  pub old_at : (p : ℕ) (d : List (List ℕ × Item)) → p < OLD_PAGES → get_or (old_pages m) p d ≡ old_entries m p
  old_at p d l = get_or-map-range_with_len (old_entries m) 0 OLD_PAGES p p d l (omega arith)

  pub rising_old : (p : ℕ) → IsTrue (is_sorted by_bytes (old_entries m p))
  rising_old p = sorted_filter by_bytes (λ e. number_among OLD_PAGES e.0 == p) (entries m) (from_t _ (entries_sorted m))

  pub own_old : (p : ℕ) → AreOfOld p (old_entries m p)
  own_old p k d l = number_of _ p (filter_passes (λ e. number_among OLD_PAGES e.0 == p) (entries m) k d l)

  fits_old : HasTexts Old m → CountFits OLD_PAGES EntriesFit (old_pages m)
  fits_old texts = record {
    is = count_old;
    each = λ k d l.
        let few : k < OLD_PAGES = omega (arith, l, count_old) in
        subst EntriesFit (sym (old_at k d few)) (record { page = texts k few; rising = rising_old k });
  }

  some_at : (p : ℕ) → p < OLD_PAGES → given_at (map (λ es. Some es) (old_pages m)) p ≡ Some (old_entries m p)
  some_at p l = get_or-map (λ (es : List (List ℕ × Item)). Some es) (old_pages m) p [] None (omega (arith, l, count_old)) ∙ ap (λ (es : List (List ℕ × Item)). Some es) (old_at p [] l)

  in_place : AreInPlace (map (λ es. Some es) (old_pages m))
  in_place p l = subst (λ (o : Option (List (List ℕ × Item))). IfSome o (AreOfOld p)) (sym (some_at p l)) (own_old p)

pub old_pages_free : IsPrefixFree old_pages_text
unfolding old_pages_text
old_pages_free = record {
  apart = λ v w r s e.
      let both = values_free page_text page_prefix_free (old_pages v) (old_pages w) r s (count_old v ∙ sym (count_old w)) e in
      (same_among OLD_PAGES (omega arith) v w both.0, both.1);
}

pub no_old_pages : (bytes : List ℕ) (e : Fault) → Refused e (NoPrefix (CountFits OLD_PAGES EntriesFit) (flat_map page_text) bytes) → Refused e (NoPrefix (HasTexts Old) old_pages_text bytes)
unfolding old_pages_text
no_old_pages bytes e = Refused-weaker e (λ none. record { none = λ v after texts same. none.none (old_pages v) after (fits_old v texts) same })

module _ (vs : List (List (List ℕ × Item))) (bytes rest : List ℕ) (fit : CountFits OLD_PAGES EntriesFit vs) (got : bytes ≡ flat_map page_text vs ++ rest) where
  pub not_in_place : (AreInPlace (map (λ es. Some es) vs) → ⊥) → NoPrefix (HasTexts Old) old_pages_text bytes
  unfolding old_pages_text
  not_in_place not = record {
    none = λ v after texts same.
        let all : vs ≡ old_pages v = same_values page_text page_prefix_free vs (old_pages v) rest after (fit.is ∙ sym (count_old v)) (sym got ∙ same) in
        not (subst (λ (ws : List (List (List ℕ × Item))). AreInPlace (map (λ es. Some es) ws)) (sym all) (in_place v));
  }

  given_is : (p : ℕ) → p < OLD_PAGES → given_at (map (λ es. Some es) vs) p ≡ Some (get_or vs p [])
  given_is p l = get_or-map (λ (es : List (List ℕ × Item)). Some es) vs p [] None (omega (arith, l, fit.is))

  pub all_given_are : AreInPlace (map (λ es. Some es) vs) → AreGiven (map (λ es. Some es) vs)
  all_given_are placed = record {
    count = length-map vs (λ es. Some es) ∙ fit.is;
    each = λ p l. subst (λ (o : Option (List (List ℕ × Item))). IfSome o (IsOldPage p)) (sym (given_is p l)) (record {
      fit = fit.each p [] (omega (arith, l, fit.is));
      own = subst (λ (o : Option (List (List ℕ × Item))). IfSome o (AreOfOld p)) (given_is p l) (placed p l);
    });
  }

  module _ (before m : Items) (are : (p : ℕ) → p < OLD_PAGES → old_entries m p ≡ given_or before p (given_at (map (λ es. Some es) vs) p)) where
    page_is : (p : ℕ) → p < OLD_PAGES → old_entries m p ≡ get_or vs p []
    page_is p l = are p l ∙ ap (given_or before p) (given_is p l)

    pub read_old : HasTexts Old m × (bytes ≡ old_pages_text m ++ rest)
    unfolding old_pages_text
    read_old = (
      λ p l. subst PageFits (sym (page_is p l)) (fit.each p [] (omega (arith, l, fit.is))).page,
      got ∙ ap (λ (ws : List (List (List ℕ × Item))). flat_map page_text ws ++ rest) (fill_by_all (old_entries m) vs OLD_PAGES [] fit.is (λ k l. sym (page_is k l))),
    )

both_fit : (p : ℕ) (o : Option (List (List ℕ × Item))) → IfSome o EntriesFit → IfSome o (AreOfOld p) → IfSome o (IsOldPage p)
both_fit p None fit own = tt
both_fit p (Some es) fit own = record { fit = fit; own = own }

module _ (before : Items) where
  pub count_changes : (v : Items) → length (old_changes before v) ≡ OLD_PAGES
  count_changes v = length-map-range_with_len (λ p. changed_page (old_entries before p) (old_entries v p)) 0 OLD_PAGES

  change_at : (v : Items) (p : ℕ) (d : Option (List (List ℕ × Item))) → p < OLD_PAGES → get_or (old_changes before v) p d ≡ changed_page (old_entries before p) (old_entries v p)
  change_at v p d l = get_or-map-range_with_len (λ p. changed_page (old_entries before p) (old_entries v p)) 0 OLD_PAGES p p d l (omega arith)

  -- a change gives the page back
  given_back : (v : Items) (p : ℕ) → given_or before p (changed_page (old_entries before p) (old_entries v p)) ≡ old_entries v p
  given_back v p = elim (which (old_entries before p) (old_entries v p)) [
    | inl same ↦ ap (given_or before p) same.1 ∙ same.0
    | inr other ↦ ap (given_or before p) other.1
  ]

  same_changes : (v w : Items) → old_changes before v ≡ old_changes before w → old_pages v ≡ old_pages w
  same_changes v w e = fill_by_all (old_entries w) (old_pages v) OLD_PAGES [] (count_old v) (λ k l.
      old_at v k [] l ∙ sym (given_back v k) ∙ ap (given_or before k) (sym (change_at v k None l) ∙ ap (λ (os : List (Option (List (List ℕ × Item)))). get_or os k None) e ∙ change_at w k None l) ∙ given_back w k)

  pub old_changes_free : IsPrefixFree (old_changes_text before)
  unfolding old_changes_text
  old_changes_free = record {
    apart = λ v w r s e.
        let both = values_free (option_text page_text) (option_prefix_free page_text page_prefix_free) (old_changes before v) (old_changes before w) r s (count_changes v ∙ sym (count_changes w)) e in
        (same_among OLD_PAGES (omega arith) v w (same_changes v w both.0), both.1);
  }

  -- what holds of a page that is written holds of a change
  of_change : (P : List (List ℕ × Item) → Type 0) (b a : List (List ℕ × Item)) → ((b ≡ a → ⊥) → P a) → IfSome (changed_page b a) P
  of_change P b a is = elim (which b a) [
    | inl same ↦ subst (λ (o : Option (List (List ℕ × Item))). IfSome o P) (sym same.1) tt
    | inr other ↦ subst (λ (o : Option (List (List ℕ × Item))). IfSome o P) (sym other.1) (is other.0)
  ]

  fits_changes : (v : Items) → HasTexts Old v → CountFits OLD_PAGES (λ o. IfSome o EntriesFit) (old_changes before v)
  fits_changes v texts = record {
    is = count_changes v;
    each = λ k d l.
        let few : k < OLD_PAGES = omega (arith, l, count_changes v) in
        subst (λ (o : Option (List (List ℕ × Item))). IfSome o EntriesFit) (sym (change_at v k d few))
        (of_change EntriesFit (old_entries before k) (old_entries v k) (λ other. record { page = texts k few; rising = rising_old v k }));
  }

  pub no_old_changes : (bytes : List ℕ) (e : Fault) → Refused e (NoPrefix (CountFits OLD_PAGES (λ o. IfSome o EntriesFit)) (flat_map (option_text page_text)) bytes)
      → Refused e (NoPrefix (HasTexts Old) (old_changes_text before) bytes)
  unfolding old_changes_text
  no_old_changes bytes e = Refused-weaker e (λ none. record { none = λ v after texts same. none.none (old_changes before v) after (fits_changes v texts) same })

  module _ (given : List (Option (List (List ℕ × Item)))) (bytes rest : List ℕ) (fit : CountFits OLD_PAGES (λ o. IfSome o EntriesFit) given) (got : bytes ≡ flat_map (option_text page_text) given ++ rest) where
    -- what is given is what any items with this encoding have
    given_of : (v : Items) (after : List ℕ) → bytes ≡ old_changes_text before v ++ after → (p : ℕ) → p < OLD_PAGES → given_at given p ≡ changed_page (old_entries before p) (old_entries v p)
    unfolding old_changes_text
    given_of v after same p l =
        ap (λ (os : List (Option (List (List ℕ × Item)))). given_at os p)
        (same_values (option_text page_text) (option_prefix_free page_text page_prefix_free) given (old_changes before v) rest after (fit.is ∙ sym (count_changes v)) (sym got ∙ same))
        ∙ change_at v p None l

    pub changes_not_in_place : (AreInPlace given → ⊥) → NoPrefix (HasTexts Old) (old_changes_text before) bytes
    changes_not_in_place not = record {
      none = λ v after texts same. not (λ p l.
          subst (λ (o : Option (List (List ℕ × Item))). IfSome o (AreOfOld p)) (sym (given_of v after same p l))
          (of_change (AreOfOld p) (old_entries before p) (old_entries v p) (λ other. own_old v p)));
    }

    pub given_are : AreInPlace given → AreGiven given
    given_are placed = record { count = fit.is; each = λ p l. both_fit p (given_at given p) (fit.each p None (omega (arith, l, fit.is))) (placed p l) }

    module _ (m : Items) (are : (p : ℕ) → p < OLD_PAGES → old_entries m p ≡ given_or before p (given_at given p)) where
      same_page : (v : Items) (after : List ℕ) → bytes ≡ old_changes_text before v ++ after → (p : ℕ) → p < OLD_PAGES → old_entries v p ≡ old_entries m p
      same_page v after same p l =
          let given_is = are p l ∙ ap (given_or before p) (given_of v after same p l) in
          elim (which (old_entries before p) (old_entries v p)) [
            | inl alike ↦ sym alike.0 ∙ sym (given_is ∙ ap (given_or before p) alike.1)
            | inr other ↦ sym (given_is ∙ ap (given_or before p) other.1)
          ]

      pub not_others : (AreOthers before m given → ⊥) → NoPrefix (HasTexts Old) (old_changes_text before) bytes
      not_others not = record {
        none = λ v after texts same. not (λ p l.
            subst (λ (o : Option (List (List ℕ × Item))). IfSome o (λ es. old_entries before p ≢ old_entries m p)) (sym (given_of v after same p l))
            (of_change (λ es. old_entries before p ≢ old_entries m p) (old_entries before p) (old_entries v p) (λ other e. other (e ∙ sym (same_page v after same p l)))));
      }

      pub no_texts : (HasTexts Old m → ⊥) → NoPrefix (HasTexts Old) (old_changes_text before) bytes
      no_texts not = record { none = λ v after texts same. not (λ p l. subst PageFits (same_page v after same p l) (texts p l)) }

      change_is : AreOthers before m given → (p : ℕ) → p < OLD_PAGES → given_at given p ≡ changed_page (old_entries before p) (old_entries m p)
      change_is others p l = by (given_at given p) refl
        where
          by : (o : Option (List (List ℕ × Item))) → given_at given p ≡ o → given_at given p ≡ changed_page (old_entries before p) (old_entries m p)
          by None e = elim (which (old_entries before p) (old_entries m p)) [
            | inl same ↦ e ∙ sym same.1
            | inr other ↦ absurd (other.0 (sym (are p l ∙ ap (given_or before p) e)))
          ]
          by (Some es) e = elim (which (old_entries before p) (old_entries m p)) [
            | inl same ↦ absurd (subst (λ (o : Option (List (List ℕ × Item))). IfSome o (λ es. old_entries before p ≢ old_entries m p)) e (others p l) same.0)
            | inr other ↦ e ∙ ap (λ (x : List (List ℕ × Item)). Some x) (sym (are p l ∙ ap (given_or before p) e)) ∙ sym other.1
          ]

      pub read_changes : AreOthers before m given → bytes ≡ old_changes_text before m ++ rest
      unfolding old_changes_text
      read_changes others =
          got ∙ ap (λ (os : List (Option (List (List ℕ × Item)))). flat_map (option_text page_text) os ++ rest)
          (fill_by_all (λ p. changed_page (old_entries before p) (old_entries m p)) given OLD_PAGES None fit.is (λ k l. change_is others k l))
