-- Texts of one page, by itself or over the page before it.
use Rattle.std.proofs.Common.{◌≡◌, ℕ, true, false, List, [], ◌∷◌, ◌++◌, Option, Some, None, sym, ap, ◌∙◌, subst, ◌⊎◌, inl, inr}
use Rattle.std.specs.Prelude.{if◌then◌else◌}
use Rattle.std.specs.FinMap.{entries, same_entries_map}
use Rattle.std.proofs.lemmas.Bool.{cases_Bool}
use Rattle.std.proofs.lemmas.Slice.Eq.{bytes_eq-Decides}
use Rattle.std.specs.Str.{bytes_eq}
use Rattle.base.specs.declared.fault.Fault.{Fault}
use Rattle.items.specs.declared.item.Item.{Item}
use Rattle.items.specs.Map.{Items}
use Rattle.wire.specs.Record.{Always, IsPrefixFree, NoPrefix, Refused}
use Rattle.wire.specs.Field.{option_text}
use Rattle.wire.specs.Item.{page_text}
use Rattle.wire.specs.FrontLaws.{tail_of}
use Rattle.wire.specs.ItemLaws.{page_prefix_free}
use Rattle.wire.proofs.Values.{Refused-weaker, told_apart}
use Rattle.pages.specs.Page.{PageState, Laid}
use Rattle.pages.specs.Record.{page_record}
use Rattle.pages.specs.Layout.{text_in}
use Rattle.pages.specs.LayoutLaws.{text_prefix_free, laid_record_free}
use Rattle.pages.specs.declared.layout.Layout.{Layout}
use Rattle.pages.specs.Joined.{IsOwn}
use Rattle.states.specs.StateRecord.{changed_page, changed_items, change_text}

module _ (layout : Layout) (p : ℕ) (bytes : List ℕ) where
  -- no page of this number is there in this layout
  abbrev pub NoPage : Type 0
  NoPage = NoPrefix {X = PageState} (λ page. IsOwn p page.items) (λ page. text_in layout page.items) bytes

  abbrev laid : Items → PageState
  laid m = record { items = m; layout = layout; sealed = false }

  pub no_page_in : (e : Fault) → Refused e (NoPrefix {X = PageState} Always page_record bytes) → Refused e NoPage
  no_page_in e = Refused-weaker e (λ none. record { none = λ v after own same. none.none (laid v.items) after tt same })

  -- what is there is another page than this one, or in another layout
  only_this : (page : PageState) (rest : List ℕ) → bytes ≡ page_record page ++ rest → (m : Items) (after : List ℕ) → bytes ≡ text_in layout m ++ after → (page.layout ≡ layout) × (page.items ≡ m)
  only_this page rest got m after same =
      let as_laid : Laid = record { items = page.items; layout = page.layout } in
      let other : Laid = record { items = m; layout = layout } in
      let one = (laid_record_free.apart as_laid other rest after (sym got ∙ same)).0 in
      (ap (λ (l : Laid). l.layout) one, ap (λ (l : Laid). l.items) one)

  pub other_layout : (page : PageState) (rest : List ℕ) → bytes ≡ page_record page ++ rest → (page.layout ≡ layout → ⊥) → NoPage
  other_layout page rest got apart = record { none = λ v after own same. apart (only_this page rest got v.items after same).0 }

  pub not_own : (page : PageState) (rest : List ℕ) → bytes ≡ page_record page ++ rest → (IsOwn p page.items → ⊥) → NoPage
  not_own page rest got wrong = record { none = λ v after own same. wrong (subst (IsOwn p) (sym (only_this page rest got v.items after same).1) own) }

-- entries are the same as before, or others
pub which : (before after : List (List ℕ × Item)) → ((before ≡ after) × (changed_page before after ≡ None)) ⊎ ((before ≡ after → ⊥) × (changed_page before after ≡ Some after))
which before after =
    elim (cases_Bool (bytes_eq (page_text before) (page_text after))) [
      | inl same ↦ inl (
        told_apart page_prefix_free before after ((bytes_eq-Decides (page_text before) (page_text after)).0 same),
        ap (λ b. if b then None else Some after) same,
      )
      | inr other ↦ inr (
        (λ e. let clash : true ≡ false = sym ((bytes_eq-Decides (page_text before) (page_text after)).1 (ap page_text e)) ∙ other in cc clash),
        ap (λ b. if b then None else Some after) other,
      )
    ]

-- items are the same as before, or others
pub which_items : (before after : Items) → ((before ≡ after) × (changed_items before after ≡ None)) ⊎ ((before ≡ after → ⊥) × (changed_items before after ≡ Some after))
which_items before after =
    elim (cases_Bool (bytes_eq (page_text (entries before)) (page_text (entries after)))) [
      | inl same ↦ inl (
        same_entries_map before after (told_apart page_prefix_free (entries before) (entries after) ((bytes_eq-Decides (page_text (entries before)) (page_text (entries after))).0 same)),
        ap (λ b. if b then None else Some after) same,
      )
      | inr other ↦ inr (
        (λ e. let clash : true ≡ false = sym ((bytes_eq-Decides (page_text (entries before)) (page_text (entries after))).1 (ap (λ m. page_text (entries m)) e)) ∙ other in cc clash),
        ap (λ b. if b then None else Some after) other,
      )
    ]

marks_differ : (xs ys : List ℕ) → 0 ∷ xs ≡ 1 ∷ ys → ⊥
marks_differ xs ys e = cc e

module _ (layout : Layout) (before : Items) where
  abbrev change : Items → List ℕ
  change after = change_text layout before after

  spelled : (v : Items) (o : Option Items) → changed_items before v ≡ o → change v ≡ option_text (text_in layout) o
  spelled v o e = ap (option_text (text_in layout)) e

  pub same_text : (after : Items) → before ≡ after → change after ≡ 0 ∷ []
  same_text after e = elim (which_items before after) [
    | inl same ↦ spelled after None same.1
    | inr other ↦ absurd (other.0 e)
  ]

  pub other_text : (after : Items) → (before ≡ after → ⊥) → change after ≡ 1 ∷ text_in layout after
  other_text after apart = elim (which_items before after) [
    | inl same ↦ absurd (apart same.0)
    | inr other ↦ spelled after (Some after) other.1
  ]

  pub change_free : IsPrefixFree (change_text layout before)
  change_free = record {
    apart = λ v w r s e. elim (which_items before v) [
      | inl a ↦ elim (which_items before w) [
        | inl b ↦ (sym a.0 ∙ b.0, tail_of 0 0 r s (ap (λ t. t ++ r) (sym (spelled v None a.1)) ∙ (e ∙ ap (λ t. t ++ s) (spelled w None b.1))))
        | inr b ↦ absurd (marks_differ r (text_in layout w ++ s) (ap (λ t. t ++ r) (sym (spelled v None a.1)) ∙ (e ∙ ap (λ t. t ++ s) (spelled w (Some w) b.1))))
      ]
      | inr a ↦ elim (which_items before w) [
        | inl b ↦ absurd (marks_differ s (text_in layout v ++ r) (ap (λ t. t ++ s) (sym (spelled w None b.1)) ∙ (sym e ∙ ap (λ t. t ++ r) (spelled v (Some v) a.1))))
        | inr b ↦ (text_prefix_free layout).apart v w r s (tail_of 1 1 (text_in layout v ++ r) (text_in layout w ++ s) (ap (λ t. t ++ r) (sym (spelled v (Some v) a.1)) ∙ (e ∙ ap (λ t. t ++ s) (spelled w (Some w) b.1))))
      ]
    ];
  }

  module _ (p : ℕ) (bytes : List ℕ) where
    -- no page of this number is encoded so
    abbrev pub NoChange : Type 0
    NoChange = NoPrefix {X = PageState} (λ page. IsOwn p page.items) (λ page. change page.items) bytes

    -- what is behind mark 1 is another page than before
    another : (rest after : List ℕ) (v : Items) → bytes ≡ 1 ∷ rest → bytes ≡ change v ++ after → (before ≡ v → ⊥) × (rest ≡ text_in layout v ++ after)
    another rest after v got same = elim (which_items before v) [
      | inl a ↦ absurd (marks_differ after rest (ap (λ t. t ++ after) (sym (spelled v None a.1)) ∙ (sym same ∙ got)))
      | inr a ↦ (a.0, tail_of 1 1 rest (text_in layout v ++ after) (sym got ∙ (same ∙ ap (λ t. t ++ after) (spelled v (Some v) a.1))))
    ]

    -- no page is behind mark 1
    pub no_other : (rest : List ℕ) → bytes ≡ 1 ∷ rest → (e : Fault) → Refused e (NoPrefix {X = PageState} (λ page. IsOwn p page.items) (λ page. text_in layout page.items) rest) → Refused e NoChange
    no_other rest got e = Refused-weaker e (λ none. record { none = λ v after own same. none.none v after own (another rest after v.items got same).1 })

    -- the page behind mark 1 is the one before
    pub not_another : (rest later : List ℕ) (page : Items) → bytes ≡ 1 ∷ rest → rest ≡ text_in layout page ++ later → before ≡ page → NoChange
    not_another rest later page got read e = record {
      none = λ v after own same.
          let both = another rest after v.items got same in
          both.0 (e ∙ ((text_prefix_free layout).apart page v.items later after (sym read ∙ both.1)).0);
    }

    -- neither mark is there
    pub no_change : ((rest : List ℕ) → bytes ≡ 0 ∷ rest → ⊥) → ((rest : List ℕ) → bytes ≡ 1 ∷ rest → ⊥) → NoChange
    no_change no_same no_new = record {
      none = λ v after own same. elim (which_items before v.items) [
        | inl a ↦ no_same after (same ∙ ap (λ t. t ++ after) (spelled v.items None a.1))
        | inr a ↦ no_new (text_in layout v.items ++ after) (same ∙ ap (λ t. t ++ after) (spelled v.items (Some v.items) a.1))
      ];
    }
