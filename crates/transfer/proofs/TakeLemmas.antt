-- What is taken of a parcel, and what a parcel makes of the own pages.
use Rattle.std.proofs.Common.{◌≡◌, ℕ, ◌<◌, Bool, true, false, cond, List, [], Some, None, refl, sym, ap, ◌∙◌, arith, inl, inr}
use Rattle.std.specs.Prelude.{not, ◌==◌, ◌&&◌, if◌then◌else◌, slice_index_or}
use Rattle.std.specs.FinMap.{from_sorted}
use Rattle.std.specs.Option.{option_map_or}
use Rattle.std.specs.Str.{bytes_eq}
use Rattle.std.proofs.lemmas.Bool.{and_parts, and_from, cases_Bool, eqb-true}
use Rattle.std.proofs.lemmas.List.FromFn.{length-map-range_with_len, get_or-map-range_with_len, fill_by_all}
use Rattle.std.proofs.lemmas.Slice.Eq.{bytes_eq-Decides}
use Rattle.token.specs.declared.Token.{Token}
use Rattle.decrees.specs.Votes.{token_eq}
use Rattle.decrees.proofs.TokenLemmas.{token_eq-true}
use Rattle.items.specs.declared.item.Item.{Item}
use Rattle.items.specs.Map.{Items}
use Rattle.pages.specs.Page.{Laid, page_count, page_items, page_digest_in, of_each}
use Rattle.pages.specs.Form.{fits_form, layout_of}
use Rattle.pages.specs.Joined.{joined_pages, parts}
use Rattle.pages.proofs.JoinedLemmas.{no_items, same_number}
use Rattle.pages.proofs.PartLemmas.{joined-parts}
use Rattle.states.specs.State.{StateView, IsState, with_token}
use Rattle.states.specs.Parts.{parts_of}
use Rattle.states.specs.Origin.{origin_of}
use Rattle.transfer.specs.Need.{need_of}
use Rattle.transfer.specs.Parcel.{ParcelView, own_page, page_from, joined_with, differing_pages, answer_of, parcel_state, makes_state, take_of}
use Rattle.transfer.specs.Laws.{DigestsTellPages, HandsOver, TakesWhatWasAsked}
use Rattle.transfer.proofs.PickLemmas.{picked}

module _ (own : Items) (p : ParcelView) (n : ℕ) (token : Token) where
  -- the number and the token are those asked for
  abbrev asked : Bool
  asked = (p.origin.number == n) && (makes_state own p && token_eq (parcel_state own p).token token)

  pub taken : p.origin.number ≡ n → makes_state own p ≡ true → (parcel_state own p).token ≡ token → take_of own p n token ≡ Some (parcel_state own p)
  taken number fits same =
      let both : asked ≡ true = and_from _ _ (ap (λ k. p.origin.number == k) (sym number) ∙ same_number p.origin.number) (and_from _ _ fits ((bytes_eq-Decides (parcel_state own p).token.0 token.0).1 (ap (λ t. t.0) same))) in
      ap (λ b. if b then Some (parcel_state own p) else None) both

  refused : (asked ≡ true → ⊥) → take_of own p n token ≡ None
  refused other = elim (cases_Bool asked) [
    | inl right ↦ absurd (other right)
    | inr wrong ↦ ap (λ b. if b then Some (parcel_state own p) else None) wrong
  ]

  pub of_other_number : (p.origin.number ≡ n → ⊥) → take_of own p n token ≡ None
  of_other_number other = refused (λ h. other (eqb-true p.origin.number n (and_parts _ _ h).0))

  pub of_other_token : ((parcel_state own p).token ≡ token → ⊥) → take_of own p n token ≡ None
  of_other_token other = refused (λ h. other (token_eq-true (parcel_state own p).token token (and_parts _ _ (and_parts _ _ h).1).1))

  pub of_other_form : (makes_state own p ≡ true → ⊥) → take_of own p n token ≡ None
  of_other_form other = refused (λ h. other (and_parts _ _ (and_parts _ _ h).1).0)

-- tokens that do not compare as different are equal
pub same_token : (a b : Token) → not (token_eq a b) ≡ false → a ≡ b
same_token a b e = elim (cases_Bool (token_eq a b)) [
  | inl right ↦ token_eq-true a b right
  | inr wrong ↦ (let clash : true ≡ false = ap not (sym wrong) ∙ e in absurd (cc clash))
]

some_is : {X : Type 0} (x y : X) → Some x ≡ Some y → x ≡ y
some_is x y e = cc e

none_is_not : {X : Type 0} (x : X) → None ≡ Some x → ⊥
none_is_not x e = cc e

pub takes_what_was_asked : TakesWhatWasAsked
takes_what_was_asked own p n token s e = elim (cases_Bool (asked own p n token)) [
  | inl right ↦
      let both = and_parts (p.origin.number == n) (makes_state own p && token_eq (parcel_state own p).token token) right in
      let tokens = and_parts (makes_state own p) (token_eq (parcel_state own p).token token) both.1 in
      let is : parcel_state own p ≡ s = some_is _ _ (sym (ap (λ b. if b then Some (parcel_state own p) else None) right) ∙ e) in
      (ap (λ t. t.number) (sym is) ∙ eqb-true p.origin.number n both.0, ap (λ t. t.token) (sym is) ∙ token_eq-true (parcel_state own p).token token tokens.1)
  | inr wrong ↦ absurd (none_is_not s (sym (ap (λ b. if b then Some (parcel_state own p) else None) wrong) ∙ e))
]

module _ (own s : StateView) (tells : DigestsTellPages (layout_of s.form) (layout_of own.form) s.items own.items) where
  -- the digests of page k are the same
  abbrev same : ℕ → Bool
  same k = bytes_eq (page_digest_in (layout_of s.form) s.items k) (slice_index_or (need_of own).digests k [])

  told : (k : ℕ) → k < page_count → slice_index_or (need_of own).digests k [] ≡ page_digest_in (layout_of own.form) own.items k
  told k l = get_or-map-range_with_len (page_digest_in (layout_of own.form) own.items) 0 page_count k k [] l (omega arith)

  page_is : (k : ℕ) → k < page_count → page_from own.items (differing_pages s (need_of own)) k ≡ page_items s.items k
  page_is k l = ap (λ o. option_map_or (λ (page : Laid). page.items) o (page_items own.items k)) (picked same (own_page s) k 0 page_count (omega arith) (omega (arith, l))) ∙ by (same k) refl
    where
      by : (b : Bool) → same k ≡ b → option_map_or (λ (page : Laid). page.items) (cond b None (Some (own_page s k))) (page_items own.items k) ≡ page_items s.items k
      by true e =
          let digests : page_digest_in (layout_of s.form) s.items k ≡ page_digest_in (layout_of own.form) own.items k = (bytes_eq-Decides (page_digest_in (layout_of s.form) s.items k) (slice_index_or (need_of own).digests k [])).0 e ∙ told k l in
          ap (λ (es : List (List ℕ × Item)). from_sorted es) (sym (tells k l digests))
      by false e = refl

  items_are : joined_with own.items (differing_pages s (need_of own)) ≡ s.items
  items_are =
      let pages : of_each (page_from own.items (differing_pages s (need_of own))) ≡ parts s.items =
      fill_by_all (page_items s.items) (of_each (page_from own.items (differing_pages s (need_of own)))) page_count no_items
      (length-map-range_with_len (page_from own.items (differing_pages s (need_of own))) 0 page_count)
      (λ k l. get_or-map-range_with_len (page_from own.items (differing_pages s (need_of own))) 0 page_count k k no_items l (omega arith) ∙ page_is k l) in
      ap joined_pages pages ∙ joined-parts s.items

  state_is : IsState s → 0 < s.number → parcel_state own.items (answer_of s (need_of own)) ≡ s
  state_is is later =
      let whole : parcel_state own.items (answer_of s (need_of own)) ≡ with_token s = ap (λ (m : Items). with_token (parts_of (record { origin = origin_of s; sessions = s.sessions; pages = record { items = m; layout = layout_of s.form } }))) items_are in
      whole ∙ sym (is.token later)

pub hands_over : HandsOver
hands_over own s is later tells =
    let made = state_is own s tells is later in
    let fits : makes_state own.items (answer_of s (need_of own)) ≡ true = ap (fits_form s.form) (items_are own s tells) ∙ is.form_fit in
    taken own.items (answer_of s (need_of own)) s.number s.token refl fits (ap (λ t. t.token) made) ∙ ap (λ t. Some t) made
