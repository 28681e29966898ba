-- A record identifies its state, and if a part of one is not there, no state is.
use Rattle.std.proofs.Common.{◌≡◌, Result, Ok, Err, ℕ, ◌<◌, List, [], ◌++◌, length, take, drop, take-append-drop, true, false, refl, sym, ap, ◌∙◌, arith, subst, append_assoc, inl, inr}
use Rattle.std.specs.Prelude.{not}
use Rattle.std.proofs.lemmas.Bool.{cases_Bool}
use Rattle.std.proofs.lemmas.List.{take-append-le, take_all}
use Rattle.std.specs.Str.{bytes_eq}
use Rattle.std.proofs.lemmas.Slice.Eq.{bytes_eq-Decides}
use Rattle.base.specs.declared.fault.Fault.{Fault}
use Rattle.items.specs.Map.{Items}
use Rattle.sessions.specs.Fresh.{Replies}
use Rattle.std.specs.Borrow.{Bor}
use Rattle.wire.specs.Record.{IsPrefixFree, NoPrefix, Refused, Takes}
use Rattle.wire.specs.RowLaws.{followed}
use Rattle.wire.specs.Session.{sessions_text, SessionsFit}
use Rattle.wire.specs.SessionLaws.{sessions_prefix_free}
use Rattle.wire.proofs.Values.{Refused-weaker}
use Rattle.wire.proofs.Rows.{unfit}
use Rattle.pages.specs.Page.{page_items}
use Rattle.pages.specs.Form.{layout_of}
use Rattle.pages.specs.Layout.{text_in}
use Rattle.pages.specs.LayoutLaws.{text_prefix_free}
use Rattle.pages.specs.declared.layout.Layout.{Layout}
use Rattle.states.specs.declared.head.Head.{Head}
use Rattle.states.specs.State.{StateView, IsState, initial_state, with_token}
use Rattle.states.specs.StateRecord.{head_of_state, head_text, state_of, pages_text, state_text, change_text, changes_text, after_text, IsFirstState, IsLaterState}
use Rattle.states.specs.HeadProofs.{head_prefix_free}
use Rattle.states.proofs.StateLemmas.{first_is_state}
use Rattle.states.proofs.PageTextLemmas.{texts_free}
use Rattle.states.proofs.EntryLemmas.{change_free}

pub pages_free : (layout : Layout) → IsPrefixFree (pages_text layout)
unfolding pages_text
pages_free layout = texts_free (λ p m. text_in layout m) (λ p. text_prefix_free layout)

pub changes_free : (before : Items) (layout : Layout) → IsPrefixFree (changes_text layout before)
unfolding changes_text
changes_free before layout = texts_free (λ p m. change_text layout (page_items before p) m) (λ p. change_free layout (page_items before p))

abbrev pub front_text : Head × Replies → List ℕ
front_text p = head_text p.0 ++ sessions_text p.1

pub front_free : IsPrefixFree front_text
front_free = followed head_prefix_free sessions_prefix_free

-- a state whose items are encoded in this way, by their layout
module _ (part : Layout → Items → List ℕ) where
  abbrev pub body_text : StateView → List ℕ
  body_text s = head_text (head_of_state s) ++ sessions_text s.sessions ++ part (layout_of s.form) s.items

  abbrev regrouped : (s : StateView) (rest : List ℕ) → body_text s ++ rest ≡ front_text (head_of_state s, s.sessions) ++ (part (layout_of s.form) s.items ++ rest)
  regrouped s rest = append_assoc (front_text (head_of_state s, s.sessions)) (part (layout_of s.form) s.items) rest

  module _ (fits : StateView → Type 0) (bytes : List ℕ) where
    pub no_front : ((s : StateView) → fits s → SessionsFit s.sessions) → (e : Fault)
        → Refused e (NoPrefix {X = Head × Replies} (λ p. Unit {0} × SessionsFit p.1) front_text bytes) → Refused e (NoPrefix fits body_text bytes)
    no_front fit e = Refused-weaker e (λ none. record {
      none = λ v after f same. none.none (head_of_state v, v.sessions) (part (layout_of v.form) v.items ++ after) (tt, fit v f) (same ∙ regrouped v after);
    })

    pub no_items : (items_fit : Items → Type 0) → ((s : StateView) → fits s → items_fit s.items) → (h : Head) (sessions : Replies) (rest : List ℕ) → bytes ≡ front_text (h, sessions) ++ rest
        → (e : Fault) → Refused e (NoPrefix {X = Items} items_fit (part (layout_of h.origin.form)) rest) → Refused e (NoPrefix fits body_text bytes)
    no_items items_fit fit h sessions rest got e = Refused-weaker e (λ none. record {
      none = λ v after f same.
          let both = front_free.apart (h, sessions) (head_of_state v, v.sessions) rest (part (layout_of v.form) v.items ++ after) (sym got ∙ (same ∙ regrouped v after)) in
          let form = ap (λ (p : Head × Replies). layout_of p.0.origin.form) both.0 in
          none.none v.items after (fit v f) (both.1 ∙ ap (λ l. part l v.items ++ after) (sym form));
    })

    module _ (free : (layout : Layout) → IsPrefixFree (part layout)) where
      pub body_free : IsPrefixFree body_text
      body_free = record {
        apart = λ v w r s e.
            let front = front_free.apart (head_of_state v, v.sessions) (head_of_state w, w.sessions) (part (layout_of v.form) v.items ++ r) (part (layout_of w.form) w.items ++ s) (sym (regrouped v r) ∙ (e ∙ regrouped w s)) in
            let form = ap (λ (p : Head × Replies). layout_of p.0.origin.form) front.0 in
            let both = (free (layout_of w.form)).apart v.items w.items r s (ap (λ l. part l v.items ++ r) (sym form) ∙ front.1) in
            ((λ i. state_of ((front.0 i).0) ((front.0 i).1) (both.0 i)), both.1);
      }

      -- what was read
      read_so : (h : Head) (sessions : Replies) (items : Items) (rest after : List ℕ) → bytes ≡ front_text (h, sessions) ++ rest → rest ≡ part (layout_of h.origin.form) items ++ after
          → bytes ≡ body_text (state_of h sessions items) ++ after
      read_so h sessions items rest after got more = got ∙ (ap (λ (t : List ℕ). front_text (h, sessions) ++ t) more ∙ sym (regrouped (state_of h sessions items) after))

      -- what was read makes no state that fits
      pub not_made : (h : Head) (sessions : Replies) (items : Items) (rest after : List ℕ) → bytes ≡ front_text (h, sessions) ++ rest → rest ≡ part (layout_of h.origin.form) items ++ after
          → (e : Fault) → Refused e (fits (state_of h sessions items) → ⊥) → Refused e (NoPrefix fits body_text bytes)
      not_made h sessions items rest after got more e = Refused-weaker e (λ wrong. unfit fits body_free bytes (state_of h sessions items) after (read_so h sessions items rest after got more) wrong)

      -- what was read makes this state
      pub made : (h : Head) (sessions : Replies) (items : Items) (rest after : List ℕ) → bytes ≡ front_text (h, sessions) ++ rest → rest ≡ part (layout_of h.origin.form) items ++ after
          → (s : StateView) → s ≡ state_of h sessions items → bytes ≡ body_text s ++ after
      made h sessions items rest after got more s e = read_so h sessions items rest after got more ∙ ap (λ (x : StateView). body_text x ++ after) (sym e)

pub state_free : IsPrefixFree state_text
unfolding state_text
state_free = body_free pages_text IsState [] pages_free

pub after_free : (before : Items) → IsPrefixFree (after_text before)
unfolding after_text
after_free before = body_free (λ layout. changes_text layout before) IsState [] (changes_free before)

-- the token that was read is the computed one
pub its_token : (h : Head) (sessions : Replies) (items : Items) → h.token ≡ (with_token (state_of h sessions items)).token → state_of h sessions items ≡ with_token (state_of h sessions items)
its_token h sessions items e = λ i. state_of (record h { token = e i }) sessions items

pub same_not_true : (xs ys : List ℕ) → xs ≡ ys → not (bytes_eq xs ys) ≡ true → ⊥
same_not_true xs ys e other =
    let clash : false ≡ true = ap not (sym ((bytes_eq-Decides xs ys).1 e)) ∙ other in
    cc clash

pub same_unless : (xs ys : List ℕ) → not (bytes_eq xs ys) ≡ false → xs ≡ ys
same_unless xs ys same = elim (cases_Bool (bytes_eq xs ys)) [
  | inl is ↦ (bytes_eq-Decides xs ys).0 is
  | inr other ↦ absurd (let clash : true ≡ false = ap not (sym other) ∙ same in cc clash)
]

-- a head comes first
head_front : (v : StateView) (after : List ℕ) → state_text v ++ after ≡ head_text (head_of_state v) ++ (sessions_text v.sessions ++ (pages_text (layout_of v.form) v.items ++ after))
unfolding state_text
head_front v after = append_assoc (front_text (head_of_state v, v.sessions)) (pages_text (layout_of v.form) v.items) after ∙ append_assoc (head_text (head_of_state v)) (sessions_text v.sessions) (pages_text (layout_of v.form) v.items ++ after)

pub no_head : (bytes : List ℕ) (e : Fault) → Refused e (NoPrefix (λ (h : Head). Unit {0}) head_text bytes) → Refused e (NoPrefix IsState state_text bytes)
no_head bytes e = Refused-weaker e (λ none. record {
  none = λ v after f same. none.none (head_of_state v) (sessions_text v.sessions ++ (pages_text (layout_of v.form) v.items ++ after)) tt (same ∙ head_front v after);
})

module _ (bytes : List ℕ) (h : Head) (rest : List ℕ) (got : bytes ≡ head_text h ++ rest) where
  its_number : (v : StateView) (after : List ℕ) → bytes ≡ state_text v ++ after → h.origin.number ≡ v.number
  its_number v after same = ap (λ (x : Head). x.origin.number) (head_prefix_free.apart h (head_of_state v) rest (sessions_text v.sessions ++ (pages_text (layout_of v.form) v.items ++ after)) (sym got ∙ (same ∙ head_front v after))).0

  -- of number 0 there is the first state alone
  pub takes_first : h.origin.number ≡ 0 → (r : Result (StateView × Bor (List ℕ)) Fault) → Takes IsFirstState state_text bytes r → Takes IsState state_text bytes r
  takes_first none (Ok p) t = (subst IsState (sym t.0) first_is_state, t.1)
  takes_first none (Err e) t = Refused-weaker e (λ (no_first : NoPrefix IsFirstState state_text bytes). record {
    none = λ v after f same. no_first.none v after (f.first (sym (its_number v after same) ∙ none)) same;
  }) t

  pub takes_later : 0 < h.origin.number → (r : Result (StateView × Bor (List ℕ)) Fault) → Takes IsLaterState state_text bytes r → Takes IsState state_text bytes r
  takes_later some (Ok p) t = (t.0.state, t.1)
  takes_later some (Err e) t = Refused-weaker e (λ (no_later : NoPrefix IsLaterState state_text bytes). record {
    none = λ v after f same. no_later.none v after (record { state = f; later = omega (arith, some, its_number v after same) }) same;
  }) t

-- what is before the rest
pub stripped : (bytes text rest : List ℕ) → bytes_eq (take (length text) bytes) text ≡ true → rest ≡ drop (length text) bytes → bytes ≡ text ++ rest
stripped bytes text rest same e = sym (take-append-drop (length text) bytes) ∙ (λ i. (bytes_eq-Decides (take (length text) bytes) text).0 same i ++ sym e i)

pub not_stripped : (text_of : StateView → List ℕ) (bytes text : List ℕ) → bytes_eq (take (length text) bytes) text ≡ false → (s : StateView) → text ≡ text_of s → s ≡ initial_state → NoPrefix IsFirstState text_of bytes
not_stripped text_of bytes text other s e first = record {
  none = λ v after f same.
      let whole : bytes ≡ text ++ after = same ∙ ap (λ (t : List ℕ). t ++ after) (ap text_of (f ∙ sym first) ∙ sym e) in
      let front : take (length text) bytes ≡ text = ap (take (length text)) whole ∙ (take-append-le (length text) text after (omega arith) ∙ take_all (length text) text (omega arith)) in
      let clash : true ≡ false = sym ((bytes_eq-Decides (take (length text) bytes) text).1 front) ∙ other in
      absurd (cc clash);
}
