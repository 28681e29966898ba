-- A state in a record of version 1: behind the byte of the old form its text is one of version 2, but for the pages.
use Rattle.std.proofs.Common.{◌≡◌, Result, Ok, Err, ℕ, zero, suc, ◌<◌, List, [], ◌∷◌, ◌++◌, length, filter, map, replicate, refl, sym, ap, ◌∙◌, arith, subst, append_assoc}
use Rattle.std.specs.Prelude.{◌==◌, All}
use Rattle.std.specs.Ordering.{nat_cmp}
use Rattle.std.specs.Borrow.{Bor}
use Rattle.std.proofs.lemmas.List.Elements.{All-nil}
use Rattle.std.specs.List.{flat_map, range_with_len}
use Rattle.std.specs.FinMap.{empty, entries, len-entries, len-empty}
use Rattle.base.specs.declared.fault.Fault.{Fault}
use Rattle.items.specs.declared.item.Item.{Item}
use Rattle.items.specs.Map.{Items, by_bytes}
use Rattle.sessions.specs.declared.sessions.LastReply.{LastReply}
use Rattle.sessions.specs.Fresh.{Replies}
use Rattle.std.specs.Int.{w32, w64}
use Rattle.wire.specs.Number.{num, fixed}
use Rattle.wire.specs.Record.{IsPrefixFree, NoPrefix, Refused, Takes}
use Rattle.wire.specs.FrontLaws.{tail_of}
use Rattle.wire.specs.Item.{page_text}
use Rattle.wire.specs.RowLaws.{followed}
use Rattle.wire.specs.Session.{sessions_text, SessionsFit}
use Rattle.wire.specs.SessionLaws.{sessions_prefix_free}
use Rattle.wire.proofs.Values.{Refused-weaker}
use Rattle.token.specs.declared.form.Form.{Form}
use Rattle.token.specs.declared.form.Form.TheVariants.{Old}
use Rattle.token.specs.declared.form.TheConstants.{OLD_BLOCK_BYTES}
use Rattle.token.specs.declared.Token.{Token}
use Rattle.token.specs.declared.tree.TheConstants.{OLD_PAGES}
use Rattle.token.specs.Form.{form_text}
use Rattle.pages.specs.Page.{number_among}
use Rattle.pages.specs.Form.{FitForm, HasTexts}
use Rattle.pages.proofs.FormLemmas.{old_texts}
use Rattle.states.specs.declared.head.Head.{Head}
use Rattle.states.specs.State.{StateView, IsState}
use Rattle.token.specs.Token.{token_bytes}
use Rattle.states.specs.Origin.{origin_of, told_text}
use Rattle.states.specs.StateRecord.{head_of_state, head_text, old_head_text, state_of, IsFirstState}
use Rattle.states.specs.OldRecord.{old_pages_text, old_front_text, old_state_text, IsOldHead, IsOldFront, IsOldState, IsOldLaterState}
use Rattle.states.specs.HeadProofs.{old_head_free}
use Rattle.states.specs.Within.{ReplyWithin, RepliesWithin}
use Rattle.states.proofs.StateLemmas.{first_is_state}
use Rattle.states.proofs.RecordLemmas.{body_text, front_text, no_items, not_made, made}
use Rattle.states.proofs.OldRecordLemmas.{old_pages_free}

-- items that are in a state of the old form have texts there
pub texts_of_old : (form : Form) (m : Items) → form ≡ Old → FitForm form m → HasTexts Old m
texts_of_old form m e fit = old_texts m (subst (λ (f : Form). FitForm f m) e fit)

front_behind : (bytes : List ℕ) (h : Head) (sessions : Replies) (rest : List ℕ) → h.origin.form ≡ Old → bytes ≡ old_front_text (h, sessions) ++ rest → 1 ∷ bytes ≡ front_text (h, sessions) ++ rest
unfolding head_text form_text
front_behind bytes h sessions rest e got = ap (λ (t : List ℕ). 1 ∷ t) got ∙ ap (λ (f : Form). (((form_text f ++ told_text h.origin) ++ token_bytes h.token) ++ sessions_text sessions) ++ rest) (sym e)

-- a state whose items are encoded in this way
module _ (part : Items → List ℕ) where
  abbrev pub old_text : StateView → List ℕ
  old_text s = old_head_text (head_of_state s) ++ sessions_text s.sessions ++ part s.items

  behind_form : (s : StateView) → s.form ≡ Old → body_text (λ layout. part) s ≡ 1 ∷ old_text s
  unfolding head_text form_text
  behind_form s e = ap (λ (f : Form). ((form_text f ++ told_text (origin_of s)) ++ token_bytes s.token) ++ sessions_text s.sessions ++ part s.items) e

  module _ (fits : StateView → Type 0) (old : (s : StateView) → fits s → s.form ≡ Old) (bytes : List ℕ) where
    none_behind : (e : Fault) → Refused e (NoPrefix fits (body_text (λ layout. part)) (1 ∷ bytes)) → Refused e (NoPrefix fits old_text bytes)
    none_behind e = Refused-weaker e (λ none. record {
      none = λ v after f same. none.none v after f (ap (λ (t : List ℕ). 1 ∷ t) same ∙ ap (λ (t : List ℕ). t ++ after) (sym (behind_form v (old v f))));
    })

    pub no_old_front : ((s : StateView) → fits s → SessionsFit s.sessions) → ((s : StateView) → fits s → RepliesWithin OLD_BLOCK_BYTES s.sessions)
        → (e : Fault) → Refused e (NoPrefix IsOldFront old_front_text bytes) → Refused e (NoPrefix fits old_text bytes)
    no_old_front fit within e = Refused-weaker e (λ none. record {
      none = λ v after f same. none.none (head_of_state v, v.sessions) (part v.items ++ after) (old v f, fit v f, within v f) (same ∙ append_assoc (old_front_text (head_of_state v, v.sessions)) (part v.items) after);
    })

    module _ (h : Head) (sessions : Replies) (rest : List ℕ) (is_old : h.origin.form ≡ Old) (got : bytes ≡ old_front_text (h, sessions) ++ rest) where
      pub no_old_items : ((s : StateView) → fits s → FitForm s.form s.items) → (e : Fault) → Refused e (NoPrefix {X = Items} (HasTexts Old) part rest) → Refused e (NoPrefix fits old_text bytes)
      no_old_items fit e none =
          none_behind e (no_items (λ layout. part) fits (1 ∷ bytes) (HasTexts Old) (λ s f. texts_of_old s.form s.items (old s f) (fit s f)) h sessions rest (front_behind bytes h sessions rest is_old got) e none)

      module _ (free : IsPrefixFree part) (items : Items) (after : List ℕ) (more : rest ≡ part items ++ after) where
        pub not_made_old : (e : Fault) → Refused e (fits (state_of h sessions items) → ⊥) → Refused e (NoPrefix fits old_text bytes)
        not_made_old e wrong = none_behind e (not_made (λ layout. part) fits (1 ∷ bytes) (λ layout. free) h sessions items rest after (front_behind bytes h sessions rest is_old got) more e wrong)

        pub made_old : (s : StateView) → s ≡ state_of h sessions items → (s.form ≡ Old) × (bytes ≡ old_text s ++ after)
        made_old s e =
            let form : s.form ≡ Old = ap (λ (x : StateView). x.form) e ∙ is_old in (
              form,
              tail_of 1 1 bytes (old_text s ++ after) (made (λ layout. part) fits (1 ∷ bytes) (λ layout. free) h sessions items rest after (front_behind bytes h sessions rest is_old got) more s e ∙ ap (λ (t : List ℕ). t ++ after) (behind_form s form)),
            )

-- states of one form that are encoded alike are the same
module _ (part : Items → List ℕ) (free : IsPrefixFree part) where
  abbrev Row : Type 0
  Row = ((((((ℕ × Token) × ℕ) × List ℕ) × ℕ) × Token) × Replies) × Items

  abbrev row_of : StateView → Row
  row_of s = (((((((s.number, s.previous), s.epoch), s.batch), s.moment), s.token), s.sessions), s.items)

  abbrev state_of_row : Form → Row → StateView
  state_of_row form p = record {
    form = form;
    number = p.0.0.0.0.0.0.0;
    previous = p.0.0.0.0.0.0.1;
    epoch = p.0.0.0.0.0.1;
    batch = p.0.0.0.0.1;
    moment = p.0.0.0.1;
    token = p.0.0.1;
    sessions = p.0.1;
    items = p.1;
  }

  pub one_old : (s t : StateView) (rest others : List ℕ) → (s.number ≡ t.number → s.form ≡ t.form) → old_text part s ++ rest ≡ old_text part t ++ others → (s ≡ t) × (rest ≡ others)
  one_old s t rest others form same =
      let both = (followed (followed old_head_free sessions_prefix_free) free).apart (row_of s) (row_of t) rest others same in
      let one = form (ap (λ (p : Row). p.0.0.0.0.0.0.0) both.0) in
      ((λ i. state_of_row (one i) (both.0 i)), both.1)

-- what is kept of the clients is behind the head, and if it is too long there is no front
pub kept_too_long : (bytes rest : List ℕ) (t : (((((ℕ × Token) × ℕ) × List ℕ) × ℕ) × Token) × Replies)
    → bytes ≡ (num w64 t.0.0.0.0.0.0 ++ token_bytes t.0.0.0.0.0.1 ++ num w64 t.0.0.0.0.1 ++ fixed 32 t.0.0.0.1 ++ num w32 t.0.0.1 ++ token_bytes t.0.1 ++ sessions_text t.1) ++ rest
    → (RepliesWithin OLD_BLOCK_BYTES t.1 → ⊥) → NoPrefix IsOldFront old_front_text bytes
kept_too_long bytes rest t got long = record {
  none = λ v after f here.
      let both = (followed old_head_free sessions_prefix_free).apart t ((((((v.0.origin.number, v.0.origin.previous), v.0.origin.epoch), v.0.origin.batch), v.0.origin.moment), v.0.token), v.1) rest after (sym got ∙ here) in
      long (subst (RepliesWithin OLD_BLOCK_BYTES) (sym (ap (λ p. p.1) both.0)) f.2);
}

-- a head comes first
head_first : (v : StateView) (after : List ℕ) → old_state_text v ++ after ≡ old_head_text (head_of_state v) ++ (sessions_text v.sessions ++ (old_pages_text v.items ++ after))
unfolding old_state_text
head_first v after = append_assoc (old_front_text (head_of_state v, v.sessions)) (old_pages_text v.items) after ∙ append_assoc (old_head_text (head_of_state v)) (sessions_text v.sessions) (old_pages_text v.items ++ after)

none_at_all : {X : Type 0} (es : List X) → length es ≡ 0 → es ≡ []
none_at_all [] e = refl
none_at_all (x ∷ xs) e = absurd (omega (arith, e))

abbrev no_client : Replies
no_client = empty

-- of no client nothing is too long
none_kept : RepliesWithin OLD_BLOCK_BYTES no_client
none_kept = subst (All (λ (e : ℕ × LastReply). ReplyWithin OLD_BLOCK_BYTES e.1.reply)) (sym (none_at_all (entries no_client) (sym (len-entries no_client) ∙ len-empty nat_cmp LastReply))) (All-nil (λ (e : ℕ × LastReply). ReplyWithin OLD_BLOCK_BYTES e.1.reply))

module _ (bytes : List ℕ) (h : Head) (rest : List ℕ) (got : bytes ≡ old_head_text h ++ rest) where
  its_number : (v : StateView) (after : List ℕ) → bytes ≡ old_state_text v ++ after → h.origin.number ≡ v.number
  its_number v after same =
      ap (λ t. t.0.0.0.0.0)
      (old_head_free.apart (((((h.origin.number, h.origin.previous), h.origin.epoch), h.origin.batch), h.origin.moment), h.token) (((((v.number, v.previous), v.epoch), v.batch), v.moment), v.token) rest
      (sessions_text v.sessions ++ (old_pages_text v.items ++ after)) (sym got ∙ (same ∙ head_first v after))).0

  -- of number 0 there is the first state alone
  pub takes_old_first : h.origin.number ≡ 0 → (r : Result (StateView × Bor (List ℕ)) Fault) → Takes IsFirstState old_state_text bytes r → Takes IsOldState old_state_text bytes r
  takes_old_first none (Ok p) t = (record { state = subst IsState (sym t.0) first_is_state; old = λ later. (let number : p.0.number ≡ 0 = ap (λ (s : StateView). s.number) t.0 in absurd (omega (arith, later, number))); replies = subst (λ (s : StateView). RepliesWithin OLD_BLOCK_BYTES s.sessions) (sym t.0) none_kept }, t.1)
  takes_old_first none (Err e) t = Refused-weaker e (λ (no_first : NoPrefix IsFirstState old_state_text bytes). record {
    none = λ v after f same. no_first.none v after (f.state.first (sym (its_number v after same) ∙ none)) same;
  }) t

  pub takes_old_later : 0 < h.origin.number → (r : Result (StateView × Bor (List ℕ)) Fault) → Takes IsOldLaterState old_state_text bytes r → Takes IsOldState old_state_text bytes r
  takes_old_later some (Ok p) t = (record { state = t.0.later.state; old = λ later. t.0.old; replies = t.0.replies }, t.1)
  takes_old_later some (Err e) t = Refused-weaker e (λ (no_later : NoPrefix IsOldLaterState old_state_text bytes). record {
    none = λ v after f same.
        let later : 0 < v.number = omega (arith, some, its_number v after same) in
        no_later.none v after (record { later = record { state = f.state; later = later }; old = f.old later; replies = f.replies }) same;
  }) t

-- a record of version 1 identifies its state
pub one_old_state : (s t : StateView) (rest others : List ℕ) → IsOldState s → IsOldState t → old_state_text s ++ rest ≡ old_state_text t ++ others → (s ≡ t) × (rest ≡ others)
unfolding old_state_text
one_old_state s t rest others is it = one_old old_pages_text old_pages_free s t rest others (by s.number refl)
  where
    by : (n : ℕ) → s.number ≡ n → s.number ≡ t.number → s.form ≡ t.form
    by zero e same = ap (λ (x : StateView). x.form) (is.state.first e ∙ sym (it.state.first (sym same ∙ e)))
    by (suc n) e same = is.old (omega (arith, e)) ∙ sym (it.old (omega (arith, e, same)))

pub no_old_head : (bytes : List ℕ) (e : Fault) → Refused e (NoPrefix IsOldHead old_head_text bytes) → Refused e (NoPrefix IsOldState old_state_text bytes)
no_old_head bytes e = Refused-weaker e (λ none. record {
  none = λ v after f same. none.none (record { origin = record (origin_of v) { form = Old }; token = v.token }) (sessions_text v.sessions ++ (old_pages_text v.items ++ after)) refl (same ∙ head_first v after);
})

abbrev nothing : Items
nothing = empty

-- the old pages of no items
pub no_pages : old_pages_text empty ≡ replicate 320 0
unfolding old_pages_text page_text num
no_pages =
    ap (λ es. flat_map page_text (map (λ p. filter (λ e. number_among OLD_PAGES e.0 == p) es) (range_with_len 0 OLD_PAGES)))
    (none_at_all (entries nothing) (sym (len-entries nothing) ∙ len-empty by_bytes Item))
