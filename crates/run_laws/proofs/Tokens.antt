-- If texts have distinct digests, a token tells the state.
use Rattle.std.proofs.Common.{◌≡◌, ℕ, zero, suc, ◌<◌, ◌⊎◌, inl, inr, ⊎_elim, get_or, List, [], ◌∷◌, ◌++◌, refl, sym, ap, ◌∙◌, subst, arith}
use Rattle.std.specs.Prelude.{Contains, All}
use Rattle.std.proofs.lemmas.List.Elements.{Contains-get_or, Contains-append_left, Contains-append_right, Contains-append_cases}
use Rattle.wire.specs.declared.token.TokenText.{TokenText}
use Rattle.wire.specs.Session.{sessions_text}
use Rattle.wire.specs.Token.{token_text}
use Rattle.wire.specs.SessionLaws.{sessions_prefix_free}
use Rattle.wire.specs.BatchLaws.{batch_prefix_free}
use Rattle.wire.specs.Batch.{batch_text}
use Rattle.wire.specs.Distinct.{Distinct}
use Rattle.wire.specs.TokenLaws.{token_text_free}
use Rattle.sessions.specs.Fresh.{Replies}
use Rattle.token.specs.declared.form.Form.{Form}
use Rattle.token.specs.declared.form.Form.TheVariants.{Old, Current, Tree}
use Rattle.token.specs.Form.{height_of}
use Rattle.token.specs.Digest.{digest}
use Rattle.token.specs.Digested.{sessions_digest}
use Rattle.token.specs.Told.{told_sessions_text, long_reply_texts}
use Rattle.token.proofs.ToldLaws.{tells_sessions}
use Rattle.states.specs.State.{StateView, initial_state, told_by, token_of, with_token}
use Rattle.run_laws.specs.Texts.{page_texts, page_digests, inner_texts, session_texts, state_texts, IsTextOf}
use Rattle.run_laws.specs.Met.{AreAmong, IsKnown, ToldApart}
use Rattle.run_laws.specs.Laws.{NumberAndTokenTell, TokenTells, StateTellsBatch}
use Rattle.run_laws.proofs.Elements.{among_left, among_right, among_head, among_tail}
use Rattle.run_laws.proofs.Trees.{same_value, same_text, same_store}

-- the texts of the inner nodes over the pages of a state
abbrev nodes_of : StateView → List (List ℕ)
nodes_of s = inner_texts (height_of s.form) (page_digests s.form s.items)

-- those of its sessions, and that of its token
abbrev last_of : StateView → List (List ℕ)
last_of s = session_texts s.form s.sessions ++ token_text (told_by s) ∷ []

-- each of these is in the other list
all_of : (these those : List (List ℕ)) → AreAmong these those → All (Contains those) these
all_of these those among k d low = among (get_or these k d) (Contains-get_or these k d low)

module _ (texts : List (List ℕ)) (distinct : Distinct (Contains texts)) where
  -- what tokens are digests of is the same if they are
  same_told : (s t : StateView) → AreAmong (last_of s) texts → AreAmong (last_of t) texts → token_of s ≡ token_of t → told_by s ≡ told_by t
  same_told s t p q e =
      same_value token_text_free (told_by s) (told_by t)
      (same_text (Contains texts) distinct (token_text (told_by s)) (token_text (told_by t))
      (among_head (token_text (told_by s)) [] texts (among_right (session_texts s.form s.sessions) (token_text (told_by s) ∷ []) texts p))
      (among_head (token_text (told_by t)) [] texts (among_right (session_texts t.form t.sessions) (token_text (told_by t) ∷ []) texts q))
      e)

  -- sessions whose texts, in the order of clients, have one digest are the same
  same_in_text : (m n : Replies) → AreAmong (sessions_text m ∷ []) texts → AreAmong (sessions_text n ∷ []) texts → digest (sessions_text m) ≡ digest (sessions_text n) → m ≡ n
  same_in_text m n p q e =
      same_value sessions_prefix_free m n (same_text (Contains texts) distinct (sessions_text m) (sessions_text n) (among_head (sessions_text m) [] texts p) (among_head (sessions_text n) [] texts q) e)

  same_sessions : (form : Form) (m n : Replies) → AreAmong (session_texts form m) texts → AreAmong (session_texts form n) texts → sessions_digest form m ≡ sessions_digest form n → m ≡ n
  same_sessions Old m n p q e = same_in_text m n p q e
  same_sessions Current m n p q e = same_in_text m n p q e
  same_sessions Tree m n p q e =
      tells_sessions texts distinct m n
      (all_of (long_reply_texts m) texts (among_tail (told_sessions_text m) (long_reply_texts m) texts p))
      (all_of (long_reply_texts n) texts (among_tail (told_sessions_text n) (long_reply_texts n) texts q))
      (same_text (Contains texts) distinct (told_sessions_text m) (told_sessions_text n) (among_head (told_sessions_text m) (long_reply_texts m) texts p) (among_head (told_sessions_text n) (long_reply_texts n) texts q) e)

  pub same_state : (s t : StateView) → AreAmong (state_texts s) texts → AreAmong (state_texts t) texts → s ≡ with_token s → t ≡ with_token t → s.token ≡ t.token → s ≡ t
  same_state s t p q hs ht e =
      let p' = among_right (page_texts s.form s.items) (nodes_of s ++ last_of s) texts p in
      let q' = among_right (page_texts t.form t.items) (nodes_of t ++ last_of t) texts q in
      let ps = among_right (nodes_of s) (last_of s) texts p' in
      let qs = among_right (nodes_of t) (last_of t) texts q' in
      let tokens : token_of s ≡ token_of t = sym (ap (λ (x : StateView). x.token.0) hs) ∙ (ap (λ x. x.0) e ∙ ap (λ (x : StateView). x.token.0) ht) in
      let told = same_told s t ps qs tokens in
      let store = same_store texts distinct s.form t.form s.items t.items
      (among_left (page_texts s.form s.items) (nodes_of s ++ last_of s) texts p)
      (among_left (page_texts t.form t.items) (nodes_of t ++ last_of t) texts q)
      (among_left (nodes_of s) (last_of s) texts p')
      (among_left (nodes_of t) (last_of t) texts q')
      (ap (λ (x : TokenText). x.root) told) in
      let sessions = same_sessions s.form s.sessions t.sessions
      (among_left (session_texts s.form s.sessions) (token_text (told_by s) ∷ []) texts ps)
      (subst (λ form. AreAmong (session_texts form t.sessions) texts) (sym store.0) (among_left (session_texts t.form t.sessions) (token_text (told_by t) ∷ []) texts qs))
      (ap (λ (x : TokenText). x.sessions) told ∙ ap (λ form. sessions_digest form t.sessions) (sym store.0)) in
      λ i. record {
        form = store.0 i;
        number = (told i).n;
        previous = record { 0 = (told i).previous };
        epoch = (told i).epoch;
        batch = (told i).batch;
        moment = (told i).moment;
        token = e i;
        sessions = sessions i;
        items = store.1 i;
      }

module _ (met : StateView → Type 0) (apart : ToldApart met) where
  -- the texts of two states that were met are identified
  of_two : (s t : StateView) → met s → met t → Distinct (Contains (state_texts s ++ state_texts t))
  of_two s t c d a b p q e = apart.distinct a b (from a p) (from b q) e
    where
      from : (text : List ℕ) → Contains (state_texts s ++ state_texts t) text → IsTextOf met text
      from text h = ⊎_elim (λ x. (s, c, x)) (λ x. (t, d, x)) (Contains-append_cases (state_texts s) (state_texts t) text h)

  pub tells : (s t : StateView) → IsKnown met s → IsKnown met t → 0 < s.number → 0 < t.number → s.token ≡ t.token → s ≡ t
  tells s t (inl first) known low low' e = let none = ap (λ (x : StateView). x.number) first in absurd (omega (arith, none))
  tells s t (inr c) (inl first) low low' e = let none = ap (λ (x : StateView). x.number) first in absurd (omega (arith, none))
  tells s t (inr c) (inr d) low low' e =
      same_state (state_texts s ++ state_texts t) (of_two s t c d) s t (λ x h. Contains-append_left (state_texts s) (state_texts t) x h) (λ x h. Contains-append_right (state_texts s) (state_texts t) x h)
      ((apart.states s c).token low)
      ((apart.states t d).token low')
      e

  -- only the first state has number 0
  pub is_first : (s : StateView) → IsKnown met s → s.number ≡ 0 → s ≡ initial_state
  is_first s (inl first) none = first
  is_first s (inr c) none = (apart.states s c).first none

zero_or_more : (n : ℕ) → (n ≡ 0) ⊎ (0 < n)
zero_or_more zero = inl refl
zero_or_more (suc n) = inr (omega arith)

module _ (met : StateView → Type 0) (apart : ToldApart met) where
  pub both_tell : (s t : StateView) → IsKnown met s → IsKnown met t → s.number ≡ t.number → s.token ≡ t.token → s ≡ t
  both_tell s t known known' n e = elim (zero_or_more s.number) [
    | inl none ↦ is_first met apart s known none ∙ sym (is_first met apart t known' (sym n ∙ none))
    | inr some ↦ tells met apart s t known known' some (subst (λ k. 0 < k) n some) e
  ]

pub token_tells : TokenTells
token_tells met s t apart c d low low' e = tells (Contains met) apart s t c d low low' e

pub number_and_token_tell : NumberAndTokenTell
number_and_token_tell met s t apart c d n e = both_tell (Contains met) apart s t c d n e

pub state_tells_batch : StateTellsBatch
state_tells_batch texts old before e other distinct c d round round' same =
    same_value batch_prefix_free e.batch other.batch
    (same_text (Contains texts) distinct (batch_text e.batch) (batch_text other.batch) c d
    (sym round.round.batch_is ∙ (ap (λ (x : StateView). x.batch) same ∙ round'.round.batch_is)))
