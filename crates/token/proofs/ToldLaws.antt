-- Sessions that have one told text are the same.
use Rattle.std.proofs.Common.{◌≡◌, ℕ, suc, Bool, true, false, cond, List, [], ◌∷◌, ◌++◌, length, map, All, refl, sym, ap, ◌∙◌, arith}
use Rattle.std.specs.Prelude.{flat_map, Contains}
use Rattle.std.specs.Int.{w16, w32, w64}
use Rattle.std.specs.FinMap.{entries, same_entries_map}
use Rattle.std.proofs.lemmas.List.Folds.{flat_map-map}
use Rattle.proto.specs.declared.reply.Reply.{Reply}
use Rattle.sessions.specs.declared.sessions.LastReply.{LastReply}
use Rattle.wire.specs.Record.{IsPrefixFree}
use Rattle.wire.specs.Number.{num, fixed}
use Rattle.wire.specs.Field.{list_text}
use Rattle.wire.specs.Reply.{reply_record}
use Rattle.wire.specs.FrontLaws.{head_of, tail_of}
use Rattle.wire.specs.FieldLaws.{list_prefix_free}
use Rattle.wire.specs.KeyLaws.{fixed_prefix_free}
use Rattle.wire.specs.ReplyLaws.{reply_prefix_free}
use Rattle.wire.specs.RowLaws.{u16_free, u64_free, followed}
use Rattle.wire.proofs.Values.{told_apart}
use Rattle.token.specs.Digest.{digest}
use Rattle.token.specs.Told.{is_long, told_reply, told_session, told_sessions_text, long_texts, TellsSessions}
use Rattle.wire.specs.Distinct.{Distinct}

-- a reply, or the digest of one
pub data Known : Type 0 where
  itself : Reply → Known
  by_digest : List ℕ → Known

abbrev known_text : Known → List ℕ
known_text (itself reply) = 0 ∷ reply_record reply
known_text (by_digest d) = 1 ∷ fixed 32 d

abbrev known : Reply → Known
known reply = cond (is_long reply) (by_digest (digest (reply_record reply))) (itself reply)

known_apart : (v w : Known) (r s : List ℕ) → known_text v ++ r ≡ known_text w ++ s → (v ≡ w) × (r ≡ s)
known_apart (itself v) (itself w) r s e =
    let both = reply_prefix_free.apart v w r s (tail_of 0 0 _ _ e) in
    (ap itself both.0, both.1)
known_apart (by_digest v) (by_digest w) r s e =
    let both = (fixed_prefix_free 31).apart v w r s (tail_of 1 1 _ _ e) in
    (ap by_digest both.0, both.1)
known_apart (itself v) (by_digest w) r s e = absurd (let marks : ◌≡◌ {A = ℕ} 0 1 = ap head_of e in cc)
known_apart (by_digest v) (itself w) r s e = absurd (let marks : ◌≡◌ {A = ℕ} 1 0 = ap head_of e in cc)

known_prefix_free : IsPrefixFree known_text
known_prefix_free = record { apart = known_apart }

-- a session as a row
abbrev Row : Type 0
Row = (ℕ × ℕ) × Known

abbrev row_of : ℕ × LastReply → Row
row_of session = ((session.0, session.1.number), known session.1.reply)

abbrev row_text : Row → List ℕ
row_text row = num w16 row.0.0 ++ num w64 row.0.1 ++ known_text row.1

row_prefix_free : IsPrefixFree row_text
row_prefix_free = followed (followed u16_free u64_free) known_prefix_free

told_is_known : (reply : Reply) → told_reply reply ≡ known_text (known reply)
unfolding told_reply
told_is_known reply = elim (is_long reply) as (λ b. cond b (1 ∷ fixed 32 (digest (reply_record reply))) (0 ∷ reply_record reply) ≡ known_text (cond b (by_digest (digest (reply_record reply))) (itself reply))) [
  | true ↦ refl
  | false ↦ refl
]

told_is_row : (session : ℕ × LastReply) → told_session session ≡ row_text (row_of session)
unfolding told_session
told_is_row session = ap (λ (t : List ℕ). num w16 session.0 ++ num w64 session.1.number ++ t) (told_is_known session.1.reply)

rows_text : (es : List (ℕ × LastReply)) → flat_map told_session es ≡ flat_map row_text (map row_of es)
rows_text es = (λ i. flat_map (λ x. told_is_row x i) es) ∙ sym (flat_map-map row_text row_of es)

length_rows : (es : List (ℕ × LastReply)) → length (map row_of es) ≡ length es
length_rows [] = refl
length_rows (e ∷ es) = ap suc (length_rows es)

list_is_rows : (es : List (ℕ × LastReply)) → list_text told_session es ≡ list_text row_text (map row_of es)
list_is_rows es = λ i. num w32 (sym (length_rows es) i) ++ rows_text es i

-- the first of some long texts, and the others
first_and_rest : (P : List ℕ → Type 0) (b : Bool) (x : ℕ × LastReply) (rest : List (ℕ × LastReply)) → All P (map (λ s. reply_record s.1.reply) (cond b (x ∷ rest) rest))
    → (b ≡ true → P (reply_record x.1.reply)) × All P (map (λ s. reply_record s.1.reply) rest)
first_and_rest P true x rest all = (λ e. all 0 (reply_record x.1.reply) (omega arith), λ i d l. all (suc i) d (omega (arith, l)))
first_and_rest P false x rest all = (λ e. absurd (cc e), all)

module _ (among : List ℕ → Type 0) (distinct : Distinct among) where
  -- replies that are known by the same are the same
  same_reply : (v w : Reply) → (is_long v ≡ true → among (reply_record v)) → (is_long w ≡ true → among (reply_record w)) → known v ≡ known w → v ≡ w
  unfolding digest
  same_reply v w p q e = by (is_long v) (is_long w) p q e
    where
      by : (a b : Bool) → (a ≡ true → among (reply_record v)) → (b ≡ true → among (reply_record w))
          → cond a (by_digest (digest (reply_record v))) (itself v) ≡ cond b (by_digest (digest (reply_record w))) (itself w) → v ≡ w
      by true true p q e = told_apart reply_prefix_free v w (distinct (reply_record v) (reply_record w) (p refl) (q refl) (cc e))
      by true false p q e = absurd (cc e)
      by false true p q e = absurd (cc e)
      by false false p q e = cc e

  same_sessions : (xs ys : List (ℕ × LastReply)) → All among (long_texts xs) → All among (long_texts ys) → map row_of xs ≡ map row_of ys → xs ≡ ys
  same_sessions [] [] p q e = refl
  same_sessions [] (y ∷ ys) p q e = absurd (cc e)
  same_sessions (x ∷ xs) [] p q e = absurd (cc e)
  same_sessions (x ∷ xs) (y ∷ ys) p q e =
      let mine = first_and_rest among (is_long x.1.reply) x _ p in
      let other = first_and_rest among (is_long y.1.reply) y _ q in
      let row : row_of x ≡ row_of y = cc e in
      let reply = same_reply x.1.reply y.1.reply mine.0 other.0 (ap (λ (r : Row). r.1) row) in
      let here : x ≡ y = λ i. ((row i).0.0, record { number = (row i).0.1; reply = reply i }) in
      let others = same_sessions xs ys mine.1 other.1 (cc e) in
      λ i. here i ∷ others i

pub tells_sessions : TellsSessions
unfolding told_sessions_text
tells_sessions texts distinct m n p q e =
    let lists : list_text told_session (entries m) ≡ list_text told_session (entries n) = tail_of 7 7 _ _ e in
    let rows = told_apart (list_prefix_free row_text row_prefix_free) (map row_of (entries m)) (map row_of (entries n)) (sym (list_is_rows (entries m)) ∙ lists ∙ list_is_rows (entries n)) in
    same_entries_map m n (same_sessions (Contains texts) distinct (entries m) (entries n) p q rows)
