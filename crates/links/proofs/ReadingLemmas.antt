-- Bytes are read, step by step.
use Rattle.std.proofs.Common.{◌≡◌, ℕ, ◌+◌, ◌-◌, ◌<◌, ◌≤◌, List, [], ◌∷◌, ◌++◌, length, take, drop, Option, Some, None, inl, inr, refl, sym, ap, ◌∙◌, subst, arith}
use Rattle.std.specs.List.{flat_map}
use Rattle.std.proofs.lemmas.Bool.{cases_lt}
use Rattle.std.proofs.lemmas.List.{append_assoc, append-nil, take-append-drop}
use Rattle.std.proofs.lemmas.List.Concat.{flat_map-append}
use Rattle.std.proofs.lemmas.List.Elements.{All-nil, All-append, All-push}
use Rattle.links.specs.declared.message_fault.MessageFault.{MessageFault}
use Rattle.links.specs.declared.message.TheConstants.{HEADER_BYTES}
use Rattle.links.specs.Numbered.{Numbered}
use Rattle.links.specs.Message.{message_text, said_size, IsMessage, IsPartOfMessage, EndsReading}
use Rattle.links.specs.Reading.{MessageReaderView, IsKeptPart, BeginsWithMessages, IsKeptOrEnds, HasReadMessages, ReadsMore, TakesPartOfMessage, TakesMessage, IsReadingMessages, ReadsAll}
use Rattle.links.proofs.MessageLemmas.{EndsReading-append, texts-push}

pub begins : (most : ℕ) (kept bytes : List ℕ) (old : List Numbered) → IsPartOfMessage most kept → IsReadingMessages most (kept ++ bytes) old old kept bytes
begins most kept bytes old part = record {
  more = [];
  new_is = sym (append-nil old);
  front = record { split = refl; each = All-nil (IsMessage most) };
  part = part;
}

module _ (most : ℕ) (all : List ℕ) (old new : List Numbered) (kept unread : List ℕ) (t : IsReadingMessages most all old new kept unread) where
  -- the bytes that were taken go from what is not read to what is kept
  moved : (n : ℕ) → kept ++ unread ≡ (kept ++ take n unread) ++ drop n unread
  moved n = ap (λ xs. kept ++ xs) (sym (take-append-drop n unread)) ∙ sym (append_assoc kept (take n unread) (drop n unread))

  pub part_read : (n : ℕ) (now : List ℕ) → TakesPartOfMessage most kept unread n now → IsReadingMessages most all old new now (drop n unread)
  part_read n now p = record {
    more = t.more;
    new_is = t.new_is;
    front = record {
      split = t.front.split ∙ ap (λ xs. flat_map message_text t.more ++ xs) (moved n ∙ ap (λ xs. xs ++ drop n unread) (sym p.now_is));
      each = t.front.each;
    };
    part = p.part;
  }

  pub message_read : (m : Numbered) (n : ℕ) (now : List ℕ) → TakesMessage most kept unread m n now → IsReadingMessages most all old (new ++ m ∷ []) now (drop n unread)
  message_read m n now p = record {
    more = t.more ++ m ∷ [];
    new_is = ap (λ xs. xs ++ m ∷ []) t.new_is ∙ append_assoc old t.more (m ∷ []);
    front = record {
      split = t.front.split
          ∙ (ap (λ xs. flat_map message_text t.more ++ xs) (moved n ∙ ap (λ xs. xs ++ drop n unread) p.text_is)
          ∙ (sym (append_assoc (flat_map message_text t.more) (message_text m) (drop n unread))
          ∙ (ap (λ xs. xs ++ drop n unread) (sym (texts-push t.more m))
          ∙ ap (λ xs. flat_map message_text (t.more ++ m ∷ []) ++ (xs ++ drop n unread)) (sym p.now_is))));
      each = All-push (IsMessage most) t.more m t.front.each p.message;
    };
    part = λ there. absurd (omega (arith, there, ap length p.now_is));
  }

  pub all_read : unread ≡ [] → ReadsAll most all old new None kept
  all_read e = record {
    more = t.more;
    rest = kept;
    new_is = t.new_is;
    front = record {
      split = t.front.split ∙ ap (λ xs. flat_map message_text t.more ++ xs) (ap (λ xs. kept ++ xs) e ∙ append-nil kept);
      each = t.front.each;
    };
    stands = (refl, t.part);
  }

  pub some_read : (fault : MessageFault) (now : List ℕ) → EndsReading fault most (kept ++ unread) → ReadsAll most all old new (Some fault) now
  some_read fault now h = record {
    more = t.more;
    rest = kept ++ unread;
    new_is = t.new_is;
    front = t.front;
    stands = h;
  }

-- ---- a reader

-- of no bytes nothing was read
pub nothing_read : (r : MessageReaderView) → r.kept ≡ [] → r.end ≡ None → HasReadMessages r.most [] [] r
nothing_read r kept is_open = record {
  rest = [];
  front = record { split = refl; each = All-nil (IsMessage r.most) };
  stands = subst (λ (e : Option MessageFault). IsKeptOrEnds e r.most [] r.kept) (sym is_open) (kept, λ there. absurd (omega (arith, there)));
  most_is = refl;
}

begins-append : (most : ℕ) (all more : List ℕ) (before messages : List Numbered) (kept rest : List ℕ) → BeginsWithMessages most all before kept → BeginsWithMessages most (kept ++ more) messages rest
    → BeginsWithMessages most (all ++ more) (before ++ messages) rest
begins-append most all more before messages kept rest f g = record {
  split =
      ap (λ xs. xs ++ more) f.split
      ∙ (append_assoc (flat_map message_text before) kept more
      ∙ (ap (λ xs. flat_map message_text before ++ xs) g.split
      ∙ (sym (append_assoc (flat_map message_text before) (flat_map message_text messages) rest)
      ∙ ap (λ xs. xs ++ rest) (sym (flat_map-append message_text before messages)))));
  each = All-append (IsMessage most) before messages f.each g.each;
}

-- more bytes come to one that may read more
pub reads_on : (most : ℕ) (all bytes : List ℕ) (before old new : List Numbered) (r s : MessageReaderView) (end : Option MessageFault) (kept : List ℕ) → HasReadMessages most all before r → r.end ≡ None
    → (t : ReadsAll r.most (r.kept ++ bytes) old new end kept) → s.most ≡ r.most → ((m : ℕ) → IsKeptOrEnds end m t.rest kept → IsKeptOrEnds s.end m t.rest s.kept) → ReadsMore most (all ++ bytes) before old new s
reads_on most all bytes before old new r s end kept h is_open t same stands =
    let now = subst (λ (e : Option MessageFault). IsKeptOrEnds e most h.rest r.kept) is_open h.stands in
    let front : BeginsWithMessages most (h.rest ++ bytes) t.more t.rest =
    subst (λ xs. BeginsWithMessages most (xs ++ bytes) t.more t.rest) now.0 (subst (λ m. BeginsWithMessages m (r.kept ++ bytes) t.more t.rest) h.most_is t.front) in (
      t.more,
      t.new_is,
      record {
        rest = t.rest;
        front = begins-append most all bytes before t.more h.rest t.rest h.front front;
        stands = stands most (subst (λ m. IsKeptOrEnds end m t.rest kept) h.most_is t.stands);
        most_is = same ∙ h.most_is;
      },
    )

-- more bytes come to one that has ended
pub reads_nothing : (most : ℕ) (all bytes : List ℕ) (before old : List Numbered) (r : MessageReaderView) (fault : MessageFault) → HasReadMessages most all before r → r.end ≡ Some fault → ReadsMore most (all ++ bytes) before old old r
reads_nothing most all bytes before old r fault h has_ended =
    let ends = subst (λ (e : Option MessageFault). IsKeptOrEnds e most h.rest r.kept) has_ended h.stands in (
      [],
      sym (append-nil old),
      subst (λ messages. HasReadMessages most (all ++ bytes) messages r) (sym (append-nil before)) (record {
        rest = h.rest ++ bytes;
        front = record {
          split = ap (λ xs. xs ++ bytes) h.front.split ∙ append_assoc (flat_map message_text before) h.rest bytes;
          each = h.front.each;
        };
        stands = subst (λ (e : Option MessageFault). IsKeptOrEnds e most (h.rest ++ bytes) r.kept) (sym has_ended) (EndsReading-append fault most h.rest bytes ends);
        most_is = h.most_is;
      }),
    )

-- what is kept is less than a message at the limit
pub kept_within : (end : Option MessageFault) (most : ℕ) (kept : List ℕ) → IsKeptPart end most kept → length kept < HEADER_BYTES + most
kept_within None most kept part = by (length kept) (said_size kept) part
  where
    by : (n size : ℕ) → (HEADER_BYTES ≤ n → (size ≤ most) × (n < HEADER_BYTES + size)) → n < HEADER_BYTES + most
    by n size h = grind (arith, h)
kept_within (Some fault) most kept nothing = omega (arith, ap length nothing)

-- ---- one step

-- bytes are missing of what is not whole
pub some_missing : (most : ℕ) (kept : List ℕ) (missing : ℕ) → IsPartOfMessage most kept → (length kept < HEADER_BYTES → missing ≡ HEADER_BYTES - length kept) → (HEADER_BYTES ≤ length kept → missing ≡ HEADER_BYTES + said_size kept - length kept) → 0 < missing
some_missing most kept missing part to_header to_end =
    elim (cases_lt (length kept) HEADER_BYTES) [
      | inl lt ↦ omega (arith, to_header lt, lt)
      | inr le ↦ omega (arith, to_end le, (part le).1)
    ]

module _ (most : ℕ) (kept unread now : List ℕ) (n : ℕ) (some : 0 < n) (there : n ≤ length unread) (now_is : now ≡ kept ++ take n unread) where
  -- the header is not there
  pub header_comes : length now < HEADER_BYTES → TakesPartOfMessage most kept unread n now
  header_comes short = record {
    some = some;
    there = there;
    now_is = now_is;
    part = λ whole. absurd (omega (arith, whole, short));
  }

  -- the header is there, and not the text
  pub text_comes : said_size now ≤ most → length now < HEADER_BYTES + said_size now → TakesPartOfMessage most kept unread n now
  text_comes within short = record {
    some = some;
    there = there;
    now_is = now_is;
    part = λ whole. (within, short);
  }

  -- both are there
  pub message_comes : (m : Numbered) (after : List ℕ) → now ≡ message_text m → IsMessage most m → after ≡ [] → TakesMessage most kept unread m n after
  message_comes m after e is_message empty = record {
    some = some;
    there = there;
    text_is = sym now_is ∙ e;
    message = is_message;
    now_is = empty;
  }
