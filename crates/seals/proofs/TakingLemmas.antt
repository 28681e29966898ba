-- Bytes are taken step by step.
use Rattle.std.proofs.Common.{◌≡◌, ℕ, ◌+◌, ◌^◌, ◌<◌, ◌≤◌, List, [], ◌∷◌, ◌++◌, length, take, drop, Some, None, refl, sym, ap, ◌∙◌, subst, arith}
use Rattle.std.proofs.lemmas.List.{append_assoc, append-nil, length_push, take-append-drop}
use Rattle.std.proofs.lemmas.List.Elements.{All-nil, All-push}
use Rattle.seals.specs.declared.fault.SealFault.{SealFault}
use Rattle.seals.specs.declared.frame.TheConstants.{MOST_PIECE_BYTES}
use Rattle.seals.specs.Frame.{frame, frames, IsPartOfFrame, IsEndFor}
use Rattle.seals.specs.Taking.{TakesPart, TakesFrame, IsTaking, TakesAll}
use Rattle.seals.proofs.FrameLemmas.{frames-push}

pub begins : (key : List ℕ) (number : ℕ) (kept bytes : List ℕ) (old : List (List ℕ)) → number < 2 ^ 64 → IsPartOfFrame kept → IsTaking key number (kept ++ bytes) old old number kept bytes
begins key number kept bytes old lt part = record {
  more = [];
  new_is = sym (append-nil old);
  front = record { split = refl; within = All-nil (λ (piece : List ℕ). length piece ≤ MOST_PIECE_BYTES) };
  next_is = omega arith;
  numbered = lt;
  part = part;
}

module _ (key : List ℕ) (number : ℕ) (all : List ℕ) (old new : List (List ℕ)) (next : ℕ) (kept unread : List ℕ) (t : IsTaking key number all old new next kept unread) where
  -- the bytes that were taken go from what is not read to what is kept
  moved : (n : ℕ) → kept ++ unread ≡ (kept ++ take n unread) ++ drop n unread
  moved n = ap (λ xs. kept ++ xs) (sym (take-append-drop n unread)) ∙ sym (append_assoc kept (take n unread) (drop n unread))

  pub part_taken : (n after : ℕ) (now : List ℕ) → TakesPart next kept unread n after now → IsTaking key number all old new after now (drop n unread)
  part_taken n after now p = record {
    more = t.more;
    new_is = t.new_is;
    front = record {
      split = t.front.split ∙ ap (λ xs. frames key number t.more ++ xs) (moved n ∙ ap (λ xs. xs ++ drop n unread) (sym p.now_is));
      within = t.front.within;
    };
    next_is = p.next_is ∙ t.next_is;
    numbered = subst (λ m. m < 2 ^ 64) (sym p.next_is) t.numbered;
    part = p.part;
  }

  pub frame_taken : (piece : List ℕ) (n after : ℕ) (now : List ℕ) → TakesFrame key next kept unread piece n after now → IsTaking key number all old (new ++ piece ∷ []) after now (drop n unread)
  frame_taken piece n after now p = record {
    more = t.more ++ piece ∷ [];
    new_is = ap (λ xs. xs ++ piece ∷ []) t.new_is ∙ append_assoc old t.more (piece ∷ []);
    front = record {
      split = t.front.split
          ∙ (ap (λ xs. frames key number t.more ++ xs) (moved n ∙ ap (λ xs. xs ++ drop n unread) (p.frame_is ∙ ap (λ m. frame key m piece) t.next_is))
          ∙ (sym (append_assoc (frames key number t.more) (frame key (number + length t.more) piece) (drop n unread))
          ∙ (ap (λ xs. xs ++ drop n unread) (sym (frames-push key number t.more piece))
          ∙ ap (λ xs. frames key number (t.more ++ piece ∷ []) ++ (xs ++ drop n unread)) (sym p.now_is))));
      within = All-push (λ (piece : List ℕ). length piece ≤ MOST_PIECE_BYTES) t.more piece t.front.within p.within;
    };
    next_is = omega (arith, p.next_is, t.next_is, length_push t.more piece);
    numbered = p.numbered;
    part = λ there. absurd (omega (arith, there, ap length p.now_is));
  }

  pub all_taken : unread ≡ [] → TakesAll key number all old new None next kept
  all_taken e = record {
    more = t.more;
    rest = kept;
    new_is = t.new_is;
    front = record {
      split = t.front.split ∙ ap (λ xs. frames key number t.more ++ xs) (ap (λ xs. kept ++ xs) e ∙ append-nil kept);
      within = t.front.within;
    };
    stands = (t.next_is, refl, t.part);
    numbered = subst (λ m. m < 2 ^ 64) t.next_is t.numbered;
  }

  pub some_taken : (fault : SealFault) (after : ℕ) (now : List ℕ) → IsEndFor fault key next (kept ++ unread) → TakesAll key number all old new (Some fault) after now
  some_taken fault after now h = record {
    more = t.more;
    rest = kept ++ unread;
    new_is = t.new_is;
    front = t.front;
    stands = subst (λ m. IsEndFor fault key m (kept ++ unread)) t.next_is h;
    numbered = subst (λ m. m < 2 ^ 64) t.next_is t.numbered;
  }
