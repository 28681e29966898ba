-- An opener takes bytes.
use Rattle.std.proofs.Common.{◌≡◌, ℕ, ◌+◌, ◌^◌, ◌<◌, ◌≤◌, List, [], ◌++◌, length, Option, Some, None, refl, sym, ap, ◌∙◌, subst, arith}
use Rattle.std.proofs.lemmas.List.{append_assoc, append-nil, length-append}
use Rattle.std.proofs.lemmas.List.Elements.{All-nil, All-append}
use Rattle.seals.specs.declared.fault.SealFault.{SealFault}
use Rattle.seals.specs.declared.frame.TheConstants.{MOST_PIECE_BYTES, LENGTH_BYTES, TAG_BYTES}
use Rattle.seals.specs.Frame.{frames, said_length}
use Rattle.seals.specs.Opening.{OpenerView, StandsBehind, IsPartIf, BeginsWithFrames, HasOpened, OpensMore}
use Rattle.seals.specs.Taking.{TakesAll}
use Rattle.seals.proofs.FrameLemmas.{IsEndFor-append, frames-append}

-- of no bytes nothing was taken
pub begun : (o : OpenerView) → o.number ≡ 0 → o.kept ≡ [] → o.end ≡ None → HasOpened o.key [] [] o
begun o number kept open' = record {
  rest = [];
  front = record { split = refl; within = All-nil (λ (piece : List ℕ). length piece ≤ MOST_PIECE_BYTES) };
  stands = subst (λ e. StandsBehind e o.key 0 [] o.number o.kept) (sym open') (number, kept, λ there. absurd (omega (arith, there)));
  numbered = omega arith;
  key_is = refl;
}

begins-append : (key : List ℕ) (all more : List ℕ) (before pieces : List (List ℕ)) (kept rest : List ℕ) → BeginsWithFrames key 0 all before kept → BeginsWithFrames key (length before) (kept ++ more) pieces rest
    → BeginsWithFrames key 0 (all ++ more) (before ++ pieces) rest
begins-append key all more before pieces kept rest f g = record {
  split =
      let same : 0 + length before ≡ length before = omega arith in
      ap (λ xs. xs ++ more) f.split
      ∙ (append_assoc (frames key 0 before) kept more
      ∙ (ap (λ xs. frames key 0 before ++ xs) g.split
      ∙ (sym (append_assoc (frames key 0 before) (frames key (length before) pieces) rest)
      ∙ ap (λ xs. xs ++ rest) (sym (frames-append key 0 before pieces ∙ ap (λ n. frames key 0 before ++ frames key n pieces) same)))));
  within = All-append (λ (piece : List ℕ). length piece ≤ MOST_PIECE_BYTES) before pieces f.within g.within;
}

-- more bytes come to one that may take more
pub goes_on : (key all bytes : List ℕ) (before old new : List (List ℕ)) (o p : OpenerView) (end : Option SealFault) (next : ℕ) (kept : List ℕ) → HasOpened key all before o → o.end ≡ None → (t : TakesAll o.key o.number (o.kept ++ bytes) old new end next kept)
    → p.key ≡ o.key → ((k : List ℕ) (count : ℕ) → StandsBehind end k count t.rest next kept → StandsBehind p.end k count t.rest p.number p.kept) → OpensMore key (all ++ bytes) before old new p
goes_on key all bytes before old new o p end next kept h is_open t same_key stands =
    let now = subst (λ e. StandsBehind e key (length before) h.rest o.number o.kept) is_open h.stands in
    let front : BeginsWithFrames key (length before) (h.rest ++ bytes) t.more t.rest =
    subst (λ xs. BeginsWithFrames key (length before) (xs ++ bytes) t.more t.rest) now.1 (subst (λ n. BeginsWithFrames key n (o.kept ++ bytes) t.more t.rest) now.0 (subst (λ k. BeginsWithFrames k o.number (o.kept ++ bytes) t.more t.rest) h.key_is t.front)) in
    let count : o.number + length t.more ≡ length (before ++ t.more) = omega (arith, now.0, length-append before t.more) in (
      t.more,
      t.new_is,
      record {
        rest = t.rest;
        front = begins-append key all bytes before t.more h.rest t.rest h.front front;
        stands = stands key (length (before ++ t.more)) (subst (λ n. StandsBehind end key n t.rest next kept) count (subst (λ k. StandsBehind end k (o.number + length t.more) t.rest next kept) h.key_is t.stands));
        numbered = subst (λ n. n < 2 ^ 64) count t.numbered;
        key_is = same_key ∙ h.key_is;
      },
    )

-- more bytes come to one that has ended
pub stays_ended : (key all bytes : List ℕ) (before old : List (List ℕ)) (o : OpenerView) (fault : SealFault) → HasOpened key all before o → o.end ≡ Some fault → OpensMore key (all ++ bytes) before old old o
stays_ended key all bytes before old o fault h has_ended =
    let ends = subst (λ e. StandsBehind e key (length before) h.rest o.number o.kept) has_ended h.stands in (
      [],
      sym (append-nil old),
      subst (λ pieces. HasOpened key (all ++ bytes) pieces o) (sym (append-nil before)) (record {
        rest = h.rest ++ bytes;
        front = record {
          split = ap (λ xs. xs ++ bytes) h.front.split ∙ append_assoc (frames key 0 before) h.rest bytes;
          within = h.front.within;
        };
        stands = subst (λ e. StandsBehind e key (length before) (h.rest ++ bytes) o.number o.kept) (sym has_ended) (IsEndFor-append fault key (length before) h.rest bytes ends);
        numbered = h.numbered;
        key_is = h.key_is;
      }),
    )

-- what is kept is less than a frame at its limit
pub held_within : (end : Option SealFault) (kept : List ℕ) → IsPartIf end kept → length kept < LENGTH_BYTES + MOST_PIECE_BYTES + TAG_BYTES
held_within None kept part = by (length kept) (said_length kept) part
  where
    by : (n size : ℕ) → (LENGTH_BYTES ≤ n → (size ≤ MOST_PIECE_BYTES) × (n < LENGTH_BYTES + size + TAG_BYTES)) → n < LENGTH_BYTES + MOST_PIECE_BYTES + TAG_BYTES
    by n size h = grind (arith, h)
held_within (Some fault) kept empty = omega (arith, ap length empty)
