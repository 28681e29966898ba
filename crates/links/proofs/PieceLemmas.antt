-- Pieces are sealed one after the other.
use Rattle.std.proofs.Common.{◌≡◌, ℕ, suc, ◌+◌, ◌≤◌, List, [], ◌∷◌, ◌++◌, length, take, drop, refl, sym, ap, ◌∙◌, arith}
use Rattle.std.proofs.lemmas.List.{append_assoc, append-nil, length_push, take-append-drop}
use Rattle.std.proofs.lemmas.List.Concat.{flat_map-append}
use Rattle.std.proofs.lemmas.List.Elements.{All-nil, All-push}
use Rattle.seals.specs.declared.sealer.Sealer.{Sealer}
use Rattle.seals.specs.declared.frame.TheConstants.{MOST_PIECE_BYTES}
use Rattle.seals.specs.Frame.{frame, frames}
use Rattle.links.specs.Pieces.{bytes_of_pieces, AreSealedInPieces, IsSealing}

frames-push : (key : List ℕ) (number : ℕ) (pieces : List (List ℕ)) (piece : List ℕ) → frames key number (pieces ++ piece ∷ []) ≡ frames key number pieces ++ frame key (number + length pieces) piece
frames-push key number [] piece = append-nil (frame key number piece) ∙ ap (λ n. frame key n piece) (let same : number ≡ number + 0 = omega arith in same)
frames-push key number (p ∷ pieces) piece =
    let same : (number + 1) + length pieces ≡ number + suc (length pieces) = omega arith in
    ap (λ xs. frame key number p ++ xs) (frames-push key (number + 1) pieces piece ∙ ap (λ n. frames key (number + 1) pieces ++ frame key n piece) same)
    ∙ sym (append_assoc (frame key number p) (frames key (number + 1) pieces) (frame key (number + suc (length pieces)) piece))

pub none_sealed : (sealer : Sealer) (bytes before : List ℕ) → IsSealing sealer bytes before before sealer bytes
none_sealed sealer bytes before = record {
  front = [];
  split = refl;
  sealed = record {
    pieces = [];
    bytes_are = refl;
    within = All-nil (λ (piece : List ℕ). length piece ≤ MOST_PIECE_BYTES);
    sealed = sym (append-nil before);
    next = ap (λ (n : ℕ). record sealer { number = n }) (let same : sealer.number ≡ sealer.number + 0 = omega arith in same);
  };
}

pub one_sealed : (old : Sealer) (bytes before after : List ℕ) (now : Sealer) (left : List ℕ) (n : ℕ) (next : Sealer) → IsSealing old bytes before after now left → length (take n left) ≤ MOST_PIECE_BYTES → next ≡ record now { number = now.number + 1 }
    → IsSealing old bytes before (after ++ frame now.key now.number (take n left)) next (drop n left)
one_sealed old bytes before after now left n next h short e =
    let s = h.sealed in
    let piece : List ℕ = take n left in
    let key : now.key ≡ old.key = ap (λ (sealer : Sealer). sealer.key) s.next in
    let number : now.number ≡ old.number + length s.pieces = ap (λ (sealer : Sealer). sealer.number) s.next in
    let count : now.number + 1 ≡ old.number + length (s.pieces ++ piece ∷ []) = omega (arith, number, length_push s.pieces piece) in record {
      front = h.front ++ piece;
      split = h.split ∙ (ap (λ xs. h.front ++ xs) (sym (take-append-drop n left)) ∙ sym (append_assoc h.front piece (drop n left)));
      sealed = record {
        pieces = s.pieces ++ piece ∷ [];
        bytes_are = ap (λ xs. xs ++ piece) s.bytes_are
            ∙ sym (flat_map-append (λ (p : List ℕ). p) s.pieces (piece ∷ []) ∙ ap (λ xs. bytes_of_pieces s.pieces ++ xs) (append-nil piece));
        within = All-push (λ (p : List ℕ). length p ≤ MOST_PIECE_BYTES) s.pieces piece s.within short;
        sealed = ap (λ xs. xs ++ frame now.key now.number piece) s.sealed
            ∙ (append_assoc before (frames old.key old.number s.pieces) (frame now.key now.number piece)
            ∙ (ap (λ k. before ++ (frames old.key old.number s.pieces ++ frame k now.number piece)) key
            ∙ (ap (λ m. before ++ (frames old.key old.number s.pieces ++ frame old.key m piece)) number
            ∙ ap (λ xs. before ++ xs) (sym (frames-push old.key old.number s.pieces piece)))));
        next = e ∙ (ap (λ (sealer : Sealer). record sealer { number = now.number + 1 }) s.next ∙ ap (λ (m : ℕ). record old { number = m }) count);
      };
    }

pub all_sealed : (old : Sealer) (bytes before after : List ℕ) (now : Sealer) (left : List ℕ) → IsSealing old bytes before after now left → left ≡ [] → AreSealedInPieces old bytes before after now
all_sealed old bytes before after now left h e =
    let s = h.sealed in record {
      pieces = s.pieces;
      bytes_are = h.split ∙ (ap (λ xs. h.front ++ xs) e ∙ (append-nil h.front ∙ s.bytes_are));
      within = s.within;
      sealed = s.sealed;
      next = s.next;
    }
