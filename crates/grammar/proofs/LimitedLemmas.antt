-- What bytes and marks spell, piece by piece.
use Rattle.std.proofs.Common.{◌≡◌, ℕ, suc, ◌<◌, Bool, true, false, List, [], ◌∷◌, ◌++◌, map, refl, sym, ◌∙◌, ap, arith, append_assoc, if◌then◌else◌}
use Rattle.std.specs.Prelude.{◌==◌, nat_lt}
use Rattle.std.proofs.lemmas.Bool.{eqb-true}
use Rattle.std.proofs.lemmas.Bool.Decides.{nat_tests}
use Rattle.std.proofs.lemmas.List.{map-append}
use Rattle.dialect.specs.State.{State, read_byte, read_bytes}
use Rattle.dialect.specs.declared.turn.Turn.{Turn}
use Rattle.grammar.specs.Limit.{turn_when, behind_mark, without_marks, HasRoomThroughout, limited_turns, limited_state}
use Rattle.grammar.specs.Reads.{AreBytes}

pub turns_both : (full : Bool) (s : State) (xs ys : List ℕ) → limited_turns full s (xs ++ ys) ≡ limited_turns full s xs ++ limited_turns (limited_state full s xs).full (limited_state full s xs).state ys
unfolding limited_turns limited_state
turns_both full s [] ys = refl
turns_both full s (b ∷ xs) ys = by (nat_lt b 256) (turns_both full (read_byte s b).state xs ys) (turns_both (b == 257) s xs ys)
  where
    by : (is : Bool) → limited_turns full (read_byte s b).state (xs ++ ys) ≡ limited_turns full (read_byte s b).state xs ++ limited_turns (limited_state full (read_byte s b).state xs).full (limited_state full (read_byte s b).state xs).state ys
        → limited_turns (b == 257) s (xs ++ ys) ≡ limited_turns (b == 257) s xs ++ limited_turns (limited_state (b == 257) s xs).full (limited_state (b == 257) s xs).state ys
        → (if is then map (turn_when full) (read_byte s b).turns ++ limited_turns full (read_byte s b).state (xs ++ ys) else limited_turns (b == 257) s (xs ++ ys))
        ≡ (if is then map (turn_when full) (read_byte s b).turns ++ limited_turns full (read_byte s b).state xs else limited_turns (b == 257) s xs)
        ++ limited_turns (if is then limited_state full (read_byte s b).state xs else limited_state (b == 257) s xs).full (if is then limited_state full (read_byte s b).state xs else limited_state (b == 257) s xs).state ys
    by true read behind_mark = ap (λ (ts : List Turn). map (turn_when full) (read_byte s b).turns ++ ts) read
        ∙ sym (append_assoc (map (turn_when full) (read_byte s b).turns) (limited_turns full (read_byte s b).state xs) (limited_turns (limited_state full (read_byte s b).state xs).full (limited_state full (read_byte s b).state xs).state ys))
    by false read behind_mark = behind_mark

pub state_both : (full : Bool) (s : State) (xs ys : List ℕ) → limited_state full s (xs ++ ys) ≡ limited_state (limited_state full s xs).full (limited_state full s xs).state ys
unfolding limited_state
state_both full s [] ys = refl
state_both full s (b ∷ xs) ys = by (nat_lt b 256) (state_both full (read_byte s b).state xs ys) (state_both (b == 257) s xs ys)
  where
    by : (is : Bool) → limited_state full (read_byte s b).state (xs ++ ys) ≡ limited_state (limited_state full (read_byte s b).state xs).full (limited_state full (read_byte s b).state xs).state ys
        → limited_state (b == 257) s (xs ++ ys) ≡ limited_state (limited_state (b == 257) s xs).full (limited_state (b == 257) s xs).state ys
        → (if is then limited_state full (read_byte s b).state (xs ++ ys) else limited_state (b == 257) s (xs ++ ys))
        ≡ limited_state (if is then limited_state full (read_byte s b).state xs else limited_state (b == 257) s xs).full (if is then limited_state full (read_byte s b).state xs else limited_state (b == 257) s xs).state ys
    by true read behind_mark = read
    by false read behind_mark = behind_mark

is_byte : (b : ℕ) → b < 256 → nat_lt b 256 ≡ true
is_byte b lt = grind (arith, nat_tests)

-- bytes alone
pub bytes_read : (full : Bool) (s : State) (piece : List ℕ) → AreBytes piece → limited_turns full s piece ≡ map (turn_when full) (read_bytes s piece).turns
unfolding limited_turns read_bytes
bytes_read full s [] bytes = refl
bytes_read full s (b ∷ piece) bytes =
    let later = bytes_read full (read_byte s b).state piece (λ i. bytes (suc i)) in
    rw (is_byte b (bytes 0))
    (ap (λ (ts : List Turn). map (turn_when full) (read_byte s b).turns ++ ts) later ∙ sym (map-append (turn_when full) (read_byte s b).turns (read_bytes (read_byte s b).state piece).turns))

pub bytes_lead : (full : Bool) (s : State) (piece : List ℕ) → AreBytes piece → limited_state full s piece ≡ record { full = full; state = (read_bytes s piece).state }
unfolding limited_state read_bytes
bytes_lead full s [] bytes = refl
bytes_lead full s (b ∷ piece) bytes = rw (is_byte b (bytes 0)) (bytes_lead full (read_byte s b).state piece (λ i. bytes (suc i)))

-- the mark before them
pub mark_turns : (before full : Bool) (s : State) (piece : List ℕ) → limited_turns before s (behind_mark full piece) ≡ limited_turns full s piece
unfolding limited_turns
mark_turns before true s piece = refl
mark_turns before false s piece = refl

pub mark_state : (before full : Bool) (s : State) (piece : List ℕ) → limited_state before s (behind_mark full piece) ≡ limited_state full s piece
unfolding limited_state
mark_state before true s piece = refl
mark_state before false s piece = refl

-- with no limit nothing is refused
pub none_refused : (turns : List Turn) → map (turn_when false) turns ≡ turns
none_refused [] = refl
none_refused (t ∷ turns) = ap (λ (ts : List Turn). t ∷ ts) (none_refused turns)

not_full : (b : ℕ) → ¬ (b ≡ 257) → (b == 257) ≡ false
not_full b differs = by (b == 257) refl
  where
    by : (e : Bool) → (b == 257) ≡ e → (b == 257) ≡ false
    by true is = absurd (differs (eqb-true b 257 is))
    by false is = is

pub room_turns : (s : State) (bytes : List ℕ) → HasRoomThroughout bytes → limited_turns false s bytes ≡ (read_bytes s (without_marks bytes)).turns
unfolding limited_turns read_bytes
room_turns s [] room = refl
room_turns s (b ∷ bytes) room = by (nat_lt b 256) (room_turns (read_byte s b).state bytes room.1) (ap (λ (full : Bool). limited_turns full s bytes) (not_full b room.0) ∙ room_turns s bytes room.1)
  where
    by : (is : Bool) → limited_turns false (read_byte s b).state bytes ≡ (read_bytes (read_byte s b).state (without_marks bytes)).turns → limited_turns (b == 257) s bytes ≡ (read_bytes s (without_marks bytes)).turns
        → (if is then map (turn_when false) (read_byte s b).turns ++ limited_turns false (read_byte s b).state bytes else limited_turns (b == 257) s bytes) ≡ (read_bytes s (if is then b ∷ without_marks bytes else without_marks bytes)).turns
    by true read marked = (λ i. none_refused (read_byte s b).turns i ++ read i)
    by false read marked = marked
