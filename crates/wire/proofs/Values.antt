-- Values that are read one after the other.
use Rattle.std.proofs.Common.{◌≡◌, ℕ, zero, suc, ◌+◌, ◌<◌, ◌^◌, Result, Ok, Err, List, [], ◌∷◌, ◌++◌, length, refl, sym, ◌∙◌, ap, arith, append_assoc}
use Rattle.std.specs.Prelude.{flat_map, All}
use Rattle.std.specs.Borrow.{Bor}
use Rattle.std.specs.Int.{w32}
use Rattle.std.proofs.lemmas.List.{append-nil, length-append}
use Rattle.std.proofs.lemmas.List.Concat.{flat_map-cons}
use Rattle.std.proofs.lemmas.List.Elements.{All-append, All-nil}
use Rattle.base.specs.declared.fault.Fault.{Fault}
use Rattle.base.specs.declared.fault.Fault.TheVariants.{NoMemory, Stopped, BadRecord, Unfit, Full, BadSchedule, NotOpen}
use Rattle.wire.specs.Record.{IsPrefixFree, NoPrefix, Refused, Takes}
use Rattle.wire.specs.Number.{num}
use Rattle.wire.specs.Field.{CountFits, ListFits, list_text}
use Rattle.wire.specs.NumberLaws.{num_prefix_free, wide32}

-- a cause that follows
pub Refused-weaker : {P Q : Type 0} (e : Fault) → (P → Q) → Refused e P → Refused e Q
Refused-weaker NoMemory f h = tt
Refused-weaker BadRecord f h = f h
Refused-weaker Stopped f h = absurd h
Refused-weaker Unfit f h = absurd h
Refused-weaker Full f h = absurd h
Refused-weaker BadSchedule f h = absurd h
Refused-weaker NotOpen f h = absurd h

-- what no front encodes, the whole does not
pub none_whole : {X : Type 0} (fits : X → Type 0) (encoding : X → List ℕ) (bytes : List ℕ) (e : Fault)
    → Refused e (NoPrefix fits encoding bytes) → Refused e ((v : X) → fits v → bytes ≡ encoding v → ⊥)
none_whole fits encoding bytes e h = Refused-weaker e (λ (none : NoPrefix fits encoding bytes) v f same. none.none v [] f (same ∙ sym (append-nil (encoding v)))) h

-- if something is left, the whole is encoded by no value
pub left_over : {X : Type 0} {encoding : X → List ℕ} (free : IsPrefixFree encoding) (bytes : List ℕ) (w : X) (rest : List ℕ)
    → bytes ≡ encoding w ++ rest → (rest ≡ [] → ⊥) → (v : X) → bytes ≡ encoding v → ⊥
left_over {encoding = encoding} free bytes w rest got more v e =
    more (free.apart w v rest [] (sym got ∙ (e ∙ sym (append-nil (encoding v))))).1

-- so many values were read, and the rest is still to be read
pub record HasRead {X : Type 0} (fits : X → Type 0) (encoding : X → List ℕ) (front : List X) (count : ℕ) (bytes rest : List ℕ) : Type 0 where
  pub counted : length front ≡ count
  pub each : All fits front
  pub parts : bytes ≡ flat_map encoding front ++ rest

one : {X : Type 0} (fits : X → Type 0) (x : X) → fits x → All fits (x ∷ [])
one fits x f zero d lt = f
one fits x f (suc k) d lt = absurd (omega arith)

two_parts : {X : Type 0} (encoding : X → List ℕ) (x : X) (xs : List X) (rest : List ℕ) → flat_map encoding (x ∷ xs) ++ rest ≡ encoding x ++ (flat_map encoding xs ++ rest)
two_parts encoding x xs rest = ap (λ (t : List ℕ). t ++ rest) (flat_map-cons encoding x xs) ∙ append_assoc (encoding x) (flat_map encoding xs) rest

one_more : {X : Type 0} (encoding : X → List ℕ) (front : List X) (x : X) (after : List ℕ) → flat_map encoding front ++ (encoding x ++ after) ≡ flat_map encoding (front ++ x ∷ []) ++ after
one_more encoding [] x after = sym (two_parts encoding x [] after)
one_more encoding (y ∷ front) x after =
    two_parts encoding y front (encoding x ++ after)
    ∙ (ap (λ (t : List ℕ). encoding y ++ t) (one_more encoding front x after)
    ∙ sym (two_parts encoding y (front ++ x ∷ []) after))

All-first : {X : Type 0} (fits : X → Type 0) (x : X) (xs : List X) → All fits (x ∷ xs) → fits x
All-first fits x xs h = h 0 x (omega arith)

All-others : {X : Type 0} (fits : X → Type 0) (x : X) (xs : List X) → All fits (x ∷ xs) → All fits xs
All-others fits x xs h k d lt = h (suc k) d (omega arith)

module _ {X : Type 0} {fits : X → Type 0} {encoding : X → List ℕ} where
  pub begins : (bytes : List ℕ) → HasRead fits encoding [] 0 bytes bytes
  begins bytes = record { counted = refl; each = All-nil fits; parts = refl }

  pub goes_on : {front : List X} {count : ℕ} {bytes rest : List ℕ} (x : X) (after : List ℕ) → HasRead fits encoding front count bytes rest
      → fits x → rest ≡ encoding x ++ after → HasRead fits encoding (front ++ x ∷ []) (count + 1) bytes after
  goes_on {front} {count} {bytes} {rest} x after so_far f e = record {
    counted = length-append front (x ∷ []) ∙ ap (λ (n : ℕ). n + 1) so_far.counted;
    each = All-append fits front (x ∷ []) so_far.each (one fits x f);
    parts = so_far.parts ∙ (ap (λ (t : List ℕ). flat_map encoding front ++ t) e ∙ one_more encoding front x after);
  }

  no_more : IsPrefixFree encoding → (front xs : List X) (rest after : List ℕ) → length front < length xs → All fits xs
      → flat_map encoding front ++ rest ≡ flat_map encoding xs ++ after → NoPrefix fits encoding rest → ⊥
  no_more free front [] rest after lt each e none = omega arith
  no_more free [] (x ∷ xs) rest after lt each e none = none.none x _ (All-first fits x xs each) (e ∙ two_parts encoding x xs after)
  no_more free (y ∷ front) (x ∷ xs) rest after lt each e none =
      let both = free.apart y x _ _ (sym (two_parts encoding y front rest) ∙ (e ∙ two_parts encoding x xs after)) in
      no_more free front xs rest after (omega arith) (All-others fits x xs each) both.1 none

  pub ends : IsPrefixFree encoding → {front : List X} {i : ℕ} {bytes rest : List ℕ} (e : Fault) (count : ℕ) → HasRead fits encoding front i bytes rest
      → i < count → Refused e (NoPrefix fits encoding rest) → Refused e (NoPrefix (CountFits count fits) (flat_map encoding) bytes)
  ends free {front} {i} {bytes} {rest} e count so_far lt = Refused-weaker e (λ (none : NoPrefix fits encoding rest). record {
    none = λ xs after f same. no_more free front xs rest after (omega (arith, so_far.counted, f.is)) f.each (sym so_far.parts ∙ same) none;
  })

-- a count, and so many values, are a list
pub list_of_values : {X : Type 0} (fits : X → Type 0) (encoding : X → List ℕ) (bytes rest : List ℕ) (count : ℕ) → count < 2 ^ 32 → bytes ≡ num w32 count ++ rest → (r : Result (List X × Bor (List ℕ)) Fault)
    → Takes (CountFits count fits) (flat_map encoding) rest r → Takes (ListFits fits) (list_text encoding) bytes r
list_of_values fits encoding bytes rest count small e (Ok p) h = (
  record { count = omega (arith, h.0.is); each = h.0.each },
  e ∙ (ap (λ (t : List ℕ). num w32 count ++ t) h.1 ∙ (sym (append_assoc (num w32 count) (flat_map encoding p.0) p.1.now)
      ∙ ap (λ (n : ℕ). (num w32 n ++ flat_map encoding p.0) ++ p.1.now) (sym h.0.is))),
)
list_of_values fits encoding bytes rest count small e (Err f) h = Refused-weaker f (λ (none : NoPrefix (CountFits count fits) (flat_map encoding) rest). record {
  none = λ xs after g same.
      let both = (num_prefix_free w32 wide32).apart count (length xs) rest (flat_map encoding xs ++ after) (sym e ∙ (same ∙ append_assoc (num w32 (length xs)) (flat_map encoding xs) after)) in
      none.none xs after (record { is = sym both.0; each = g.each }) both.1;
}) h

-- values that are encoded alike are one
pub told_apart : {X : Type 0} {encoding : X → List ℕ} → IsPrefixFree encoding → (v w : X) → encoding v ≡ encoding w → v ≡ w
told_apart free v w e = (free.apart v w [] [] (ap (λ (t : List ℕ). t ++ []) e)).0
