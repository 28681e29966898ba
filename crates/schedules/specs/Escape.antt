-- How bytes are written in the text of a Feed.
use Rattle.std.specs.Prelude.{◌≡◌, ℕ, ◌+◌, ◌-◌, ◌*◌, ◌/◌, ◌%◌, ◌<◌, ◌⊎◌, ◌&&◌, ◌==◌, not, Bool, IsTrue, List, [], ◌∷◌, ◌++◌, Option, None, Some, nat_lt, nat_le, if◌then◌else◌, codes}
use Rattle.std.specs.List.{flat_map}
use Rattle.std.specs.Option.{option_map}
use Rattle.proto.specs.Line.{◌>>=◌}
use Rattle.schedules.specs.declared.escape.Escape.{Escape}
use Rattle.schedules.specs.declared.escape.Escape.TheVariants.{Whole, Backslash, Hex, HighDigit}

-- a byte that may stand for itself: 32 to 126, and no backslash
abbrev pub is_plain : ℕ → Bool
is_plain b = nat_le 32 b && nat_le b 126 && not (b == 92)

-- lower case
abbrev pub hex_digit : ℕ → ℕ
hex_digit n = if nat_lt n 10 then n + 48 else n + 87

-- the text stands for this byte
abbrev pub StandsFor : ℕ → List ℕ → Type 0
StandsFor b text =
    (IsTrue (is_plain b) × (text ≡ b ∷ []))
    ⊎ (((b ≡ 13) × (text ≡ 92 ∷ codes "r"))
    ⊎ (((b ≡ 10) × (text ≡ 92 ∷ codes "n"))
    ⊎ (((b ≡ 92) × (text ≡ 92 ∷ 92 ∷ []))
    ⊎ ((b < 256) × (text ≡ 92 ∷ 120 ∷ hex_digit (b / 16) ∷ hex_digit (b % 16) ∷ [])))))

-- the text stands for these bytes, one after another
abbrev pub IsEscaped : List ℕ → List ℕ → Type 0
IsEscaped [] text = text ≡ []
IsEscaped (b ∷ bs) text = (front : List ℕ) × (rest : List ℕ) × (text ≡ front ++ rest) × StandsFor b front × IsEscaped bs rest

-- ---- printing

-- the first of its texts
abbrev pub printed_byte : ℕ → List ℕ
printed_byte b =
    if is_plain b then b ∷ []
    else if b == 13 then 92 ∷ codes "r"
    else if b == 10 then 92 ∷ codes "n"
    else if b == 92 then 92 ∷ 92 ∷ []
    else 92 ∷ 120 ∷ hex_digit (b / 16) ∷ hex_digit (b % 16) ∷ []

abbrev pub printed_text : List ℕ → List ℕ
printed_text bytes = flat_map printed_byte bytes

-- ---- reading

abbrev pub hex_value : ℕ → Option ℕ
hex_value b =
    if nat_le 48 b && nat_le b 57 then Some (b - 48)
    else if nat_le 97 b && nat_le b 102 then Some (b - 87)
    else None

-- a digit that stands is one
abbrev pub IsEscape : Escape → Type 0
IsEscape Whole = Unit {0}
IsEscape Backslash = Unit {0}
IsEscape Hex = Unit {0}
IsEscape (HighDigit n) = n < 16

-- what stands of an escape after one byte more, and the byte of which that was the last
abbrev pub escape_step : Escape → ℕ → Option (Escape × Option ℕ)
escape_step Whole b =
    if is_plain b then Some (Whole, Some b)
    else if b == 92 then Some (Backslash, None)
    else None
escape_step Backslash b =
    if b == 114 then Some (Whole, Some 13)
    else if b == 110 then Some (Whole, Some 10)
    else if b == 92 then Some (Whole, Some 92)
    else if b == 120 then Some (Hex, None)
    else None
escape_step Hex b = hex_value b >>= λ n. Some (HighDigit n, None)
escape_step (HighDigit high) b = hex_value b >>= λ n. Some (Whole, Some (high * 16 + n))

abbrev pub with_byte : Option ℕ → List ℕ → List ℕ
with_byte None bs = bs
with_byte (Some b) bs = b ∷ bs

-- the bytes for which the text stands, if this stands of an escape
abbrev pub unescaped_from : Escape → List ℕ → Option (List ℕ)
unescaped_from Whole [] = Some []
unescaped_from Backslash [] = None
unescaped_from Hex [] = None
unescaped_from (HighDigit n) [] = None
unescaped_from escape (b ∷ bs) = escape_step escape b >>= λ s. option_map (with_byte s.1) (unescaped_from s.0 bs)

abbrev pub unescaped : List ℕ → Option (List ℕ)
unescaped text = unescaped_from Whole text
