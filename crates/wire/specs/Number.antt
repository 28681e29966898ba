-- Numbers, and texts of a stated length. Only a value that has such bytes is encoded by bytes. Any other
-- one is behind 256, which is no byte, so that no two values whatever are encoded alike.
use Rattle.std.specs.Prelude.{ℕ, ◌+◌, ◌-◌, ◌*◌, ◌^◌, ℤ, pos, negsuc, List, [], ◌∷◌, length, Bool, ◌&&◌, nat_eq, nat_lt, if◌then◌else◌}
use Rattle.std.specs.List.{list_all}
use Rattle.std.specs.Int.{Width, w32, byte_len, to_be_bytes}

-- the bytes of a value that has such, and else what the value is behind 256
abbrev pub only_if : Bool → List ℕ → List ℕ → List ℕ
only_if has text value = if has then text else 256 ∷ value

-- a number of this width, its highest byte first
unfoldable pub num : Width → ℕ → List ℕ
num w n = only_if (nat_lt n (256 ^ byte_len w)) (to_be_bytes w n) (n ∷ [])

-- a signed number of 32 bits as an unsigned one, in two's complement; the others go to numbers of more bits
abbrev pub as_unsigned : ℤ → ℕ
as_unsigned (pos n) = if nat_lt n (2 ^ 31) then n else 2 ^ 32 + 2 * n
as_unsigned (negsuc n) = if nat_lt n (2 ^ 31) then 2 ^ 32 - (n + 1) else 2 ^ 32 + (2 * n + 1)

unfoldable pub num_signed : ℤ → List ℕ
num_signed z = num w32 (as_unsigned z)

abbrev pub is_byte : ℕ → Bool
is_byte b = nat_lt b 256

-- a text of just so many bytes
unfoldable pub fixed : ℕ → List ℕ → List ℕ
fixed size text = only_if (nat_eq (length text) size && list_all is_byte text) text (length text ∷ text)
