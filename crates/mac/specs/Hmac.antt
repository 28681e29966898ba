-- HMAC with SHA-256 (RFC 2104, FIPS 198-1) as functions on lists of bytes.
use Rattle.std.specs.Prelude.{ℕ, ◌-◌, List, ◌++◌, length, map, replicate, bit_xor, nat_le, if◌then◌else◌}
use Rattle.sha2.specs.Sha256.{sha256}
use Rattle.sha2.specs.Hashers.{Holds256}
use Rattle.mac.specs.declared.mac.Mac.{Mac}

-- a key of more than one block is hashed first
abbrev pub short_key : List ℕ → List ℕ
short_key key = if nat_le (length key) 64 then key else sha256 key

-- a key of one block at most as a block of 64 bytes, each with this one, bit by bit: the bytes behind the key are 0 before that
abbrev pub padded_with : ℕ → List ℕ → List ℕ
padded_with pad key = map (λ b. bit_xor b pad) key ++ replicate (64 - length key) pad

abbrev pub inner_pad : List ℕ → List ℕ
inner_pad key = padded_with 0x36 (short_key key)

abbrev pub outer_pad : List ℕ → List ℕ
outer_pad key = padded_with 0x5C (short_key key)

-- the tag of a text under a key
abbrev pub hmac_sha256 : List ℕ → List ℕ → List ℕ
hmac_sha256 key text = sha256 (outer_pad key ++ sha256 (inner_pad key ++ text))

-- two hashers were given these
pub record HoldPads (m : Mac) (key : List ℕ) : Type 0 where
  pub inner : Holds256 m.inner (padded_with 0x36 key)
  pub outer : Holds256 m.outer (padded_with 0x5C key)

-- it was begun with this key, and was given this text
pub record IsMacOf (m : Mac) (key text : List ℕ) : Type 0 where
  pub inner : Holds256 m.inner (inner_pad key ++ text)
  pub outer : Holds256 m.outer (outer_pad key)
