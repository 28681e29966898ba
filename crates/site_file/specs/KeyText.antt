-- The text of a key file: one or two lines, each with a key.
use Rattle.std.specs.Prelude.{◌≡◌, ℕ, ◌<◌, ◌⊎◌, List, [], ◌∷◌, ◌++◌, length, Option, Some, None, Ok}
use Rattle.hex.specs.Hex.{decode_sized}
use Rattle.site_file.specs.declared.limits.TheConstants.{KEY_BYTES}
use Rattle.site_file.specs.declared.key_file.KeyFile.{KeyFile}
use Rattle.site_file.specs.declared.key_file.KeyFault.{KeyFault}
use Rattle.site_file.specs.declared.key_file.KeyFault.TheVariants as fault

-- a line ends at the front of the text: by a newline, or since the text is over
abbrev pub EndsLine : List ℕ → List ℕ → Type 0
EndsLine text rest = ((text ≡ []) × (rest ≡ [])) ⊎ (text ≡ 10 ∷ rest)

-- a text begins with the hex digits of a key
pub record BeginsWithKey (text key rest : List ℕ) : Type 0 where
  pub digits : List ℕ
  pub key_is : decode_sized digits KEY_BYTES ≡ Ok key
  pub spelled : text ≡ digits ++ rest

-- a text begins with a line that has a key and nothing else
pub record BeginsWithLine (text key rest : List ℕ) : Type 0 where
  pub behind : List ℕ
  pub begins : BeginsWithKey text key behind
  pub ends : EndsLine behind rest

-- a text has one key, or two and the first of them first
abbrev pub HasKeys : List ℕ → List ℕ → Option (List ℕ) → Type 0
HasKeys text first None = BeginsWithLine text first []
HasKeys text first (Some second) = (rest : List ℕ) × BeginsWithLine text first rest × BeginsWithLine rest second []

abbrev pub IsKeyText : List ℕ → KeyFile → Type 0
IsKeyText text keys = HasKeys text keys.first keys.second

-- why a text is no such text
abbrev pub IsKeyFault : List ℕ → KeyFault → Type 0
IsKeyFault text fault.First = (key rest : List ℕ) → ¬ BeginsWithLine text key rest
IsKeyFault text fault.Second = (first rest : List ℕ) × BeginsWithLine text first rest × (0 < length rest) × ((key more : List ℕ) → ¬ BeginsWithLine rest key more)
IsKeyFault text fault.More = (first rest second more : List ℕ) × BeginsWithLine text first rest × BeginsWithLine rest second more × (0 < length more)
