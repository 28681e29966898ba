-- What the values of a site file have to be. Numbers, texts and lists are those of `toml`, and addresses those of std.
use Rattle.std.specs.Prelude.{◌≡◌, ℕ, ◌+◌, ◌*◌, ◌/◌, ◌<◌, ◌≤◌, List, [], ◌∷◌, length, Some, Ok, pos}
use Rattle.std.specs.List.{AllZip}
use Rattle.std.specs.declared.net.socket_addr.SocketAddr.{SocketAddr}
use Rattle.std.specs.Net.Grammar.{IsSocketText}
use Rattle.hex.specs.Hex.{decode_sized}
use Rattle.toml.specs.Data.{Data, Items, no_items, item, as_str, as_integer, as_array}
use Rattle.events.specs.declared.config.TheConstants.{MOST_CLIENTS}

-- so many bytes as hex digits, in a text
abbrev pub IsHex : ℕ → Data → List ℕ → Type 0
IsHex n value bytes = (text : List ℕ) × (as_str value ≡ Some text) × (decode_sized text n ≡ Ok bytes)

pub record IsNumber (least most : ℕ) (value : Data) (n : ℕ) : Type 0 where
  pub is : as_integer value ≡ Some (pos n)
  pub not_less : least ≤ n
  pub not_more : n ≤ most

-- a text that is not empty
abbrev pub IsPath : Data → List ℕ → Type 0
IsPath value path = (as_str value ≡ Some path) × (0 < length path)

abbrev pub IsAddress : Data → SocketAddr → Type 0
IsAddress value address = (text : List ℕ) × (as_str value ≡ Some text) × IsSocketText text address

-- the values of a list
abbrev pub list_of : Items → List Data
list_of no_items = []
list_of (item value values) = value ∷ list_of values

-- a list of one address or more
pub record AreAddresses (value : Data) (addresses : List SocketAddr) : Type 0 where
  pub items : Items
  pub is : as_array value ≡ Some items
  pub each : AllZip IsAddress (list_of items) addresses
  pub some_addresses : 0 < length addresses

-- a list of n values
pub record HasLength (value : Data) (n : ℕ) : Type 0 where
  pub items : Items
  pub is : as_array value ≡ Some items
  pub long : length (list_of items) ≡ n

-- how many proxies a member has at most, since all members together have as many as there may be clients
abbrev pub most_proxies : ℕ → ℕ
most_proxies u = MOST_CLIENTS / (2 * u + 1)
