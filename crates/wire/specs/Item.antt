-- Items and pages.
use Rattle.std.specs.Prelude.{ℕ, ◌<◌, ◌^◌, List, ◌∷◌, ◌++◌, length, IsTrue}
use Rattle.std.specs.Int.{w32, w64}
use Rattle.std.specs.FinMap.{is_sorted}
use Rattle.items.specs.Map.{by_bytes}
use Rattle.items.specs.declared.item.Item.{Item}
use Rattle.wire.specs.Number.{num}
use Rattle.wire.specs.Field.{option_text, list_text}
use Rattle.wire.specs.Block.{block_text}
use Rattle.wire.specs.Key.{key_text}

abbrev pub item_text : Item → List ℕ
item_text item = num w32 item.flags ++ option_text (num w64) item.due ++ num w64 item.unique ++ block_text item.block

abbrev pub entry_text : List ℕ × Item → List ℕ
entry_text entry = key_text entry.0 ++ item_text entry.1

-- the entries of a page
unfoldable pub page_text : List (List ℕ × Item) → List ℕ
page_text entries = 0 ∷ list_text entry_text entries

-- so many entries as have a count
abbrev pub PageFits : List (List ℕ × Item) → Type 0
PageFits entries = length entries < 2 ^ 32

-- a page whose keys strictly rise
pub record EntriesFit (entries : List (List ℕ × Item)) : Type 0 where
  pub page : PageFits entries
  pub rising : IsTrue (is_sorted by_bytes entries)
