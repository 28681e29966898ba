-- What a node says of the state that it has.
use Rattle.std.specs.Prelude.{ℕ, List, ◌++◌}
use Rattle.std.specs.Int.{w64}
use Rattle.base.specs.Limits.{IsWithin}
use Rattle.wire.specs.Number.{num, fixed}
use Rattle.wire.specs.Field.{list_text}
use Rattle.pages.specs.Page.{page_digest_in, page_count, of_each}
use Rattle.pages.specs.Form.{layout_of}
use Rattle.states.specs.State.{StateView}
use Rattle.transfer.specs.declared.need.Need.{Need}

-- its number, and the digest of each of its pages, as its form has it
abbrev pub need_of : StateView → Need
need_of s = record { number = s.number; digests = of_each (page_digest_in (layout_of s.form) s.items) }

-- a digest for each page
abbrev pub IsNeed : Need → Type 0
IsNeed q = IsWithin page_count page_count q.digests

abbrev pub need_text : Need → List ℕ
need_text q = num w64 q.number ++ list_text (fixed 32) q.digests
