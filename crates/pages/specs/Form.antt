-- The pages of each form, and the root over them.
use Rattle.std.specs.Prelude.{ℕ, ◌<◌, ◌≤◌, ◌^◌, List, length, All, Bool, true, ◌&&◌, nat_lt, nat_le, IsTrue}
use Rattle.std.specs.List.{list_all, range_with_len}
use Rattle.std.specs.FinMap.{entries}
use Rattle.items.specs.Map.{Items}
use Rattle.wire.specs.Item.{PageFits}
use Rattle.token.specs.declared.form.Form.{Form}
use Rattle.token.specs.declared.form.Form.TheVariants.{Old, Current, Tree}
use Rattle.token.specs.declared.form.TheConstants.{OLD_BLOCK_BYTES}
use Rattle.token.specs.declared.tree.TheConstants.{HEIGHT, OLD_HEIGHT, OLD_PAGES}
use Rattle.token.specs.Form.{pages_of}
use Rattle.token.specs.Digest.{root_of}
use Rattle.pages.specs.Page.{entries_among, digest_among, each_among, of_each, page_digest, page_digest_in}
use Rattle.pages.specs.declared.layout.Layout.{Layout}
use Rattle.pages.specs.declared.layout.Layout.TheVariants.{Sorted}
use Rattle.pages.specs.declared.layout.Layout.TheVariants as layout

-- how the items of a state of this form are kept
abbrev pub layout_of : Form → Layout
layout_of Old = Sorted
layout_of Current = Sorted
layout_of Tree = layout.Tree

-- the root over the digests of the pages that a store has, in this layout, from scratch
abbrev pub root_in : Layout → Items → List ℕ
root_in layout m = root_of HEIGHT (of_each (page_digest_in layout m))

-- the root of a state of this form, from scratch: over the pages' texts, or over their trees
abbrev pub root_by : Form → Items → List ℕ
root_by Old m = root_of OLD_HEIGHT (each_among OLD_PAGES (digest_among OLD_PAGES m))
root_by Current m = root_of HEIGHT (of_each (page_digest m))
root_by Tree m = root_in layout.Tree m

-- each page of this form has a text
abbrev pub HasTexts : Form → Items → Type 0
HasTexts form m = (p : ℕ) → p < pages_of form → PageFits (entries_among (pages_of form) m p)

-- no data is longer
abbrev pub DataWithin : ℕ → Items → Type 0
DataWithin most m = All (λ e. length e.1.block ≤ most) (entries m)

-- whether a state of this form may have these items: in the old form each page has a text, and no data is longer than an older program took
abbrev pub fits_form : Form → Items → Bool
fits_form Old m =
    list_all (λ p. nat_lt (length (entries_among (pages_of Old) m p)) (2 ^ 32)) (range_with_len 0 (pages_of Old))
    && list_all (λ e. nat_le (length e.1.block) OLD_BLOCK_BYTES) (entries m)
fits_form Current m = true
fits_form Tree m = true

abbrev pub FitForm : Form → Items → Type 0
FitForm form m = IsTrue (fits_form form m)
