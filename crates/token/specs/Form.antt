-- The form of a state: how the digests in its token are computed.
use Rattle.std.specs.Prelude.{ℕ, ◌^◌, List, [], ◌∷◌}
use Rattle.token.specs.declared.form.Form.{Form}
use Rattle.token.specs.declared.form.Form.TheVariants.{Old, Current, Tree}
use Rattle.token.specs.declared.tree.TheConstants.{HEIGHT, OLD_HEIGHT}

-- how many levels the root is above the digests of the pages
abbrev pub height_of : Form → ℕ
height_of Old = OLD_HEIGHT
height_of Current = HEIGHT
height_of Tree = HEIGHT

-- so many pages
abbrev pub pages_of : Form → ℕ
pages_of form = 2 ^ height_of form

-- its byte in a record
abbrev pub form_mark : Form → ℕ
form_mark Old = 1
form_mark Current = 2
form_mark Tree = 3

unfoldable pub form_text : Form → List ℕ
form_text form = form_mark form ∷ []
