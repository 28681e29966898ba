-- The texts from whose digests the token of a state is made.
use Rattle.std.specs.Prelude.{ℕ, zero, suc, List, [], ◌∷◌, ◌++◌, Contains}
use Rattle.std.specs.List.{range_with_len, flat_map}
use Rattle.items.specs.Map.{Items}
use Rattle.sessions.specs.Fresh.{Replies}
use Rattle.wire.specs.Item.{page_text}
use Rattle.wire.specs.Session.{sessions_text}
use Rattle.wire.specs.Token.{inner_text, token_text}
use Rattle.item_tree.specs.Told.{items_texts}
use Rattle.token.specs.declared.form.Form.{Form}
use Rattle.token.specs.declared.form.Form.TheVariants.{Old, Current, Tree}
use Rattle.token.specs.Form.{height_of, pages_of}
use Rattle.token.specs.Digest.{digest, level}
use Rattle.token.specs.Told.{told_sessions_text, long_reply_texts}
use Rattle.pages.specs.declared.layout.Layout.TheVariants as layout
use Rattle.pages.specs.Page.{entries_among, digest_among, each_among, page_items, page_digest_in}
use Rattle.states.specs.State.{StateView, told_by}

-- of so many pages, the entries of each in the order of their keys
abbrev pub sorted_texts : ℕ → Items → List (List ℕ)
sorted_texts count items = each_among count (λ p. page_text (entries_among count items p))

-- of the trees of so many pages
abbrev pub tree_texts : ℕ → Items → List (List ℕ)
tree_texts count items = flat_map (λ p. items_texts (page_items items p)) (range_with_len 0 count)

-- of the pages of a state of this form
abbrev pub page_texts : Form → Items → List (List ℕ)
page_texts Old items = sorted_texts (pages_of Old) items
page_texts Current items = sorted_texts (pages_of Current) items
page_texts Tree items = tree_texts (pages_of Tree) items

-- and the digests of these pages
abbrev pub page_digests : Form → Items → List (List ℕ)
page_digests Old items = each_among (pages_of Old) (digest_among (pages_of Old) items)
page_digests Current items = each_among (pages_of Current) (digest_among (pages_of Current) items)
page_digests Tree items = each_among (pages_of Tree) (page_digest_in layout.Tree items)

-- of the nodes over each two neighbours
abbrev pub pair_texts : List (List ℕ) → List (List ℕ)
pair_texts (left ∷ right ∷ others) = inner_text (record { left = left; right = right }) ∷ pair_texts others
pair_texts others = []

-- of the inner nodes of so many levels over these digests
abbrev pub inner_texts : ℕ → List (List ℕ) → List (List ℕ)
inner_texts zero digests = []
inner_texts (suc n) digests = pair_texts digests ++ inner_texts n (level digests)

-- of what is kept of all clients: in form Tree also of each long reply
abbrev pub session_texts : Form → Replies → List (List ℕ)
session_texts Old sessions = sessions_text sessions ∷ []
session_texts Current sessions = sessions_text sessions ∷ []
session_texts Tree sessions = told_sessions_text sessions ∷ long_reply_texts sessions

-- of the pages of its form, of the inner nodes over them, of its sessions, and that of its token
abbrev pub state_texts : StateView → List (List ℕ)
state_texts s = page_texts s.form s.items ++ (inner_texts (height_of s.form) (page_digests s.form s.items) ++ (session_texts s.form s.sessions ++ token_text (told_by s) ∷ []))

-- a text of one of these states
abbrev pub IsTextOf : (StateView → Type 0) → List ℕ → Type 0
IsTextOf met text = (s : StateView) × met s × Contains (state_texts s) text
