-- The record of a state of the old form: version 1, whose pages are the old ones.
use Rattle.std.specs.Prelude.{ℕ, List, ◌≡◌, ◌≢◌, ◌<◌, ◌++◌, Option, IfSome, All}
use Rattle.std.specs.List.{flat_map}
use Rattle.items.specs.declared.item.Item.{Item}
use Rattle.items.specs.Map.{Items}
use Rattle.sessions.specs.Fresh.{Replies}
use Rattle.batches.specs.declared.batch.Batch.{Batch}
use Rattle.wire.specs.Field.{option_text}
use Rattle.wire.specs.Item.{page_text}
use Rattle.wire.specs.Session.{sessions_text, SessionsFit}
use Rattle.token.specs.declared.form.Form.TheVariants.{Old}
use Rattle.token.specs.declared.form.TheConstants.{OLD_BLOCK_BYTES}
use Rattle.token.specs.declared.tree.TheConstants.{OLD_PAGES}
use Rattle.pages.specs.Page.{number_among, each_among}
use Rattle.pages.specs.Old.{old_entries, given_at}
use Rattle.states.specs.declared.head.Head.{Head}
use Rattle.states.specs.State.{StateView, IsState}
use Rattle.states.specs.Followed.{IsSuccessor}
use Rattle.states.specs.StateRecord.{changed_page, old_head_text, head_of_state, IsLaterState}
use Rattle.states.specs.Within.{BlocksWithin, RepliesWithin}

-- the entries of each old page
abbrev pub old_pages : Items → List (List (List ℕ × Item))
old_pages m = each_among OLD_PAGES (old_entries m)

-- of each old page nothing if it is the same as before, or else its entries
abbrev pub old_changes : Items → Items → List (Option (List (List ℕ × Item)))
old_changes before m = each_among OLD_PAGES (λ p. changed_page (old_entries before p) (old_entries m p))

unfoldable pub old_pages_text : Items → List ℕ
old_pages_text m = flat_map page_text (old_pages m)

unfoldable pub old_changes_text : Items → Items → List ℕ
old_changes_text before m = flat_map (option_text page_text) (old_changes before m)

unfoldable pub old_state_text : StateView → List ℕ
old_state_text s = old_head_text (head_of_state s) ++ sessions_text s.sessions ++ old_pages_text s.items

-- a state over the items of the state before it
unfoldable pub old_after_text : Items → StateView → List ℕ
old_after_text before s = old_head_text (head_of_state s) ++ sessions_text s.sessions ++ old_changes_text before s.items

-- what is before the items
abbrev pub old_front_text : Head × Replies → List ℕ
old_front_text p = old_head_text p.0 ++ sessions_text p.1

abbrev pub IsOldHead : Head → Type 0
IsOldHead h = h.origin.form ≡ Old

-- no block that is kept for a client is longer than version 1 takes
abbrev pub IsOldFront : Head × Replies → Type 0
IsOldFront p = IsOldHead p.0 × SessionsFit p.1 × RepliesWithin OLD_BLOCK_BYTES p.1

-- A state that version 1 has: the first one, or a state of the old form.
pub record IsOldState (s : StateView) : Type 0 where
  pub state : IsState s
  pub old : 0 < s.number → s.form ≡ Old
  pub replies : RepliesWithin OLD_BLOCK_BYTES s.sessions

-- one that a batch led to
pub record IsOldLaterState (s : StateView) : Type 0 where
  pub later : IsLaterState s
  pub old : s.form ≡ Old
  pub replies : RepliesWithin OLD_BLOCK_BYTES s.sessions

-- one that this batch, which version 1 has, made of this state
pub record IsOldSuccessor (before : StateView) (batch : Batch) (s : StateView) : Type 0 where
  pub follows : IsSuccessor before batch s
  pub old : s.form ≡ Old
  pub blocks : BlocksWithin OLD_BLOCK_BYTES batch
  pub replies : RepliesWithin OLD_BLOCK_BYTES s.sessions

-- all keys are of old page p
abbrev pub AreOfOld : ℕ → List (List ℕ × Item) → Type 0
AreOfOld p es = All (λ e. number_among OLD_PAGES e.0 ≡ p) es

-- what is given of each old page has its keys alone
abbrev pub AreInPlace : List (Option (List (List ℕ × Item))) → Type 0
AreInPlace given = (p : ℕ) → p < OLD_PAGES → IfSome (given_at given p) (AreOfOld p)

-- what is given of each old page is another than before
abbrev pub AreOthers : Items → Items → List (Option (List (List ℕ × Item))) → Type 0
AreOthers before after given = (p : ℕ) → p < OLD_PAGES → IfSome (given_at given p) (λ es. old_entries before p ≢ old_entries after p)
