-- What a parcel does for the node that asked for it.
use Rattle.std.specs.Prelude.{◌≡◌, ℕ, ◌<◌, Some}
use Rattle.token.specs.declared.Token.{Token}
use Rattle.items.specs.Map.{Items}
use Rattle.pages.specs.Page.{page_entries, page_digest_in, page_count}
use Rattle.pages.specs.declared.layout.Layout.{Layout}
use Rattle.pages.specs.Form.{layout_of}
use Rattle.states.specs.State.{StateView, IsState}
use Rattle.transfer.specs.Need.{need_of}
use Rattle.transfer.specs.Parcel.{ParcelView, answer_of, take_of}

-- pages of one number and one digest are one page: each digest is that of its own layout
abbrev pub DigestsTellPages : Layout → Layout → Items → Items → Type 0
DigestsTellPages one other a b = (p : ℕ) → p < page_count → page_digest_in one a p ≡ page_digest_in other b p → page_entries a p ≡ page_entries b p

-- if digests tell their pages apart, what is answered to the need of a state makes, over that state's pages, the state that answered
abbrev pub HandsOver : Type 0
HandsOver = (own s : StateView) → IsState s → 0 < s.number → DigestsTellPages (layout_of s.form) (layout_of own.form) s.items own.items → take_of own.items (answer_of s (need_of own)) s.number s.token ≡ Some s

-- whatever parcel came: what is taken is a state of the number and the token that were asked for
abbrev pub TakesWhatWasAsked : Type 0
TakesWhatWasAsked = (own : Items) (p : ParcelView) (n : ℕ) (token : Token) (s : StateView) → take_of own p n token ≡ Some s → (s.number ≡ n) × (s.token ≡ token)
