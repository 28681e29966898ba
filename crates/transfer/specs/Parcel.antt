-- What a node sends of its state to one that has another.
use Rattle.std.specs.Prelude.{◌≡◌, Bool, ℕ, ◌<◌, ◌≤◌, List, [], ◌∷◌, ◌++◌, ◌==◌, ◌&&◌, Option, Some, None, All, IsTrue, if◌then◌else◌, slice_index_or, refl}
use Rattle.std.specs.Int.{w8}
use Rattle.std.specs.List.{flat_map, range_with_len}
use Rattle.std.specs.Map.{lookup}
use Rattle.std.specs.Option.{option_map_or}
use Rattle.std.specs.Ordering.{nat_cmp}
use Rattle.std.specs.Str.{bytes_eq}
use Rattle.std.specs.FinMap.{is_sorted}
use Rattle.std.specs.Coded.{Coded, code_by, coded×, coded_ℕ, coded_list}
use Rattle.token.specs.declared.Token.{Token}
use Rattle.decrees.specs.Votes.{token_eq}
use Rattle.sessions.specs.Fresh.{Replies}
use Rattle.items.specs.Map.{Items}
use Rattle.batches.specs.declared.batch.TheConstants.{GREATEST_NUMBER}
use Rattle.wire.specs.Number.{num}
use Rattle.wire.specs.Field.{list_text, ListFits}
use Rattle.wire.specs.Session.{sessions_text, SessionsFit}
use Rattle.pages.specs.Page.{Laid, page_items, page_digest_in, page_count, of_each}
use Rattle.pages.specs.Record.{laid_record}
use Rattle.pages.specs.declared.layout.Layout.{Layout}
use Rattle.pages.specs.Form.{fits_form, layout_of}
use Rattle.pages.specs.Joined.{IsOwn, joined_pages}
use Rattle.states.specs.State.{StateView, with_token}
use Rattle.states.specs.Parts.{parts_of}
use Rattle.states.specs.declared.origin.Origin.{Origin}
use Rattle.transfer.specs.declared.need.Need.{Need}
use Rattle.states.specs.Origin.{origin_of, origin_text}

-- A parcel: the fields of a state, its sessions, and some of its pages with their numbers, each in a layout.
pub record ParcelView : Type 0 where
  pub origin : Origin
  pub sessions : Replies
  pub pages : List (ℕ × Laid)

-- a page that there is, of its own keys alone
abbrev pub PageOf : ℕ × Laid → Type 0
PageOf page = (page.0 < page_count) × IsOwn page.0 page.1.items

-- all pages are in this layout
abbrev pub AreLaid : Layout → List (ℕ × Laid) → Type 0
AreLaid layout pages = All (λ page. page.1.layout ≡ layout) pages

-- What every parcel keeps: the number of a state that a batch led to, sessions that have a text, and pages by rising numbers, all in the layout of the form.
pub record IsParcel (p : ParcelView) : Type 0 where
  pub later : 0 < p.origin.number
  pub few : p.origin.number ≤ GREATEST_NUMBER
  pub sessions_fit : SessionsFit p.sessions
  pub pages_fit : ListFits PageOf p.pages
  pub rising : IsTrue (is_sorted nat_cmp p.pages)
  pub laid : AreLaid (layout_of p.origin.form) p.pages

-- page p of the state, as its form has it
abbrev pub own_page : StateView → ℕ → Laid
own_page s p = record { items = page_items s.items p; layout = layout_of s.form }

-- the same with its number, if it has another digest than the need tells of
abbrev pub differing : StateView → Need → ℕ → List (ℕ × Laid)
differing s q p = if bytes_eq (page_digest_in (layout_of s.form) s.items p) (slice_index_or q.digests p []) then [] else (p, own_page s p) ∷ []

-- the pages of the state that have other digests than the need tells of
abbrev pub differing_pages : StateView → Need → List (ℕ × Laid)
differing_pages s q = flat_map (differing s q) (range_with_len 0 page_count)

-- the parcel that answers a need
abbrev pub answer_of : StateView → Need → ParcelView
answer_of s q = record { origin = origin_of s; sessions = s.sessions; pages = differing_pages s q }

-- the items of page p: of the one that came, or else of the own one
abbrev pub page_from : Items → List (ℕ × Laid) → ℕ → Items
page_from own pages p = option_map_or (λ (page : Laid). page.items) (lookup (λ q. p == q) pages) (page_items own p)

-- the items of the own pages, with those that came in their places
abbrev pub joined_with : Items → List (ℕ × Laid) → Items
joined_with own pages = joined_pages (of_each (page_from own pages))

-- the state that a parcel makes over the own pages, with its token from scratch
abbrev pub parcel_state : Items → ParcelView → StateView
parcel_state own p = with_token (parts_of (record { origin = p.origin; sessions = p.sessions; pages = record { items = joined_with own p.pages; layout = layout_of p.origin.form } }))

-- it is one that its form may have
abbrev pub makes_state : Items → ParcelView → Bool
makes_state own p = fits_form p.origin.form (joined_with own p.pages)

-- what is taken: that state, if it has this number and this token
abbrev pub take_of : Items → ParcelView → ℕ → Token → Option StateView
take_of own p n token =
    if (p.origin.number == n) && (makes_state own p && token_eq (parcel_state own p).token token) then Some (parcel_state own p) else None

-- the number of a page, and its text, which begins with a mark of its layout
abbrev pub numbered_text : ℕ × Laid → List ℕ
numbered_text page = num w8 page.0 ++ laid_record page.1

abbrev pub parcel_text : ParcelView → List ℕ
parcel_text p = origin_text p.origin ++ sessions_text p.sessions ++ list_text numbered_text p.pages

-- a parcel is identified by its parts
abbrev pub parcel_code : Coded Origin → Coded Replies → Coded Laid → Coded ParcelView
parcel_code origin sessions page =
    code_by ((Origin × Replies) × List (ℕ × Laid))
    (coded× (coded× origin sessions) (coded_list (coded× coded_ℕ page)))
    (λ p. ((p.origin, p.sessions), p.pages))
    (λ p. record { origin = p.0.0; sessions = p.0.1; pages = p.1 })
    (λ _. refl)
