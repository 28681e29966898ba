-- A write of a list leaves its other places, and kinds have places of their own.
use Rattle.std.proofs.Common.{◌≡◌, ◌≢◌, ℕ, List, unwrap_or, Some, slice_set, slice_get, sym, ◌∙◌, ap, refl, inl, inr}
use Rattle.std.proofs.lemmas.Option.{slice_get_past, slice_get-get_or, slice_get_cases}
use Rattle.std.proofs.lemmas.List.{get_or-set_other, length-set}
use Rattle.figures.specs.declared.kind.Kind.{Kind}
use Rattle.figures.specs.declared.kind.Kind.TheVariants as kind
use Rattle.figures.specs.declared.kind.TheConstants.{ALL_KINDS}
use Rattle.figures.specs.Kind.{kind_place}

pub slice_get-set_other : {X : Type 0} (xs : List X) (i j : ℕ) (x : X) → j ≢ i → slice_get (slice_set xs i x) j ≡ slice_get xs j
slice_get-set_other xs i j x differs =
    elim (slice_get_cases xs j).1 [
      | inl (y, within, is, _) ↦
          slice_get-get_or (slice_set xs i x) j y (rw (length-set xs i x) within)
          ∙ ap (λ v. Some v) (get_or-set_other xs i j x y differs)
          ∙ sym (slice_get-get_or xs j y within)
      | inr (past, is) ↦ slice_get_past (slice_set xs i x) j (rw (length-set xs i x) past) ∙ sym is
    ]

-- the kind at a place
abbrev kind_at : ℕ → Kind
kind_at place = unwrap_or (slice_get ALL_KINDS place) kind.Get

kind_at-place : (k : Kind) → kind_at (kind_place k) ≡ k
kind_at-place kind.Get = refl
kind_at-place kind.Gets = refl
kind_at-place kind.Gat = refl
kind_at-place kind.Gats = refl
kind_at-place kind.Set = refl
kind_at-place kind.Add = refl
kind_at-place kind.Replace = refl
kind_at-place kind.Append = refl
kind_at-place kind.Prepend = refl
kind_at-place kind.Cas = refl
kind_at-place kind.Delete = refl
kind_at-place kind.Touch = refl
kind_at-place kind.Incr = refl
kind_at-place kind.Decr = refl

-- kinds that differ have places that differ
pub places_differ : (a b : Kind) → a ≢ b → kind_place a ≢ kind_place b
places_differ a b differ same = differ (sym (kind_at-place a) ∙ ap kind_at same ∙ kind_at-place b)
