-- What differs between an old and a new tree, as far as their digests tell.
use Rattle.std.specs.Prelude.{◌≡◌, ◌<◌, ℕ, Bool, not, false, List, ◌++◌, Contains}
use Rattle.std.specs.declared.cmp.Ordering.{Ordering}
use Rattle.std.specs.FinMap.{FinMap}
use Rattle.wire.specs.Distinct.{Distinct}
use Rattle.merkle.specs.Shape.{Shape, pairs, is_none, trimmed, digest_of}
use Rattle.merkle.specs.Digest.{on_side, texts_of, map_texts}
use Rattle.merkle.specs.Laws.{TextsAreAmong, IsExact}

-- the test answers the same of keys whose paths begin with the same bits, so many
abbrev pub GoesByFront : {K : Type 0} → (K → ℕ → Bool) → ℕ → (K → Bool) → Type 0
GoesByFront {K} bit front test = (k l : K) → ((i : ℕ) → i < front → bit k i ≡ bit l i) → test k ≡ test l

-- Of an old and a new list all entries at the keys that are shown, in the order of the lists, and no others. With a key
-- each one is shown whose path begins with the same bits, so many. If the premise holds, both have the same at all others.
pub record AreDifferences {K V : Type 0} (bit : K → ℕ → Bool) (front : ℕ) (premise : Type 0) (old new before now : List (K × V)) : Type 0 where
  pub shown : K → Bool
  pub by_front : GoesByFront bit front shown
  pub before_is : before ≡ on_side shown old
  pub now_is : now ≡ on_side shown new
  pub rest_is_same : premise → on_side (λ k. not (shown k)) old ≡ on_side (λ k. not (shown k)) new

-- Digests tell the texts apart that are hashed for the digests of both maps.
pub record AreMapsTold {K V : Type 0} {R : K → K → Ordering} (text : K → V → List ℕ) (bit : K → ℕ → Bool) (bits : ℕ) (m n : FinMap R V) : Type 0 where
  pub exact : IsExact text
  pub texts : List (List ℕ)
  pub distinct : Distinct (Contains texts)
  pub old_among : TextsAreAmong (map_texts text bit bits m) (Contains texts)
  pub new_among : TextsAreAmong (map_texts text bit bits n) (Contains texts)

-- the texts that are hashed for a tree with keys
abbrev pub AreHashed : {K V : Type 0} → (K → V → List ℕ) → Shape K V → List (List ℕ) → Type 0
AreHashed text s texts = is_none s ≡ false → TextsAreAmong (texts_of text (trimmed s)) (Contains texts)

-- Digests tell the texts apart that are hashed for both trees.
pub record AreTreesTold {K V : Type 0} (text : K → V → List ℕ) (s t : Shape K V) : Type 0 where
  pub exact : IsExact text
  pub texts : List (List ℕ)
  pub distinct : Distinct (Contains texts)
  pub old_among : AreHashed text s texts
  pub new_among : AreHashed text t texts

-- both have keys, and one digest
pub record IsSameDigest {K V : Type 0} (text : K → V → List ℕ) (s t : Shape K V) : Type 0 where
  pub has_old : is_none s ≡ false
  pub has_new : is_none t ≡ false
  pub same : digest_of text s ≡ digest_of text t

-- `before` became `more` by the differences of the old list, and `now` became `further` by those of the new one
pub record AreAppended {K V : Type 0} (bit : K → ℕ → Bool) (front : ℕ) (premise : Type 0) (old new before more now further : List (K × V)) : Type 0 where
  pub olds : List (K × V)
  pub news : List (K × V)
  pub more_is : more ≡ before ++ olds
  pub further_is : further ≡ now ++ news
  pub differences : AreDifferences bit front premise old new olds news

-- the same of two trees
abbrev pub AreTreesAppended : {K V : Type 0} → (K → V → List ℕ) → (K → ℕ → Bool) → ℕ → Shape K V → Shape K V → (before more now further : List (K × V)) → Type 0
AreTreesAppended text bit front s t before more now further = AreAppended bit front (AreTreesTold text s t) (pairs s) (pairs t) before more now further
