-- Two majorities share a folder.
use Rattle.std.proofs.Common.{◌≡◌, ℕ, suc, ◌+◌, ◌<◌, Bool, true, false, cond, refl, ap, ◌∙◌, subst, arith, List, [], ◌∷◌, length, map, Some, None}
use Rattle.std.specs.Prelude.{if◌then◌else◌, count_by, is_some, All, get_or}
use Rattle.std.proofs.lemmas.List.{get_or-map, length-map}
use Rattle.std.proofs.lemmas.List.Sums.{sum_by-cons}
use Rattle.std.proofs.lemmas.Bool.Decides.{nat_tests}
use Rattle.folders.specs.declared.stamp.SaveStamp.{SaveStamp}
use Rattle.folders.specs.Folders.{Folder, is_later_save, IsMajority, IsNewest, IsNoLater, HasSave, found_in, is_saved_in}

abbrev pub one_if : Bool → ℕ
one_if b = cond b 1 0

pub record IsShared (fs : List Folder) : Type 0 where
  pub at : ℕ
  pub folder : Folder
  pub within : at < length fs
  pub is : get_or fs at folder ≡ folder
  pub saved : folder.is_saved ≡ true
  pub readable : folder.is_readable ≡ true

further : (f : Folder) (fs : List Folder) → IsShared fs → IsShared (f ∷ fs)
further f fs s = record { at = suc s.at; folder = s.folder; within = (let w = s.within in omega (arith, w)); is = s.is; saved = s.saved; readable = s.readable }

count_of : (b : Bool) (stamp : SaveStamp) → ◌≡◌ {A = ℕ} (one_if (is_some {T = SaveStamp} (if b then Some stamp else None))) (one_if b)
count_of true stamp = refl
count_of false stamp = refl

count_read : (f : Folder) → ◌≡◌ {A = ℕ} (one_if (is_some {T = SaveStamp} (found_in f))) (one_if f.is_readable)
count_read f = count_of f.is_readable f.stamp

-- what the first one counts, and what the others do
counts : (f : Folder) (fs : List Folder) → length (f ∷ fs) < count_by is_saved_in (f ∷ fs) + count_by is_some (map found_in (f ∷ fs))
    → suc (length fs) < (one_if f.is_saved + count_by is_saved_in fs) + (one_if f.is_readable + count_by is_some (map found_in fs))
counts f fs more =
    let saved : count_by is_saved_in (f ∷ fs) ≡ one_if f.is_saved + count_by is_saved_in fs = sum_by-cons (λ x. one_if (is_saved_in x)) f fs in
    let read : count_by is_some (map found_in (f ∷ fs)) ≡ one_if (is_some (found_in f)) + count_by is_some (map found_in fs) = sum_by-cons (λ x. one_if (is_some x)) (found_in f) (map found_in fs) in
    let all : length (f ∷ fs) ≡ suc (length fs) = omega arith in
    omega (arith, more, saved, read, all, count_read f)

at_most_one : (b : Bool) → one_if b < 2
at_most_one true = omega arith
at_most_one false = omega arith

shared : (fs : List Folder) → length fs < count_by is_saved_in fs + count_by is_some (map found_in fs) → IsShared fs
shared [] more = absurd (omega (arith, more))
shared (f ∷ fs) more = by (λ m. shared fs m) (counts f fs more) f.is_saved refl f.is_readable refl
  where
    by : (length fs < count_by is_saved_in fs + count_by is_some (map found_in fs) → IsShared fs)
        → suc (length fs) < (one_if f.is_saved + count_by is_saved_in fs) + (one_if f.is_readable + count_by is_some (map found_in fs))
        → (s : Bool) → f.is_saved ≡ s → (r : Bool) → f.is_readable ≡ r → IsShared (f ∷ fs)
    by lower more true s true r = record { at = 0; folder = f; within = omega arith; is = refl; saved = s; readable = r }
    by lower more true s false r = further f fs (lower (let a : one_if f.is_saved ≡ 1 = ap one_if s in let b : one_if f.is_readable ≡ 0 = ap one_if r in omega (arith, more, a, b)))
    by lower more false s r e = further f fs (lower (let a : one_if f.is_saved ≡ 0 = ap one_if s in let b : one_if f.is_readable < 2 = at_most_one f.is_readable in omega (arith, more, a, b)))

-- of three, the order goes on
pub no_later_along : (save a b : SaveStamp) → is_later_save save a ≡ false → is_later_save a b ≡ false → is_later_save save b ≡ false
no_later_along save a b x y = grind (arith, nat_tests, x, y)

pub found : (fs : List Folder) (save : SaveStamp) (at : ℕ)
    → IsMajority (count_by is_saved_in fs) (length fs)
    → All (HasSave save) fs
    → IsMajority (count_by is_some (map found_in fs)) (length fs)
    → (newest : IsNewest (map found_in fs) at)
    → is_later_save save newest.stamp ≡ false
found fs save at saved has read newest =
    let s = shared fs (omega (arith, saved, read)) in
    let here : get_or (map found_in fs) s.at None ≡ found_in s.folder = get_or-map found_in fs s.at s.folder None s.within ∙ ap found_in s.is in
    let is : found_in s.folder ≡ Some s.folder.stamp = ap (λ (b : Bool). if b then Some s.folder.stamp else None) s.readable in
    let old : is_later_save save s.folder.stamp ≡ false = subst (HasSave save) s.is (has s.at s.folder s.within) s.saved in
    let new : is_later_save s.folder.stamp newest.stamp ≡ false = subst (IsNoLater newest.stamp) (here ∙ is) (newest.no_later s.at None (within s)) in
    no_later_along save s.folder.stamp newest.stamp old new
  where
    within : (s : IsShared fs) → s.at < length (map found_in fs)
    within s = let w = s.within in simp length-map (w)
