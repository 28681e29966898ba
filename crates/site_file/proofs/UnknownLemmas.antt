-- The keys of a table, one after the other.
use Rattle.std.proofs.Common.{◌≡◌, ◌⊎◌, inl, inr, ℕ, true, List, [], ◌∷◌, Option, Some, IsSome, String, Global, string_bytes, Ordering, Less, Equal, Greater, nat_cmp, is_eq, refl, sym, ap, ◌∙◌, subst}
use Rattle.std.specs.List.{AllByRecursion}
use Rattle.std.specs.Map.{keys_of}
use Rattle.std.specs.Ordering.{match_ordering}
use Rattle.std.specs.Cmp.Lexicographic.{slice_cmp}
use Rattle.std.proofs.lemmas.Cmp.{tied_itself, nat_list_cmp_total}
use Rattle.std.proofs.lemmas.Map.Text.{is_eq-slice_cmp}
use Rattle.std.proofs.lemmas.Slice.Eq.{bytes_eq-Decides}
use Rattle.toml.specs.declared.value.Value.{Value}
use Rattle.toml.specs.Data.{Data, get_member}
use Rattle.toml.specs.View.{view, members_view}
use Rattle.site_file.specs.Place.{is_known}

abbrev pub Names : Type 0
Names = List (String Global)

abbrev pub Entries : Type 0
Entries = List (String Global × Value)

abbrev pub AreKnown : Option ℕ → Names → Type 0
AreKnown m names = AllByRecursion (λ name. is_known m (string_bytes name) ≡ true) names

abbrev pub IsIn : String Global → Names → Type 0
IsIn name [] = ⊥
IsIn name (other ∷ names) = (name ≡ other) ⊎ IsIn name names

same_text : (a b : List ℕ) → slice_cmp nat_cmp a b ≡ Equal → a ≡ b
same_text a b e = (bytes_eq-Decides a b).0 (sym (is_eq-slice_cmp a b) ∙ ap is_eq e)

-- what is found at the first key or behind it is known
first_known : (m : Option ℕ) (name key : List ℕ) (o : Ordering) → slice_cmp nat_cmp name key ≡ o → (d : Data) (found : Option Data)
    → is_known m key ≡ true → (IsSome found → is_known m name ≡ true) → IsSome (match_ordering o found (Some d) found) → is_known m name ≡ true
first_known m name key Less e d found known rest there = rest there
first_known m name key Equal e d found known rest there = subst (λ k. is_known m k ≡ true) (sym (same_text name key e)) known
first_known m name key Greater e d found known rest there = rest there

pub all_known : (m : Option ℕ) (es : Entries) → AreKnown m (keys_of es) → (name : List ℕ) → IsSome (get_member name (members_view es)) → is_known m name ≡ true
all_known m [] known name there = cc there
all_known m (e ∷ es) known name there =
    first_known m name (string_bytes e.0) (slice_cmp nat_cmp name (string_bytes e.0)) refl (view e.1) (get_member name (members_view es)) known.0 (all_known m es known.1 name) there

first_there : (o : Ordering) (d : Data) (found : Option Data) → IsSome found → IsSome (match_ordering o found (Some d) found)
first_there Less d found there = there
first_there Equal d found there = refl
first_there Greater d found there = there

at_itself : (name : List ℕ) (o : Ordering) → o ≡ Equal → (d : Data) (found : Option Data) → IsSome (match_ordering o found (Some d) found)
at_itself name o e d found = rw e refl

pub is_there : (name : String Global) (es : Entries) → IsIn name (keys_of es) → IsSome (get_member (string_bytes name) (members_view es))
is_there name [] h = absurd h
is_there name (e ∷ es) (inl same) =
    subst (λ (k : String Global). IsSome (get_member (string_bytes k) (members_view (e ∷ es)))) (sym same)
    (at_itself (string_bytes e.0) (slice_cmp nat_cmp (string_bytes e.0) (string_bytes e.0)) (tied_itself nat_list_cmp_total (string_bytes e.0)) (view e.1) (get_member (string_bytes e.0) (members_view es)))
is_there name (e ∷ es) (inr more) = first_there (slice_cmp nat_cmp (string_bytes name) (string_bytes e.0)) (view e.1) (get_member (string_bytes name) (members_view es)) (is_there name es more)

-- what holds of the names that are left, and before each of them
pub record AreLeft (m : Option ℕ) (all left : Names) : Type 0 where
  pub known : AreKnown m left → AreKnown m all
  pub inside : (name : String Global) → IsIn name left → IsIn name all

pub all_left : (m : Option ℕ) (all left : Names) → left ≡ all → AreLeft m all left
all_left m all left e = record {
  known = subst (AreKnown m) e;
  inside = λ name. subst (IsIn name) e;
}

pub one_less : (m : Option ℕ) (all left rest : Names) (name : String Global) → left ≡ name ∷ rest → is_known m (string_bytes name) ≡ true → AreLeft m all left → AreLeft m all rest
one_less m all left rest name e known h = record {
  known = λ k. h.known (subst (AreKnown m) (sym e) (known, k));
  inside = λ other i. h.inside other (subst (IsIn other) (sym e) (inr i));
}

pub first_left : (m : Option ℕ) (all left rest : Names) (name : String Global) → left ≡ name ∷ rest → AreLeft m all left → IsIn name all
first_left m all left rest name e h = h.inside name (subst (IsIn name) (sym e) (inl refl))

pub none_left : (m : Option ℕ) (all left : Names) → left ≡ [] → AreLeft m all left → AreKnown m all
none_left m all left e h = h.known (subst (AreKnown m) (sym e) tt)
