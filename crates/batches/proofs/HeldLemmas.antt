-- Requests under the keys of their clients.
use Rattle.std.proofs.Common.{◌≡◌, ℕ, zero, suc, Bool, true, false, cond, not, ◌&&◌, List, [], ◌∷◌, ◌++◌, take, filter, find, nat_eq, nat_lt, Some, IsTrue, Result, Ok, Err, OnOk, OnErr, refl, sym, ap, subst, ◌∙◌, arith}
use Rattle.std.specs.List.{AllByRecursion, IsDistinct, list_all}
use Rattle.std.proofs.lemmas.Bool.{and_parts}
use Rattle.std.specs.Map.{keys_of, values_of, lookup, remove_entry}
use Rattle.std.specs.Option.{option_map_or}
use Rattle.std.proofs.lemmas.Bool.Decides.{nat_tests}
use Rattle.std.proofs.lemmas.List.{length-take}
use Rattle.std.proofs.lemmas.List.Elements.{All-take, filter_passes}
use Rattle.std.proofs.lemmas.Map.Keys.{IsDistinct-head, IsDistinct-tail}
use Rattle.sessions.specs.declared.request.Request.{Request}
use Rattle.sessions.specs.Fresh.{Replies, is_next}
use Rattle.batches.specs.Waiting.{clients_of, IsOneEach, keyed, added, is_later}
use Rattle.batches.specs.Cut.{taken, left, is_past, waits_on, Fits}
use Rattle.batches.proofs.OneEachLemmas.{one_each-filter, one_each-take}

values_of-keyed : (rs : List Request) → values_of (keyed rs) ≡ rs
values_of-keyed [] = refl
values_of-keyed (r ∷ rs) = ap (λ xs. r ∷ xs) (values_of-keyed rs)

keys_of-keyed : (rs : List Request) → keys_of (keyed rs) ≡ clients_of rs
keys_of-keyed [] = refl
keys_of-keyed (r ∷ rs) = ap (λ xs. r.client ∷ xs) (keys_of-keyed rs)

lookup-keyed : (c : ℕ) (rs : List Request) → lookup (nat_eq c) (keyed rs) ≡ find (λ r. nat_eq c r.client) rs
lookup-keyed c [] = refl
lookup-keyed c (r ∷ rs) = ap (cond (nat_eq c r.client) (Some r)) (lookup-keyed c rs)

filter-keyed : (c : ℕ) (rs : List Request) → filter (λ e. not (nat_eq c e.0)) (keyed rs) ≡ keyed (filter (λ r. not (nat_eq c r.client)) rs)
filter-keyed c [] = refl
filter-keyed c (r ∷ rs) = elim (nat_eq c r.client) as (λ b. cond (not b) ((r.client, r) ∷ filter (λ e. not (nat_eq c e.0)) (keyed rs)) (filter (λ e. not (nat_eq c e.0)) (keyed rs)) ≡ keyed (cond (not b) (r ∷ filter (λ q. not (nat_eq c q.client)) rs) (filter (λ q. not (nat_eq c q.client)) rs))) [
  | true ↦ filter-keyed c rs
  | false ↦ ap (λ es. (r.client, r) ∷ es) (filter-keyed c rs)
]

keyed-push : (rs : List Request) (r : Request) → keyed (rs ++ r ∷ []) ≡ keyed rs ++ (r.client, r) ∷ []
keyed-push [] r = refl
keyed-push (x ∷ rs) r = ap (λ es. (x.client, x) ∷ es) (keyed-push rs r)

-- what is listed under the clients of some requests is listed under the clients of its values, which are these
pub keyed_is : (es : List (ℕ × Request)) (rs : List Request) → es ≡ keyed rs → es ≡ keyed (values_of es)
keyed_is es rs e = e ∙ ap keyed (sym (values_of-keyed rs) ∙ ap values_of (sym e))

pub values_are : (es : List (ℕ × Request)) (rs : List Request) → es ≡ keyed rs → values_of es ≡ rs
values_are es rs e = ap values_of e ∙ values_of-keyed rs

-- after an edit that may fail
pub keyed_after : {E : Type 0} (r : Result (Unit {0}) E) (es new : List (ℕ × Request)) (rs : List Request) → es ≡ keyed (values_of es) → OnOk r (new ≡ keyed rs) → OnErr r (new ≡ es) → new ≡ keyed (values_of new)
keyed_after (Ok x) es new rs h ok err = keyed_is new rs ok
keyed_after (Err x) es new rs h ok err = keyed_is new (values_of es) (err ∙ h)

pub values_after : {E : Type 0} (r : Result (Unit {0}) E) (new : List (ℕ × Request)) (rs others : List Request) → OnOk r (new ≡ keyed rs) → rs ≡ others → OnOk r (values_of new ≡ others)
values_after (Ok x) new rs others ok e = values_are new rs ok ∙ e
values_after (Err x) new rs others ok e = tt

pub one_each-held : (es : List (ℕ × Request)) → es ≡ keyed (values_of es) → IsDistinct nat_eq (keys_of es) → IsOneEach (values_of es)
one_each-held es e h = subst (IsDistinct nat_eq) (ap keys_of e ∙ keys_of-keyed (values_of es)) h

pub is_later-held : (r : Request) (es : List (ℕ × Request)) → es ≡ keyed (values_of es) → option_map_or (λ held. nat_lt held.number r.number) (lookup (nat_eq r.client) es) true ≡ is_later r (values_of es)
is_later-held r es e = ap (λ o. option_map_or (λ (held : Request). nat_lt held.number r.number) o true) (ap (lookup (nat_eq r.client)) e ∙ lookup-keyed r.client (values_of es))

module _ {V : Type 0} where
  none_removed : (key : ℕ) (es : List (ℕ × V)) → AllByRecursion (λ y. nat_eq key y ≡ false) (keys_of es) → filter (λ e. not (nat_eq key e.0)) es ≡ es
  none_removed key [] h = refl
  none_removed key (e ∷ es) h = rw h.0 (ap (λ xs. e ∷ xs) (none_removed key es h.1))

  -- to remove the one entry of the key is to keep those of other keys
  pub remove_entry-filter : (key : ℕ) (es : List (ℕ × V)) → IsDistinct nat_eq (keys_of es) → remove_entry (nat_eq key) es ≡ filter (λ e. not (nat_eq key e.0)) es
  remove_entry-filter key [] h = refl
  remove_entry-filter key (e ∷ es) h = elim (nat_eq key e.0) as (λ b. nat_eq key e.0 ≡ b → cond b es (e ∷ remove_entry (nat_eq key) es) ≡ cond (not b) (e ∷ filter (λ x. not (nat_eq key x.0)) es) (filter (λ x. not (nat_eq key x.0)) es)) [
    | true ↦ λ is. sym (none_removed key es (let equal : key ≡ e.0 = grind (arith, nat_tests) in rw equal (IsDistinct-head nat_eq e.0 (keys_of es) h)))
    | false ↦ λ is. ap (λ xs. e ∷ xs) (remove_entry-filter key es (IsDistinct-tail nat_eq e.0 (keys_of es) h))
  ] refl

-- what comes later goes last
pub added_later : (r : Request) (es : List (ℕ × Request)) → es ≡ keyed (values_of es) → is_later r (values_of es) ≡ true → filter (λ e. not (nat_eq r.client e.0)) es ++ (r.client, r) ∷ [] ≡ keyed (added r (values_of es))
added_later r es e later =
    let others = filter (λ q. not (nat_eq r.client q.client)) (values_of es) in
    ap (λ xs. filter (λ x. not (nat_eq r.client x.0)) xs ++ (r.client, r) ∷ []) e
    ∙ ap (λ xs. xs ++ (r.client, r) ∷ []) (filter-keyed r.client (values_of es))
    ∙ sym (keyed-push others r)
    ∙ ap (λ b. keyed (cond b (others ++ r ∷ []) (values_of es))) (sym later)

not_so : (b : Bool) → not b ≡ true → b ≡ false
not_so true e = cc e
not_so false e = refl

take_none : (n : ℕ) → take {A = Request} n [] ≡ []
take_none zero = refl
take_none (suc n) = refl

none_next : (sessions : Replies) (rs : List Request) → list_all (waits_on sessions) rs ≡ true → filter (is_next sessions) rs ≡ []
none_next sessions [] h = refl
none_next sessions (r ∷ rs) h = rw (not_so (is_next sessions r) (and_parts _ _ (and_parts _ _ h).0).0) (none_next sessions rs (and_parts _ _ h).1)

none_past : (sessions : Replies) (rs : List Request) → list_all (waits_on sessions) rs ≡ true → filter (λ r. not (is_past sessions r) && true) rs ≡ rs
none_past sessions [] h = refl
none_past sessions (r ∷ rs) h = rw ((and_parts (not (is_next sessions r)) _ (and_parts _ _ h).0).1) (ap (λ xs. r ∷ xs) (none_past sessions rs (and_parts _ _ h).1))

-- if all wait on, none is taken, and all are left
pub none_taken : (limit : ℕ) (sessions : Replies) (waiting : List Request) → list_all (waits_on sessions) waiting ≡ true → taken limit sessions waiting ≡ []
none_taken limit sessions waiting h = ap (take limit) (none_next sessions waiting h) ∙ take_none limit

pub all_left : (limit : ℕ) (sessions : Replies) (waiting : List Request) → list_all (waits_on sessions) waiting ≡ true → left limit sessions waiting ≡ waiting
all_left limit sessions waiting h = rw (none_taken limit sessions waiting h) (none_past sessions waiting h)

-- what a cut takes is fit for a batch
pub fits : (limit : ℕ) (sessions : Replies) (waiting : List Request) → IsOneEach waiting → Fits limit sessions (taken limit sessions waiting)
fits limit sessions waiting h = record {
  few = rw length-take (omega arith);
  one_each = one_each-take limit _ (one_each-filter (is_next sessions) waiting h);
  all_next = All-take (λ r. IsTrue (is_next sessions r)) limit _ (filter_passes (is_next sessions) waiting);
}
