-- Requests of which no two are of one client.
use Rattle.std.proofs.Common.{◌≡◌, ℕ, zero, suc, Bool, true, false, cond, List, [], ◌∷◌, take, filter, nat_eq, refl, ap, ◌∙◌, arith}
use Rattle.std.specs.List.{AllByRecursion, IsDistinct, list_any}
use Rattle.std.proofs.lemmas.Bool.Decides.{nat_tests}
use Rattle.std.proofs.lemmas.Map.Keys.{IsDistinct-head, IsDistinct-tail, IsDistinct-cons}
use Rattle.indexmap.specs.IndexMap.{insert_entry, insert_all}
use Rattle.sessions.specs.declared.request.Request.{Request}
use Rattle.batches.specs.Waiting.{clients_of, IsOneEach, keyed}

pub flipped : (a b : ℕ) → nat_eq a b ≡ nat_eq b a
flipped a b = grind (arith, nat_tests)

pub same : (a : ℕ) → nat_eq a a ≡ true
same a = grind (arith, nat_tests)

-- none of the requests is of the client
abbrev pub Apart : ℕ → List Request → Type 0
Apart c rs = AllByRecursion (λ y. nat_eq c y ≡ false) (clients_of rs)

pub apart_first : (r : Request) (rs : List Request) → IsOneEach (r ∷ rs) → Apart r.client rs
apart_first r rs h = IsDistinct-head nat_eq r.client (clients_of rs) h

pub others_apart : (r : Request) (rs : List Request) → IsOneEach (r ∷ rs) → IsOneEach rs
others_apart r rs h = IsDistinct-tail nat_eq r.client (clients_of rs) h

pub apart-filter : (c : ℕ) (p : Request → Bool) (rs : List Request) → Apart c rs → Apart c (filter p rs)
apart-filter c p [] h = tt
apart-filter c p (r ∷ rs) h = elim (p r) as (λ b. Apart c (cond b (r ∷ filter p rs) (filter p rs))) [
  | true ↦ (h.0, apart-filter c p rs h.1)
  | false ↦ apart-filter c p rs h.1
]

pub apart-take : (c n : ℕ) (rs : List Request) → Apart c rs → Apart c (take n rs)
apart-take c zero rs h = tt
apart-take c (suc n) [] h = tt
apart-take c (suc n) (r ∷ rs) h = (h.0, apart-take c n rs h.1)

pub list_any-apart : (c : ℕ) (rs : List Request) → Apart c rs → list_any (λ b. nat_eq b.client c) rs ≡ false
list_any-apart c [] h = refl
list_any-apart c (r ∷ rs) h = rw (flipped r.client c, h.0) (list_any-apart c rs h.1)

pub one_each-filter : (p : Request → Bool) (rs : List Request) → IsOneEach rs → IsOneEach (filter p rs)
one_each-filter p [] h = h
one_each-filter p (r ∷ rs) h = elim (p r) as (λ b. IsOneEach (cond b (r ∷ filter p rs) (filter p rs))) [
  | true ↦ IsDistinct-cons nat_eq r.client (clients_of (filter p rs)) (apart-filter r.client p rs (apart_first r rs h)) (one_each-filter p rs (others_apart r rs h))
  | false ↦ one_each-filter p rs (others_apart r rs h)
]

pub one_each_none : IsOneEach []
unfolding IsDistinct
one_each_none = tt

pub one_each-take : (n : ℕ) (rs : List Request) → IsOneEach rs → IsOneEach (take n rs)
one_each-take zero rs h = one_each_none
one_each-take (suc n) [] h = h
one_each-take (suc n) (r ∷ rs) h = IsDistinct-cons nat_eq r.client (clients_of (take n rs)) (apart-take r.client n rs (apart_first r rs h)) (one_each-take n rs (others_apart r rs h))

-- tests that agree on the requests of other clients keep the same of these
pub filter_same : (c : ℕ) (f g : Request → Bool) → ((x : Request) → nat_eq c x.client ≡ false → f x ≡ g x) → (rs : List Request) → Apart c rs → filter f rs ≡ filter g rs
filter_same c f g alike [] h = refl
filter_same c f g alike (r ∷ rs) h = ap (λ b. cond b (r ∷ filter f rs) (filter f rs)) (alike r h.0) ∙ ap (λ xs. cond (g r) (r ∷ xs) xs) (filter_same c f g alike rs h.1)

-- an entry whose key none of these have stays where it is
insert_all_past : (c : ℕ) (r : Request) (done : List (ℕ × Request)) (rs : List Request) → Apart c rs → insert_all nat_eq ((c, r) ∷ done) (keyed rs) ≡ (c, r) ∷ insert_all nat_eq done (keyed rs)
insert_all_past c r done [] h = refl
insert_all_past c r done (x ∷ rs) h =
    let first : insert_entry nat_eq ((c, r) ∷ done) x.client x ≡ (c, r) ∷ insert_entry nat_eq done x.client x = ap (λ b. cond b ((c, x) ∷ done) ((c, r) ∷ insert_entry nat_eq done x.client x)) (flipped x.client c ∙ h.0) in
    ap (λ es. insert_all nat_eq es (keyed rs)) first ∙ insert_all_past c r (insert_entry nat_eq done x.client x) rs h.1

-- to insert them one after the other is to list them
pub insert_all-keyed : (rs : List Request) → IsOneEach rs → insert_all nat_eq [] (keyed rs) ≡ keyed rs
insert_all-keyed [] h = refl
insert_all-keyed (r ∷ rs) h = insert_all_past r.client r [] rs (apart_first r rs h) ∙ ap (λ es. (r.client, r) ∷ es) (insert_all-keyed rs (others_apart r rs h))
