-- The requests of each caller, of a group that was dealt in turn.
use Rattle.std.proofs.Common.{◌≡◌, ◌≢◌, ℕ, zero, suc, ◌+◌, ◌*◌, ◌%◌, Bool, true, false, cond, List, [], ◌∷◌, ◌++◌, map, length, set, Some, None, refl, sym, ap, ◌∙◌, arith, subst, eq-eqb, ne_eqb}
use Rattle.std.specs.Prelude.{slice_get, ◌==◌, ◌/◌, not}
use Rattle.std.proofs.Math.Nat.{mod-add-div, add-mul-mod_self_left}
use Rattle.std.specs.List.{list_all, range_with_len}
use Rattle.std.proofs.lemmas.List.{map-append}
use Rattle.std.proofs.lemmas.Bool.{and_parts, and_from}
use Rattle.std.proofs.lemmas.Bool.Decides.{nat_tests}
use Rattle.item_steps.specs.declared.group.Task.{Task}
use Rattle.round.specs.Sittings.{Running, running_in, dealt, dealt_from, lists_of, are_apart}
use Rattle.round.proofs.Lists.{same_element, map_at}
use Rattle.round.proofs.Follows.{set_by}

module _ (callers caller : ℕ) where
  -- a request of the caller's is dealt to it
  pub dealt_has : (n : ℕ) (group : List Task) (i : ℕ) (t : Task) → slice_get group i ≡ Some t → (n + i) % callers ≡ caller → (k : ℕ) × (slice_get (dealt_from n callers caller group) k ≡ Some t)
  dealt_has n [] i t at is = absurd (let no : None ≡ Some t = at in cc)
  dealt_has n (u ∷ us) zero t at is =
      let zer : n ≡ n + 0 = omega arith in
      let here : (n % callers == caller) ≡ true = eq-eqb (n % callers) caller (ap (λ m. m % callers) zer ∙ is) in
      (0, subst (λ b. slice_get (cond b (u ∷ dealt_from (n + 1) callers caller us) (dealt_from (n + 1) callers caller us)) 0 ≡ Some t) (sym here) at)
  dealt_has n (u ∷ us) (suc i) t at is =
      let more : (n + 1) + i ≡ n + suc i = omega arith in
      by (dealt_has (n + 1) us i t at (ap (λ m. m % callers) more ∙ is)) (n % callers == caller)
    where
      by : (k : ℕ) × (slice_get (dealt_from (n + 1) callers caller us) k ≡ Some t) → (b : Bool) → (k : ℕ) × (slice_get (cond b (u ∷ dealt_from (n + 1) callers caller us) (dealt_from (n + 1) callers caller us)) k ≡ Some t)
      by r true = (suc r.0, r.1)
      by r false = r

  is_number : (m : ℕ) → (m == caller) ≡ true → m ≡ caller
  is_number m is = grind (arith, nat_tests)

  -- and what is dealt to it is one of the group
  pub dealt_is : (n : ℕ) (group : List Task) (k : ℕ) (t : Task) → slice_get (dealt_from n callers caller group) k ≡ Some t → (j : ℕ) × (slice_get group j ≡ Some t) × ((n + j) % callers ≡ caller)
  dealt_is n [] k t at = absurd (let no : None ≡ Some t = at in cc)
  dealt_is n (u ∷ us) k t at = by (dealt_is (n + 1) us) k (n % callers == caller) refl at
    where
      one_more : (j : ℕ) × (slice_get us j ≡ Some t) × (((n + 1) + j) % callers ≡ caller) → (j : ℕ) × (slice_get (u ∷ us) j ≡ Some t) × ((n + j) % callers ≡ caller)
      one_more r = let more : n + suc r.0 ≡ (n + 1) + r.0 = omega arith in (suc r.0, r.1, ap (λ m. m % callers) more ∙ r.2)

      by : ((k : ℕ) (t : Task) → slice_get (dealt_from (n + 1) callers caller us) k ≡ Some t → (j : ℕ) × (slice_get us j ≡ Some t) × (((n + 1) + j) % callers ≡ caller))
          → (k : ℕ) (b : Bool) → (n % callers == caller) ≡ b → slice_get (cond b (u ∷ dealt_from (n + 1) callers caller us) (dealt_from (n + 1) callers caller us)) k ≡ Some t
          → (j : ℕ) × (slice_get (u ∷ us) j ≡ Some t) × ((n + j) % callers ≡ caller)
      by more zero true is at = let zer : n + 0 ≡ n = omega arith in (0, at, ap (λ m. m % callers) zer ∙ is_number (n % callers) is)
      by more (suc k) true is at = one_more (more k t at)
      by more k false is at = one_more (more k t at)

  -- one request more
  pub dealt_push : (n : ℕ) (group : List Task) (t : Task) → dealt_from n callers caller (group ++ t ∷ [])
      ≡ cond ((n + length group) % callers == caller) (dealt_from n callers caller group ++ t ∷ []) (dealt_from n callers caller group)
  dealt_push n [] t = let zer : n ≡ n + 0 = omega arith in ap (λ m. cond (m % callers == caller) (t ∷ []) []) zer
  dealt_push n (u ∷ us) t =
      let more : (n + 1) + length us ≡ n + length (u ∷ us) = omega arith in
      by (dealt_from (n + 1) callers caller us) (dealt_from (n + 1) callers caller (us ++ t ∷ [])) (n % callers == caller) ((n + length (u ∷ us)) % callers == caller)
      (dealt_push (n + 1) us t ∙ ap (λ m. cond (m % callers == caller) (dealt_from (n + 1) callers caller us ++ t ∷ []) (dealt_from (n + 1) callers caller us)) more)
    where
      by : (d l : List Task) (b c : Bool) → l ≡ cond c (d ++ t ∷ []) d → cond b (u ∷ l) l ≡ cond c (cond b (u ∷ d) d ++ t ∷ []) (cond b (u ∷ d) d)
      by d l true true e = ap (λ m. u ∷ m) e
      by d l true false e = ap (λ m. u ∷ m) e
      by d l false true e = e
      by d l false false e = e

  all_dealt : (p : Task → Bool) (n : ℕ) (group : List Task) → list_all p group ≡ true → list_all p (dealt_from n callers caller group) ≡ true
  all_dealt p n [] all = refl
  all_dealt p n (t ∷ ts) all =
      let both = and_parts (p t) (list_all p ts) all in
      by both.0 (all_dealt p (n + 1) ts both.1) (n % callers == caller)
    where
      by : p t ≡ true → list_all p (dealt_from (n + 1) callers caller ts) ≡ true → (b : Bool)
          → list_all p (cond b (t ∷ dealt_from (n + 1) callers caller ts) (dealt_from (n + 1) callers caller ts)) ≡ true
      by is rest true = and_from (p t) (list_all p (dealt_from (n + 1) callers caller ts)) is rest
      by is rest false = rest

  -- the requests of a caller are apart, as those of the group are
  pub dealt_apart : (n : ℕ) (group : List Task) → are_apart group ≡ true → are_apart (dealt_from n callers caller group) ≡ true
  dealt_apart n [] all = refl
  dealt_apart n (t ∷ ts) all =
      let test = λ (other : Task). not (other.place == t.place) in
      let both = and_parts (list_all test ts) (are_apart ts) all in
      by (all_dealt test (n + 1) ts both.0) (dealt_apart (n + 1) ts both.1) (n % callers == caller)
    where
      by : list_all (λ (other : Task). not (other.place == t.place)) (dealt_from (n + 1) callers caller ts) ≡ true → are_apart (dealt_from (n + 1) callers caller ts) ≡ true → (b : Bool)
          → are_apart (cond b (t ∷ dealt_from (n + 1) callers caller ts) (dealt_from (n + 1) callers caller ts)) ≡ true
      by is rest true = and_from (list_all (λ (other : Task). not (other.place == t.place)) (dealt_from (n + 1) callers caller ts)) (are_apart (dealt_from (n + 1) callers caller ts)) is rest
      by is rest false = rest

pub range_at : (n from i x : ℕ) → slice_get (range_with_len from n) i ≡ Some x → x ≡ from + i
range_at zero from i x at = absurd (let no : None ≡ Some x = at in cc)
range_at (suc n) from zero x at = let zer : from ≡ from + 0 = omega arith in sym (same_element from x at) ∙ zer
range_at (suc n) from (suc i) x at = let more : (from + 1) + i ≡ from + suc i = omega arith in range_at n (from + 1) i x at ∙ more

-- the next request goes to the caller whose turn it is
pub dealt_turn : (callers : ℕ) (group : List Task) (t : Task) (lists : List (List Running)) (caller : ℕ) (list : List Running) → lists ≡ lists_of callers group → caller ≡ length group % callers
    → slice_get lists caller ≡ Some list → set lists caller (list ++ running_in [] t ∷ []) ≡ lists_of callers (group ++ t ∷ [])
dealt_turn callers group t lists caller list are turn there =
    ap (λ l. set l caller (list ++ running_in [] t ∷ [])) are ∙ set_by before after (range_with_len 0 callers) caller (list ++ running_in [] t ∷ [])
    (λ i x at off. others x (λ same. let zer : 0 + i ≡ i = omega arith in off (sym zer ∙ sym (range_at callers 0 i x at) ∙ same)))
    (λ x at.
    let zer : 0 + caller ≡ caller = omega arith in
    let is : x ≡ caller = range_at callers 0 caller x at ∙ zer in
    mine x is (same_element list (before x) (sym there ∙ ap (λ l. slice_get l caller) are ∙ map_at before (range_with_len 0 callers) caller x at)))
  where
    before : ℕ → List Running
    before c = map (running_in []) (dealt callers c group)

    after : ℕ → List Running
    after c = map (running_in []) (dealt callers c (group ++ t ∷ []))

    others : (c : ℕ) → c ≢ caller → before c ≡ after c
    others c off =
        let other : 0 + length group ≡ length group = omega arith in
        let no : ((0 + length group) % callers == c) ≡ false = ne_eqb ((0 + length group) % callers) c (λ same. off (sym same ∙ ap (λ n. n % callers) other ∙ sym turn)) in
        sym (ap (λ (l : List Task). map (running_in []) l) (dealt_push callers c 0 group t ∙ ap (λ b. cond b (dealt callers c group ++ t ∷ []) (dealt callers c group)) no))

    mine : (c : ℕ) → c ≡ caller → list ≡ before c → list ++ running_in [] t ∷ [] ≡ after c
    mine c is same =
        let other : 0 + length group ≡ length group = omega arith in
        let yes : ((0 + length group) % callers == c) ≡ true = eq-eqb ((0 + length group) % callers) c (ap (λ n. n % callers) other ∙ sym turn ∙ sym is) in
        ap (λ l. l ++ running_in [] t ∷ []) same ∙ sym (map-append (running_in []) (dealt callers c group) (t ∷ []))
        ∙ sym (ap (λ (l : List Task). map (running_in []) l) (dealt_push callers c 0 group t ∙ ap (λ b. cond b (dealt callers c group ++ t ∷ []) (dealt callers c group)) yes))

-- whose turn is next
pub turn_more : (callers caller n m : ℕ) → caller ≡ n % callers → m ≡ n + 1 → (caller + 1) % callers ≡ m % callers
turn_more callers caller n m turn more =
    let parts = mod-add-div n callers in
    let same : (n % callers + 1) + callers * (n / callers) ≡ m = omega arith in
    ap (λ k. (k + 1) % callers) turn ∙ sym (add-mul-mod_self_left (n % callers + 1) callers (n / callers)) ∙ ap (λ k. k % callers) same
