-- What a put on one side of a fork is to the fork.
use Rattle.std.proofs.Common.{◌≡◌, ℕ, ◌+◌, ◌<◌, ◌≤◌, Bool, true, false, cond, List, [], ◌∷◌, ◌++◌, length, Option, Some, None, refl, sym, ap, ◌∙◌, subst, arith, length-append}
use Rattle.std.specs.Prelude.{is_some}
use Rattle.std.specs.declared.cmp.Ordering.{Ordering}
use Rattle.std.specs.declared.cmp.Ordering.TheVariants.{Equal}
use Rattle.std.specs.Ordering.{eq_by_cmp, is_eq}
use Rattle.std.specs.FinMap.{find, IsAntisymmetric}
use Rattle.merkle.specs.Shape.{Shape, none, one, fork, pairs, AllOn, IsTrie}
use Rattle.merkle.specs.Put.{IsPut, IsPutInto}
use Rattle.merkle.proofs.FindLemmas.{equal_of, not_found}

abbrev pub or_else : {A : Type 0} → Option A → Option A → Option A
or_else None b = b
or_else (Some a) b = Some a

pub all_append : {K V : Type 0} (test : K → Bool) (side : Bool) (xs ys : List (K × V)) → AllOn test side xs → AllOn test side ys → AllOn test side (xs ++ ys)
all_append test side [] ys p q = q
all_append test side (x ∷ xs) ys p q = (p.0, all_append test side xs ys p.1 q)

pub all_left : {K V : Type 0} (test : K → Bool) (side : Bool) (xs ys : List (K × V)) → AllOn test side (xs ++ ys) → AllOn test side xs
all_left test side [] ys p = tt
all_left test side (x ∷ xs) ys p = (p.0, all_left test side xs ys p.1)

pub all_right : {K V : Type 0} (test : K → Bool) (side : Bool) (xs ys : List (K × V)) → AllOn test side (xs ++ ys) → AllOn test side ys
all_right test side [] ys p = p
all_right test side (x ∷ xs) ys p = all_right test side xs ys p.1

pub not_fewer : (b : Bool) (m n : ℕ) → m ≡ cond b n (n + 1) → n ≤ m
not_fewer true m n e = omega arith
not_fewer false m n e = omega arith

module _ {K V : Type 0} (R : K → K → Ordering) where
  pub find_append : (q : K) (xs ys : List (K × V)) → find R q (xs ++ ys) ≡ or_else (find R q xs) (find R q ys)
  find_append q [] ys = refl
  find_append q (x ∷ xs) ys =
      elim (eq_by_cmp R q x.0) as (λ b. cond b (Some x.1) (find R q (xs ++ ys)) ≡ or_else (cond b (Some x.1) (find R q xs)) (find R q ys)) [
        | true ↦ refl
        | false ↦ find_append q xs ys
      ]

  pub put_none : (k : K) (v : V) → IsPut R k v [] ((k, v) ∷ [])
  put_none k v = record { found = λ q. refl; sides = λ test side all on. (on, tt); count = refl }

module _ {K V : Type 0} {R : K → K → Ordering} (same : IsAntisymmetric R) where
  -- if no key of the other side ties
  counted : (a b c : ℕ) (o : Option V) → b ≡ cond (is_some o) a (a + 1) → c + b ≡ cond (is_some o) (c + a) (c + a + 1)
  counted a b c None e = omega arith
  counted a b c (Some v) e = omega arith

  pub put_over : (k : K) (v : V) (e : K × V) → R k e.0 ≡ Equal → IsPut R k v (e ∷ []) ((k, v) ∷ [])
  put_over k v e tie =
      record {
        found = λ q. shadowed (eq_by_cmp R q k) (eq_by_cmp R q e.0) (ap (λ x. eq_by_cmp R q x) (same k e.0 tie));
        sides = λ test side all on. (on, tt);
        count = ap (λ r. cond (is_some (cond (is_eq r) (Some e.1) None)) 1 (1 + 1)) (sym tie);
      }
    where
      shadowed : (a b : Bool) → a ≡ b → cond a (Some v) None ≡ cond a (Some v) (cond b (Some e.1) None)
      shadowed true b is = refl
      shadowed false b is = ap (λ x. cond x (Some e.1) None) is

  two : (k : K) (e : K × V) → eq_by_cmp R k e.0 ≡ false → 2 ≡ cond (is_some (cond (eq_by_cmp R k e.0) (Some e.1) None)) 1 (1 + 1)
  two k e apart = ap (λ b. cond (is_some (cond b (Some e.1) None)) 1 (1 + 1)) (sym apart)

  pub put_first : (k : K) (v : V) (e : K × V) → eq_by_cmp R k e.0 ≡ false → IsPut R k v (e ∷ []) ((k, v) ∷ e ∷ [])
  put_first k v e apart = record { found = λ q. refl; sides = λ test side all on. (on, (all.0, tt)); count = two k e apart }

  pub put_last : (k : K) (v : V) (e : K × V) → eq_by_cmp R k e.0 ≡ false → IsPut R k v (e ∷ []) (e ∷ (k, v) ∷ [])
  put_last k v e apart =
      record {
        found = λ q. swapped q (eq_by_cmp R q k) refl;
        sides = λ test side all on. (all.0, (on, tt));
        count = two k e apart;
      }
    where
      swapped : (q : K) (b : Bool) → eq_by_cmp R q k ≡ b → cond (eq_by_cmp R q e.0) (Some e.1) (cond b (Some v) None) ≡ cond b (Some v) (cond (eq_by_cmp R q e.0) (Some e.1) None)
      swapped q false is = refl
      swapped q true is = ap (λ x. cond x (Some e.1) (Some v)) (ap (λ x. eq_by_cmp R x e.0) (same q k (equal_of _ is)) ∙ apart)

  pub put_in_left : (test : K → Bool) (k : K) (v : V) (l m r : List (K × V)) → AllOn test true r → test k ≡ false → IsPut R k v l m → IsPut R k v (l ++ r) (m ++ r)
  put_in_left test k v l m r all on is =
      record {
        found = λ q. find_append R q m r ∙ ap (λ o. or_else o (find R q r)) (is.found q) ∙ through q (eq_by_cmp R q k) ∙ ap (cond (eq_by_cmp R q k) (Some v)) (sym (find_append R q l r));
        sides = λ test side all on. all_append test side m r (is.sides test side (all_left test side l r all) on) (all_right test side l r all);
        count = (let here : find R k (l ++ r) ≡ find R k l = find_append R k l r ∙ ap (or_else (find R k l)) (not_found same test true k r all on) ∙ alone (find R k l) in
            length-append m r ∙ counts (find R k l) is.count ∙ ap (λ (n : ℕ). cond (is_some (find R k l)) n (n + 1)) (sym (length-append l r)) ∙ ap (λ (o : Option V). cond (is_some o) (length (l ++ r)) (length (l ++ r) + 1)) (sym here));
      }
    where
      through : (q : K) (b : Bool) → or_else (cond b (Some v) (find R q l)) (find R q r) ≡ cond b (Some v) (or_else (find R q l) (find R q r))
      through q true = refl
      through q false = refl

      alone : (o : Option V) → or_else o None ≡ o
      alone None = refl
      alone (Some x) = refl

      counts : (o : Option V) → length m ≡ cond (is_some o) (length l) (length l + 1) → length m + length r ≡ cond (is_some o) (length l + length r) (length l + length r + 1)
      counts None e = omega arith
      counts (Some x) e = omega arith

  pub put_in_right : (test : K → Bool) (k : K) (v : V) (l r s : List (K × V)) → AllOn test false l → test k ≡ true → IsPut R k v r s → IsPut R k v (l ++ r) (l ++ s)
  put_in_right test k v l r s all on is =
      record {
        found = λ q. find_append R q l s ∙ ap (or_else (find R q l)) (is.found q) ∙ through q (eq_by_cmp R q k) refl ∙ ap (cond (eq_by_cmp R q k) (Some v)) (sym (find_append R q l r));
        sides = λ test side all on. all_append test side l s (all_left test side l r all) (is.sides test side (all_right test side l r all) on);
        count = (let here : find R k (l ++ r) ≡ find R k r = find_append R k l r ∙ ap (λ o. or_else o (find R k r)) (not_found same test false k l all on) in
            length-append l s ∙ counted (length r) (length s) (length l) (find R k r) is.count ∙ ap (λ (n : ℕ). cond (is_some (find R k r)) n (n + 1)) (sym (length-append l r)) ∙ ap (λ (o : Option V). cond (is_some o) (length (l ++ r)) (length (l ++ r) + 1)) (sym here));
      }
    where
      through : (q : K) (b : Bool) → eq_by_cmp R q k ≡ b → or_else (find R q l) (cond b (Some v) (find R q r)) ≡ cond b (Some v) (or_else (find R q l) (find R q r))
      through q false h = refl
      through q true h = ap (λ o. or_else o (Some v)) (not_found same test false q l all (ap test (same q k (equal_of _ h)) ∙ on))

module _ {K V : Type 0} {R : K → K → Ordering} (same : IsAntisymmetric R) (bit : K → ℕ → Bool) (bits : ℕ) where
  pub into_left : (k : K) (v : V) (depth : ℕ) (l m r : Shape K V) → bit k depth ≡ false → IsTrie bit bits depth (fork l r) → IsPutInto R bit bits (depth + 1) k v l m → IsPutInto R bit bits depth k v (fork l r) (fork m r)
  into_left k v depth l m r at old is =
      let h : 2 ≤ length (pairs l ++ pairs r) = old.1 in
      let longer : length (pairs l) ≤ length (pairs m) = not_fewer (is_some (find R k (pairs l))) (length (pairs m)) (length (pairs l)) is.put.count in
      record {
        put = put_in_left same (λ x. bit x depth) k v (pairs l) (pairs m) (pairs r) old.3 at is.put;
        trie = (old.0, omega (arith, length-append (pairs l) (pairs r), length-append (pairs m) (pairs r)), is.put.sides (λ x. bit x depth) false old.2 at, old.3, subst (λ (d : ℕ). IsTrie bit bits d m) (omega arith) is.trie, old.5);
      }

  pub into_right : (k : K) (v : V) (depth : ℕ) (l r s : Shape K V) → bit k depth ≡ true → IsTrie bit bits depth (fork l r) → IsPutInto R bit bits (depth + 1) k v r s → IsPutInto R bit bits depth k v (fork l r) (fork l s)
  into_right k v depth l r s at old is =
      let h : 2 ≤ length (pairs l ++ pairs r) = old.1 in
      let longer : length (pairs r) ≤ length (pairs s) = not_fewer (is_some (find R k (pairs r))) (length (pairs s)) (length (pairs r)) is.put.count in
      record {
        put = put_in_right same (λ x. bit x depth) k v (pairs l) (pairs r) (pairs s) old.2 at is.put;
        trie = (old.0, omega (arith, length-append (pairs l) (pairs r), length-append (pairs l) (pairs s)), old.2, is.put.sides (λ x. bit x depth) true old.3 at, old.4, subst (λ (d : ℕ). IsTrie bit bits d s) (omega arith) is.trie);
      }

  -- two leaves whose bits here are alike
  pub both_right : (k : K) (v : V) (depth : ℕ) (e : K × V) (s : Shape K V) → depth < bits → eq_by_cmp R k e.0 ≡ false → bit e.0 depth ≡ true → bit k depth ≡ true → IsPutInto R bit bits (depth + 1) k v (one e.0 e.1) s → IsPutInto R bit bits depth k v (one e.0 e.1) (fork none s)
  both_right k v depth e s below apart first second is =
      let many : 2 ≡ length (pairs s) = two same k e apart ∙ sym is.put.count in
      record { put = is.put; trie = (below, omega arith, tt, is.put.sides (λ x. bit x depth) true (first, tt) second, tt, subst (λ (d : ℕ). IsTrie bit bits d s) (omega arith) is.trie) }

  pub both_left : (k : K) (v : V) (depth : ℕ) (e : K × V) (s : Shape K V) → depth < bits → eq_by_cmp R k e.0 ≡ false → bit e.0 depth ≡ false → bit k depth ≡ false → IsPutInto R bit bits (depth + 1) k v (one e.0 e.1) s → IsPutInto R bit bits depth k v (one e.0 e.1) (fork s none)
  both_left k v depth e s below apart first second is =
      let many : 2 ≡ length (pairs s) = two same k e apart ∙ sym is.put.count in
      record {
        put = put_in_left same (λ x. bit x depth) k v (e ∷ []) (pairs s) [] tt second is.put;
        trie = (below, omega (arith, length-append (pairs s) []), is.put.sides (λ x. bit x depth) false (first, tt) second, tt, subst (λ (d : ℕ). IsTrie bit bits d s) (omega arith) is.trie, tt);
      }

  -- two leaves whose bits here differ
  pub new_left : (k : K) (v : V) (depth : ℕ) (e : K × V) → depth < bits → eq_by_cmp R k e.0 ≡ false → bit e.0 depth ≡ true → bit k depth ≡ false → IsPutInto R bit bits depth k v (one e.0 e.1) (fork (one k v) (one e.0 e.1))
  new_left k v depth e below apart first second = record { put = put_first same k v e apart; trie = (below, omega arith, (second, tt), (first, tt), tt, tt) }

  pub new_right : (k : K) (v : V) (depth : ℕ) (e : K × V) → depth < bits → eq_by_cmp R k e.0 ≡ false → bit e.0 depth ≡ false → bit k depth ≡ true → IsPutInto R bit bits depth k v (one e.0 e.1) (fork (one e.0 e.1) (one k v))
  new_right k v depth e below apart first second = record { put = put_last same k v e apart; trie = (below, omega arith, (first, tt), (second, tt), tt, tt) }
