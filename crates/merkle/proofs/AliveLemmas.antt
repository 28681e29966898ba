-- What a drop of what is due leaves of a fork.
use Rattle.std.proofs.Common.{◌≡◌, ℕ, suc, ◌+◌, ◌<◌, ◌≤◌, Bool, true, false, cond, List, [], ◌∷◌, ◌++◌, length, Option, Some, None, refl, sym, ap, ◌∙◌, subst, arith, length-append}
use Rattle.std.specs.Prelude.{min, IfNone, IfSome}
use Rattle.std.proofs.lemmas.Bool.{ltb-true, lt-ltb}
use Rattle.merkle.specs.Shape.{Shape, none, one, fork, pairs, AllOn, IsTrie, earlier, least}
use Rattle.merkle.specs.Remove.{kind}
use Rattle.merkle.specs.Alive.{is_above, alive_entries, IsPartOf, IsLessOf, IsAlive}
use Rattle.merkle.proofs.PutLemmas.{all_append, all_left, all_right}
use Rattle.merkle.proofs.RemoveLemmas.{two_of_kinds, small_trie}

above_both : (moment : ℕ) (a b : Option ℕ) → is_above moment (earlier a b) ≡ true → (is_above moment a ≡ true) × (is_above moment b ≡ true)
above_both moment None b h = (refl, h)
above_both moment (Some x) None h = (h, refl)
above_both moment (Some x) (Some y) h =
    let below : moment < min x y = ltb-true moment (min x y) h in
    (lt-ltb moment x (omega arith), lt-ltb moment y (omega arith))

above_earlier : (moment : ℕ) (a b : Option ℕ) → is_above moment a ≡ true → is_above moment b ≡ true → is_above moment (earlier a b) ≡ true
above_earlier moment None b p q = q
above_earlier moment (Some x) None p q = p
above_earlier moment (Some x) (Some y) p q =
    let first : moment < x = ltb-true moment x p in
    let second : moment < y = ltb-true moment y q in
    lt-ltb moment (min x y) (omega arith)

module _ {K V : Type 0} (due : V → Option ℕ) (moment : ℕ) where
  alive_append : (xs ys : List (K × V)) → alive_entries due moment (xs ++ ys) ≡ alive_entries due moment xs ++ alive_entries due moment ys
  alive_append [] ys = refl
  alive_append (x ∷ xs) ys =
      elim (is_above moment (due x.1)) as (λ b. cond b (x ∷ alive_entries due moment (xs ++ ys)) (alive_entries due moment (xs ++ ys)) ≡ cond b (x ∷ alive_entries due moment xs) (alive_entries due moment xs) ++ alive_entries due moment ys) [
        | true ↦ ap (λ zs. x ∷ zs) (alive_append xs ys)
        | false ↦ alive_append xs ys
      ]

  -- if the least due time is above the moment, all is there
  pub all_alive : (s : Shape K V) → is_above moment (least due s) ≡ true → alive_entries due moment (pairs s) ≡ pairs s
  all_alive none h = refl
  all_alive (one k v) h = ap (λ b. cond b ((k, v) ∷ []) []) h
  all_alive (fork l r) h =
      let both = above_both moment (least due l) (least due r) h in
      alive_append (pairs l) (pairs r) ∙ (λ i. all_alive l both.0 i ++ all_alive r both.1 i)

  at_most : (es : List (K × V)) → length (alive_entries due moment es) ≤ length es
  at_most [] = omega arith
  at_most (e ∷ es) =
      let rest : length (alive_entries due moment es) ≤ length es = at_most es in
      elim (is_above moment (due e.1)) as (λ b. length (cond b (e ∷ alive_entries due moment es) (alive_entries due moment es)) ≤ suc (length es)) [ true ↦ omega arith | false ↦ omega arith ]

  -- if it is not, something is due
  pub fewer_alive : (s : Shape K V) → is_above moment (least due s) ≡ false → length (alive_entries due moment (pairs s)) < length (pairs s)
  fewer_alive none h = absurd (let e : true ≡ false = h in cc)
  fewer_alive (one k v) h = (let e : length (alive_entries due moment (pairs (one k v))) ≡ 0 = ap (λ b. length {A = K × V} (cond b ((k, v) ∷ []) [])) h in omega arith)
  fewer_alive (fork l r) h = by (is_above moment (least due l)) (is_above moment (least due r)) refl refl (λ e. fewer_alive l e) (λ e. fewer_alive r e)
    where
      whole : length (alive_entries due moment (pairs l ++ pairs r)) ≡ length (alive_entries due moment (pairs l)) + length (alive_entries due moment (pairs r))
      whole = ap length (alive_append (pairs l) (pairs r)) ∙ length-append (alive_entries due moment (pairs l)) (alive_entries due moment (pairs r))

      by : (a b : Bool) → is_above moment (least due l) ≡ a → is_above moment (least due r) ≡ b → (is_above moment (least due l) ≡ false → length (alive_entries due moment (pairs l)) < length (pairs l)) → (is_above moment (least due r) ≡ false → length (alive_entries due moment (pairs r)) < length (pairs r)) → length (alive_entries due moment (pairs l ++ pairs r)) < length (pairs l ++ pairs r)
      by false b p q on_left on_right =
          let left : length (alive_entries due moment (pairs l)) < length (pairs l) = on_left p in
          let right : length (alive_entries due moment (pairs r)) ≤ length (pairs r) = at_most (pairs r) in
          omega (arith, whole, length-append (pairs l) (pairs r))
      by true false p q on_left on_right =
          let left : length (alive_entries due moment (pairs l)) ≤ length (pairs l) = at_most (pairs l) in
          let right : length (alive_entries due moment (pairs r)) < length (pairs r) = on_right q in
          omega (arith, whole, length-append (pairs l) (pairs r))
      by true true p q on_left on_right = absurd (let e : true ≡ false = sym (above_earlier moment (least due l) (least due r) p q) ∙ h in cc)

  pub fewer_on : (test : K → Bool) (side : Bool) (es : List (K × V)) → AllOn test side es → AllOn test side (alive_entries due moment es)
  fewer_on test side [] all = tt
  fewer_on test side (e ∷ es) all =
      elim (is_above moment (due e.1)) as (λ b. AllOn test side (cond b (e ∷ alive_entries due moment es) (alive_entries due moment es))) [
        | true ↦ (all.0, fewer_on test side es all.1)
        | false ↦ fewer_on test side es all.1
      ]

  module _ (bit : K → ℕ → Bool) (bits : ℕ) where
    pub nothing_due : (depth : ℕ) (s : Shape K V) → IsTrie bit bits depth s → IsPartOf due bit bits depth moment s s
    nothing_due depth s st = record { same = refl; sides = λ test side all. all; trie = st; fewer = omega arith }

    -- a leaf that is due
    pub due_leaf : (depth : ℕ) (s : Shape K V) → kind s ≤ 1 → is_above moment (least due s) ≡ false → IsPartOf due bit bits depth moment s none
    due_leaf depth none h e = record { same = refl; sides = λ test side all. tt; trie = tt; fewer = omega arith }
    due_leaf depth (one k v) h e = record { same = ap (λ b. cond b ((k, v) ∷ []) []) (sym e); sides = λ test side all. tt; trie = tt; fewer = omega arith }
    due_leaf depth (fork l r) h e = absurd (omega arith)

    pub less_of : (depth : ℕ) (l r m s : Shape K V) → IsTrie bit bits depth (fork l r) → IsPartOf due bit bits (depth + 1) moment l m → IsPartOf due bit bits (depth + 1) moment r s → IsLessOf due bit bits depth moment (fork l r) m s
    less_of depth l r m s st p q =
        record {
          same = alive_append (pairs m) (pairs s) ∙ (λ i. p.same i ++ q.same i) ∙ sym (alive_append (pairs l) (pairs r));
          sides = λ test side all. all_append test side (pairs m) (pairs s) (p.sides test side (all_left test side (pairs l) (pairs r) all)) (q.sides test side (all_right test side (pairs l) (pairs r) all));
          within = st.0;
          lefts = p.sides (λ k. bit k depth) false st.2;
          rights = q.sides (λ k. bit k depth) true st.3;
          left_trie = subst (λ (d : ℕ). IsTrie bit bits d m) (omega arith) p.trie;
          right_trie = subst (λ (d : ℕ). IsTrie bit bits d s) (omega arith) q.trie;
          fewer = (let a : length (pairs m) ≤ length (pairs l) = p.fewer in let b : length (pairs s) ≤ length (pairs r) = q.fewer in omega (arith, length-append (pairs m) (pairs s), length-append (pairs l) (pairs r)));
        }

    pub fork_stays : (depth : ℕ) (old l r : Shape K V) → IsLessOf due bit bits depth moment old l r → 2 ≤ kind l + kind r → IsPartOf due bit bits depth moment old (fork l r)
    fork_stays depth old l r is n =
        record { same = is.same; sides = is.sides; trie = (is.within, two_of_kinds bit bits (suc depth) l r is.left_trie is.right_trie n, is.lefts, is.rights, is.left_trie, is.right_trie); fewer = is.fewer }

    pub small_left : (depth : ℕ) (old l r s : Shape K V) → IsLessOf due bit bits depth moment old l r → pairs s ≡ pairs (fork l r) → kind s ≤ 1 → IsPartOf due bit bits depth moment old s
    small_left depth old l r s is e few =
        let same : length (pairs s) ≡ length (pairs l ++ pairs r) = ap length e in
        let fewer : length (pairs l ++ pairs r) ≤ length (pairs old) = is.fewer in
        record {
          same = ap (alive_entries due moment) e ∙ is.same;
          sides = λ test side all. subst (AllOn test side) (sym e) (is.sides test side all);
          trie = small_trie bit bits depth s few;
          fewer = omega arith;
        }

  pub both_alive : (l r : Shape K V) → IsAlive due moment l → IsAlive due moment r → IsAlive due moment (fork l r)
  both_alive l r p q = alive_append (pairs l) (pairs r) ∙ (λ i. p i ++ q i)

pub both_none : {X P Q S : Type 0} (o : Option X) → (P → Q → S) → IfNone o P → IfNone o Q → IfNone o S
both_none None f p q = f p q
both_none (Some x) f p q = tt

pub some_weaker : {X : Type 0} (P Q : X → Type 0) (o : Option X) → ((x : X) → P x → Q x) → IfSome o P → IfSome o Q
some_weaker P Q None f p = tt
some_weaker P Q (Some x) f p = f x p
