-- An order of what members show is one of all that they did.
use Rattle.std.proofs.Common.{◌≡◌, ◌≢◌, ⊎_elim, ℕ, zero, suc, ◌<◌, ◌≤◌, Bool, true, false, List, [], ◌∷◌, ◌++◌, Option, None, Some, refl, sym, ap, ◌∙◌, subst, arith, append_assoc}
use Rattle.std.specs.Prelude.{◌==◌}
use Rattle.std.proofs.lemmas.List.{append-nil}
use Rattle.std.proofs.lemmas.Bool.{eqb-true, eqb-false, cases_lt}
use Rattle.site_laws.specs.Orders.{deed_if, deeds_of, tagged, put_at, entry_of, shows, all_shown, AreOrdered}
use Rattle.site_laws.proofs.OrderLemmas.{put_here, put_other, own_first, other_first}

module _ {D : Type 0} where
  of_both : (m : ℕ) (xs ys : List (ℕ × D)) → deeds_of m (xs ++ ys) ≡ deeds_of m xs ++ deeds_of m ys
  of_both m [] ys = refl
  of_both m (x ∷ xs) ys = by (x.0 == m) refl (of_both m xs ys)
    where
      by : (here : Bool) → (x.0 == m) ≡ here → deeds_of m (xs ++ ys) ≡ deeds_of m xs ++ deeds_of m ys → deeds_of m ((x ∷ xs) ++ ys) ≡ deeds_of m (x ∷ xs) ++ deeds_of m ys
      by true e rest = ap (λ (here : Bool). deed_if here x.1 (deeds_of m (xs ++ ys))) e ∙ (ap (λ (ds : List D). x.1 ∷ ds) rest ∙ ap (λ (here : Bool). deed_if here x.1 (deeds_of m xs) ++ deeds_of m ys) (sym e))
      by false e rest = ap (λ (here : Bool). deed_if here x.1 (deeds_of m (xs ++ ys))) e ∙ (rest ∙ ap (λ (here : Bool). deed_if here x.1 (deeds_of m xs) ++ deeds_of m ys) (sym e))

  of_own : (m : ℕ) (ds : List D) → deeds_of m (tagged m ds) ≡ ds
  of_own m [] = refl
  of_own m (d ∷ ds) = own_first m d (tagged m ds) ∙ ap (λ (es : List D). d ∷ es) (of_own m ds)

  of_other : (m k : ℕ) (ds : List D) → (m == k) ≡ false → deeds_of k (tagged m ds) ≡ []
  of_other m k [] e = refl
  of_other m k (d ∷ ds) e = other_first m d (tagged m ds) k e ∙ of_other m k ds e

  -- those of all members below this one
  below : ℕ → (ℕ → List D) → List (ℕ × D)
  below zero deeds = []
  below (suc n) deeds = below n deeds ++ tagged n (deeds n)

  of_beyond : (n m : ℕ) (deeds : ℕ → List D) → n ≤ m → deeds_of m (below n deeds) ≡ []
  unfolding below
  of_beyond zero m deeds from = refl
  of_beyond (suc n) m deeds from =
      let other : (n == m) ≡ false = not_same n m from in
      of_both m (below n deeds) (tagged n (deeds n)) ∙ ((λ i. of_beyond n m deeds (omega (arith, from)) i ++ of_other n m (deeds n) other i) ∙ refl)
    where
      not_same : (a b : ℕ) → suc a ≤ b → (a == b) ≡ false
      not_same a b less = by (a == b) refl
        where
          by : (same : Bool) → (a == b) ≡ same → (a == b) ≡ false
          by false e = e
          by true e = absurd (let same : a ≡ b = eqb-true a b e in omega (arith, same, less))

  of_below : (n m : ℕ) (deeds : ℕ → List D) → m < n → deeds_of m (below n deeds) ≡ deeds m
  unfolding below
  of_below zero m deeds less = absurd (omega (arith, less))
  of_below (suc n) m deeds less = by (n == m) refl (λ l. of_below n m deeds l)
    where
      by : (here : Bool) → (n == m) ≡ here → (m < n → deeds_of m (below n deeds) ≡ deeds m) → deeds_of m (below (suc n) deeds) ≡ deeds m
      by true e rest =
          let same : n ≡ m = eqb-true n m e in
          subst (λ (k : ℕ). deeds_of k (below n deeds ++ tagged n (deeds n)) ≡ deeds k) same
          (of_both n (below n deeds) (tagged n (deeds n)) ∙ (λ i. of_beyond n n deeds (omega arith) i ++ of_own n (deeds n) i))
      by false e rest =
          let other : n ≢ m = eqb-false n m e in
          of_both m (below n deeds) (tagged n (deeds n)) ∙ ((λ i. rest (omega (arith, less, other)) i ++ of_other n m (deeds n) e i) ∙ append-nil (deeds m))

module _ {D V : Type 0} (shown : D → Option V) where
  pub shown_both : (xs ys : List (ℕ × D)) → all_shown shown (xs ++ ys) ≡ all_shown shown xs ++ all_shown shown ys
  shown_both [] ys = refl
  shown_both (x ∷ xs) ys = ap (λ (vs : List (ℕ × V)). tagged x.0 (entry_of shown (shown x.1)) ++ vs) (shown_both xs ys) ∙ sym (append_assoc (tagged x.0 (entry_of shown (shown x.1))) (all_shown shown xs) (all_shown shown ys))

  -- deeds that show nothing
  none_shown : (m : ℕ) (ds : List D) → shows shown ds ≡ [] → all_shown shown (tagged m ds) ≡ []
  none_shown m [] none = refl
  none_shown m (d ∷ ds) none = by (shown d) refl (λ n. none_shown m ds n)
    where
      by : (o : Option V) → shown d ≡ o → (shows shown ds ≡ [] → all_shown shown (tagged m ds) ≡ []) → all_shown shown (tagged m (d ∷ ds)) ≡ []
      by None e rest = ap (λ (p : Option V). tagged m (entry_of shown p) ++ all_shown shown (tagged m ds)) e ∙ rest (sym (ap (λ (p : Option V). entry_of shown p ++ shows shown ds) e) ∙ none)
      by (Some v) e rest = absurd (let some : v ∷ shows shown ds ≡ [] = sym (ap (λ (p : Option V). entry_of shown p ++ shows shown ds) e) ∙ none in cc some)

  none_below : (n : ℕ) (deeds : ℕ → List D) → ((m : ℕ) → shows shown (deeds m) ≡ []) → all_shown shown (below n deeds) ≡ []
  unfolding below
  none_below zero deeds none = refl
  none_below (suc n) deeds none = shown_both (below n deeds) (tagged n (deeds n)) ∙ (λ i. none_below n deeds none i ++ none_shown n (deeds n) (none n) i)

  -- the first deed that shows something, and what was done before it
  record IsSplit (ds : List D) (v : V) (vs : List V) : Type 0 where
    pub before : List D
    pub deed : D
    pub after : List D
    pub is : ds ≡ before ++ deed ∷ after
    pub silent : shows shown before ≡ []
    pub shows_it : shown deed ≡ Some v
    pub rest : shows shown after ≡ vs

  split : (ds : List D) (v : V) (vs : List V) → shows shown ds ≡ v ∷ vs → IsSplit ds v vs
  split [] v vs is = absurd (cc is)
  split (d ∷ ds) v vs is = by (shown d) refl (λ r. split ds v vs r)
    where
      by : (o : Option V) → shown d ≡ o → (shows shown ds ≡ v ∷ vs → IsSplit ds v vs) → IsSplit (d ∷ ds) v vs
      by None e later =
          let rest = later (sym (ap (λ (p : Option V). entry_of shown p ++ shows shown ds) e) ∙ is) in
          record {
            before = d ∷ rest.before;
            deed = rest.deed;
            after = rest.after;
            is = ap (λ (es : List D). d ∷ es) rest.is;
            silent = ap (λ (p : Option V). entry_of shown p ++ shows shown rest.before) e ∙ rest.silent;
            shows_it = rest.shows_it;
            rest = rest.rest;
          }
      by (Some x) e next =
          let both : x ∷ shows shown ds ≡ v ∷ vs = sym (ap (λ (p : Option V). entry_of shown p ++ shows shown ds) e) ∙ is in
          let first : x ≡ v = cc both in
          let later : shows shown ds ≡ vs = cc both in
          record { before = []; deed = d; after = ds; is = refl; silent = refl; shows_it = e ∙ ap Some first; rest = later }

  pub filled : (order : List (ℕ × V)) (count : ℕ) (deeds : ℕ → List D) → ((m : ℕ) → shows shown (deeds m) ≡ deeds_of m order) → ((m : ℕ) → count ≤ m → deeds m ≡ []) → AreOrdered shown order deeds
  filled [] count deeds show few = record {
    full = below count deeds;
    own = λ m. own m;
    same = none_below count deeds show;
  }
    where
      own : (m : ℕ) → deeds_of m (below count deeds) ≡ deeds m
      own m = ⊎_elim (λ (less : m < count). of_below count m deeds less) (λ (from : count ≤ m). of_beyond count m deeds from ∙ sym (few m from)) (cases_lt m count)
  filled (x ∷ order) count deeds show few =
      let m = x.0 in
      let v = x.1 in
      let s = split (deeds m) v (deeds_of m order) (show m ∙ own_first m v order) in
      let left : ℕ → List D = put_at deeds m s.after in
      let next = filled order count left (λ k. shows_left k s) (λ k from. few_left k from s) in
      record {
        full = tagged m s.before ++ (m, s.deed) ∷ next.full;
        own = λ k. own_all k s next.full next.own;
        same =
            shown_both (tagged m s.before) ((m, s.deed) ∷ next.full)
            ∙ ((λ i. none_shown m s.before s.silent i ++ (tagged m (entry_of shown (s.shows_it i)) ++ next.same i)) ∙ refl);
      }
    where
      shows_left : (k : ℕ) (s : IsSplit (deeds x.0) x.1 (deeds_of x.0 order)) → shows shown (put_at deeds x.0 s.after k) ≡ deeds_of k order
      shows_left k s = by (x.0 == k) refl
        where
          by : (here : Bool) → (x.0 == k) ≡ here → shows shown (put_at deeds x.0 s.after k) ≡ deeds_of k order
          by true e = subst (λ (j : ℕ). shows shown (put_at deeds x.0 s.after j) ≡ deeds_of j order) (eqb-true x.0 k e) (ap (shows shown) (put_here deeds x.0 s.after) ∙ s.rest)
          by false e = ap (shows shown) (put_other deeds x.0 s.after k e) ∙ (show k ∙ other_first x.0 x.1 order k e)

      few_left : (k : ℕ) → count ≤ k → (s : IsSplit (deeds x.0) x.1 (deeds_of x.0 order)) → put_at deeds x.0 s.after k ≡ []
      few_left k from s = by (x.0 == k) refl
        where
          cons_none : (before : List D) (d : D) (after : List D) → before ++ d ∷ after ≡ [] → ⊥
          cons_none [] d after e = cc e
          cons_none (y ∷ before) d after e = cc e

          by : (here : Bool) → (x.0 == k) ≡ here → put_at deeds x.0 s.after k ≡ []
          by true e = absurd (cons_none s.before s.deed s.after (sym s.is ∙ few x.0 (subst (λ (j : ℕ). count ≤ j) (sym (eqb-true x.0 k e)) from)))
          by false e = put_other deeds x.0 s.after k e ∙ few k from

      own_all : (k : ℕ) (s : IsSplit (deeds x.0) x.1 (deeds_of x.0 order)) (rest : List (ℕ × D)) → ((j : ℕ) → deeds_of j rest ≡ put_at deeds x.0 s.after j) → deeds_of k (tagged x.0 s.before ++ (x.0, s.deed) ∷ rest) ≡ deeds k
      own_all k s rest own = by (x.0 == k) refl
        where
          by : (here : Bool) → (x.0 == k) ≡ here → deeds_of k (tagged x.0 s.before ++ (x.0, s.deed) ∷ rest) ≡ deeds k
          by true e = subst (λ (j : ℕ). deeds_of j (tagged x.0 s.before ++ (x.0, s.deed) ∷ rest) ≡ deeds j) (eqb-true x.0 k e)
              (of_both x.0 (tagged x.0 s.before) ((x.0, s.deed) ∷ rest)
              ∙ ((λ i. of_own x.0 s.before i ++ own_first x.0 s.deed rest i)
              ∙ (ap (λ (ds : List D). s.before ++ s.deed ∷ ds) (own x.0 ∙ put_here deeds x.0 s.after) ∙ sym s.is)))
          by false e =
              of_both k (tagged x.0 s.before) ((x.0, s.deed) ∷ rest)
              ∙ ((λ i. of_other x.0 k s.before e i ++ other_first x.0 s.deed rest k e i)
              ∙ (own k ∙ put_other deeds x.0 s.after k e))
