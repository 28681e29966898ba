-- Each call keeps the rule of a link.
use Rattle.std.proofs.Common.{◌≡◌, ◌≢◌, ◌⊎◌, ℕ, zero, suc, ◌+◌, ◌<◌, Bool, true, false, cond, List, [], ◌∷◌, ◌++◌, length, set, refl, sym, ap, ◌∙◌, subst, inl, inr, ⊎_elim, arith, length-set, length-append, eq-eqb, ne_eqb, append-nil, append_assoc}
use Rattle.std.specs.Prelude.{◌==◌}
use mathlib.Core.Option.{some, some-injective, some-ne-none}
use lib.ListN.{get_elem?}
use Rattle.atomic_table.proofs.Lists.{at_set, set_again}
use Rattle.crossbeam_channel.specs.Fifo.{Pushes, Pops, Forks, Learns}
use Rattle.link.specs.declared.line.View.{View}
use Rattle.link.specs.declared.line.TheConstants.{MOST_ITEMS}
use Rattle.link.specs.Lines.{fresh, only_items, by, StartsWith, Knows, LinkHolds, IsPutIn, IsTakenOut}

starts_more : {A : Type 0} (all front more : List A) → StartsWith all front → StartsWith (all ++ more) front
starts_more all front more s = (s.0 ++ more, ap (λ l. l ++ more) s.1 ∙ append_assoc front s.0 more)

whole : {A : Type 0} (all : List A) → StartsWith all all
whole all = ([], sym (append-nil all))

module _ {T : Type 0} where
  items-push : (ps : List (ℕ × T)) (p : ℕ × T) → only_items (ps ++ p ∷ []) ≡ only_items ps ++ p.1 ∷ []
  items-push [] p = refl
  items-push (q ∷ ps) p = ap (λ l. q.1 ∷ l) (items-push ps p)

  turn : (b : Bool) (x : T) (ls ps qs : List T) → ls ≡ ps ++ qs → cond b (x ∷ ls) ls ≡ cond b (x ∷ ps) ps ++ qs
  turn true x ls ps qs e = ap (λ l. x ∷ l) e
  turn false x ls ps qs e = e

  by-append : (end : ℕ) (ps qs : List (ℕ × T)) → by end (ps ++ qs) ≡ by end ps ++ by end qs
  by-append end [] qs = refl
  by-append end (p ∷ ps) qs = turn (p.0 == end) p.1 (by end (ps ++ qs)) (by end ps) (by end qs) (by-append end ps qs)

  by_own : (end : ℕ) (ps : List (ℕ × T)) (x : T) → by end (ps ++ (end, x) ∷ []) ≡ by end ps ++ x ∷ []
  by_own end ps x = by-append end ps ((end, x) ∷ []) ∙ ap (λ b. by end ps ++ cond b (x ∷ []) []) (eq-eqb end end refl)

  by_other : (end other : ℕ) (ps : List (ℕ × T)) (x : T) → other ≢ end → by end (ps ++ (other, x) ∷ []) ≡ by end ps
  by_other end other ps x off = by-append end ps ((other, x) ∷ []) ∙ ap (λ b. by end ps ++ cond b (x ∷ []) []) (ne_eqb other end off) ∙ append-nil _

  at_below : (l : List (View T)) (j : ℕ) (b : View T) → get_elem? l j ≡ some b → j < length l
  at_below [] j b e = absurd (some-ne-none b (sym e))
  at_below (x ∷ xs) zero b e = omega arith
  at_below (x ∷ xs) (suc j) b e = let r = at_below xs j b e in omega arith

  at_push : (l : List (View T)) (a b : View T) (j : ℕ) → get_elem? (l ++ a ∷ []) j ≡ some b → ((j < length l) × (get_elem? l j ≡ some b)) ⊎ ((j ≡ length l) × (a ≡ b))
  at_push [] a b zero e = inr (refl, some-injective a b e)
  at_push [] a b (suc j) e = absurd (some-ne-none b (sym e))
  at_push (x ∷ xs) a b zero e = inl (omega arith, e)
  at_push (x ∷ xs) a b (suc j) e = ⊎_elim (λ t. let h = t.0 in inl (omega arith, t.1)) (λ t. inr (ap suc t.0, t.1)) (at_push xs a b j e)

  pub begins : LinkHolds {T = T} [] (fresh [] [] ∷ [])
  begins = record { puts = []; takes = []; line = refl; few = omega arith; knows = one; none = λ _ _. (refl, refl) }
    where
      one : (end : ℕ) (v : View T) → get_elem? (fresh [] [] ∷ []) end ≡ some v → Knows [] [] end v
      one zero v e = subst (Knows [] [] 0) (some-injective _ _ e) (refl, refl, ([], refl), ([], refl))
      one (suc end) v e = absurd (some-ne-none v (sym e))

  length_items : (ps : List (ℕ × T)) → length (only_items ps) ≡ length ps
  length_items [] = refl
  length_items (p ∷ ps) = ap suc (length_items ps)

  pub puts : (n end : ℕ) (v : View T) (x : T) → n ≡ MOST_ITEMS → Pushes LinkHolds n end v x (IsPutIn v x)
  puts n end v x most items views room k at =
      let w : View T = record { put = v.put ++ x ∷ []; got = v.got; puts = v.puts; takes = v.takes } in
      let mine = k.knows end v at in
      let here = at_below views end v at in
      let ps = k.puts ++ (end, x) ∷ [] in (
        w,
        record {
          puts = ps;
          takes = k.takes;
          line = items-push k.puts (end, x) ∙ ap (λ l. l ++ x ∷ []) k.line ∙ append_assoc (only_items k.takes) items (x ∷ []);
          few = let joined = length-append items (x ∷ []) in omega arith;
          knows = λ j u is. ⊎_elim
              (λ (t : (j ≡ end) × (w ≡ u)). subst (λ (p : ℕ × View T). Knows ps k.takes p.0 p.1) (λ i. (sym t.0 i, t.1 i))
              (by_own end k.puts x ∙ ap (λ l. l ++ x ∷ []) mine.0, mine.1, starts_more k.puts v.puts ((end, x) ∷ []) mine.2, mine.3))
              (λ (t : (j ≢ end) × (get_elem? views j ≡ some u)). let f = k.knows j u t.1 in
              (by_other j end k.puts x (λ e. t.0 (sym e)) ∙ f.0, f.1, starts_more k.puts u.puts ((end, x) ∷ []) f.2, f.3))
              (at_set views end j w u is);
          none = λ j le. let len : length (set views end w) ≡ length views = length-set views end w in let no_one = k.none j (omega arith) in
              (by_other j end k.puts x (λ e. absurd (omega arith)) ∙ no_one.0, no_one.1);
        },
        refl,
      )

  pub takes : (end : ℕ) (v : View T) → Pops LinkHolds end v (IsTakenOut v)
  takes end v x items views k at =
      let ts = k.takes ++ (end, x) ∷ [] in
      let mine = k.knows end v at in
      let here = at_below views end v at in
      let w : View T = record { put = v.put; got = v.got ++ x ∷ []; puts = k.puts; takes = ts } in
      let got : by end ts ≡ v.got ++ x ∷ [] = by_own end k.takes x ∙ ap (λ l. l ++ x ∷ []) mine.1 in
      let line : only_items k.puts ≡ only_items ts ++ items = k.line ∙ sym (append_assoc (only_items k.takes) (x ∷ []) items) ∙ ap (λ l. l ++ items) (sym (items-push k.takes (end, x))) in
      let left : length k.puts < length ts + MOST_ITEMS =
      let had = k.few in let all = ap length line in let joined = length-append (only_items ts) items in let ps = length_items k.puts in let gone = length_items ts in omega arith in (
        w,
        record {
          puts = k.puts;
          takes = ts;
          line = line;
          few = let had = k.few in omega arith;
          knows = λ j u is. ⊎_elim
              (λ (t : (j ≡ end) × (w ≡ u)). subst (λ (p : ℕ × View T). Knows k.puts ts p.0 p.1) (λ i. (sym t.0 i, t.1 i)) (mine.0, got, whole k.puts, whole ts))
              (λ (t : (j ≢ end) × (get_elem? views j ≡ some u)). let f = k.knows j u t.1 in (f.0, by_other j end k.takes x (λ e. t.0 (sym e)) ∙ f.1, f.2, starts_more k.takes u.takes ((end, x) ∷ []) f.3))
              (at_set views end j w u is);
          none = λ j le. let len : length (set views end w) ≡ length views = length-set views end w in let no_one = k.none j (omega arith) in
              (no_one.0, by_other j end k.takes x (λ e. absurd (omega arith)) ∙ no_one.1);
        },
        record {
          same_puts = refl;
          newest = refl;
          puts_grow = mine.2;
          in_line = (items, line);
          few = left;
          end = end;
          between = mine.3.0;
          last = ap (λ l. l ++ (end, x) ∷ []) mine.3.1;
          own_puts = mine.0;
          own_takes = got;
        },
      )

  pub tells : (end : ℕ) (v : View T) → Forks LinkHolds end v v (fresh v.puts v.takes)
  tells end v items views k at =
      let b : View T = fresh v.puts v.takes in
      let mine = k.knows end v at in
      let same = set_again views end v at in
      record {
        puts = k.puts;
        takes = k.takes;
        line = k.line;
        few = k.few;
        knows = λ j u is. ⊎_elim
            (λ (t : (j < length (set views end v)) × (get_elem? (set views end v) j ≡ some u)). k.knows j u (subst (λ l. get_elem? l j ≡ some u) same t.1))
            (λ (t : (j ≡ length (set views end v)) × (b ≡ u)). let len : length (set views end v) ≡ length views = length-set views end v in let at_end = t.0 in
            let no_one = k.none j (omega arith) in
            subst (Knows k.puts k.takes j) t.1 (no_one.0, no_one.1, mine.2, mine.3))
            (at_push (set views end v) b u j is);
        none = λ j le. let len : length (set views end v) ≡ length views = length-set views end v in k.none j (omega (arith, length-append (set views end v) (b ∷ [])));
      }

  pub learns : (end : ℕ) (v : View T) → Learns LinkHolds end v (λ (items : List T). Unit {0})
  learns end v items views k at = tt
