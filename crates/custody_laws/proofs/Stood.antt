-- What an executor makes of what it is told to stand.
use Rattle.std.proofs.Common.{◌≡◌, ℕ, zero, suc, ◌+◌, ◌<◌, ◌≤◌, ◌⊎◌, true, false, List, [], ◌∷◌, length, take, Option, Some, None, slice_get, inl, inr, refl, sym, ◌∙◌, ap, subst, ⊎_elim, arith}
use Rattle.std.specs.Prelude.{◌==◌}
use Rattle.std.proofs.lemmas.Slice.Eq.{bytes_eq-Decides}
use Rattle.std.proofs.lemmas.Bool.{cond_both, and_parts, and_cases, eqb-true, eqb-false, false≢true, eq-eqb, cases_eq}
use Rattle.token.specs.declared.Token as token
use Rattle.decrees.specs.declared.decree.Decree.{Decree}
use Rattle.decrees.specs.declared.decree.Decree.TheVariants.{Commit, Rollback}
use Rattle.decrees.specs.declared.standing.Standing.{Standing}
use Rattle.decrees.specs.Standing.{standing}
use Rattle.decrees.specs.Votes.{token_eq}
use Rattle.decrees.proofs.TokenLemmas.{token_eq-true}
use Rattle.states.specs.State.{StateView}
use Rattle.executor.specs.Work.{TentativeView}
use Rattle.rollback.specs.Chain.{is_standing}
use Rattle.agreement_laws.specs.Letters.{Letters}
use Rattle.run_laws.specs.Run.{Executed}
use Rattle.custody_laws.specs.Durable.{Durable, In, first, later, reached_in, stood_on, durable_stood}
use Rattle.custody_laws.proofs.Log.{some_at, stands_next, Numbered, rises_to, last_commit}
use Rattle.custody_laws.proofs.Kept.{Path, start, step, member_number, member_previous, member_epoch, Chain, Chain-in, Chain-path, Fate, kept, passed, rolled, broken, ExecOk, stands_chosen}

-- each decree is counted, by the number or by the epoch
pub counted : {log : List Decree} → Numbered log → (k : ℕ) → k ≤ length log → (standing (take k log)).n + (standing (take k log)).epoch ≡ k + 1
counted {log} ok zero h = refl
counted {log} ok (suc k) h = let c = some_at log k (omega arith) in by c.0 c.1 (counted ok k (omega arith))
  where
    by : (c : Decree) → slice_get log k ≡ Some c → (standing (take k log)).n + (standing (take k log)).epoch ≡ k + 1 → (standing (take (suc k) log)).n + (standing (take (suc k) log)).epoch ≡ suc k + 1
    by (Commit n t) e before =
        let s = stands_next log k (Commit n t) e in
        omega (arith, ap (λ (x : Standing). x.n) s, ap (λ (x : Standing). x.epoch) s, ok.next k n t e, before)
    by Rollback e before =
        let s = stands_next log k Rollback e in
        omega (arith, ap (λ (x : Standing). x.n) s, ap (λ (x : Standing). x.epoch) s, before)

stands_true : (st : Standing) (s : StateView) → is_standing st s ≡ true → (s.number ≡ st.n) × (s.token ≡ st.token)
stands_true st s e = let p = and_parts (s.number == st.n) (token_eq s.token st.token) e in (eqb-true s.number st.n p.0, token_eq-true s.token st.token p.1)

stands_false : (st : Standing) (s : StateView) → is_standing st s ≡ false → s.number ≡ st.n → s.token ≡ st.token → ⊥
stands_false st s e number text =
    let yes1 = eq-eqb s.number st.n number in
    let yes2 : token_eq s.token st.token ≡ true = (bytes_eq-Decides s.token.0 st.token.0).1 (ap (λ (z : token.Token). z.0) text) in
    ⊎_elim (λ a. false≢true (sym a ∙ yes1)) (λ b. false≢true (sym b ∙ yes2)) (and_cases (s.number == st.n) (token_eq s.token st.token) e)

-- what became of a member, if these stay after the state that stands
pub data Place (st : Standing) (have : StateView) (left : List TentativeView) (m : TentativeView) : Type 0 where
  under : m.after.number < st.n → Place st have left m
  at_it : m.after ≡ have → Place st have left m
  over : In m left → Place st have left m

module _ (met : StateView → Type 0) (rounds : Executed → Type 0) (epoch : ℕ) (st : Standing) where
  -- the state that stands was found
  pub record Found (base : StateView) (ts : List TentativeView) (c : StateView × List TentativeView) : Type 0 where
    pub is_standing : (c.0.number ≡ st.n) × (c.0.token ≡ st.token)
    pub chain : Chain met rounds epoch c.0 c.1
    pub from : (c.0 ≡ base) ⊎ (met c.0 × (base.number < c.0.number))
    pub places : (m : TentativeView) → In m ts → Place st c.0 c.1 m

  pub found : (base : StateView) (ts : List TentativeView) (c : StateView × List TentativeView) → Chain met rounds epoch base ts → reached_in st base ts ≡ Some c → Found base ts c
  found base [] c chain = cond_both (is_standing st base) (Some (base, [])) None (λ (o : Option (StateView × List TentativeView)). o ≡ Some c → Found base [] c)
      (λ yes e.
      let same : (base, []) ≡ c = cc e in
      subst (Found base []) same (record { is_standing = stands_true st base yes; chain = tt; from = inl refl; places = λ m i. elim i [ ] }))
      (λ no e. absurd (cc e))
  found base (t ∷ ts) c chain = cond_both (is_standing st base) (Some (base, t ∷ ts)) (reached_in st t.after ts) (λ (o : Option (StateView × List TentativeView)). o ≡ Some c → Found base (t ∷ ts) c)
      (λ yes e.
      let same : (base, t ∷ ts) ≡ c = cc e in
      subst (Found base (t ∷ ts)) same (record { is_standing = stands_true st base yes; chain = chain; from = inl refl; places = λ m i. over i }))
      (λ no e.
      let f = found t.after ts c chain.3 e in
      let up = member_number chain.0 in
      record {
        is_standing = f.is_standing;
        chain = f.chain;
        from = inr (⊎_elim
            (λ (s : c.0 ≡ t.after). (subst met (sym s) chain.1, omega (arith, ap (λ (y : StateView). y.number) s, up)))
            (λ (p : met c.0 × (t.after.number < c.0.number)). (p.0, omega (arith, p.1, up)))
            f.from);
        places = λ m i. placed f m i;
      })
    where
      placed : Found t.after ts c → (m : TentativeView) → In m (t ∷ ts) → Place st c.0 c.1 m
      placed f m (later i) = f.places m i
      placed f m (first e) = ⊎_elim
          (λ (s : c.0 ≡ t.after). at_it (ap (λ (y : TentativeView). y.after) (sym e) ∙ sym s))
          (λ (p : met c.0 × (t.after.number < c.0.number)). under (omega (arith, p.1, f.is_standing.0, ap (λ (y : TentativeView). y.after.number) e)))
          f.from

  none_at : (base : StateView) (ts : List TentativeView) → reached_in st base ts ≡ None → is_standing st base ≡ false
  none_at base [] = cond_both (is_standing st base) (Some (base, [])) None (λ (o : Option (StateView × List TentativeView)). o ≡ None → is_standing st base ≡ false) (λ yes e. absurd (cc e)) (λ no e. no)
  none_at base (t ∷ ts) = cond_both (is_standing st base) (Some (base, t ∷ ts)) (reached_in st t.after ts) (λ (o : Option (StateView × List TentativeView)). o ≡ None → is_standing st base ≡ false) (λ yes e. absurd (cc e)) (λ no e. no)

  none_after : (base : StateView) (t : TentativeView) (ts : List TentativeView) → reached_in st base (t ∷ ts) ≡ None → reached_in st t.after ts ≡ None
  none_after base t ts = cond_both (is_standing st base) (Some (base, t ∷ ts)) (reached_in st t.after ts) (λ (o : Option (StateView × List TentativeView)). o ≡ None → reached_in st t.after ts ≡ None) (λ yes e. absurd (cc e)) (λ no e. e)

  -- it was not, so none of these stands
  missed : (base : StateView) (ts : List TentativeView) → reached_in st base ts ≡ None → (m : TentativeView) → In m ts → m.after.number ≡ st.n → m.after.token ≡ st.token → ⊥
  missed base [] e m i number text = elim i [ ]
  missed base (t ∷ ts) e m (first same) number text =
      stands_false st t.after (none_at t.after ts (none_after base t ts e)) (ap (λ (y : TentativeView). y.after.number) same ∙ number) (ap (λ (y : TentativeView). y.after.token) same ∙ text)
  missed base (t ∷ ts) e m (later i) number text = missed t.after ts (none_after base t ts e) m i number text

  -- from a state that leads to the base a path leads to the state that stands
  path_on : (f base : StateView) (ts : List TentativeView) (c : StateView × List TentativeView) → Chain met rounds epoch base ts → Path met f base → reached_in st base ts ≡ Some c → Path met f c.0
  path_on f base [] c chain p = cond_both (is_standing st base) (Some (base, [])) None (λ (o : Option (StateView × List TentativeView)). o ≡ Some c → Path met f c.0)
      (λ yes e. let same : (base, []) ≡ c = cc e in subst (λ (z : StateView × List TentativeView). Path met f z.0) same p)
      (λ no e. absurd (cc e))
  path_on f base (t ∷ ts) c chain p = cond_both (is_standing st base) (Some (base, t ∷ ts)) (reached_in st t.after ts) (λ (o : Option (StateView × List TentativeView)). o ≡ Some c → Path met f c.0)
      (λ yes e. let same : (base, t ∷ ts) ≡ c = cc e in subst (λ (z : StateView × List TentativeView). Path met f z.0) same p)
      (λ no e. path_on f t.after ts c chain.3 (step p chain.1 (member_previous chain.0) (member_number chain.0)) e)

  -- from each member up to the state that stands too
  pub under_path : (base : StateView) (ts : List TentativeView) (c : StateView × List TentativeView) (t : TentativeView) → Chain met rounds epoch base ts → reached_in st base ts ≡ Some c → In t ts → t.after.number ≤ c.0.number → Path met t.after c.0
  under_path base [] c t chain is i low = elim i [ ]
  under_path base (x ∷ ts) c t chain is i low = cond_both (is_standing st base) (Some (base, x ∷ ts)) (reached_in st x.after ts) (λ (o : Option (StateView × List TentativeView)). o ≡ Some c → In t (x ∷ ts) → t.after.number ≤ c.0.number → Path met t.after c.0)
      (λ yes e k h.
      let same : (base, x ∷ ts) ≡ c = cc e in
      let r = Chain-in met rounds epoch base (x ∷ ts) chain k in
      absurd (omega (arith, r.above, h, ap (λ (z : StateView × List TentativeView). z.0.number) same)))
      (λ no e k h. by e (λ j. under_path x.after ts c t chain.3 e j h) k)
      is i low
    where
      by : reached_in st x.after ts ≡ Some c → (In t ts → Path met t.after c.0) → In t (x ∷ ts) → Path met t.after c.0
      by e h (first same) = subst (λ (y : TentativeView). Path met y.after c.0) same (path_on x.after x.after ts c chain.3 (start chain.1) e)
      by e h (later i) = h i

  -- a chain has a member of each number up to that of a member, and from it a path leads there
  between : (base : StateView) (ts : List TentativeView) (k : ℕ) (t : TentativeView) → Chain met rounds epoch base ts → In t ts → base.number < k → k ≤ t.after.number
      → (g : TentativeView) × In g ts × (g.after.number ≡ k) × Path met g.after t.after
  between base [] k t chain i low high = elim i [ ]
  between base (x ∷ ts) k t chain i low high = ⊎_elim
      (λ (here : x.after.number ≡ k). (x, first refl, here, path i))
      (λ (apart : x.after.number ≡ k → ⊥).
      let r = between x.after ts k t chain.3 (rest apart i) (omega (arith, low, member_number chain.0, apart)) high in
      (r.0, later r.1, r.2, r.3))
      (cases_eq x.after.number k)
    where
      path : In t (x ∷ ts) → Path met x.after t.after
      path (first e) = subst (λ (y : TentativeView). Path met x.after y.after) e (start chain.1)
      path (later j) = Chain-path met rounds epoch x.after x.after ts chain.3 (start chain.1) j

      rest : (x.after.number ≡ k → ⊥) → In t (x ∷ ts) → In t ts
      rest apart (first e) = absurd (apart (omega (arith, low, high, member_number chain.0, ap (λ (y : TentativeView). y.after.number) e)))
      rest apart (later j) = j

none_in : {t : TentativeView} → In t [] → ⊥
none_in i = elim i [ ]

module _ {log : List Decree} {ls : Letters} {met : StateView → Type 0} {rounds : Executed → Type 0} {e : ℕ} {x : Durable} (ok : ExecOk log ls met rounds e x) (numbered : Numbered log) (place : ℕ) (later_place : x.known < place) (within : place ≤ length log) where
  abbrev now : Standing
  now = standing (take place log)

  rise : (x.standing.n ≤ now.n) × (x.standing.epoch ≤ now.epoch)
  rise =
      let r = rises_to numbered x.known place (omega (arith, later_place)) within in
      (omega (arith, r.0, ap (λ (s : Standing). s.n) ok.stands), omega (arith, r.1, ap (λ (s : Standing). s.epoch) ok.stands))

  -- in one epoch each decree is a Commit
  grows : x.standing.epoch ≡ now.epoch → x.standing.n < now.n
  grows same =
      let a = counted numbered x.known ok.known in
      let b = counted numbered place within in
      omega (arith, a, b, same, later_place, ap (λ (s : Standing). s.n) ok.stands, ap (λ (s : Standing). s.epoch) ok.stands)

  of_member : (m : TentativeView) → In m x.chain → (x.have.number ≡ x.standing.n) × (m.after.epoch ≡ x.standing.epoch) × (x.have.number < m.after.number)
  of_member m i =
      let r = Chain-in met rounds x.standing.epoch x.have x.chain ok.chain i in
      (⊎_elim (λ (none : x.chain ≡ []). absurd (none_in (subst (In m) none i))) (λ (level : x.have.number ≡ x.standing.n). level) ok.level, member_epoch r.member, r.above)

  abbrev To : StateView → List TentativeView → ℕ → ℕ → token.Token → Type 0
  To have left epoch n t = Fate log met (record { known = place; standing = now; have = have; chain = left }) epoch n t

  -- what is asked of a member that is over the state that stands
  abbrev Over : StateView × List TentativeView → List TentativeView → Type 0
  Over c left = (m : TentativeView) → In m c.1 → (h : (s : StateView) × (m.after ≡ s) × met s) → (epoch n : ℕ) (t : token.Token) → h.0.token ≡ t → h.0.number ≡ n → h.0.epoch ≡ epoch → In m x.chain → To c.0 left epoch n t

  -- it is found, and committed
  commits_up : (c : StateView × List TentativeView) → reached_in now x.have x.chain ≡ Some c → ExecOk log ls met rounds e (stood_on x place now (Some c))
  commits_up c is = cond_both (now.epoch == x.standing.epoch) c.1 [] (λ (left : List TentativeView). ExecOk log ls met rounds e (record { known = place; standing = now; have = c.0; chain = left }))
      (λ same.
      let one = eqb-true now.epoch x.standing.epoch same in
      with_left c.1 (subst (λ (k : ℕ). Chain met rounds k c.0 c.1) (sym one) f.chain) (λ m i k. kept_over m i k))
      (λ other.
      let apart = eqb-false now.epoch x.standing.epoch other in
      with_left [] tt (λ m i s. gone m i s apart))
    where
      f : Found met rounds x.standing.epoch now x.have x.chain c
      f = found met rounds x.standing.epoch now x.have x.chain c ok.chain is

      kept_over : Over c c.1
      kept_over m i s epoch n t a b d own = kept s.0 (inr (m, i, s.1)) s.2 a b d

      gone : (m : TentativeView) → In m c.1 → (h : (s : StateView) × (m.after ≡ s) × met s) → (now.epoch ≡ x.standing.epoch → ⊥) → (epoch n : ℕ) (t : token.Token) → h.0.token ≡ t → h.0.number ≡ n → h.0.epoch ≡ epoch → In m x.chain → To c.0 [] epoch n t
      gone m i s apart epoch n t a b d own =
          let r = Chain-in met rounds x.standing.epoch c.0 c.1 f.chain i in
          let mine = of_member m own in
          rolled place within
          (omega (arith, r.above, f.is_standing.0, ap (λ (y : StateView). y.number) s.1, b))
          (omega (arith, mine.1, rise.1, apart, ap (λ (y : StateView). y.epoch) s.1, d))

      with_left : (left : List TentativeView) → Chain met rounds now.epoch c.0 left → Over c left → ExecOk log ls met rounds e (record { known = place; standing = now; have = c.0; chain = left })
      with_left left chain above = record {
        known = within;
        stands = refl;
        below = omega (arith, f.is_standing.0);
        level = inr f.is_standing.0;
        have_known = ⊎_elim (λ (s : c.0 ≡ x.have). ⊎_elim (λ k. inl (s ∙ k)) (λ m. inr (subst met (sym s) m)) ok.have_known) (λ (p : met c.0 × (x.have.number < c.0.number)). inr p.0) f.from;
        have_chosen = stands_chosen log place c.0 within f.is_standing.0 f.is_standing.1;
        chain = chain;
        fate = λ epoch n previous t s. fates epoch n t (ok.fate epoch n previous t s);
      }
        where
          fates : (epoch n : ℕ) (t : token.Token) → Fate log met x epoch n t → To c.0 left epoch n t
          fates epoch n t (kept s (inl h) m a b d) = ⊎_elim
              (λ (same : c.0 ≡ x.have). kept s (inl (same ∙ h)) m a b d)
              (λ (p : met c.0 × (x.have.number < c.0.number)). passed (omega (arith, p.1, f.is_standing.0, ap (λ (y : StateView). y.number) h, b)))
              f.from
          fates epoch n t (kept s (inr h) m a b d) = of (f.places h.0 h.1)
            where
              of : Place now c.0 c.1 h.0 → To c.0 left epoch n t
              of (under low) = passed (omega (arith, low, ap (λ (y : StateView). y.number) h.2, b))
              of (at_it same) = kept s (inl (sym same ∙ h.2)) m a b d
              of (over i) = above h.0 i (s, h.2, m) epoch n t a b d h.1
          fates epoch n t (passed h) = passed (omega (arith, h, rise.0))
          fates epoch n t (rolled k h a b) = rolled k h a b
          fates epoch n t (broken g s other i p a b z q r) = broken g s other i p a b z q r

  -- it is not: the chain is undone
  undoes : reached_in now x.have x.chain ≡ None → ExecOk log ls met rounds e (stood_on x place now None)
  undoes is = record {
    known = within;
    stands = refl;
    below = omega (arith, ok.below, rise.0);
    level = inl refl;
    have_known = ok.have_known;
    have_chosen = ok.have_chosen;
    chain = tt;
    fate = λ epoch n previous t s. fates epoch n t (ok.fate epoch n previous t s);
  }
    where
      -- a member of the number that stands, of another token, from which a path leads to the state
      breaks : (g : TentativeView) (s : StateView) (n : ℕ) (t : token.Token) (epoch : ℕ) → In g x.chain → g.after.number ≡ now.n → Path met g.after s → s.token ≡ t → s.number ≡ n → To x.have [] epoch n t
      breaks g s n t epoch i number path a b = ⊎_elim
          (λ (z : now.n ≡ 0). absurd (omega (arith, z, number, (of_member g i).2)))
          (λ (l : (j : ℕ) × (slice_get log j ≡ Some (Commit now.n now.token))).
          broken g.after s now.token l.0 path a b (omega (arith, (of_member g i).2))
          (subst (λ (y : ℕ). slice_get log l.0 ≡ Some (Commit y now.token)) (sym number) l.1)
          (λ same. missed met rounds x.standing.epoch now x.have x.chain is g i number same))
          (last_commit log place within)

      member_fate : (m : TentativeView) (s : StateView) (epoch n : ℕ) (t : token.Token) → In m x.chain → m.after ≡ s → met s → s.token ≡ t → s.number ≡ n → s.epoch ≡ epoch → To x.have [] epoch n t
      member_fate m s epoch n t i same at a b d =
          let mine = of_member m i in
          let number : m.after.number ≡ s.number = ap (λ (y : StateView). y.number) same in
          let of_epoch : m.after.epoch ≡ s.epoch = ap (λ (y : StateView). y.epoch) same in
          ⊎_elim
          (λ (one : x.standing.epoch ≡ now.epoch). ⊎_elim
          (λ (low : n < now.n). passed low)
          (λ (high : now.n ≤ n).
          let g = between met rounds x.standing.epoch now x.have x.chain now.n m ok.chain i (omega (arith, mine.0, grows one)) (omega (arith, high, number, b)) in
          breaks g.0 s n t epoch g.1 g.2 (subst (Path met g.0.after) same g.3) a b)
          (below_or n now.n))
          (λ (apart : x.standing.epoch ≡ now.epoch → ⊥). ⊎_elim
          (λ (low : n < now.n). passed low)
          (λ (high : now.n ≤ n). ⊎_elim
          (λ (level : n ≡ now.n). breaks m s n t epoch i (omega (arith, level, number, b)) (subst (Path met m.after) same (start (subst met (sym same) at))) a b)
          (λ (more : n ≡ now.n → ⊥). rolled place within (omega (arith, high, more)) (omega (arith, mine.1, of_epoch, d, rise.1, apart)))
          (cases_eq n now.n))
          (below_or n now.n))
          (cases_eq x.standing.epoch now.epoch)
        where
          below_or : (p q : ℕ) → (p < q) ⊎ (q ≤ p)
          below_or p zero = inr (omega arith)
          below_or zero (suc q) = inl (omega arith)
          below_or (suc p) (suc q) = ⊎_elim (λ l. inl (omega (arith, l))) (λ r. inr (omega (arith, r))) (below_or p q)

      fates : (epoch n : ℕ) (t : token.Token) → Fate log met x epoch n t → To x.have [] epoch n t
      fates epoch n t (kept s (inl h) m a b d) = kept s (inl h) m a b d
      fates epoch n t (kept s (inr h) m a b d) = member_fate h.0 s epoch n t h.1 h.2 m a b d
      fates epoch n t (passed h) = passed (omega (arith, h, rise.0))
      fates epoch n t (rolled k h a b) = rolled k h a b
      fates epoch n t (broken g s other i p a b z q r) = broken g s other i p a b z q r

  pub stands_ok : ExecOk log ls met rounds e (durable_stood x place now)
  stands_ok = by (reached_in now x.have x.chain) refl
    where
      by : (o : Option (StateView × List TentativeView)) → reached_in now x.have x.chain ≡ o → ExecOk log ls met rounds e (stood_on x place now o)
      by None is = undoes is
      by (Some c) is = commits_up c is
