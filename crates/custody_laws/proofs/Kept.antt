-- What an executor has said of a token, it keeps, or a decree that was chosen says why not.
use Rattle.std.proofs.Common.{◌≡◌, ℕ, zero, suc, ◌+◌, ◌<◌, ◌≤◌, ◌⊎◌, true, List, [], ◌∷◌, ◌++◌, length, take, Some, slice_get, inl, inr, refl, sym, ◌∙◌, ap, subst, ⊎_elim, arith}
use Rattle.std.proofs.lemmas.Option.{slice_get_within}
use Rattle.std.specs.Prelude.{◌==◌, ◌&&◌, Contains}
use Rattle.std.proofs.lemmas.Slice.Eq.{bytes_eq-Decides}
use Rattle.std.proofs.lemmas.List.Elements.{Contains-append_left}
use Rattle.std.proofs.lemmas.Bool.{cond_both, and_parts, and_cases, eqb-true, false≢true, eq-eqb}
use Rattle.token.specs.declared.Token as token
use Rattle.decrees.specs.declared.decree.Decree.{Decree}
use Rattle.decrees.specs.declared.decree.Decree.TheVariants.{Commit, Rollback}
use Rattle.decrees.specs.declared.standing.Standing.{Standing}
use Rattle.decrees.specs.declared.ballot.Ballot.TheVariants.{Token}
use Rattle.decrees.specs.declared.node.Node.TheVariants.{Executor}
use Rattle.decrees.specs.Standing.{standing, standing_after}
use Rattle.decrees.specs.Votes.{token_eq}
use Rattle.states.specs.State.{StateView}
use Rattle.executor.specs.Work.{TentativeView}
use Rattle.agreement_laws.specs.Letters.{Letters, Sent}
use Rattle.run_laws.specs.Met.{IsKnown}
use Rattle.run_laws.specs.Run.{Executed}
use Rattle.run_laws.specs.Chosen.{IsCommitted}
use Rattle.rollback.specs.Chain.{tip}
use Rattle.custody_laws.specs.Durable.{Durable, durable_after, committed, executed_of, IsMember, In, first, later, Keeps}
use Rattle.custody_laws.proofs.Log.{take_front, get_front, length_push, stands_next, Numbered, last_commit}

pub In-left : {X : Type 0} {x : X} (xs ys : List X) → In x xs → In x (xs ++ ys)
In-left [] ys h = elim h [ ]
In-left (y ∷ xs) ys (first e) = first e
In-left (y ∷ xs) ys (later h) = later (In-left xs ys h)

abbrev pub Met : Type 1
Met = StateView → Type 0

abbrev pub Rounds : Type 1
Rounds = Executed → Type 0

module _ (met : StateView → Type 0) where
  -- states that lead from f to s, each over the one before
  pub data Path (f : StateView) : StateView → Type 0 where
    start : met f → Path f f
    step : {t s : StateView} → Path f t → met s → s.previous ≡ t.token → s.number ≡ t.number + 1 → Path f s

pub Path-more : (met more : StateView → Type 0) → ((s : StateView) → met s → more s) → {f s : StateView} → Path met f s → Path more f s
Path-more met more h (start m) = start (h _ m)
Path-more met more h (step p m e n) = step (Path-more met more h p) (h _ m) e n

pub Path-rises : (met : StateView → Type 0) {f s : StateView} → Path met f s → f.number ≤ s.number
Path-rises met (start m) = omega arith
Path-rises met (step p m e n) = omega (arith, Path-rises met p, n)

pub member_number : {epoch : ℕ} {base : StateView} {t : TentativeView} → IsMember epoch base t → t.after.number ≡ base.number + 1
member_number m = m.is_round.next

pub member_previous : {epoch : ℕ} {base : StateView} {t : TentativeView} → IsMember epoch base t → t.after.previous ≡ base.token
member_previous m = m.is_round.round.previous

pub member_epoch : {epoch : ℕ} {base : StateView} {t : TentativeView} → IsMember epoch base t → t.after.epoch ≡ epoch
member_epoch m = m.is_round.round.epoch ∙ m.of_epoch

-- each member over the one before
abbrev pub Chain : (StateView → Type 0) → (Executed → Type 0) → ℕ → StateView → List TentativeView → Type 0
Chain met rounds epoch base [] = Unit {0}
Chain met rounds epoch base (t ∷ ts) = (member : IsMember epoch base t) × met t.after × rounds (executed_of member.ordered t) × Chain met rounds epoch t.after ts

pub Chain-more : (met more : StateView → Type 0) (rounds new : Executed → Type 0) → ((s : StateView) → met s → more s) → ((e : Executed) → rounds e → new e)
    → (epoch : ℕ) (base : StateView) (ts : List TentativeView) → Chain met rounds epoch base ts → Chain more new epoch base ts
Chain-more met more rounds new h k epoch base [] c = tt
Chain-more met more rounds new h k epoch base (t ∷ ts) c = (c.0, h t.after c.1, k (executed_of c.0.ordered t) c.2, Chain-more met more rounds new h k epoch t.after ts c.3)

module _ (met : StateView → Type 0) (rounds : Executed → Type 0) where
  pub Chain-push : (epoch : ℕ) (base : StateView) (ts : List TentativeView) (t : TentativeView) → Chain met rounds epoch base ts → (member : IsMember epoch (tip base ts) t) → met t.after → rounds (executed_of member.ordered t)
      → Chain met rounds epoch base (ts ++ t ∷ [])
  Chain-push epoch base [] t h member at known = (member, at, known, tt)
  Chain-push epoch base (x ∷ ts) t h member at known = (h.0, h.1, h.2, Chain-push epoch x.after ts t h.3 member at known)

  -- a member, with the state that it is over
  pub record Placed (epoch : ℕ) (base : StateView) (t : TentativeView) : Type 0 where
    pub old : StateView
    pub member : IsMember epoch old t
    pub old_known : (old ≡ base) ⊎ met old
    pub is_met : met t.after
    pub is_known : rounds (executed_of member.ordered t)
    pub above : base.number < t.after.number

  pub Chain-in : (epoch : ℕ) (base : StateView) (ts : List TentativeView) {t : TentativeView} → Chain met rounds epoch base ts → In t ts → Placed epoch base t
  Chain-in epoch base [] h i = elim i [ ]
  Chain-in epoch base (x ∷ ts) {t} h (first e) =
      subst (Placed epoch base) e (record { old = base; member = h.0; old_known = inl refl; is_met = h.1; is_known = h.2; above = omega (arith, member_number h.0) })
  Chain-in epoch base (x ∷ ts) {t} h (later i) =
      let r = Chain-in epoch x.after ts h.3 i in
      record {
        old = r.old;
        member = r.member;
        old_known = inr (⊎_elim (λ (e : r.old ≡ x.after). subst met (sym e) h.1) (λ m. m) r.old_known);
        is_met = r.is_met;
        is_known = r.is_known;
        above = omega (arith, r.above, member_number h.0);
      }

  pub Chain-path : (epoch : ℕ) (f base : StateView) (ts : List TentativeView) {t : TentativeView} → Chain met rounds epoch base ts → Path met f base → In t ts → Path met f t.after
  Chain-path epoch f base [] h p i = elim i [ ]
  Chain-path epoch f base (x ∷ ts) h p (first e) = subst (λ (y : TentativeView). Path met f y.after) e (step p h.1 (member_previous h.0) (member_number h.0))
  Chain-path epoch f base (x ∷ ts) h p (later i) = Chain-path epoch f x.after ts h.3 (step p h.1 (member_previous h.0) (member_number h.0)) i

-- what became of the state of a token that was said
pub data Fate (log : List Decree) (met : StateView → Type 0) (x : Durable) (epoch n : ℕ) (t : token.Token) : Type 0 where
  kept : (s : StateView) → Keeps x s → met s → s.token ≡ t → s.number ≡ n → s.epoch ≡ epoch → Fate log met x epoch n t
  passed : n < x.standing.n → Fate log met x epoch n t
  rolled : (k : ℕ) → k ≤ length log → (standing (take k log)).n < n → epoch < (standing (take k log)).epoch → Fate log met x epoch n t
  broken : (f s : StateView) (other : token.Token) (i : ℕ) → Path met f s → s.token ≡ t → s.number ≡ n → 0 < f.number → slice_get log i ≡ Some (Commit f.number other) → (f.token ≡ other → ⊥) → Fate log met x epoch n t

pub record ExecOk (log : List Decree) (ls : Letters) (met : StateView → Type 0) (rounds : Executed → Type 0) (e : ℕ) (x : Durable) : Type 0 where
  pub known : x.known ≤ length log
  pub stands : x.standing ≡ standing (take x.known log)
  pub below : x.have.number ≤ x.standing.n
  pub level : (x.chain ≡ []) ⊎ (x.have.number ≡ x.standing.n)
  pub have_known : IsKnown met x.have
  pub have_chosen : IsCommitted log x.have
  pub chain : Chain met rounds x.standing.epoch x.have x.chain
  pub fate : (epoch n : ℕ) (previous t : token.Token) → Sent ls (Executor e) (Token epoch n previous t) → Fate log met x epoch n t

-- more states met, more rounds made
pub Fate-met : (log : List Decree) (met more : StateView → Type 0) → ((s : StateView) → met s → more s) → (x : Durable) (epoch n : ℕ) (t : token.Token) → Fate log met x epoch n t → Fate log more x epoch n t
Fate-met log met more h x epoch n t (kept s k at a b d) = kept s k (h s at) a b d
Fate-met log met more h x epoch n t (passed l) = passed l
Fate-met log met more h x epoch n t (rolled k l a b) = rolled k l a b
Fate-met log met more h x epoch n t (broken f s other i p a b z g d) = broken f s other i (Path-more met more h p) a b z g d

pub ExecOk-met : {log : List Decree} {ls : Letters} {met : StateView → Type 0} {rounds : Executed → Type 0} {e : ℕ} {x : Durable} (more : StateView → Type 0) (new : Executed → Type 0)
    → ((s : StateView) → met s → more s) → ((e : Executed) → rounds e → new e) → ExecOk log ls met rounds e x → ExecOk log ls more new e x
ExecOk-met {log} {ls} {met} {rounds} {e} {x} more new h k ok = record {
  known = ok.known;
  stands = ok.stands;
  below = ok.below;
  level = ok.level;
  have_known = ⊎_elim inl (λ m. inr (h x.have m)) ok.have_known;
  have_chosen = ok.have_chosen;
  chain = Chain-more met more rounds new h k x.standing.epoch x.have x.chain ok.chain;
  fate = λ epoch n previous t s. Fate-met log met more h x epoch n t (ok.fate epoch n previous t s);
}

contains_front : (xs ys : List Decree) (d : Decree) → Contains xs d → Contains (xs ++ ys) d
contains_front xs ys d c = Contains-append_left xs ys d c

-- one more decree is chosen
pub Fate-log : (log : List Decree) (met : StateView → Type 0) (d : Decree) (x : Durable) (epoch n : ℕ) (t : token.Token) → Fate log met x epoch n t → Fate (log ++ d ∷ []) met x epoch n t
Fate-log log met d x epoch n t (kept s k at a b f) = kept s k at a b f
Fate-log log met d x epoch n t (passed h) = passed h
Fate-log log met d x epoch n t (rolled k h a b) =
    let same = take_front log (d ∷ []) k h in
    rolled k (omega (arith, length_push log d)) (subst (λ l. (standing l).n < n) (sym same) a) (subst (λ l. epoch < (standing l).epoch) (sym same) b)
Fate-log log met d x epoch n t (broken f s other i p a b z g q) = broken f s other i p a b z (get_front log (d ∷ []) i (Commit f.number other) g) q

pub ExecOk-log : {log : List Decree} {ls : Letters} {met : StateView → Type 0} {rounds : Executed → Type 0} {e : ℕ} {x : Durable} (d : Decree) → ExecOk log ls met rounds e x → ExecOk (log ++ d ∷ []) ls met rounds e x
ExecOk-log {log} {ls} {met} {rounds} {e} {x} d ok = record {
  known = omega (arith, ok.known, length_push log d);
  stands = ok.stands ∙ ap standing (sym (take_front log (d ∷ []) x.known ok.known));
  below = ok.below;
  level = ok.level;
  have_known = ok.have_known;
  have_chosen = ⊎_elim inl (λ c. inr (contains_front log (d ∷ []) (Commit x.have.number x.have.token) c)) ok.have_chosen;
  chain = ok.chain;
  fate = λ epoch n previous t s. Fate-log log met d x epoch n t (ok.fate epoch n previous t s);
}

none_in : {t : TentativeView} → In t [] → ⊥
none_in i = elim i [ ]

-- a decree at an index is among them
among_at : (log : List Decree) (i : ℕ) (d : Decree) → slice_get log i ≡ Some d → Contains log d
among_at [] i d e = absurd (cc)
among_at (y ∷ xs) zero d e = (0, omega arith, (let same : y ≡ d = cc in same))
among_at (y ∷ xs) (suc i) d e = let r = among_at xs i d e in (suc r.0, omega (arith, r.1), r.2)

pub stands_chosen : (log : List Decree) (k : ℕ) (s : StateView) → k ≤ length log → s.number ≡ (standing (take k log)).n → s.token ≡ (standing (take k log)).token → IsCommitted log s
stands_chosen log k s low n t = ⊎_elim
    (λ (z : (standing (take k log)).n ≡ 0). inl (n ∙ z))
    (λ (l : (i : ℕ) × (slice_get log i ≡ Some (Commit (standing (take k log)).n (standing (take k log)).token))).
    inr (subst (λ (d : ℕ × token.Token). Contains log (Commit d.0 d.1)) (λ i. (sym n i, sym t i)) (among_at log l.0 (Commit (standing (take k log)).n (standing (take k log)).token) l.1)))
    (last_commit log k low)

-- what the next decree makes of an executor
module _ {log : List Decree} {ls : Letters} {met : StateView → Type 0} {rounds : Executed → Type 0} {e : ℕ} {x : Durable} (ok : ExecOk log ls met rounds e x) (numbered : Numbered log) where
  pub undone_rollback : slice_get log x.known ≡ Some Rollback → ExecOk log ls met rounds e (durable_after x Rollback x.have [])
  undone_rollback at =
      let next = stands_next log x.known Rollback at in
      let same : standing (take (suc x.known) log) ≡ standing_after x.standing Rollback = next ∙ ap (λ st. standing_after st Rollback) (sym ok.stands) in
      record {
        known = slice_get_within log x.known Rollback at;
        stands = sym same;
        below = ok.below;
        level = inl refl;
        have_known = ok.have_known;
        have_chosen = ok.have_chosen;
        chain = tt;
        fate = λ epoch n previous t s. fates same epoch n t (ok.fate epoch n previous t s);
      }
    where
      fates : standing (take (suc x.known) log) ≡ standing_after x.standing Rollback → (epoch n : ℕ) (t : token.Token) → Fate log met x epoch n t → Fate log met (durable_after x Rollback x.have []) epoch n t
      fates same epoch n t (kept s (inl h) m a b d) = kept s (inl h) m a b d
      fates same epoch n t (kept s (inr h) m a b d) =
          let r = Chain-in met rounds x.standing.epoch x.have x.chain ok.chain h.1 in
          let number : h.0.after.number ≡ s.number = ap (λ (y : StateView). y.number) h.2 in
          let of_epoch : h.0.after.epoch ≡ s.epoch = ap (λ (y : StateView). y.epoch) h.2 in
          ⊎_elim
          (λ (none : x.chain ≡ []). absurd (none_in (subst (In h.0) none h.1)))
          (λ (level : x.have.number ≡ x.standing.n). rolled (suc x.known) (slice_get_within log x.known Rollback at)
          (omega (arith, ap (λ (y : Standing). y.n) same, r.above, number, b, level))
          (omega (arith, ap (λ (y : Standing). y.epoch) same, member_epoch r.member, of_epoch, d)))
          ok.level
      fates same epoch n t (passed h) = passed h
      fates same epoch n t (rolled k h a b) = rolled k h a b
      fates same epoch n t (broken f s other i p a b z g q) = broken f s other i p a b z g q

  pub undone_commit : (n : ℕ) (t : token.Token) → slice_get log x.known ≡ Some (Commit n t) → ExecOk log ls met rounds e (committed x n t x.chain)
  undone_commit n t at = by x.chain refl
    where
      same : standing (take (suc x.known) log) ≡ standing_after x.standing (Commit n t)
      same = stands_next log x.known (Commit n t) at ∙ ap (λ st. standing_after st (Commit n t)) (sym ok.stands)

      next : n ≡ suc x.standing.n
      next = numbered.next x.known n t at ∙ ap (λ (st : Standing). suc st.n) (sym ok.stands)

      among : (f : TentativeView) (rest : List TentativeView) {m : TentativeView} → Chain met rounds x.standing.epoch x.have (f ∷ rest) → In m (f ∷ rest) → Path met f.after m.after
      among f rest chain (first e) = subst (λ (y : TentativeView). Path met f.after y.after) e (start chain.1)
      among f rest chain (later i) = Chain-path met rounds x.standing.epoch f.after f.after rest chain.3 (start chain.1) i

      -- the chain is undone: its members are broken by this Commit, or there are none
      fates : (ms : List TentativeView) → x.chain ≡ ms → ((m : TentativeView) (rest : List TentativeView) → ms ≡ m ∷ rest → (m.after.number ≡ n → m.after.token ≡ t → ⊥)) → (epoch number : ℕ) (said : token.Token)
          → Fate log met x epoch number said → Fate log met (durable_after x (Commit n t) x.have []) epoch number said
      fates ms is differs epoch number said (kept s (inl h) m a b d) = kept s (inl h) m a b d
      fates [] is differs epoch number said (kept s (inr h) m a b d) = absurd (none_in (subst (In h.0) is h.1))
      fates (f ∷ rest) is differs epoch number said (kept s (inr h) m a b d) =
          let chain : Chain met rounds x.standing.epoch x.have (f ∷ rest) = subst (Chain met rounds x.standing.epoch x.have) is ok.chain in
          let path : Path met f.after s = subst (Path met f.after) h.2 (among f rest chain (subst (In h.0) is h.1)) in
          let level : x.have.number ≡ x.standing.n = ⊎_elim (λ (none : x.chain ≡ []). let both : ◌≡◌ {A = List TentativeView} (f ∷ rest) [] = sym is ∙ none in absurd (cc)) (λ l. l) ok.level in
          let of_first : f.after.number ≡ n = omega (arith, member_number chain.0, next, level) in
          broken f.after s t x.known path a b (omega (arith, of_first, next)) (subst (λ y. slice_get log x.known ≡ Some (Commit y t)) (sym of_first) at) (λ z. differs f rest refl of_first z)
      fates ms is differs epoch number said (passed h) = passed (omega (arith, h, next))
      fates ms is differs epoch number said (rolled k h a b) = rolled k h a b
      fates ms is differs epoch number said (broken f s other i p a b z g q) = broken f s other i p a b z g q

      undone : (ms : List TentativeView) → x.chain ≡ ms → ((m : TentativeView) (rest : List TentativeView) → ms ≡ m ∷ rest → (m.after.number ≡ n → m.after.token ≡ t → ⊥)) → ExecOk log ls met rounds e (durable_after x (Commit n t) x.have [])
      undone ms is differs = record {
        known = slice_get_within log x.known (Commit n t) at;
        stands = sym same;
        below = omega (arith, ok.below, next);
        level = inl refl;
        have_known = ok.have_known;
        have_chosen = ok.have_chosen;
        chain = tt;
        fate = λ epoch number previous said s. fates ms is differs epoch number said (ok.fate epoch number previous said s);
      }

      -- the first member is committed
      moves : (m : TentativeView) (ms : List TentativeView) → x.chain ≡ m ∷ ms → m.after.number ≡ n → (epoch number : ℕ) (said : token.Token) → Fate log met x epoch number said → Fate log met (durable_after x (Commit n t) m.after ms) epoch number said
      moves m ms is of_first epoch number said (kept s (inl h) at a b d) = passed (omega (arith, b, ap (λ (y : StateView). y.number) h, of_first, next, ok.below))
      moves m ms is of_first epoch number said (kept s (inr h) at a b d) = there (subst (In h.0) is h.1)
        where
          there : In h.0 (m ∷ ms) → Fate log met (durable_after x (Commit n t) m.after ms) epoch number said
          there (first e) = kept s (inl (ap (λ (y : TentativeView). y.after) e ∙ h.2)) at a b d
          there (later i) = kept s (inr (h.0, i, h.2)) at a b d
      moves m ms is of_first epoch number said (passed h) = passed (omega (arith, h, next))
      moves m ms is of_first epoch number said (rolled k h a b) = rolled k h a b
      moves m ms is of_first epoch number said (broken f s other i p a b z g q) = broken f s other i p a b z g q

      by : (ms : List TentativeView) → x.chain ≡ ms → ExecOk log ls met rounds e (committed x n t ms)
      by [] is = undone [] is (λ m rest no_list. absurd (cc))
      by (m ∷ ms) is =
          cond_both ((m.after.number == n) && token_eq m.after.token t) (durable_after x (Commit n t) m.after ms) (durable_after x (Commit n t) x.have []) (ExecOk log ls met rounds e)
          (λ yes.
          let of_first = eqb-true m.after.number n (and_parts (m.after.number == n) (token_eq m.after.token t) yes).0 in
          let bytes : m.after.token.0 ≡ t.0 = (bytes_eq-Decides m.after.token.0 t.0).0 (and_parts (m.after.number == n) (token_eq m.after.token t) yes).1 in
          let of_token : m.after.token ≡ t = (λ i. record { 0 = bytes i }) in
          let chain : Chain met rounds x.standing.epoch x.have (m ∷ ms) = subst (Chain met rounds x.standing.epoch x.have) is ok.chain in
          record {
            known = slice_get_within log x.known (Commit n t) at;
            stands = sym same;
            below = omega (arith, of_first);
            level = inr of_first;
            have_known = inr chain.1;
            have_chosen = inr (subst (λ (d : ℕ × token.Token). Contains log (Commit d.0 d.1)) (λ i. (sym of_first i, sym of_token i)) (among_at log x.known (Commit n t) at));
            chain = chain.3;
            fate = λ epoch number previous said s. moves m ms is of_first epoch number said (ok.fate epoch number previous said s);
          })
          (λ f. undone (m ∷ ms) is (λ y rest eq of_first text.
          let one : m ≡ y = cc in
          let yes1 = eq-eqb m.after.number n (ap (λ (z : TentativeView). z.after.number) one ∙ of_first) in
          let yes2 : token_eq m.after.token t ≡ true = (bytes_eq-Decides m.after.token.0 t.0).1 (ap (λ (z : token.Token). z.0) (ap (λ (z : TentativeView). z.after.token) one ∙ text)) in
          ⊎_elim (λ a. absurd (false≢true (sym a ∙ yes1))) (λ b. absurd (false≢true (sym b ∙ yes2))) (and_cases (m.after.number == n) (token_eq m.after.token t) f)))
