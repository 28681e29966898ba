-- What a leader may propose is safe and backed.
use Rattle.std.proofs.Common.{◌≡◌, ℕ, zero, suc, ◌+◌, ◌%◌, ◌<◌, ◌≤◌, ◌⊎◌, Bool, true, false, not, ◌&&◌, List, Option, Some, None, IsTrue, is_some, inl, inr, refl, sym, ◌∙◌, ap, subst, ⊎_elim, arith, nat_le, if◌then◌else◌, option_and_then}
use Rattle.std.specs.Prelude.{◌==◌}
use Rattle.std.specs.List.{list_all}
use Rattle.std.specs.Option.{option_map_or}
use Rattle.std.proofs.lemmas.Bool.{and_parts, eqb-true, eq-eqb, leb-true, leb-false, not-true, cond_both, cases_eq, false≢true}
use Rattle.decrees.specs.declared.decree.Decree.{Decree}
use Rattle.decrees.specs.declared.decree.Decree.TheVariants as decree
use Rattle.decrees.specs.declared.ballot.Ballot.TheVariants as ballot
use Rattle.decrees.specs.declared.ballot.Ballot.TheVariants.{Accept}
use Rattle.decrees.specs.declared.node.Node.TheVariants.{Verifier}
use Rattle.decrees.specs.declared.votes.Verdict.{Verdict}
use Rattle.decrees.specs.declared.votes.Verdict.TheVariants as verdict_variant
use Rattle.decrees.specs.Count.{member_count, is_quorum}
use Rattle.decrees.specs.Votes.{verdict}
use Rattle.view_change.specs.declared.promises.Promise.{Promise}
use Rattle.view_change.specs.declared.promises.Choice.TheVariants as choice_variant
use Rattle.view_change.specs.Promises.{promise_of, has_promised, accepted_at, higher, best_below, is_enough, choice}
use Rattle.verifier.specs.State.{known, stands, VerifierState, next_place}
use Rattle.verifier.specs.Lines.{by_verdict, by_choice, proposal}
use Rattle.agreement_laws.specs.Letters.{Letters, Sent, Backed, HasTokens}
use Rattle.decrees.specs.declared.standing.Standing.{Standing}
use Rattle.agreement_laws.proofs.Logs.{log_stands}
use Rattle.agreement_laws.proofs.Letters.{NoHigher, Repeats, Promises, Safe, LettersOk}
use Rattle.agreement_laws.proofs.Each.{Each, Each-both, Each-from_all, found_first}
use Rattle.agreement_laws.proofs.Stand.{Heard, Stand}
use Rattle.agreement_laws.proofs.Tokens.{verdict_has_tokens}

NoHigher-first : (x a b : Option (ℕ × Decree)) → NoHigher x a → NoHigher x (higher a b)
NoHigher-first None a b h = tt
NoHigher-first (Some x) None b h = absurd h
NoHigher-first (Some x) (Some a) None h = h
NoHigher-first (Some x) (Some a) (Some b) h = cond_both (nat_le b.0 a.0) (Some a) (Some b) (λ y. NoHigher (Some x) y) (λ e. h) (λ e. let above = leb-false b.0 a.0 e in omega (arith, h, above))

NoHigher-second : (a b : Option (ℕ × Decree)) → NoHigher b (higher a b)
NoHigher-second a None = tt
NoHigher-second None (Some b) = omega arith
NoHigher-second (Some a) (Some b) = cond_both (nat_le b.0 a.0) (Some a) (Some b) (λ y. NoHigher (Some b) y) (λ e. leb-true b.0 a.0 e) (λ e. omega arith)

higher-one : (a b : Option (ℕ × Decree)) (c : ℕ × Decree) → higher a b ≡ Some c → (a ≡ Some c) ⊎ (b ≡ Some c)
higher-one None b c e = inr e
higher-one (Some a) None c e = inl e
higher-one (Some a) (Some b) c h = cond_both (nat_le b.0 a.0) (Some a) (Some b) (λ x. x ≡ Some c → (Some a ≡ Some c) ⊎ (Some b ≡ Some c)) (λ _ e. inl e) (λ _ e. inr e) h

accepted_at-same : (known : ℕ) (p : Promise) → p.known ≡ known → accepted_at known p ≡ p.accepted
accepted_at-same known p e = ap (λ (b : Bool). if b then p.accepted else None) (eq-eqb p.known known e)

accepted_at-some : (known : ℕ) (p : Promise) (b : ℕ × Decree) → accepted_at known p ≡ Some b → (p.known ≡ known) × (p.accepted ≡ Some b)
accepted_at-some known p b = cond_both (p.known == known) p.accepted None (λ x. x ≡ Some b → (p.known ≡ known) × (p.accepted ≡ Some b)) (λ e h. (eqb-true p.known known e, h)) (λ e h. absurd (cc))

-- no first promise of a sender below the bound has an acceptance above the best
best-bounds : (known : ℕ) (ps : List Promise) (n v : ℕ) (p : Promise) → v < n → promise_of ps v ≡ Some p → p.known ≡ known → NoHigher p.accepted (best_below known ps n)
best-bounds known ps zero v p below is same = absurd (omega arith)
best-bounds known ps (suc n) v p below is same = ⊎_elim
    (λ (e : v ≡ n).
    let here_is : option_and_then (accepted_at known) (promise_of ps n) ≡ p.accepted = ap (option_and_then (accepted_at known)) (subst (λ z. promise_of ps z ≡ Some p) e is) ∙ accepted_at-same known p same in
    subst (λ x. NoHigher x (best_below known ps (suc n))) here_is (NoHigher-second (best_below known ps n) (option_and_then (accepted_at known) (promise_of ps n))))
    (λ (apart : v ≡ n → ⊥). NoHigher-first p.accepted (best_below known ps n) (option_and_then (accepted_at known) (promise_of ps n)) (best-bounds known ps n v p (less apart) is same))
    (cases_eq v n)
  where
    less : (v ≡ n → ⊥) → v < n
    less apart = omega (arith, below, apart)

-- the best is that of a first promise
best-from : (known : ℕ) (ps : List Promise) (n : ℕ) (b : ℕ × Decree) → best_below known ps n ≡ Some b → (v : ℕ) × (p : Promise) × (promise_of ps v ≡ Some p) × (p.known ≡ known) × (p.accepted ≡ Some b)
best-from known ps zero b e = absurd (cc)
best-from known ps (suc n) b e = ⊎_elim
    (λ l. best-from known ps n b l)
    (λ r. by (promise_of ps n) refl r)
    (higher-one (best_below known ps n) (option_and_then (accepted_at known) (promise_of ps n)) b e)
  where
    by : (o : Option Promise) → promise_of ps n ≡ o → option_and_then (accepted_at known) o ≡ Some b → (v : ℕ) × (p : Promise) × (promise_of ps v ≡ Some p) × (p.known ≡ known) × (p.accepted ≡ Some b)
    by None is h = absurd (cc)
    by (Some p) is h = let a = accepted_at-some known p b h in (n, p, is, a.0, a.1)

-- the accepted decree of the highest view among the promises
abbrev best_of : ℕ → VerifierState → Option (ℕ × Decree)
best_of u s = best_below (known s) s.promises (member_count u)

-- what may be proposed if nothing was accepted
abbrev fresh_of : ℕ → VerifierState → Option Decree
fresh_of u s = by_verdict ((stands s).n + 1) s.doubt (verdict u (stands s) s.votes)

-- where a decree to propose comes from
abbrev pub Source : ℕ → VerifierState → Decree → Option (ℕ × Decree) → Type 0
Source u s d (Some b) = d ≡ b.1
Source u s d None = fresh_of u s ≡ Some d

-- what it is that lets a leader propose
pub record MayPropose (u : ℕ) (s : VerifierState) (d : Decree) : Type 0 where
  pub leads : s.leads ≡ true
  pub fresh : s.proposed ≡ false
  pub enough : IsTrue (is_quorum u (has_promised s.promises))
  pub level : Each (λ p. p.known ≤ (known s)) s.promises
  pub source : Source u s d (best_of u s)

pub MayPropose-from : (u : ℕ) (s : VerifierState) (d : Decree) → proposal u s ≡ Some d → MayPropose u s d
MayPropose-from u s d = cond_both (s.leads && not s.proposed) (by_choice (choice u (known s) s.promises) (fresh_of u s)) None (λ o. o ≡ Some d → MayPropose u s d)
    (λ free. cond_both (is_enough u (known s) s.promises) (option_map_or (λ b. choice_variant.Must b.1) (best_of u s) choice_variant.Free) choice_variant.Wait (λ c. by_choice c (fresh_of u s) ≡ Some d → MayPropose u s d)
    (λ enough is.
    let a = and_parts s.leads (not s.proposed) free in
    let b = and_parts (is_quorum u (has_promised s.promises)) (list_all (λ p. nat_le p.known (known s)) s.promises) enough in
    record {
      leads = a.0;
      fresh = not-true s.proposed a.1;
      enough = b.0;
      level = Each-from_all (λ p. nat_le p.known (known s)) (λ p. p.known ≤ (known s)) (λ p h. leb-true p.known (known s) h) s.promises b.1;
      source = sourced (best_of u s) is;
    })
    (λ _ is. absurd (cc)))
    (λ _ is. absurd (cc))
  where
    sourced : (o : Option (ℕ × Decree)) → by_choice (option_map_or (λ b. choice_variant.Must b.1) o choice_variant.Free) (fresh_of u s) ≡ Some d → Source u s d o
    sourced None is = is
    sourced (Some b) is = cc

has-one : (o : Option Promise) → is_some o ≡ true → (p : Promise) × (o ≡ Some p)
has-one None e = absurd (false≢true e)
has-one (Some p) e = (p, refl)

module _ {u : ℕ} {ls : Letters} {v : ℕ} {s : VerifierState} {d : Decree} (ok : LettersOk u ls) (st : Stand u ls v s) (may : MayPropose u s d) where
  -- a decree of the best promise was proposed in its view, for the next place
  was_proposed : (b : ℕ × Decree) → best_of u s ≡ Some b → (b.0 ≤ s.view) × ((l : ℕ) × Sent ls (Verifier l) (Accept b.0 (next_place s) b.1))
  was_proposed b is =
      let f = best-from (known s) s.promises (member_count u) b is in
      let p = f.1 in
      let h = found_first (λ (q : Promise). q.from == f.0) (Heard ls s.view) s.promises p f.2 (st.grounds.heard may.leads) in
      ⊎_elim
      (λ (z : (s.view ≡ 0) × (p.accepted ≡ None)). let none = z.1 in let some = f.4 in absurd (cc))
      (λ (sent : Sent ls (Verifier p.from) (ballot.Promise s.view p.known p.accepted)).
      let same : Sent ls (Verifier p.from) (ballot.Promise s.view (known s) (Some b)) = subst (λ (y : ℕ × Option (ℕ × Decree)). Sent ls (Verifier p.from) (ballot.Promise s.view y.0 y.1)) (λ i. (f.3 i, f.4 i)) sent in
      ok.promised p.from s.view (known s) b.0 b.1 same)
      h.1

  module _ (up : s.view ≡ 0 → ⊥) where
    asked_one : (x : ℕ) → x < member_count u → has_promised s.promises x ≡ true → Promises ls s.view (next_place s) (best_of u s) x
    asked_one x below e =
        let one = has-one (promise_of s.promises x) e in
        let p = one.0 in
        let h = found_first (λ (q : Promise). q.from == x) (λ q. Heard ls s.view q × (q.known ≤ (known s))) s.promises p one.1 (Each-both (Heard ls s.view) (λ q. q.known ≤ (known s)) s.promises (st.grounds.heard may.leads) may.level) in
        let sent : Sent ls (Verifier p.from) (ballot.Promise s.view p.known p.accepted) = ⊎_elim (λ z. absurd (up z.0)) (λ y. y) h.1.0 in (
          p.known,
          p.accepted,
          subst (λ y. Sent ls (Verifier y) (ballot.Promise s.view p.known p.accepted)) (eqb-true p.from x h.0) sent,
          omega (arith, h.1.1),
          λ same. best-bounds (known s) s.promises (member_count u) x p below one.1 (omega (arith, same)),
        )

    repeats : (o : Option (ℕ × Decree)) → best_of u s ≡ o → Source u s d o → Repeats ls s.view (next_place s) d o
    repeats None is source = tt
    repeats (Some b) is source =
        let was = was_proposed b is in
        let l = was.1.0 in
        let apart : (b.0 ≡ s.view → ⊥) = λ same.
        let mine : l ≡ v = sym (ok.leader l b.0 (next_place s) b.1 was.1.1) ∙ (ap (λ y. y % member_count u) same ∙ st.grounds.leads may.leads) in
        ⊎_elim
        (λ (q : next_place s ≤ (known s)). omega arith)
        (λ (q : (next_place s ≡ next_place s) × (s.proposed ≡ true)). absurd (false≢true (sym may.fresh ∙ q.1)))
        ((st.owns.proposed b.0 (next_place s) b.1 (subst (λ y. Sent ls (Verifier y) (Accept b.0 (next_place s) b.1)) mine was.1.1)).1 may.leads same) in
        (omega (arith, was.0, apart), source, was.1)

pub proposal_is_safe : {u : ℕ} {ls : Letters} {v : ℕ} {s : VerifierState} {d : Decree} → LettersOk u ls → Stand u ls v s → MayPropose u s d → (s.view ≡ 0) ⊎ Safe u ls s.view (next_place s) d
proposal_is_safe {u} {ls} {v} {s} {d} ok st may = ⊎_elim inl
    (λ (up : s.view ≡ 0 → ⊥). inr (record {
      best = best_of u s;
      asked = record { member = has_promised s.promises; enough = may.enough; each = asked_one ok st may up };
      same = repeats ok st may up (best_of u s) refl may.source;
    }))
    (cases_eq s.view 0)

-- a Commit by the votes is of the next number and has its tokens
by_votes : {u : ℕ} {ls : Letters} {v : ℕ} (s : VerifierState) (d : Decree) → Stand u ls v s → (x : Verdict) → verdict u (stands s) s.votes ≡ x → by_verdict ((stands s).n + 1) s.doubt x ≡ Some d → Backed u ls (next_place s) d
by_votes {u} {ls} {v} s d st (verdict_variant.Commit t) is e =
    let same : decree.Commit ((stands s).n + 1) t ≡ d = cc in
    let all = log_stands st.grounds.log in
    subst (Backed u ls (next_place s)) same (record { before = all.before; all = let k = all.all in omega (arith, k); chosen = all.chosen; rests = subst (λ (z : Standing). HasTokens u ls z ((stands s).n + 1) t) (sym all.stands) (verdict_has_tokens (stands s) s.votes t st.grounds.voted is) })
by_votes {u} {ls} {v} s d st verdict_variant.Hopeless is e =
    let same : decree.Rollback ≡ d = cc in
    let all = log_stands st.grounds.log in
    subst (Backed u ls (next_place s)) same (record { before = all.before; all = let k = all.all in omega (arith, k); chosen = all.chosen; rests = tt })
by_votes {u} {ls} {v} s d st verdict_variant.Wait is e = cond_both s.doubt (Some decree.Rollback) None (λ o. o ≡ Some d → Backed u ls (next_place s) d)
    (λ _ h. let same : decree.Rollback ≡ d = cc in let all = log_stands st.grounds.log in subst (Backed u ls (next_place s)) same (record { before = all.before; all = let k = all.all in omega (arith, k); chosen = all.chosen; rests = tt }))
    (λ _ h. absurd (cc))
    e

pub proposal_is_backed : {u : ℕ} {ls : Letters} {v : ℕ} {s : VerifierState} {d : Decree} → LettersOk u ls → Stand u ls v s → MayPropose u s d → Backed u ls (next_place s) d
proposal_is_backed {u} {ls} {v} {s} {d} ok st may = by (best_of u s) refl may.source
  where
    by : (o : Option (ℕ × Decree)) → best_of u s ≡ o → Source u s d o → Backed u ls (next_place s) d
    by None is source = by_votes s d st (verdict u (stands s) s.votes) refl source
    by (Some b) is source =
        let was = was_proposed ok st may b is in
        subst (Backed u ls (next_place s)) (sym source) (ok.backed was.1.0 b.0 (next_place s) b.1 was.1.1)
