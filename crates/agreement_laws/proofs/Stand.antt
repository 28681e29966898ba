-- What holds of one verifier and all letters, and how its own changes keep it.
use Rattle.std.proofs.Common.{◌≡◌, ◌≢◌, ℕ, ◌+◌, ◌%◌, ◌≤◌, ◌⊎◌, true, ◌++◌, length, Option, Some, None, inl, inr, sym, ◌∙◌, ap, subst, ⊎_elim, arith, ◌<◌, List, nat_le}
use Rattle.std.specs.Prelude.{◌==◌, nat_lt}
use Rattle.std.proofs.lemmas.Bool.{and_parts, eqb-true, false≢true, ltb-true, leb-true}
use Rattle.decrees.specs.declared.decree.Decree.{Decree}
use Rattle.decrees.specs.declared.ballot.Ballot.{Ballot}
use Rattle.decrees.specs.declared.ballot.Ballot.TheVariants as ballot
use Rattle.decrees.specs.declared.ballot.Ballot.TheVariants.{Accept, Accepted}
use Rattle.decrees.specs.declared.node.Node.TheVariants.{Executor, Verifier}
use Rattle.decrees.specs.Count.{member_count}
use Rattle.decrees.specs.declared.standing.Standing.{Standing}
use Rattle.decrees.specs.Standing.{standing_after}
use Rattle.decrees.specs.declared.start.Start.{Start}
use Rattle.agreement_laws.proofs.Logs.{LogOk, LogOk-learn, LogOk-trim, LogOk-from, length_trim}
use Rattle.decrees.specs.Votes.{Vote, is_open}
use Rattle.view_change.specs.declared.promises.Promise.{Promise}
use Rattle.verifier.specs.declared.tally.Tallied.{Tallied}
use Rattle.verifier.specs.State.{stands, known, VerifierState, next_place, down, in_view}
use Rattle.verifier.specs.Lines.{learn, may_trim, forgets, trimmed_log, gone_to}
use Rattle.agreement_laws.specs.Letters.{Letters, Sent, Chosen, StandsAt}
use Rattle.agreement_laws.proofs.Count.{Quorum-weaker}
use Rattle.agreement_laws.proofs.Places.{length_push}
use Rattle.agreement_laws.proofs.Each.{Each, Each-weaker, Each-filter}
use Rattle.agreement_laws.proofs.Letters.{Sent-left, Sent-split, AtLeast, Covers}

-- a promise that the leader keeps was sent (those of view 0 are none, and say nothing)
abbrev pub Heard : Letters → ℕ → Promise → Type 0
Heard ls view p = ((view ≡ 0) × (p.accepted ≡ None)) ⊎ Sent ls (Verifier p.from) (ballot.Promise view p.known p.accepted)

abbrev pub Told : Letters → ℕ → Tallied → Type 0
Told ls place t = Sent ls (Verifier t.from) (Accepted t.view place t.decree)

abbrev pub Cast : Letters → Vote → Type 0
Cast ls x = Sent ls (Executor x.0.executor) (ballot.Token x.0.epoch x.0.n (record { 0 = x.0.previous }) x.1)

-- what a verifier keeps has its grounds in letters
pub record Grounds (u : ℕ) (ls : Letters) (v : ℕ) (s : VerifierState) : Type 0 where
  pub log : LogOk u ls s.start s.log
  pub accepted_sent : (w : ℕ) (d : Decree) → s.accepted ≡ Some (w, d) → (w ≤ s.view) × ((l : ℕ) × Sent ls (Verifier l) (Accept w (next_place s) d))
  pub leads : s.leads ≡ true → s.view % member_count u ≡ v
  pub heard : s.leads ≡ true → Each (Heard ls s.view) s.promises
  pub tallied : Each (Told ls (next_place s)) s.tally
  pub voted : Each (Cast ls) s.votes

-- a verifier stands by the letters that it sent
pub record Owns (ls : Letters) (v : ℕ) (s : VerifierState) : Type 0 where
  pub kept : (w p : ℕ) (d : Decree) → Sent ls (Verifier v) (Accepted w p d) → (w ≤ s.view) × Covers (known s) s.accepted w p
  pub promised : (w k : ℕ) (a : Option (ℕ × Decree)) → Sent ls (Verifier v) (ballot.Promise w k a) → w ≤ s.view
  pub proposed : (w p : ℕ) (d : Decree) → Sent ls (Verifier v) (Accept w p d) → (w ≤ s.view) × (s.leads ≡ true → w ≡ s.view → (p ≤ (known s)) ⊎ ((p ≡ next_place s) × (s.proposed ≡ true)))

pub record Stand (u : ℕ) (ls : Letters) (v : ℕ) (s : VerifierState) : Type 0 where
  pub grounds : Grounds u ls v s
  pub owns : Owns ls v s

-- more letters keep the grounds
pub Chosen-more : {u : ℕ} {ls : Letters} (new : Letters) {p : ℕ} {d : Decree} → Chosen u ls p d → Chosen u (ls ++ new) p d
Chosen-more {u} {ls} new {p} {d} h = (h.0, Quorum-weaker (λ v s. Sent-left ls new s) h.1)

pub LogOk-more : {u : ℕ} {ls : Letters} (new : Letters) {start : Start} {log : List Decree} → LogOk u ls start log → LogOk u (ls ++ new) start log
LogOk-more new l = record { before = l.before; placed = l.placed; stood = l.stood; all = λ p d e. Chosen-more new (l.all p d e) }

pub StandsAt-more : {u : ℕ} {ls : Letters} (new : Letters) {place : ℕ} {s : Standing} → StandsAt u ls place s → StandsAt u (ls ++ new) place s
StandsAt-more new h = record { before = h.before; all = h.all; chosen = λ p d e. Chosen-more new (h.chosen p d e); stands = h.stands }

pub Grounds-more : {u : ℕ} {ls : Letters} (new : Letters) {v : ℕ} {s : VerifierState} → Grounds u ls v s → Grounds u (ls ++ new) v s
Grounds-more {u} {ls} new {v} {s} g = record {
  log = LogOk-more new g.log;
  accepted_sent = λ w d e. let h = g.accepted_sent w d e in (h.0, (h.1.0, Sent-left ls new h.1.1));
  leads = g.leads;
  heard = λ l. Each-weaker (Heard ls s.view) (Heard (ls ++ new) s.view) (λ p. ⊎_elim inl (λ h. inr (Sent-left ls new h))) s.promises (g.heard l);
  tallied = Each-weaker (Told ls (next_place s)) (Told (ls ++ new) (next_place s)) (λ t h. Sent-left ls new h) s.tally g.tallied;
  voted = Each-weaker (Cast ls) (Cast (ls ++ new)) (λ x h. Sent-left ls new h) s.votes g.voted;
}

-- of all verifiers only this one sent some of these letters
abbrev pub OnlyFrom : ℕ → Letters → Type 0
OnlyFrom v new = (x : ℕ) (b : Ballot) → Sent new (Verifier x) b → x ≡ v

not_mine : {ls : Letters} (new : Letters) (v x : ℕ) {b : Ballot} → OnlyFrom v new → x ≢ v → Sent (ls ++ new) (Verifier x) b → Sent ls (Verifier x) b
not_mine {ls} new v x {b} only apart h = ⊎_elim (λ l. l) (λ r. absurd (apart (only x b r))) (Sent-split ls new h)

-- letters of others change nothing of what this one sent
pub Stand-of_other : {u : ℕ} {ls : Letters} (new : Letters) (v x : ℕ) {s : VerifierState} → OnlyFrom v new → x ≢ v → Stand u ls x s → Stand u (ls ++ new) x s
Stand-of_other {u} {ls} new v x {s} only apart st = record {
  grounds = Grounds-more new st.grounds;
  owns = record {
    kept = λ w p d h. st.owns.kept w p d (not_mine new v x only apart h);
    promised = λ w k a h. st.owns.promised w k a (not_mine new v x only apart h);
    proposed = λ w p d h. st.owns.proposed w p d (not_mine new v x only apart h);
  };
}

-- it stops
pub Stand-down : {u : ℕ} {ls : Letters} {v : ℕ} {s : VerifierState} → Stand u ls v s → Stand u ls v (down s)
Stand-down {u} {ls} {v} {s} st = record {
  grounds = record {
    log = st.grounds.log;
    accepted_sent = st.grounds.accepted_sent;
    leads = λ e. absurd (false≢true e);
    heard = λ e. absurd (false≢true e);
    tallied = tt;
    voted = tt;
  };
  owns = record {
    kept = st.owns.kept;
    promised = st.owns.promised;
    proposed = λ w p d h. ((st.owns.proposed w p d h).0, λ e. absurd (false≢true e));
  };
}

-- the view rises, or stays
pub Stand-in_view : {u : ℕ} {ls : Letters} {v : ℕ} {s : VerifierState} (w : ℕ) → s.view ≤ w → Stand u ls v s → Stand u ls v (in_view s w)
Stand-in_view {u} {ls} {v} {s} w le st = record {
  grounds = record {
    log = st.grounds.log;
    accepted_sent = λ x d e. let h = st.grounds.accepted_sent x d e in (omega (arith, h.0), h.1);
    leads = λ e. let p = and_parts s.leads (w == s.view) e in subst (λ y. y % member_count u ≡ v) (sym (eqb-true w s.view p.1)) (st.grounds.leads p.0);
    heard = λ e. let p = and_parts s.leads (w == s.view) e in subst (λ y. Each (Heard ls y) s.promises) (sym (eqb-true w s.view p.1)) (st.grounds.heard p.0);
    tallied = st.grounds.tallied;
    voted = st.grounds.voted;
  };
  owns = record {
    kept = λ x p d h. let k = st.owns.kept x p d h in (omega (arith, k.0), k.1);
    promised = λ x k a h. let m = st.owns.promised x k a h in omega (arith, m);
    proposed = λ x p d h. let m = st.owns.proposed x p d h in (omega (arith, m.0), λ e same. let q = and_parts s.leads (w == s.view) e in m.1 q.0 (same ∙ eqb-true w s.view q.1));
  };
}

covers_more : (k x p w : ℕ) (a : Option (ℕ × Decree)) (d : Decree) → x ≤ w → Covers k a x p → Covers k (Some (w, d)) x p
covers_more k x p w a d le (inl h) = inl h
covers_more k x p w a d le (inr h) = inr (h.0, le)

-- a proposal of the next place in this view is accepted
pub Stand-accepting : {u : ℕ} {ls : Letters} {v : ℕ} {s : VerifierState} (l : ℕ) (d : Decree) → Sent ls (Verifier l) (Accept s.view (next_place s) d) → Stand u ls v s → Stand u ls v (record s { accepted = Some (s.view, d) })
Stand-accepting {u} {ls} {v} {s} l d sent st = record {
  grounds = record {
    log = st.grounds.log;
    accepted_sent = λ x b e.
        let pair : ◌≡◌ {A = ℕ × Decree} (s.view, d) (x, b) = cc in
        let view : x ≡ s.view = ap (λ (y : ℕ × Decree). y.0) (sym pair) in
        (omega (arith, view), (l, subst (λ (y : ℕ × Decree). Sent ls (Verifier l) (Accept y.0 (next_place s) y.1)) pair sent));
    leads = st.grounds.leads;
    heard = st.grounds.heard;
    tallied = st.grounds.tallied;
    voted = st.grounds.voted;
  };
  owns = record {
    kept = λ x p b h. let k = st.owns.kept x p b h in (k.0, covers_more (known s) x p s.view s.accepted d k.0 k.1);
    promised = st.owns.promised;
    proposed = st.owns.proposed;
  };
}

covers_known : (k x p m : ℕ) (a : Option (ℕ × Decree)) → m ≡ k + 1 → Covers k a x p → Covers m None x p
covers_known k x p m a e (inl h) = inl (omega (arith, e, h))
covers_known k x p m a e (inr h) = inl (omega (arith, e, h.0))

-- a decree that is chosen is learned
pub Stand-learn : {u : ℕ} {ls : Letters} {v : ℕ} {s : VerifierState} (d : Decree) → Chosen u ls (next_place s) d → Stand u ls v s → Stand u ls v (learn s d)
Stand-learn {u} {ls} {v} {s} d chosen st = record {
  grounds = record {
    log = LogOk-learn st.grounds.log d chosen;
    accepted_sent = λ w b e. absurd (cc);
    leads = st.grounds.leads;
    heard = st.grounds.heard;
    tallied = tt;
    voted = Each-filter (Cast ls) (λ x. is_open (standing_after (stands s) d) x.0) s.votes st.grounds.voted;
  };
  owns = record {
    kept = λ w p b h. let k = st.owns.kept w p b h in (k.0, covers_known (known s) w p (known (learn s d)) s.accepted (let more = length_push s.log d in omega (arith, more)) k.1);
    promised = st.owns.promised;
    proposed = λ w p b h. let m = st.owns.proposed w p b h in (
      m.0,
      λ e same. inl (⊎_elim
          (λ (q : p ≤ (known s)). let more = length_push s.log d in omega (arith, q, more))
          (λ (q : (p ≡ next_place s) × (s.proposed ≡ true)). let more = length_push s.log d in omega (arith, q.0, more))
          (m.1 e same)),
    );
  };
}

-- some decrees are forgotten: as many are known
pub Stand-trim : {u : ℕ} {ls : Letters} {v : ℕ} {s : VerifierState} (place : ℕ) → may_trim s place ≡ true → Stand u ls v s → Stand u ls v (trimmed_log s place)
Stand-trim {u} {ls} {v} {s} place may st = record {
  grounds = record {
    log = subst (λ p. LogOk u ls (record { place = p; standing = (trimmed_log s place).start.standing }) (trimmed_log s place).log) at (LogOk-trim st.grounds.log (forgets s place) within);
    accepted_sent = λ w d e. let h = st.grounds.accepted_sent w d e in (h.0, (h.1.0, subst (λ p. Sent ls (Verifier h.1.0) (Accept w (p + 1) d)) (sym same) h.1.1));
    leads = st.grounds.leads;
    heard = st.grounds.heard;
    tallied = subst (λ p. Each (Told ls (p + 1)) s.tally) (sym same) st.grounds.tallied;
    voted = st.grounds.voted;
  };
  owns = record {
    kept = λ w p d h. let k = st.owns.kept w p d h in (k.0, subst (λ n. Covers n s.accepted w p) (sym same) k.1);
    promised = st.owns.promised;
    proposed = λ w p d h. let m = st.owns.proposed w p d h in (m.0, λ e at_view. subst (λ n. (p ≤ n) ⊎ ((p ≡ n + 1) × (s.proposed ≡ true))) (sym same) (m.1 e at_view));
  };
}
  where
    parts : (s.start.place < place) × (place ≤ known s)
    parts = let p = and_parts (nat_lt s.start.place place) (nat_le place (known s)) may in (ltb-true s.start.place place p.0, leb-true place (known s) p.1)

    within : forgets s place ≤ length s.log
    within = omega (arith, parts.0, parts.1)

    at : s.start.place + forgets s place ≡ place
    at = omega (arith, parts.0)

    same : known (trimmed_log s place) ≡ known s
    same = let e = length_trim st.grounds.log (forgets s place) within in omega (arith, e, at)

-- it goes to a start above what it knows
pub Stand-gone : {u : ℕ} {ls : Letters} {v : ℕ} {s : VerifierState} (place : ℕ) (standing : Standing) → known s < place → StandsAt u ls place standing → Stand u ls v s → Stand u ls v (gone_to s (record { place = place; standing = standing }))
Stand-gone {u} {ls} {v} {s} place standing above told st = record {
  grounds = record {
    log = LogOk-from place standing told;
    accepted_sent = λ w b e. absurd (cc);
    leads = st.grounds.leads;
    heard = st.grounds.heard;
    tallied = tt;
    voted = Each-filter (Cast ls) (λ x. is_open standing x.0) s.votes st.grounds.voted;
  };
  owns = record {
    kept = λ w p b h. let k = st.owns.kept w p b h in (k.0, ⊎_elim (λ (l : p ≤ known s). inl (omega (arith, l, above))) (λ (l : (p ≡ known s + 1) × AtLeast w s.accepted). inl (omega (arith, l.0, above))) k.1);
    promised = st.owns.promised;
    proposed = λ w p b h. let m = st.owns.proposed w p b h in (
      m.0,
      λ e same. inl (⊎_elim
          (λ (q : p ≤ known s). omega (arith, q, above))
          (λ (q : (p ≡ next_place s) × (s.proposed ≡ true)). omega (arith, q.0, above))
          (m.1 e same)),
    );
  };
}
