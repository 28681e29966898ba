-- Letters that a verifier sends, by kind, and which of them say nothing that has to be kept.
use Rattle.std.proofs.Common.{◌≡◌, ℕ, zero, suc, ◌⊎◌, List, [], ◌∷◌, ◌++◌, Option, Some, None, inl, inr, sym, subst, ⊎_elim, if◌then◌else◌}
use Rattle.std.specs.Prelude.{◌==◌}
use Rattle.std.specs.Bool.{⊤}
use Rattle.std.proofs.lemmas.Bool.{cond_both}
use Rattle.decrees.specs.declared.decree.Decree.{Decree}
use Rattle.decrees.specs.declared.decree.Decree.TheVariants.{Commit, Rollback}
use Rattle.decrees.specs.declared.ballot.Ballot.{Ballot}
use Rattle.decrees.specs.declared.ballot.Ballot.TheVariants.{Token, Accept, Accepted, Decided, Ask, Change, Promise, Stands}
use Rattle.decrees.specs.declared.node.Node.{Node}
use Rattle.decrees.specs.declared.node.Node.TheVariants.{Executor, Verifier}
use Rattle.verifier.specs.State.{VerifierState, letter, to_verifiers_below, to_others_below, to_executors_below}
use Rattle.agreement_laws.specs.Letters.{Letters, Sent, here, there, Chosen, RestsOn, Backed, StandsAt}
use Rattle.agreement_laws.proofs.Count.{Quorum-weaker}
use Rattle.agreement_laws.proofs.Letters.{Sent-left, Sent-split, Repeats, Promises, Safe, LettersOk}
use Rattle.agreement_laws.proofs.Stand.{Stand, Chosen-more, StandsAt-more, Grounds-more}

-- those of these letters that a verifier sent are of this one and have this body
abbrev pub Says : ℕ → Ballot → Letters → Type 0
Says v b new = (x : ℕ) (y : Ballot) → Sent new (Verifier x) y → (x ≡ v) × (y ≡ b)

Says-none : (v : ℕ) (b : Ballot) → Says v b []
Says-none v b x y h = elim h [ ]

pub Says-one : (v : ℕ) (to : Node) (b : Ballot) → Says v b (letter v to b ∷ [])
Says-one v to b x y (here e f) = (let same : Verifier v ≡ Verifier x = e in cc, sym f)
Says-one v to b x y (there h) = elim h [ ]

pub Says-both : {v : ℕ} {b : Ballot} (xs ys : Letters) → Says v b xs → Says v b ys → Says v b (xs ++ ys)
Says-both xs ys p q x y h = ⊎_elim (p x y) (q x y) (Sent-split xs ys h)

pub Says-verifiers : (n v : ℕ) (b : Ballot) → Says v b (to_verifiers_below v n b)
Says-verifiers zero v b = Says-none v b
Says-verifiers (suc n) v b = Says-both (to_verifiers_below v n b) (letter v (Verifier n) b ∷ []) (Says-verifiers n v b) (Says-one v (Verifier n) b)

pub Says-others : (n v : ℕ) (b : Ballot) → Says v b (to_others_below v n b)
Says-others zero v b = Says-none v b
Says-others (suc n) v b = Says-both (to_others_below v n b) (if n == v then [] else letter v (Verifier n) b ∷ []) (Says-others n v b)
    (cond_both (n == v) [] (letter v (Verifier n) b ∷ []) (Says v b) (λ _. Says-none v b) (λ _. Says-one v (Verifier n) b))

pub Says-executors : (n v : ℕ) (b : Ballot) → Says v b (to_executors_below v n b)
Says-executors zero v b = Says-none v b
Says-executors (suc n) v b = Says-both (to_executors_below v n b) (letter v (Executor n) b ∷ []) (Says-executors n v b) (Says-one v (Executor n) b)

-- an old letter, or the one that is said
pub old_or_said : {v : ℕ} {b : Ballot} {new : Letters} (ls : Letters) {x : ℕ} {y : Ballot} → Says v b new → Sent (ls ++ new) (Verifier x) y → Sent ls (Verifier x) y ⊎ ((x ≡ v) × (y ≡ b))
old_or_said {v} {b} {new} ls {x} {y} says h = ⊎_elim inl (λ r. inr (says x y r)) (Sent-split ls new h)

Repeats-more : (ls new : Letters) (w p : ℕ) (d : Decree) (best : Option (ℕ × Decree)) → Repeats ls w p d best → Repeats (ls ++ new) w p d best
Repeats-more ls new w p d None h = h
Repeats-more ls new w p d (Some b) h = (h.0, h.1, (h.2.0, Sent-left ls new h.2.1))

Promises-more : {ls : Letters} (new : Letters) (w p : ℕ) (best : Option (ℕ × Decree)) (v : ℕ) → Promises ls w p best v → Promises (ls ++ new) w p best v
Promises-more {ls} new w p best v h = (h.0, h.1, Sent-left ls new h.2, h.3, h.4)

pub Safe-more : {u : ℕ} {ls : Letters} (new : Letters) {w p : ℕ} {d : Decree} → (w ≡ 0) ⊎ Safe u ls w p d → (w ≡ 0) ⊎ Safe u (ls ++ new) w p d
Safe-more new (inl e) = inl e
Safe-more {u} {ls} new {w} {p} {d} (inr s) = inr (record { best = s.best; asked = Quorum-weaker (Promises-more new w p s.best) s.asked; same = Repeats-more ls new w p d s.best s.same })

pub RestsOn-more : (u : ℕ) (ls new : Letters) (before : List Decree) (d : Decree) → RestsOn u ls before d → RestsOn u (ls ++ new) before d
RestsOn-more u ls new before Rollback h = tt
RestsOn-more u ls new before (Commit n t) h = record { next = h.next; sent = Quorum-weaker (λ e s. Sent-left ls new s) h.sent }

pub Backed-more : {u : ℕ} {ls : Letters} (new : Letters) {p : ℕ} {d : Decree} → Backed u ls p d → Backed u (ls ++ new) p d
Backed-more {u} {ls} new {p} {d} h = record {
  before = h.before;
  all = h.all;
  chosen = λ q b e. Chosen-more new (h.chosen q b e);
  rests = RestsOn-more u ls new h.before d h.rests;
}

-- no promise, acceptance or proposal, and what is told to be decided is chosen
abbrev pub Plain : ℕ → Letters → Ballot → Type 0
Plain u ls (Token e n previous t) = ⊤
Plain u ls (Accept w p d) = ⊥
Plain u ls (Accepted w p d) = ⊥
Plain u ls (Decided p d) = Chosen u ls p d
Plain u ls (Ask p) = ⊤
Plain u ls (Change w) = ⊤
Plain u ls (Promise w k a) = ⊥
Plain u ls (Stands p s) = StandsAt u ls p s

-- those of these letters that a verifier sent are of this one and plain
abbrev pub PlainOf : ℕ → Letters → ℕ → Letters → Type 0
PlainOf u ls v new = (x : ℕ) (y : Ballot) → Sent new (Verifier x) y → (x ≡ v) × Plain u ls y

pub PlainOf-none : (u : ℕ) (ls : Letters) (v : ℕ) → PlainOf u ls v []
PlainOf-none u ls v x y h = elim h [ ]

pub PlainOf-said : (u : ℕ) (ls : Letters) {v : ℕ} {b : Ballot} {new : Letters} → Says v b new → Plain u ls b → PlainOf u ls v new
PlainOf-said u ls {v} {b} {new} says p x y h = let s = says x y h in (s.0, subst (Plain u ls) (sym s.1) p)

pub PlainOf-both : (u : ℕ) (ls : Letters) {v : ℕ} (xs ys : Letters) → PlainOf u ls v xs → PlainOf u ls v ys → PlainOf u ls v (xs ++ ys)
PlainOf-both u ls xs ys p q x y h = ⊎_elim (p x y) (q x y) (Sent-split xs ys h)

-- what is not plain was there before
module _ {u : ℕ} {ls : Letters} (new : Letters) {v : ℕ} (plain : PlainOf u ls v new) where
  plain_old : (x : ℕ) (b : Ballot) → (Plain u ls b → ⊥) → Sent (ls ++ new) (Verifier x) b → Sent ls (Verifier x) b
  plain_old x b apart h = ⊎_elim (λ l. l) (λ r. absurd (apart (plain x b r).1)) (Sent-split ls new h)

  pub LettersOk-plain : LettersOk u ls → LettersOk u (ls ++ new)
  LettersOk-plain ok = record {
    leader = λ x w p d h. ok.leader x w p d (plain_old x (Accept w p d) (λ y. y) h);
    one = λ x w p d b h k. ok.one x w p d b (plain_old x (Accept w p d) (λ y. y) h) (plain_old x (Accept w p b) (λ y. y) k);
    accepted = λ x w p d h. let a = ok.accepted x w p d (plain_old x (Accepted w p d) (λ y. y) h) in (a.0, Sent-left ls new a.1);
    promised = λ x w k z d h. let a = ok.promised x w k z d (plain_old x (Promise w k (Some (z, d))) (λ y. y) h) in (a.0, (a.1.0, Sent-left ls new a.1.1));
    covers = λ x w k a z p d h g. ok.covers x w k a z p d (plain_old x (Promise w k a) (λ y. y) h) (plain_old x (Accepted z p d) (λ y. y) g);
    safe = λ x w p d h. Safe-more new (ok.safe x w p d (plain_old x (Accept w p d) (λ y. y) h));
    backed = λ x w p d h. Backed-more new (ok.backed x w p d (plain_old x (Accept w p d) (λ y. y) h));
    decided = λ x p d h. Chosen-more new (⊎_elim (λ l. ok.decided x p d l) (λ r. (plain x (Decided p d) r).1) (Sent-split ls new h));
    stood = λ x p z h. StandsAt-more new (⊎_elim (λ l. ok.stood x p z l) (λ r. (plain x (Stands p z) r).1) (Sent-split ls new h));
  }

  pub Stand-plain : {x : ℕ} {s : VerifierState} → Stand u ls x s → Stand u (ls ++ new) x s
  Stand-plain {x} {s} st = record {
    grounds = Grounds-more new st.grounds;
    owns = record {
      kept = λ w p d h. st.owns.kept w p d (plain_old x (Accepted w p d) (λ y. y) h);
      promised = λ w k a h. st.owns.promised w k a (plain_old x (Promise w k a) (λ y. y) h);
      proposed = λ w p d h. st.owns.proposed w p d (plain_old x (Accept w p d) (λ y. y) h);
    };
  }
