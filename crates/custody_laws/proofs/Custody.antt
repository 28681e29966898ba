-- Every step keeps what holds, and the laws.
use Rattle.std.proofs.Common.{◌≡◌, ◌≢◌, ℕ, zero, suc, ◌-◌, ◌<◌, ◌≤◌, ◌⊎◌, List, [], ◌∷◌, ◌++◌, length, take, Option, Some, slice_get, slice_set, inl, inr, refl, sym, ◌∙◌, ap, subst, ⊎_elim, arith, replicate}
use Rattle.std.proofs.lemmas.Option.{slice_get_within}
use Rattle.std.specs.Prelude.{Contains}
use Rattle.std.proofs.Math.ListN.{length-set}
use Rattle.std.proofs.lemmas.Bool.{cases_order}
use Rattle.std.proofs.lemmas.List.{length-replicate}
use Rattle.std.proofs.lemmas.List.Elements.{Contains-append_left, Contains-append_right, Contains-append_cases}
use Rattle.token.specs.declared.Token as token
use Rattle.decrees.specs.declared.decree.Decree.{Decree}
use Rattle.decrees.specs.declared.decree.Decree.TheVariants.{Commit, Rollback}
use Rattle.decrees.specs.declared.standing.Standing.{Standing}
use Rattle.decrees.specs.declared.ballot.Ballot.{Ballot}
use Rattle.decrees.specs.declared.ballot.Ballot.TheVariants.{Token}
use Rattle.decrees.specs.declared.node.Letter.{Letter}
use Rattle.decrees.specs.declared.node.Node.{Node}
use Rattle.decrees.specs.declared.node.Node.TheVariants.{Executor}
use Rattle.decrees.specs.Count.{member_count}
use Rattle.decrees.specs.Standing.{standing}
use Rattle.states.specs.State.{StateView}
use Rattle.executor.specs.Work.{TentativeView}
use Rattle.agreement_laws.specs.Letters.{Letters, Sent, here, there, RestsOn}
use Rattle.agreement_laws.proofs.Letters.{Sent-split}
use Rattle.agreement_laws.proofs.Says.{RestsOn-more}
use Rattle.agreement_laws.proofs.Count.{Quorum-someone, Quorum-outside}
use Rattle.agreement_laws.proofs.Places.{at_index}
use Rattle.run_laws.specs.Run.{Executed, IsOver}
use Rattle.run_laws.specs.Met.{IsKnown, IsTold, ToldApart}
use Rattle.run_laws.specs.Chosen.{IsMade}
use Rattle.run_laws.proofs.Elements.{in_head, in_none, first_or_other}
use Rattle.run_laws.proofs.Tokens.{tells}
use Rattle.rollback.specs.Chain.{tip}
use Rattle.custody_laws.specs.Durable.{Durable, first_durable, obeyed, durable_stood, reached_in, executed_of, IsMember, In, Keeps}
use Rattle.custody_laws.specs.Machine.{ExecutorMachine, said_of, HaveNoToken, Next, Hear, Choose, Complete, Say, Obey, Stand, Take, first_executor_machine, Reached}
use Rattle.custody_laws.specs.Laws.{ChosenIsMade, CommittedIsChosen, LastCommitIsKept}
use Rattle.custody_laws.proofs.Log.{take_front, take_whole, some_at, get_push, stands_next, Numbered, rises_to, one_commit, last_commit}
use Rattle.custody_laws.proofs.Kept.{In-left, Path, start, step, Path-rises, member_previous, Chain-push, Chain-in, Fate, kept, passed, rolled, broken, ExecOk, ExecOk-met, ExecOk-log, stands_chosen, undone_rollback, undone_commit}
use Rattle.custody_laws.proofs.Stood.{stands_ok, found, under_path}

-- a token that was said is of a state that a round made of one that was known
pub record TokenMade (met : StateView → Type 0) (rounds : Executed → Type 0) (epoch n : ℕ) (previous t : token.Token) : Type 0 where
  pub old : StateView
  pub executed : Executed
  pub is_over : IsOver old executed
  pub known_round : rounds executed
  pub old_known : IsKnown met old
  pub old_token : old.token ≡ previous
  pub new_met : met executed.new
  pub new_number : executed.new.number ≡ n
  pub new_token : executed.new.token ≡ t
  pub new_epoch : executed.new.epoch ≡ epoch

TokenMade-more : (met more : StateView → Type 0) (rounds new : Executed → Type 0) → ((s : StateView) → met s → more s) → ((e : Executed) → rounds e → new e) → (epoch n : ℕ) (previous t : token.Token) → TokenMade met rounds epoch n previous t → TokenMade more new epoch n previous t
TokenMade-more met more rounds new h k epoch n previous t m = record {
  old = m.old;
  executed = m.executed;
  is_over = m.is_over;
  known_round = k m.executed m.known_round;
  old_known = ⊎_elim inl (λ x. inr (h m.old x)) m.old_known;
  old_token = m.old_token;
  new_met = h m.executed.new m.new_met;
  new_number = m.new_number;
  new_token = m.new_token;
  new_epoch = m.new_epoch;
}

pub record Good (u : ℕ) (m : ExecutorMachine) : Type 0 where
  pub count : length m.executors ≡ member_count u
  pub rests : (i : ℕ) (d : Decree) → slice_get m.decrees i ≡ Some d → RestsOn u m.letters (take i m.decrees) d
  pub said : (e epoch n : ℕ) (previous t : token.Token) → Sent m.letters (Executor e) (Token epoch n previous t) → TokenMade (Contains m.met) (Contains m.rounds) epoch n previous t
  pub told : (s : StateView) → Contains m.met s → IsTold s
  pub execs : (e : ℕ) (x : Durable) → slice_get m.executors e ≡ Some x → ExecOk m.decrees m.letters (Contains m.met) (Contains m.rounds) e x

numbered : {u : ℕ} {m : ExecutorMachine} → Good u m → Numbered m.decrees
numbered good = record { next = λ i n t e. let r = good.rests i (Commit n t) e in omega (arith, r.next) }

get_set : (xs : List Durable) (v : ℕ) (n : Durable) (i : ℕ) (s : Durable) → slice_get (slice_set xs v n) i ≡ Some s → ((i ≡ v) × (s ≡ n)) ⊎ ((i ≢ v) × (slice_get xs i ≡ Some s))
get_set [] v n i s e = absurd (cc)
get_set (x ∷ xs) zero n zero s e = inl (refl, cc)
get_set (x ∷ xs) zero n (suc i) s e = inr ((λ h. omega arith), e)
get_set (x ∷ xs) (suc v) n zero s e = inr ((λ h. omega arith), e)
get_set (x ∷ xs) (suc v) n (suc i) s e = ⊎_elim (λ p. inl (ap suc p.0, p.1)) (λ p. inr ((λ h. p.0 (omega (arith, h))), p.1)) (get_set xs v n i s e)

-- one executor changes
one_changed : (P : ℕ → Durable → Type 0) (xs : List Durable) (e : ℕ) (y : Durable) → ((i : ℕ) (x : Durable) → slice_get xs i ≡ Some x → P i x) → P e y → (i : ℕ) (x : Durable) → slice_get (slice_set xs e y) i ≡ Some x → P i x
one_changed P xs e y others mine i x at = ⊎_elim
    (λ (p : (i ≡ e) × (x ≡ y)). subst (λ (q : ℕ × Durable). P q.0 q.1) (λ j. (sym p.0 j, sym p.1 j)) mine)
    (λ (p : (i ≢ e) × (slice_get xs i ≡ Some x)). others i x p.1)
    (get_set xs e y i x at)

-- ---- letters

-- letters that say what is in hand: a letter of this executor's chain, or no token
ExecOk-letters : {log : List Decree} {ls : Letters} {met : StateView → Type 0} {rounds : Executed → Type 0} {e : ℕ} {x : Durable} (new : Letters)
    → ((epoch n : ℕ) (previous t : token.Token) → Sent new (Executor e) (Token epoch n previous t) → Fate log met x epoch n t) → ExecOk log ls met rounds e x → ExecOk log (ls ++ new) met rounds e x
ExecOk-letters {log} {ls} {met} {rounds} {e} {x} new own ok = record {
  known = ok.known;
  stands = ok.stands;
  below = ok.below;
  level = ok.level;
  have_known = ok.have_known;
  have_chosen = ok.have_chosen;
  chain = ok.chain;
  fate = λ epoch n previous t s. ⊎_elim (λ l. ok.fate epoch n previous t l) (λ r. own epoch n previous t r) (Sent-split ls new s);
}

heard : {u : ℕ} {m : ExecutorMachine} (new : Letters) → HaveNoToken new → Good u m → Good u (record m { letters = m.letters ++ new })
heard {u} {m} new others good = record {
  count = good.count;
  rests = λ i d e. RestsOn-more u m.letters new (take i m.decrees) d (good.rests i d e);
  said = λ e epoch n previous t s. ⊎_elim (λ l. good.said e epoch n previous t l) (λ r. absurd (others e epoch n previous t r)) (Sent-split m.letters new s);
  told = good.told;
  execs = λ e x at. ExecOk-letters new (λ epoch n previous t r. absurd (others e epoch n previous t r)) (good.execs e x at);
}

one_letter : {l : Letter Ballot} {x : Node} {b : Ballot} → Sent (l ∷ []) x b → (l.from ≡ x) × (l.body ≡ b)
one_letter (here e f) = (e, f)
one_letter (there h) = elim h [ ]

says : {u : ℕ} {m : ExecutorMachine} (e : ℕ) (x : Durable) (t : TentativeView) (to : Node) → Good u m → slice_get m.executors e ≡ Some x → In t x.chain
    → Good u (record m { letters = m.letters ++ record { from = Executor e; to = to; body = said_of t } ∷ [] })
says {u} {m} e x t to good at has =
    let mine = good.execs e x at in
    let placed = Chain-in (Contains m.met) (Contains m.rounds) x.standing.epoch x.have x.chain mine.chain has in
    let l : Letter Ballot = record { from = Executor e; to = to; body = said_of t } in
    record {
      count = good.count;
      rests = λ i d g. RestsOn-more u m.letters (l ∷ []) (take i m.decrees) d (good.rests i d g);
      said = λ j epoch n previous s sent. ⊎_elim (λ h. good.said j epoch n previous s h)
          (λ (h : Sent (l ∷ []) (Executor j) (Token epoch n previous s)).
          let same : said_of t ≡ Token epoch n previous s = (one_letter h).1 in
          let of_epoch : t.after.epoch ≡ epoch = cc in
          let of_number : t.after.number ≡ n = cc in
          let of_previous : t.after.previous ≡ previous = cc in
          let of_token : t.after.token ≡ s = cc in
          record {
            old = placed.old;
            executed = executed_of placed.member.ordered t;
            is_over = placed.member.is_round;
            known_round = placed.is_known;
            old_known = ⊎_elim (λ (b : placed.old ≡ x.have). subst (IsKnown (Contains m.met)) (sym b) mine.have_known) (λ k. inr k) placed.old_known;
            old_token = sym (member_previous placed.member) ∙ of_previous;
            new_met = placed.is_met;
            new_number = of_number;
            new_token = of_token;
            new_epoch = of_epoch;
          })
          (Sent-split m.letters (l ∷ []) sent);
      told = good.told;
      execs = λ j y got. ExecOk-letters (l ∷ [])
          (λ epoch n previous s h.
          let both = one_letter h in
          let from : ◌≡◌ {A = Node} (Executor e) (Executor j) = both.0 in
          let own : e ≡ j = cc from in
          let same : said_of t ≡ Token epoch n previous s = both.1 in
          let of_epoch : t.after.epoch ≡ epoch = cc same in
          let of_number : t.after.number ≡ n = cc same in
          let of_token : t.after.token ≡ s = cc same in
          let there : slice_get m.executors e ≡ Some y = subst (λ k. slice_get m.executors k ≡ Some y) (sym own) got in
          let one : x ≡ y = let both_some : ◌≡◌ {A = Option Durable} (Some x) (Some y) = sym at ∙ there in cc both_some in
          kept t.after (inr (t, subst (λ (z : Durable). In t z.chain) one has, refl)) placed.is_met of_token of_number of_epoch)
          (good.execs j y got);
    }

-- ---- decrees

chooses : {u : ℕ} {m : ExecutorMachine} (d : Decree) → Good u m → RestsOn u m.letters m.decrees d → Good u (record m { decrees = m.decrees ++ d ∷ [] })
chooses {u} {m} d good may = record {
  count = good.count;
  rests = λ i c e. ⊎_elim
      (λ (l : slice_get m.decrees i ≡ Some c).
      let below = slice_get_within m.decrees i c l in
      subst (λ ds. RestsOn u m.letters ds c) (sym (take_front m.decrees (d ∷ []) i (omega (arith, below)))) (good.rests i c l))
      (λ (p : (i ≡ length m.decrees) × (c ≡ d)).
      let same : take i (m.decrees ++ d ∷ []) ≡ m.decrees = take_front m.decrees (d ∷ []) i (omega (arith, p.0)) ∙ (ap (λ j. take j m.decrees) p.0 ∙ take_whole m.decrees) in
      subst (λ (z : List Decree × Decree). RestsOn u m.letters z.0 z.1) (λ j. (sym same j, sym p.1 j)) may)
      (get_push m.decrees d c i e);
  said = good.said;
  told = good.told;
  execs = λ e x at. ExecOk-log d (good.execs e x at);
}

-- ---- states

in_last : {X : Type 0} (xs : List X) (x : X) → Contains (xs ++ x ∷ []) x
in_last xs x = Contains-append_right xs (x ∷ []) x (in_head x [])

pushed : {log : List Decree} {ls : Letters} {met : StateView → Type 0} {rounds : Executed → Type 0} {e : ℕ} (x : Durable) (t : TentativeView) → ExecOk log ls met rounds e x → x.have.number ≡ x.standing.n
    → (member : IsMember x.standing.epoch (tip x.have x.chain) t) → met t.after → rounds (executed_of member.ordered t) → ExecOk log ls met rounds e (record x { chain = x.chain ++ t ∷ [] })
pushed {log} {ls} {met} {rounds} {e} x t ok level member at known = record {
  known = ok.known;
  stands = ok.stands;
  below = ok.below;
  level = inr level;
  have_known = ok.have_known;
  have_chosen = ok.have_chosen;
  chain = Chain-push met rounds x.standing.epoch x.have x.chain t ok.chain member at known;
  fate = λ epoch n previous s sent. fates epoch n s (ok.fate epoch n previous s sent);
}
  where
    fates : (epoch n : ℕ) (s : token.Token) → Fate log met x epoch n s → Fate log met (record x { chain = x.chain ++ t ∷ [] }) epoch n s
    fates epoch n said (kept s (inl h) k a b d) = kept s (inl h) k a b d
    fates epoch n said (kept s (inr h) k a b d) = kept s (inr (h.0, In-left x.chain (t ∷ []) h.1, h.2)) k a b d
    fates epoch n said (passed h) = passed h
    fates epoch n said (rolled k h a b) = rolled k h a b
    fates epoch n said (broken f s other i p a b z g q) = broken f s other i p a b z g q

none_in : {t : TentativeView} → In t [] → ⊥
none_in i = elim i [ ]

taken : {log : List Decree} {ls : Letters} {met : StateView → Type 0} {rounds : Executed → Type 0} {e : ℕ} (x : Durable) (s : StateView) → ExecOk log ls met rounds e x → x.have.number < x.standing.n → s.number ≡ x.standing.n → s.token ≡ x.standing.token → met s
    → ExecOk log ls met rounds e (record x { have = s; chain = [] })
taken {log} {ls} {met} {rounds} {e} x s ok behind number of_token at = record {
  known = ok.known;
  stands = ok.stands;
  below = omega (arith, number);
  level = inl refl;
  have_known = inr at;
  have_chosen = stands_chosen log x.known s ok.known (number ∙ ap (λ (y : Standing). y.n) ok.stands) (of_token ∙ ap (λ (y : Standing). y.token) ok.stands);
  chain = tt;
  fate = λ epoch n previous t sent. fates epoch n t (ok.fate epoch n previous t sent);
}
  where
    fates : (epoch n : ℕ) (t : token.Token) → Fate log met x epoch n t → Fate log met (record x { have = s; chain = [] }) epoch n t
    fates epoch n t (kept y (inl h) k a b d) = passed (omega (arith, b, ap (λ (z : StateView). z.number) h, number, behind))
    fates epoch n t (kept y (inr h) k a b d) = ⊎_elim (λ (none : x.chain ≡ []). absurd (none_in (subst (In h.0) none h.1))) (λ (level : x.have.number ≡ x.standing.n). absurd (omega (arith, level, behind))) ok.level
    fates epoch n t (passed h) = passed h
    fates epoch n t (rolled k h a b) = rolled k h a b
    fates epoch n t (broken f y other i p a b z g q) = broken f y other i p a b z g q

obeys : {log : List Decree} {ls : Letters} {met : StateView → Type 0} {rounds : Executed → Type 0} {e : ℕ} (x : Durable) (d : Decree) → ExecOk log ls met rounds e x → Numbered log → slice_get log x.known ≡ Some d → ExecOk log ls met rounds e (obeyed x d)
obeys x (Commit n t) ok num at = undone_commit ok num n t at
obeys x Rollback ok num at = undone_rollback ok num at

-- a round's state has the token of its parts
made_told : (old : StateView) (e : Executed) → IsOver old e → IsTold e.new
made_told old e over = record { first = λ z. absurd (omega (arith, over.next, z)); token = λ l. over.round.token }

more_told : (met : List StateView) (s : StateView) → ((x : StateView) → Contains met x → IsTold x) → IsTold s → (x : StateView) → Contains (met ++ s ∷ []) x → IsTold x
more_told met s h k x c = ⊎_elim (h x) (λ r. ⊎_elim (λ (e : s ≡ x). subst IsTold e k) (λ n. absurd (in_none x n)) (first_or_other s x [] r)) (Contains-append_cases met (s ∷ []) x c)

next_ok : {u : ℕ} {m : ExecutorMachine} (now : ExecutorMachine) → Good u m → Next u m now → Good u now
next_ok now good (Hear new others) = heard new others good
next_ok now good (Choose d may) = chooses d good may
next_ok {u} {m} now good (Complete e x t at level member) =
    let met_later : (s : StateView) → Contains m.met s → Contains (m.met ++ t.after ∷ []) s = λ s c. Contains-append_left m.met (t.after ∷ []) s c in
    let more_rounds : (r : Executed) → Contains m.rounds r → Contains (m.rounds ++ executed_of member.ordered t ∷ []) r = λ r c. Contains-append_left m.rounds (executed_of member.ordered t ∷ []) r c in
    let up : (i : ℕ) (y : Durable) → slice_get m.executors i ≡ Some y → ExecOk m.decrees m.letters (Contains (m.met ++ t.after ∷ [])) (Contains (m.rounds ++ executed_of member.ordered t ∷ [])) i y =
    λ i y got. ExecOk-met (Contains (m.met ++ t.after ∷ [])) (Contains (m.rounds ++ executed_of member.ordered t ∷ [])) met_later more_rounds (good.execs i y got) in
    record {
      count = length-set m.executors e (record x { chain = x.chain ++ t ∷ [] }) ∙ good.count;
      rests = good.rests;
      said = λ j epoch n previous s sent. TokenMade-more (Contains m.met) (Contains (m.met ++ t.after ∷ [])) (Contains m.rounds) (Contains (m.rounds ++ executed_of member.ordered t ∷ [])) met_later more_rounds epoch n previous s (good.said j epoch n previous s sent);
      told = more_told m.met t.after good.told (made_told (tip x.have x.chain) (executed_of member.ordered t) member.is_round);
      execs = one_changed (λ i y. ExecOk m.decrees m.letters (Contains (m.met ++ t.after ∷ [])) (Contains (m.rounds ++ executed_of member.ordered t ∷ [])) i y) m.executors e (record x { chain = x.chain ++ t ∷ [] }) up
          (pushed x t (up e x at) level member (in_last m.met t.after) (in_last m.rounds (executed_of member.ordered t)));
    }
next_ok now good (Say e x t to at has) = says e x t to good at has
next_ok {u} {m} now good (Obey e x d at got) = record {
  count = length-set m.executors e (obeyed x d) ∙ good.count;
  rests = good.rests;
  said = good.said;
  told = good.told;
  execs = one_changed (λ i y. ExecOk m.decrees m.letters (Contains m.met) (Contains m.rounds) i y) m.executors e (obeyed x d) good.execs (obeys x d (good.execs e x at) (numbered good) got);
}
next_ok {u} {m} now good (Stand e x place at later within) =
    let y : Durable = durable_stood x place (standing (take place m.decrees)) in
    record {
      count = length-set m.executors e y ∙ good.count;
      rests = good.rests;
      said = good.said;
      told = good.told;
      execs = one_changed (λ i z. ExecOk m.decrees m.letters (Contains m.met) (Contains m.rounds) i z) m.executors e y good.execs (stands_ok (good.execs e x at) (numbered good) place later within);
    }
next_ok {u} {m} now good (Take e x s at behind number of_token is_told) =
    let met_later : (y : StateView) → Contains m.met y → Contains (m.met ++ s ∷ []) y = λ y c. Contains-append_left m.met (s ∷ []) y c in
    let up : (i : ℕ) (y : Durable) → slice_get m.executors i ≡ Some y → ExecOk m.decrees m.letters (Contains (m.met ++ s ∷ [])) (Contains m.rounds) i y =
    λ i y got. ExecOk-met (Contains (m.met ++ s ∷ [])) (Contains m.rounds) met_later (λ r c. c) (good.execs i y got) in
    record {
      count = length-set m.executors e (record x { have = s; chain = [] }) ∙ good.count;
      rests = good.rests;
      said = λ j epoch n previous t sent. TokenMade-more (Contains m.met) (Contains (m.met ++ s ∷ [])) (Contains m.rounds) (Contains m.rounds) met_later (λ r c. c) epoch n previous t (good.said j epoch n previous t sent);
      told = more_told m.met s good.told is_told;
      execs = one_changed (λ i y. ExecOk m.decrees m.letters (Contains (m.met ++ s ∷ [])) (Contains m.rounds) i y) m.executors e (record x { have = s; chain = [] }) up
          (taken x s (up e x at) behind number of_token (in_last m.met s));
    }

all_first : (n : ℕ) (x : Durable) (i : ℕ) → slice_get (replicate n first_durable) i ≡ Some x → first_durable ≡ x
all_first zero x i e = absurd (cc)
all_first (suc n) x zero e = cc
all_first (suc n) x (suc i) e = all_first n x i e

begun : (u : ℕ) → Good u (first_executor_machine u)
begun u = record {
  count = length-replicate (member_count u) first_durable;
  rests = λ i d e. absurd (cc e);
  said = λ e epoch n previous t s. elim s [ ];
  told = λ s c. absurd (in_none s c);
  execs = λ e x at. subst (ExecOk [] [] (Contains []) (Contains []) e) (all_first (member_count u) x e at) (record {
    known = omega arith;
    stands = refl;
    below = omega arith;
    level = inl refl;
    have_known = inl refl;
    have_chosen = inl refl;
    chain = tt;
    fate = λ epoch n previous t s. elim s [ ];
  });
}

pub reached_ok : (u : ℕ) (before : List ExecutorMachine) (m : ExecutorMachine) → Reached u before m → Good u m
reached_ok u [] m r = subst (Good u) (sym r) (begun u)
reached_ok u (v ∷ vs) m r = next_ok m (reached_ok u vs v r.0) r.1

-- ---- the laws

made_of_tokens : {u : ℕ} {m : ExecutorMachine} (good : Good u m) (before : List Decree) (d : Decree) → RestsOn u m.letters before d → IsMade (Contains m.met) (Contains m.rounds) (standing before) d
made_of_tokens {u} {m} good before (Commit n t) r =
    let who = Quorum-someone r.sent in
    let made = good.said who.0 (standing before).epoch n (standing before).token t who.1 in
    let next = made.is_over.next in
    let number = made.new_number in
    let rests_next = r.next in
    record {
      old = made.old;
      executed = made.executed;
      is_over = made.is_over;
      known_round = made.known_round;
      old_known = made.old_known;
      old_number = omega (arith, next, number, rests_next);
      old_token = made.old_token;
      new_met = made.new_met;
      new_number = made.new_number;
      new_token = made.new_token;
    }
made_of_tokens good before Rollback r = tt

pub chosen_is_made : ChosenIsMade
chosen_is_made u before m r place d at =
    let good = reached_ok u before m r in
    let i = at_index m.decrees place d at in
    made_of_tokens good (take (place - 1) m.decrees) d (good.rests (place - 1) d i.1)

pub committed_is_chosen : CommittedIsChosen
committed_is_chosen u before m e x r at = let ok = (reached_ok u before m r).execs e x at in record { known = ok.have_known; committed = ok.have_chosen }

-- from a committed state down to one that leads to it, tokens are those of Commits
walk : {u : ℕ} {m : ExecutorMachine} (good : Good u m) → ToldApart (Contains m.met) → (f s : StateView) (j : ℕ) → Path (Contains m.met) f s → slice_get m.decrees j ≡ Some (Commit s.number s.token) → 0 < f.number
    → (i : ℕ) × (slice_get m.decrees i ≡ Some (Commit f.number f.token))
walk good apart f s j (start h) e above = (j, e)
walk {u} {m} good apart f s j (step {t = t} p at prev number) e above =
    let r = good.rests j (Commit s.number s.token) e in
    let who = Quorum-someone r.sent in
    let made = good.said who.0 (standing (take j m.decrees)).epoch s.number (standing (take j m.decrees)).token s.token who.1 in
    let rise = Path-rises (Contains m.met) p in
    let of_number = made.new_number in
    let same : made.executed.new ≡ s = tells (Contains m.met) apart made.executed.new s (inr made.new_met) (inr at) (omega (arith, of_number, number)) (omega (arith, number)) made.new_token in
    let of_token : (standing (take j m.decrees)).token ≡ t.token = sym made.old_token ∙ (sym made.is_over.round.previous ∙ (ap (λ (y : StateView). y.previous) same ∙ prev)) in
    let rests_next = r.next in
    let n_is : (standing (take j m.decrees)).n ≡ t.number = omega (arith, rests_next, number) in
    ⊎_elim
    (λ (z : (standing (take j m.decrees)).n ≡ 0). absurd (omega (arith, rise, z, n_is, above)))
    (λ (l : (i : ℕ) × (slice_get m.decrees i ≡ Some (Commit (standing (take j m.decrees)).n (standing (take j m.decrees)).token))).
    walk good apart f t l.0 p (subst (λ (y : ℕ × token.Token). slice_get m.decrees l.0 ≡ Some (Commit y.0 y.1)) (λ i. (n_is i, of_token i)) l.1) above)
    (last_commit m.decrees j (omega (arith, slice_get_within m.decrees j (Commit s.number s.token) e)))

-- each member that is committed with the state that stands has its Commit among the decrees: so its replies are of the run
pub committed_under : (u : ℕ) (before : List ExecutorMachine) (m : ExecutorMachine) (e : ℕ) (x : Durable) (place : ℕ) (c : StateView × List TentativeView) (t : TentativeView) → Reached u before m → ToldApart (Contains m.met) → slice_get m.executors e ≡ Some x → place ≤ length m.decrees
    → reached_in (standing (take place m.decrees)) x.have x.chain ≡ Some c → In t x.chain → t.after.number ≤ c.0.number → (i : ℕ) × (slice_get m.decrees i ≡ Some (Commit t.after.number t.after.token))
committed_under u before m e x place c t r apart at within is i low =
    let good = reached_ok u before m r in
    let ok = good.execs e x at in
    let now = standing (take place m.decrees) in
    let f = found (Contains m.met) (Contains m.rounds) x.standing.epoch now x.have x.chain c ok.chain is in
    let path = under_path (Contains m.met) (Contains m.rounds) x.standing.epoch now x.have x.chain c t ok.chain is i low in
    let above = (Chain-in (Contains m.met) (Contains m.rounds) x.standing.epoch x.have x.chain ok.chain i).above in
    ⊎_elim
    (λ (z : now.n ≡ 0). absurd (omega (arith, z, f.is_standing.0, low, above)))
    (λ (l : (j : ℕ) × (slice_get m.decrees j ≡ Some (Commit now.n now.token))).
    walk good apart t.after c.0 l.0 path (subst (λ (y : ℕ × token.Token). slice_get m.decrees l.0 ≡ Some (Commit y.0 y.1)) (λ k. (sym f.is_standing.0 k, sym f.is_standing.1 k)) l.1) (omega (arith, above)))
    (last_commit m.decrees place within)

-- what is kept of the last Commit
record Still (m : ExecutorMachine) (x : Durable) (n : ℕ) (t : token.Token) : Type 0 where
  state : StateView
  keeps : Keeps x state
  is_met : Contains m.met state
  number : state.number ≡ n
  of_token : state.token ≡ t

either : (a b : ℕ) → (a ≤ b) ⊎ (b < a)
either a b = ⊎_elim (λ (e : a ≡ b). inl (omega (arith, e))) (⊎_elim (λ (e : a < b). inl (omega (arith, e))) (λ (e : b < a). inr e)) (cases_order a b)

still : {u : ℕ} {m : ExecutorMachine} (good : Good u m) → ToldApart (Contains m.met) → (i n e : ℕ) (t : token.Token) (x : Durable) → slice_get m.decrees i ≡ Some (Commit n t) → (standing m.decrees).n ≡ n
    → ExecOk m.decrees m.letters (Contains m.met) (Contains m.rounds) e x → Fate m.decrees (Contains m.met) x (standing (take i m.decrees)).epoch n t → Still m x n t
still good apart i n e t x at last ok (kept s h k a b d) = record { state = s; keeps = h; is_met = k; number = b; of_token = a }
still {u} {m} good apart i n e t x at last ok (passed h) =
    let up = rises_to (numbered good) x.known (length m.decrees) ok.known (omega arith) in
    absurd (omega (arith, h, last, up.0, ok.below, ap (λ (y : Standing). y.n) ok.stands, ap (λ ds. (standing ds).n) (take_whole m.decrees)))
still {u} {m} good apart i n e t x at last ok (rolled k h a b) = ⊎_elim
    (λ (l : k ≤ i). absurd (omega (arith, b, (rises_to (numbered good) k i l (omega (arith, slice_get_within m.decrees i (Commit n t) at))).1)))
    (λ (l : i < k). absurd (omega (arith, a, (rises_to (numbered good) (suc i) k l h).0, ap (λ (y : Standing). y.n) (stands_next m.decrees i (Commit n t) at))))
    (either k i)
still {u} {m} good apart i n e t x at last ok (broken f s other j p a b above g differs) =
    let here : slice_get m.decrees i ≡ Some (Commit s.number s.token) = subst (λ (y : ℕ × token.Token). slice_get m.decrees i ≡ Some (Commit y.0 y.1)) (λ k. (sym b k, sym a k)) at in
    let there = walk good apart f s i p here above in
    absurd (differs (one_commit (numbered good) there.0 j f.number f.token other there.1 g))

pub last_commit_is_kept : LastCommitIsKept
last_commit_is_kept u before m lost r apart few some =
    let good = reached_ok u before m r in
    let whole : standing (take (length m.decrees) m.decrees) ≡ standing m.decrees = ap standing (take_whole m.decrees) in
    ⊎_elim
    (λ (z : (standing (take (length m.decrees) m.decrees)).n ≡ 0). absurd (omega (arith, z, some, ap (λ (y : Standing). y.n) whole)))
    (λ (l : (i : ℕ) × (slice_get m.decrees i ≡ Some (Commit (standing (take (length m.decrees) m.decrees)).n (standing (take (length m.decrees) m.decrees)).token))).
    let at = subst (λ (y : Standing). slice_get m.decrees l.0 ≡ Some (Commit y.n y.token)) whole l.1 in
    let rests = good.rests l.0 (Commit (standing m.decrees).n (standing m.decrees).token) at in
    let who = Quorum-outside lost few rests.sent in
    let x = some_at m.executors who.0 (omega (arith, who.1, good.count)) in
    let ok = good.execs who.0 x.0 x.1 in
    let s = still good apart l.0 (standing m.decrees).n who.0 (standing m.decrees).token x.0 at refl ok (ok.fate (standing (take l.0 m.decrees)).epoch (standing m.decrees).n (standing (take l.0 m.decrees)).token (standing m.decrees).token who.3) in
    record {
      executor = who.0;
      durable = x.0;
      state = s.state;
      not_lost = who.2;
      there = x.1;
      keeps = s.keeps;
      is_met = s.is_met;
      number = s.number;
      token = s.of_token;
    })
    (last_commit m.decrees (length m.decrees) (omega arith))
