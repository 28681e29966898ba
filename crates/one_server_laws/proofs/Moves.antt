-- What becomes of the machine if one executor saves and says something.
use Rattle.std.proofs.Common.{◌≡◌, ℕ, zero, suc, ◌<◌, ◌≤◌, ◌⊎◌, Bool, false, List, [], ◌∷◌, ◌++◌, length, take, Some, inl, inr, refl, sym, ◌∙◌, ap, ⊎_elim, slice_get, slice_set}
use Rattle.std.specs.Prelude.{Contains, ◌==◌, if◌then◌else◌}
use Rattle.std.proofs.lemmas.Bool.{cond_both}
use Rattle.std.proofs.lemmas.List.{append-nil}
use Rattle.std.proofs.lemmas.List.Elements.{Contains-append_cases}
use Rattle.decrees.specs.declared.decree.Decree.{Decree}
use Rattle.decrees.specs.declared.ballot.Ballot.{Ballot}
use Rattle.decrees.specs.declared.ballot.Ballot.TheVariants.{Token, Ask}
use Rattle.decrees.specs.declared.node.Letter.{Letter}
use Rattle.decrees.specs.declared.node.Node.{Node}
use Rattle.decrees.specs.declared.node.Node.TheVariants.{Executor, Verifier}
use Rattle.decrees.specs.Count.{member_count}
use Rattle.decrees.specs.Standing.{standing}
use Rattle.states.specs.State.{StateView}
use Rattle.executor.specs.declared.answered.Answered.{Answered}
use Rattle.executor.specs.Work.{TentativeView}
use Rattle.rollback.specs.Chain.{tip}
use Rattle.exec_lines.specs.declared.body.Body.{Body}
use Rattle.exec_lines.specs.declared.body.Body.TheVariants as body
use Rattle.exec_lines.specs.State.{executor_letter, to_first_verifiers, to_first_executors, to_clients}
use Rattle.agreement_laws.specs.Letters.{Letters, here, there}
use Rattle.run_laws.specs.Run.{Executed}
use Rattle.run_laws.specs.Met.{IsTold}
use Rattle.run_laws.proofs.Elements.{in_none, first_or_other}
use Rattle.custody_laws.specs.Durable.{Durable, obeyed, durable_stood, executed_of, IsMember, In, first, later, Keeps}
use Rattle.custody_laws.specs.Machine.{ExecutorMachine, said_of, HaveNoToken, Hear, Complete, Obey, Stand, Take}
use Rattle.world_laws.specs.Ballots.{ballot_of, ballots}
use Rattle.world_laws.proofs.BallotLemmas.{ballots-append}
use Rattle.worlds.proofs.SlotLemmas.{set_get}
use Rattle.one_server_laws.specs.Saved.{HasExecuted}
use Rattle.one_server_laws.proofs.Steps.{Steps, none, more, said_below, say_all}

-- ---- ballots among an executor's letters

-- there are none among letters to other executors
pub no_ballots : (id n : ℕ) (b : Body) → ((to : Node) → ballot_of (executor_letter id to b) b ≡ []) → ballots (to_first_executors id n b) ≡ []
no_ballots id zero b h = refl
no_ballots id (suc n) b h =
    ballots-append (to_first_executors id n b) (if n == id then [] else executor_letter id (Executor n) b ∷ [])
    ∙ ((λ i. no_ballots id n b h i ++ ballots (if n == id then [] else executor_letter id (Executor n) b ∷ []))
    ∙ cond_both (n == id) [] (executor_letter id (Executor n) b ∷ []) (λ (ls : List (Letter Body)). ballots ls ≡ []) (λ _. refl)
    (λ _. append-nil (ballot_of (executor_letter id (Executor n) b) b) ∙ h (Executor n)))

-- nor among answers to clients
pub no_replies : (id : ℕ) (answered : List Answered) → ballots (to_clients id answered) ≡ []
no_replies id [] = refl
no_replies id (a ∷ answered) = no_replies id answered

pub ballots_are : (id n : ℕ) (b : Ballot) → ballots (to_first_verifiers id n b) ≡ said_below id n b
ballots_are id zero b = refl
ballots_are id (suc n) b =
    ballots-append (to_first_verifiers id n b) (executor_letter id (Verifier n) (body.Ballot b) ∷ []) ∙ ap (λ (z : Letters). z ++ record { from = Executor id; to = Verifier n; body = b } ∷ []) (ballots_are id n b)

pub none_told : HaveNoToken []
none_told e epoch n previous t s = elim s [ ]

pub no_token : (l : Letter Ballot) (place : ℕ) → l.body ≡ Ask place → HaveNoToken (l ∷ [])
no_token l place is e epoch n previous t (here a b) = let clash : Ask place ≡ Token epoch n previous t = sym is ∙ b in cc clash
no_token l place is e epoch n previous t (there h) = elim h [ ]

-- ---- what becomes of the machine

pub set_same : (xs : List Durable) (e : ℕ) (x : Durable) → slice_get xs e ≡ Some x → slice_set xs e x ≡ xs
set_same [] e x at = absurd (cc)
set_same (y ∷ xs) zero x at = let same : y ≡ x = cc at in ap (λ (z : Durable). z ∷ xs) (sym same)
set_same (y ∷ xs) (suc e) x at = ap (λ (z : List Durable). y ∷ z) (set_same xs e x at)

-- The executor has saved this, and these ballots were sent. What is new of history is its own; if it only says again what it had, nothing is.
pub record Moves (calm : Bool) (u e : ℕ) (m : ExecutorMachine) (saved : Durable) (sent : Letters) : Type 0 where
  pub now : ExecutorMachine
  pub steps : Steps u m now
  pub executors : now.executors ≡ slice_set m.executors e saved
  pub letters : now.letters ≡ m.letters ++ sent
  pub decrees : now.decrees ≡ m.decrees
  pub met_from : (s : StateView) → Contains now.met s → Contains m.met s ⊎ ((calm ≡ false) × Keeps saved s)
  pub rounds_from : (r : Executed) → Contains now.rounds r → Contains m.rounds r ⊎ ((calm ≡ false) × HasExecuted saved r)

last_in : (ts : List TentativeView) (t : TentativeView) → In t (ts ++ t ∷ [])
last_in [] t = first refl
last_in (y ∷ ts) t = later (last_in ts t)

module _ (u e : ℕ) (m : ExecutorMachine) (x : Durable) (at : slice_get m.executors e ≡ Some x) where
  -- nothing is saved, and no token is sent
  pub heard_moves : (calm : Bool) (sent : Letters) → HaveNoToken sent → Moves calm u e m x sent
  heard_moves calm sent others = record {
    now = record m { letters = m.letters ++ sent };
    steps = more none (Hear sent others);
    executors = sym (set_same m.executors e x at);
    letters = refl;
    decrees = refl;
    met_from = λ s c. inl c;
    rounds_from = λ r c. inl c;
  }

  -- the state after this member, and the round that made it
  met_last : (t : TentativeView) (s : StateView) → Contains (m.met ++ t.after ∷ []) s → Contains m.met s ⊎ ((false ≡ false) × Keeps (record x { chain = x.chain ++ t ∷ [] }) s)
  met_last t s c = ⊎_elim inl
      (λ r. ⊎_elim (λ (same : t.after ≡ s). inr (refl, inr (t, last_in x.chain t, same))) (λ n. absurd (in_none s n)) (first_or_other t.after s [] r))
      (Contains-append_cases m.met (t.after ∷ []) s c)

  round_last : (ordered : Bool) (t : TentativeView) (r : Executed) → Contains (m.rounds ++ executed_of ordered t ∷ []) r → Contains m.rounds r ⊎ ((false ≡ false) × HasExecuted (record x { chain = x.chain ++ t ∷ [] }) r)
  round_last ordered t r c = ⊎_elim inl
      (λ k. ⊎_elim (λ (same : executed_of ordered t ≡ r). inr (refl, (ordered, t, last_in x.chain t, same))) (λ n. absurd (in_none r n)) (first_or_other (executed_of ordered t) r [] k))
      (Contains-append_cases m.rounds (executed_of ordered t ∷ []) r c)

  -- a member is made, and said to all verifiers
  pub made_moves : (t : TentativeView) → IsMember x.standing.epoch (tip x.have x.chain) t → x.have.number ≡ x.standing.n → Moves false u e m (record x { chain = x.chain ++ t ∷ [] }) (said_below e (member_count u) (said_of t))
  made_moves t member level = record {
    now = record { executors = slice_set m.executors e (record x { chain = x.chain ++ t ∷ [] }); letters = m.letters ++ said_below e (member_count u) (said_of t); decrees = m.decrees; met = m.met ++ t.after ∷ []; rounds = m.rounds ++ executed_of member.ordered t ∷ [] };
    steps = say_all u e m (record m { executors = slice_set m.executors e (record x { chain = x.chain ++ t ∷ [] }); met = m.met ++ t.after ∷ []; rounds = m.rounds ++ executed_of member.ordered t ∷ [] }) (record x { chain = x.chain ++ t ∷ [] }) t (member_count u)
        (set_get m.executors e (record x { chain = x.chain ++ t ∷ [] }) x at) (last_in x.chain t) (more none (Complete e x t at level member));
    executors = refl;
    letters = refl;
    decrees = refl;
    met_from = met_last t;
    rounds_from = round_last member.ordered t;
  }

  -- the same if it stops with the new record
  pub made_alone : (t : TentativeView) → IsMember x.standing.epoch (tip x.have x.chain) t → x.have.number ≡ x.standing.n → Moves false u e m (record x { chain = x.chain ++ t ∷ [] }) []
  made_alone t member level = record {
    now = record m { executors = slice_set m.executors e (record x { chain = x.chain ++ t ∷ [] }); met = m.met ++ t.after ∷ []; rounds = m.rounds ++ executed_of member.ordered t ∷ [] };
    steps = more none (Complete e x t at level member);
    executors = refl;
    letters = sym (append-nil m.letters);
    decrees = refl;
    met_from = met_last t;
    rounds_from = round_last member.ordered t;
  }

  -- a decree is obeyed, and these letters have no token
  pub obeyed_moves : (d : Decree) (sent : Letters) → slice_get m.decrees x.known ≡ Some d → HaveNoToken sent → Moves false u e m (obeyed x d) sent
  obeyed_moves d sent got others = record {
    now = record m { executors = slice_set m.executors e (obeyed x d); letters = m.letters ++ sent };
    steps = more (more none (Obey e x d at got)) (Hear sent others);
    executors = refl;
    letters = refl;
    decrees = refl;
    met_from = λ s c. inl c;
    rounds_from = λ r c. inl c;
  }

  -- it is told what stands after more decrees, and these letters have no token
  pub stood_moves : (place : ℕ) (sent : Letters) → x.known < place → place ≤ length m.decrees → HaveNoToken sent → Moves false u e m (durable_stood x place (standing (take place m.decrees))) sent
  stood_moves place sent beyond within others = record {
    now = record m { executors = slice_set m.executors e (durable_stood x place (standing (take place m.decrees))); letters = m.letters ++ sent };
    steps = more (more none (Stand e x place at beyond within)) (Hear sent others);
    executors = refl;
    letters = refl;
    decrees = refl;
    met_from = λ s c. inl c;
    rounds_from = λ r c. inl c;
  }

  -- a state is taken
  pub taken_moves : (s : StateView) → x.have.number < x.standing.n → s.number ≡ x.standing.n → s.token ≡ x.standing.token → IsTold s → Moves false u e m (record x { have = s; chain = [] }) []
  taken_moves s behind number of_token told = record {
    now = record m { executors = slice_set m.executors e (record x { have = s; chain = [] }); met = m.met ++ s ∷ [] };
    steps = more none (Take e x s at behind number of_token told);
    executors = refl;
    letters = sym (append-nil m.letters);
    decrees = refl;
    met_from = λ y c. ⊎_elim inl
        (λ r. ⊎_elim (λ (same : s ≡ y). inr (refl, inl same)) (λ n. absurd (in_none y n)) (first_or_other s y [] r))
        (Contains-append_cases m.met (s ∷ []) y c);
    rounds_from = λ r c. inl c;
  }
