-- The run of decrees is made round by round.
use Rattle.std.proofs.Common.{◌≡◌, ℕ, suc, ◌+◌, ◌-◌, inl, inr, List, [], ◌∷◌, ◌++◌, length, take, Some, refl, sym, ap, ◌∙◌, subst, arith}
use Rattle.std.specs.Prelude.{Contains, slice_get, fold, None, ◌==◌}
use Rattle.std.proofs.lemmas.Bool.{cond_both, eqb-true}
use Rattle.std.proofs.lemmas.List.{map-append}
use Rattle.token.specs.declared.Token.{Token}
use Rattle.decrees.specs.declared.decree.Decree.{Decree}
use Rattle.decrees.specs.declared.decree.Decree.TheVariants.{Commit, Rollback}
use Rattle.decrees.specs.declared.standing.Standing.{Standing}
use Rattle.decrees.specs.Standing.{standing, first_standing, standing_after, decree_at}
use Rattle.states.specs.State.{StateView, initial_state}
use Rattle.run_laws.specs.Met.{AreAll, IsKnown, ToldApart}
use Rattle.run_laws.specs.Run.{Executed, IsOver, IsRunFrom, made_in, states_of, Extends}
use Rattle.run_laws.specs.Chosen.{IsMade, AllMade, IsRunOf, IsCommitted, commits, known_by}
use Rattle.run_laws.specs.Laws.{HasRun, OneRun, RunGrows, CommittedIsOfRun, RunEnds}
use Rattle.run_laws.proofs.Elements.{in_head, in_tail, in_none, first_or_other, all_both, all_cons}
use Rattle.run_laws.proofs.Tokens.{is_first, both_tell}

-- ---- decrees of which each is made, one after another

abbrev MadeFrom : (StateView → Type 0) → (Executed → Type 0) → Standing → List Decree → Type 0
MadeFrom met rounds s [] = Unit {0}
MadeFrom met rounds s (d ∷ ds) = IsMade met rounds s d × MadeFrom met rounds (standing_after s d) ds

made_from : (met : StateView → Type 0) (rounds : Executed → Type 0) (s : Standing) (ds : List Decree) → ((i : ℕ) (d : Decree) → slice_get ds i ≡ Some d → IsMade met rounds (fold standing_after s (take i ds)) d) → MadeFrom met rounds s ds
made_from met rounds s [] h = tt
made_from met rounds s (d ∷ ds) h = (h 0 d refl, made_from met rounds (standing_after s d) ds (λ i e at. h (suc i) e at))

-- places are counted from 1
at_next : (ds : List Decree) (i : ℕ) (d : Decree) → slice_get ds i ≡ Some d → decree_at ds (i + 1) ≡ Some d
at_next ds i d at = cond_both (i + 1 == 0) None (slice_get ds (i + 1 - 1)) (λ o. o ≡ Some d)
    (λ none. let no_place = eqb-true (i + 1) 0 none in absurd (omega (arith, no_place)))
    (λ _. let same : i ≡ i + 1 - 1 = omega arith in subst (λ k. slice_get ds k ≡ Some d) same at)

all_made_from : (met : StateView → Type 0) (rounds : Executed → Type 0) (ds : List Decree) → AllMade met rounds ds → MadeFrom met rounds first_standing ds
all_made_from met rounds ds h = made_from met rounds first_standing ds (λ i d at.
    let same : i + 1 - 1 ≡ i = omega arith in
    subst (λ k. IsMade met rounds (standing (take k ds)) d) same (h (i + 1) d (at_next ds i d at)))

made_later : (met : StateView → Type 0) (rounds : Executed → Type 0) (s : Standing) (ds more : List Decree) → MadeFrom met rounds s (ds ++ more) → MadeFrom met rounds (fold standing_after s ds) more
made_later met rounds s [] more h = h
made_later met rounds s (d ∷ ds) more h = made_later met rounds (standing_after s d) ds more h.1

-- ---- runs in parts

-- the state that a run from this one ends with
abbrev end_of : StateView → List Executed → StateView
end_of s [] = s
end_of s (e ∷ es) = end_of e.new es

run_on : (s : StateView) (run more : List Executed) → IsRunFrom s run → IsRunFrom (end_of s run) more → IsRunFrom s (run ++ more)
run_on s [] more h k = k
run_on s (e ∷ es) more h k = (h.0, run_on e.new es more h.1 k)

commits-append : (ds more : List Decree) → commits (ds ++ more) ≡ commits ds ++ commits more
commits-append [] more = refl
commits-append (Commit n t ∷ ds) more = ap (λ (l : List (ℕ × Token)). (n, t) ∷ l) (commits-append ds more)
commits-append (Rollback ∷ ds) more = commits-append ds more

end_known : (met : StateView → Type 0) (s : StateView) (run : List Executed) → IsKnown met s → AreAll (made_in run) met → IsKnown met (end_of s run)
end_known met s [] k h = k
end_known met s (e ∷ es) k h = end_known met e.new es (inr (h e.new (in_head e.new (made_in es)))) (λ x c. h x (in_tail e.new x (made_in es) c))

-- the number and the token of a state are the standing ones
abbrev Stands : Standing → StateView → Type 0
Stands st s = (s.number ≡ st.n) × (s.token ≡ st.token)

-- a run that has the numbers and tokens of decrees ends with those that the decrees stand for
end_stands : (st : Standing) (s : StateView) (ds : List Decree) (run : List Executed) → Stands st s → known_by run ≡ commits ds → Stands (fold standing_after st ds) (end_of s run)
end_stands st s [] [] h e = h
end_stands st s [] (x ∷ run) h e = absurd (cc e)
end_stands st s (Rollback ∷ ds) run h e = end_stands (standing_after st Rollback) s ds run h e
end_stands st s (Commit n t ∷ ds) [] h e = absurd (cc e)
end_stands st s (Commit n t ∷ ds) (x ∷ run) h e =
    let first : ◌≡◌ {A = ℕ × Token} (x.new.number, x.new.token) (n, t) = cc e in
    let others : known_by run ≡ commits ds = cc e in
    end_stands (standing_after st (Commit n t)) x.new ds run (ap (λ (p : ℕ × Token). p.0) first, ap (λ (p : ℕ × Token). p.1) first) others

-- ---- more rounds

-- rounds for decrees, from what stands
record Rounds (met : StateView → Type 0) (rounds : Executed → Type 0) (s : StateView) (ds : List Decree) : Type 0 where
  run : List Executed
  follows : IsRunFrom s run
  known : known_by run ≡ commits ds
  all_met : AreAll (made_in run) met
  all_known : AreAll run rounds

module _ (met : StateView → Type 0) (rounds : Executed → Type 0) (apart : ToldApart met) where
  more_rounds : (ds : List Decree) (st : Standing) (s : StateView) → IsKnown met s → Stands st s → MadeFrom met rounds st ds → Rounds met rounds s ds
  more_rounds [] st s k h m = record { run = []; follows = tt; known = refl; all_met = λ x c. absurd (in_none x c); all_known = λ x c. absurd (in_none x c) }
  more_rounds (Rollback ∷ ds) st s k h m =
      let rest = more_rounds ds (standing_after st Rollback) s k h m.1 in
      record { run = rest.run; follows = rest.follows; known = rest.known; all_met = rest.all_met; all_known = rest.all_known }
  more_rounds (Commit n t ∷ ds) st s k h m =
      let made = m.0 in
      let e = made.executed in
      let base = both_tell met apart s made.old k made.old_known (h.0 ∙ sym made.old_number) (h.1 ∙ sym made.old_token) in
      let rest = more_rounds ds (standing_after st (Commit n t)) e.new (inr made.new_met) (made.new_number, made.new_token) m.1 in
      record {
        run = e ∷ rest.run;
        follows = (subst (λ (x : StateView). IsOver x e) (sym base) made.is_over, rest.follows);
        known = λ i. (made.new_number i, made.new_token i) ∷ rest.known i;
        all_met = all_cons met e.new (made_in rest.run) made.new_met rest.all_met;
        all_known = all_cons rounds e rest.run made.known_round rest.all_known;
      }

-- a run grows if more is met and more executed, be it by lists or by what a play says
module _ (met later_met : StateView → Type 0) (rounds later_rounds : Executed → Type 0) where
  pub grows : (ds more : List Decree) (run : List Executed) → ((s : StateView) → met s → later_met s) → ((e : Executed) → rounds e → later_rounds e) → ToldApart later_met → AllMade later_met later_rounds (ds ++ more) → IsRunOf met rounds ds run
      → (later : List Executed) × Extends run later × IsRunOf later_met later_rounds (ds ++ more) later
  grows ds more run among made_among apart made built =
      let stands = end_stands first_standing initial_state ds run (refl, refl) built.one_each in
      let within : AreAll (made_in run) later_met = λ x c. among x (built.states_met x c) in
      let rest = more_rounds later_met later_rounds apart more (standing ds) (end_of initial_state run) (end_known later_met initial_state run (inl refl) within) stands (made_later later_met later_rounds first_standing ds more (all_made_from later_met later_rounds (ds ++ more) made)) in (
        run ++ rest.run,
        (rest.run, refl),
        record {
          follows = run_on initial_state run rest.run built.follows rest.follows;
          one_each = map-append (λ (e : Executed). (e.new.number, e.new.token)) run rest.run ∙ ((λ i. built.one_each i ++ rest.known i) ∙ sym (commits-append ds more));
          states_met = subst (λ l. AreAll l later_met) (sym (map-append (λ (e : Executed). e.new) run rest.run)) (all_both later_met (made_in run) (made_in rest.run) within rest.all_met);
          known_rounds = all_both later_rounds run rest.run (λ x c. made_among x (built.known_rounds x c)) rest.all_known;
        },
      )

pub run_grows : RunGrows
run_grows met later_met rounds later_rounds ds more run among made_among apart made built = grows (Contains met) (Contains later_met) (Contains rounds) (Contains later_rounds) ds more run among made_among apart made built

pub has : (met : StateView → Type 0) (rounds : Executed → Type 0) (ds : List Decree) → ToldApart met → AllMade met rounds ds → (run : List Executed) × IsRunOf met rounds ds run
has met known ds apart made =
    let rounds = more_rounds met known apart ds first_standing initial_state (inl refl) (refl, refl) (all_made_from met known ds made) in
    (rounds.run, record { follows = rounds.follows; one_each = rounds.known; states_met = rounds.all_met; known_rounds = rounds.all_known })

pub has_run : HasRun
has_run met rounds ds apart made = has (Contains met) (Contains rounds) ds apart made

-- ---- the states of a run

module _ (met : StateView → Type 0) (apart : ToldApart met) where
  same_states : (run other : List Executed) → AreAll (made_in run) met → AreAll (made_in other) met → known_by run ≡ known_by other → made_in run ≡ made_in other
  same_states [] [] p q e = refl
  same_states [] (y ∷ other) p q e = absurd (cc e)
  same_states (x ∷ run) [] p q e = absurd (cc e)
  same_states (x ∷ run) (y ∷ other) p q e =
      let first : ◌≡◌ {A = ℕ × Token} (x.new.number, x.new.token) (y.new.number, y.new.token) = cc e in
      let others : known_by run ≡ known_by other = cc e in
      let one = both_tell met apart x.new y.new (inr (p x.new (in_head x.new (made_in run)))) (inr (q y.new (in_head y.new (made_in other)))) (ap (λ (z : ℕ × Token). z.0) first) (ap (λ (z : ℕ × Token). z.1) first) in
      let rest = same_states run other (λ z c. p z (in_tail x.new z (made_in run) c)) (λ z c. q z (in_tail y.new z (made_in other) c)) others in
      λ i. one i ∷ rest i

pub one_run : OneRun
one_run met rounds ds run other apart built same =
    ap (λ (l : List StateView). initial_state ∷ l) (same_states (Contains met) apart run other built.states_met same.states_met (built.one_each ∙ sym same.one_each))

-- a Commit among decrees is one of their Commits
commit_in : (ds : List Decree) (n : ℕ) (t : Token) → Contains ds (Commit n t) → Contains (commits ds) (n, t)
commit_in [] n t c = absurd (in_none (Commit n t) c)
commit_in (Rollback ∷ ds) n t c = elim (first_or_other Rollback (Commit n t) ds c) [
  | inl e ↦ absurd (cc e)
  | inr there ↦ commit_in ds n t there
]
commit_in (Commit m u ∷ ds) n t c = elim (first_or_other (Commit m u) (Commit n t) ds c) [
  | inl e ↦
      let number : m ≡ n = cc e in
      let token : u ≡ t = cc e in
      subst (λ (p : ℕ × Token). Contains ((m, u) ∷ commits ds) p) (λ i. (number i, token i)) (in_head (m, u) (commits ds))
  | inr there ↦ in_tail (m, u) (n, t) (commits ds) (commit_in ds n t there)
]

-- a state of the run from this one, so many rounds later
record Found (old : StateView) (run : List Executed) (n : ℕ) (t : Token) : Type 0 where
  state : StateView
  number : state.number ≡ n
  token : state.token ≡ t
  among : Contains (made_in run) state
  index : ℕ
  counted : n ≡ old.number + index
  there : slice_get (old ∷ made_in run) index ≡ Some state

find : (old : StateView) (run : List Executed) (n : ℕ) (t : Token) → IsRunFrom old run → Contains (known_by run) (n, t) → Found old run n t
find old [] n t h c = absurd (in_none (n, t) c)
find old (e ∷ es) n t h c = elim (first_or_other (e.new.number, e.new.token) (n, t) (known_by es) c) [
  | inl same ↦
      let number = ap (λ (p : ℕ × Token). p.0) same in
      record {
        state = e.new;
        number = number;
        token = ap (λ (p : ℕ × Token). p.1) same;
        among = in_head e.new (made_in es);
        index = 1;
        counted = sym number ∙ h.0.next;
        there = refl;
      }
  | inr later ↦
      let f = find e.new es n t h.1 later in
      record {
        state = f.state;
        number = f.number;
        token = f.token;
        among = in_tail e.new f.state (made_in es) f.among;
        index = suc f.index;
        counted = omega (arith, f.counted, h.0.next);
        there = f.there;
      }
]

module _ (met : StateView → Type 0) (rounds : Executed → Type 0) where
  pub of_run : (ds : List Decree) (run : List Executed) (s : StateView) → ToldApart met → IsRunOf met rounds ds run → IsKnown met s → IsCommitted ds s → slice_get (states_of run) s.number ≡ Some s
  of_run ds run s apart built c (inl none) =
      subst (λ (k : ℕ). slice_get (states_of run) k ≡ Some s) (sym none) (ap (λ (x : StateView). Some x) (sym (is_first met apart s c none)))
  of_run ds run s apart built c (inr committed) =
      let known = subst (λ l. Contains l (s.number, s.token)) (sym built.one_each) (commit_in ds s.number s.token committed) in
      let f = find initial_state run s.number s.token built.follows known in
      let same = both_tell met apart f.state s (inr (built.states_met f.state f.among)) c f.number f.token in
      let place : f.index ≡ s.number = omega (arith, f.counted) in
      subst (λ (k : ℕ). slice_get (states_of run) k ≡ Some s) place (f.there ∙ ap (λ (x : StateView). Some x) same)

pub committed_is_of_run : CommittedIsOfRun
committed_is_of_run met rounds ds run s apart built c d = of_run (Contains met) (Contains rounds) ds run s apart built c d

-- the last state of a run, and how many rounds it had
end_at : (s : StateView) (run : List Executed) → slice_get (s ∷ made_in run) (length run) ≡ Some (end_of s run)
end_at s [] = refl
end_at s (e ∷ es) = end_at e.new es

end_number : (s : StateView) (run : List Executed) → IsRunFrom s run → (end_of s run).number ≡ s.number + length run
end_number s [] h = omega arith
end_number s (e ∷ es) h = omega (arith, end_number e.new es h.1, h.0.next)

pub run_ends : RunEnds
run_ends met rounds ds run built =
    let stands = end_stands first_standing initial_state ds run (refl, refl) built.one_each in
    record {
      count = omega (arith, end_number initial_state run built.follows, stands.0);
      last = end_of initial_state run;
      is_last = end_at initial_state run;
      number = stands.0;
      token = stands.1;
    }
