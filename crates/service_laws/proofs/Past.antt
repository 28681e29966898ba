-- Commands that are asked in turn are executed in turn.
use Rattle.std.proofs.Common.{◌≡◌, ◌⊎◌, ℕ, zero, suc, ◌+◌, ◌≤◌, inl, inr, List, [], ◌∷◌, ◌++◌, length, take, Some, refl, sym, ap, ◌∙◌, subst, arith, append_assoc}
use Rattle.std.specs.Prelude.{slice_get, Contains}
use Rattle.std.proofs.lemmas.List.{append-nil}
use Rattle.std.proofs.lemmas.Option.{slice_get_within}
use Rattle.sessions.specs.declared.request.Request.{Request}
use Rattle.sessions.specs.Fresh.{next_number}
use Rattle.states.specs.State.{StateView, initial_state}
use Rattle.executor.specs.declared.answered.Answered.{Answered}
use Rattle.memcached_spec.specs.Asked.{IsAsked}
use Rattle.memcached_spec.specs.Fed.{fed_to}
use Rattle.memcached_spec.specs.Server.{Line}
use Rattle.events.specs.declared.event.Event.{Event}
use Rattle.events.specs.Config.{ConfigView}
use Rattle.worlds.specs.World.{WorldView, EndsWith, last_world, IsReached}
use Rattle.run_laws.specs.Run.{Executed, IsOver, IsRunFrom, Extends}
use Rattle.run_laws.proofs.Replies.{runs_next}
use Rattle.one_server_laws.specs.Saved.{IsMet, DigestsAreDistinct}
use Rattle.one_server_laws.specs.Run.{IsRun}
use Rattle.one_server_laws.specs.InTime.{IsRunInTime, RunsGrowInTime, IsOneServerInTime, WorldsAreInTime}
use Rattle.connections.proofs.TakeLemmas.{contains_at}
use Rattle.service.specs.declared.assignment.Assignment.{Assignment}
use Rattle.linear_laws.proofs.Rounds.{RoundMade, runner_in}
use Rattle.linear_laws.proofs.Runs.{IsMadeOf, made_of_run}
use Rattle.service_laws.specs.Orders.{RanInTurn, AreAskedInTurn}
use Rattle.service_laws.proofs.ConnectionRuns.{answer_ran}

extends_on : (a b c : List Executed) → Extends a b → Extends b c → Extends a c
extends_on a b c x y = (x.0 ++ y.0, y.1 ∙ (ap (λ (r : List Executed). r ++ y.0) x.1 ∙ append_assoc a x.0 y.0))

-- each world has a run, which the last one begins with
abbrev pub RunThere : (StateView → Type 0) → List Event → List Event → List WorldView → List Executed → Type 0
RunThere met past es worlds later = (k : ℕ) (x : WorldView) → slice_get worlds k ≡ Some x → (r : List Executed) × IsRun met (past ++ take k es) x r × Extends r later

runs : (met : StateView → Type 0) (past : List Event) (run : List Executed) (w : WorldView) (es : List Event) (xs : List WorldView) → IsRunInTime met past w run → RunsGrowInTime met past run es xs
    → (later : List Executed) × IsRunInTime met (past ++ es) (last_world w xs) later × Extends run later × RunThere met past es (w ∷ xs) later
runs met past run w [] [] is grows = (
  run,
  subst (λ (all : List Event). IsRunInTime met all w run) (sym (append-nil past)) is,
  ([], sym (append-nil run)),
  λ k x at. here k x at,
)
  where
    here : (k : ℕ) (x : WorldView) → slice_get (w ∷ []) k ≡ Some x → (r : List Executed) × IsRun met (past ++ take k []) x r × Extends r run
    here zero x at = let same : w ≡ x = cc at in (run, subst (λ (y : WorldView). IsRun met (past ++ []) y run) same (subst (λ (all : List Event). IsRun met all w run) (sym (append-nil past)) is.is_run), ([], sym (append-nil run)))
    here (suc k) x at = absurd (cc at)
runs met past run w [] (x ∷ xs) is grows = absurd grows
runs met past run w (e ∷ es) [] is grows = absurd grows
runs met past run w (e ∷ es) (x ∷ xs) is grows = by (runs met (past ++ e ∷ []) grows.0 x es xs grows.2 grows.3)
  where
    by : (later : List Executed) × IsRunInTime met ((past ++ e ∷ []) ++ es) (last_world x xs) later × Extends grows.0 later × RunThere met (past ++ e ∷ []) es (x ∷ xs) later
        → (later : List Executed) × IsRunInTime met (past ++ e ∷ es) (last_world x xs) later × Extends run later × RunThere met past (e ∷ es) (w ∷ x ∷ xs) later
    by (later, is_later, extends, there) = (
      later,
      subst (λ (all : List Event). IsRunInTime met all (last_world x xs) later) (append_assoc past (e ∷ []) es) is_later,
      extends_on run grows.0 later grows.1 extends,
      λ k y at. at_each k y at,
    )
      where
        at_each : (k : ℕ) (y : WorldView) → slice_get (w ∷ x ∷ xs) k ≡ Some y → (r : List Executed) × IsRun met (past ++ take k (e ∷ es)) y r × Extends r later
        at_each zero y at = let same : w ≡ y = cc at in (run, subst (λ (z : WorldView). IsRun met (past ++ []) z run) same (subst (λ (all : List Event). IsRun met all w run) (sym (append-nil past)) is.is_run), extends_on run grows.0 later grows.1 extends)
        at_each (suc k) y at = let r = there k y at in (r.0, subst (λ (all : List Event). IsRun met all y r.0) (append_assoc past (e ∷ []) (take k es)) r.1, r.2)

pub take_front : {X : Type 0} (xs ys : List X) → take (length xs) (xs ++ ys) ≡ xs
take_front [] ys = refl
take_front {X} (x ∷ xs) ys = ap (λ (l : List X). x ∷ l) (take_front xs ys)

pub in_front : {X : Type 0} (xs ys : List X) (k : ℕ) (x : X) → slice_get xs k ≡ Some x → slice_get (xs ++ ys) k ≡ Some x
in_front [] ys k x at = absurd (cc at)
in_front (y ∷ xs) ys zero x at = at
in_front (y ∷ xs) ys (suc k) x at = in_front xs ys k x at

pub front_or_behind : {X : Type 0} (xs ys : List X) (k : ℕ) (x : X) → slice_get (xs ++ ys) k ≡ Some x → (slice_get xs k ≡ Some x) ⊎ (length xs ≤ k)
front_or_behind [] ys k x at = inr (omega arith)
front_or_behind (y ∷ xs) ys zero x at = inl at
front_or_behind (y ∷ xs) ys (suc k) x at = elim (front_or_behind xs ys k x at) [
  | inl there ↦ inl there
  | inr le ↦ inr (omega (arith, le))
]

-- ---- a round and what it answers

round_there : (s : StateView) (run : List Executed) (lines : List Line) (made : IsMadeOf s run lines) → IsRunFrom s run → (place : ℕ) (e : Executed) → slice_get run place ≡ Some e → (old : StateView) × IsOver old e × (first : List Line) × RoundMade old e first
round_there s [] lines made h place e at = absurd (cc at)
round_there s (x ∷ run) lines made h zero e at = let same : x ≡ e = cc at in subst (λ (y : Executed). (old : StateView) × IsOver old y × (first : List Line) × RoundMade old y first) same (s, h.0, made.0, made.3)
round_there s (x ∷ run) lines made h (suc place) e at = round_there x.new run made.1 made.4 h.1 place e at

request_of_answer : (run : List Executed) → IsRunFrom initial_state run → (place : ℕ) (e : Executed) → slice_get run place ≡ Some e → (x : Answered) → Contains e.replies x → (q : Request) × Contains e.batch.requests q × (q.client ≡ x.client) × (q.number ≡ x.number)
request_of_answer run follows place e at x given =
    let m = made_of_run initial_state run follows in
    let r = round_there initial_state run m.0 m.1 follows place e at in
    let one = answer_ran r.0 e r.1 r.2 r.3 x given in
    let q = one.0.runner.1 in
    let number : q.number ≡ next_number r.0.sessions x.client = runs_next r.0.sessions [] e.batch.requests one.0.runner one.0.runs ∙ ap (next_number r.0.sessions) one.0.client in
    (q, runner_in r.0 e.batch one.0.runner one.0.runs, one.0.client, number ∙ sym one.1)

module _ (met : StateView → Type 0) (events : List Event) (worlds : List WorldView) (w : WorldView) (run : List Executed) (is_run : IsRun met events w run) (there : RunThere met [] events worlds run) (assignments : List Assignment) (asked : AreAskedInTurn events worlds assignments) where
  ran_in_turn : RanInTurn run assignments
  ran_in_turn b place t in_b ran from_one lt =
      let y = asked b t in_b from_one lt in
      let before = y.4.before in
      let r = there (length before) y.4.now y.4.there in
      let front : take (length before) events ≡ before = ap (take (length before)) y.4.split ∙ take_front before y.4.after in
      let is : IsRun met before y.4.now r.0 = subst (λ (all : List Event). IsRun met all y.4.now r.0) front r.1 in
      let was = is.replied y.0.proxy y.0.number y.4.reply y.4.sent in
      let was_there : slice_get run was.place ≡ Some was.given.executed = ap (λ (l : List Executed). slice_get l was.place) r.2.1 ∙ in_front r.0 r.2.0 was.place was.given.executed was.given.there in
      let within = slice_get_within r.0 was.place was.given.executed was.given.there in
      let at : slice_get (r.0 ++ r.2.0) place ≡ Some ran.1.executed = ap (λ (l : List Executed). slice_get l place) (sym r.2.1) ∙ ran.1.there in
      elim (front_or_behind r.0 r.2.0 place ran.1.executed at) [
        | inl early ↦
            let q = request_of_answer r.0 is.follows place ran.1.executed early ran.0 ran.1.given in
            let was_asked = is.asked ran.1.executed q.0 (contains_at r.0 place ran.1.executed early) q.1 in
            absurd (y.4.not_asked q.0.command (subst (λ (k : ℕ × ℕ). IsAsked (fed_to k.0 before) k.1 q.0.command) (λ i. ((q.2 ∙ ran.2) i, (q.3 ∙ ran.3) i)) was_asked))
        | inr late ↦ (y.0, y.1, y.2, y.3, was.place, omega (arith, within, late), (was.answered, record { executed = was.given.executed; there = was_there; given = was.given.given }, was.client_is, was.number_is))
      ]

run_in_turn : (events : List Event) (worlds : List WorldView) (w : WorldView) (assignments : List Assignment) → IsOneServerInTime events worlds → EndsWith worlds w → AreAskedInTurn events worlds assignments
    → (run : List Executed) × IsRunInTime (IsMet worlds) events w run × RanInTurn run assignments × RunThere (IsMet worlds) [] events worlds run
run_in_turn events [] w assignments shows ends asked = absurd shows
run_in_turn events (first ∷ later) w assignments shows ends asked =
    let last = runs (IsMet (first ∷ later)) [] shows.0 first events later shows.1 shows.2 in
    let is : IsRunInTime (IsMet (first ∷ later)) events w last.0 = subst (λ (x : WorldView). IsRunInTime (IsMet (first ∷ later)) events x last.0) ends last.1 in
    (last.0, is, ran_in_turn (IsMet (first ∷ later)) events (first ∷ later) w last.0 is.is_run last.3 assignments asked, last.3)

-- the world that events lead to has a run in which commands that were asked in turn are executed in turn; it goes on where those of earlier worlds end
pub has_run_in_turn : WorldsAreInTime → (c : ConfigView) (events : List Event) (w : WorldView) (through : IsReached c events w) (assignments : List Assignment) → DigestsAreDistinct through.worlds → AreAskedInTurn events through.worlds assignments
    → (run : List Executed) × IsRunInTime (IsMet through.worlds) events w run × RanInTurn run assignments × RunThere (IsMet through.worlds) [] events through.worlds run
has_run_in_turn law c events w through assignments distinct asked = run_in_turn events through.worlds w assignments (law c events through.worlds through.reached distinct) through.ends asked
