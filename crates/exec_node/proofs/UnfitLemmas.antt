-- An input that fits no line changes nothing.
use Rattle.std.proofs.Common.{◌≡◌, ℕ, ◌+◌, Bool, true, false, Option, Some, None, refl, ap, ◌∙◌}
use Rattle.std.specs.Prelude.{nat_lt, is_some, not, IsTrue}
use Rattle.std.proofs.lemmas.Bool.{cond-false, or_parts}
use Rattle.decrees.specs.declared.decree.Decree.{Decree}
use Rattle.decrees.specs.declared.ballot.Ballot.{Ballot}
use Rattle.decrees.specs.declared.ballot.Ballot.TheVariants as ballot
use Rattle.decrees.specs.declared.node.Node.{Node}
use Rattle.decrees.specs.declared.node.Node.TheVariants.{Client, Executor, Verifier}
use Rattle.executor.specs.Work.{WorkView, is_group_done}
use Rattle.exec_lines.specs.declared.body.Body.{Body}
use Rattle.exec_lines.specs.declared.body.Body.TheVariants as body
use Rattle.exec_lines.specs.declared.input.Input.{Input}
use Rattle.exec_lines.specs.declared.input.Input.TheVariants.{Letter, Cut, Step, Finish, Adopt}
use Rattle.exec_lines.specs.State.{ExecutorState, ExecutorOutcome, is_behind, unchanged}
use Rattle.exec_lines.specs.Lines.{on_decree, decree_is_due, is_heeded, stepped, finished, work_after, may_obey_order, may_cut, may_adopt, has_more, is_told}
use Rattle.exec_lines.specs.Step.{from_client, from_executor, from_verifier, on_ballot, on_letter, fits_from_client, fits_from_executor, fits_from_verifier, fits_ballot, fits_from, is_at_end, executor_step, fits_a_line}
use Rattle.exec_node.specs.Laws.{UnfitInputStays}

of_client : (id : ℕ) (s : ExecutorState) (b : Body) → fits_from_client b ≡ false → from_client id s b ≡ unchanged s
of_client id s (body.Want r) unfit = absurd (cc unfit)
of_client id s (body.Order b) unfit = refl
of_client id s (body.Reply number reply) unfit = refl
of_client id s (body.Need q) unfit = refl
of_client id s (body.Parcel p) unfit = refl
of_client id s (body.Ballot b) unfit = refl

of_executor : (u id : ℕ) (s : ExecutorState) (e : ℕ) (b : Body) → fits_from_executor s b ≡ false → from_executor u id s e b ≡ unchanged s
of_executor u id s e (body.Want r) unfit = refl
of_executor u id s e (body.Order b) unfit = cond-false (may_obey_order s b) _ _ unfit
of_executor u id s e (body.Reply number reply) unfit = refl
of_executor u id s e (body.Need q) unfit = cond-false (has_more s q) _ _ unfit
of_executor u id s e (body.Parcel p) unfit = cond-false (is_behind s) _ _ unfit
of_executor u id s e (body.Ballot b) unfit = refl

of_decree : (u id : ℕ) (s : ExecutorState) (v place : ℕ) (d : Decree) → is_heeded s place d ≡ false → on_decree u id s v place d ≡ unchanged s
of_decree u id s v place d unfit =
    let both = or_parts (decree_is_due s place d) (nat_lt (s.known + 1) place) unfit in
    cond-false (decree_is_due s place d) _ _ both.0 ∙ cond-false (nat_lt (s.known + 1) place) _ _ both.1

of_ballot : (u id : ℕ) (s : ExecutorState) (v : ℕ) (b : Ballot) → fits_ballot s b ≡ false → on_ballot u id s v b ≡ unchanged s
of_ballot u id s v (ballot.Token epoch n previous token) unfit = refl
of_ballot u id s v (ballot.Accept view place d) unfit = refl
of_ballot u id s v (ballot.Accepted view place d) unfit = refl
of_ballot u id s v (ballot.Decided place d) unfit = of_decree u id s v place d unfit
of_ballot u id s v (ballot.Ask place) unfit = refl
of_ballot u id s v (ballot.Change view) unfit = refl
of_ballot u id s v (ballot.Promise view count accepted) unfit = refl
of_ballot u id s v (ballot.Stands place standing) unfit = cond-false (is_told s place standing) _ _ unfit

of_verifier : (u id : ℕ) (s : ExecutorState) (v : ℕ) (b : Body) → fits_from_verifier s b ≡ false → from_verifier u id s v b ≡ unchanged s
of_verifier u id s v (body.Want r) unfit = refl
of_verifier u id s v (body.Order b) unfit = refl
of_verifier u id s v (body.Reply number reply) unfit = refl
of_verifier u id s v (body.Need q) unfit = refl
of_verifier u id s v (body.Parcel p) unfit = refl
of_verifier u id s v (body.Ballot b) unfit = of_ballot u id s v b unfit

of_letter : (u id : ℕ) (s : ExecutorState) (from : Node) (b : Body) → fits_from s from b ≡ false → on_letter u id s from b ≡ unchanged s
of_letter u id s (Client c) b unfit = of_client id s b unfit
of_letter u id s (Executor e) b unfit = of_executor u id s e b unfit
of_letter u id s (Verifier v) b unfit = of_verifier u id s v b unfit

of_step : (s : ExecutorState) (after : Option WorkView) → is_some after ≡ false → stepped s after ≡ unchanged s
of_step s None unfit = refl
of_step s (Some w) unfit = absurd (cc unfit)

of_finish : (u id : ℕ) (s : ExecutorState) (work : Option WorkView) → is_at_end work ≡ false → finished u id s work ≡ unchanged s
of_finish u id s None unfit = refl
of_finish u id s (Some w) unfit = cond-false (is_group_done w.progress) _ _ unfit

pub unfit_stays : UnfitInputStays
unfit_stays u id s (Letter l) unfit = of_letter u id s l.from l.body unfit
unfit_stays u id s (Cut moment) unfit = cond-false (may_cut u id s) _ _ unfit
unfit_stays u id s (Step place) unfit = of_step s (work_after s.work place) unfit
unfit_stays u id s Finish unfit = of_finish u id s s.work unfit
unfit_stays u id s (Adopt t) unfit = cond-false (may_adopt s t) _ _ unfit

is_false : (b : Bool) → IsTrue (not b) → b ≡ false
is_false true p = absurd (cc p)
is_false false p = refl

-- so it is not saved
pub unfit_unsaved : (u id : ℕ) (s : ExecutorState) (input : Input) (o : ExecutorOutcome) → o ≡ executor_step u id s input → IsTrue (not (fits_a_line u id s input)) → o.saves ≡ false
unfit_unsaved u id s input o is unfit =
    ap (λ (x : ExecutorOutcome). x.saves) (is ∙ unfit_stays u id s input (is_false (fits_a_line u id s input) unfit))
