-- The lines of the table, if a test is known.
use Rattle.std.proofs.Common.{◌≡◌, ℕ, ◌<◌, true, false, List, length, Option, Some, None, Result, Ok, Err, refl, sym, ap, ◌∙◌}
use Rattle.std.specs.Prelude.{IsTrue, IfSome, IfOk, IsErr, ◌&&◌, ◌==◌}
use Rattle.std.specs.Str.{bytes_eq}
use Rattle.std.proofs.lemmas.Bool.{and_from, and_parts, eqb-true, eq-eqb, cond-true, cond-false}
use Rattle.std.proofs.lemmas.Slice.Eq.{bytes_eq-Decides}
use Rattle.decrees.specs.declared.ballot.Ballot.{Ballot}
use Rattle.decrees.specs.declared.node.Node.TheVariants.{Executor}
use Rattle.decrees.specs.Votes.{token_eq}
use Rattle.decrees.proofs.TokenLemmas.{token_eq-true}
use Rattle.batches.specs.declared.batch.Batch.{Batch}
use Rattle.batches.specs.declared.batch.TheConstants.{MOST_REQUESTS}
use Rattle.batches.specs.Cut.{left}
use Rattle.sessions.specs.declared.request.Request.{Request}
use Rattle.states.specs.State.{StateView}
use Rattle.executor.specs.Work.{TentativeView, WorkView}
use Rattle.executor.specs.GroupRun.{is_untouched}
use Rattle.rollback.specs.declared.chain.TheConstants.{MOST_MEMBERS}
use Rattle.rollback.specs.Chain.{chain_tip, is_over}
use Rattle.transfer.specs.declared.need.Need.{Need}
use Rattle.transfer.specs.Parcel.{ParcelView, answer_of, take_of}
use Rattle.wire.specs.Batch.{batch_text}
use Rattle.exec_lines.specs.declared.body.Body.{Body}
use Rattle.exec_lines.specs.declared.body.Body.TheVariants as body
use Rattle.exec_lines.specs.State.{ExecutorState, IsExecutor, WorksOverTip, is_behind, is_tip, unchanged, one_letter}
use Rattle.exec_lines.specs.Lines.{adopts, has_more, has_number, after_cut, came, may_adopt, on_need, on_parcel}
use Rattle.exec_lines.specs.Step.{from_executor, from_verifier}

-- what is over the base of the work is over the tip
over_tip : (s : ExecutorState) (w : WorkView) (t : TentativeView) → IsTrue (is_tip s.chain w.base) → IsTrue (is_over w.base t) → IsTrue (is_over (chain_tip s.chain) t)
over_tip s w t tip over =
    let a = and_parts (w.base.number == (chain_tip s.chain).number) (token_eq w.base.token (chain_tip s.chain).token) tip in
    let b = and_parts (t.before.number == w.base.number) (token_eq t.before.token w.base.token) over in
    let number = eqb-true t.before.number w.base.number b.0 ∙ eqb-true w.base.number (chain_tip s.chain).number a.0 in
    let token = token_eq-true t.before.token w.base.token b.1 ∙ token_eq-true w.base.token (chain_tip s.chain).token a.1 in
    and_from _ _ (eq-eqb t.before.number (chain_tip s.chain).number number) ((bytes_eq-Decides t.before.token.0 (chain_tip s.chain).token.0).1 (ap (λ k. k.0) token))

adopted : (s : ExecutorState) (t : TentativeView) (work : Option WorkView) → IfSome work (WorksOverTip s) → adopts work t ≡ true → (length s.chain.members < MOST_MEMBERS) × IsTrue (is_over (chain_tip s.chain) t)
adopted s t None works e = absurd (cc e)
adopted s t (Some w) works e =
    let parts = and_parts (is_untouched w.progress) (is_over w.base t && bytes_eq (batch_text t.batch) (batch_text w.batch)) e in
    let over = and_parts (is_over w.base t) (bytes_eq (batch_text t.batch) (batch_text w.batch)) parts.1 in
    (works.room, over_tip s w t works.over over.0)

-- there is room for what is adopted
pub adopted_has_room : (s : ExecutorState) (t : TentativeView) → IsExecutor s → may_adopt s t ≡ true → length s.chain.members < MOST_MEMBERS
adopted_has_room s t is e = (adopted s t s.work is.works e).0

-- and it is over the tip
pub adopted_is_over : (s : ExecutorState) (t : TentativeView) → IsExecutor s → may_adopt s t ≡ true → IsTrue (is_over (chain_tip s.chain) t)
adopted_is_over s t is e = (adopted s t s.work is.works e).1

-- a need that is answered
pub need_answered : (id : ℕ) (s : ExecutorState) (from : ℕ) (q : Need) → has_more s q ≡ true → on_need id s from q ≡ one_letter id s (Executor from) (body.Parcel (answer_of s.chain.have q))
need_answered id s from q more = cond-true (has_more s q) _ _ more

-- a parcel that comes to one that is not behind
pub parcel_stays : (s : ExecutorState) (p : ParcelView) → is_behind s ≡ false → on_parcel s p ≡ unchanged s
parcel_stays s p current = cond-false (is_behind s) _ _ current

-- and to one that is
pub parcel_came : (s : ExecutorState) (p : ParcelView) (state : Option StateView) → is_behind s ≡ true → take_of s.chain.have.items p s.standing.n s.standing.token ≡ state → on_parcel s p ≡ came s state
parcel_came s p state behind taken = cond-true (is_behind s) _ _ behind ∙ ap (came s) taken

-- what a cut leaves
pub cut_leaves : (s : ExecutorState) (gather : List Request) → has_number s ≡ true → gather ≡ left MOST_REQUESTS (chain_tip s.chain).sessions s.gather → ◌≡◌ {A = ExecutorState} (record s { gather = gather }) (after_cut s)
cut_leaves s gather has is = ap (λ (g : List Request). record s { gather = g }) (is ∙ sym (cond-true (has_number s) _ _ has))

-- what an executor does not listen to
pub executor_unheard : (u id : ℕ) (s : ExecutorState) (e : ℕ) (b : Body) → ((x : Batch) → b ≡ body.Order x → ⊥) → ((x : Need) → b ≡ body.Need x → ⊥) → ((x : ParcelView) → b ≡ body.Parcel x → ⊥) → from_executor u id s e b ≡ unchanged s
executor_unheard u id s e (body.Want r) order need parcel = refl
executor_unheard u id s e (body.Order b) order need parcel = absurd (order b refl)
executor_unheard u id s e (body.Reply number reply) order need parcel = refl
executor_unheard u id s e (body.Need q) order need parcel = absurd (need q refl)
executor_unheard u id s e (body.Parcel p) order need parcel = absurd (parcel p refl)
executor_unheard u id s e (body.Ballot b) order need parcel = refl

pub verifier_unheard : (u id : ℕ) (s : ExecutorState) (v : ℕ) (b : Body) → ((x : Ballot) → b ≡ body.Ballot x → ⊥) → from_verifier u id s v b ≡ unchanged s
verifier_unheard u id s v (body.Want r) other = refl
verifier_unheard u id s v (body.Order b) other = refl
verifier_unheard u id s v (body.Reply number reply) other = refl
verifier_unheard u id s v (body.Need q) other = refl
verifier_unheard u id s v (body.Parcel p) other = refl
verifier_unheard u id s v (body.Ballot b) other = absurd (other b refl)

-- if it is an error nothing is asked of an answer
pub no_answer : {X E : Type 0} (P : X → Type 0) (r : Result X E) → IsErr r → IfOk r P
no_answer P (Ok x) e = absurd (cc e)
no_answer P (Err x) e = tt
