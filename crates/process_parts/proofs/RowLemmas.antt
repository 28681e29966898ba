-- The rows of a text are those of a process.
use Rattle.std.proofs.Common.{◌≡◌, ℕ, zero, suc, ◌<◌, ◌+◌, ◌∙◌, List, [], ◌∷◌, ◌++◌, length, map, take, get_or, Some, refl, ap, sym, subst, arith, add-one}
use Rattle.std.specs.Prelude.{slice_get}
use Rattle.std.specs.List.{AllZip}
use Rattle.std.specs.Option.{option_map}
use Rattle.std.proofs.Math.Seq.{take-suc}
use Rattle.std.proofs.lemmas.List.{length-map}
use Rattle.std.proofs.lemmas.Option.{same_Some, slice_get-map}
use Rattle.keeper.specs.Kept.{Kept}
use Rattle.wire.specs.Session.{SessionsFit}
use Rattle.states.specs.declared.head.Head.{Head}
use Rattle.states.specs.State.{StateView, IsState}
use Rattle.states.specs.StateRecord.{head_of_state}
use Rattle.proxies.specs.Proxy.{ProxyView}
use Rattle.process_text.specs.declared.executor_row.ExecutorRow.{ExecutorRow}
use Rattle.process_text.specs.declared.proxy_row.ProxyRow.{ProxyRow}
use Rattle.process_text.specs.declared.process_text.ProcessText.{ProcessText}
use Rattle.process_text.specs.Text.{IsProcessText, AreNumberedRows}
use Rattle.ensemble.specs.Kept.{ProcessView}
use Rattle.ensemble.specs.Nodes.{AreNumbered}
use Rattle.process_parts.specs.Parts.{proxy_of_row, verifier_of_row, IsExecutorRow, HasRowsOf, IsStoredOf, HasMembers}

-- one row more, of one executor more
one_executor_more : (head : Head) (rows : List ExecutorRow) (ks : List Kept) (row : ExecutorRow) (k : Kept) → AllZip (IsExecutorRow head) rows ks → IsExecutorRow head row k → AllZip (IsExecutorRow head) (rows ++ row ∷ []) (ks ++ k ∷ [])
one_executor_more head [] [] row k are is = (is, tt)
one_executor_more head [] (other ∷ ks) row k are is = absurd are
one_executor_more head (first ∷ rows) [] row k are is = absurd are
one_executor_more head (first ∷ rows) (other ∷ ks) row k are is = (are.0, one_executor_more head rows ks row k are.1 is)

-- the same, if the executors are the first ones of a list
pub next_executor : (head : Head) (rows more : List ExecutorRow) (row : ExecutorRow) (ks : List Kept) (n : ℕ) (k : Kept) → n < length ks → k ≡ get_or ks n k → more ≡ rows ++ row ∷ [] → AllZip (IsExecutorRow head) rows (take n ks) → IsExecutorRow head row k → AllZip (IsExecutorRow head) more (take (n + 1) ks)
next_executor head rows more row ks n k lt at is are it =
    let taken : take (n + 1) ks ≡ take n ks ++ k ∷ [] = ap (λ (m : ℕ). take m ks) (add-one n) ∙ (take-suc ks n k lt ∙ ap (λ (x : Kept). take n ks ++ x ∷ []) (sym at)) in
    subst (λ (xs : List ExecutorRow). AllZip (IsExecutorRow head) xs (take (n + 1) ks)) (sym is)
    (subst (λ (ys : List Kept). AllZip (IsExecutorRow head) (rows ++ row ∷ []) ys) (sym taken) (one_executor_more head rows (take n ks) row k are it))

as_many_executors : (head : Head) (rows : List ExecutorRow) (ks : List Kept) → AllZip (IsExecutorRow head) rows ks → length ks ≡ length rows
as_many_executors head [] [] are = refl
as_many_executors head [] (k ∷ ks) are = absurd are
as_many_executors head (row ∷ rows) [] are = absurd are
as_many_executors head (row ∷ rows) (k ∷ ks) are = ap suc (as_many_executors head rows ks are.1)

-- rows of proxies that are numbered
numbered_rows : (rows : List ProxyRow) (proxies : List ProxyView) → AreNumbered proxies → proxies ≡ map proxy_of_row rows → AreNumberedRows rows
numbered_rows rows proxies are is i row at =
    are i (proxy_of_row row) (ap (λ (ps : List ProxyView). slice_get ps i) is ∙ (slice_get-map proxy_of_row rows i ∙ ap (option_map proxy_of_row) at))

proxy_row_at : (rows : List ProxyRow) (i : ℕ) (p : ProxyView) → slice_get (map proxy_of_row rows) i ≡ Some p → (row : ProxyRow) × (slice_get rows i ≡ Some row) × (proxy_of_row row ≡ p)
proxy_row_at [] i p at = absurd (cc at)
proxy_row_at (row ∷ rows) zero p at = (row, refl, same_Some (proxy_of_row row) p at)
proxy_row_at (row ∷ rows) (suc i) p at = proxy_row_at rows i p at

-- proxies of rows that are numbered
pub numbered_proxies : (rows : List ProxyRow) (proxies : List ProxyView) → AreNumberedRows rows → proxies ≡ map proxy_of_row rows → AreNumbered proxies
numbered_proxies rows proxies are is i p at =
    let found = proxy_row_at rows i p (ap (λ (ps : List ProxyView). slice_get ps i) (sym is) ∙ at) in
    ap (λ (x : ProxyView). x.client) (sym found.2) ∙ are i found.0 found.1

-- what is stored of a process is the text of one
is_process_text : (t : ProcessText) (r : ProcessView) → r.u < 4 → AreNumbered r.proxies → SessionsFit t.sessions → HasMembers r → HasRowsOf t r → IsProcessText t
is_process_text t r few numbered fit members rows =
    let executors : length r.executors ≡ length t.executors = as_many_executors t.head t.executors r.executors rows.executors in
    let verifiers : length r.verifiers ≡ length t.verifiers = ap length rows.verifiers ∙ length-map t.verifiers verifier_of_row in
    let proxies : length r.proxies ≡ length t.proxies = ap length rows.proxies ∙ length-map t.proxies proxy_of_row in
    record {
      few = omega (arith, few, rows.u);
      sessions = fit;
      executors = omega (arith, executors, members.executors, rows.u);
      verifiers = omega (arith, verifiers, members.verifiers, rows.u);
      clients = omega (arith, proxies, members.clients);
      numbered = numbered_rows t.proxies r.proxies numbered rows.proxies;
    }

-- so it is stored with its state
pub is_stored : (t : ProcessText) (s : StateView) (r : ProcessView) → r.u < 4 → AreNumbered r.proxies → SessionsFit s.sessions → HasMembers r → IsState s → t.head ≡ head_of_state s → t.sessions ≡ s.sessions → HasRowsOf t r → IsStoredOf t s r
is_stored t s r few numbered fit members state head sessions rows = record {
  text = is_process_text t r few numbered (subst SessionsFit (sym sessions) fit) members rows;
  state = record { state = state; head = sym head; sessions = sym sessions };
  rows = rows;
}
