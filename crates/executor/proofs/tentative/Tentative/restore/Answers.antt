use Rattle.std.proofs.Common.{◌≡◌, List, ℕ, [], ◌++◌, rules, sym, ap, ◌∙◌}
use Rattle.std.proofs.lemmas.Result.{err_from_is_err_and}
use Rattle.wire.proofs.Values.{none_whole}
use Rattle.executor.specs.Kept.{IsTentativeOver}
use Rattle.std.proofs.lemmas.List.{append-nil}
use Rattle.executor.specs.MemberRecord.{member_text}
use Rattle.executor.proofs.MemberLemmas.{empty_is, one_over}
use Rattle.executor.proofs.tentative.Tentative.restore.Goals as goal

pub returns-in_err-tentative-clause-reads : goal.returns-in_err-tentative-clause-reads
returns-in_err-tentative-clause-reads c =
    let p = err_from_is_err_and c.from_residual.result c.from_residual.ensures.1 in
    rw (p.1, p.2) (none_whole (IsTentativeOver c.args.base.now.state) member_text c.args.bytes.now c.in_err-tentative.field-0.0 c.in_err-tentative.ensures)

pub returns-then-is_empty-clause-reads : goal.returns-then-is_empty-clause-reads
returns-then-is_empty-clause-reads c =
    let none : c.in_ok-tentative.rest.now ≡ [] = empty_is c.in_ok-tentative.rest.now (sym c.is_empty.ensures ∙ c.if-is_empty.true) in
    (c.in_ok-tentative.ensures.0, c.in_ok-tentative.ensures.1 ∙ (ap (λ (t : List ℕ). member_text c.in_ok-tentative.tentative ++ t) none ∙ append-nil (member_text c.in_ok-tentative.tentative)))

pub returns-then-is_empty-clause-again : goal.returns-then-is_empty-clause-again
returns-then-is_empty-clause-again c t over e =
    (one_over c.in_ok-tentative.tentative t c.in_ok-tentative.rest.now [] c.in_ok-tentative.ensures.0 over (sym c.in_ok-tentative.ensures.1 ∙ (e ∙ sym (append-nil (member_text t))))).0

pub returns-else-is_empty-clause-reads : goal.returns-else-is_empty-clause-reads
returns-else-is_empty-clause-reads c t over e =
    let none : c.in_ok-tentative.rest.now ≡ [] =
    (one_over c.in_ok-tentative.tentative t c.in_ok-tentative.rest.now [] c.in_ok-tentative.ensures.0 over (sym c.in_ok-tentative.ensures.1 ∙ (e ∙ sym (append-nil (member_text t))))).1 in
    search (rules, none)
