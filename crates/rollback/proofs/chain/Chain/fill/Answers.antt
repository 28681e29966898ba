use Rattle.std.proofs.Common.{◌≡◌, ℕ, ◌+◌, true, arith, sym, ap, ◌∙◌, subst}
use Rattle.std.specs.Prelude.{◌==◌}
use Rattle.std.proofs.lemmas.Bool.{and_from}
use Rattle.std.proofs.lemmas.Slice.Eq.{bytes_eq-Decides}
use Rattle.std.proofs.lemmas.Bool.Decides.{nat_tests}
use Rattle.std.proofs.lemmas.Result.{err_from_is_err_and}
use Rattle.wire.specs.Record.{NoPrefix, Refused}
use Rattle.states.specs.State.{StateView}
use Rattle.executor.specs.Work.{TentativeView}
use Rattle.executor.specs.Kept.{IsTentativeOverIn}
use Rattle.executor.specs.MemberRecord.{member_text_in}
use Rattle.executor.proofs.MemberLemmas.{over_of}
use Rattle.rollback.specs.Chain.{ChainView, tip, chain_tip, is_over}
use Rattle.rollback.proofs.RecordLemmas.{HasMembers, members_go_on, members_end}
use Rattle.rollback.proofs.chain.Chain.fill.Goals as goal

pub returns-in_err-member-clause-err : goal.returns-in_err-member-clause-err
returns-in_err-member-clause-err c =
    let p = err_from_is_err_and c.from_residual.result c.from_residual.ensures.1 in
    let over : c.tip.result.now.state ≡ tip c.args.self.now.have c.loop.self.members = c.tip.ensures ∙ ap (λ (s : StateView). tip s c.loop.self.members) c.loop.invariant.have in
    let none = subst (λ (s : StateView). Refused c.in_err-member.field-0.0 (NoPrefix {X = TentativeView} (IsTentativeOverIn c.args.version s) (member_text_in c.args.version) c.loop.rest.now)) over c.in_err-member.ensures in
    rw (p.1, p.2) (members_end c.args.version c.in_err-member.field-0.0 c.args.count c.loop.invariant.read c.loop-test.true none)

pub loop-preserved : goal.loop-preserved
loop-preserved c =
    let over : c.tip.result.now.state ≡ tip c.args.self.now.have c.loop.self.members = c.tip.ensures ∙ ap (λ (s : StateView). tip s c.loop.self.members) c.loop.invariant.have in
    let is = subst (λ (s : StateView). IsTentativeOverIn c.args.version s c.in_ok-member.member) over c.in_ok-member.ensures.0 in
    let more = members_go_on c.args.version c.in_ok-member.member c.in_ok-member.after.now c.loop.invariant.read is c.in_ok-member.ensures.1 in
    record {
      have = ap (λ (v : ChainView). v.have) c.add.ensures ∙ c.loop.invariant.have;
      read = subst (λ ts. HasMembers c.args.version c.args.self.now.have ts (c.loop.counter + 1) c.args.bytes.now c.in_ok-member.after.now) (sym (ap (λ (v : ChainView). v.members) c.add.ensures)) more;
    }

same : (n : ℕ) → (n == n) ≡ true
same n = grind (arith, nat_tests)

-- a state that is over just this one is over it, as number and token tell
told_over : (base : StateView) (t : TentativeView) → t.before ≡ base → is_over base t ≡ true
told_over base t e =
    and_from _ _ (ap (λ (s : StateView). t.before.number == s.number) (sym e) ∙ same t.before.number) ((bytes_eq-Decides t.before.token.0 base.token.0).1 (ap (λ (s : StateView). s.token.0) e))

pub add-requires-clause-over : goal.add-requires-clause-over
add-requires-clause-over c = told_over (chain_tip c.loop.self) c.in_ok-member.member ((over_of c.args.version c.tip.result.now.state c.in_ok-member.member c.in_ok-member.ensures.0).over ∙ c.tip.ensures)
