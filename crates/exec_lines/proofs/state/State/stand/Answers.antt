use Rattle.std.proofs.Common.{◌≡◌, Some, None, true, sym, ap, ◌∙◌, subst}
use Rattle.std.proofs.lemmas.Bool.{eq-eqb, ne_eqb}
use Rattle.rollback.specs.Chain.{ChainView, chain_from}
use Rattle.exec_lines.specs.State.{ExecutorState}
use Rattle.exec_lines.specs.Lines.{goes_on, stood_over}
use Rattle.exec_lines.proofs.StandingLemmas.{told_begun, stays_executor, over_goes_on, over_ends, from_ok, ok_ends}
use Rattle.exec_lines.proofs.state.State.stand.Goals as goal

-- src/standing.rt:40:13
pub invariant_of-self : goal.invariant_of-self
invariant_of-self c =
    let s : ExecutorState = record { known = c.self.inside.known; standing = c.self.inside.standing; chain = c.self.inside.chain; gather = c.self.inside.gather; work = c.self.inside.work } in
    let ok = sym c.is_ok.ensures.value ∙ c.if-is_ok.true in
    stays_executor s c.args.place c.args.standing c.commit_to-said.new.self c.self.invariant (told_begun c.args.self.now c.args.place c.args.standing c.requires.told)
    (from_ok c.commit_to-said.result ok c.commit_to-said.ensures.chain)

pub returns-then-goes_on-clause-state : goal.returns-then-goes_on-clause-state
returns-then-goes_on-clause-state c =
    let s : ExecutorState = record { known = c.self.inside.known; standing = c.self.inside.standing; chain = c.self.inside.chain; gather = c.self.inside.gather; work = c.self.inside.work } in
    let ok = sym c.is_ok.ensures.value ∙ c.if-is_ok.true in
    let on : goes_on s c.args.standing ≡ true = eq-eqb c.args.standing.epoch c.self.inside.standing.epoch c.if-goes_on.true in
    let stood : ExecutorState = record { known = c.args.place; standing = c.args.standing; chain = c.commit_to-said.new.self; gather = c.self.inside.gather; work = c.self.inside.work } in
    subst (λ (x : ExecutorState). (v : ChainView) × (chain_from c.args.standing x.chain.have x.chain.members ≡ Some v) × (stood ≡ stood_over x c.args.place c.args.standing v)) c.self.view_is
    (c.commit_to-said.new.self, from_ok c.commit_to-said.result ok c.commit_to-said.ensures.chain, over_goes_on s c.args.place c.args.standing c.commit_to-said.new.self on)

pub returns-clause-state : goal.returns-clause-state
returns-clause-state c =
    let s : ExecutorState = record { known = c.self.inside.known; standing = c.self.inside.standing; chain = c.self.inside.chain; gather = c.self.inside.gather; work = c.self.inside.work } in
    ok_ends c.commit_to-said.result c.is_ok.result c.is_ok.ensures.value c.else-is_ok.either
    (λ (ends : c.args.standing.epoch ≡ c.self.inside.standing.epoch → ⊥) (from : chain_from c.args.standing c.self.inside.chain.have c.self.inside.chain.members ≡ Some c.commit_to-said.new.self).
    let stood : ExecutorState = record { known = c.args.place; standing = c.args.standing; chain = c.undo_all.new.self; gather = c.self.inside.gather; work = None } in
    let is : stood ≡ stood_over s c.args.place c.args.standing c.commit_to-said.new.self =
    ap (λ (v : ChainView). record s { known = c.args.place; standing = c.args.standing; chain = v; work = None }) c.undo_all.ensures
    ∙ over_ends s c.args.place c.args.standing c.commit_to-said.new.self (ne_eqb c.args.standing.epoch c.self.inside.standing.epoch ends) in
    subst (λ (x : ExecutorState). (v : ChainView) × (chain_from c.args.standing x.chain.have x.chain.members ≡ Some v) × (stood ≡ stood_over x c.args.place c.args.standing v)) c.self.view_is
    (c.commit_to-said.new.self, from, is))
    c.commit_to-said.ensures.chain
