use Rattle.std.proofs.Common.{[], ap, sym, ◌∙◌}
use Rattle.std.specs.Map.{values_of}
use Rattle.batches.specs.Cut.{left, taken}
use Rattle.batches.proofs.HeldLemmas.{keyed_is, values_are, one_each-held, none_taken, all_left, fits}
use Rattle.batches.proofs.OneEachLemmas.{one_each_none}
use Rattle.batches.specs.declared.batch.TheConstants.{MOST_REQUESTS}
use Rattle.batches.proofs.gather.Gather.take_fresh.Goals as goal

pub part-requires-clause-one_each : goal.part-requires-clause-one_each
part-requires-clause-one_each c = rw c.replace-held.ensures.value (one_each-held c.self.inside.held.entries c.self.invariant c.len-len.ensures.unique)

pub invariant_of-self : goal.invariant_of-self
invariant_of-self c = keyed_is _ _ c.part.ensures.left

pub returns-clause-left : goal.returns-clause-left
returns-clause-left c =
    values_are _ _ c.part.ensures.left
    ∙ ap (λ held. left MOST_REQUESTS c.args.sessions.now (values_of held.entries)) c.replace-held.ensures.value
    ∙ ap (left MOST_REQUESTS c.args.sessions.now) c.self.view_is

pub returns-clause-fits : goal.returns-clause-fits
returns-clause-fits c =
    let one_each = one_each-held c.self.inside.held.entries c.self.invariant c.len-len.ensures.unique in
    rw (c.part.ensures.taken, c.replace-held.ensures.value) (fits MOST_REQUESTS c.args.sessions.now _ one_each)

pub returns-then-all_wait_on-clause-taken : goal.returns-then-all_wait_on-clause-taken
returns-then-all_wait_on-clause-taken c =
    c.new.ensures.items
    ∙ sym (none_taken MOST_REQUESTS c.args.sessions.now (values_of c.self.inside.held.entries) (sym c.if-all_wait_on.ensures))
    ∙ ap (taken MOST_REQUESTS c.args.sessions.now) c.self.view_is

pub returns-then-all_wait_on-clause-left : goal.returns-then-all_wait_on-clause-left
returns-then-all_wait_on-clause-left c =
    sym c.self.view_is
    ∙ sym (all_left MOST_REQUESTS c.args.sessions.now (values_of c.self.inside.held.entries) (sym c.if-all_wait_on.ensures))
    ∙ ap (left MOST_REQUESTS c.args.sessions.now) c.self.view_is

pub returns-then-all_wait_on-clause-fits : goal.returns-then-all_wait_on-clause-fits
returns-then-all_wait_on-clause-fits c = rw c.new.ensures.items (fits MOST_REQUESTS c.args.sessions.now [] one_each_none)
