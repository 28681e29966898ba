use Rattle.std.proofs.Common.{◌≡◌, ◌≤◌, ◌++◌, ◌∙◌, None, arith, sym, ap, length}
use Rattle.std.specs.Prelude.{slice_get}
use Rattle.std.proofs.lemmas.List.{append-nil}
use Rattle.std.proofs.lemmas.Option.{slice_get_past}
use Rattle.executor.specs.Round.{kept_after}
use Rattle.executor.specs.Work.{replied_to}
use Rattle.executor.proofs.kept.add_answer.Goals as goal

pub returns-in-None-clause-replies : goal.returns-in-None-clause-replies
returns-in-None-clause-replies c =
    let past : length c.args.requests.now ≤ c.place.result = c.in-None.ensures.lookup.3 in
    let none : slice_get c.args.requests.now c.args.running.now.place ≡ None = slice_get_past c.args.requests.now c.args.running.now.place (omega (arith, past, c.place.ensures)) in
    sym (ap (λ found. c.args.replies.now.items ++ replied_to c.args.running.now found) none ∙ append-nil c.args.replies.now.items)

pub returns-in-None-clause-kept : goal.returns-in-None-clause-kept
returns-in-None-clause-kept c =
    let past : length c.args.requests.now ≤ c.place.result = c.in-None.ensures.lookup.3 in
    let none : slice_get c.args.requests.now c.args.running.now.place ≡ None = slice_get_past c.args.requests.now c.args.running.now.place (omega (arith, past, c.place.ensures)) in
    sym (ap (λ found. kept_after c.args.sessions.now (replied_to c.args.running.now found)) none)
