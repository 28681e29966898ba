use Rattle.std.proofs.lemmas.Result.{err_from_is_err_and}
use Rattle.decrees.specs.declared.node.Letter.{Letter}
use Rattle.exec_lines.specs.declared.body.Body.{Body}
use Rattle.letters.proofs.LetterLemmas.{no_sender, no_receiver, nothing_said, letter_is}
use Rattle.letters.proofs.letter.take_letter.Goals as goal

pub returns-in_err-from : goal.returns-in_err-from
returns-in_err-from c =
    let p = err_from_is_err_and c.from_residual.result c.from_residual.ensures.1 in
    rw (p.1, p.2) (no_sender c.args.bytes.now c.in_err-from.field-0.0 c.in_err-from.ensures)

pub returns-in_err-to : goal.returns-in_err-to
returns-in_err-to c =
    let p = err_from_is_err_and c.from_residual-in_err-to.result c.from_residual-in_err-to.ensures.1 in
    rw (p.1, p.2) (no_receiver c.args.bytes.now c.in_ok-from.rest.now c.in_ok-from.from c.in_ok-from.ensures.1 c.in_err-to.field-0.0 c.in_err-to.ensures)

pub returns-in_err-body : goal.returns-in_err-body
returns-in_err-body c =
    let p = err_from_is_err_and c.from_residual-in_err-body.result c.from_residual-in_err-body.ensures.1 in
    rw (p.1, p.2) (nothing_said c.args.bytes.now c.in_ok-from.rest.now c.in_ok-to.rest.now c.in_ok-from.from c.in_ok-to.to c.in_ok-from.ensures.1 c.in_ok-to.ensures.1 c.in_err-body.field-0.0 c.in_err-body.ensures)

pub returns : goal.returns
returns c =
    let letter : Letter Body = record { from = c.in_ok-from.from; to = c.in_ok-to.to; body = c.in_ok-body.body } in
    (c.in_ok-body.ensures.0, letter_is c.args.bytes.now c.in_ok-from.rest.now c.in_ok-to.rest.now c.in_ok-body.rest.now letter c.in_ok-from.ensures.1 c.in_ok-to.ensures.1 c.in_ok-body.ensures.1)
