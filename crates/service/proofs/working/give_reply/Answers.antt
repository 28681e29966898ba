use Rattle.std.proofs.Common.{ℕ, [], ◌∷◌, ◌++◌, inr, sym, ap, ◌∙◌, subst}
use Rattle.connections.specs.History.{given_as}
use Rattle.connections.specs.Told.{IsToldAt}
use Rattle.service.proofs.working.give_reply.Goals as goal

pub returns-in-Some-clause-answers : goal.returns-in-Some-clause-answers
returns-in-Some-clause-answers c =
    let v = c.args.connections.now in
    let given = c.in-Some.given in
    let number = sym c.in-Some.ensures.to.1 in
    record {
      dialect = c.in-Some.ensures.dialect;
      since = c.in-Some.ensures.since;
      heard = c.in-Some.ensures.others.0;
      taken = c.in-Some.ensures.others.1;
      replied = inr (c.in-Some.ensures.replied ∙ ap (λ (n : ℕ). v.replied ++ (record { connection = n; turn = c.args.outstanding.now.assignment.turn }, c.args.reply) ∷ []) c.connection_id-at.ensures.number);
      gives = inr (
        given,
        c.push_reserved.ensures.items,
        c.in-Some.ensures.given ∙ ap (λ (n : ℕ). v.given ++ (n, given.bytes.items) ∷ []) number,
        c.in-Some.ensures.passed ∙ ap (λ (n : ℕ). v.passed ++ given_as n given.bytes.items ∷ []) number,
      );
    }

pub returns-in-Some-clause-told : goal.returns-in-Some-clause-told
returns-in-Some-clause-told c =
    inr (
      c.in-Some.given,
      c.push_reserved.ensures.items,
      subst (λ (z : ℕ × ℕ). IsToldAt (record { key = z.0; number = z.1 }) c.args.connections.now.table c.answer.new.self.table c.in-Some.given) (λ i. (c.connection_id-at.ensures.key i, c.connection_id-at.ensures.number i)) c.in-Some.ensures.told,
    )
