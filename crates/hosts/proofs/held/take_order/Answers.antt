use Rattle.std.proofs.Common.{sym, subst, List}
use Rattle.std.specs.Prelude.{Contains, Bool, not}
use Rattle.std.proofs.lemmas.Bool.{and_parts}
use Rattle.decrees.specs.declared.node.Letter.{Letter}
use Rattle.exec_lines.specs.declared.body.Body.{Body}
use Rattle.hosts.specs.Orders.{ordered_turn, is_for, is_not_over}
use Rattle.hosts.proofs.Places.{in_filter}
use Rattle.hosts.proofs.held.take_order.Goals as goal

pub returns-clause-later : goal.returns-clause-later
returns-clause-later c = λ l there later.
    let ahead : Letter Body → Bool = λ x. is_not_over c.args.epoch c.args.number (ordered_turn x.body) in
    subst (λ (xs : List (Letter Body)). Contains xs l) (sym c.forget.ensures.exact)
    (in_filter ahead c.take-order.new.held.items l (c.take-order.ensures.later l there later) (and_parts (ahead l) (not (is_for c.args.epoch c.args.number (ordered_turn l.body))) later).0)
