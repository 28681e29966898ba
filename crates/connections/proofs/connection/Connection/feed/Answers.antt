use Rattle.std.proofs.Common.{rules, ◌≡◌, ◌+◌, ◌-◌, ◌^◌, length, refl, subst}
use Rattle.std.specs.Prelude.{min}
use Rattle.grammar.specs.Reads.{dialect_of, with_mark}
use Rattle.session.specs.Session.{SessionStep}
use Rattle.connections.specs.Connection.{ConnectionView, IsFedTo}
use Rattle.connections.proofs.connection.Connection.feed.Goals as goal

pub returns-clause-ok : goal.returns-clause-ok
returns-clause-ok c =
    let g : SessionStep = record { session = c.feed.new.self; bytes = c.in_ok-bytes.bytes.items } in
    let unwritten_is : c.saturating_add-self-inside.result ≡ min (c.self.inside.unwritten + length g.bytes) (2 ^ 64 - 1) = search rules in
    let now : ConnectionView = record { number = c.self.inside.number; session = g.session; unwritten = c.saturating_add-self-inside.result } in
    subst (λ (v : ConnectionView). IsFedTo v (with_mark (dialect_of v.session.reader) c.args.conditions.now.is_full c.args.piece.now) now g.bytes) c.self.view_is
    (g, c.in_ok-bytes.ensures.ok, (λ i. record { number = c.self.inside.number; session = g.session; unwritten = unwritten_is i }), refl)
