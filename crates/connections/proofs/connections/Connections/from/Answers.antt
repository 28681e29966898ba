use Rattle.std.proofs.Common.{sym, subst}
use Rattle.connections.specs.Connections.{IsConnections}
use Rattle.connections.proofs.KeepLemmas.{none_keep}
use Rattle.connections.proofs.connections.Connections.from.Goals as goal

pub invariant_of-result : goal.invariant_of-result
invariant_of-result c =
    subst IsConnections (λ i. record {
      dialect = c.args.dialect;
      table = sym c.new.ensures.items i;
      next = c.args.first;
      first = c.args.first;
      heard = (sym c.new-2.ensures i).heard;
      given = (sym c.new-2.ensures i).given;
      passed = (sym c.new-2.ensures i).passed;
      taken = sym c.new-3.ensures i;
      replied = sym c.new-4.ensures i;
    }) (none_keep c.args.dialect c.args.first)
