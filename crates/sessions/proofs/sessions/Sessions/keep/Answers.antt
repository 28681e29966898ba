use Rattle.std.specs.Arc.{arc_value}
use Rattle.std.specs.Cmp.{nat_cmp_total}
use Rattle.base.proofs.MapLemmas.{put_sorted, put_map}
use Rattle.sessions.proofs.LimitLemmas.{fit_after}
use Rattle.sessions.proofs.sessions.Sessions.keep.Goals as goal

pub invariant_of-self : goal.invariant_of-self
invariant_of-self c = (
  put_sorted nat_cmp_total c.put_entry.result (arc_value c.self.inside.entries) _ c.args.request.now.client _ c.self.invariant.0 c.put_entry.ensures.ok c.put_entry.ensures.err,
  fit_after c.put_entry.result (arc_value c.self.inside.entries) _ c.args.request.now.client _ c.self.invariant.1 c.args.request.now.is_client (record { number = c.args.request.now.is_numbered })
      c.put_entry.ensures.ok c.put_entry.ensures.err,
)

pub returns-clause-ok : goal.returns-clause-ok
returns-clause-ok c = put_map nat_cmp_total c.put_entry.result (arc_value c.self.inside.entries) _ _ c.args.request.now.client _ c.self.view_is c.self.invariant.0 c.put_entry.ensures.ok
