use Rattle.std.proofs.Common.{rules, ◌≡◌, ◌∙◌, subst, arith}
use denote.Exit.{no}
use denote.Param.Send.{param_send, arg_send}
use Rattle.std.proofs.lemmas.Option.{slice_get_within, get_or_from_slice_get}
use Rattle.hosts.specs.Host.{HostView, HostRuns}
use Rattle.ensemble.proofs.Crossing.{host_send}
use Rattle.ensemble.proofs.jobs.run_each.Goals as goal

pub for_each_mut-requires-send-T : goal.for_each_mut-requires-send-T
for_each_mut-requires-send-T g c κs within = param_send 1 _ (arg_send _ no _ host_send)

pub for_each_mut-requires-clause-threads : goal.for_each_mut-requires-clause-threads
for_each_mut-requires-clause-threads g c κs within = c.requires

pub returns : goal.returns
returns g c = record {
  same = omega (arith, c.for_each_mut.auto.s);
  each = λ i h left at to.
      let change = (c.for_each_mut.ensures i h (slice_get_within c.args.executors.now i h at)).1 in
      let before : change.argument.now ≡ h = change.argument_is ∙ get_or_from_slice_get c.args.executors.now i h h at in
      let after : change.after_call.now ≡ left = change.left ∙ get_or_from_slice_get c.for_each_mut.new.s i left h to in
      let call = change.call in
      let ran : HostRuns change.argument.now change.after_call.now = first_of (search rules, search rules depth 60 fits 20000) in
      subst (λ (p : HostView × HostView). HostRuns p.0 p.1) (λ k. (before k, after k)) ran;
}
