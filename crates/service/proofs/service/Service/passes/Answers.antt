use Rattle.std.proofs.Common.{refl, ◌∙◌, inl, arith}
use Rattle.service.specs.Told.{AsksAll}
use Rattle.service.proofs.MomentLemmas.{now_given}
use Rattle.service.proofs.KeepLemmas.{gives_none, gives_on, same_process, process_on}
use Rattle.service.proofs.ToldLemmas.{tells_on, tells_same, unless_on, more_answers}
use Rattle.service.proofs.service.Service.passes.Goals as goal

pub pass-requires : goal.pass-requires
pass-requires g c = (
  c.type_bounds.sync-R,
  now_given c.args.self.now.connections c.loop.self.connections c.args.said.now.items c.loop.said.items c.args.moment c.loop.invariant.given c.requires,
)

pub returns-then-not-pass-clause-given : goal.returns-then-not-pass-clause-given
returns-then-not-pass-clause-given g c =
    gives_on c.args.self.now.connections c.loop.self.connections c.pass.new.self.connections c.args.said.now.items c.loop.said.items c.pass.new.said.items c.loop.invariant.given c.pass.ensures.given

pub returns-then-not-pass-clause-tells : goal.returns-then-not-pass-clause-tells
returns-then-not-pass-clause-tells g c =
    tells_on _ _ _ _ _ _ c.args.said.now.items c.loop.said.items c.pass.new.said.items c.loop.invariant.counted c.pass.ensures.counted c.loop.invariant.tells c.pass.ensures.tells

pub returns-then-not-pass-clause-asks : goal.returns-then-not-pass-clause-asks
returns-then-not-pass-clause-asks g c = λ same few. inl (unless_on _ _ _ (AsksAll c.pass.new.self) c.loop.invariant.counted c.pass.ensures.counted (c.pass.ensures.stops c.if-not-pass.true) same few)

pub loop-init : goal.loop-init
loop-init g c = record {
  given = gives_none c.args.self.now.connections c.args.said.now.items;
  tells = tells_same c.args.self.now.connections.table c.args.self.now.connections.table c.args.self.now.replicas.refused c.args.self.now.replicas.refused c.args.said.now.items c.args.said.now.items refl refl;
  more = omega arith;
  heard = refl;
  process = same_process _;
  counted = omega arith;
  size = refl;
  rest = λ below. absurd (omega (arith, below));
}

pub loop-preserved : goal.loop-preserved
loop-preserved g c = record {
  given = gives_on c.args.self.now.connections c.loop.self.connections c.pass.new.self.connections c.args.said.now.items c.loop.said.items c.pass.new.said.items c.loop.invariant.given c.pass.ensures.given;
  tells = tells_on _ _ _ _ _ _ c.args.said.now.items c.loop.said.items c.pass.new.said.items c.loop.invariant.counted c.pass.ensures.counted c.loop.invariant.tells c.pass.ensures.tells;
  more = more_answers c.loop.counter 1 c.args.self.now c.loop.self c.pass.new.self c.loop.invariant.more (c.pass.ensures.goes_on.1 c.if-not-pass.false);
  heard = c.pass.ensures.heard ∙ c.loop.invariant.heard;
  process = process_on _ _ _ c.loop.invariant.process c.pass.ensures.process;
  counted = let a = c.loop.invariant.counted in let b = c.pass.ensures.counted in omega (arith, a, b);
  size = c.pass.ensures.size ∙ c.loop.invariant.size;
  rest = λ from_one same few. let a = c.loop.invariant.counted in let b = c.pass.ensures.counted in c.pass.ensures.rest (omega (arith, a, b, same)) (omega (arith, a, b, same, few));
}
