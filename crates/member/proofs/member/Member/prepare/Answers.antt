use Rattle.std.proofs.Common.{length, ap, ◌∙◌, arith}
use Rattle.member.proofs.Steps.{out_more, out_shown}
use Rattle.member.proofs.member.Member.prepare.Goals as goal

pub loop-letter-preserved : goal.loop-letter-preserved
loop-letter-preserved c = record {
  taken = out_more _ _ _ _ _ c.in-Some.letter c.loop-letter.invariant.taken c.in-Some.ensures.letter c.push_reserved.ensures.items;
  shown = out_shown _ _ _ _ _ c.in-Some.letter c.loop-letter.invariant.shown c.in-Some.ensures.shown c.push_reserved.ensures.items;
  room = (let less = ap length c.in-Some.ensures.letter in omega (arith, less, c.push_reserved.ensures.len, c.push_reserved.ensures.capacity, c.loop-letter.invariant.room));
  whose = c.let_out.ensures.whose ∙ c.loop-letter.invariant.whose;
  nodes = c.let_out.ensures.nodes ∙ c.loop-letter.invariant.nodes;
  counted = c.let_out.ensures.counted ∙ c.loop-letter.invariant.counted;
}
