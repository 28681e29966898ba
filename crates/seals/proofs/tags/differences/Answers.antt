use Rattle.std.proofs.Common.{◌≡◌, length, get_or, below_more, sym, ap, ◌∙◌, rules, arith}
use Rattle.std.proofs.lemmas.List.{ext_get_or, length_push}
use Rattle.std.proofs.lemmas.Slice.Zip.{zip_turn, zip_end}
use Rattle.seals.proofs.TagLemmas.{none_differ, same_differ_none}
use Rattle.seals.proofs.tags.differences.Goals as goal

pub loop-x-preserved : goal.loop-x-preserved
loop-x-preserved c =
    let t = zip_turn c.args.left.now c.args.right.now c.loop-x.yielded _ c.loop-x.x-iterator c.next.new.self c.next.result (search rules) (search rules) c.loop-x.yielded_by (c.in-Some.x, c.in-Some.y) c.in-Some.is c.next.ensures.steps in
    record {
      same = λ e k lt.
          let both = none_differ c.loop-x.bits c.in-Some.x.now c.in-Some.y.now e in
          below_more (λ k. get_or c.args.left.now k 0 ≡ get_or c.args.right.now k 0) (length c.loop-x.yielded) (c.loop-x.invariant.same both.0) (sym (t.2 0) ∙ (both.1 ∙ t.3 0)) k
          (omega (arith, lt, length_push c.loop-x.yielded (c.in-Some.x, c.in-Some.y)));
      none = λ e. same_differ_none c.loop-x.bits c.in-Some.x.now c.in-Some.y.now (c.loop-x.invariant.none e) (t.2 0 ∙ (ap (λ xs. get_or xs (length c.loop-x.yielded) 0) e ∙ sym (t.3 0)));
    }

pub returns : goal.returns
returns c =
    let n = zip_end c.args.left.now c.args.right.now c.loop-x.yielded _ c.loop-x.x-iterator c.next.new.self c.next.result (search rules) (search rules) c.loop-x.yielded_by c.in-None.is c.next.ensures.steps in (
      λ e. ext_get_or 0 c.args.left.now c.args.right.now c.requires (λ k lt. c.loop-x.invariant.same e k (omega (arith, lt, n, c.requires))),
      c.loop-x.invariant.none,
    )
