use Rattle.std.proofs.Common.{rules, ◌<◌, ◌≤◌, ◌+◌, Ok, length, drop, subst, arith}
use Rattle.std.specs.IoError.{error_kind}
use Rattle.streams.proofs.Written.{one_write, one_interrupted, all_out, none_taken, failed, too_many}
use Rattle.streams.proofs.writing.write_session.Goals as goal
use Rattle.streams.proofs.writing.write_session.Goals.{in-Ok, in-Err+else-ne}

pub returns-then-sent-text-clause-writes : goal.returns-then-sent-text-clause-writes
returns-then-sent-text-clause-writes g c = all_out c.loop.invariant c.if-sent-text.true

pub returns-in-Ok-eq0-clause-writes : goal.returns-in-Ok-eq0-clause-writes
returns-in-Ok-eq0-clause-writes g c =
    let some : c.loop.sent < length c.args.text.now = let few = c.loop.invariant.few in let more = c.if-sent-text.false in omega arith in
    none_taken c.loop.invariant some
    (subst (λ n. g.W.WriteOnce.takes c.loop.output (drop c.loop.sent c.args.text.now) (Ok n) c.write_once.new.self) c.in-Ok-eq0.field-0-test (rw (← c.split_at.ensures.back) c.in-Ok-eq0.ensures.step))

pub returns-then-ne-clause-writes : goal.returns-then-ne-clause-writes
returns-then-ne-clause-writes g c =
    let some : c.loop.sent < length c.args.text.now = let few = c.loop.invariant.few in let more = c.if-sent-text.false in omega arith in
    failed c.loop.invariant (error_kind c.in-Err.e) (search rules) some (rw (← c.split_at.ensures.back) c.in-Err.ensures.step)

pub loop-preserved : goal.loop-preserved
loop-preserved g c =
    let few = c.loop.invariant.few in
    let more = c.if-sent-text.false in
    let some : c.loop.sent < length c.args.text.now = omega arith in
    elim c.match-write_once.branch [
      | in-Ok w ↦
          let n = w.in-Ok.n in
          let any : 0 < n = let t = w.in-Ok.n-test in omega arith in
          let within : c.loop.sent + n ≤ length c.args.text.now = let b = w.in-Ok.ensures.bound in let l = c.split_at.ensures.back_len in omega arith in
          rw w.sent-is (one_write c.loop.invariant n any within some (rw (← c.split_at.ensures.back) w.in-Ok.ensures.step) (rw (← c.split_at.ensures.back) w.in-Ok.ensures.bytes))
      | in-Err+else-ne w ↦ rw w.sent-is (one_interrupted c.loop.invariant (error_kind w.in-Err.e) (search rules) some (rw (← c.split_at.ensures.back) w.in-Err.ensures.step) w.in-Err.ensures.bytes)
    ]

pub returns-clause-writes : goal.returns-clause-writes
returns-clause-writes g c = too_many c.loop.invariant (let t = c.loop-test.false in let e = c.loop.auto.counter-end in omega arith)
