use Rattle.std.proofs.Common.{rules, ◌<◌, ◌≤◌, Ok, length, take, subst, arith}
use Rattle.std.specs.Io.KnownBytes.{Consumes}
use Rattle.streams.proofs.Passing.{one_piece, one_interrupted, at_end, failed, enough, too_many}
use Rattle.streams.proofs.reading.read_session.Goals as goal
use Rattle.streams.proofs.reading.read_session.Goals.{in-Ok+else-not-hear, in-Err+else-ne}

pub returns-in-Ok-eq0 : goal.returns-in-Ok-eq0
returns-in-Ok-eq0 g c =
    let buffer = c.read_once.new.buffer in
    let remaining = g.R.Read.remaining in
    let none = c.in-Ok-eq0.field-0-test in
    let some : 0 < length buffer = search rules in
    at_end c.loop.invariant
    (subst (λ n. g.R.ReadOnce.gives c.loop.input (Ok (take n buffer)) c.read_once.new.self) none c.in-Ok-eq0.ensures.step)
    (subst (λ n. Consumes (remaining c.loop.input) (remaining c.read_once.new.self) (take n buffer)) none c.in-Ok-eq0.ensures.bytes.0)
    (c.in-Ok-eq0.ensures.bytes.1 none some)
    c.hang_up.ensures

pub returns-then-not-hear : goal.returns-then-not-hear
returns-then-not-hear g c =
    let some : 0 < length c.split_at.result.0.now = let l = c.split_at.ensures.front_len in let t = c.in-Ok.n-test in omega arith in
    let few : length c.split_at.result.0.now ≤ 16384 = let l = c.split_at.ensures.front_len in let b = c.in-Ok.ensures.bound.0 in search rules in
    enough c.loop.invariant c.split_at.result.0.now
    (rw c.split_at.ensures.front c.in-Ok.ensures.step) (some, few) (rw c.split_at.ensures.front c.in-Ok.ensures.bytes.0) c.if-not-hear.ensures

pub returns-then-ne : goal.returns-then-ne
returns-then-ne g c = failed c.loop.invariant _ (search rules) c.in-Err.ensures.step c.in-Err.ensures.bytes c.hang_up-then-ne.ensures

pub loop-preserved : goal.loop-preserved
loop-preserved g c =
    elim c.match-read_once.branch [
      | in-Ok+else-not-hear w ↦
          let some : 0 < length w.split_at.result.0.now = let l = w.split_at.ensures.front_len in let t = w.in-Ok.n-test in omega arith in
          let few : length w.split_at.result.0.now ≤ 16384 = search rules in
          rw w.listener-is (one_piece c.loop.invariant w.split_at.result.0.now
          (rw w.split_at.ensures.front w.in-Ok.ensures.step) (some, few) (rw w.split_at.ensures.front w.in-Ok.ensures.bytes.0) w.if-not-hear.ensures)
      | in-Err+else-ne w ↦ rw w.listener-is (one_interrupted c.loop.invariant _ w.in-Err.ensures.step (search rules) w.in-Err.ensures.bytes)
    ]

pub returns : goal.returns
returns g c = too_many c.loop.invariant (let t = c.loop-test.false in let e = c.loop.auto.counter-end in omega arith) c.hang_up-2.ensures
