use Rattle.std.proofs.Common.{◌≡◌, ◌++◌, rules}
use Rattle.app.specs.Printed.{refusal_text}
use Rattle.app.proofs.Writing.{wrote_three}
use Rattle.app.proofs.play.write_refusal.Goals as goal

pub returns-in_ok-write_session-in-BadSchedule-2 : goal.returns-in_ok-write_session-in-BadSchedule-2
returns-in_ok-write_session-in-BadSchedule-2 g c =
    let contents = g.E.Write.contents in
    let text : refusal_text c.args.fault ≡ c.as_slice-in-BadSchedule.result.now ++ (c.as_bytes.result.now ++ c.as_slice-in-BadSchedule-2.result.now) = search rules in
    wrote_three c.write_session-in-BadSchedule-3.result (contents c.args.err.now) (contents c.write_session-in-BadSchedule.new.output) (contents c.write_session-in-BadSchedule-2.new.output) (contents c.write_session-in-BadSchedule-3.new.output)
    c.as_slice-in-BadSchedule.result.now c.as_bytes.result.now c.as_slice-in-BadSchedule-2.result.now (refusal_text c.args.fault)
    c.in_ok-write_session-in-BadSchedule.ensures.bytes c.in_ok-write_session-in-BadSchedule-2.ensures.bytes c.write_session-in-BadSchedule-3.ensures.bytes text
