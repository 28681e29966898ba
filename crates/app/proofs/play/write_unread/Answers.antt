use Rattle.std.proofs.Common.{◌≡◌, ◌++◌, rules}
use Rattle.app.specs.Printed.{unread_text}
use Rattle.app.proofs.Writing.{wrote_three}
use Rattle.app.proofs.play.write_unread.Goals as goal

pub returns : goal.returns
returns g c =
    let contents = g.E.Write.contents in
    let text : unread_text c.args.name.now ≡ c.as_slice.result.now ++ (c.as_bytes.result.now ++ c.as_slice-2.result.now) = search rules in
    wrote_three c.write_session-3.result (contents c.args.err.now) (contents c.write_session.new.output) (contents c.write_session-2.new.output) (contents c.write_session-3.new.output)
    c.as_slice.result.now c.as_bytes.result.now c.as_slice-2.result.now (unread_text c.args.name.now)
    c.in_ok-write_session.ensures.bytes c.in_ok-write_session-2.ensures.bytes c.write_session-3.ensures.bytes text
