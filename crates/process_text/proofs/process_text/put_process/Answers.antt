use Rattle.std.proofs.Common.{[], ◌∷◌, ◌++◌}
use Rattle.std.specs.Int.{w8}
use Rattle.wire.specs.Field.{list_text}
use Rattle.wire.specs.Number.{num}
use Rattle.wire.specs.Session.{sessions_text}
use Rattle.wire.proofs.Items.{both_put}
use Rattle.states.specs.StateRecord.{head_text}
use Rattle.process_text.specs.Rows.{executor_row_text, verifier_row_text, proxy_row_text}
use Rattle.process_text.specs.Text.{process_text}
use Rattle.process_text.proofs.TextLemmas.{two_put}
use Rattle.process_text.proofs.process_text.put_process.Goals as goal

pub returns : goal.returns
unfolding process_text
returns g c =
    let holds = g.S.Sink.holds in
    let at = c.args.sink.now in
    let marks = 1 ∷ 80 ∷ [] in
    let to_u = marks ++ num w8 c.args.u in
    let to_head = to_u ++ head_text c.args.head.now in
    let to_sessions = to_head ++ sessions_text c.args.sessions.now in
    let executors = list_text executor_row_text c.args.executors.now in
    let verifiers = list_text verifier_row_text c.args.verifiers.now in
    let proxies = list_text proxy_row_text c.args.proxies.now in
    let one = two_put holds marks (num w8 c.args.u) at c.put.new.self c.put-2.new.sink c.in_ok-put.ensures c.in_ok-put-2.ensures in
    let two = two_put holds to_u (head_text c.args.head.now) at c.put-2.new.sink c.put-3.new.sink one c.in_ok-put-3.ensures in
    let three = two_put holds to_head (sessions_text c.args.sessions.now) at c.put-3.new.sink c.put-4.new.sink two c.in_ok-put-4.ensures in
    let four = two_put holds to_sessions executors at c.put-4.new.sink c.put_list.new.sink three c.in_ok-put_list.ensures in
    let five = two_put holds (to_sessions ++ executors) verifiers at c.put_list.new.sink c.put_list-2.new.sink four c.in_ok-put_list-2.ensures in
    both_put c.put_list-3.result holds ((to_sessions ++ executors) ++ verifiers) proxies at c.put_list-2.new.sink c.put_list-3.new.sink five c.put_list-3.ensures
