use Rattle.std.proofs.Common.{arith}
use Rattle.status.proofs.FloatLemmas.{no_float_in_history}
use Rattle.status.proofs.data.history_of.Goals as goal

pub returns : goal.returns
returns c =
    let same = c.in_ok-samples_json.ensures in
    let none = no_float_in_history c.args.samples.now in
    grind (arith, c.to_string.ensures.text, same, none)
