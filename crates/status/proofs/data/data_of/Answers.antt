use Rattle.std.proofs.Common.{arith}
use Rattle.status.proofs.FloatLemmas.{no_float}
use Rattle.status.proofs.data.data_of.Goals as goal

pub returns : goal.returns
returns c =
    let same = c.in_ok-figures_json.ensures in
    let none = no_float c.args.figures.now c.args.folders.now in
    grind (arith, c.to_string.ensures.text, same, none)
