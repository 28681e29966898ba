use Rattle.toml.specs.View.{view}
use Rattle.site_file.proofs.values.u_of.Goals as goal

pub returns-in-None-clause-err : goal.returns-in-None-clause-err
returns-in-None-clause-err c = record { member = tt; value = view c.in_ok-value.value.now; there = c.in_ok-value.ensures.ok; unfit = λ h. c.in-None.ensures.none h.0 h.1 }
