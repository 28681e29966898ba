use Rattle.std.proofs.Common.{sym}
use Rattle.toml.specs.View.{view}
use Rattle.site_file.proofs.member.status_of.Goals as goal

pub returns-in-None-address_in-clause-err : goal.returns-in-None-address_in-clause-err
returns-in-None-address_in-clause-err c = record { member = c.requires; value = view c.in-Some.value.now; there = sym c.in-Some.ensures; unfit = λ h. c.in-None-address_in.ensures.none h.0 h.1 }
