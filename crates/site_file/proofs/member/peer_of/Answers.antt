use Rattle.toml.specs.View.{view}
use Rattle.site_file.proofs.member.peer_of.Goals as goal

pub returns-in-Some-clause-ok : goal.returns-in-Some-clause-ok
returns-in-Some-clause-ok c = record { value = view c.in_ok-value.value.now; there = c.in_ok-value.ensures.ok; says = c.in-Some.ensures.some }

pub returns-in-None-clause-err : goal.returns-in-None-clause-err
returns-in-None-clause-err c = record { member = c.requires; value = view c.in_ok-value.value.now; there = c.in_ok-value.ensures.ok; unfit = λ h. c.in-None.ensures.none h.0 h.1 }
