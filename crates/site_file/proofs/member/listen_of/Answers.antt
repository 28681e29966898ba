use Rattle.toml.specs.View.{view}
use Rattle.site_file.proofs.member.listen_of.Goals as goal

pub returns-in-None-clause-err : goal.returns-in-None-clause-err
returns-in-None-clause-err c =
    let none = rw c.in-None.is at c.in_ok-addresses.ensures.none in
    record { member = c.requires; value = view c.in_ok-value.value.now; there = c.in_ok-value.ensures.ok; unfit = λ h. none h.0 h.1 }
