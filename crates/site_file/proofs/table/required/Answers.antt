use Rattle.std.proofs.Common.{sym}
use Rattle.site_file.proofs.table.required.Goals as goal

pub returns-in-None-clause-err : goal.returns-in-None-clause-err
returns-in-None-clause-err c = record { member = c.requires.there; required = c.requires.required; nothing = sym c.in-None.ensures }
