use Rattle.std.proofs.Common.{length}
use Rattle.pages.proofs.page.+drop_from_all.Given as goal

abbrev pub decreases-drop_from_all : goal.decreases-drop_from_all
decreases-drop_from_all l = length l.pages.now
