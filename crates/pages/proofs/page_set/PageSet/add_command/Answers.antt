use Rattle.pages.proofs.OtherLemmas.{reads-covered, touching-covered}
use Rattle.pages.proofs.page_set.PageSet.add_command.Goals as goal

pub returns-in-Get-clause-covers : goal.returns-in-Get-clause-covers
returns-in-Get-clause-covers c = rw c.in-Get.is (reads-covered c.args.self.now c.in-Get.field-0)

pub returns-in-Gets-clause-covers : goal.returns-in-Gets-clause-covers
returns-in-Gets-clause-covers c = rw c.in-Gets.is (reads-covered c.args.self.now c.in-Gets.field-0)

pub returns-in-Gat-clause-covers : goal.returns-in-Gat-clause-covers
returns-in-Gat-clause-covers c =
    let has = rw c.as_slice.ensures.items at c.add_keys.ensures.has in
    rw c.in-Gat.is (touching-covered c.add_keys.new.self c.in-Gat.field-0 c.in-Gat.keys has)

pub returns-in-Gats-clause-covers : goal.returns-in-Gats-clause-covers
returns-in-Gats-clause-covers c =
    let has = rw c.as_slice-in-Gats.ensures.items at c.add_keys-in-Gats.ensures.has in
    rw c.in-Gats.is (touching-covered c.add_keys-in-Gats.new.self c.in-Gats.field-0 c.in-Gats.keys has)
