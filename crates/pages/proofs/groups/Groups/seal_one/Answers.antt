use Rattle.pages.proofs.GroupLemmas.{kept-sealed}
use Rattle.pages.proofs.groups.Groups.seal_one.Goals as goal

pub returns-clause-kept : goal.returns-clause-kept
returns-clause-kept c =
    kept-sealed c.args.layout c.args.self.now c.seal.new.self c.args.tree.now c.seal.new.tree c.args.written.now c.args.group c.requires.kept
    c.in_ok-seal.ensures.sealed c.in_ok-seal.ensures.others c.in_ok-seal.ensures.items c.in_ok-seal.ensures.count
