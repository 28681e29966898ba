use Rattle.merkle.specs.Tree.{shape}
use Rattle.merkle.proofs.DifferLemmas.{in_order, of_maps}
use Rattle.merkle.proofs.merkle_map.MerkleMap.differences.Goals as goal

pub returns-in_err-differ_at-clause-order : goal.returns-in_err-differ_at-clause-order
returns-in_err-differ_at-clause-order g c = in_order g.met.K.Ord.total g.met.K.TreeKey.only_equal_tie g.K.TreeKey.bit g.K.TreeKey.BITS (shape c.self.inside.tree) c.self.invariant.trie c.args.self.now c.self.view_is

pub returns-in_err-differ_at-clause-newer_order : goal.returns-in_err-differ_at-clause-newer_order
returns-in_err-differ_at-clause-newer_order g c = in_order g.met.K.Ord.total g.met.K.TreeKey.only_equal_tie g.K.TreeKey.bit g.K.TreeKey.BITS (shape c.newer.inside.tree) c.newer.invariant.trie c.args.newer.now c.newer.view_is

pub returns-clause-found : goal.returns-clause-found
returns-clause-found g c =
    of_maps g.met.K.Ord.total g.met.K.TreeKey.only_equal_tie g.K.TreeKey.bit g.K.TreeKey.BITS g.V.TreeValue.text (shape c.self.inside.tree) (shape c.newer.inside.tree) c.self.invariant.trie c.newer.invariant.trie
    c.args.front c.new-before.result.items c.differ_at.new.before.items c.new-now.result.items c.differ_at.new.now.items c.args.self.now c.args.newer.now c.new-before.ensures.items c.new-now.ensures.items c.self.view_is c.newer.view_is
    c.in_ok-differ_at.ensures

pub returns-clause-order : goal.returns-clause-order
returns-clause-order g c = in_order g.met.K.Ord.total g.met.K.TreeKey.only_equal_tie g.K.TreeKey.bit g.K.TreeKey.BITS (shape c.self.inside.tree) c.self.invariant.trie c.args.self.now c.self.view_is

pub returns-clause-newer_order : goal.returns-clause-newer_order
returns-clause-newer_order g c = in_order g.met.K.Ord.total g.met.K.TreeKey.only_equal_tie g.K.TreeKey.bit g.K.TreeKey.BITS (shape c.newer.inside.tree) c.newer.invariant.trie c.args.newer.now c.newer.view_is
