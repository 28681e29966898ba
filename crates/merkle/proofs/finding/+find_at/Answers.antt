use Rattle.std.proofs.Common.{◌≡◌, sym, ap, ◌∙◌, subst}
use Rattle.std.specs.FinMap.{find}
use Rattle.merkle.specs.Shape.{fork, pairs, IsTrie}
use Rattle.merkle.specs.Tree.{shape}
use Rattle.merkle.proofs.FindLemmas.{find_left, find_right}
use Rattle.merkle.proofs.finding.+find_at.Goals as goal

pub returns-then-bit : goal.returns-then-bit
returns-then-bit g t c =
    let key = c.args.key.now in
    let below = c.in-Fork.fork.value in
    let is : shape c.args.tree.now ≡ fork (shape below.left) (shape below.right) = ap shape c.in-Fork.is in
    let trie = subst (IsTrie g.K.TreeKey.bit g.K.TreeKey.BITS c.args.depth) is c.requires.trie in
    c.find_at.ensures
    ∙ ap (λ n. find g.K.Ord.cmp key (pairs (shape n.right))) c.deref-then-bit.ensures
    ∙ sym (find_right g.met.K.TreeKey.only_equal_tie (λ k. g.K.TreeKey.bit k c.args.depth) key (pairs (shape below.left)) (pairs (shape below.right)) trie.2 (sym c.bit.ensures ∙ c.if-bit.true))
    ∙ sym (ap (λ s. find g.K.Ord.cmp key (pairs s)) is)

pub returns-else-bit : goal.returns-else-bit
returns-else-bit g t c =
    let key = c.args.key.now in
    let below = c.in-Fork.fork.value in
    let is : shape c.args.tree.now ≡ fork (shape below.left) (shape below.right) = ap shape c.in-Fork.is in
    let trie = subst (IsTrie g.K.TreeKey.bit g.K.TreeKey.BITS c.args.depth) is c.requires.trie in
    c.find_at-else-bit.ensures
    ∙ ap (λ n. find g.K.Ord.cmp key (pairs (shape n.left))) c.deref-else-bit.ensures
    ∙ sym (find_left g.met.K.TreeKey.only_equal_tie (λ k. g.K.TreeKey.bit k c.args.depth) key (pairs (shape below.left)) (pairs (shape below.right)) trie.3 (sym c.bit.ensures ∙ c.if-bit.false))
    ∙ sym (ap (λ s. find g.K.Ord.cmp key (pairs s)) is)
