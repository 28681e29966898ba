use Rattle.std.proofs.Common.{◌≡◌, ◌+◌, true, false, rules, sym, ap, ◌∙◌, subst}
use Rattle.std.proofs.lemmas.Result.{on_ok_weaker}
use Rattle.merkle.specs.declared.fork.Leaf.{Leaf}
use Rattle.merkle.specs.declared.fork.Tree.{Tree}
use Rattle.merkle.specs.declared.fork.Fork.{Fork as ForkOf}
use Rattle.merkle.specs.Shape.{IsTrie, pairs}
use Rattle.merkle.specs.Tree.{shape, fork_shape, IsCached, IsForkCached}
use Rattle.merkle.proofs.PutLemmas.{into_left, into_right}
use Rattle.merkle.specs.Put.{IsPrefixed}
use Rattle.merkle.proofs.PrefixLemmas.{prefix_left, prefix_right, prefix_alike}
use Rattle.merkle.proofs.TreeLemmas.{same_shape, same_cached, of_err}
use Rattle.merkle.proofs.putting.+put.Goals as goal

pub put_into-returns-in_err-make_mut-in-Fork-clause-cached : goal.put_into-returns-in_err-make_mut-in-Fork-clause-cached
put_into-returns-in_err-make_mut-in-Fork-clause-cached g t c =
    let K = g.row.K.Denot in
    let V = g.row.V.Denot in
    let hash = g.K.TreeKey.hash in
    let text = g.V.TreeValue.text in let due = g.V.TreeValue.due in
    let old : ForkOf K V = c.in-Fork.fork.value in
    let new : ForkOf K V = c.make_mut.follows.lender-at-none.value in
    let kept : IsForkCached hash text due old = subst (λ (tree : Tree K V). IsCached hash text due tree) c.in-Fork.is c.requires.cached in
    same_cached hash text due old new (of_err _ _ c.in_err-make_mut-in-Fork.was c.make_mut.follows.holds-at-none) kept

pub put_into-put_fork-requires : goal.put_into-put_fork-requires
put_into-put_fork-requires g t c κs within =
    let K = g.row.K.Denot in
    let V = g.row.V.Denot in
    let hash = g.K.TreeKey.hash in
    let text = g.V.TreeValue.text in let due = g.V.TreeValue.due in
    let old : ForkOf K V = c.in-Fork.fork.value in
    let new : ForkOf K V = c.in_ok-make_mut-in-Fork.field-0.now in
    let kept : IsForkCached hash text due old = subst (λ (tree : Tree K V). IsCached hash text due tree) c.in-Fork.is c.requires.cached in
    let was : IsTrie g.K.TreeKey.bit g.K.TreeKey.BITS c.args.depth (fork_shape old) = subst (λ (tree : Tree K V). IsTrie g.K.TreeKey.bit g.K.TreeKey.BITS c.args.depth (shape tree)) c.in-Fork.is c.requires.trie in
    let is = c.in_ok-make_mut-in-Fork.ensures.value in
    let cached : IsForkCached hash text due new = same_cached hash text due old new is kept in
    let trie : IsTrie g.K.TreeKey.bit g.K.TreeKey.BITS c.args.depth (fork_shape new) = subst (IsTrie g.K.TreeKey.bit g.K.TreeKey.BITS c.args.depth) (sym (same_shape old new is)) was in
    search rules

pub put_side-returns-then-bit_of-clause-ok : goal.put_side-returns-then-bit_of-clause-ok
put_side-returns-then-bit_of-clause-ok g t c =
    let K = g.row.K.Denot in
    let V = g.row.V.Denot in
    let bit = g.K.TreeKey.bit in
    let on : bit c.args.leaf.now.value.entry.0 c.args.depth ≡ true = sym (c.bit_of.ensures ∙ ap (λ (l : Leaf K V). bit l.entry.0 c.args.depth) c.deref.ensures) ∙ c.if-bit_of.true in
    on_ok_weaker c.put_at.result (into_right g.met.K.TreeKey.only_equal_tie bit g.K.TreeKey.BITS c.args.leaf.now.value.entry.0 c.args.leaf.now.value.entry.1 c.args.depth (shape c.args.fork.now.left) (shape c.args.fork.now.right) (shape c.put_at.new.tree) on c.requires.trie) c.put_at.ensures.ok

pub put_side-returns-else-bit_of-clause-ok : goal.put_side-returns-else-bit_of-clause-ok
put_side-returns-else-bit_of-clause-ok g t c =
    let K = g.row.K.Denot in
    let V = g.row.V.Denot in
    let bit = g.K.TreeKey.bit in
    let on : bit c.args.leaf.now.value.entry.0 c.args.depth ≡ false = sym (c.bit_of.ensures ∙ ap (λ (l : Leaf K V). bit l.entry.0 c.args.depth) c.deref.ensures) ∙ c.if-bit_of.false in
    on_ok_weaker c.put_at-else-bit_of.result (into_left g.met.K.TreeKey.only_equal_tie bit g.K.TreeKey.BITS c.args.leaf.now.value.entry.0 c.args.leaf.now.value.entry.1 c.args.depth (shape c.args.fork.now.left) (shape c.put_at-else-bit_of.new.tree) (shape c.args.fork.now.right) on c.requires.trie) c.put_at-else-bit_of.ensures.ok

pub put_into-two_at-requires-clause-alike : goal.put_into-two_at-requires-clause-alike
put_into-two_at-requires-clause-alike g t c =
    let K = g.row.K.Denot in
    let V = g.row.V.Denot in
    let bit = g.K.TreeKey.bit in
    let old : Leaf K V = c.in-Leaf.old.value in
    prefix_alike bit c.args.leaf.now.value.entry.0 c.args.depth old.entry
    (subst (λ (tree : Tree K V). IsPrefixed bit c.args.leaf.now.value.entry.0 c.args.depth (pairs (shape tree))) c.in-Leaf.is c.requires.prefix)

pub put_side-put_at-requires : goal.put_side-put_at-requires
put_side-put_at-requires g t c κs within =
    let K = g.row.K.Denot in
    let V = g.row.V.Denot in
    let bit = g.K.TreeKey.bit in
    let on : bit c.args.leaf.now.value.entry.0 c.args.depth ≡ true = sym (c.bit_of.ensures ∙ ap (λ (l : Leaf K V). bit l.entry.0 c.args.depth) c.deref.ensures) ∙ c.if-bit_of.true in
    let prefix : IsPrefixed bit c.args.leaf.now.value.entry.0 (c.args.depth + 1) (pairs (shape c.args.fork.now.right)) =
    prefix_right bit c.args.leaf.now.value.entry.0 c.args.depth (shape c.args.fork.now.left) (shape c.args.fork.now.right) c.requires.prefix c.requires.trie.3 on in
    search rules

pub put_side-put_at-requires-else-bit_of : goal.put_side-put_at-requires-else-bit_of
put_side-put_at-requires-else-bit_of g t c κs within =
    let K = g.row.K.Denot in
    let V = g.row.V.Denot in
    let bit = g.K.TreeKey.bit in
    let on : bit c.args.leaf.now.value.entry.0 c.args.depth ≡ false = sym (c.bit_of.ensures ∙ ap (λ (l : Leaf K V). bit l.entry.0 c.args.depth) c.deref.ensures) ∙ c.if-bit_of.false in
    let prefix : IsPrefixed bit c.args.leaf.now.value.entry.0 (c.args.depth + 1) (pairs (shape c.args.fork.now.left)) =
    prefix_left bit c.args.leaf.now.value.entry.0 c.args.depth (shape c.args.fork.now.left) (shape c.args.fork.now.right) c.requires.prefix c.requires.trie.2 on in
    search rules
