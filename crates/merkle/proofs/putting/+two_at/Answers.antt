use Rattle.std.proofs.Common.{◌≡◌, ℕ, ◌<◌, true, false, sym, ap, ◌∙◌, subst}
use Rattle.std.proofs.lemmas.Result.{IfOk-weaker}
use Rattle.merkle.specs.declared.fork.Leaf.{Leaf}
use Rattle.merkle.specs.Shape.{Shape, one, fork}
use Rattle.merkle.specs.Tree.{shape}
use Rattle.merkle.specs.Put.{IsPutInto}
use Rattle.merkle.proofs.PutLemmas.{both_left, both_right, new_right}
use Rattle.merkle.proofs.TreeLemmas.{alike, second_true}
use Rattle.merkle.proofs.putting.+two_at.Goals as goal

pub returns-then-first-clause-put : goal.returns-then-first-clause-put
returns-then-first-clause-put g t c =
    let K = g.row.K.Denot in
    let V = g.row.V.Denot in
    let bit = g.K.TreeKey.bit in
    let first : bit c.args.one.now.value.entry.0 c.args.depth ≡ true = sym (c.bit_of-first.ensures ∙ ap (λ (l : Leaf K V). bit l.entry.0 c.args.depth) c.deref-2.ensures) ∙ c.if-first.true in
    let second : bit c.args.other.now.value.entry.0 c.args.depth ≡ true = sym (c.bit_of-second.ensures ∙ ap (λ (l : Leaf K V). bit l.entry.0 c.args.depth) c.deref-3.ensures) ∙ (alike c.bit_of-first.result c.bit_of-second.result c.if-first-second.true ∙ c.if-first.true) in
    IfOk-weaker c.join.result _ _ (λ tree h. subst (λ (s : Shape K V). IsPutInto g.K.Ord.cmp bit g.K.TreeKey.BITS c.args.depth c.args.other.now.value.entry.0 c.args.other.now.value.entry.1 (one c.args.one.now.value.entry.0 c.args.one.now.value.entry.1) s) (sym h.shaped)
    (both_right g.met.K.TreeKey.only_equal_tie bit g.K.TreeKey.BITS c.args.other.now.value.entry.0 c.args.other.now.value.entry.1 c.args.depth (c.args.one.now.value.entry.0, c.args.one.now.value.entry.1) (shape c.in_ok-below.below)
    (subst (λ (m : ℕ). c.args.depth < m) c.BITS.ensures c.if-depth-BITS.false) c.requires.differ first second c.in_ok-below.ensures.put)) c.join.ensures

pub returns-else-first-clause-put : goal.returns-else-first-clause-put
returns-else-first-clause-put g t c =
    let K = g.row.K.Denot in
    let V = g.row.V.Denot in
    let bit = g.K.TreeKey.bit in
    let first : bit c.args.one.now.value.entry.0 c.args.depth ≡ false = sym (c.bit_of-first.ensures ∙ ap (λ (l : Leaf K V). bit l.entry.0 c.args.depth) c.deref-2.ensures) ∙ c.if-first.false in
    let second : bit c.args.other.now.value.entry.0 c.args.depth ≡ false = sym (c.bit_of-second.ensures ∙ ap (λ (l : Leaf K V). bit l.entry.0 c.args.depth) c.deref-3.ensures) ∙ (alike c.bit_of-first.result c.bit_of-second.result c.if-first-second.true ∙ c.if-first.false) in
    IfOk-weaker c.join-else-first.result _ _ (λ tree h. subst (λ (s : Shape K V). IsPutInto g.K.Ord.cmp bit g.K.TreeKey.BITS c.args.depth c.args.other.now.value.entry.0 c.args.other.now.value.entry.1 (one c.args.one.now.value.entry.0 c.args.one.now.value.entry.1) s) (sym h.shaped)
    (both_left g.met.K.TreeKey.only_equal_tie bit g.K.TreeKey.BITS c.args.other.now.value.entry.0 c.args.other.now.value.entry.1 c.args.depth (c.args.one.now.value.entry.0, c.args.one.now.value.entry.1) (shape c.in_ok-below.below)
    (subst (λ (m : ℕ). c.args.depth < m) c.BITS.ensures c.if-depth-BITS.false) c.requires.differ first second c.in_ok-below.ensures.put)) c.join-else-first.ensures

pub returns-in_ok-leaf_of-4-clause-put : goal.returns-in_ok-leaf_of-4-clause-put
returns-in_ok-leaf_of-4-clause-put g t c =
    let K = g.row.K.Denot in
    let V = g.row.V.Denot in
    let bit = g.K.TreeKey.bit in
    let first : bit c.args.one.now.value.entry.0 c.args.depth ≡ false = sym (c.bit_of-first.ensures ∙ ap (λ (l : Leaf K V). bit l.entry.0 c.args.depth) c.deref-2.ensures) ∙ c.if-first-2.false in
    let second : bit c.args.other.now.value.entry.0 c.args.depth ≡ true = sym (c.bit_of-second.ensures ∙ ap (λ (l : Leaf K V). bit l.entry.0 c.args.depth) c.deref-3.ensures) ∙ second_true c.bit_of-first.result c.bit_of-second.result c.if-first-second.false c.if-first-2.false in
    IfOk-weaker c.join-else-first-2.result _ _ (λ tree h. subst (λ (s : Shape K V). IsPutInto g.K.Ord.cmp bit g.K.TreeKey.BITS c.args.depth c.args.other.now.value.entry.0 c.args.other.now.value.entry.1 (one c.args.one.now.value.entry.0 c.args.one.now.value.entry.1) s)
    (sym (h.shaped ∙ (λ i. fork (c.in_ok-leaf_of-3.ensures.shaped i) (c.in_ok-leaf_of-4.ensures.shaped i))))
    (new_right g.met.K.TreeKey.only_equal_tie bit g.K.TreeKey.BITS c.args.other.now.value.entry.0 c.args.other.now.value.entry.1 c.args.depth (c.args.one.now.value.entry.0, c.args.one.now.value.entry.1)
    (subst (λ (m : ℕ). c.args.depth < m) c.BITS.ensures c.if-depth-BITS.false) c.requires.differ first second)) c.join-else-first-2.ensures
