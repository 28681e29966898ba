-- No node's text is the start of another one's.
use Rattle.std.proofs.Common.{◌≡◌, ℕ, List, ◌++◌, refl, ap}
use Rattle.std.specs.Prelude.{nat_eq}
use Rattle.std.specs.Int.{w8}
use Rattle.wire.specs.Record.{IsPrefixFree}
use Rattle.wire.specs.Number.{num}
use Rattle.wire.specs.NumberLaws.{num_prefix_free, wide8}
use Rattle.wire.specs.FrontLaws.{tail_of, head_of, Passes}
use Rattle.wire.specs.RowLaws.{u16_free}
use Rattle.decrees.specs.declared.node.Node.{Node}
use Rattle.decrees.specs.declared.node.Node.TheVariants as node
use Rattle.letters.specs.Letter.{node_text}
use Rattle.letters.proofs.Marks.{marks_apart}

abbrev node_mark : Node → ℕ
node_mark (node.Client _) = 0
node_mark (node.Executor _) = 1
node_mark (node.Verifier _) = 2

node_begins : (n : Node) (rest : List ℕ) → head_of (node_text n ++ rest) ≡ node_mark n
node_begins (node.Client _) rest = refl
node_begins (node.Executor _) rest = refl
node_begins (node.Verifier _) rest = refl

u8_free : IsPrefixFree (num w8)
u8_free = num_prefix_free w8 wide8

node_alike : (v w : Node) (r s : List ℕ) → Passes (nat_eq (node_mark v) (node_mark w)) → node_text v ++ r ≡ node_text w ++ s → (v ≡ w) × (r ≡ s)
node_alike (node.Client x) (node.Client y) r s h e =
    let both = u16_free.apart x y r s (tail_of 0 0 _ _ e) in
    (ap node.Client both.0, both.1)
node_alike (node.Executor x) (node.Executor y) r s h e =
    let both = u8_free.apart x y r s (tail_of 1 1 _ _ e) in
    (ap node.Executor both.0, both.1)
node_alike (node.Verifier x) (node.Verifier y) r s h e =
    let both = u8_free.apart x y r s (tail_of 2 2 _ _ e) in
    (ap node.Verifier both.0, both.1)
node_alike _ _ r s h e = absurd h

pub node_prefix_free : IsPrefixFree node_text
node_prefix_free = marks_apart node_text node_mark node_begins node_alike
