use Rattle.std.proofs.Common.{ℕ, List, ◌+◌, length, sym, subst}
use Rattle.dialect.specs.Reading.{IsPiece}
use Rattle.dialect.proofs.PieceLemmas.{one_piece}
use Rattle.dialect.proofs.reading.first_key.Goals as goal

pub returns : goal.returns
returns c = (
  c.in_ok-keys.ensures,
  subst (λ (ks : List (List ℕ)). IsPiece c.args.reading ks (c.head_len.result + length c.args.word.now + 3)) (sym c.in_ok-keys.ensures)
      (one_piece c.args.reading c.args.word.now c.head_len.result c.head_len.ensures.bytes c.head_len.ensures.short c.requires),
)
