use Rattle.std.proofs.Common.{rules, ◌≡◌, [], ◌++◌, ℕ, List, ap, sym, ◌∙◌, arith}
use Rattle.std.proofs.lemmas.Bool.{eqb-true}
use Rattle.std.proofs.lemmas.List.{append-nil, nil_from_length}
use Rattle.std.proofs.lemmas.Result.{err_from_is_err_and}
use Rattle.wire.proofs.Values.{none_whole, left_over}
use Rattle.letters.specs.Letter.{LetterFits, letter_text}
use Rattle.letters.proofs.LetterLemmas.{letter_prefix_free}
use Rattle.letters.proofs.BoundLemmas.{bytes_bounded}
use Rattle.letters.proofs.letter.read.Goals as goal

pub returns-in_err-letter-clause-letter : goal.returns-in_err-letter-clause-letter
returns-in_err-letter-clause-letter c =
    let p = err_from_is_err_and c.from_residual.result c.from_residual.ensures.1 in
    rw (p.1, p.2) (none_whole LetterFits letter_text c.args.bytes.now c.in_err-letter.field-0.0 c.in_err-letter.ensures)

pub returns-then-is_empty-clause-bound : goal.returns-then-is_empty-clause-bound
returns-then-is_empty-clause-bound c =
    let letter = c.in_ok-letter.letter in
    let none : c.in_ok-letter.rest.now ≡ [] = nil_from_length c.in_ok-letter.rest.now (eqb-true _ _ (sym c.is_empty.ensures ∙ c.if-is_empty.true)) in
    let whole : c.args.bytes.now ≡ letter_text letter = c.in_ok-letter.ensures.1 ∙ (ap (λ (t : List ℕ). letter_text letter ++ t) none ∙ append-nil (letter_text letter)) in
    bytes_bounded c.args.bytes.now letter (λ i. omega (arith, c.type_inv.bytes i)) whole c.in_ok-letter.ensures.0

pub returns-else-is_empty-clause-letter : goal.returns-else-is_empty-clause-letter
returns-else-is_empty-clause-letter c =
    let more : c.in_ok-letter.rest.now ≡ [] → ⊥ = search rules in
    λ v f same. left_over letter_prefix_free c.args.bytes.now c.in_ok-letter.letter c.in_ok-letter.rest.now c.in_ok-letter.ensures.1 more v same
