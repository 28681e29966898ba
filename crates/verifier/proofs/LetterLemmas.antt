-- Letters that tell decrees, one more.
use Rattle.std.proofs.Common.{◌≡◌, ℕ, suc, ◌+◌, ◌<◌, List, [], ◌∷◌, ◌++◌, length, take, get_or, ap, sym, ◌∙◌, arith, add-zero}
use Rattle.std.proofs.lemmas.List.{take_more, length-take-le}
use Rattle.decrees.specs.declared.decree.Decree.{Decree}
use Rattle.decrees.specs.declared.ballot.Ballot.TheVariants.{Decided}
use Rattle.decrees.specs.declared.node.Node.{Node}
use Rattle.verifier.specs.State.{decided_from, letter}

decided_from-snoc : (id : ℕ) (to : Node) (place : ℕ) (xs : List Decree) (x : Decree) → decided_from id to place (xs ++ x ∷ []) ≡ decided_from id to place xs ++ letter id to (Decided (place + length xs) x) ∷ []
decided_from-snoc id to place [] x = ap (λ p. letter id to (Decided p x) ∷ []) (sym (add-zero place))
decided_from-snoc id to place (y ∷ ys) x =
    let e : (place + 1) + length ys ≡ place + suc (length ys) = omega arith in
    ap (λ ls. letter id to (Decided place y) ∷ ls) (decided_from-snoc id to (place + 1) ys x)
    ∙ ap (λ p. letter id to (Decided place y) ∷ (decided_from id to (place + 1) ys ++ letter id to (Decided p x) ∷ [])) e

-- one decree more of those that are told
pub decided_from-take : (id : ℕ) (to : Node) (place : ℕ) (xs : List Decree) (i : ℕ) (d : Decree) → i < length xs → decided_from id to place (take (i + 1) xs) ≡ decided_from id to place (take i xs) ++ letter id to (Decided (place + i) (get_or xs i d)) ∷ []
decided_from-take id to place xs i d below =
    let e : length (take i xs) ≡ i = length-take-le i xs (omega arith) in
    ap (decided_from id to place) (take_more xs i d below)
    ∙ decided_from-snoc id to place (take i xs) (get_or xs i d)
    ∙ ap (λ n. decided_from id to place (take i xs) ++ letter id to (Decided (place + n) (get_or xs i d)) ∷ []) e
