-- A get reads each of its keys once, and finds no more than it asks for.
use Rattle.std.proofs.Common.{◌≡◌, ℕ, ℤ, ◌≤◌, Bool, List, [], ◌∷◌, length, Some, None, arith}
use Rattle.std.proofs.lemmas.List.{length-append, length-map}
use Rattle.item_steps.specs.declared.step.Step.TheVariants.{Read, ReadAndTouch}
use Rattle.item_steps.specs.declared.step.Answer.{Answer}
use Rattle.item_steps.specs.declared.step.Answer.TheVariants.{Seen, Did}
use Rattle.item_steps.specs.Steps.{value, values, reads, touching_reads}

pub as_many_reads : (keys : List (List ℕ)) → length (reads keys) ≡ length keys
as_many_reads keys = length-map keys (λ key. Read key)

pub as_many_touching_reads : (exptime : ℤ) (keys : List (List ℕ)) → length (touching_reads exptime keys) ≡ length keys
as_many_touching_reads exptime keys = length-map keys (λ key. ReadAndTouch key exptime)

one_at_most : (with_unique : Bool) (key : List ℕ) (answer : Answer) → length (value with_unique key answer) ≤ 1
one_at_most with_unique key (Seen (Some item)) = omega arith
one_at_most with_unique key (Seen None) = omega arith
one_at_most with_unique key (Did reply) = omega arith

pub few_values : (with_unique : Bool) (keys : List (List ℕ)) (answers : List Answer) → length (values with_unique keys answers) ≤ length keys
few_values with_unique [] answers = omega arith
few_values with_unique (key ∷ keys) [] = omega arith
few_values with_unique (key ∷ keys) (answer ∷ answers) =
    omega (arith, length-append (value with_unique key answer) (values with_unique keys answers), one_at_most with_unique key answer, few_values with_unique keys answers)
