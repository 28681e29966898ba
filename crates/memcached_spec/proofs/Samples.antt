-- Small histories.
use Rattle.std.proofs.Common.{◌≡◌, ℕ, List, [], ◌∷◌, ◌++◌, None, refl, sym, ◌∙◌}
use Rattle.std.specs.Prelude.{codes}
use Rattle.proto.specs.declared.reply.Reply as replies
use Rattle.proto.specs.declared.turn.Turn.{Turn}
use Rattle.proto.specs.Grammar.{Spells, next_turn}
use Rattle.proto.proofs.SpellsLemmas.{spells_one}
use Rattle.memcached_spec.specs.Asked.{TextsBy}
use Rattle.memcached_spec.specs.Laws.{AnswerBeforeRequestIsNone}

none_first : (xs ys : List Turn) → xs ++ ys ≡ [] → xs ≡ []
none_first [] ys e = refl
none_first (x ∷ xs) ys e = absurd (cc e)

none_given : (P : ℕ → replies.Reply → Type 0) (ts : List Turn) (bytes : List ℕ) → ts ≡ [] → TextsBy P 1 ts bytes → bytes ≡ []
none_given P [] bytes e h = h
none_given P (x ∷ ts) bytes e h = absurd (cc e)

no_turn : next_turn [] ≡ None
unfolding next_turn
no_turn = refl

pub answer_before_request : AnswerBeforeRequestIsNone
answer_before_request lines order =
    let a = order.answered 0 (codes "STORED\r\n") refl in
    let nothing : Spells [] [] [] = (no_turn, refl) in
    let turns : a.executed.turns ≡ [] = (spells_one [] a.executed.turns [] a.executed.rest [] a.executed.spells nothing).0 in
    let taken : a.taken ≡ [] = none_first a.taken a.more (sym a.first ∙ turns) in
    let given : codes "STORED\r\n" ≡ [] = none_given _ a.taken (codes "STORED\r\n") taken a.texts in
    cc given
