use Rattle.std.proofs.Common.{rules, ◌≡◌, ℕ, true, List, [], ◌∷◌, ◌++◌, refl, sym, flat_map, length, Ok, Err, ap, ◌∙◌, arith}
use Rattle.std.specs.Prelude.{◌==◌}
use Rattle.std.proofs.lemmas.Bool.{eqb-true}
use Rattle.std.specs.Int.{w8}
use Rattle.std.proofs.lemmas.List.{append-nil}
use Rattle.std.proofs.lemmas.Result.{err_from_is_err_and}
use Rattle.wire.proofs.Values.{none_whole}
use Rattle.wire.specs.Number.{num}
use Rattle.states.specs.State.{IsState}
use Rattle.states.specs.StateRecord.{state_text}
use Rattle.states.specs.declared.version.Version.TheVariants.{Second}
use Rattle.rollback.specs.Chain.{IsRecorded, chain_text}
use Rattle.rollback.proofs.RecordLemmas.{chain_left_over}
use Rattle.rollback.proofs.SavedLemmas.{chain_of}
use Rattle.rollback.proofs.saved_chain.SavedChain.chain.Goals as goal

empty : (xs : List ℕ) → (length xs == 0) ≡ true → xs ≡ []
empty [] e = refl
empty (x ∷ xs) e = absurd (let none = eqb-true (length (x ∷ xs)) 0 e in omega (arith, none))

pub returns-in_err-chain : goal.returns-in_err-chain
returns-in_err-chain c =
    let left : c.as_slice-2.result.now ≡ flat_map (λ text. text) c.self.inside.members.items = c.as_slice-2.ensures.value ∙ (c.in_ok-text.ensures ∙ ap (flat_map (λ text. text)) c.as_slice.ensures.value) in
    let state : c.of_state-committed.result.state ≡ c.self.inside.committed = search rules in
    let is : IsState c.of_state-committed.result.state = search rules in
    let view = (λ i. state_text (state i) ++ (num w8 (length c.self.inside.members.items) ++ flat_map (λ text. text) c.self.inside.members.items)) ∙ c.self.view_is in
    let p = err_from_is_err_and c.from_residual-in_err-chain.result c.from_residual-in_err-chain.ensures.1 in
    rw (p.1, p.2) (none_whole IsRecorded chain_text c.args.self.now c.in_err-chain.field-0.0
    (chain_of c.of_state-committed.result.state c.self.inside.members.items c.args.self.now c.as_slice-2.result.now _ (Err c.in_err-chain.field-0.0) is view c.self.invariant (search rules) left c.in_err-chain.ensures))

pub returns-then-is_empty : goal.returns-then-is_empty
returns-then-is_empty c =
    let left : c.as_slice-2.result.now ≡ flat_map (λ text. text) c.self.inside.members.items = c.as_slice-2.ensures.value ∙ (c.in_ok-text.ensures ∙ ap (flat_map (λ text. text)) c.as_slice.ensures.value) in
    let state : c.of_state-committed.result.state ≡ c.self.inside.committed = search rules in
    let is : IsState c.of_state-committed.result.state = search rules in
    let view = (λ i. state_text (state i) ++ (num w8 (length c.self.inside.members.items) ++ flat_map (λ text. text) c.self.inside.members.items)) ∙ c.self.view_is in
    let taken = chain_of c.of_state-committed.result.state c.self.inside.members.items c.args.self.now c.as_slice-2.result.now _ (Ok (c.in_ok-chain.chain, c.in_ok-chain.rest)) is view c.self.invariant (search rules) left c.in_ok-chain.ensures in
    let none = empty c.in_ok-chain.rest.now (sym c.is_empty.ensures ∙ c.if-is_empty.true) in
    (taken.0, taken.1 ∙ (ap (λ (rest : List ℕ). chain_text c.in_ok-chain.chain ++ rest) none ∙ append-nil (chain_text c.in_ok-chain.chain)))

pub returns : goal.returns
returns c =
    let left : c.as_slice-2.result.now ≡ flat_map (λ text. text) c.self.inside.members.items = c.as_slice-2.ensures.value ∙ (c.in_ok-text.ensures ∙ ap (flat_map (λ text. text)) c.as_slice.ensures.value) in
    let state : c.of_state-committed.result.state ≡ c.self.inside.committed = search rules in
    let is : IsState c.of_state-committed.result.state = search rules in
    let view = (λ i. state_text (state i) ++ (num w8 (length c.self.inside.members.items) ++ flat_map (λ text. text) c.self.inside.members.items)) ∙ c.self.view_is in
    let taken = chain_of c.of_state-committed.result.state c.self.inside.members.items c.args.self.now c.as_slice-2.result.now _ (Ok (c.in_ok-chain.chain, c.in_ok-chain.rest)) is view c.self.invariant (search rules) left c.in_ok-chain.ensures in
    chain_left_over Second c.args.self.now c.in_ok-chain.chain c.in_ok-chain.rest.now taken.0 taken.1 (λ none. search (rules, none))
