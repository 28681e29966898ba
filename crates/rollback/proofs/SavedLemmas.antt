-- What is saved of a chain stands for its record.
use Rattle.std.proofs.Common.{◌≡◌, ◌≤◌, ℕ, List, ◌++◌, length, Result, sym, ap, ◌∙◌, arith}
use Rattle.std.specs.Prelude.{map, flat_map}
use Rattle.std.specs.Int.{w8}
use Rattle.std.specs.Borrow.{Bor}
use Rattle.std.proofs.lemmas.List.Folds.{flat_map-map}
use Rattle.std.proofs.lemmas.List.{length-map}
use Rattle.base.specs.declared.fault.Fault.{Fault}
use Rattle.wire.specs.Number.{num}
use Rattle.wire.specs.Record.{Takes}
use Rattle.states.specs.declared.version.Version.TheVariants.{Second}
use Rattle.states.specs.State.{StateView, IsState}
use Rattle.states.specs.StateRecord.{state_text}
use Rattle.executor.specs.Work.{TentativeView}
use Rattle.executor.specs.MemberRecord.{member_text}
use Rattle.rollback.specs.declared.chain.TheConstants.{MOST_MEMBERS}
use Rattle.rollback.specs.Chain.{ChainView, IsFilled, IsRecorded, members_text, chain_text}
use Rattle.rollback.proofs.RecordLemmas.{chain_taken}

as_many : (ts : List TentativeView) (texts : List (List ℕ)) → texts ≡ map member_text ts → length texts ≡ length ts
as_many ts texts e = ap length e ∙ length-map ts member_text

-- there are no more of them than members
pub saved_few : (c : ChainView) (texts : List (List ℕ)) → texts ≡ map member_text c.members → length c.members ≤ MOST_MEMBERS → length texts ≤ MOST_MEMBERS
saved_few c texts e few = omega (arith, few, as_many c.members texts e)

-- the texts of all members, with their count, behind that of the committed state
pub saved_is : (c : ChainView) (s : StateView) (texts : List (List ℕ)) → s ≡ c.have → texts ≡ map member_text c.members
    → (state_text s ++ (num w8 (length texts) ++ flat_map (λ text. text) texts)) ≡ chain_text c
saved_is c s texts have e =
    let count = as_many c.members texts e in
    let bytes : flat_map (λ text. text) texts ≡ flat_map member_text c.members = ap (flat_map (λ text. text)) e ∙ flat_map-map (λ text. text) member_text c.members in
    λ i. state_text (have i) ++ (num w8 (count i) ++ bytes i)

-- the chain over the committed state that its members' texts fill, or none
pub chain_of : (committed : StateView) (texts : List (List ℕ)) (now left : List ℕ) (count : ℕ) (r : Result (ChainView × Bor (List ℕ)) Fault) → IsState committed → (state_text committed ++ (num w8 (length texts) ++ flat_map (λ text. text) texts)) ≡ now → length texts ≤ MOST_MEMBERS
    → count ≡ length texts → left ≡ flat_map (λ text. text) texts → Takes (IsFilled Second committed count) (members_text Second) left r → Takes IsRecorded chain_text now r
chain_of committed texts now left count r is view few counted same taken =
    chain_taken Second now committed (num w8 (length texts) ++ flat_map (λ text. text) texts) is (sym view) count left (λ i. num w8 (sym counted i) ++ sym same i) (omega (arith, few, counted)) r taken
