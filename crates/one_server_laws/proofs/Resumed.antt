-- An executor that goes on from its record says again what is in its chain.
use Rattle.std.proofs.Common.{◌≡◌, ℕ, zero, suc, ◌+◌, true, List, [], ◌∷◌, ◌++◌, Some, inl, refl, sym, ◌∙◌, ap, subst, ⊎_elim, append_assoc, slice_get}
use Rattle.std.specs.Prelude.{flat_map}
use Rattle.std.proofs.lemmas.List.{append-nil}
use Rattle.decrees.specs.declared.ballot.Ballot.TheVariants.{Token, Ask}
use Rattle.decrees.specs.declared.node.Node.TheVariants.{Executor, Verifier}
use Rattle.decrees.specs.Count.{member_count}
use Rattle.states.specs.State.{StateView}
use Rattle.executor.specs.Work.{TentativeView}
use Rattle.exec_lines.specs.State.{to_all_verifiers, token_told}
use Rattle.exec_lines.specs.Lines.{needs, resumed}
use Rattle.agreement_laws.specs.Letters.{Letters, Sent, here, there}
use Rattle.agreement_laws.proofs.Letters.{Sent-split}
use Rattle.run_laws.specs.Run.{Executed}
use Rattle.custody_laws.specs.Durable.{Durable, In, first, later}
use Rattle.custody_laws.specs.Machine.{ExecutorMachine, said_of, HaveNoToken, Hear}
use Rattle.custody_laws.proofs.Kept.{Chain}
use Rattle.world_laws.specs.Ballots.{ballots}
use Rattle.world_laws.proofs.BallotLemmas.{ballots-append}
use Rattle.one_server_laws.specs.Saved.{up_again}
use Rattle.one_server_laws.proofs.Steps.{Steps, none, more, said_below, say_all}
use Rattle.one_server_laws.proofs.Moves.{ballots_are, set_same, Moves}
use Rattle.one_server_laws.proofs.Lines.{told_is, needs_none}

-- what is said of each of these
abbrev pub all_said : ℕ → ℕ → List TentativeView → Letters
all_said u id [] = []
all_said u id (t ∷ ts) = said_below id (member_count u) (said_of t) ++ all_said u id ts

all_told : (u id : ℕ) (met : StateView → Type 0) (rounds : Executed → Type 0) (epoch : ℕ) (base : StateView) (ts : List TentativeView) → Chain met rounds epoch base ts → ballots (flat_map (token_told u id) ts) ≡ all_said u id ts
all_told u id met rounds epoch base [] chain = refl
all_told u id met rounds epoch base (t ∷ ts) chain =
    ballots-append (token_told u id t) (flat_map (token_told u id) ts) ∙ (λ i. told_is u id epoch base t chain.0 i ++ all_told u id met rounds epoch t.after ts chain.3 i)

say_chain : (u id : ℕ) (start m : ExecutorMachine) (x : Durable) (ts : List TentativeView) → slice_get m.executors id ≡ Some x → ((t : TentativeView) → In t ts → In t x.chain) → Steps u start m → Steps u start (record m { letters = m.letters ++ all_said u id ts })
say_chain u id start m x [] at within s = subst (λ (ls : Letters). Steps u start (record m { letters = ls })) (sym (append-nil m.letters)) s
say_chain u id start m x (t ∷ ts) at within s =
    subst (λ (ls : Letters). Steps u start (record m { letters = ls })) (append_assoc m.letters (said_below id (member_count u) (said_of t)) (all_said u id ts))
    (say_chain u id start (record m { letters = m.letters ++ said_below id (member_count u) (said_of t) }) x ts at (λ y i. within y (later i))
    (say_all u id start m x t (member_count u) at (within t (first refl)) s))

asks_only : (id n place : ℕ) → HaveNoToken (said_below id n (Ask place))
asks_only id zero place x epoch k previous t s = elim s [ ]
asks_only id (suc n) place x epoch k previous t s = ⊎_elim (asks_only id n place x epoch k previous t) one (Sent-split (said_below id n (Ask place)) (record { from = Executor id; to = Verifier n; body = Ask place } ∷ []) s)
  where
    one : Sent (record { from = Executor id; to = Verifier n; body = Ask place } ∷ []) (Executor x) (Token epoch k previous t) → ⊥
    one (here a b) = let clash : Ask place ≡ Token epoch k previous t = b in cc clash
    one (there h) = elim h [ ]

pub resumed_moves : (u id : ℕ) (m : ExecutorMachine) (x : Durable) (met : StateView → Type 0) (rounds : Executed → Type 0) → slice_get m.executors id ≡ Some x → Chain met rounds x.standing.epoch x.have x.chain
    → Moves true u id m x (ballots (resumed u id (up_again x)).letters)
resumed_moves u id m x met rounds at chain =
    let s = up_again x in
    let asks = said_below id (member_count u) (Ask (x.known + 1)) in
    let others : ballots (to_all_verifiers u id (Ask (x.known + 1)) ++ needs u id s) ≡ asks =
    ballots-append (to_all_verifiers u id (Ask (x.known + 1))) (needs u id s) ∙ ((λ i. ballots_are id (member_count u) (Ask (x.known + 1)) i ++ needs_none u id s i) ∙ append-nil asks) in
    let sent : ballots (resumed u id s).letters ≡ all_said u id x.chain ++ asks =
    ballots-append (flat_map (token_told u id) x.chain) (to_all_verifiers u id (Ask (x.known + 1)) ++ needs u id s) ∙ (λ i. all_told u id met rounds x.standing.epoch x.have x.chain chain i ++ others i) in
    record {
      now = record m { letters = m.letters ++ ballots (resumed u id s).letters };
      steps = subst (λ (ls : Letters). Steps u m (record m { letters = ls })) (append_assoc m.letters (all_said u id x.chain) asks ∙ ap (λ (ls : Letters). m.letters ++ ls) (sym sent))
          (more (say_chain u id m m x x.chain at (λ t i. i) none) (Hear asks (asks_only id (member_count u) (x.known + 1))));
      executors = sym (set_same m.executors id x at);
      letters = refl;
      decrees = refl;
      met_from = λ y c. inl c;
      rounds_from = λ r c. inl c;
    }
