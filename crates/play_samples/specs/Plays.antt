-- Letters of small plays in the order in which they are sent, of one verifier and of three, and rounds.
use Rattle.std.specs.Prelude.{ℕ, false, List, [], ◌∷◌, ◌++◌, None, Some, replicate}
use Rattle.token.specs.declared.Token as token
use Rattle.proto.specs.declared.reply.Reply.{Reply}
use Rattle.proto.specs.declared.reply.Reply.TheVariants.{Stored, Number}
use Rattle.batches.specs.declared.batch.Batch.{Batch}
use Rattle.decrees.specs.declared.decree.Decree.{Decree}
use Rattle.decrees.specs.declared.decree.Decree.TheVariants.{Commit, Rollback}
use Rattle.decrees.specs.declared.ballot.Ballot.TheVariants.{Token, Accept, Accepted, Decided, Change, Promise}
use Rattle.decrees.specs.declared.node.Node.TheVariants.{Executor, Verifier}
use Rattle.states.specs.State.{initial_state}
use Rattle.verifier.specs.State.{letter, to_verifiers, to_others, to_executors}
use Rattle.agreement_laws.specs.Letters.{Letters}
use Rattle.run_laws.specs.Run.{Executed}

abbrev pub bytes : ℕ → token.Token
bytes b = record { 0 = replicate 32 b }

-- an executor tells verifier 0 the token of its state of this number, in this epoch and over that token
abbrev pub letter_says : ℕ → ℕ → ℕ → token.Token → token.Token → Letters
letter_says e epoch n previous t = record { from = Executor e; to = Verifier 0; body = Token epoch n previous t } ∷ []

abbrev pub accepted : ℕ → ℕ → ℕ → Decree → List ℕ → Letters
accepted u view place d [] = []
accepted u view place d (v ∷ vs) = to_verifiers u v (Accepted view place d) ++ accepted u view place d vs

-- verifier 0 proposes the decree in view 0, these accept it, and verifier 0 knows it and tells the others
abbrev pub decided : ℕ → ℕ → Decree → List ℕ → Letters
decided u place d vs = to_verifiers u 0 (Accept 0 place d) ++ (accepted u 0 place d vs ++ (to_others u 0 (Decided place d) ++ to_executors u 0 (Decided place d)))

abbrev pub two : Letters
two = letter_says 0 1 1 (bytes 0) (bytes 1) ++ (decided 0 1 (Commit 1 (bytes 1)) (0 ∷ []) ++ (letter_says 0 1 2 (bytes 1) (bytes 2) ++ decided 0 2 (Commit 2 (bytes 2)) (0 ∷ [])))

-- of three verifiers, of which two accept
abbrev pub undone_letters : Letters
undone_letters = letter_says 0 1 1 (bytes 0) (bytes 1) ++ (letter_says 1 1 1 (bytes 0) (bytes 2) ++ (letter_says 2 1 1 (bytes 0) (bytes 3) ++ (decided 1 1 Rollback (0 ∷ 1 ∷ [])
    ++ (letter_says 0 2 1 (bytes 0) (bytes 4) ++ (letter_says 1 2 1 (bytes 0) (bytes 4) ++ decided 1 2 (Commit 1 (bytes 4)) (0 ∷ 1 ∷ []))))))

abbrev pub decree : Decree
decree = Commit 1 (bytes 1)

-- verifier 1 accepts the proposal of verifier 0, promises to verifier 2, and is asked again
abbrev pub before : Letters
before = letter_says 0 1 1 (bytes 0) (bytes 1) ++ (letter_says 1 1 1 (bytes 0) (bytes 1) ++ (to_verifiers 1 0 (Accept 0 1 decree) ++ (accepted 1 0 1 decree (1 ∷ []) ++ (to_verifiers 1 2 (Change 2)
    ++ (letter 1 (Verifier 2) (Promise 2 0 (Some (0, decree))) ∷ letter 2 (Verifier 2) (Promise 2 0 None) ∷ to_verifiers 1 2 (Accept 2 1 decree))))))

abbrev pub later_letters : Letters
later_letters = before ++ accepted 1 2 1 decree (1 ∷ 2 ∷ [])

-- the request of this number is answered; of the new state only number and token are looked at
abbrev pub round_of : Batch → ℕ → Reply → Executed
round_of b n r = record { batch = b; ordered = false; new = record initial_state { number = n; token = bytes n }; replies = record { place = 0; client = 1; number = n; reply = r } ∷ [] }

abbrev pub two_rounds : Batch → Batch → List Executed
two_rounds b c = round_of b 1 Stored ∷ round_of c 2 (Number 2) ∷ []
