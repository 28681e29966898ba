-- A play in which a Commit is chosen: verifiers 0 to u are opened, u + 1 executors send one token to verifier 0, which proposes, and verifiers 0 to u accept.
use Rattle.std.proofs.Common.{◌≡◌, ℕ, zero, suc, ◌+◌, ◌*◌, List, [], ◌∷◌, ◌++◌, Some, refl, replicate, arith}
use Rattle.token.specs.declared.Token as token
use Rattle.decrees.specs.declared.decree.Decree.TheVariants.{Commit}
use Rattle.decrees.specs.declared.ballot.Ballot.TheVariants.{Token}
use Rattle.decrees.specs.declared.node.Node.TheVariants.{Executor, Verifier}
use Rattle.decrees.specs.Standing.{decree_at}
use Rattle.agreement_laws.specs.Letters.{Chosen}
use Rattle.agreement_laws.specs.Machine.{Event, Deliver, Restart, Send, Done, letters_of}
use Rattle.agreement_laws.specs.ChosenList.{chosen}
use Rattle.agreement_laws.specs.Laws.{SomethingIsChosen}
use Rattle.agreement_laws.proofs.Proved.{list_is_chosen}

abbrev zeros : token.Token
zeros = record { 0 = replicate 32 0 }

abbrev sevens : token.Token
sevens = record { 0 = replicate 32 7 }

abbrev opened_below : ℕ → List Event
opened_below zero = []
opened_below (suc v) = opened_below v ++ Restart v Done ∷ []

abbrev sent_below : ℕ → List Event
sent_below zero = []
sent_below (suc e) = sent_below e ++ Send (record { from = Executor e; to = Verifier 0; body = Token 1 1 zeros sevens }) ∷ []

abbrev come_below : ℕ → List Event
come_below zero = []
come_below (suc k) = come_below k ++ Deliver k Done ∷ []

abbrev play : ℕ → List Event
play u = opened_below (u + 1) ++ sent_below (u + 1) ++ come_below (2 * u + 2)

chosen_in : (u : ℕ) → decree_at (chosen u (letters_of u (play u))) 1 ≡ Some (Commit 1 sevens) → Chosen u (letters_of u (play u)) 1 (Commit 1 sevens)
chosen_in u e = (list_is_chosen u (play u) 1 (Commit 1 sevens)).0 e

pub something_is_chosen : SomethingIsChosen
something_is_chosen zero h = (play 0, (sevens, chosen_in 0 refl))
something_is_chosen (suc zero) h = (play 1, (sevens, chosen_in 1 refl))
something_is_chosen (suc (suc zero)) h = (play 2, (sevens, chosen_in 2 refl))
something_is_chosen (suc (suc (suc zero))) h = (play 3, (sevens, chosen_in 3 refl))
something_is_chosen (suc (suc (suc (suc u)))) h = absurd (omega arith)
