-- A verifier that lends its keeper.
use Rattle.std.specs.Prelude.{ℕ, List}
use Rattle.std.specs.Borrow.{Lends, MutBor, Fml}
use denote.RattleType.{RattleType}
use Rattle.keeper.specs.declared.keeper.Keeper.{Ghosts}
use Rattle.verifier.specs.declared.verifier.Verifier.{Verifier}
use Rattle.verifier.specs.contracts.verifier.Verifier.{the_row}

-- the verifier ends with the record, the failures and the mark of the keeper that was left
abbrev pub LendsKeeper : (K : RattleType) (g : Ghosts K.Denot (List ℕ)) → MutBor (Verifier K.Denot) → MutBor K.Denot → Fml
LendsKeeper K g n r = Lends (the_row K g) K n r (λ k. record n.now { saved = g.saved k; failures = g.failed k; told = g.told k })
