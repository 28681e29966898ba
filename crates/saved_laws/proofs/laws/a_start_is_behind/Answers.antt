use Rattle.std.proofs.Common.{inl, refl}
use Rattle.saved_laws.proofs.laws.a_start_is_behind.Goals as goal

pub returns : goal.returns
returns g c = λ saver moments found may. inl (may, refl)
