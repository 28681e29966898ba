use Rattle.std.proofs.Common.{List, ℕ, sym, subst}
use Rattle.ensemble.specs.declared.noted.Noted.{Noted}
use Rattle.ensemble.specs.Moments.{IsNow}
use Rattle.ensemble.proofs.ensemble.Ensemble.cut.Goals as goal

pub cut_at-requires : goal.cut_at-requires
cut_at-requires c = subst (λ (o : List ((ℕ × ℕ) × Noted)). IsNow o c.args.moment) (sym c.loop-id.invariant.logs.order) c.requires
