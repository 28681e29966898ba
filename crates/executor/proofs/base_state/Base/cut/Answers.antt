use Rattle.std.proofs.Common.{◌≡◌, ℕ, ◌+◌, IfOk, OnOk, subst}
use Rattle.std.specs.Prelude.{IfSome}
use Rattle.sessions.specs.Fresh.{Replies}
use Rattle.batches.specs.declared.batch.TheConstants.{MOST_REQUESTS}
use Rattle.batches.specs.Cut.{taken, left, IsCut, Fits}
use Rattle.executor.proofs.base_state.Base.cut.Goals as goal

pub returns-clause-batch : goal.returns-clause-batch
returns-clause-batch c =
    subst (λ (s : Replies). IfOk c.cut.result (λ batch. IsCut c.args.epoch (c.args.self.now.state.number + 1) c.args.moment (taken MOST_REQUESTS s c.args.gather.now) batch)) c.sessions.ensures.sessions
    (subst (λ (n : ℕ). IfOk c.cut.result (λ batch. IsCut c.args.epoch (n + 1) c.args.moment (taken MOST_REQUESTS c.sessions.result.now c.args.gather.now) batch)) c.number-number.ensures.number c.cut.ensures.batch)

pub returns-clause-left : goal.returns-clause-left
returns-clause-left c = subst (λ (s : Replies). OnOk c.cut.result (c.cut.new.self ≡ left MOST_REQUESTS s c.args.gather.now)) c.sessions.ensures.sessions c.cut.ensures.left

pub returns-clause-fits : goal.returns-clause-fits
returns-clause-fits c = subst (λ (s : Replies). IfOk c.cut.result (λ batch. IfSome batch (λ b. Fits MOST_REQUESTS s b.requests))) c.sessions.ensures.sessions c.cut.ensures.fits
