use Rattle.std.proofs.Common.{◌≡◌, ◌<◌, ◌≤◌, true, false, true≢false, sym, ap, ◌∙◌, refl, arith, subst}
use Rattle.std.specs.Prelude.{IfErr}
use Rattle.base.specs.declared.fault.Fault.TheVariants.{Unfit}
use Rattle.round.specs.Sittings.{fits, group_fits}
use Rattle.round.specs.declared.open.TheConstants.{MOST_CALLERS}
use Rattle.round.proofs.Makes.{callers_fit}
use Rattle.workers.proofs.rounds.run.Goals as goal

pub returns-clause-unfit : goal.returns-clause-unfit
returns-clause-unfit g c =
    let base = c.args.base in
    let group = c.args.group.items in
    let fit : group_fits base group ≡ true = sym (c.group_fits.ensures ∙ ap (λ l. group_fits base l) c.deref.ensures.value) ∙ c.if-not-group_fits.false in
    let some : 0 < c.max-busy.result = let at = c.max-busy.ensures in omega arith in
    let few : c.max-busy.result ≤ MOST_CALLERS = let at = c.max-busy.ensures in let least = c.min.ensures in let sixteen = c.on_steps.ensures.few in omega arith in
    let busy = callers_fit base group c.max-busy.result fit some few in (
      (λ e. absurd (true≢false (sym busy ∙ subst (λ r. IfErr r (λ fault. fault ≡ Unfit → fits base group c.max-busy.result ≡ false)) e c.within.ensures.unfit refl))),
      (λ n. absurd (true≢false (sym fit ∙ n))),
    )
