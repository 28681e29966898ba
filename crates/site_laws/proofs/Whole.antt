-- A site is an ensemble.
use Rattle.std.proofs.Common.{ℕ, List, [], refl, sym, subst, None}
use Rattle.std.specs.declared.alloc.Global.{Global}
use Rattle.events.specs.Config.{ConfigView}
use Rattle.slots.specs.Runs.{RunIsSteps}
use Rattle.ensemble.proofs.Lists.{in_none}
use Rattle.site_laws.specs.Orders.{AreAllowed, DoesAll}
use Rattle.site_laws.specs.Site.{Deed, Does, HadLeft, shown_by, WentBefore, IsSite, unopened_nodes, SiteIsEnsemble, SiteIsShown}
use Rattle.site_laws.proofs.Merge.{merged}
use Rattle.site_laws.proofs.Unopened.{unopened_is_ensemble}
use Rattle.site_laws.proofs.Deeds.{one_deed}
use Rattle.site_laws.proofs.Filled.{filled}
use Rattle.site_laws.proofs.Allowed.{allowed}
use Rattle.site_laws.proofs.Shown.{all_had_left}

-- no deed was done yet
at_first : (c : ConfigView) (home : ℕ → ℕ) → IsSite home (λ m. unopened_nodes c) []
at_first c home = record {
  whole = record { nodes = unopened_nodes c; asked = []; answered = []; order = []; refused = 0; found = None };
  ensemble = unopened_is_ensemble c;
  parts = λ m. record { same_u = refl; executor = refl; verifier = refl; proxies = λ i here. refl; mail = λ l x. x };
  left = λ l x. absurd (in_none l x);
  asked = refl;
  answered = refl;
  ordered = refl;
}

pub site_is_ensemble : RunIsSteps → Global → SiteIsEnsemble
site_is_ensemble steps alloc c home order now members had =
    merged (Does home) (IsSite home) HadLeft (λ parts done m d next s may did. one_deed home parts done s m steps alloc d next may did) (λ m. unopened_nodes c) now [] order (at_first c home) members had

pub site_is_shown : RunIsSteps → Global → SiteIsShown
site_is_shown steps alloc c home count order deeds now did show few went =
    let f = filled shown_by order count deeds show few in
    record {
      deeds = f.full;
      same = f.same;
      site = site_is_ensemble steps alloc c home f.full now
          (λ m. subst (λ (ds : List Deed). DoesAll (Does home) m (unopened_nodes c) ds (now m)) (sym (f.own m)) (did m))
          (all_had_left [] f.full (allowed shown_by WentBefore [] f.full (subst (AreAllowed WentBefore []) (sym f.same) went)));
    }
