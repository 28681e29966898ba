use Rattle.world_laws.specs.Laws.{OneIsChosen, ChosenIsBacked, ChosenStands, ChosenIsKept}
use Rattle.service.specs.Service.{ServiceView, HasEnsemble}
use Rattle.service.specs.Process.{IsWhole, found_by}
use Rattle.service.proofs.Ending.{holds_after}
use Rattle.service_laws.specs.Replicas.{InEach, WholeIsKept, LastStateIsKept}
use Rattle.service_laws.proofs.ReplicaLemmas.{of_replicas, last_is_kept}
use Rattle.service_laws.proofs.replicas.replicas_agree_and_keep.Goals as goal

pub returns : goal.returns
returns c =
    let v = c.args.service.now in
    let whole = c.shows.ensures.process in
    record {
      world = holds_after (found_by v) IsWhole HasEnsemble v (λ x h. h.ensemble) whole;
      agree = holds_after (found_by v) IsWhole (λ (x : ServiceView). InEach x OneIsChosen) v
          (λ x h over. of_replicas x over OneIsChosen (c.one_is_chosen_in_worlds.ensures over.world.config over.world.events over.world.now over.world.through)) whole;
      backed = holds_after (found_by v) IsWhole (λ (x : ServiceView). InEach x ChosenIsBacked) v
          (λ x h over. of_replicas x over ChosenIsBacked (c.chosen_is_backed_in_worlds.ensures over.world.config over.world.events over.world.now over.world.through)) whole;
      kept = holds_after (found_by v) IsWhole (λ (x : ServiceView). InEach x ChosenStands) v
          (λ x h over. of_replicas x over ChosenStands (c.chosen_stands_in_worlds.ensures over.world.config over.world.events over.world.now over.world.through)) whole;
      kept_whole = holds_after (found_by v) IsWhole WholeIsKept v
          (λ x h over none. of_replicas x over ChosenIsKept (c.chosen_is_kept_in_worlds.ensures over.world.config over.world.events over.world.now none over.world.through)) whole;
      executors_keep = holds_after (found_by v) IsWhole LastStateIsKept v (λ x h. last_is_kept x c.executors_keep_the_run.ensures) whole;
    }
