-- An executor whose process ended is one that crashed.
use Rattle.std.proofs.Common.{◌≡◌, ℕ, List, [], Option, Some, slice_get, refl, sym, subst}
use Rattle.std.specs.Prelude.{Contains}
use Rattle.std.proofs.lemmas.List.{append-nil}
use Rattle.decrees.specs.declared.node.Letter.{Letter}
use Rattle.exec_lines.specs.declared.body.Body.{Body}
use Rattle.events.specs.declared.event.Event.TheVariants.{Crash}
use Rattle.events.specs.declared.event.Replica.TheVariants as replica
use Rattle.slots.specs.Slots.{executor_kept, crashed_slot}
use Rattle.worlds.specs.World.{WorldView, WorldNext, changed_at, with_executor}
use Rattle.hosts.specs.Host.{HostView}
use Rattle.ensemble.specs.Nodes.{NodesView, HostMoves}
use Rattle.ensemble.specs.Ensemble.{HasSent, IsLike}
use Rattle.ensemble.proofs.Lists.{in_none}
use Rattle.ensemble.proofs.Goes.{Goes, moves_by}
use Rattle.ensemble.proofs.Hosts.{Acts, host_goes}
use Rattle.site_laws.specs.Site.{HostEnds}

executor_acts : {cut : Option ℕ} → (w : WorldView) (id : ℕ) (h left : HostView) (sent : List (Letter Body)) → slice_get w.executors id ≡ Some h.slot → HasSent h id w.letters → HostEnds h left sent → Acts cut w id left sent
executor_acts {cut} w id h left sent at has did =
    let ended : HostView = record { slot = crashed_slot executor_kept h.slot; held = []; sent = [] } in
    let next : WorldNext w (Crash (replica.Executor id)) (with_executor w id ended.slot []) =
    λ i. record w { executors = changed_at w.executors id (crashed_slot executor_kept) (sym at i); letters = append-nil w.letters i } in
    subst (λ (x : HostView). Acts cut w id x sent) (sym did.0) (record {
      new = [];
      moves = moves_by w (with_executor w id ended.slot []) (Crash (replica.Executor id)) [] next (λ client. refl) (λ moment c. absurd (cc c)) refl;
      has = record { held = λ l c. absurd (in_none l c); sent = λ l c. absurd (in_none l c) };
      are_sent = λ l c. absurd (in_none l (subst (λ (ls : List (Letter Body)). Contains ls l) did.1 c));
    })

pub executor_ends : {cut : Option ℕ} → (n now : NodesView) (w : WorldView) (id : ℕ) → IsLike n w → HostMoves HostEnds id n now → Goes cut n now w
executor_ends {cut} n now w id like m = host_goes HostEnds n now w id like (executor_acts w id) m
