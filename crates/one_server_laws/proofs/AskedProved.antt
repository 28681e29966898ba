-- The laws of what is asked and given in worlds that are reached.
use Rattle.std.proofs.Common.{◌≡◌, suc, List, [], ◌∷◌, ◌++◌, length, take, refl, sym, subst}
use Rattle.std.specs.Prelude.{Contains}
use Rattle.std.proofs.lemmas.List.Elements.{Contains-append_right}
use Rattle.batches.specs.declared.batch.Batch.{Batch}
use Rattle.events.specs.declared.event.Event.TheVariants.{Cut}
use Rattle.events.specs.declared.event.Event.{Event}
use Rattle.worlds.specs.World.{WorldView, WorldRuns, last_world}
use Rattle.one_server_laws.specs.AskedLaws.{ExecutedIsAsked, GivenIsReplied, AskedStaysAsked, BeginningIsReached}
use Rattle.worlds.specs.Asked.{IsAskedBatch}
use Rattle.run_laws.proofs.Elements.{in_head}
use Rattle.one_server_laws.specs.InTime.{WasCut, ExecutedWasCut}
use Rattle.one_server_laws.proofs.Grown.{IsLater, later_by, request_later, batch_later}
use Rattle.one_server_laws.proofs.ClientLines.{is_replied}
use Rattle.one_server_laws.proofs.AskedPlays.{last_asked, executed_cut}

pub executed_was_cut : ExecutedWasCut
executed_was_cut c events worlds r reached done = executed_cut c events worlds r reached done

-- what was asked before the cut is asked by all events
cut_is_asked : (events : List Event) (b : Batch) → WasCut events b → IsAskedBatch events b
cut_is_asked events b cut =
    let later : List Event = Cut cut.executor b.moment ∷ cut.after in
    let on : IsLater cut.before events = subst (IsLater cut.before) (sym cut.split) (later_by cut.before later) in
    record {
      requests = λ r c. request_later on r (cut.asked r c);
      moment = (cut.executor, subst (λ (es : List Event). Contains es (Cut cut.executor b.moment)) (sym cut.split) (Contains-append_right cut.before later (Cut cut.executor b.moment) (in_head (Cut cut.executor b.moment) cut.after)));
    }

pub executed_is_asked : ExecutedIsAsked
executed_is_asked c events worlds r reached done = cut_is_asked events r.batch (executed_cut c events worlds r reached done)

pub given_is_replied : GivenIsReplied
given_is_replied c events worlds w i slot reached ends at =
    let ok = (last_asked c events worlds w reached ends).is in
    is_replied events w.letters (suc i) slot (ok.clients i slot at)

pub asked_stays_asked : AskedStaysAsked
asked_stays_asked events later b is = batch_later (later_by events later) b is

front_runs : (x : WorldView) (es : List Event) (before later : List WorldView) (w : WorldView) → WorldRuns x es (before ++ w ∷ later) → WorldRuns x (take (suc (length before)) es) (before ++ w ∷ []) × (last_world x (before ++ w ∷ []) ≡ w)
front_runs x [] [] later w h = absurd h
front_runs x (e ∷ es) [] later w h = ((h.0, tt), refl)
front_runs x [] (y ∷ before) later w h = absurd h
front_runs x (e ∷ es) (y ∷ before) later w h = let rest = front_runs y es before later w h.1 in ((h.0, rest.0), rest.1)

pub beginning_is_reached : BeginningIsReached
beginning_is_reached c events [] later w reached = ((reached.0, tt), refl)
beginning_is_reached c events (first ∷ before) later w reached = let rest = front_runs first events before later w reached.1 in ((reached.0, rest.0), rest.1)
