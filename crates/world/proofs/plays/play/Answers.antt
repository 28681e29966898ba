use Rattle.std.proofs.Common.{Result, Ok, Err}
use Rattle.std.specs.Prelude.{IfOk}
use Rattle.worlds.specs.World.{WorldView, IsReached}
use Rattle.world_laws.specs.Laws.{OneIsChosen, ChosenIsBacked, ChosenStands, ChosenIsKept}
use Rattle.one_server_laws.specs.Laws.{ShowsOneServer, KeepsItsRun}
use Rattle.linear_laws.specs.Laws.{ShowsLinearizable}
use Rattle.world.proofs.plays.play.Goals as goal

weaker : {T E : Type 0} (P Q : T → Type 0) (r : Result T E) → ((x : T) → P x → Q x) → IfOk r P → IfOk r Q
weaker {T} {E} P Q (Ok x) follows holds = follows x holds
weaker {T} {E} P Q (Err e) follows holds = holds

pub returns-clause-agree : goal.returns-clause-agree
returns-clause-agree c =
    weaker (λ (w : WorldView). IsReached c.args.config.now c.args.events.now w) (λ (w : WorldView). OneIsChosen w) c.played.result
    (λ w reached. c.one_is_chosen_in_worlds.ensures c.args.config.now c.args.events.now w reached) c.played.ensures

pub returns-clause-backed : goal.returns-clause-backed
returns-clause-backed c =
    weaker (λ (w : WorldView). IsReached c.args.config.now c.args.events.now w) (λ (w : WorldView). ChosenIsBacked w) c.played.result
    (λ w reached. c.chosen_is_backed_in_worlds.ensures c.args.config.now c.args.events.now w reached) c.played.ensures

pub returns-clause-kept : goal.returns-clause-kept
returns-clause-kept c =
    weaker (λ (w : WorldView). IsReached c.args.config.now c.args.events.now w) (λ (w : WorldView). ChosenStands w) c.played.result
    (λ w reached. c.chosen_stands_in_worlds.ensures c.args.config.now c.args.events.now w reached) c.played.ensures

pub returns-clause-kept_whole : goal.returns-clause-kept_whole
returns-clause-kept_whole c none =
    weaker (λ (w : WorldView). IsReached c.args.config.now c.args.events.now w) (λ (w : WorldView). ChosenIsKept w) c.played.result
    (λ w reached. c.chosen_is_kept_in_worlds.ensures c.args.config.now c.args.events.now w none reached) c.played.ensures

of_each : {T E : Type 0} (P : T → Type 0) (r : Result T E) → ((x : T) → P x) → IfOk r P
of_each {T} {E} P (Ok x) each = each x
of_each {T} {E} P (Err e) each = tt

pub returns-clause-one_server : goal.returns-clause-one_server
returns-clause-one_server c =
    of_each (λ (w : WorldView). ShowsOneServer c.args.config.now c.args.events.now w) c.played.result
    (λ w through distinct. c.worlds_are_of_one_server.ensures c.args.config.now c.args.events.now through.worlds through.reached distinct)

pub returns-clause-executors_keep : goal.returns-clause-executors_keep
returns-clause-executors_keep c =
    of_each (λ (w : WorldView). KeepsItsRun c.args.config.now c.args.events.now w) c.played.result
    (λ w through distinct. c.executors_keep_the_run.ensures c.args.config.now c.args.events.now through.worlds w through.reached through.ends distinct)

pub returns-clause-linearizable : goal.returns-clause-linearizable
returns-clause-linearizable c =
    of_each (λ (w : WorldView). ShowsLinearizable c.args.config.now c.args.events.now w) c.played.result
    (λ w through distinct. c.reached_are_linearizable.ensures c.args.config.now c.args.events.now through.worlds through.reached distinct)
