use Rattle.std.proofs.Common.{◌≡◌, ℕ, false, List, [], ◌∷◌, Some, pos, refl, slice_get}
use Rattle.std.specs.Prelude.{codes}
use Rattle.std.specs.Fmt.{digits}
use Rattle.proto.specs.Line.{meaning}
use Rattle.proto.specs.Grammar.{next_turn}
use Rattle.proto.specs.declared.command.StoreVerb.TheVariants.{Set}
use Rattle.proto.specs.declared.command.Command.TheVariants as command
use Rattle.proto.specs.declared.command.Update.TheVariants as update
use Rattle.proto.specs.declared.reply.Reply.{Reply}
use Rattle.proto.specs.declared.reply.Reply.TheVariants.{Stored, Number}
use Rattle.proto.specs.declared.turn.Turn.{Turn}
use Rattle.proto.specs.declared.turn.Turn.TheVariants.{Ask}
use Rattle.batches.specs.declared.batch.Batch.{Batch}
use Rattle.run_laws.proofs.Elements.{in_head}
use Rattle.one_server_laws.specs.Served.{WasAnswered}
use Rattle.play_samples.specs.Plays.{two_rounds, round_of}
use Rattle.play_samples.proofs.rows.two_batches_are_served.Goals as goal

pub returns-clause-chosen : goal.returns-clause-chosen
returns-clause-chosen c = refl

pub returns-clause-each : goal.returns-clause-each
returns-clause-each c = λ x y. refl

abbrev turns : List Turn
turns = Ask (command.Update (update.Store Set (codes "n") 0 (pos 0) (codes "1"))) false ∷ Ask (command.Update (update.Incr (codes "n") 1)) false ∷ []

was_answered : (x y z : Batch) (place n : ℕ) (r : Reply) → slice_get (two_rounds x y) place ≡ Some (round_of z n r) → WasAnswered (two_rounds x y) 1 n r
was_answered x y z place n r at = record { place = place; answered = record { place = 0; client = 1; number = n; reply = r }; given = record { executed = round_of z n r; there = at; given = in_head _ [] }; client_is = refl; number_is = refl; reply_is = refl }

pub returns-clause-served : goal.returns-clause-served
unfolding next_turn meaning digits
returns-clause-served c = λ x y. record {
  taken = turns;
  texts = (Stored, codes "2\r\n", was_answered x y x 0 1 Stored refl, refl, (Number 2, [], was_answered x y y 1 2 (Number 2) refl, refl, refl));
  first = record { turns = turns; rest = []; more = []; spells = (codes "incr n 1\r\n", refl, ([], refl, (refl, refl))); is = refl };
}
