use Rattle.std.proofs.Common.{ap}
use Rattle.figures.specs.Commands.{row_count}
use Rattle.figures.specs.Kind.{kind_place}
use Rattle.figures.proofs.RowLemmas.{slice_get-set_other, places_differ}
use Rattle.figures.proofs.commands.Commands.count.Goals as goal

-- src/commands.rt:62:5
pub returns-clause-kinds : goal.returns-clause-kinds
returns-clause-kinds c other any differs =
    rw c.place.ensures.place
    (ap (λ row. row_count row any) (slice_get-set_other c.args.self.now.rows (kind_place c.args.kind) (kind_place other) _ (places_differ other c.args.kind differs)))
