use Rattle.std.proofs.Common.{Some, None, refl, sym, ap, ◌∙◌, subst}
use Rattle.seals.specs.Opening.{OpenerView, StandsBehind, HasOpened}
use Rattle.seals.proofs.OpeningLemmas.{goes_on, stays_ended}
use Rattle.seals.proofs.opener.Opener.feed.Goals as goal

pub returns-in-Some-clause-taken : goal.returns-in-Some-clause-taken
returns-in-Some-clause-taken c = λ key all before h.
    stays_ended key all c.args.bytes.now before c.args.pieces.now.items c.args.self.now c.in-Some.fault h (sym (ap (λ (o : OpenerView). o.end) c.self.view_is) ∙ c.in-Some.is)

pub returns-in-Ok-clause-taken : goal.returns-in-Ok-clause-taken
returns-in-Ok-clause-taken c = λ key all before h.
    let inside = c.self.inside in
    let after = c.take_all.new.coming in
    let old : OpenerView = record { key = inside.key; number = inside.coming.number; kept = inside.coming.bytes.items; end = inside.end } in
    let now : OpenerView = record { key = inside.key; number = after.number; kept = after.bytes.items; end = inside.end } in
    let takes = c.in-Ok.ensures.ok in
    goes_on key all c.args.bytes.now before c.args.pieces.now.items c.take_all.new.pieces.items old now None after.number after.bytes.items (subst (HasOpened key all before) (sym c.self.view_is) h) c.in_default.is takes
    refl (λ k count stands. subst (λ e. StandsBehind e k count takes.rest after.number after.bytes.items) (sym c.in_default.is) stands)

pub returns-in-Err-clause-taken : goal.returns-in-Err-clause-taken
returns-in-Err-clause-taken c = λ key all before h.
    let inside = c.self.inside in
    let after = c.take_all.new.coming in
    let old : OpenerView = record { key = inside.key; number = inside.coming.number; kept = inside.coming.bytes.items; end = inside.end } in
    let now : OpenerView = record { key = inside.key; number = after.number; kept = c.clear.new.self.items; end = Some c.in-Err.fault } in
    goes_on key all c.args.bytes.now before c.args.pieces.now.items c.take_all.new.pieces.items old now (Some c.in-Err.fault) after.number after.bytes.items (subst (HasOpened key all before) (sym c.self.view_is) h) c.in_default.is c.in-Err.ensures.err
    refl (λ k count stands. stands)
