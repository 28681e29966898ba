use Rattle.std.proofs.Common.{Some, None, Option, refl, sym, ap, ◌∙◌, subst}
use Rattle.links.specs.declared.message_fault.MessageFault.{MessageFault}
use Rattle.links.specs.Reading.{MessageReaderView, IsKeptOrEnds, HasReadMessages}
use Rattle.links.proofs.ReadingLemmas.{reads_on, reads_nothing}
use Rattle.links.proofs.message_reader.MessageReader.feed.Goals as goal

pub returns-in-Some-clause-read : goal.returns-in-Some-clause-read
returns-in-Some-clause-read c = λ most all before h.
    reads_nothing most all c.args.bytes.now before c.args.messages.now.items c.args.self.now c.in-Some.fault h (sym (ap (λ (r : MessageReaderView). r.end) c.self.view_is) ∙ c.in-Some.is)

pub returns-in-Ok-clause-read : goal.returns-in-Ok-clause-read
returns-in-Ok-clause-read c = λ most all before h.
    let inside = c.self.inside in
    let after = c.read_all.new.coming in
    let old : MessageReaderView = record { most = inside.most; kept = inside.coming.items; end = inside.end } in
    let now : MessageReaderView = record { most = inside.most; kept = after.items; end = inside.end } in
    let reads = c.in-Ok.ensures.ok in
    reads_on most all c.args.bytes.now before c.args.messages.now.items c.read_all.new.messages.items old now None after.items (subst (HasReadMessages most all before) (sym c.self.view_is) h) c.in_default.is reads
    refl (λ m stands. subst (λ (e : Option MessageFault). IsKeptOrEnds e m reads.rest after.items) (sym c.in_default.is) stands)

pub returns-in-Err-clause-read : goal.returns-in-Err-clause-read
returns-in-Err-clause-read c = λ most all before h.
    let inside = c.self.inside in
    let after = c.read_all.new.coming in
    let old : MessageReaderView = record { most = inside.most; kept = inside.coming.items; end = inside.end } in
    let now : MessageReaderView = record { most = inside.most; kept = c.clear.new.self.items; end = Some c.in-Err.fault } in
    reads_on most all c.args.bytes.now before c.args.messages.now.items c.read_all.new.messages.items old now (Some c.in-Err.fault) after.items (subst (HasReadMessages most all before) (sym c.self.view_is) h) c.in_default.is c.in-Err.ensures.err
    refl (λ m stands. stands)
