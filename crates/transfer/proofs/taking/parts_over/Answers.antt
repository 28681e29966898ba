use Rattle.std.proofs.Common.{◌≡◌, ap, ◌∙◌}
use Rattle.sessions.specs.Fresh.{Replies}
use Rattle.pages.specs.Page.{Laid}
use Rattle.pages.specs.Form.{layout_of}
use Rattle.pages.specs.declared.layout.Layout.{Layout}
use Rattle.states.specs.declared.origin.Origin.{Origin}
use Rattle.states.specs.declared.state.Parts.{Parts}
use Rattle.transfer.specs.Parcel.{ParcelView, joined_with}
use Rattle.transfer.proofs.taking.parts_over.Goals as goal

abbrev parts_with : Origin → Replies → Laid → Parts
parts_with origin sessions pages = record { origin = origin; sessions = sessions; pages = pages }

pub returns : goal.returns
returns c =
    let parcel = c.parcel.inside in
    let items = joined_with c.args.own.now.items parcel.pages.items in
    let laid : c.in_ok-joined_pages.field-0 ≡ record { items = items; layout = layout_of parcel.origin.form } = c.in_ok-joined_pages.ensures ∙ ap (λ (l : Layout). record { items = items; layout = l }) c.layout_of.ensures in
    (λ i. parts_with parcel.origin (c.new.ensures i) (laid i))
    ∙ ap (λ (p : ParcelView). parts_with p.origin p.sessions (record { items = joined_with c.args.own.now.items p.pages; layout = layout_of p.origin.form })) c.parcel.view_is
