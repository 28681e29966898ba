use Rattle.std.proofs.Common.{◌<◌, List, [], map, length, set, ap, ◌∙◌, arith}
use Rattle.std.proofs.lemmas.List.{get_or_default}
use Rattle.pages.specs.Page.{PageState, sealed_in}
use Rattle.pages.specs.Group.{page_at, pages_in, page_in_group}
use Rattle.pages.specs.Joined.{items_of}
use Rattle.pages.proofs.GroupLemmas.{IsGroupSealed, group-sealed}
use Rattle.pages.proofs.groups.Groups.seal.Goals.{In_ok-renew_group}
use Rattle.pages.proofs.groups.Groups.seal.Goals as goal

whole : (c : In_ok-renew_group)
    → IsGroupSealed c.args.layout c.args.group (pages_in c.self.inside.groups.items) (pages_in (set c.self.inside.groups.items c.args.group c.seal.new.self)) c.args.tree.now c.renew_group.new.self
whole c =
    let gs = c.self.inside.groups.items in
    let within : c.args.group < length c.self.inside.groups.items = omega (arith, c.requires, c.self.invariant.count) in
    let before = c.index_mut-written.ensures.value ∙ get_or_default gs c.args.group c.index_mut-written.result.now [] within in
    group-sealed c.args.layout gs c.args.group c.seal.new.self c.args.tree.now c.renew_group.new.self c.self.invariant c.requires
    (c.in_ok-seal.ensures.ok ∙ ap (map (sealed_in c.args.layout)) before)
    (λ i l. c.in_ok-renew_group.ensures.own i l ∙ c.digests.ensures i l) c.in_ok-renew_group.ensures.others

pub returns-clause-sealed : goal.returns-clause-sealed
returns-clause-sealed c = (whole c).sealed

pub returns-clause-others : goal.returns-clause-others
returns-clause-others c g i other l =
    let w = (whole c).others g i other l in
    (w.0 ∙ ap (λ (ps : List PageState). page_at ps (page_in_group g i)) c.self.view_is, w.1)

pub returns-clause-items : goal.returns-clause-items
returns-clause-items c = (whole c).items ∙ ap items_of c.self.view_is
