use Rattle.std.proofs.Common.{◌≡◌, length, take, drop, ◌++◌, map, sym, ap, ◌∙◌, subst}
use Rattle.items.specs.Map.{Items}
use Rattle.pages.specs.Page.{refreshed}
use Rattle.pages.specs.Joined.{ArePages, joined_pages, items_of}
use Rattle.pages.proofs.PartLemmas.{parts-are, parts-joined, joined-parts}
use Rattle.executor.proofs.TaskLemmas.{same_parts}
use Rattle.executor.proofs.parallel.digest_parts.Goals as goal

pub join-requires : goal.join-requires
join-requires g c =
    let m : Items = joined_pages (items_of c.args.parts.items) in
    subst ArePages (sym (same_parts m _ _ _ (sym (parts-joined (items_of c.args.parts.items) c.requires.are)) c.args.parts.ok.0 (c.digest_all-digested.ensures.pages ∙ ap (map refreshed) c.as_mut_slice.ensures.value))) (parts-are m)

pub returns-clause-pages : goal.returns-clause-pages
returns-clause-pages g c =
    let m : Items = joined_pages (items_of c.args.parts.items) in
    c.join.ensures ∙ ap joined_pages (same_parts m _ _ _ (sym (parts-joined (items_of c.args.parts.items) c.requires.are)) c.args.parts.ok.0 (c.digest_all-digested.ensures.pages ∙ ap (map refreshed) c.as_mut_slice.ensures.value)) ∙ joined-parts m
