use Rattle.std.proofs.Common.{◌≡◌, ℕ, ◌++◌, List, length, map, take, drop, sym, ap, ◌∙◌, subst, arith}
use Rattle.std.specs.FinMap.{entries}
use Rattle.std.proofs.Math.Seq.{take-append_seam}
use Rattle.items.specs.Map.{Items, alive}
use Rattle.pages.specs.Page.{PageState, page_count, item_count, beside_due}
use Rattle.pages.specs.Joined.{ArePages, joined_pages, parts, items_of}
use Rattle.pages.proofs.JoinedLemmas.{joined-alive}
use Rattle.pages.proofs.StateLemmas.{length-states}
use Rattle.pages.proofs.CountLemmas.{count-joined}
use Rattle.pages.proofs.PartLemmas.{parts-joined}
use Rattle.pages.proofs.own_pages.OwnPages.drop_due_counted.Goals.{In_ok-looks}
use Rattle.pages.proofs.own_pages.OwnPages.drop_due_counted.Goals as goal

abbrev after : In_ok-looks → List PageState
after c = take c.self.inside.pages.len (c.drop_from_all.new.pages ++ drop (length c.drop_from_all.new.pages) c.self.inside.pages.items)

front : (c : In_ok-looks) → after c ≡ c.drop_from_all.new.pages
front c =
    let long : c.self.inside.pages.len ≡ length c.drop_from_all.new.pages = omega (arith, c.self.inside.pages.ok.0, c.drop_from_all.auto.pages, ap length c.deref_mut.ensures.value) in
    ap (λ (n : ℕ). take n (c.drop_from_all.new.pages ++ drop (length c.drop_from_all.new.pages) c.self.inside.pages.items)) long
    ∙ take-append_seam c.drop_from_all.new.pages (drop (length c.drop_from_all.new.pages) c.self.inside.pages.items)

-- what is due is dropped from each page
dropped : (c : In_ok-looks) → items_of (after c) ≡ map (λ page. alive page c.args.moment) (items_of c.self.inside.pages.items)
dropped c = ap items_of (front c) ∙ c.in_ok-looks.ensures.ok ∙ ap (λ (pages : List PageState). map (λ page. alive page c.args.moment) (items_of pages)) c.deref_mut.ensures.value

pub invariant_of-self-2 : goal.invariant_of-self-2
invariant_of-self-2 c = subst ArePages (sym (dropped c)) (joined-alive (items_of c.self.inside.pages.items) c.args.moment c.self.invariant).0

pub returns-clause-ok : goal.returns-clause-ok
returns-clause-ok c =
    ap joined_pages (dropped c) ∙ (joined-alive (items_of c.self.inside.pages.items) c.args.moment c.self.invariant).1 ∙ ap (λ (m : Items). alive m c.args.moment) c.self.view_is

-- how many items there were and are, and how many there are beside what was due
module _ (c : In_ok-looks) where
  old : item_count (items_of c.deref_mut.result.now) ≡ length (entries c.args.self.now)
  old =
      ap (λ (pages : List PageState). item_count (items_of pages)) c.deref_mut.ensures.value ∙ count-joined (items_of c.self.inside.pages.items) c.self.invariant
      ∙ ap (λ (m : Items). length (entries m)) c.self.view_is

  new : item_count (items_of c.drop_from_all.new.pages) ≡ length (entries (joined_pages (items_of (after c))))
  new =
      ap (λ (pages : List PageState). item_count (items_of pages)) (sym (front c))
      ∙ count-joined (items_of (after c)) (subst ArePages (sym (dropped c)) (joined-alive (items_of c.self.inside.pages.items) c.args.moment c.self.invariant).0)

  beside : beside_due c.args.moment (items_of c.deref_mut.result.now) ≡ beside_due c.args.moment (parts c.args.self.now)
  beside =
      ap (λ (pages : List PageState). beside_due c.args.moment (items_of pages)) c.deref_mut.ensures.value
      ∙ ap (beside_due c.args.moment) (sym (parts-joined (items_of c.self.inside.pages.items) c.self.invariant)) ∙ ap (λ (m : Items). beside_due c.args.moment (parts m)) c.self.view_is

pub returns-clause-count : goal.returns-clause-count
returns-clause-count c =
    let many : length c.deref_mut.result.now ≡ page_count = ap length c.deref_mut.ensures.value ∙ length-states c.self.inside.pages.items c.self.invariant in
    let was = old c in
    let is = new c in
    let all = beside c in
    omega (arith, c.in_ok-looks.ensures.count, was, is, many, all)

pub returns-clause-dropped : goal.returns-clause-dropped
returns-clause-dropped c =
    let was = old c in
    let is = new c in
    omega (arith, c.in_ok-looks.ensures.dropped, was, is)
