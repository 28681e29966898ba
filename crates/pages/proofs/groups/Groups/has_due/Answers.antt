use Rattle.std.proofs.Common.{◌≡◌, ℕ, suc, ◌<◌, List, [], ◌∷◌, length, map, get_or, sym, ap, ◌∙◌, arith, refl}
use Rattle.items.specs.Map.{Items, alive}
use Rattle.pages.specs.Joined.{joined_pages, items_of}
use Rattle.pages.proofs.JoinedLemmas.{joined-alive, no_items}
use Rattle.pages.proofs.StateLemmas.{length-states}
use Rattle.pages.proofs.StillLemmas.{groups-still-next, still-page, still-items}
use Rattle.pages.proofs.groups.Groups.has_due.Goals as goal

same_each : (f : Items → Items) (xs : List Items) → ((p : ℕ) → p < length xs → f (get_or xs p no_items) ≡ get_or xs p no_items) → map f xs ≡ xs
same_each f [] h = refl
same_each f (x ∷ xs) h = λ k. h 0 (omega arith) k ∷ same_each f xs (λ p l. h (suc p) (omega (arith, l))) k

pub loop-group-preserved : goal.loop-group-preserved
loop-group-preserved c = groups-still-next c.args.self.now c.args.moment c.loop-group.group c.loop-group.invariant (c.has_due_in.ensures c.if-has_due_in.false)

pub returns : goal.returns
returns c quiet =
    let pages = c.args.self.now in
    let xs = items_of c.args.self.now in
    let many = length-states pages c.requires in
    let all = still-page pages c.args.moment (λ g i l m. c.loop-group.invariant g i (omega (arith, l, c.loop-group-test.false)) m) in
    sym (joined-alive xs c.args.moment c.requires).1
    ∙ ap joined_pages (same_each (λ m. alive m c.args.moment) xs (λ p l.
    still-items pages c.args.moment p (omega (arith, l, many, c.requires.0)) (all p (omega (arith, l, c.requires.0)))))
