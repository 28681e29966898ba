use Rattle.std.proofs.Common.{◌≡◌, ◌++◌, length, List, [], ◌∷◌, rules, ap, ◌∙◌, sym, subst, append_assoc, length-append}
use Rattle.std.proofs.lemmas.List.{map-append, length-map}
use Rattle.items.specs.Map.{Items}
use Rattle.pages.specs.Page.{PageState}
use Rattle.pages.specs.Joined.{items_of}
use Rattle.round.specs.declared.rule.Held.{Held}
use Rattle.round.specs.Tickets.{view_log, both}
use Rattle.round.specs.Orders.{AreHistories}
use Rattle.round.proofs.Replays.{histories_push_as}
use Rattle.round.proofs.close.gather_pages.Goals as goal

pub loop-lock-preserved : goal.loop-lock-preserved
loop-lock-preserved g c =
    let i = c.loop-lock.invariant in
    let n = c.number.invariant in
    let t = c.take_in.ensures in
    let number : c.number.inside.number ≡ length c.loop-lock.pages.items = search rules in
    let pushed : c.push.new.self.items ≡ c.loop-lock.pages.items ++ c.number.inside.page ∷ [] = search rules in
    let items = ap items_of pushed ∙ map-append (λ (p : PageState). p.items) c.loop-lock.pages.items (c.number.inside.page ∷ []) in
    let at : c.number.inside.number ≡ length (items_of c.loop-lock.pages.items) = number ∙ sym (length-map c.loop-lock.pages.items (λ (p : PageState). p.items)) in
    let more_yielded = length-append c.loop-lock.yielded (c.in-Some.lock ∷ []) in
    let more = t.1 ∙ ap (λ m. (both c.loop-lock.master.me.0 m.0, c.loop-lock.master.me.1)) n.1 in (
      search rules,
      search rules,
      (search rules, search rules, search rules, search rules),
      subst (λ (l : List Items). AreHistories g.J.Room.base g.J.Room.opening 0 c.take_in.new.master.me.0.held l) (sym items)
          (subst (λ (m : List Held). AreHistories g.J.Room.base g.J.Room.opening 0 m (items_of c.loop-lock.pages.items ++ c.number.inside.page.items ∷ [])) (sym (ap (λ m. m.0.held) more))
          (histories_push_as g.J.Room.base g.J.Room.opening c.loop-lock.master.me.0.held (items_of c.loop-lock.pages.items) c.number.inside.number (view_log c.number.inside.token.me.0) c.number.inside.page.items i.3 at n.3)),
      search (rules, more_yielded),
      append_assoc _ (c.in-Some.lock ∷ []) _ ∙ ap (λ l. c.loop-lock.yielded ++ l) (sym c.in-Some.ensures.steps.0) ∙ i.5,
    )
