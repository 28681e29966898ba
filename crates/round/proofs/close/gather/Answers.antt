use Rattle.std.proofs.Common.{◌≡◌, ◌≤◌, length, arith, sym, ap, ◌∙◌, subst}
use Rattle.std.proofs.lemmas.List.{length-map}
use Rattle.pages.specs.Page.{PageState, page_count}
use Rattle.pages.specs.Joined.{items_of}
use Rattle.round.specs.Tickets.{AreLogs}
use Rattle.round.proofs.Makes.{fit_apart, fit_some}
use Rattle.round.proofs.Ends.{Told, logs_front, logs_back, replayed, gathered}
use Rattle.round.proofs.close.gather.Goals as goal
use Rattle.round.proofs.close.gather.Goals.{After-learn}

told : (g : _) (c : After-learn g) → Told g.J.Room.base g.J.Room.opening g.J.Room.group g.J.Room.callers c.learn.ensures.order (items_of c.in_ok-pages.pages.items) c.args.seats.items
told g c =
    let pages = c.in_ok-pages.ensures in
    let running = c.in_ok-running.ensures in
    let known = c.learn.ensures in
    let makes = running.master.2 ∙ pages.master.2 ∙ ap (λ m. m.0.makes) c.requires.master.1 in
    let next = running.master.3 ∙ pages.master.3 ∙ ap (λ m. m.0.next) c.requires.master.1 in
    let logs = subst (AreLogs known.order) running.held.1 known.logs in
    let same_length = length-map c.in_ok-pages.pages.items (λ (page : PageState). page.items) in
    let wide : length (items_of c.in_ok-pages.pages.items) ≡ page_count = let all = pages.all in let locks = c.requires.locks in omega arith in
    record {
      apart = fit_apart g.J.Room.base g.J.Room.group g.J.Room.callers c.requires.fit;
      some = fit_some g.J.Room.base g.J.Room.group g.J.Room.callers c.requires.fit;
      names = c.requires.seats;
      sat = running.sat;
      ended = c.requires.ended;
      wide = wide;
      kinds = known.kinds;
      none = λ n le. known.none_to_come makes n (subst (λ i. i ≤ n) (sym next) le);
      histories = (_, pages.pages, logs_front _ _ _ logs);
      seated = (_, running.held.2, logs_back _ _ _ logs);
    }

pub join-requires : goal.join-requires
join-requires g c = (replayed (told g (goal.at.join-requires g c).After-learn)).are

pub returns : goal.returns
returns g c = rw c.join.ensures (gathered (told g (goal.at.returns g c).After-learn) _ c.in_ok-running.ensures.running)
