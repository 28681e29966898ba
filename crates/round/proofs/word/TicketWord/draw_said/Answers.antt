use Rattle.std.proofs.Common.{◌≡◌, ℕ, ◌<◌, ◌≤◌, [], List, rules, sym, ap, ◌∙◌, arith, subst}
use Rattle.atomic_table.specs.Table.{Me}
use Rattle.pages.specs.Page.{page_count}
use Rattle.round.specs.declared.rule.Entry.{Entry}
use Rattle.round.specs.declared.rule.View.{View}
use Rattle.round.specs.Tickets.{name_view, pair_view, both, view_log, grown}
use Rattle.round.proofs.Keeps.{draws_as, parts_as}
use Rattle.round.proofs.word.TicketWord.draw_said.Goals as goal

-- what a page and a caller know together
pair_of : (page caller all : Me ℕ View) (p c : ℕ) (l m : List Entry) → page ≡ (name_view p l, []) → caller ≡ (name_view c m, []) → all ≡ (both page.0 caller.0, page.1) → all ≡ (pair_view p l c m, [])
pair_of page caller all p c l m of_page of_caller are = are ∙ (λ i. (both (of_page i).0 (of_caller i).0, (of_page i).1))

pub take_all-requires-clause-caller : goal.take_all-requires-clause-caller
take_all-requires-clause-caller g c = ap (λ m. m.0.makes) c.requires.caller

pub fetch_add-ticket-requires : goal.fetch_add-ticket-requires
fetch_add-ticket-requires g c =
    let said = sym c.requires.said in
    let l = view_log c.args.page.now.me.0 in
    let m = view_log c.args.caller.now.me.0 in
    let pair = pair_of _ _ _ c.args.number c.args.name l m c.requires.page c.requires.caller c.take_all.ensures.1 in (
      search rules,
      search rules,
      draws_as _ _ g.W.Said.entry l m _ (subst (λ (e : Entry). e.page < page_count) said c.requires.kinds.0) (subst (λ (e : Entry). page_count ≤ e.caller) said c.requires.kinds.1)
          (pair ∙ ap (λ (e : Entry). (pair_view e.page l e.caller m, [])) said),
    )

pub split_seat-requires : goal.split_seat-requires
split_seat-requires g c =
    let l = view_log c.args.page.now.me.0 in
    let m = view_log c.args.caller.now.me.0 in
    let pair = pair_of _ _ _ c.args.number c.args.name l m c.requires.page c.requires.caller c.take_all.ensures.1 in
    let low = c.requires.kinds.0 in
    let high = c.requires.kinds.1 in
    (search rules, search rules, parts_as _ c.args.number c.args.name _ _ _ (λ same. omega arith) (ap (λ m. m.0) c.fetch_add-ticket.ensures.2 ∙ ap (λ m. grown g.W.Said.entry m.0) pair))
