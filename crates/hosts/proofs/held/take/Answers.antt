use Rattle.std.proofs.Common.{◌≡◌, ◌∙◌, sym, ap, subst, rules, Some, None, false, List}
use Rattle.std.specs.Prelude.{Contains, Bool, is_some, not}
use Rattle.std.specs.List.{position}
use Rattle.std.proofs.lemmas.Bool.{and_parts, not-true}
use Rattle.std.proofs.lemmas.List.Quantifiers.{position-Some}
use Rattle.decrees.specs.declared.node.Letter.{Letter}
use Rattle.exec_lines.specs.declared.body.Body.{Body}
use Rattle.hosts.specs.Orders.{ordered_turn, is_for, is_not_over}
use Rattle.hosts.proofs.Places.{position_any, in_others, find_placed, find_none}
use Rattle.hosts.proofs.held.take.Goals as goal
use Rattle.hosts.proofs.held.take.Goals.{After-remove}

at : (c : After-remove) → position (λ (l : Letter Body). is_for c.args.epoch c.args.number (ordered_turn l.body)) c.args.held.now.items ≡ Some c.in_ok-place.place
at c = sym (ap (position (λ (l : Letter Body). is_for c.args.epoch c.args.number (ordered_turn l.body))) c.as_slice.ensures.value) ∙ (sym c.place_of.ensures ∙ c.in_ok-place.was)

pub returns-clause-due : goal.returns-clause-due
returns-clause-due c = sym (ap is_some (at c)) ∙ position_any (λ (l : Letter Body). is_for c.args.epoch c.args.number (ordered_turn l.body)) c.args.held.now.items

pub returns-clause-turn : goal.returns-clause-turn
returns-clause-turn c =
    let p : Letter Body → Bool = λ l. is_for c.args.epoch c.args.number (ordered_turn l.body) in
    let passes = (position-Some p c.args.held.now.items c.in_ok-place.place c.remove.result (at c)).1 in
    ap p c.remove.ensures.value ∙ passes

pub returns-clause-first : goal.returns-clause-first
returns-clause-first c = sym (find_placed (λ (l : Letter Body). is_for c.args.epoch c.args.number (ordered_turn l.body)) c.args.held.now.items c.in_ok-place.place c.remove.result (at c) (sym c.remove.ensures.value))

pub returns-clause-later : goal.returns-clause-later
returns-clause-later c = λ l there later.
    let p : Letter Body → Bool = λ x. is_for c.args.epoch c.args.number (ordered_turn x.body) in
    let parts = and_parts (is_not_over c.args.epoch c.args.number (ordered_turn l.body)) (not (p l)) later in
    subst (λ (xs : List (Letter Body)). Contains xs l) (sym c.remove.ensures.items) (in_others p c.args.held.now.items c.in_ok-place.place l (at c) there (not-true (p l) parts.1))

pub returns-in_err-place-clause-due : goal.returns-in_err-place-clause-due
returns-in_err-place-clause-due c =
    let p : Letter Body → Bool = λ x. is_for c.args.epoch c.args.number (ordered_turn x.body) in
    let none : position p c.args.held.now.items ≡ None = sym (ap (position p) c.as_slice.ensures.value) ∙ (sym c.place_of.ensures ∙ c.in_err-place.was) in
    let out : is_some c.from_residual.result ≡ false = search rules in
    out ∙ (sym (ap is_some none) ∙ position_any p c.args.held.now.items)

pub returns-in_err-place-clause-first : goal.returns-in_err-place-clause-first
returns-in_err-place-clause-first c =
    let p : Letter Body → Bool = λ x. is_for c.args.epoch c.args.number (ordered_turn x.body) in
    let none : position p c.args.held.now.items ≡ None = sym (ap (position p) c.as_slice.ensures.value) ∙ (sym c.place_of.ensures ∙ c.in_err-place.was) in
    let out : c.from_residual.result ≡ None = search rules in
    out ∙ sym (find_none p c.args.held.now.items none)
