use Rattle.std.proofs.Common.{rules, ◌≡◌, ◌≤◌, ◌-◌, List, take, drop, sym, ap, ◌∙◌, subst}
use Rattle.std.proofs.lemmas.List.{take_rest}
use Rattle.decrees.specs.declared.decree.Decree.{Decree}
use Rattle.decrees.specs.Log.{LogView, known_in}
use Rattle.decrees.specs.Start.{stands_from}
use Rattle.decrees.proofs.LogLemmas.{Kept-trim}
use Rattle.decrees.proofs.log.Log.trim.Goals as goal

pub invariant_of-self : goal.invariant_of-self
invariant_of-self c =
    let from = c.self.inside.start in
    let all = c.self.inside.decrees.items in
    let after = subst (λ (l : LogView). l.start.place ≤ c.args.place) (sym c.self.view_is) c.requires.after in
    let known = subst (λ (l : LogView). c.args.place ≤ known_in l) (sym c.self.view_is) c.requires.known in
    let k = Kept-trim from all c.self.inside.standing c.args.place after known c.self.invariant.0 in
    let rest : c.in_ok-decrees.decrees.items ≡ drop (c.args.place - from.place) all = c.in_ok-decrees.ensures ∙ take_rest c.deref.result.now (c.args.place - from.place) ∙ ap (λ (xs : List Decree). drop (c.args.place - from.place) xs) c.deref.ensures.value in
    let stood : c.standing_at-standing.result ≡ stands_from from.standing (take (c.args.place - from.place) all) = c.standing_at-standing.ensures ∙ ap (λ (l : LogView). stands_from l.start.standing (take (c.args.place - from.place) l.decrees)) (sym c.self.view_is) in
    rw (stood, rest) (k, search rules)
