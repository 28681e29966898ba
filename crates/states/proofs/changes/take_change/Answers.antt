use Rattle.std.proofs.Common.{◌≡◌, ◌∷◌, ◌++◌, sym, ap, ◌∙◌, arith}
use Rattle.std.proofs.lemmas.Bool.{false≢true}
use Rattle.states.proofs.EntryLemmas.{other_text, not_another}
use Rattle.states.proofs.changes.take_change.Goals as goal

pub returns-then-branch : goal.returns-then-branch
returns-then-branch c =
    let one : c.in_ok-mark.mark ≡ 1 = omega (arith, c.if-mark-ne1.false) in
    let got : c.args.bytes.now ≡ 1 ∷ c.in_ok-mark.rest.now = c.in_ok-mark.ensures.ok ∙ ap (λ m. m ∷ c.in_ok-mark.rest.now) one in
    not_another c.args.layout c.args.before.now.items c.args.number c.args.bytes.now c.in_ok-mark.rest.now c.in_ok-page.rest.now c.in_ok-page.page.items got c.in_ok-page.ensures.1
    (c.in_ok-is_same.ensures.0 c.if-branch.true)

pub returns : goal.returns
returns c =
    let one : c.in_ok-mark.mark ≡ 1 = omega (arith, c.if-mark-ne1.false) in
    let got : c.args.bytes.now ≡ 1 ∷ c.in_ok-mark.rest.now = c.in_ok-mark.ensures.ok ∙ ap (λ m. m ∷ c.in_ok-mark.rest.now) one in
    let other = other_text c.args.layout c.args.before.now.items c.in_ok-page.page.items (λ e. false≢true (sym c.if-branch.false ∙ c.in_ok-is_same.ensures.1 e)) in
    (c.in_ok-page.ensures.0, got ∙ ap (λ t. 1 ∷ t) c.in_ok-page.ensures.1 ∙ ap (λ t. t ++ c.in_ok-page.rest.now) (sym other))
