use Rattle.std.proofs.Common.{ℕ, List, ◌≡◌, ◌+◌, ◌<◌, ◌^◌, ◌++◌, ◌∷◌, [], length, sym, ap, ◌∙◌, arith}
use Rattle.decrees.specs.Record.{decree_text}
use Rattle.decrees.specs.Log.{known_in}
use Rattle.decrees.proofs.LogLemmas.{Kept-learn, texts_push}
use Rattle.decrees.proofs.log.Log.learn.Goals as goal

pub invariant_of-self-2 : goal.invariant_of-self-2
invariant_of-self-2 c =
    let from = c.self.inside.start in
    let all = c.self.inside.decrees.items in
    let passes = sym c.may_follow.ensures ∙ c.if-not-may_follow.false in
    let few : length all + 1 < 2 ^ 32 = omega (arith, c.if-len-eq-LIMIT.false, c.self.invariant.0.few) in
    let known : c.known.result ≡ from.place + length all = c.known.ensures.known ∙ ap known_in (sym c.self.view_is) in
    let placed : ((from.place + length all) + 1) + 1 < 2 ^ 64 = omega (arith, c.if-known.false, c.self.invariant.0.placed) in
    let k = Kept-learn from all c.self.inside.standing c.args.decree c.self.invariant.0 passes few placed in
    let items : c.push_reserved.new.self.items ≡ all ++ c.args.decree ∷ [] = cc (c.push_reserved.ensures.items, c.in_ok-reserve.ensures.items) in
    rw (c.after-self-inside.ensures, items) (k, c.in_ok-push.ensures.ok ∙ ap (λ (xs : List ℕ). xs ++ decree_text c.args.decree) c.self.invariant.1 ∙ sym (texts_push all c.args.decree))
