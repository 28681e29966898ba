use Rattle.std.proofs.Common.{ap, ◌∙◌, drop}
use Rattle.std.proofs.lemmas.List.{drop-drop}
use Rattle.links.proofs.held_letters.HeldLetters.let_go.Goals as goal

pub loop-preserved : goal.loop-preserved
loop-preserved c = c.let_first_go.ensures ∙ (ap (λ xs. drop 1 xs) c.loop.invariant ∙ drop-drop 1 c.loop.counter c.args.self.now)
