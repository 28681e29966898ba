use Rattle.std.proofs.Common.{◌∷◌, ◌++◌, [], false, ap, sym, ◌∙◌, subst, append_assoc, replicate}
use Rattle.std.proofs.lemmas.Grind.{replicate_next}
use Rattle.app.specs.Past.{AllMarkedBelow}
use Rattle.app.proofs.PastLemmas.{append_all}
use Rattle.app.proofs.past.Delivered.extend.Goals as goal

pub loop-preserved : goal.loop-preserved
loop-preserved c =
    let old = c.self.inside.marks.items in
    record {
      marks = c.in_ok-push.ensures.items ∙ ap (λ ms. ms ++ false ∷ []) c.loop.invariant.marks ∙ append_assoc old (replicate c.loop.counter false) (false ∷ []) ∙ ap (λ ms. old ++ ms) (sym (replicate_next c.loop.counter false));
      start = subst (AllMarkedBelow c.loop.self-inside.start) (sym c.in_ok-push.ensures.items) (append_all c.loop.self-inside.start c.loop.self-inside.marks.items (false ∷ []) c.loop.invariant.start);
    }
