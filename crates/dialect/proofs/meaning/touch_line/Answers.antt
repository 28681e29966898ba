use Rattle.std.proofs.Common.{◌≡◌, ◌<◌, ◌∙◌, ℕ, Bool, List, [], ◌∷◌, length, map, arith, refl}
use Rattle.dialect.specs.Line.{says_notice, touch_line}
use Rattle.dialect.specs.declared.turn.Notice.TheVariants as notice
use Rattle.dialect.proofs.meaning.touch_line.Goals as goal

too_few : {X : Type 0} (quiet : Bool) (f : X → List ℕ) (ws : List X) → length ws < 2 → says_notice quiet notice.UnknownName ≡ touch_line quiet (map f ws)
too_few quiet f [] l = refl
too_few quiet f (a ∷ []) l = refl
too_few quiet f (a ∷ b ∷ ws) l = absurd (omega arith)

pub returns-in_default : goal.returns-in_default
returns-in_default c = c.says_notice.ensures ∙ too_few c.args.quiet (λ w. w.now) c.args.words.now c.in_default.len_below
