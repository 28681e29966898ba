-- Events that happen one after the other.
use Rattle.std.proofs.Common.{◌≡◌, ℕ, ◌+◌, ◌<◌, List, [], ◌∷◌, ◌++◌, length, Some, None, inl, inr, refl, sym, ap, subst, arith}
use Rattle.std.proofs.Math.Numerals.{add-one}
use Rattle.rand_pcg.specs.Lcg.{Lcg}
use Rattle.events.specs.Config.{ConfigView}
use Rattle.events.specs.declared.event.Event.{Event}
use Rattle.makers.specs.Table.{next_event, after_event}
use Rattle.schedules.specs.declared.line.ScheduleLine.{ScheduleLine}
use Rattle.worlds.specs.World.{WorldView}
use Rattle.app.specs.Past.{PastView}
use Rattle.app.specs.Making.{Stage, stage, HappensAt, IsNextToSettle, SettlesTimes, StageSettles, words_after, MayHappen, MadeOfWords, LineMakes, LinesMake}

-- ---- letters are delivered, and work is done

pub settles_nothing : (s : Stage) → SettlesTimes 0 s s
settles_nothing s = refl

-- one event more; to ask what comes next has changed nothing
pub settles_next : (k : ℕ) (s : Stage) (w : WorldView) (p q : PastView) (event : Event) (t : Stage) → SettlesTimes k s (stage w p) → IsNextToSettle (stage w p) (Some event) → q ≡ p → HappensAt (stage w q) event t → SettlesTimes (k + 1) s t
settles_next k s w p q event t so_far next same happens =
    subst (λ n. SettlesTimes n s t) (sym (add-one k))
    (stage w p, so_far, (event, next, subst (λ (r : PastView). HappensAt (stage w r) event t) same happens))

-- all of them happened
pub settles_most : (most : ℕ) (s t : Stage) → SettlesTimes most s t → StageSettles most s t
settles_most most s t times = (most, omega arith, times, inl refl)

-- nothing is left to do
pub settles_all : (most k : ℕ) (s : Stage) (w : WorldView) (p q : PastView) → k < most → SettlesTimes k s (stage w p) → IsNextToSettle (stage w p) None → q ≡ p → StageSettles most s (stage w q)
settles_all most k s w p q l times none same =
    subst (λ (r : PastView). StageSettles most s (stage w r)) (sym same) (k, omega (arith, l), times, inr none)

-- ---- events at random

pub words_next : (k : ℕ) (words : Lcg) → after_event (words_after k words) ≡ words_after (k + 1) words
words_next k words = sym (ap (λ n. words_after n words) (add-one k))

pub made_next : (c : ConfigView) (k : ℕ) (words now : Lcg) (s m t : Stage) → MadeOfWords c k words s m → now ≡ words_after k words → MayHappen m (next_event c (length m.world.letters) now) t → MadeOfWords c (k + 1) words s t
made_next c k words now s m t so_far at happens =
    subst (λ n. MadeOfWords c n words s t) (sym (add-one k))
    (m, so_far, subst (λ (ws : Lcg). MayHappen m (next_event c (length m.world.letters) ws) t) at happens)

-- ---- lines

-- one line more
pub lines_make_next : (c : ConfigView) (lines : List ScheduleLine) (line : ScheduleLine) (s m t : Stage) → LinesMake c lines s m → LineMakes c line m t → LinesMake c (lines ++ line ∷ []) s t
lines_make_next c [] line s m t made next = (t, subst (λ (x : Stage). LineMakes c line x t) made next, refl)
lines_make_next c (l ∷ lines) line s m t made next = (made.0, made.1, lines_make_next c lines line made.0 m t made.2 next)
