-- The turns of a reader of memcached's dialect: they ask the same commands, whatever figures are shown.
use Rattle.std.proofs.Common.{◌≡◌, zero, suc, List, [], ◌∷◌, ◌++◌, refl, sym, ◌∙◌, ap, subst, arith}
use Rattle.std.specs.Prelude.{Contains, map, Result, Ok, Err, IfOk}
use Rattle.proto.specs.declared.command.Command.{Command}
use Rattle.dialect.specs.Laws.{commands}
use Rattle.dialect.specs.declared.turn.Show.{Show}
use Rattle.dialect.specs.declared.turn.Turn.{Turn as MemcachedTurn}
use Rattle.dialect.specs.declared.turn.Turn.TheVariants as memcached
use Rattle.figures.specs.declared.figures.Figures.{Figures}
use Rattle.grammar.specs.declared.conditions.TheConstants.{NO_FIGURES}
use Rattle.grammar.specs.declared.turn.Turn.{Turn}
use Rattle.grammar.specs.declared.turn.Turn.TheVariants.{Ask, Say, Close}
use Rattle.grammar.specs.Asks.{commands_in}
use Rattle.grammar.specs.Turns.{turn_with, said_with, AreTurnsOf}

pub some_turns : (read : List MemcachedTurn) → (turns : List Turn) × AreTurnsOf read turns
some_turns [] = ([], refl)
some_turns (t ∷ read) = let s = some_turns read in (turn_with NO_FIGURES t ∷ s.0, (turn_with NO_FIGURES t, s.0, refl, (NO_FIGURES, refl), s.1))

-- the turns of two pieces, one after the other
pub both_turns : (read more : List MemcachedTurn) (turns others : List Turn) → AreTurnsOf read turns → AreTurnsOf more others → AreTurnsOf (read ++ more) (turns ++ others)
both_turns [] more turns others h g = subst (λ (ts : List Turn). AreTurnsOf more (ts ++ others)) (sym h) g
both_turns (t ∷ read) more turns others h g = (h.0, h.1 ++ others, ap (λ (ts : List Turn). ts ++ others) h.2, h.3, both_turns read more h.1 others h.4 g)

-- each with the same figures
pub mapped_turns : (f : Figures) (read : List MemcachedTurn) (turns : List Turn) → turns ≡ map (turn_with f) read → AreTurnsOf read turns
mapped_turns f [] turns e = e
mapped_turns f (t ∷ read) turns e = (turn_with f t, map (turn_with f) read, e, (f, refl), mapped_turns f read (map (turn_with f) read) refl)

pub if_ok : {T E : Type 0} (r : Result T E) (P Q : T → Type 0) → ((x : T) → P x → Q x) → IfOk r P → IfOk r Q
if_ok (Ok x) P Q f p = f x p
if_ok (Err e) P Q f p = tt

pub turns_ask : (read : List MemcachedTurn) (turns : List Turn) → AreTurnsOf read turns → commands_in turns ≡ commands read
turns_ask [] turns h = ap commands_in h
turns_ask (t ∷ read) turns h = ap commands_in h.2 ∙ (ap (λ (turn : Turn). commands_in (turn ∷ h.1)) (h.3).1 ∙ by t (turns_ask read h.1 h.4))
  where
    by : (t : MemcachedTurn) → commands_in h.1 ≡ commands read → commands_in (turn_with (h.3).0 t ∷ h.1) ≡ commands (t ∷ read)
    by (memcached.Ask c s) later = ap (λ (cs : List Command). c ∷ cs) later
    by (memcached.Say n) later = later
    by (memcached.Close n) later = later

-- what is asked among the turns is among those that were read
pub turn_asks : (read : List MemcachedTurn) (turns : List Turn) (c : Command) (s : Show) → AreTurnsOf read turns → Contains turns (Ask c s) → Contains read (memcached.Ask c s)
turn_asks [] turns c s h there = let none : Contains (let e : List Turn = [] in e) (Ask c s) = subst (λ (ts : List Turn). Contains ts (Ask c s)) h there in let lt = none.1 in absurd (omega (arith, lt))
turn_asks (t ∷ read) turns c s h there = at (λ later. turn_asks read h.1 c s h.4 later) (subst (λ (ts : List Turn). Contains ts (Ask c s)) h.2 there)
  where
    first : (t : MemcachedTurn) → turn_with (h.3).0 t ≡ Ask c s → t ≡ memcached.Ask c s
    first (memcached.Ask d x) e = ap back e
      where
        back : Turn → MemcachedTurn
        back (Ask k y) = memcached.Ask k y
        back (Say n) = memcached.Ask d x
        back (Close n) = memcached.Ask d x
    first (memcached.Say n) e = absurd (let clash : Say (said_with (h.3).0 n) ≡ Ask c s = e in cc clash)
    first (memcached.Close n) e = absurd (let clash : Close (Rattle.grammar.specs.declared.turn.Notice.TheVariants.Memcached n) ≡ Ask c s = e in cc clash)

    at : (Contains h.1 (Ask c s) → Contains read (memcached.Ask c s)) → Contains (h.0 ∷ h.1) (Ask c s) → Contains (t ∷ read) (memcached.Ask c s)
    at others (zero, lt, e) = (0, omega arith, first t (sym (h.3).1 ∙ e))
    at others (suc i, lt, e) =
        let there = others (i, omega (arith, lt), e) in
        let below = there.1 in
        (suc there.0, omega (arith, below), there.2)
