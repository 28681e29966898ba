-- In the profile all is what is said of the clients of a world; and each command has a text of its own.
use Rattle.std.proofs.Common.{◌≡◌, ℕ, zero, suc, ◌+◌, ◌-◌, Bool, true, false, List, [], ◌∷◌, ◌++◌, map, take, flat_map, Some, refl, sym, ap, ◌∙◌, subst, arith, slice_get}
use Rattle.std.specs.Prelude.{◌↔◌, Contains}
use Rattle.std.proofs.lemmas.List.{map-append}
use Rattle.proto.specs.declared.command.Command.{Command}
use Rattle.proto.specs.declared.reply.Reply as replies
use Rattle.proto.specs.declared.turn.Turn.{Turn as ProfileTurn}
use Rattle.proto.specs.declared.turn.Turn.TheVariants as profile
use Rattle.proto.specs.Text.{given_text}
use Rattle.proto.proofs.SpellsLemmas.{spelled_alone}
use Rattle.dialect.specs.declared.turn.Show.{Show}
use Rattle.dialect.specs.Text.{shown_text}
use Rattle.dialect.specs.State.{start}
use Rattle.item_steps.specs.Steps.{steps}
use Rattle.memcached_spec.specs.Asked.{asked, TextsBy, IsAsked, HasText}
use Rattle.memcached_spec.specs.Server.{Line, Made, made_for}
use Rattle.memcached_spec.specs.Order.{replies_from, IsExecutedFor, IsAnsweredBy}
use Rattle.grammar.specs.declared.reader.Dialect.{Dialect}
use Rattle.grammar.specs.declared.reader.Dialect.TheVariants.{Profile, Memcached, Limited}
use Rattle.grammar.specs.declared.turn.Turn.{Turn}
use Rattle.grammar.specs.declared.turn.Turn.TheVariants.{Ask, Say, Close}
use Rattle.grammar.specs.Turns.{is_left_out, profile_show, profile_turn}
use Rattle.grammar.specs.Limit.{limited_turns}
use Rattle.grammar.specs.Asks.{SpellsIn, SpellsProfile, commands_in, TextsShown, IsAskedIn}
use Rattle.grammar.specs.Orders.{IsExecutedFrom, IsAnsweredFrom}
use Rattle.grammar.proofs.TurnLemmas.{turn_asks}
use Rattle.grammar.proofs.LimitLemmas.{memcached_has_text}
use Rattle.grammar.proofs.FullLemmas.{limited_has_text}

-- ---- what is asked

commands_of_profile : (turns : List ProfileTurn) → commands_in (map profile_turn turns) ≡ asked turns
commands_of_profile [] = refl
commands_of_profile (profile.Ask c quiet ∷ turns) = ap (λ (cs : List Command). c ∷ cs) (commands_of_profile turns)
commands_of_profile (profile.Say n ∷ turns) = commands_of_profile turns
commands_of_profile (profile.Close n ∷ turns) = commands_of_profile turns

pub asked_as_before : (bytes : List ℕ) (number : ℕ) (command : Command) → IsAskedIn Profile bytes number command ↔ IsAsked bytes number command
asked_as_before bytes number command = (
  λ a.
      let s : SpellsProfile bytes a.turns = a.spells in
      let same : commands_in a.turns ≡ asked s.spelled = ap commands_in s.are ∙ commands_of_profile s.spelled in
      record { turns = s.spelled; rest = s.rest; spells = s.spells; from_one = a.from_one; is = ap (λ (cs : List Command). slice_get cs (number - 1)) (sym same) ∙ a.is },
  λ a. record {
    turns = map profile_turn a.turns;
    spells = record { spelled = a.turns; rest = a.rest; spells = a.spells; are = refl };
    from_one = a.from_one;
    is = ap (λ (cs : List Command). slice_get cs (number - 1)) (commands_of_profile a.turns) ∙ a.is;
  },
)

-- ---- texts

same_text : (r : replies.Reply) (quiet : Bool) → shown_text r (profile_show quiet) ≡ given_text r quiet
same_text r true = refl
same_text r false = refl

module _ (P : ℕ → replies.Reply → Type 0) where
  to_profile_texts : (q : ℕ) (turns : List ProfileTurn) (bytes : List ℕ) → TextsShown P q (map profile_turn turns) bytes → TextsBy P q turns bytes
  to_profile_texts q [] bytes h = h
  to_profile_texts q (profile.Say n ∷ turns) bytes h = (h.0, h.1, to_profile_texts q turns h.0 h.2)
  to_profile_texts q (profile.Close n ∷ turns) bytes h = (h.0, h.1, to_profile_texts q turns h.0 h.2)
  to_profile_texts q (profile.Ask c quiet ∷ turns) bytes h = (h.0, h.1, h.2, h.3 ∙ ap (λ (xs : List ℕ). xs ++ h.1) (same_text h.0 quiet), to_profile_texts (q + 1) turns h.1 h.4)

  from_profile_texts : (q : ℕ) (turns : List ProfileTurn) (bytes : List ℕ) → TextsBy P q turns bytes → TextsShown P q (map profile_turn turns) bytes
  from_profile_texts q [] bytes h = h
  from_profile_texts q (profile.Say n ∷ turns) bytes h = (h.0, h.1, from_profile_texts q turns h.0 h.2)
  from_profile_texts q (profile.Close n ∷ turns) bytes h = (h.0, h.1, from_profile_texts q turns h.0 h.2)
  from_profile_texts q (profile.Ask c quiet ∷ turns) bytes h = (h.0, h.1, h.2, h.3 ∙ ap (λ (xs : List ℕ). xs ++ h.1) (sym (same_text h.0 quiet)), from_profile_texts (q + 1) turns h.1 h.4)

-- ---- what is executed and answered

executed_to : (lines : List Line) (client : ℕ) (bytes : List ℕ) → IsExecutedFrom Profile lines client bytes → IsExecutedFor lines client bytes
executed_to lines client bytes e =
    let s : SpellsProfile bytes e.turns = e.spells in
    let same : commands_in e.turns ≡ asked s.spelled = ap commands_in s.are ∙ commands_of_profile s.spelled in
    record { turns = s.spelled; rest = s.rest; spells = s.spells; count = e.count; made = e.made ∙ ap (λ (cs : List Command). flat_map steps (take e.count cs)) same }

executed_from : (lines : List Line) (client : ℕ) (bytes : List ℕ) → IsExecutedFor lines client bytes → IsExecutedFrom Profile lines client bytes
executed_from lines client bytes e = record {
  turns = map profile_turn e.turns;
  spells = record { spelled = e.turns; rest = e.rest; spells = e.spells; are = refl };
  count = e.count;
  made = e.made ∙ ap (λ (cs : List Command). flat_map steps (take e.count cs)) (sym (commands_of_profile e.turns));
}

pub executed_as_before : (lines : List Line) (client : ℕ) (bytes : List ℕ) → IsExecutedFrom Profile lines client bytes ↔ IsExecutedFor lines client bytes
executed_as_before lines client bytes = (executed_to lines client bytes, executed_from lines client bytes)

-- a part of turns of the profile is some
record SplitsAs (turns : List ProfileTurn) (taken more : List Turn) : Type 0 where
  first : List ProfileTurn
  behind : List ProfileTurn
  both : turns ≡ first ++ behind
  first_are : taken ≡ map profile_turn first
  behind_are : more ≡ map profile_turn behind

splits : (turns : List ProfileTurn) (taken more : List Turn) → map profile_turn turns ≡ taken ++ more → SplitsAs turns taken more
splits turns [] more e = record { first = []; behind = turns; both = refl; first_are = refl; behind_are = sym e }
splits [] (t ∷ taken) more e = absurd (let clash : ◌≡◌ {A = List Turn} [] (t ∷ (taken ++ more)) = e in cc clash)
splits (u ∷ turns) (t ∷ taken) more e =
    let parts : (profile_turn u ≡ t) × (map profile_turn turns ≡ taken ++ more) = (first_same e, rest_same e) in
    let s = splits turns taken more parts.1 in
    record { first = u ∷ s.first; behind = s.behind; both = ap (λ (ts : List ProfileTurn). u ∷ ts) s.both; first_are = (λ i. sym parts.0 i ∷ s.first_are i); behind_are = s.behind_are }
  where
    first_same : ◌≡◌ {A = List Turn} (profile_turn u ∷ map profile_turn turns) (t ∷ (taken ++ more)) → profile_turn u ≡ t
    first_same e = ap (λ (ts : List Turn). first_of ts) e
      where
        first_of : List Turn → Turn
        first_of [] = t
        first_of (x ∷ xs) = x

    rest_same : ◌≡◌ {A = List Turn} (profile_turn u ∷ map profile_turn turns) (t ∷ (taken ++ more)) → map profile_turn turns ≡ taken ++ more
    rest_same e = ap (λ (ts : List Turn). rest_of ts) e
      where
        rest_of : List Turn → List Turn
        rest_of [] = []
        rest_of (x ∷ xs) = xs

pub answered_as_before : (lines : List Line) (client : ℕ) (bytes given : List ℕ) → IsAnsweredFrom Profile lines client bytes given ↔ IsAnsweredBy lines client bytes given
unfolding executed_to executed_from
answered_as_before lines client bytes given = (to, from)
  where
    to : IsAnsweredFrom Profile lines client bytes given → IsAnsweredBy lines client bytes given
    to a =
        let e = a.executed in
        let s : SpellsProfile bytes e.turns = e.spells in
        let same : commands_in e.turns ≡ asked s.spelled = ap commands_in s.are ∙ commands_of_profile s.spelled in
        let p = splits s.spelled a.taken a.more (sym s.are ∙ a.first) in
        let P = λ (cs : List Command) (number : ℕ) (r : replies.Reply). slice_get (replies_from (take e.count cs) (map (λ (m : Made). m.answer) (made_for client lines))) (number - 1) ≡ Some r in
        record {
          executed = executed_to lines client bytes e;
          taken = p.first;
          more = p.behind;
          first = p.both;
          texts = to_profile_texts (P (asked s.spelled)) 1 p.first given (subst (λ (z : List Command × List Turn). TextsShown (P z.0) 1 z.1 given) (λ i. (same i, p.first_are i)) a.texts);
        }

    from : IsAnsweredBy lines client bytes given → IsAnsweredFrom Profile lines client bytes given
    from a =
        let e = a.executed in
        let P = λ (cs : List Command) (number : ℕ) (r : replies.Reply). slice_get (replies_from (take e.count cs) (map (λ (m : Made). m.answer) (made_for client lines))) (number - 1) ≡ Some r in
        record {
          executed = executed_from lines client bytes e;
          taken = map profile_turn a.taken;
          more = map profile_turn a.more;
          first = ap (map profile_turn) a.first ∙ map-append profile_turn a.taken a.more;
          texts = subst (λ (cs : List Command). TextsShown (P cs) 1 (map profile_turn a.taken) given) (sym (commands_of_profile e.turns)) (from_profile_texts (P (asked e.turns)) 1 a.taken given a.texts);
        }

-- ---- a text of its own

left_out : (quiet : Bool) → is_left_out (profile_show quiet) ≡ quiet
left_out true = refl
left_out false = refl

-- what is among the mapped is the image of one
profile_ask : (turns : List ProfileTurn) (c : Command) (s : Show) → Contains (map profile_turn turns) (Ask c s) → (quiet : Bool) × Contains turns (profile.Ask c quiet) × (profile_show quiet ≡ s)
profile_ask [] c s (i, lt, e) = absurd (omega (arith, lt))
profile_ask (turn ∷ turns) c s (suc i, lt, e) =
    let r = profile_ask turns c s (i, omega (arith, lt), e) in
    let at = r.1 in
    let below = at.1 in
    (r.0, (suc at.0, omega (arith, below), at.2), r.2)
profile_ask (profile.Ask d quiet ∷ turns) c s (zero, lt, e) = (quiet, (0, omega arith, ap (λ (k : Command). profile.Ask k quiet) (command_of e)), show_of e)
  where
    command_of : Ask d (profile_show quiet) ≡ Ask c s → d ≡ c
    command_of e = ap (λ (t : Turn). its t) e
      where
        its : Turn → Command
        its (Ask k x) = k
        its (Say n) = d
        its (Close n) = d

    show_of : Ask d (profile_show quiet) ≡ Ask c s → profile_show quiet ≡ s
    show_of e = ap (λ (t : Turn). its t) e
      where
        its : Turn → Show
        its (Ask k x) = x
        its (Say n) = s
        its (Close n) = s
profile_ask (profile.Say n ∷ turns) c s (zero, lt, e) = absurd (let clash : Say (Rattle.grammar.specs.declared.turn.Notice.TheVariants.Profile n) ≡ Ask c s = e in cc clash)
profile_ask (profile.Close n ∷ turns) c s (zero, lt, e) = absurd (let clash : Close (Rattle.grammar.specs.declared.turn.Notice.TheVariants.Profile n) ≡ Ask c s = e in cc clash)

pub spelled_has_text : (d : Dialect) (bytes : List ℕ) (turns : List Turn) (command : Command) (show : Show) → SpellsIn d bytes turns → Contains turns (Ask command show) → HasText command (is_left_out show)
spelled_has_text Profile bytes turns command show s there =
    let one = profile_ask s.spelled command show (subst (λ (ts : List Turn). Contains ts (Ask command show)) s.are there) in
    subst (HasText command) (sym (left_out one.0) ∙ ap is_left_out one.2) (spelled_alone bytes s.spelled s.rest command one.0 s.spells one.1)
spelled_has_text Memcached bytes turns command show s there = memcached_has_text bytes s.spelled command show s.spells (turn_asks s.spelled turns command show s.are there)
spelled_has_text Limited bytes turns command show s there = limited_has_text bytes command show (turn_asks (limited_turns false start bytes) turns command show s there)
