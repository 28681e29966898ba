-- What bytes and marks ask has a text in the profile, also while storage commands are refused.
use Rattle.std.proofs.Common.{ℕ, Bool, true, false, List, [], ◌∷◌, ◌++◌, map, refl, if◌then◌else◌}
use Rattle.std.specs.Prelude.{◌==◌, nat_lt, Contains}
use Rattle.proto.specs.declared.command.Command.{Command}
use Rattle.proto.specs.declared.command.Command.TheVariants as command
use Rattle.proto.specs.declared.command.StoreVerb.TheVariants as verb
use Rattle.proto.specs.declared.command.Update.{Update}
use Rattle.proto.specs.declared.command.Update.TheVariants as update
use Rattle.dialect.specs.State.{State, start, read_byte, read_bytes}
use Rattle.dialect.specs.declared.turn.Notice.TheVariants as notice
use Rattle.dialect.specs.declared.turn.Show.{Show}
use Rattle.dialect.specs.declared.turn.Turn.{Turn}
use Rattle.dialect.specs.declared.turn.Turn.TheVariants.{Ask, Say, Close}
use Rattle.dialect.proofs.SpellsLemmas.{run_is_spelled}
use Rattle.memcached_spec.specs.Asked.{HasText}
use Rattle.grammar.specs.Turns.{is_left_out}
use Rattle.grammar.specs.Limit.{refused_show, refused_update, refused_ask, refused_turn, turn_when, without_marks, StoresNothing, limited_turns}
use Rattle.grammar.proofs.LimitLemmas.{IsFitTurn, AreFitTurns, both_fit, spelled_fit, one_has_text}

said_fits : (b : Bool) → IsFitTurn (if b then Say notice.Silent else Say notice.OutOfMemory)
said_fits true = tt
said_fits false = tt

update_refused : (u : Update) (s : Show) → IsFitTurn (Ask (command.Update u) s) → IsFitTurn (refused_update u s)
update_refused (update.Store verb.Set k f e block) s fit = (fit.1 (is_left_out (refused_show s)), tt)
update_refused (update.Store verb.Add k f e block) s fit = said_fits (is_left_out s)
update_refused (update.Store verb.Replace k f e block) s fit = said_fits (is_left_out s)
update_refused (update.Store verb.Append k f e block) s fit = said_fits (is_left_out s)
update_refused (update.Store verb.Prepend k f e block) s fit = said_fits (is_left_out s)
update_refused (update.Cas k f e [] unique) s fit = fit
update_refused (update.Cas k f e (b ∷ block) unique) s fit = said_fits (is_left_out s)
update_refused (update.Delete k) s fit = fit
update_refused (update.Touch k e) s fit = fit
update_refused (update.Incr k delta) s fit = fit
update_refused (update.Decr k delta) s fit = fit

ask_refused : (c : Command) (s : Show) → IsFitTurn (Ask c s) → IsFitTurn (refused_ask c s)
ask_refused (command.Get ks) s fit = fit
ask_refused (command.Gets ks) s fit = fit
ask_refused (command.Gat e ks) s fit = fit
ask_refused (command.Gats e ks) s fit = fit
ask_refused (command.Update u) s fit = update_refused u s fit

turn_fits : (full : Bool) (t : Turn) → IsFitTurn t → IsFitTurn (turn_when full t)
turn_fits false t fit = fit
turn_fits true (Ask c s) fit = ask_refused c s fit
turn_fits true (Say n) fit = tt
turn_fits true (Close n) fit = tt

all_fit : (full : Bool) (turns : List Turn) → AreFitTurns turns → AreFitTurns (map (turn_when full) turns)
all_fit full [] fit = tt
all_fit full (t ∷ turns) fit = (turn_fits full t fit.0, all_fit full turns fit.1)

front_fits : (turns more : List Turn) → AreFitTurns (turns ++ more) → AreFitTurns turns × AreFitTurns more
front_fits [] more fit = (tt, fit)
front_fits (t ∷ turns) more fit = let f = front_fits turns more fit.1 in ((fit.0, f.0), f.1)

limited_fit : (full : Bool) (s : State) (bytes : List ℕ) → AreFitTurns (read_bytes s (without_marks bytes)).turns → AreFitTurns (limited_turns full s bytes)
unfolding limited_turns read_bytes
limited_fit full s [] fit = tt
limited_fit full s (b ∷ bytes) fit = by (nat_lt b 256) (λ later. limited_fit full (read_byte s b).state bytes later) (λ later. limited_fit (b == 257) s bytes later) fit
  where
    by : (is : Bool) → (AreFitTurns (read_bytes (read_byte s b).state (without_marks bytes)).turns → AreFitTurns (limited_turns full (read_byte s b).state bytes)) → (AreFitTurns (read_bytes s (without_marks bytes)).turns → AreFitTurns (limited_turns (b == 257) s bytes))
        → AreFitTurns (read_bytes s (if is then b ∷ without_marks bytes else without_marks bytes)).turns → AreFitTurns (if is then map (turn_when full) (read_byte s b).turns ++ limited_turns full (read_byte s b).state bytes else limited_turns (b == 257) s bytes)
    by true read marked fit =
        let f = front_fits (read_byte s b).turns (read_bytes (read_byte s b).state (without_marks bytes)).turns fit in
        both_fit (map (turn_when full) (read_byte s b).turns) (limited_turns full (read_byte s b).state bytes) (all_fit full (read_byte s b).turns f.0) (read f.1)
    by false read marked fit = marked fit

pub limited_has_text : (bytes : List ℕ) (c : Command) (s : Show) → Contains (limited_turns false start bytes) (Ask c s) → HasText c (is_left_out s)
limited_has_text bytes c s there =
    one_has_text (limited_turns false start bytes) c s (limited_fit false start bytes (spelled_fit (without_marks bytes) (read_bytes start (without_marks bytes)).turns (run_is_spelled (without_marks bytes)))) there

-- ---- what is asked while no more may be stored

said_stores_nothing : (b : Bool) → StoresNothing (if b then Say notice.Silent else Say notice.OutOfMemory)
said_stores_nothing true = tt
said_stores_nothing false = tt

update_stores_nothing : (u : Update) (s : Show) → StoresNothing (refused_update u s)
update_stores_nothing (update.Store verb.Set k f e block) s = tt
update_stores_nothing (update.Store verb.Add k f e block) s = said_stores_nothing (is_left_out s)
update_stores_nothing (update.Store verb.Replace k f e block) s = said_stores_nothing (is_left_out s)
update_stores_nothing (update.Store verb.Append k f e block) s = said_stores_nothing (is_left_out s)
update_stores_nothing (update.Store verb.Prepend k f e block) s = said_stores_nothing (is_left_out s)
update_stores_nothing (update.Cas k f e [] unique) s = refl
update_stores_nothing (update.Cas k f e (b ∷ block) unique) s = said_stores_nothing (is_left_out s)
update_stores_nothing (update.Delete k) s = tt
update_stores_nothing (update.Touch k e) s = tt
update_stores_nothing (update.Incr k delta) s = tt
update_stores_nothing (update.Decr k delta) s = tt

ask_stores_nothing : (c : Command) (s : Show) → StoresNothing (refused_ask c s)
ask_stores_nothing (command.Get ks) s = tt
ask_stores_nothing (command.Gets ks) s = tt
ask_stores_nothing (command.Gat e ks) s = tt
ask_stores_nothing (command.Gats e ks) s = tt
ask_stores_nothing (command.Update u) s = update_stores_nothing u s

pub refused_stores_nothing : (turn : Turn) → StoresNothing (refused_turn turn)
refused_stores_nothing (Ask c s) = ask_stores_nothing c s
refused_stores_nothing (Say n) = tt
refused_stores_nothing (Close n) = tt
