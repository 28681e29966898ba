-- What a server with a limit of memory reads: bytes, and marks between them that say whether its items have more than that.
use Rattle.std.specs.Prelude.{◌≡◌, ℕ, ℤ, Bool, true, false, List, [], ◌∷◌, ◌++◌, map, ◌==◌, nat_lt, if◌then◌else◌}
use Rattle.proto.specs.declared.command.Command.{Command}
use Rattle.proto.specs.declared.command.Command.TheVariants as command
use Rattle.proto.specs.declared.command.StoreVerb.{StoreVerb}
use Rattle.proto.specs.declared.command.StoreVerb.TheVariants as verb
use Rattle.proto.specs.declared.command.Update.{Update}
use Rattle.proto.specs.declared.command.Update.TheVariants as update
use Rattle.dialect.specs.declared.turn.Notice.TheVariants as notice
use Rattle.dialect.specs.declared.turn.Show.{Show}
use Rattle.dialect.specs.declared.turn.Show.TheVariants as show
use Rattle.dialect.specs.declared.turn.Turn.{Turn}
use Rattle.dialect.specs.declared.turn.Turn.TheVariants.{Ask, Say, Close}
use Rattle.dialect.specs.State.{State, read_byte}
use Rattle.grammar.specs.Turns.{is_left_out}

-- ---- a line while the items have more bytes than the limit

-- another text in place of the reply, if anything of that is shown
abbrev pub refused_show : Show → Show
refused_show s = if is_left_out s then show.Quiet else show.Instead notice.OutOfMemory

abbrev pub refused_say : Show → Turn
refused_say s = if is_left_out s then Say notice.Silent else Say notice.OutOfMemory

-- what would grow is not asked. What a set would have replaced is removed
abbrev pub refused_store : StoreVerb → List ℕ → Show → Turn
refused_store verb.Set k s = Ask (command.Update (update.Delete k)) (refused_show s)
refused_store verb.Add k s = refused_say s
refused_store verb.Replace k s = refused_say s
refused_store verb.Append k s = refused_say s
refused_store verb.Prepend k s = refused_say s

-- a cas of an empty block makes no item longer
abbrev pub refused_cas : List ℕ → ℕ → ℤ → List ℕ → ℕ → Show → Turn
refused_cas k f e [] unique s = Ask (command.Update (update.Cas k f e [] unique)) s
refused_cas k f e (b ∷ block) unique s = refused_say s

abbrev pub refused_update : Update → Show → Turn
refused_update (update.Store v k f e block) s = refused_store v k s
refused_update (update.Cas k f e block unique) s = refused_cas k f e block unique s
refused_update (update.Delete k) s = Ask (command.Update (update.Delete k)) s
refused_update (update.Touch k e) s = Ask (command.Update (update.Touch k e)) s
refused_update (update.Incr k delta) s = Ask (command.Update (update.Incr k delta)) s
refused_update (update.Decr k delta) s = Ask (command.Update (update.Decr k delta)) s

abbrev pub refused_ask : Command → Show → Turn
refused_ask (command.Get ks) s = Ask (command.Get ks) s
refused_ask (command.Gets ks) s = Ask (command.Gets ks) s
refused_ask (command.Gat e ks) s = Ask (command.Gat e ks) s
refused_ask (command.Gats e ks) s = Ask (command.Gats e ks) s
refused_ask (command.Update u) s = refused_update u s

abbrev pub refused_turn : Turn → Turn
refused_turn (Ask c s) = refused_ask c s
refused_turn (Say n) = Say n
refused_turn (Close n) = Close n

-- after the command no item is longer, and there are no more
abbrev pub MakesNothingLonger : Command → Type 0
MakesNothingLonger (command.Get ks) = Unit {0}
MakesNothingLonger (command.Gets ks) = Unit {0}
MakesNothingLonger (command.Gat e ks) = Unit {0}
MakesNothingLonger (command.Gats e ks) = Unit {0}
MakesNothingLonger (command.Update (update.Store v k f e block)) = ⊥
MakesNothingLonger (command.Update (update.Cas k f e block unique)) = block ≡ []
MakesNothingLonger (command.Update (update.Delete k)) = Unit {0}
MakesNothingLonger (command.Update (update.Touch k e)) = Unit {0}
-- but for the digits of a number
MakesNothingLonger (command.Update (update.Incr k delta)) = Unit {0}
MakesNothingLonger (command.Update (update.Decr k delta)) = Unit {0}

abbrev pub StoresNothing : Turn → Type 0
StoresNothing (Ask c s) = MakesNothingLonger c
StoresNothing (Say n) = Unit {0}
StoresNothing (Close n) = Unit {0}

-- if they have
abbrev pub turn_when : Bool → Turn → Turn
turn_when true turn = refused_turn turn
turn_when false turn = turn

-- ---- marks

-- from here on the items have more bytes than the limit, or not. A mark is no byte
abbrev pub mark : Bool → ℕ
mark true = 257
mark false = 256

-- what comes with a piece that is read then
abbrev pub behind_mark : Bool → List ℕ → List ℕ
behind_mark full piece = mark full ∷ piece

-- the bytes between the marks
abbrev pub without_marks : List ℕ → List ℕ
without_marks [] = []
without_marks (b ∷ bytes) = if nat_lt b 256 then b ∷ without_marks bytes else without_marks bytes

-- no mark says that the items have more bytes than the limit
abbrev pub HasRoomThroughout : List ℕ → Type 0
HasRoomThroughout [] = Unit {0}
HasRoomThroughout (b ∷ bytes) = (¬ (b ≡ 257)) × HasRoomThroughout bytes

-- the turns that bytes and marks end, from a state of the reader on
unfoldable pub limited_turns : Bool → State → List ℕ → List Turn
limited_turns full s [] = []
limited_turns full s (b ∷ bytes) =
    if nat_lt b 256 then map (turn_when full) (read_byte s b).turns ++ limited_turns full (read_byte s b).state bytes
    else limited_turns (b == 257) s bytes

-- the state after them, and what the last mark says
pub record Limited : Type 0 where
  pub full : Bool
  pub state : State

unfoldable pub limited_state : Bool → State → List ℕ → Limited
limited_state full s [] = record { full = full; state = s }
limited_state full s (b ∷ bytes) = if nat_lt b 256 then limited_state full (read_byte s b).state bytes else limited_state (b == 257) s bytes
