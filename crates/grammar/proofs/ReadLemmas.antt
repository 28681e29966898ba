-- What is read of a stream is what it spells, in either grammar.
use Rattle.std.proofs.Common.{◌≡◌, ℕ, suc, Bool, true, false, List, [], ◌∷◌, ◌++◌, length, map, refl, sym, ◌∙◌, ap, subst, arith}
use Rattle.std.specs.Prelude.{◌↔◌}
use Rattle.std.proofs.lemmas.List.{append-nil, map-append}
use Rattle.proto.specs.declared.command.Command.{Command}
use Rattle.proto.specs.declared.turn.Turn.{Turn as ProfileTurn}
use Rattle.proto.specs.Grammar.{next_turn}
use Rattle.proto.specs.Reader.{Reading, ReadsTurns, kept_of}
use Rattle.proto.proofs.SpellsLemmas as profile
use Rattle.dialect.specs.Laws.{commands}
use Rattle.dialect.specs.declared.turn.Turn.{Turn as MemcachedTurn}
use Rattle.dialect.specs.State.{State, start, read_bytes}
use Rattle.dialect.proofs.SpellsLemmas as memcached
use Rattle.grammar.specs.declared.reader.Dialect.{Dialect}
use Rattle.grammar.specs.declared.reader.Dialect.TheVariants as dialect
use Rattle.grammar.specs.declared.reader.Reader.{Reader}
use Rattle.grammar.specs.declared.reader.Reader.TheVariants.{Limited}
use Rattle.grammar.specs.declared.turn.Turn.{Turn}
use Rattle.grammar.specs.declared.turn.Turn.TheVariants.{Ask, Say, Close}
use Rattle.grammar.specs.Turns.{profile_turn, AreTurnsOf}
use Rattle.grammar.specs.Limit.{turn_when, Limited as LimitedState, without_marks, HasRoomThroughout, limited_turns, limited_state}
use Rattle.grammar.specs.Asks.{SpellsIn, SpellsMemcached, commands_in}
use Rattle.grammar.specs.Reads.{new_reader, HasReadIn, HasReadLimited, GoesOnReading, ReaderReads, ReadsOnProfile, ReadsOnMemcached, ReadsOnLimited}
use Rattle.grammar.proofs.TurnLemmas.{some_turns, both_turns, turns_ask}
use Rattle.grammar.proofs.LimitedLemmas.{room_turns, turns_both, state_both, bytes_read, bytes_lead, mark_turns, mark_state}

-- ---- turns that are spelled

pub some_spelled : (d : Dialect) (bytes : List ℕ) → (turns : List Turn) × SpellsIn d bytes turns
some_spelled dialect.Profile bytes =
    let s = profile.spells_some (suc (length bytes)) bytes (omega arith) in
    (map profile_turn s.0, record { spelled = s.0; rest = s.1; spells = s.2; are = refl })
some_spelled dialect.Memcached bytes =
    let s = some_turns (read_bytes start bytes).turns in
    (s.0, record { spelled = (read_bytes start bytes).turns; spells = memcached.run_is_spelled bytes; are = s.1 })
some_spelled dialect.Limited bytes = some_turns (limited_turns false start bytes)

-- with room throughout they are those of the bytes without the marks
pub room_spelled : (bytes : List ℕ) (turns : List Turn) → HasRoomThroughout bytes → SpellsIn dialect.Limited bytes turns ↔ SpellsIn dialect.Memcached (without_marks bytes) turns
room_spelled bytes turns room = (
  λ (s : SpellsIn dialect.Limited bytes turns). record {
    spelled = (read_bytes start (without_marks bytes)).turns;
    spells = memcached.run_is_spelled (without_marks bytes);
    are = subst (λ (read : List MemcachedTurn). AreTurnsOf read turns) (room_turns start bytes room) s;
  },
  λ (s : SpellsMemcached (without_marks bytes) turns).
      subst (λ (read : List MemcachedTurn). AreTurnsOf read turns) (memcached.spells_one (without_marks bytes) s.spelled (read_bytes start (without_marks bytes)).turns s.spells (memcached.run_is_spelled (without_marks bytes)) ∙ sym (room_turns start bytes room)) s.are,
)

-- turns of the profile are one list
pub one_of_profile : (bytes : List ℕ) (turns others : List Turn) → SpellsIn dialect.Profile bytes turns → SpellsIn dialect.Profile bytes others → turns ≡ others
one_of_profile bytes turns others s t =
    let same = profile.spells_one bytes s.spelled t.spelled s.rest t.rest s.spells t.spells in
    s.are ∙ (ap (map profile_turn) same.0 ∙ sym t.are)

-- all ask one list of commands
pub one_asked : (d : Dialect) (bytes : List ℕ) (turns others : List Turn) → SpellsIn d bytes turns → SpellsIn d bytes others → commands_in turns ≡ commands_in others
one_asked dialect.Profile bytes turns others s t = ap commands_in (one_of_profile bytes turns others s t)
one_asked dialect.Memcached bytes turns others s t =
    turns_ask s.spelled turns s.are ∙ (ap commands (memcached.spells_one bytes s.spelled t.spelled s.spells t.spells) ∙ sym (turns_ask t.spelled others t.are))
one_asked dialect.Limited bytes turns others s t = turns_ask (limited_turns false start bytes) turns s ∙ sym (turns_ask (limited_turns false start bytes) others t)

-- longer bytes spell these turns and more
pub more_spelled : (d : Dialect) (bytes more : List ℕ) (turns : List Turn) → SpellsIn d bytes turns → (added : List Turn) × SpellsIn d (bytes ++ more) (turns ++ added)
more_spelled dialect.Profile bytes more turns s =
    let t = profile.spells_some (suc (length (bytes ++ more))) (bytes ++ more) (omega arith) in
    let added = profile.spells_longer bytes more s.spelled t.0 s.rest t.1 s.spells t.2 in (
      map profile_turn added.0,
      record {
        spelled = t.0;
        rest = t.1;
        spells = t.2;
        are = ap (λ (ts : List Turn). ts ++ map profile_turn added.0) s.are ∙ (sym (map-append profile_turn s.spelled added.0) ∙ ap (map profile_turn) (sym added.1));
      },
    )
more_spelled dialect.Memcached bytes more turns s =
    let added = memcached.spells_longer bytes more s.spelled (read_bytes start (bytes ++ more)).turns s.spells (memcached.run_is_spelled (bytes ++ more)) in
    let t = some_turns added.0 in (
      t.0,
      record {
        spelled = (read_bytes start (bytes ++ more)).turns;
        spells = memcached.run_is_spelled (bytes ++ more);
        are = subst (λ (read : List MemcachedTurn). AreTurnsOf read (turns ++ t.0)) (sym added.1) (both_turns s.spelled added.0 turns t.0 s.are t.1);
      },
    )
more_spelled dialect.Limited bytes more turns s =
    let after = limited_state false start bytes in
    let t = some_turns (limited_turns after.full after.state more) in
    (t.0, subst (λ (read : List MemcachedTurn). AreTurnsOf read (turns ++ t.0)) (sym (turns_both false start bytes more)) (both_turns (limited_turns false start bytes) (limited_turns after.full after.state more) turns t.0 s t.1))

commands_both : (turns more : List Turn) → commands_in (turns ++ more) ≡ commands_in turns ++ commands_in more
commands_both [] more = refl
commands_both (Ask c show ∷ turns) more = ap (λ (cs : List Command). c ∷ cs) (commands_both turns more)
commands_both (Say n ∷ turns) more = commands_both turns more
commands_both (Close n ∷ turns) more = commands_both turns more

pub more_asked : (d : Dialect) (bytes more : List ℕ) (turns later : List Turn) → SpellsIn d bytes turns → SpellsIn d (bytes ++ more) later → (added : List Command) × (commands_in later ≡ commands_in turns ++ added)
more_asked d bytes more turns later s t =
    let m = more_spelled d bytes more turns s in
    (commands_in m.0, one_asked d (bytes ++ more) later (turns ++ m.0) t m.1 ∙ commands_both turns m.0)

-- ---- a reader

none_of_profile : ReadsTurns [] [] (record { kept = []; closed = false; held = 0 })
unfolding next_turn kept_of
none_of_profile = (refl, refl, refl)

none_of_limited : HasReadLimited (Limited start) [] []
unfolding limited_turns limited_state
none_of_limited = record { is = refl; are = refl }

pub none_read : (d : Dialect) → HasReadIn d (new_reader d) [] []
none_read dialect.Profile = record { state = record { kept = []; closed = false; held = 0 }; read = []; is = refl; reads = none_of_profile; are = refl }
none_read dialect.Memcached = record { state = start; read = []; is = refl; reads = memcached.none_read; are = refl }
none_read dialect.Limited = none_of_limited

pub read_spells : (d : Dialect) (reader : Reader) (bytes : List ℕ) (turns : List Turn) → HasReadIn d reader bytes turns → SpellsIn d bytes turns
read_spells dialect.Profile reader bytes turns h = let s = profile.reads_spells bytes h.read h.state h.reads in record { spelled = h.read; rest = s.0; spells = s.1; are = h.are }
read_spells dialect.Memcached reader bytes turns h = record { spelled = h.read; spells = h.reads.spells; are = h.are }
read_spells dialect.Limited reader bytes turns h = h.are

-- the turns of two pieces, one after the other
both_are : {X : Type 0} (f : X → Turn) (read more : List X) (turns others : List Turn) → turns ≡ map f read → others ≡ map f more → turns ++ others ≡ map f (read ++ more)
both_are f read more turns others e g = (λ i. e i ++ g i) ∙ sym (map-append f read more)

profile_more : (fed piece : List ℕ) (read more : List ProfileTurn) (old new : Reading) (closed : Bool) → old.closed ≡ closed → ReadsTurns fed read old → GoesOnReading closed old piece more new → ReadsTurns (fed ++ piece) (read ++ more) new
profile_more fed piece read more old new true e h g =
    subst (λ (z : List ProfileTurn × Reading). ReadsTurns (fed ++ piece) z.0 z.1) (λ i. ((sym (append-nil read) ∙ ap (λ (ts : List ProfileTurn). read ++ ts) (sym g.0)) i, sym g.1 i)) (profile.reads_closed fed piece read old h e)
profile_more fed piece read more old new false e h g = profile.reads_on fed piece read more old new h e g

-- a piece after what was read
pub read_more : (d : Dialect) (old new : Reader) (fed piece : List ℕ) (turns more : List Turn) → HasReadIn d old fed turns → ReaderReads old piece more new → HasReadIn d new (fed ++ piece) (turns ++ more)
read_more dialect.Profile old new fed piece turns more h g =
    let r : ReadsOnProfile h.state piece more new = subst (λ (x : Reader). ReaderReads x piece more new) h.is g in
    record { state = r.state; read = h.read ++ r.read; is = r.is; reads = profile_more fed piece h.read r.read h.state r.state h.state.closed refl h.reads r.reads; are = both_are profile_turn h.read r.read turns more h.are r.are }
read_more dialect.Memcached old new fed piece turns more h g =
    let r : ReadsOnMemcached h.state piece more new = subst (λ (x : Reader). ReaderReads x piece more new) h.is g in
    record { state = r.state; read = h.read ++ r.read; is = r.is; reads = memcached.read_on fed piece h.read r.read h.state r.state h.reads r.reads; are = both_turns h.read r.read turns more h.are r.are }
read_more dialect.Limited old new fed comes turns more h g = record { is = r.is ∙ ap (λ (s : State). Limited s) (sym leads); are = subst (λ (read : List MemcachedTurn). AreTurnsOf read (turns ++ more)) (sym all) both }
  where
    r : ReadsOnLimited (limited_state false start fed).state comes more new
    r = subst (λ (x : Reader). ReaderReads x comes more new) h.is g

    -- the turns of the piece
    given : limited_turns (limited_state false start fed).full (limited_state false start fed).state comes ≡ map (turn_when r.full) r.read
    given = ap (limited_turns (limited_state false start fed).full (limited_state false start fed).state) r.marked_so
        ∙ (mark_turns (limited_state false start fed).full r.full (limited_state false start fed).state r.piece
        ∙ (bytes_read r.full (limited_state false start fed).state r.piece r.bytes
        ∙ ap (map (turn_when r.full)) (sym r.reads.turns)))

    all : limited_turns false start (fed ++ comes) ≡ limited_turns false start fed ++ map (turn_when r.full) r.read
    all = turns_both false start fed comes ∙ ap (λ (ts : List MemcachedTurn). limited_turns false start fed ++ ts) given

    both : AreTurnsOf (limited_turns false start fed ++ map (turn_when r.full) r.read) (turns ++ more)
    both = both_turns (limited_turns false start fed) (map (turn_when r.full) r.read) turns more h.are r.are

    leads : (limited_state false start (fed ++ comes)).state ≡ r.state
    leads = ap (λ (l : LimitedState). l.state) (state_both false start fed comes
        ∙ (ap (limited_state (limited_state false start fed).full (limited_state false start fed).state) r.marked_so
        ∙ (mark_state (limited_state false start fed).full r.full (limited_state false start fed).state r.piece
        ∙ bytes_lead r.full (limited_state false start fed).state r.piece r.bytes)))
        ∙ sym r.reads.state
