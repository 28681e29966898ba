-- What a step of a session asks.
use Rattle.std.proofs.Common.{◌≡◌, ◌⊎◌, inl, inr, ℕ, ◌+◌, Bool, true, false, List, [], ◌∷◌, ◌++◌, Option, Some, None, refl, sym, ap, ◌∙◌, subst}
use Rattle.std.specs.Prelude.{◌==◌}
use Rattle.std.proofs.lemmas.Bool.{cond_both}
use Rattle.proto.specs.declared.command.Command.{Command}
use Rattle.proto.specs.declared.reply.Reply as replies
use Rattle.grammar.specs.declared.turn.Turn.{Turn}
use Rattle.grammar.specs.declared.turn.Turn.TheVariants.{Ask, Say, Close}
use Rattle.dialect.specs.Text.{shown_text}
use Rattle.grammar.specs.Turns.{said_text}
use Rattle.grammar.specs.declared.reader.Dialect.{Dialect}
use Rattle.grammar.specs.declared.reader.Dialect.TheVariants as dialect
use Rattle.grammar.specs.declared.reader.Reader.{Reader}
use Rattle.grammar.specs.declared.reader.Reader.TheVariants.{Profile, Memcached, Limited}
use Rattle.grammar.specs.Reads.{new_reader, dialect_of, ReaderReads}
use Rattle.session.specs.declared.session.Awaited.{Awaited}
use Rattle.session.specs.declared.session.Session.{Session}
use Rattle.session.specs.Session.{SessionStep, session_stays, session_goes, session_goes_if, session_goes_on, IsFedSession, IsFedSessionIf, session_answered, answered_if_taken, answered_to_awaited}

-- the next command is to be taken
abbrev pub AsksNext : Session → SessionStep → Type 0
AsksNext s g = (command : Command) × (g.session.command ≡ Some command) × (g.session.last ≡ s.last + 1)

-- nothing is asked; or the next command is
abbrev pub MayAsk : Session → SessionStep → Type 0
MayAsk s g = ((g.session.command ≡ s.command) × (g.session.last ≡ s.last)) ⊎ AsksNext s g

-- if nothing is asked, what was outstanding is
abbrev pub Asks : Session → SessionStep → Type 0
Asks s g = ((g.session.command ≡ s.command) × (g.session.last ≡ s.last) × (g.session.outstanding ≡ s.outstanding)) ⊎ AsksNext s g

pub asks_may : (s : Session) (g : SessionStep) → Asks s g → MayAsk s g
asks_may s g (inl h) = inl (h.0, h.1)
asks_may s g (inr h) = inr h

go_asks : (s : Session) (bytes : List ℕ) (turns : List Turn) → Asks s (session_goes s bytes turns)
go_asks s bytes [] = inl (refl, refl, refl)
go_asks s bytes (Say notice ∷ turns) = go_asks s (bytes ++ said_text notice) turns
go_asks s bytes (Close notice ∷ turns) = inl (refl, refl, refl)
go_asks s bytes (Ask command show ∷ turns) = inr (command, refl, refl)

pub where_asks : (s : Session) (bytes : List ℕ) (o : Option Awaited) (closed : Bool) → Asks s (session_goes_if s bytes o closed)
where_asks s bytes None false = go_asks s bytes s.waiting
where_asks s bytes None true = inl (refl, refl, refl)
where_asks s bytes (Some a) closed = inl (refl, refl, refl)

pub fed_asks : (s : Session) (piece : List ℕ) (g : SessionStep) → IsFedSession s piece g → Asks s g
fed_asks s piece g is = by s.closed is
  where
    by : (closed : Bool) → IsFedSessionIf closed s piece g → Asks s g
    by true e = subst (Asks s) (sym e) (inl (refl, refl, refl))
    by false e =
        let s' : Session = record s { reader = e.1; waiting = s.waiting ++ e.0 } in
        subst (Asks s) (sym e.3) (where_asks s' [] s'.outstanding s'.closed)

pub replied_asks : (s : Session) (turn : ℕ) (reply : replies.Reply) → MayAsk s (session_answered s turn reply)
replied_asks s turn reply = by_command s.command
  where
    by : (o : Option Awaited) → MayAsk s (answered_to_awaited s turn reply o)
    by None = inl (refl, refl)
    by (Some a) =
        let s' : Session = record s { outstanding = None } in
        cond_both (a.number == turn) (session_goes_on s' (shown_text reply a.show)) (session_stays s) (MayAsk s)
        (λ _. asks_may s' (session_goes_on s' (shown_text reply a.show)) (where_asks s' (shown_text reply a.show) s'.outstanding s'.closed))
        (λ _. inl (refl, refl))

    by_command : (o : Option Command) → MayAsk s (answered_if_taken s turn reply o)
    by_command None = by s.outstanding
    by_command (Some command) = inl (refl, refl)

-- ---- the grammar stays

pub new_reads : (d : Dialect) → dialect_of (new_reader d) ≡ d
new_reads dialect.Profile = refl
new_reads dialect.Memcached = refl
new_reads dialect.Limited = refl

reads_same : (old new : Reader) (comes : List ℕ) (turns : List Turn) → ReaderReads old comes turns new → dialect_of new ≡ dialect_of old
reads_same (Profile s) new comes turns r = ap dialect_of r.is
reads_same (Memcached s) new comes turns r = ap dialect_of r.is
reads_same (Limited s) new comes turns r = ap dialect_of r.is

go_reads : (s : Session) (bytes : List ℕ) (turns : List Turn) → (session_goes s bytes turns).session.reader ≡ s.reader
go_reads s bytes [] = refl
go_reads s bytes (Say notice ∷ turns) = go_reads s (bytes ++ said_text notice) turns
go_reads s bytes (Close notice ∷ turns) = refl
go_reads s bytes (Ask command show ∷ turns) = refl

where_reads : (s : Session) (bytes : List ℕ) (o : Option Awaited) (closed : Bool) → (session_goes_if s bytes o closed).session.reader ≡ s.reader
where_reads s bytes None false = go_reads s bytes s.waiting
where_reads s bytes None true = refl
where_reads s bytes (Some a) closed = refl

pub fed_reads_so : (s : Session) (comes : List ℕ) (g : SessionStep) → IsFedSession s comes g → dialect_of g.session.reader ≡ dialect_of s.reader
fed_reads_so s comes g is = by s.closed is
  where
    by : (closed : Bool) → IsFedSessionIf closed s comes g → dialect_of g.session.reader ≡ dialect_of s.reader
    by true e = ap (λ (x : SessionStep). dialect_of x.session.reader) e
    by false e =
        let s' : Session = record s { reader = e.1; waiting = s.waiting ++ e.0 } in
        ap (λ (x : SessionStep). dialect_of x.session.reader) e.3
        ∙ (ap dialect_of (where_reads s' [] s'.outstanding s'.closed) ∙ reads_same s.reader e.1 comes e.0 e.2)

pub replied_reads_so : (s : Session) (turn : ℕ) (reply : replies.Reply) → dialect_of (session_answered s turn reply).session.reader ≡ dialect_of s.reader
replied_reads_so s turn reply = by_command s.command
  where
    by : (o : Option Awaited) → dialect_of (answered_to_awaited s turn reply o).session.reader ≡ dialect_of s.reader
    by None = refl
    by (Some a) =
        let s' : Session = record s { outstanding = None } in
        cond_both (a.number == turn) (session_goes_on s' (shown_text reply a.show)) (session_stays s) (λ (g : SessionStep). dialect_of g.session.reader ≡ dialect_of s.reader)
        (λ _. ap dialect_of (where_reads s' (shown_text reply a.show) s'.outstanding s'.closed))
        (λ _. refl)

    by_command : (o : Option Command) → dialect_of (answered_if_taken s turn reply o).session.reader ≡ dialect_of s.reader
    by_command None = by s.outstanding
    by_command (Some command) = refl
