-- What becomes of a connection's outstanding command in each call.
use Rattle.std.proofs.Common.{◌≡◌, ◌⊎◌, inl, inr, ⊎_elim, ℕ, ◌+◌, ◌-◌, ◌^◌, ◌≤◌, ◌<◌, Bool, true, false, List, length, Option, Some, None, refl, sym, ap, ◌∙◌, subst, arith, slice_get, slice_set}
use Rattle.std.specs.Prelude.{◌≢◌, ◌==◌, min, is_some, not, Result, Ok, Err, if◌then◌else◌}
use Rattle.std.proofs.lemmas.Bool.{cond_both, eq-eqb, eqb-true}
use Rattle.std.proofs.Math.Nat.{le-min}
use Rattle.base.specs.declared.fault.Fault.{Fault}
use Rattle.proto.specs.declared.command.Command.{Command}
use Rattle.proto.specs.declared.reply.Reply as replies
use Rattle.dialect.specs.Text.{shown_text}
use Rattle.session.specs.declared.session.Awaited.{Awaited}
use Rattle.session.specs.declared.session.Session.{Session}
use Rattle.session.specs.Session.{SessionStep, session_stays, session_goes_on, is_outstanding_as, session_answered, answered_if_taken, answered_to_awaited}
use Rattle.session.proofs.TakenLemmas.{none_pending}
use Rattle.session.specs.declared.session.Ready.{Ready}
use Rattle.loop_messages.specs.declared.message.TheConstants.{MOST_UNWRITTEN}
use Rattle.connections.specs.declared.slots.ConnectionId.{ConnectionId}
use Rattle.loop_messages.specs.declared.message.Said.{Said}
use Rattle.connections.specs.Connection.{ConnectionView, IsFedTo, ConnectionAnswers, after_given}
use Rattle.connections.specs.Slots.{slot_in, is_of_connection, connection_at, is_here, FeedsAt, AnswersAt, TakesWhere, TakesSlot, TakesIn, TakesAt, left_in, left_at, after_written, written_slot, written_in, written_at, HasSameOthers}
use Rattle.connections.specs.Connections.{ConnectionsView, IsHere, IsConnections}
use Rattle.connections.specs.Owed.{HasSameOutstanding, HasCommand, ReadsFurther, AnswersOn, BecomesAt, IsTakenAt, HasNoneToTake}
use Rattle.connections.proofs.SlotLemmas.{set_slot, other_slot, slot_there, same_or_not}
use Rattle.connections.proofs.StepLemmas.{Asks, where_asks, fed_asks}
use Rattle.connections.proofs.AtLemmas.{found, set_same, left_none, fed_parts, answer_parts, if_some, takes_some}

-- ---- one connection

-- what waits to be written grows
behind : (a b : ℕ) → MOST_UNWRITTEN ≤ a → MOST_UNWRITTEN ≤ min (a + b) (2 ^ 64 - 1)
behind a b le = le-min (omega (arith, le)) (omega arith)

-- a step that asks nothing, or the next command
goes_on : (c : ConnectionView) (g : SessionStep) → Asks c.session g → HasSameOutstanding c (after_given c g) ⊎ HasCommand (after_given c g)
goes_on c g (inl h) = inl (h.2, h.0)
goes_on c g (inr h) = inr (ap (λ (o : Option Command). is_some o) h.1)

pub fed_reads : (c d : ConnectionView) (piece bytes : List ℕ) → IsFedTo c piece d bytes → ReadsFurther c d
fed_reads c d piece bytes f =
    let g : SessionStep = f.0 in
    subst (ReadsFurther c) (sym f.2) (record {
      number = refl;
      behind = behind c.unwritten (length g.bytes);
      owes = goes_on c g (fed_asks c.session piece g f.1);
    })

-- what a reply leads to
abbrev Replies : ConnectionView → ℕ → SessionStep → Type 0
Replies c turn g = (HasSameOutstanding c (after_given c g) × (HasCommand c ⊎ (is_outstanding_as c.session.outstanding turn ≡ false))) ⊎ ((after_given c g).session.outstanding ≡ None) ⊎ HasCommand (after_given c g)

still : (c : ConnectionView) (turn : ℕ) → HasCommand c ⊎ (is_outstanding_as c.session.outstanding turn ≡ false) → Replies c turn (session_stays c.session)
still c turn why = inl ((refl, refl), why)

moves : (c : ConnectionView) (turn : ℕ) (s : Session) (g : SessionStep) → s.outstanding ≡ None → Asks s g → Replies c turn g
moves c turn s g none (inl h) = inr (inl (h.2 ∙ none))
moves c turn s g none (inr h) = inr (inr (ap (λ (o : Option Command). is_some o) h.1))

replies_on : (c : ConnectionView) (turn : ℕ) (reply : replies.Reply) → Replies c turn (session_answered c.session turn reply)
replies_on c turn reply = by_command c.session.command refl
  where
    by : (o : Option Awaited) → c.session.outstanding ≡ o → Replies c turn (answered_to_awaited c.session turn reply o)
    by None e = still c turn (inr (ap (λ (x : Option Awaited). is_outstanding_as x turn) e))
    by (Some a) e =
        let s : Session = record c.session { outstanding = None } in
        cond_both (a.number == turn) (session_goes_on s (shown_text reply a.show)) (session_stays c.session) (Replies c turn)
        (λ _. moves c turn s (session_goes_on s (shown_text reply a.show)) refl (where_asks s (shown_text reply a.show) s.outstanding s.closed))
        (λ differs. still c turn (inr (ap (λ (x : Option Awaited). is_outstanding_as x turn) e ∙ differs)))

    by_command : (o : Option Command) → c.session.command ≡ o → Replies c turn (answered_if_taken c.session turn reply o)
    by_command None e = by c.session.outstanding refl
    by_command (Some command) e = still c turn (inl (ap (λ (x : Option Command). is_some x) e))

pub answers_on : (c d : ConnectionView) (turn : ℕ) (reply : replies.Reply) (bytes : List ℕ) → ConnectionAnswers c turn reply d bytes → AnswersOn turn c d
answers_on c d turn reply bytes a =
    let g : SessionStep = a.0 in
    subst (AnswersOn turn c) (sym a.2) (record {
      number = refl;
      behind = behind c.unwritten (length g.bytes);
      owes = subst (Replies c turn) (sym a.1) (replies_on c turn reply);
    })

-- ---- one slot of the table

pub reads_at : (v : ConnectionsView) (at : ConnectionId) (piece : List ℕ) (table : List (Option ConnectionView)) (said : Said) → is_here at.number v.table at.key ≡ true → FeedsAt at piece v.table table (Ok said) → BecomesAt ReadsFurther at v.table table
reads_at v at piece table said here f d e =
    let c = found v at here in
    let parts = fed_parts v at piece table (Ok said) c.0 c.1 f in
    let there : slot_in table at.key ≡ parts.0 = ap (λ (t : List (Option ConnectionView)). slot_in t at.key) parts.2 ∙ set_slot v.table at.key parts.0 (Some c.0) (slot_there v.table at.key c.0 c.1) in
    let is : d ≡ parts.1.0 = if_some (not said.closes) parts.1.0 d (sym parts.1.3 ∙ (sym there ∙ e)) in
    (c.0, c.1, c.2, subst (ReadsFurther c.0) (sym is) (fed_reads c.0 parts.1.0 piece said.bytes.items parts.1.1))

pub answers_at : (v : ConnectionsView) (at : ConnectionId) (turn : ℕ) (reply : replies.Reply) (table : List (Option ConnectionView)) (said : Said) → is_here at.number v.table at.key ≡ true → AnswersAt at turn reply v.table table (Some said) → BecomesAt (AnswersOn turn) at v.table table
answers_at v at turn reply table said here f d e =
    let c = found v at here in
    let parts = answer_parts v at turn reply table (Some said) c.0 c.1 f in
    let there : slot_in table at.key ≡ parts.0 = ap (λ (t : List (Option ConnectionView)). slot_in t at.key) parts.2 ∙ set_slot v.table at.key parts.0 (Some c.0) (slot_there v.table at.key c.0 c.1) in
    let kept : (if not said.closes then Some parts.1.0 else None) ≡ Some d = sym parts.1.3 ∙ (sym there ∙ e) in
    ⊎_elim
    (λ step. let is : d ≡ parts.1.0 = if_some (not said.closes) parts.1.0 d kept in
    (c.0, c.1, c.2, subst (AnswersOn turn c.0) (sym is) (answers_on c.0 parts.1.0 turn reply said.bytes.items step.0)))
    (λ last. let none : ◌≡◌ {A = Option ConnectionView} None (Some d) = sym (ap (λ (b : Bool). if not b then Some parts.1.0 else None) last.closes) ∙ kept in absurd (cc none))
    parts.1.1

pub took_at : (at : ConnectionId) (old table : List (Option ConnectionView)) (ready : Ready) → TakesAt at old table (Some ready) → IsTakenAt at old table ready
took_at at old table ready t =
    let k = takes_some at old table ready t in
    record {
      was = k.was;
      next = k.next;
      at_key = k.at_key;
      number = k.number;
      is = k.is;
      there = ap (λ (x : List (Option ConnectionView)). slot_in x at.key) k.set ∙ set_slot old at.key (Some k.next) (Some k.was) (slot_there old at.key k.was k.at_key);
    }

pub none_to_take : (v : ConnectionsView) (at : ConnectionId) (table : List (Option ConnectionView)) → IsConnections v → TakesAt at v.table table None → HasNoneToTake at v.table
none_to_take v at table ok t c e number =
    let p = subst (λ (o : Option (Option ConnectionView)). TakesIn at v.table table None o) (slot_there v.table at.key c e) t in
    let talks = (ok.here at.key c e).talks in
    ⊎_elim
    (λ (taken : c.session.command ≡ None). inl taken)
    (λ (rest : (c.session.outstanding ≡ None) ⊎ (MOST_UNWRITTEN ≤ c.unwritten)). ⊎_elim
    (λ (none : c.session.outstanding ≡ None). inl (none_pending c.session.outstanding c.session.command talks.pending talks.is_pending none).0)
    (λ (much : MOST_UNWRITTEN ≤ c.unwritten). inr much)
    rest)
    (subst (λ (b : Bool). TakesWhere b c p.0 None) (eq-eqb c.number at.number number) p.1).1

-- ---- it leaves

-- if it is not here nothing changes
pub left_same : (at : ConnectionId) (table : List (Option ConnectionView)) → is_here at.number table at.key ≡ false → left_at at table ≡ table
left_same at table not_here = by (slice_get table at.key) refl
  where
    by : (o : Option (Option ConnectionView)) → slice_get table at.key ≡ o → left_in at table o ≡ table
    by None e = refl
    by (Some p) e =
        let b : is_of_connection at.number p ≡ false = sym (ap (λ (o : Option (Option ConnectionView)). is_of_connection at.number (connection_at o)) e) ∙ not_here in
        ap (λ (x : Bool). slice_set table at.key (if x then None else p)) b ∙ set_same table at.key p e

pub failed_table : (v : ConnectionsView) (at : ConnectionId) (piece : List ℕ) (table : List (Option ConnectionView)) (fault : Fault) → is_here at.number v.table at.key ≡ true → FeedsAt at piece v.table table (Err fault) → table ≡ left_at at v.table
failed_table v at piece table fault here f =
    let c = found v at here in
    let parts = fed_parts v at piece table (Err fault) c.0 c.1 f in
    parts.2 ∙ (ap (slice_set v.table at.key) parts.1.0 ∙ sym (left_none v at c.0 c.1 c.2))

-- who is at its key then is another one, and was there
pub left_own : (at : ConnectionId) (table : List (Option ConnectionView)) (d : ConnectionView) → slot_in (left_at at table) at.key ≡ Some d → (d.number ≢ at.number) × (slot_in table at.key ≡ Some d)
left_own at table d = by (slice_get table at.key) refl
  where
    by_slot : (p : Option ConnectionView) (b : Bool) → slice_get table at.key ≡ Some p → is_of_connection at.number p ≡ b → slot_in (slice_set table at.key (if b then None else p)) at.key ≡ Some d → (d.number ≢ at.number) × (slot_in table at.key ≡ Some d)
    by_slot p true e is there = let none : ◌≡◌ {A = Option ConnectionView} None (Some d) = sym (set_slot table at.key None p e) ∙ there in absurd (cc none)
    by_slot p false e is there =
        let same : p ≡ Some d = sym (set_slot table at.key p p e) ∙ there in
        (λ number. let clash : true ≡ false = sym (eq-eqb d.number at.number number) ∙ (ap (is_of_connection at.number) (sym same) ∙ is) in absurd (cc clash), ap connection_at e ∙ same)

    by : (o : Option (Option ConnectionView)) → slice_get table at.key ≡ o → slot_in (left_in at table o) at.key ≡ Some d → (d.number ≢ at.number) × (slot_in table at.key ≡ Some d)
    by None e there = let none : ◌≡◌ {A = Option ConnectionView} None (Some d) = sym (ap connection_at e) ∙ there in absurd (cc none)
    by (Some p) e there = by_slot p (is_of_connection at.number p) e refl there

-- ---- bytes are written

-- who is there then was there, and less of it waits to be written
pub record WasWritten (at : ConnectionId) (count key : ℕ) (table : List (Option ConnectionView)) (d : ConnectionView) : Type 0 where
  pub was : ConnectionView
  pub there : slot_in table key ≡ Some was
  pub became : (d ≡ was) ⊎ ((d ≡ after_written count was) × (was.number ≡ at.number) × (key ≡ at.key))

pub written_back : (at : ConnectionId) (count key : ℕ) (table : List (Option ConnectionView)) (d : ConnectionView) → slot_in (written_at at count table) key ≡ Some d → WasWritten at count key table d
written_back at count key table d = by (slice_get table at.key) refl
  where
    by_number : (c : ConnectionView) (b : Bool) → key ≡ at.key → slot_in table key ≡ Some c → (c.number == at.number) ≡ b → (if b then after_written count c else c) ≡ d → WasWritten at count key table d
    by_number c true same e is became = record { was = c; there = e; became = inr (sym became, eqb-true c.number at.number is, same) }
    by_number c false same e is became = record { was = c; there = e; became = inl (sym became) }

    by_slot : (p : Option ConnectionView) → key ≡ at.key → slice_get table at.key ≡ Some p → written_slot at.number count p ≡ Some d → WasWritten at count key table d
    by_slot None same e there = let none : ◌≡◌ {A = Option ConnectionView} None (Some d) = there in absurd (cc none)
    by_slot (Some c) same e there =
        by_number c (c.number == at.number) same (ap (slot_in table) same ∙ ap connection_at e) refl (let s : ◌≡◌ {A = Option ConnectionView} (Some (if c.number == at.number then after_written count c else c)) (Some d) = there in cc s)

    by : (o : Option (Option ConnectionView)) → slice_get table at.key ≡ o → slot_in (written_in at count table o) key ≡ Some d → WasWritten at count key table d
    by None e there = record { was = d; there = there; became = inl refl }
    by (Some p) e there = ⊎_elim
        (λ (same : key ≡ at.key). by_slot p same e (sym (set_slot table at.key (written_slot at.number count p) p e) ∙ (sym (ap (slot_in (slice_set table at.key (written_slot at.number count p))) same) ∙ there)))
        (λ (differs : key ≢ at.key). record { was = d; there = sym (other_slot table at.key (written_slot at.number count p) key differs) ∙ there; became = inl refl })
        (same_or_not key at.key)

pub written_others : (at : ConnectionId) (count : ℕ) (table : List (Option ConnectionView)) → HasSameOthers at.key table (written_at at count table)
written_others at count table = by (slice_get table at.key)
  where
    by : (o : Option (Option ConnectionView)) → HasSameOthers at.key table (written_in at count table o)
    by None = λ other differs. refl
    by (Some p) = λ other differs. other_slot table at.key (written_slot at.number count p) other differs

written_here : (v : ConnectionsView) (table : List (Option ConnectionView)) (at : ConnectionId) (count key : ℕ) (d : ConnectionView) → IsConnections v → WasWritten at count key v.table d → IsHere (record v { table = table }) d
written_here v table at count key d ok w =
    let h = ok.here key w.was w.there in
    let same : IsHere (record v { table = table }) w.was = record { below = h.below; reads = h.reads; since = h.since; talks = h.talks; counted = h.counted } in
    let less : IsHere (record v { table = table }) (after_written count w.was) = record { below = h.below; reads = h.reads; since = h.since; talks = h.talks; counted = h.counted } in
    ⊎_elim (λ is. subst (IsHere (record v { table = table })) (sym is) same) (λ is. subst (IsHere (record v { table = table })) (sym is.0) less) w.became

number_of : (at : ConnectionId) (count key : ℕ) (table : List (Option ConnectionView)) (d : ConnectionView) (w : WasWritten at count key table d) → w.was.number ≡ d.number
number_of at count key table d w = ⊎_elim (λ is. sym (ap (λ (c : ConnectionView). c.number) is)) (λ is. sym (ap (λ (c : ConnectionView). c.number) is.0)) w.became

pub written_keeps : (v : ConnectionsView) (at : ConnectionId) (count : ℕ) → IsConnections v → IsConnections (record v { table = written_at at count v.table })
written_keeps v at count ok = record {
  here = λ key d e. written_here v (written_at at count v.table) at count key d ok (written_back at count key v.table d e);
  one_key = λ i j c d at_i at_j same.
      let a = written_back at count i v.table c at_i in
      let b = written_back at count j v.table d at_j in
      ok.one_key i j a.was b.was a.there b.there (number_of at count i v.table c a ∙ (same ∙ sym (number_of at count j v.table d b)));
  answered = ok.answered;
  fresh = ok.fresh;
  asked = ok.asked;
  below = ok.below;
  least = ok.least;
  none_before = ok.none_before;
  since = ok.since;
  once = ok.once;
}
