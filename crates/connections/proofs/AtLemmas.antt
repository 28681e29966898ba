-- What calls on the table do, next to what always holds.
use Rattle.std.proofs.Common.{◌≡◌, ⊎_elim, ℕ, zero, suc, Bool, true, false, List, [], ◌∷◌, ◌++◌, Option, Some, None, refl, sym, ap, ◌∙◌, subst, slice_get, slice_set}
use Rattle.std.specs.Prelude.{Result, Ok, Err, ◌==◌, not, if◌then◌else◌}
use Rattle.std.proofs.lemmas.Bool.{eq-eqb, eqb-true}
use Rattle.std.proofs.lemmas.List.Elements.{Contains-append_left}
use Rattle.base.specs.declared.fault.Fault.{Fault}
use Rattle.proto.specs.declared.command.Command.{Command}
use Rattle.proto.specs.declared.reply.Reply as replies
use Rattle.session.specs.Session.{SessionStep}
use Rattle.session.specs.declared.session.Ready.{Ready}
use Rattle.grammar.specs.declared.reader.Dialect.{Dialect}
use Rattle.grammar.specs.Reads.{with_mark}
use Rattle.connections.specs.declared.connections.CommandNumber.{CommandNumber}
use Rattle.connections.specs.declared.slots.ConnectionId.{ConnectionId}
use Rattle.loop_messages.specs.declared.message.Said.{Said}
use Rattle.connections.specs.Connection.{ConnectionView, IsTaken}
use Rattle.connections.specs.Slots.{is_of_connection, comes_to, connection_at, slot_in, is_here, FeedsHere, FeedsIn, FeedsAt, AnswersHere, AnswersIn, AnswersAt, TakesSlot, TakesWhere, TakesIn, TakesAt, left_slot, left_in, left_at, HasSameOthers, IsGrown}
use Rattle.memcached_spec.specs.Asked.{HasText}
use Rattle.connections.specs.Connections.{ConnectionsView, AreBefore, AreReplied, IsConnections}
use Rattle.connections.proofs.SlotLemmas.{set_slot, other_slot, slot_there, here_is}
use Rattle.connections.proofs.KeepLemmas.{left_keeps, failed_keeps, told_keeps, fed_keeps, replied_keeps}
use Rattle.connections.proofs.TakeLemmas.{taken_keeps, before, in_turn, has_text}

-- the connection in a slot, if it is the one of the number
pub found : (v : ConnectionsView) (at : ConnectionId) → is_here at.number v.table at.key ≡ true → (c : ConnectionView) × (slot_in v.table at.key ≡ Some c) × (c.number ≡ at.number)
found v at here = here_is at.number (slot_in v.table at.key) here

module _ {X : Type 0} where
  pub set_same : (xs : List X) (k : ℕ) (x : X) → slice_get xs k ≡ Some x → slice_set xs k x ≡ xs
  set_same [] k x at = absurd (cc at)
  set_same (y ∷ xs) zero x at = let e : x ≡ y = (let s : ◌≡◌ {A = Option X} (Some y) (Some x) = at in sym (cc s)) in ap (λ (z : X). z ∷ xs) e
  set_same (y ∷ xs) (suc k) x at = ap (λ (zs : List X). y ∷ zs) (set_same xs k x at)

-- ---- it leaves

pub left_at_keeps : (v : ConnectionsView) (at : ConnectionId) → IsConnections v → IsConnections (record v { table = left_at at v.table })
left_at_keeps v at ok = by (slice_get v.table at.key) refl
  where
    by_slot : (p : Option ConnectionView) (b : Bool) → slice_get v.table at.key ≡ Some p → is_of_connection at.number p ≡ b → IsConnections (record v { table = slice_set v.table at.key (if b then None else p) })
    by_slot p true e is =
        let c = here_is at.number p is in
        left_keeps v ok at.key c.0 (ap connection_at e ∙ c.1)
    by_slot p false e is = subst (λ (table : List (Option ConnectionView)). IsConnections (record v { table = table })) (sym (set_same v.table at.key p e)) ok

    by : (o : Option (Option ConnectionView)) → slice_get v.table at.key ≡ o → IsConnections (record v { table = left_in at v.table o })
    by None e = ok
    by (Some p) e = by_slot p (is_of_connection at.number p) e refl

-- then it is not here
pub left_gone : (at : ConnectionId) (table : List (Option ConnectionView)) → is_here at.number (left_at at table) at.key ≡ false
left_gone at table = by (slice_get table at.key) refl
  where
    by_slot : (p : Option ConnectionView) (b : Bool) → slice_get table at.key ≡ Some p → is_of_connection at.number p ≡ b → is_here at.number (slice_set table at.key (if b then None else p)) at.key ≡ false
    by_slot p true e is = ap (is_of_connection at.number) (set_slot table at.key None p e)
    by_slot p false e is = ap (is_of_connection at.number) (set_slot table at.key p p e) ∙ is

    by : (o : Option (Option ConnectionView)) → slice_get table at.key ≡ o → is_here at.number (left_in at table o) at.key ≡ false
    by None e = ap (λ (o : Option (Option ConnectionView)). is_of_connection at.number (connection_at o)) e
    by (Some p) e = by_slot p (is_of_connection at.number p) e refl

pub left_others : (at : ConnectionId) (table : List (Option ConnectionView)) → HasSameOthers at.key table (left_at at table)
left_others at table = by (slice_get table at.key)
  where
    by : (o : Option (Option ConnectionView)) → HasSameOthers at.key table (left_in at table o)
    by None = λ other differs. refl
    by (Some p) = λ other differs. other_slot table at.key (left_slot at.number p) other differs

-- if it is here its slot is empty then
pub left_none : (v : ConnectionsView) (at : ConnectionId) (c : ConnectionView) → slot_in v.table at.key ≡ Some c → c.number ≡ at.number → left_at at v.table ≡ slice_set v.table at.key None
left_none v at c e same =
    let there = slot_there v.table at.key c e in
    ap (left_in at v.table) there ∙ rw (eq-eqb c.number at.number same) refl

pub told_at_keeps : (v : ConnectionsView) (at : ConnectionId) (table : List (Option ConnectionView)) (given : List (ℕ × List ℕ)) → IsConnections v → is_here at.number v.table at.key ≡ true → table ≡ left_at at v.table → given ≡ v.given ++ (at.number, []) ∷ []
    → IsConnections (record v { table = table; given = given })
told_at_keeps v at table given ok here left is =
    let c = found v at here in
    let eq : table ≡ slice_set v.table at.key None = left ∙ left_none v at c.0 c.1 c.2 in
    subst (λ (z : List (Option ConnectionView) × List (ℕ × List ℕ)). IsConnections (record v { table = z.0; given = z.1 })) (λ i. (sym eq i, (ap (λ (n : ℕ). v.given ++ (n, []) ∷ []) c.2 ∙ sym is) i))
    (told_keeps v ok at.key c.0 c.1 v.replied (λ h q r w. w))

-- ---- it reads

pub fed_parts : (v : ConnectionsView) (at : ConnectionId) (piece : List ℕ) (table : List (Option ConnectionView)) (result : Result Said Fault) (c : ConnectionView) → slot_in v.table at.key ≡ Some c → FeedsAt at piece v.table table result
    → (p : Option ConnectionView) × FeedsHere at piece c p result × (table ≡ slice_set v.table at.key p)
fed_parts v at piece table result c e f = subst (λ (o : Option (Option ConnectionView)). FeedsIn at piece v.table table result o) (slot_there v.table at.key c e) f

pub if_some : (b : Bool) (now d : ConnectionView) → (if b then Some now else None) ≡ Some d → d ≡ now
if_some true now d e = let s : ◌≡◌ {A = Option ConnectionView} (Some now) (Some d) = e in sym (cc s)
if_some false now d e = let s : ◌≡◌ {A = Option ConnectionView} None (Some d) = e in absurd (cc s)

-- what comes with a piece to who is here
pub comes_so : (v : ConnectionsView) → IsConnections v → (at : ConnectionId) (full : Bool) (piece : List ℕ) → is_here at.number v.table at.key ≡ true → comes_to (slot_in v.table at.key) full piece ≡ with_mark v.dialect full piece
comes_so v ok at full piece here =
    let c = found v at here in
    ap (λ (slot : Option ConnectionView). comes_to slot full piece) c.1 ∙ ap (λ (d : Dialect). with_mark d full piece) (ok.here at.key c.0 c.1).reads

pub fed_at_keeps : (v : ConnectionsView) (at : ConnectionId) (piece : List ℕ) (table : List (Option ConnectionView)) (said : Said) (heard given : List (ℕ × List ℕ)) → IsConnections v → is_here at.number v.table at.key ≡ true
    → FeedsAt at piece v.table table (Ok said) → heard ≡ v.heard ++ (at.number, piece) ∷ [] → given ≡ v.given ++ (at.number, said.bytes.items) ∷ [] → IsConnections (record v { table = table; heard = heard; given = given })
fed_at_keeps v at piece table said heard given ok here f hears gives =
    let c = found v at here in
    let parts = fed_parts v at piece table (Ok said) c.0 c.1 f in
    let p = parts.0 in
    let now = parts.1.0 in
    let step = parts.1.1 in
    let g : SessionStep = step.0 in
    let keeps = fed_keeps v ok at.key c.0 c.1 piece g p step.1 (λ d e. if_some (not said.closes) now d (sym parts.1.3 ∙ e) ∙ step.2) in
    subst (λ (z : List (Option ConnectionView) × List (ℕ × List ℕ) × List (ℕ × List ℕ)). IsConnections (record v { table = z.0; heard = z.1; given = z.2 }))
    (λ i. (sym parts.2 i, (ap (λ (n : ℕ). v.heard ++ (n, piece) ∷ []) c.2 ∙ sym hears) i, ((λ j. v.given ++ (c.2 j, sym step.3 j) ∷ []) ∙ sym gives) i)) keeps

pub failed_at_keeps : (v : ConnectionsView) (at : ConnectionId) (piece : List ℕ) (table : List (Option ConnectionView)) (fault : Fault) (heard : List (ℕ × List ℕ)) → IsConnections v → is_here at.number v.table at.key ≡ true
    → FeedsAt at piece v.table table (Err fault) → heard ≡ v.heard ++ (at.number, piece) ∷ [] → IsConnections (record v { table = table; heard = heard })
failed_at_keeps v at piece table fault heard ok here f hears =
    let c = found v at here in
    let parts = fed_parts v at piece table (Err fault) c.0 c.1 f in
    let eq : table ≡ slice_set v.table at.key None = parts.2 ∙ ap (slice_set v.table at.key) parts.1.0 in
    subst (λ (z : List (Option ConnectionView) × List (ℕ × List ℕ)). IsConnections (record v { table = z.0; heard = z.1 })) (λ i. (sym eq i, (ap (λ (n : ℕ). v.heard ++ (n, piece) ∷ []) c.2 ∙ sym hears) i))
    (failed_keeps v ok at.key c.0 c.1 piece)

pub failed_comes : (v : ConnectionsView) (at : ConnectionId) (full : Bool) (piece : List ℕ) (table : List (Option ConnectionView)) (fault : Fault) (heard : List (ℕ × List ℕ)) → IsConnections v → is_here at.number v.table at.key ≡ true
    → FeedsAt at (comes_to (slot_in v.table at.key) full piece) v.table table (Err fault) → heard ≡ v.heard ++ (at.number, with_mark v.dialect full piece) ∷ [] → IsConnections (record v { table = table; heard = heard })
failed_comes v at full piece table fault heard ok here f is =
    failed_at_keeps v at (with_mark v.dialect full piece) table fault heard ok here (subst (λ (x : List ℕ). FeedsAt at x v.table table (Err fault)) (comes_so v ok at full piece here) f) is

-- a connection that failed is not there
pub failed_leaves : (v : ConnectionsView) (at : ConnectionId) (piece : List ℕ) (table : List (Option ConnectionView)) (fault : Fault) → is_here at.number v.table at.key ≡ true → FeedsAt at piece v.table table (Err fault) → slot_in table at.key ≡ None
failed_leaves v at piece table fault here f =
    let c = found v at here in
    let parts = fed_parts v at piece table (Err fault) c.0 c.1 f in
    ap (λ (t : List (Option ConnectionView)). slot_in t at.key) parts.2 ∙ (set_slot v.table at.key parts.0 (Some c.0) (slot_there v.table at.key c.0 c.1) ∙ parts.1.0)

-- nor is one that closes
pub closed_leaves : (v : ConnectionsView) (at : ConnectionId) (piece : List ℕ) (table : List (Option ConnectionView)) (said : Said) → is_here at.number v.table at.key ≡ true → FeedsAt at piece v.table table (Ok said) → said.closes ≡ true → slot_in table at.key ≡ None
closed_leaves v at piece table said here f closes =
    let c = found v at here in
    let parts = fed_parts v at piece table (Ok said) c.0 c.1 f in
    ap (λ (t : List (Option ConnectionView)). slot_in t at.key) parts.2 ∙ (set_slot v.table at.key parts.0 (Some c.0) (slot_there v.table at.key c.0 c.1) ∙ (parts.1.3 ∙ ap (λ (b : Bool). if not b then Some parts.1.0 else None) closes))

-- one slot is set
set_others : (old table : List (Option ConnectionView)) (key : ℕ) (p : Option ConnectionView) → table ≡ slice_set old key p → HasSameOthers key old table
set_others old table key p is other differs = ap (λ (t : List (Option ConnectionView)). slot_in t other) is ∙ other_slot old key p other differs

-- after slots were added
pub came_others : (old grown table : List (Option ConnectionView)) (key : ℕ) (p : Option ConnectionView) → IsGrown old grown → table ≡ slice_set grown key p → HasSameOthers key old table
came_others old grown table key p more is other differs = set_others grown table key p is other differs ∙ more other

pub fed_others : (at : ConnectionId) (piece : List ℕ) (old table : List (Option ConnectionView)) (result : Result Said Fault) → FeedsAt at piece old table result → HasSameOthers at.key old table
fed_others at piece old table result f = by (slice_get old at.key) f
  where
    by : (o : Option (Option ConnectionView)) → FeedsIn at piece old table result o → HasSameOthers at.key old table
    by None f = λ other differs. ap (λ (t : List (Option ConnectionView)). slot_in t other) f.0
    by (Some p) f = set_others old table at.key f.0 f.2

pub fed_names : (v : ConnectionsView) (at : ConnectionId) (piece : List ℕ) (table : List (Option ConnectionView)) (said : Said) → is_here at.number v.table at.key ≡ true → FeedsAt at piece v.table table (Ok said) → (said.key ≡ at.key) × (said.number ≡ at.number)
fed_names v at piece table said here f =
    let c = found v at here in
    let parts = fed_parts v at piece table (Ok said) c.0 c.1 f in
    (parts.1.4.key, parts.1.4.number)

-- ---- it takes a reply

pub answer_parts : (v : ConnectionsView) (at : ConnectionId) (turn : ℕ) (reply : replies.Reply) (table : List (Option ConnectionView)) (result : Option Said) (c : ConnectionView) → slot_in v.table at.key ≡ Some c → AnswersAt at turn reply v.table table result
    → (p : Option ConnectionView) × AnswersHere at turn reply c p result × (table ≡ slice_set v.table at.key p)
answer_parts v at turn reply table result c e f = subst (λ (o : Option (Option ConnectionView)). AnswersIn at turn reply v.table table result o) (slot_there v.table at.key c e) f

-- one that is here is given something
pub answers_something : (v : ConnectionsView) (at : ConnectionId) (turn : ℕ) (reply : replies.Reply) (table : List (Option ConnectionView)) → is_here at.number v.table at.key ≡ true → AnswersAt at turn reply v.table table None → ⊥
answers_something v at turn reply table here f =
    let c = found v at here in
    (answer_parts v at turn reply table None c.0 c.1 f).1

pub answered_at_keeps : (v : ConnectionsView) (at : ConnectionId) (turn : ℕ) (reply : replies.Reply) (table : List (Option ConnectionView)) (said : Said) (given : List (ℕ × List ℕ)) (replied : List (CommandNumber × replies.Reply)) → IsConnections v → is_here at.number v.table at.key ≡ true
    → AnswersAt at turn reply v.table table (Some said) → given ≡ v.given ++ (at.number, said.bytes.items) ∷ [] → replied ≡ v.replied ++ (record { connection = at.number; turn = turn }, reply) ∷ []
    → IsConnections (record v { table = table; given = given; replied = replied })
answered_at_keeps v at turn reply table said given replied ok here f gives comes =
    let c = found v at here in
    let parts = answer_parts v at turn reply table (Some said) c.0 c.1 f in
    let p = parts.0 in
    let now = parts.1.0 in
    let R = λ (z : List (Option ConnectionView) × List (ℕ × List ℕ) × List (CommandNumber × replies.Reply)). IsConnections (record v { table = z.0; given = z.1; replied = z.2 }) in
    let entry = λ (n : ℕ). v.replied ++ (record { connection = n; turn = turn }, reply) ∷ [] in
    ⊎_elim
    (λ step.
    let keeps = replied_keeps v ok at.key c.0 c.1 turn reply step.0.0 p step.0.1 (λ d e. if_some (not said.closes) now d (sym parts.1.3 ∙ e) ∙ step.0.2) in
    subst R (λ i. (sym parts.2 i, ((λ j. v.given ++ (c.2 j, sym step.0.3 j) ∷ []) ∙ sym gives) i, (ap entry c.2 ∙ sym comes) i)) keeps)
    (λ last.
    let eq : table ≡ slice_set v.table at.key None = parts.2 ∙ ap (slice_set v.table at.key) (parts.1.3 ∙ ap (λ (b : Bool). if not b then Some now else None) last.closes) in
    let keeps = told_keeps v ok at.key c.0 c.1 (entry c.0.number) (λ h q r w. Contains-append_left v.replied ((record { connection = c.0.number; turn = turn }, reply) ∷ []) (record { connection = h; turn = q }, r) w) in
    subst R (λ i. (sym eq i, ((λ j. v.given ++ (c.2 j, sym last.nothing j) ∷ []) ∙ sym gives) i, (ap entry c.2 ∙ sym comes) i)) keeps)
    parts.1.1

pub answer_names : (v : ConnectionsView) (at : ConnectionId) (turn : ℕ) (reply : replies.Reply) (table : List (Option ConnectionView)) (said : Said) → is_here at.number v.table at.key ≡ true → AnswersAt at turn reply v.table table (Some said) → (said.key ≡ at.key) × (said.number ≡ at.number)
answer_names v at turn reply table said here f =
    let c = found v at here in
    let parts = answer_parts v at turn reply table (Some said) c.0 c.1 f in
    ⊎_elim (λ step. (step.1.key, step.1.number)) (λ last. (last.key, last.number)) parts.1.1

pub answer_leaves : (v : ConnectionsView) (at : ConnectionId) (turn : ℕ) (reply : replies.Reply) (table : List (Option ConnectionView)) (said : Said) → is_here at.number v.table at.key ≡ true → AnswersAt at turn reply v.table table (Some said) → said.closes ≡ true → slot_in table at.key ≡ None
answer_leaves v at turn reply table said here f closes =
    let c = found v at here in
    let parts = answer_parts v at turn reply table (Some said) c.0 c.1 f in
    ap (λ (t : List (Option ConnectionView)). slot_in t at.key) parts.2 ∙ (set_slot v.table at.key parts.0 (Some c.0) (slot_there v.table at.key c.0 c.1) ∙ (parts.1.3 ∙ ap (λ (b : Bool). if not b then Some parts.1.0 else None) closes))

pub answered_others : (at : ConnectionId) (turn : ℕ) (reply : replies.Reply) (old table : List (Option ConnectionView)) (result : Option Said) → AnswersAt at turn reply old table result → HasSameOthers at.key old table
answered_others at turn reply old table result f = by (slice_get old at.key) f
  where
    by : (o : Option (Option ConnectionView)) → AnswersIn at turn reply old table result o → HasSameOthers at.key old table
    by None f = λ other differs. ap (λ (t : List (Option ConnectionView)). slot_in t other) f.0
    by (Some p) f = set_others old table at.key f.0 f.2

-- ---- its command is taken

pub taken_others : (at : ConnectionId) (old table : List (Option ConnectionView)) (result : Option Ready) → TakesAt at old table result → HasSameOthers at.key old table
taken_others at old table result t = by (slice_get old at.key) t
  where
    by : (o : Option (Option ConnectionView)) → TakesIn at old table result o → HasSameOthers at.key old table
    by None t = λ other differs. ap (λ (t : List (Option ConnectionView)). slot_in t other) t.0
    by (Some p) t = set_others old table at.key t.0 t.2

pub takes_none : (at : ConnectionId) (old table : List (Option ConnectionView)) → TakesAt at old table None → table ≡ old
takes_none at old table t = by (slice_get old at.key) refl t
  where
    same : (c : ConnectionView) (b : Bool) (now : Option ConnectionView) → TakesWhere b c now None → now ≡ Some c
    same c true now t = t.0
    same c false now t = t.0

    by_slot : (p now : Option ConnectionView) → TakesSlot at.number p now None → now ≡ p
    by_slot None now t = t.0
    by_slot (Some c) now t = same c (c.number == at.number) now t

    by : (o : Option (Option ConnectionView)) → slice_get old at.key ≡ o → TakesIn at old table None o → table ≡ old
    by None e t = t.0
    by (Some p) e t = t.2 ∙ (ap (slice_set old at.key) (by_slot p t.0 t.1) ∙ set_same old at.key p e)

pub record TookAt (at : ConnectionId) (old table : List (Option ConnectionView)) (ready : Ready) : Type 0 where
  pub was : ConnectionView
  pub next : ConnectionView
  pub at_key : slot_in old at.key ≡ Some was
  pub number : was.number ≡ at.number
  pub is : IsTaken was ready next
  pub set : table ≡ slice_set old at.key (Some next)

pub takes_some : (at : ConnectionId) (old table : List (Option ConnectionView)) (ready : Ready) → TakesAt at old table (Some ready) → TookAt at old table ready
takes_some at old table ready t = by (slice_get old at.key) refl t
  where
    by_number : (c : ConnectionView) (b : Bool) (now : Option ConnectionView) → (c.number == at.number) ≡ b → slice_get old at.key ≡ Some (Some c) → table ≡ slice_set old at.key now → TakesWhere b c now (Some ready) → TookAt at old table ready
    by_number c true now e there set t = record { was = c; next = t.0; at_key = ap connection_at there; number = eqb-true c.number at.number e; is = t.1; set = set ∙ ap (slice_set old at.key) t.2 }
    by_number c false now e there set t = let clash : ◌≡◌ {A = Option Ready} (Some ready) None = t.1 in absurd (cc clash)

    by_slot : (p now : Option ConnectionView) → slice_get old at.key ≡ Some p → table ≡ slice_set old at.key now → TakesSlot at.number p now (Some ready) → TookAt at old table ready
    by_slot None now there set t = let clash : ◌≡◌ {A = Option Ready} (Some ready) None = t.1 in absurd (cc clash)
    by_slot (Some c) now there set t = by_number c (c.number == at.number) now refl there set t

    by : (o : Option (Option ConnectionView)) → slice_get old at.key ≡ o → TakesIn at old table (Some ready) o → TookAt at old table ready
    by None e t = let clash : ◌≡◌ {A = Option Ready} (Some ready) None = t.1 in absurd (cc clash)
    by (Some p) e t = by_slot p t.0 e t.2 t.1

pub took_keeps : (v : ConnectionsView) (at : ConnectionId) (table : List (Option ConnectionView)) (ready : Ready) (taken : List (CommandNumber × Command)) → IsConnections v → TakesAt at v.table table (Some ready) → taken ≡ v.taken ++ (record { connection = at.number; turn = ready.turn }, ready.command) ∷ []
    → IsConnections (record v { table = table; taken = taken })
took_keeps v at table ready taken ok t is =
    let k = takes_some at v.table table ready t in
    subst (λ (z : List (Option ConnectionView) × List (CommandNumber × Command)). IsConnections (record v { table = z.0; taken = z.1 }))
    (λ i. (sym k.set i, (ap (λ (n : ℕ). v.taken ++ (record { connection = n; turn = ready.turn }, ready.command) ∷ []) k.number ∙ sym is) i))
    (taken_keeps v ok at.key k.was k.at_key ready k.next k.is)

pub took_before : (v : ConnectionsView) (at : ConnectionId) (table : List (Option ConnectionView)) (ready : Ready) → IsConnections v → TakesAt at v.table table (Some ready) → AreBefore v.taken at.number ready.turn
took_before v at table ready ok t =
    let k = takes_some at v.table table ready t in
    subst (λ (n : ℕ). AreBefore v.taken n ready.turn) k.number (before v ok at.key k.was k.at_key ready k.next k.is)

pub took_in_turn : (v : ConnectionsView) (at : ConnectionId) (table : List (Option ConnectionView)) (ready : Ready) → IsConnections v → TakesAt at v.table table (Some ready) → AreReplied v.replied at.number ready.turn
took_in_turn v at table ready ok t =
    let k = takes_some at v.table table ready t in
    subst (λ (n : ℕ). AreReplied v.replied n ready.turn) k.number (in_turn v ok at.key k.was k.at_key ready k.next k.is)

pub took_text : (v : ConnectionsView) (at : ConnectionId) (table : List (Option ConnectionView)) (ready : Ready) → IsConnections v → TakesAt at v.table table (Some ready) → HasText ready.command ready.quiet
took_text v at table ready ok t =
    let k = takes_some at v.table table ready t in
    has_text v ok at.key k.was k.at_key ready k.next k.is
