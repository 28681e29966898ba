-- What a connection is told is how it is then.
use Rattle.std.proofs.Common.{◌≡◌, ◌⊎◌, inl, inr, ⊎_elim, ℕ, Bool, true, false, List, [], Option, Some, None, refl, sym, ap, ◌∙◌}
use Rattle.std.specs.Prelude.{◌&&◌, is_some, not, Ok, if◌then◌else◌}
use Rattle.std.proofs.lemmas.Bool.{eq-eqb}
use Rattle.proto.specs.declared.reply.Reply as replies
use Rattle.connections.specs.declared.slots.ConnectionId.{ConnectionId}
use Rattle.loop_messages.specs.declared.message.Said.{Said}
use Rattle.connections.specs.Connection.{ConnectionView}
use Rattle.connections.specs.Slots.{is_of_connection, slot_in, is_here, FeedsAt, AnswersAt, left_at}
use Rattle.connections.specs.Connections.{ConnectionsView}
use Rattle.connections.specs.Told.{is_outstanding, is_outstanding_in, IsToldAt, IsToldOf, IsToldToLeave, IsFedAt, IsAnsweredAt}
use Rattle.connections.proofs.SlotLemmas.{set_slot, slot_there}
use Rattle.connections.proofs.AtLemmas.{found, left_gone, left_none, left_others, fed_parts, fed_others, fed_names, answer_parts, answered_others, answer_names}

abbrev Table : Type 0
Table = List (Option ConnectionView)

-- ---- one slot

-- it is here just if it is not told to close
stays_of : (at : ConnectionId) (table : Table) (c : ConnectionView) (said : Said) → IsToldOf at table c said → is_here at.number table at.key ≡ not said.closes
stays_of at table c said told = ap (is_of_connection at.number) told.there ∙ by said.closes
  where
    by : (b : Bool) → is_of_connection at.number (if not b then Some c else None) ≡ not b
    by true = refl
    by false = eq-eqb c.number at.number told.number

waits_of : (at : ConnectionId) (table : Table) (c : ConnectionView) (said : Said) → IsToldOf at table c said → said.closes ≡ false → said.waits ≡ is_outstanding_in at.number table at.key
waits_of at table c said told stays =
    let there : slot_in table at.key ≡ Some c = told.there ∙ ap (λ (b : Bool). if not b then Some c else None) stays in
    let is : is_outstanding_in at.number table at.key ≡ is_some c.session.outstanding = ap (is_outstanding at.number) there ∙ ap (λ (b : Bool). b && is_some c.session.outstanding) (eq-eqb c.number at.number told.number) in
    told.waits ∙ sym is

alone_of : (at : ConnectionId) (table : Table) (c : ConnectionView) (said : Said) → IsToldOf at table c said → (d : ConnectionView) → slot_in table at.key ≡ Some d → d.number ≡ at.number
alone_of at table c said told d there = by said.closes (sym told.there ∙ there)
  where
    by : (b : Bool) → (if not b then Some c else None) ≡ Some d → d.number ≡ at.number
    by true e = let none : ◌≡◌ {A = Option ConnectionView} None (Some d) = e in absurd (cc none)
    by false e = let is : c ≡ d = (let s : ◌≡◌ {A = Option ConnectionView} (Some c) (Some d) = e in cc s) in ap (λ (x : ConnectionView). x.number) (sym is) ∙ told.number

stays_gone : (at : ConnectionId) (table : Table) (said : Said) → IsToldToLeave at table said → is_here at.number table at.key ≡ not said.closes
stays_gone at table said told = ap (is_of_connection at.number) told.gone ∙ sym (ap not told.closes)

waits_gone : (at : ConnectionId) (table : Table) (said : Said) → IsToldToLeave at table said → said.closes ≡ false → said.waits ≡ is_outstanding_in at.number table at.key
waits_gone at table said told stays = let clash : true ≡ false = sym told.closes ∙ stays in absurd (cc clash)

alone_gone : (at : ConnectionId) (table : Table) (said : Said) → IsToldToLeave at table said → (d : ConnectionView) → slot_in table at.key ≡ Some d → d.number ≡ at.number
alone_gone at table said told d there = let none : ◌≡◌ {A = Option ConnectionView} None (Some d) = sym told.gone ∙ there in absurd (cc none)

-- ---- it reads

pub fed_at : (v : ConnectionsView) (at : ConnectionId) (piece : List ℕ) (table : Table) (said : Said) → is_here at.number v.table at.key ≡ true → FeedsAt at piece v.table table (Ok said) → IsFedAt at piece v.table table said
fed_at v at piece table said here f =
    let c = found v at here in
    let parts = fed_parts v at piece table (Ok said) c.0 c.1 f in
    let there : slot_in table at.key ≡ parts.0 = ap (λ (t : Table). slot_in t at.key) parts.2 ∙ set_slot v.table at.key parts.0 (Some c.0) (slot_there v.table at.key c.0 c.1) in
    record {
      was = c.0;
      there = c.1;
      now = parts.1.0;
      reads = parts.1.1;
      told = record { number = parts.1.2 ∙ c.2; closes = parts.1.4.closes; waits = parts.1.4.waits; there = there ∙ parts.1.3 };
    }

pub fed_told : (v : ConnectionsView) (at : ConnectionId) (piece : List ℕ) (table : Table) (said : Said) → is_here at.number v.table at.key ≡ true → FeedsAt at piece v.table table (Ok said) → IsToldAt at v.table table said
fed_told v at piece table said here f =
    let names = fed_names v at piece table said here f in
    let fed = fed_at v at piece table said here f in
    record {
      key = names.0;
      number = names.1;
      was_here = here;
      stays = stays_of at table fed.now said fed.told;
      waits = waits_of at table fed.now said fed.told;
      alone = alone_of at table fed.now said fed.told;
      others = fed_others at piece v.table table (Ok said) f;
    }

-- ---- it takes a reply

pub answered_at : (v : ConnectionsView) (at : ConnectionId) (turn : ℕ) (reply : replies.Reply) (table : Table) (said : Said) → is_here at.number v.table at.key ≡ true → AnswersAt at turn reply v.table table (Some said) → IsAnsweredAt at turn reply v.table table said
answered_at v at turn reply table said here f =
    let c = found v at here in
    let parts = answer_parts v at turn reply table (Some said) c.0 c.1 f in
    let there : slot_in table at.key ≡ parts.0 = ap (λ (t : Table). slot_in t at.key) parts.2 ∙ set_slot v.table at.key parts.0 (Some c.0) (slot_there v.table at.key c.0 c.1) in
    record {
      was = c.0;
      there = c.1;
      now = parts.1.0;
      told = ⊎_elim
          (λ step. inl (step.0, record { number = parts.1.2 ∙ c.2; closes = step.1.closes; waits = step.1.waits; there = there ∙ parts.1.3 }))
          (λ last. inr (record { nothing = last.nothing; closes = last.closes; waits = last.waits; gone = there ∙ (parts.1.3 ∙ ap (λ (b : Bool). if not b then Some parts.1.0 else None) last.closes) }))
          parts.1.1;
    }

pub answered_told : (v : ConnectionsView) (at : ConnectionId) (turn : ℕ) (reply : replies.Reply) (table : Table) (said : Said) → is_here at.number v.table at.key ≡ true → AnswersAt at turn reply v.table table (Some said) → IsToldAt at v.table table said
answered_told v at turn reply table said here f =
    let names = answer_names v at turn reply table said here f in
    let to = answered_at v at turn reply table said here f in
    record {
      key = names.0;
      number = names.1;
      was_here = here;
      stays = ⊎_elim (λ step. stays_of at table to.now said step.1) (λ last. stays_gone at table said last) to.told;
      waits = ⊎_elim (λ step. waits_of at table to.now said step.1) (λ last. waits_gone at table said last) to.told;
      alone = ⊎_elim (λ step. alone_of at table to.now said step.1) (λ last. alone_gone at table said last) to.told;
      others = answered_others at turn reply v.table table (Some said) f;
    }

-- ---- it leaves, since it failed

pub left_told : (v : ConnectionsView) (at : ConnectionId) (table : Table) (said : Said) → is_here at.number v.table at.key ≡ true → table ≡ left_at at v.table → said.bytes.items ≡ [] → said.closes ≡ true → said.waits ≡ false → IsToldToLeave at table said
left_told v at table said here left nothing closes waits =
    let c = found v at here in
    let there = slot_there v.table at.key c.0 c.1 in
    record {
      nothing = nothing;
      closes = closes;
      waits = waits;
      gone = ap (λ (t : Table). slot_in t at.key) (left ∙ left_none v at c.0 c.1 c.2) ∙ set_slot v.table at.key None (Some c.0) there;
    }

pub dropped_told : (v : ConnectionsView) (at : ConnectionId) (table : Table) (said : Said) → is_here at.number v.table at.key ≡ true → table ≡ left_at at v.table → said.key ≡ at.key → said.number ≡ at.number → IsToldToLeave at table said → IsToldAt at v.table table said
dropped_told v at table said here left key number told = record {
  key = key;
  number = number;
  was_here = here;
  stays = stays_gone at table said told;
  waits = waits_gone at table said told;
  alone = alone_gone at table said told;
  others = λ other differs. ap (λ (t : Table). slot_in t other) left ∙ left_others at v.table other differs;
}
