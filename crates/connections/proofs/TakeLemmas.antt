-- A command that is taken is the outstanding one, and the next of its connection.
use Rattle.std.proofs.Common.{◌≡◌, ◌≤◌, ◌⊎◌, inl, inr, ⊎_elim, ℕ, zero, suc, ◌+◌, ◌-◌, ◌<◌, Bool, List, [], ◌∷◌, ◌++◌, length, Option, Some, None, refl, sym, ap, ◌∙◌, subst, arith, slice_get, slice_set}
use Rattle.std.specs.Prelude.{◌≢◌, Contains}
use Rattle.std.proofs.lemmas.List.Elements.{Contains-append_left, Contains-append_right, Contains-append_cases}
use Rattle.proto.specs.declared.command.Command.{Command}
use Rattle.proto.specs.declared.reply.Reply as replies
use Rattle.dialect.specs.declared.turn.Show.{Show}
use Rattle.grammar.specs.declared.turn.Turn.{Turn}
use Rattle.grammar.specs.declared.turn.Turn.TheVariants.{Ask, Say, Close}
use Rattle.grammar.specs.Asks.{SpellsIn, commands_in, TextsShown, IsAskedIn}
use Rattle.grammar.specs.Reads.{dialect_of}
use Rattle.grammar.proofs.ReadLemmas.{read_spells}
use Rattle.grammar.proofs.ProfileLemmas.{spelled_has_text}
use Rattle.memcached_spec.specs.Asked.{HasText}
use Rattle.session.specs.declared.session.Awaited.{Awaited}
use Rattle.session.specs.declared.session.Session.{Session}
use Rattle.session.specs.Session.{IsTakenOfSession}
use Rattle.session.specs.Taken.{IsPending, HasAllRead}
use Rattle.session.proofs.TakenLemmas.{going_on, taken_ok}
use Rattle.session.specs.declared.session.Ready.{Ready}
use Rattle.connections.specs.declared.connections.CommandNumber.{CommandNumber}
use Rattle.connections.specs.Connection.{ConnectionView, IsTaken}
use Rattle.connections.specs.Slots.{slot_in}
use Rattle.connections.specs.Connections.{ConnectionsView, bytes_of_connection, untaken, WasReplied, AreBefore, AreReplied, IsHere, IsConnections}
use Rattle.connections.proofs.SlotLemmas.{set_slot, other_slot, slot_there, same_or_not}

-- the command behind some turns
asked_behind : (taken turns : List Turn) (command : Command) (show : Show) → slice_get (commands_in ((taken ++ Ask command show ∷ []) ++ turns)) (length (commands_in taken)) ≡ Some command
asked_behind [] turns command show = refl
asked_behind (Ask other s ∷ taken) turns command show = asked_behind taken turns command show
asked_behind (Say n ∷ taken) turns command show = asked_behind taken turns command show
asked_behind (Close n ∷ taken) turns command show = asked_behind taken turns command show

module _ {X : Type 0} where
  -- an element of a list that got one more
  pub get_pushed : (xs : List X) (e : X) (i : ℕ) (a : X) → slice_get (xs ++ e ∷ []) i ≡ Some a → (slice_get xs i ≡ Some a) ⊎ ((i ≡ length xs) × (e ≡ a))
  get_pushed [] e zero a at = inr (refl, cc at)
  get_pushed [] e (suc i) a at = absurd (cc at)
  get_pushed (x ∷ xs) e zero a at = inl at
  get_pushed (x ∷ xs) e (suc i) a at = ⊎_elim (λ (old : slice_get xs i ≡ Some a). inl old) (λ (new : (i ≡ length xs) × (e ≡ a)). inr (ap suc new.0, new.1)) (get_pushed xs e i a at)

  pub contains_at : (xs : List X) (i : ℕ) (a : X) → slice_get xs i ≡ Some a → Contains xs a
  contains_at [] i a at = absurd (cc at)
  contains_at (x ∷ xs) zero a at = (0, omega arith, cc at)
  contains_at (x ∷ xs) (suc i) a at = let c = contains_at xs i a at in let lt = c.1 in (suc c.0, omega (arith, lt), c.2)

  pub one_of : (x a : X) → Contains (x ∷ []) a → x ≡ a
  one_of x a (zero, lt, e) = e
  one_of x a (suc k, lt, e) = absurd (omega (arith, lt))

-- each command among turns that were answered has a reply
answered_turn : (P : ℕ → replies.Reply → Type 0) (q : ℕ) (turns : List Turn) (bytes : List ℕ) → TextsShown P q turns bytes → (k : ℕ) → k < length (commands_in turns) → (reply : replies.Reply) × P (q + k) reply
answered_turn P q [] bytes texts k below = absurd (omega (arith, below))
answered_turn P q (Say n ∷ turns) bytes texts k below = answered_turn P q turns texts.0 texts.2 k below
answered_turn P q (Close n ∷ turns) bytes texts k below = answered_turn P q turns texts.0 texts.2 k below
answered_turn P q (Ask command show ∷ turns) bytes texts zero below = (texts.0, subst (λ (n : ℕ). P n texts.0) (omega arith) texts.2)
answered_turn P q (Ask command show ∷ turns) bytes texts (suc k) below =
    let r = answered_turn P (q + 1) turns texts.1 texts.4 k (omega (arith, below)) in
    (r.0, subst (λ (n : ℕ). P n r.0) (omega arith) r.1)

module _ (v : ConnectionsView) (ok : IsConnections v) (key : ℕ) (c : ConnectionView) (at : slot_in v.table key ≡ Some c) (ready : Ready) (next : ConnectionView) (t : IsTaken c ready next) where
  h : IsHere v c
  h = ok.here key c at

  of : IsTakenOfSession c.session ready t.session
  of = t.of_session

  abbrev all : List ℕ
  all = bytes_of_connection c.number v.heard

  abbrev show : Show
  show = of.asked.show

  live : HasAllRead v.dialect all c.session (h.talks.taken ++ h.talks.pending)
  live = h.talks.live (going_on v.dialect (WasReplied v.replied c.number) all c.session (bytes_of_connection c.number v.given) of.asked h.talks of.outstanding)

  pend : h.talks.pending ≡ Ask ready.command show ∷ []
  pend = subst (λ (z : Option Awaited × Option Command). IsPending z.0 z.1 h.talks.pending) (λ i. (of.outstanding i, of.untaken i)) h.talks.is_pending

  split : live.turns ≡ (h.talks.taken ++ Ask ready.command show ∷ []) ++ c.session.waiting
  split = live.split ∙ ap (λ (ts : List Turn). (h.talks.taken ++ ts) ++ c.session.waiting) pend

  spells : SpellsIn v.dialect all live.turns
  spells = read_spells v.dialect c.session.reader all live.turns live.reads

  turn_is : ready.turn ≡ c.session.last
  turn_is = sym of.turn ∙ h.talks.own of.asked of.outstanding

  last_is : c.session.last ≡ length (commands_in h.talks.taken) + 1
  last_is = h.talks.number ∙ ap (λ (ts : List Turn). length (commands_in h.talks.taken) + length ts) pend

  pub is_asked : IsAskedIn v.dialect all ready.turn ready.command
  is_asked =
      let slot : ready.turn - 1 ≡ length (commands_in h.talks.taken) = let a = turn_is in let b = last_is in omega (arith, a, b) in
      record {
        turns = live.turns;
        spells = spells;
        from_one = let a = turn_is in let b = last_is in omega (arith, a, b);
        is = (λ i. slice_get (commands_in (split i)) (slot i)) ∙ asked_behind h.talks.taken c.session.waiting ready.command show;
      }

  pub has_text : HasText ready.command ready.quiet
  has_text =
      let own : Contains (h.talks.taken ++ Ask ready.command show ∷ []) (Ask ready.command show) = Contains-append_right h.talks.taken (Ask ready.command show ∷ []) (Ask ready.command show) (0, omega arith, refl) in
      let there : Contains live.turns (Ask ready.command show) = subst (λ (ts : List Turn). Contains ts (Ask ready.command show)) (sym split)
      (Contains-append_left (h.talks.taken ++ Ask ready.command show ∷ []) c.session.waiting (Ask ready.command show) own) in
      subst (HasText ready.command) of.quiet (spelled_has_text v.dialect all live.turns ready.command show spells there)

  pub before : AreBefore v.taken c.number ready.turn
  before e in_it is =
      let n = h.counted e in_it is in
      let one : untaken c.session.command ≡ 1 = ap untaken of.untaken in
      let turn = turn_is in
      omega (arith, n, one, turn)

  pub in_turn : AreReplied v.replied c.number ready.turn
  in_turn k from_one below =
      let a = turn_is in
      let b = last_is in
      let r = answered_turn (WasReplied v.replied c.number) 1 h.talks.taken (bytes_of_connection c.number v.given) h.talks.texts (k - 1) (omega (arith, a, b, from_one, below)) in
      let at_k : 1 + (k - 1) ≡ k = omega (arith, from_one) in
      (r.0, subst (λ (n : ℕ). WasReplied v.replied c.number n r.0) at_k r.1)

  abbrev pub entry : CommandNumber × Command
  entry = (record { connection = c.number; turn = ready.turn }, ready.command)

  abbrev pub now : ConnectionsView
  now = record v { table = slice_set v.table key (Some next); taken = v.taken ++ entry ∷ [] }

  same_number : next.number ≡ c.number
  same_number = ap (λ (x : ConnectionView). x.number) t.now_is

  old_or_new : (e : CommandNumber × Command) → Contains now.taken e → Contains v.taken e ⊎ (entry ≡ e)
  old_or_new e in_it = ⊎_elim (λ (old : Contains v.taken e). inl old) (λ (new : Contains (entry ∷ []) e). inr (one_of entry e new)) (Contains-append_cases v.taken (entry ∷ []) e in_it)

  here_next : IsHere now next
  here_next =
      let none : untaken t.session.command ≡ 0 = ap (λ (s : Session). untaken s.command) of.now_is in
      let last : t.session.last ≡ c.session.last = ap (λ (s : Session). s.last) of.now_is in
      subst (IsHere now) (sym t.now_is) (record {
        below = h.below;
        reads = ap (λ (s : Session). dialect_of s.reader) of.now_is ∙ h.reads;
        since = h.since;
        talks = taken_ok v.dialect (WasReplied v.replied c.number) (bytes_of_connection c.number v.heard) c.session (bytes_of_connection c.number v.given) ready t.session of h.talks;
        counted = λ e in_it is. ⊎_elim
            (λ (old : Contains v.taken e). let n = h.counted e old is in omega (arith, n, none, last))
            (λ (new : entry ≡ e). let n : ready.turn ≡ e.0.turn = ap (λ (x : CommandNumber × Command). x.0.turn) new in let turn = turn_is in omega (arith, n, turn, none, last))
            (old_or_new e in_it);
      })

  who : (k : ℕ) (d : ConnectionView) → slot_in now.table k ≡ Some d → ((k ≡ key) × (next ≡ d)) ⊎ ((k ≢ key) × (slot_in v.table k ≡ Some d))
  who k d e = ⊎_elim
      (λ (same : k ≡ key). inl (same, let s : ◌≡◌ {A = Option ConnectionView} (Some next) (Some d) = sym (set_slot v.table key (Some next) (Some c) (slot_there v.table key c at)) ∙ subst (λ (x : ℕ). slot_in now.table x ≡ Some d) same e in cc s))
      (λ (differs : k ≢ key). inr (differs, sym (other_slot v.table key (Some next) k differs) ∙ e))
      (same_or_not k key)

  back : (k : ℕ) (d : ConnectionView) → slot_in now.table k ≡ Some d → (f : ConnectionView) × (slot_in v.table k ≡ Some f) × (f.number ≡ d.number)
  back k d e = ⊎_elim
      (λ (new : (k ≡ key) × (next ≡ d)). (c, subst (λ (x : ℕ). slot_in v.table x ≡ Some c) (sym new.0) at, sym same_number ∙ ap (λ (x : ConnectionView). x.number) new.1))
      (λ (old : (k ≢ key) × (slot_in v.table k ≡ Some d)). (d, old.1, refl))
      (who k d e)

  here_other : (k : ℕ) (d : ConnectionView) → k ≢ key → slot_in v.table k ≡ Some d → IsHere now d
  here_other k d differs e =
      let o = ok.here k d e in
      record {
        below = o.below;
        reads = o.reads;
        since = o.since;
        talks = o.talks;
        counted = λ x in_it is. ⊎_elim
            (λ (old : Contains v.taken x). o.counted x old is)
            (λ (new : entry ≡ x). absurd (differs (ok.one_key k key d c e at (sym is ∙ sym (ap (λ (y : CommandNumber × Command). y.0.connection) new)))))
            (old_or_new x in_it);
      }

  once_now : (i j : ℕ) (a b : CommandNumber × Command) → slice_get now.taken i ≡ Some a → slice_get now.taken j ≡ Some b → a.0.connection ≡ b.0.connection → a.0.turn ≡ b.0.turn → i ≡ j
  once_now i j a b at_i at_j same turn = ⊎_elim
      (λ (old : slice_get v.taken i ≡ Some a). ⊎_elim
      (λ (older : slice_get v.taken j ≡ Some b). ok.once i j a b old older same turn)
      (λ (new : (j ≡ length v.taken) × (entry ≡ b)).
      let n : c.number ≡ b.0.connection = ap (λ (y : CommandNumber × Command). y.0.connection) new.1 in
      let m : ready.turn ≡ b.0.turn = ap (λ (y : CommandNumber × Command). y.0.turn) new.1 in
      let lt = before a (contains_at v.taken i a old) (same ∙ sym n) in absurd (omega (arith, lt, m, turn)))
      (get_pushed v.taken entry j b at_j))
      (λ (new : (i ≡ length v.taken) × (entry ≡ a)). ⊎_elim
      (λ (old : slice_get v.taken j ≡ Some b).
      let n : c.number ≡ a.0.connection = ap (λ (y : CommandNumber × Command). y.0.connection) new.1 in
      let m : ready.turn ≡ a.0.turn = ap (λ (y : CommandNumber × Command). y.0.turn) new.1 in
      let lt = before b (contains_at v.taken j b old) (sym same ∙ sym n) in absurd (omega (arith, lt, m, turn)))
      (λ (newer : (j ≡ length v.taken) × (entry ≡ b)). new.0 ∙ sym newer.0)
      (get_pushed v.taken entry j b at_j))
      (get_pushed v.taken entry i a at_i)

  pub taken_keeps : IsConnections now
  taken_keeps = record {
    here = λ k d e. ⊎_elim (λ (new : (k ≡ key) × (next ≡ d)). subst (IsHere now) new.1 here_next) (λ (old : (k ≢ key) × (slot_in v.table k ≡ Some d)). here_other k d old.0 old.1) (who k d e);
    one_key = λ i j d e at_i at_j same. let f = back i d at_i in let g = back j e at_j in ok.one_key i j f.0 g.0 f.1 g.1 (f.2 ∙ (same ∙ sym g.2));
    answered = ok.answered;
    fresh = ok.fresh;
    asked = λ e in_it. ⊎_elim
        (λ (old : Contains v.taken e). ok.asked e old)
        (λ (new : entry ≡ e). subst (λ (x : CommandNumber × Command). IsAskedIn v.dialect (bytes_of_connection x.0.connection v.heard) x.0.turn x.1) new is_asked)
        (old_or_new e in_it);
    below = λ e in_it. ⊎_elim
        (λ (old : Contains v.taken e). ok.below e old)
        (λ (new : entry ≡ e). subst (λ (x : CommandNumber × Command). x.0.connection < v.next) new h.below)
        (old_or_new e in_it);
    least = ok.least;
    none_before = ok.none_before;
    since = λ e in_it. ⊎_elim
        (λ (old : Contains v.taken e). ok.since e old)
        (λ (new : entry ≡ e). subst (λ (x : CommandNumber × Command). v.first ≤ x.0.connection) new h.since)
        (old_or_new e in_it);
    once = once_now;
  }
