-- What always holds of connections still does after one of them moved.
use Rattle.std.proofs.Common.{◌≡◌, inl, inr, ⊎_elim, ℕ, ◌+◌, ◌<◌, ◌≤◌, false, List, ◌++◌, Option, Some, refl, sym, ap, ◌∙◌, subst, arith, slice_get}
use Rattle.std.specs.Prelude.{◌≢◌, Contains}
use Rattle.proto.specs.declared.command.Command.{Command}
use Rattle.proto.specs.declared.reply.Reply as replies
use Rattle.grammar.specs.declared.reader.Dialect.{Dialect}
use Rattle.grammar.specs.Asks.{IsAskedIn}
use Rattle.grammar.proofs.AskLemmas.{asked_stays}
use Rattle.session.specs.Session.{SessionStep}
use Rattle.session.specs.Taken.{SessionOk}
use Rattle.session.proofs.TakenLemmas.{session_implies}
use Rattle.connections.specs.declared.connections.CommandNumber.{CommandNumber}
use Rattle.connections.specs.Connection.{ConnectionView}
use Rattle.connections.specs.Slots.{slot_in}
use Rattle.connections.specs.Connections.{ConnectionsView, bytes_of_connection, WasReplied, IsAnswered, untaken, IsHere, IsConnections}
use Rattle.connections.proofs.SlotLemmas.{same_or_not}
use Rattle.connections.proofs.TextLemmas.{answered_implies}
use Rattle.connections.proofs.StepLemmas.{MayAsk}

-- What became of the connection of this number, which was at this key.
pub record Moved (v now : ConnectionsView) (key number : ℕ) : Type 0 where
  pub was : ConnectionView
  pub was_at : slot_in v.table key ≡ Some was
  pub was_number : was.number ≡ number
  pub others : (k : ℕ) → k ≢ key → slot_in now.table k ≡ slot_in v.table k
  pub own : (c : ConnectionView) → slot_in now.table key ≡ Some c → (c.number ≡ number) × IsHere now c
  pub dialect : now.dialect ≡ v.dialect
  pub next : now.next ≡ v.next
  pub first : now.first ≡ v.first
  pub taken : now.taken ≡ v.taken
  pub heard : (h : ℕ) → h ≢ number → bytes_of_connection h now.heard ≡ bytes_of_connection h v.heard
  pub given : (h : ℕ) → h ≢ number → bytes_of_connection h now.given ≡ bytes_of_connection h v.given
  pub longer : (more : List ℕ) × (bytes_of_connection number now.heard ≡ bytes_of_connection number v.heard ++ more)
  pub replied : (h q : ℕ) (r : replies.Reply) → WasReplied v.replied h q r → WasReplied now.replied h q r
  pub answered : IsAnswered now.dialect (WasReplied now.replied number) (bytes_of_connection number now.heard) (bytes_of_connection number now.given)

-- a connection that did not move, as its bytes and its replies did not
pub stays_here : (v now : ConnectionsView) (c : ConnectionView) → now.dialect ≡ v.dialect → now.next ≡ v.next → now.first ≡ v.first → now.taken ≡ v.taken → bytes_of_connection c.number now.heard ≡ bytes_of_connection c.number v.heard → bytes_of_connection c.number now.given ≡ bytes_of_connection c.number v.given
    → ((q : ℕ) (r : replies.Reply) → WasReplied v.replied c.number q r → WasReplied now.replied c.number q r) → IsHere v c → IsHere now c
stays_here v now c dialect next first taken heard given replied h = record {
  below = subst (λ (n : ℕ). c.number < n) (sym next) h.below;
  reads = h.reads ∙ sym dialect;
  since = subst (λ (n : ℕ). n ≤ c.number) (sym first) h.since;
  talks = subst (λ (z : Dialect × List ℕ × List ℕ). SessionOk z.0 (WasReplied now.replied c.number) z.1 c.session z.2) (λ i. (sym dialect i, sym heard i, sym given i))
      (session_implies v.dialect (WasReplied v.replied c.number) (WasReplied now.replied c.number) (bytes_of_connection c.number v.heard) c.session (bytes_of_connection c.number v.given) replied h.talks);
  counted = λ e in_it is. h.counted e (subst (λ (es : List (CommandNumber × Command)). Contains es e) taken in_it) is;
}

pub answered_same : (v now : ConnectionsView) (n : ℕ) → now.dialect ≡ v.dialect → bytes_of_connection n now.heard ≡ bytes_of_connection n v.heard → bytes_of_connection n now.given ≡ bytes_of_connection n v.given
    → ((q : ℕ) (r : replies.Reply) → WasReplied v.replied n q r → WasReplied now.replied n q r) → IsAnswered v.dialect (WasReplied v.replied n) (bytes_of_connection n v.heard) (bytes_of_connection n v.given) → IsAnswered now.dialect (WasReplied now.replied n) (bytes_of_connection n now.heard) (bytes_of_connection n now.given)
answered_same v now n dialect heard given replied is =
    subst (λ (z : Dialect × List ℕ × List ℕ). IsAnswered z.0 (WasReplied now.replied n) z.1 z.2) (λ i. (sym dialect i, sym heard i, sym given i))
    (answered_implies v.dialect (WasReplied v.replied n) (WasReplied now.replied n) (bytes_of_connection n v.heard) (bytes_of_connection n v.given) replied is)

module _ (v now : ConnectionsView) (key number : ℕ) (ok : IsConnections v) (m : Moved v now key number) where
  -- who is there now was there, or another one of that number
  back : (k : ℕ) (c : ConnectionView) → slot_in now.table k ≡ Some c → (d : ConnectionView) × (slot_in v.table k ≡ Some d) × (d.number ≡ c.number)
  back k c at = ⊎_elim
      (λ (same : k ≡ key). (m.was, subst (λ (x : ℕ). slot_in v.table x ≡ Some m.was) (sym same) m.was_at, m.was_number ∙ sym (m.own c (subst (λ (x : ℕ). slot_in now.table x ≡ Some c) same at)).0))
      (λ (differs : k ≢ key). (c, sym (m.others k differs) ∙ at, refl))
      (same_or_not k key)

  here_now : (k : ℕ) (c : ConnectionView) → slot_in now.table k ≡ Some c → IsHere now c
  here_now k c at = ⊎_elim
      (λ (same : k ≡ key). (m.own c (subst (λ (x : ℕ). slot_in now.table x ≡ Some c) same at)).1)
      (λ (differs : k ≢ key).
      let before : slot_in v.table k ≡ Some c = sym (m.others k differs) ∙ at in
      let other : c.number ≢ number = λ same. differs (ok.one_key k key c m.was before m.was_at (same ∙ sym m.was_number)) in
      stays_here v now c m.dialect m.next m.first m.taken (m.heard c.number other) (m.given c.number other) (m.replied c.number) (ok.here k c before))
      (same_or_not k key)

  asked_now : (e : CommandNumber × Command) → Contains v.taken e → IsAskedIn now.dialect (bytes_of_connection e.0.connection now.heard) e.0.turn e.1
  asked_now e in_it = ⊎_elim
      (λ (same : e.0.connection ≡ number).
      let long = asked_stays v.dialect (bytes_of_connection e.0.connection v.heard) m.longer.0 e.0.turn e.1 (ok.asked e in_it) in
      let eq : bytes_of_connection e.0.connection v.heard ++ m.longer.0 ≡ bytes_of_connection e.0.connection now.heard = ap (λ (n : ℕ). bytes_of_connection n v.heard ++ m.longer.0) same ∙ (sym m.longer.1 ∙ ap (λ (n : ℕ). bytes_of_connection n now.heard) (sym same)) in
      subst (λ (z : Dialect × List ℕ). IsAskedIn z.0 z.1 e.0.turn e.1) (λ i. (sym m.dialect i, eq i)) long)
      (λ (differs : e.0.connection ≢ number). subst (λ (z : Dialect × List ℕ). IsAskedIn z.0 z.1 e.0.turn e.1) (λ i. (sym m.dialect i, sym (m.heard e.0.connection differs) i)) (ok.asked e in_it))
      (same_or_not e.0.connection number)

  pub moved_keeps : IsConnections now
  moved_keeps = record {
    here = here_now;
    one_key = λ i j c d at_i at_j same.
        let b = back i c at_i in let e = back j d at_j in
        ok.one_key i j b.0 e.0 b.1 e.1 (b.2 ∙ (same ∙ sym e.2));
    answered = λ n. ⊎_elim
        (λ (same : n ≡ number). subst (λ (x : ℕ). IsAnswered now.dialect (WasReplied now.replied x) (bytes_of_connection x now.heard) (bytes_of_connection x now.given)) (sym same) m.answered)
        (λ (differs : n ≢ number). answered_same v now n m.dialect (m.heard n differs) (m.given n differs) (m.replied n) (ok.answered n))
        (same_or_not n number);
    fresh = λ n above.
        let below = (ok.here key m.was m.was_at).below in
        let is = m.was_number in
        let next = m.next in
        let other : n ≢ number = λ same. absurd (omega (arith, below, is, next, above, same)) in
        let f = ok.fresh n (omega (arith, next, above)) in
        (m.heard n other ∙ f.0, m.given n other ∙ f.1);
    asked = λ e in_it. asked_now e (subst (λ (es : List (CommandNumber × Command)). Contains es e) m.taken in_it);
    below = λ e in_it. subst (λ (n : ℕ). e.0.connection < n) (sym m.next) (ok.below e (subst (λ (es : List (CommandNumber × Command)). Contains es e) m.taken in_it));
    least = let least = ok.least in let next = m.next in let first = m.first in omega (arith, least, next, first);
    none_before = λ n less.
        let since = (ok.here key m.was m.was_at).since in
        let is = m.was_number in
        let first = m.first in
        let other : n ≢ number = λ same. absurd (omega (arith, since, is, first, less, same)) in
        let f = ok.none_before n (omega (arith, first, less)) in
        (m.heard n other ∙ f.0, m.given n other ∙ f.1);
    since = λ e in_it. subst (λ (n : ℕ). n ≤ e.0.connection) (sym m.first) (ok.since e (subst (λ (es : List (CommandNumber × Command)). Contains es e) m.taken in_it));
    once = λ i j a b at_i at_j.
        ok.once i j a b (subst (λ (es : List (CommandNumber × Command)). slice_get es i ≡ Some a) m.taken at_i) (subst (λ (es : List (CommandNumber × Command)). slice_get es j ≡ Some b) m.taken at_j);
  }

-- ---- the commands that were taken come before the one that was not

pub counted_on : (turn : ℕ) (c : ConnectionView) (g : SessionStep) → MayAsk c.session g → turn + untaken c.session.command ≤ c.session.last → turn + untaken g.session.command ≤ g.session.last
counted_on turn c g (inl h) le = subst (λ (z : Option Command × ℕ). turn + untaken z.0 ≤ z.1) (λ i. (sym h.0 i, sym h.1 i)) le
counted_on turn c g (inr h) le =
    let less : turn + 1 ≤ c.session.last + 1 = omega (arith, le) in
    subst (λ (z : Option Command × ℕ). turn + untaken z.0 ≤ z.1) (λ i. (sym h.1 i, sym h.2 i)) less
