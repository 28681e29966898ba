-- Each call keeps what always holds of connections.
use Rattle.std.proofs.Common.{◌≡◌, ◌⊎◌, inl, inr, ⊎_elim, ℕ, ◌+◌, ◌<◌, ◌≤◌, false, List, [], ◌∷◌, ◌++◌, length, Option, Some, None, refl, sym, ap, ◌∙◌, subst, arith, slice_set}
use Rattle.std.specs.Prelude.{◌≢◌}
use Rattle.std.proofs.lemmas.List.{append-nil}
use Rattle.std.proofs.lemmas.List.Elements.{Contains-push, Contains-append_left}
use Rattle.proto.specs.declared.command.Command.{Command}
use Rattle.proto.specs.declared.reply.Reply as replies
use Rattle.grammar.specs.declared.reader.Dialect.{Dialect}
use Rattle.grammar.specs.Reads.{dialect_of}
use Rattle.session.specs.Session.{SessionStep, IsFedSession, session_answered}
use Rattle.session.specs.Taken.{SessionOk}
use Rattle.session.proofs.TakenLemmas.{session_implies, new_ok, fed_ok, replied_ok}
use Rattle.connections.specs.declared.connections.CommandNumber.{CommandNumber}
use Rattle.connections.specs.Connection.{ConnectionView, new_connection, after_given}
use Rattle.connections.specs.History.{Passed}
use Rattle.connections.specs.Slots.{slot_in, IsGrown}
use Rattle.connections.specs.Connections.{ConnectionsView, no_connections_from, bytes_of_connection, WasReplied, IsAnswered, IsHere, IsConnections}
use Rattle.connections.proofs.SlotLemmas.{there, set_slot, other_slot, slot_there, same_or_not}
use Rattle.connections.proofs.TextLemmas.{bytes_own, bytes_other, answered_longer, answered_implies}
use Rattle.connections.proofs.StepLemmas.{MayAsk, asks_may, fed_asks, replied_asks, new_reads, fed_reads_so, replied_reads_so}
use Rattle.connections.proofs.MoveLemmas.{moved_keeps, counted_on}

-- ---- nobody came

pub none_keep : (d : Dialect) (first : ℕ) → IsConnections (no_connections_from d first)
none_keep d first = record {
  here = λ key c at. let e : ◌≡◌ {A = Option ConnectionView} None (Some c) = at in absurd (cc e);
  one_key = λ i j c d at_i at_j same. let e : ◌≡◌ {A = Option ConnectionView} None (Some c) = at_i in absurd (cc e);
  answered = λ n. let t = new_ok d (WasReplied [] n) in record { taken = t.taken; texts = t.texts; first = t.front };
  fresh = λ n above. (refl, refl);
  asked = λ e in_it. let lt = in_it.1 in absurd (omega (arith, lt));
  below = λ e in_it. let lt = in_it.1 in absurd (omega (arith, lt));
  least = omega arith;
  none_before = λ n less. (refl, refl);
  since = λ e in_it. let lt = in_it.1 in absurd (omega (arith, lt));
  once = λ i j a b at_i at_j same turn. let e : ◌≡◌ {A = Option (CommandNumber × Command)} None (Some a) = at_i in absurd (cc e);
}

-- ---- nothing is said of the order in which it came

pub relogged : (v : ConnectionsView) (passed : List Passed) → IsConnections v → IsConnections (record v { passed = passed })
relogged v passed ok = record {
  here = λ key c at. let h = ok.here key c at in record { below = h.below; reads = h.reads; since = h.since; talks = h.talks; counted = h.counted };
  one_key = ok.one_key;
  answered = ok.answered;
  fresh = ok.fresh;
  asked = ok.asked;
  below = ok.below;
  least = ok.least;
  none_before = ok.none_before;
  since = ok.since;
  once = ok.once;
}

-- ---- only slots are added

pub grown_keeps : (v : ConnectionsView) (table : List (Option ConnectionView)) → IsConnections v → IsGrown v.table table → IsConnections (record v { table = table })
grown_keeps v table ok grown = record {
  here = λ key c at. let h = ok.here key c (sym (grown key) ∙ at) in record { below = h.below; reads = h.reads; since = h.since; talks = h.talks; counted = h.counted };
  one_key = λ i j c d at_i at_j same. ok.one_key i j c d (sym (grown i) ∙ at_i) (sym (grown j) ∙ at_j) same;
  answered = ok.answered;
  fresh = ok.fresh;
  asked = ok.asked;
  below = ok.below;
  least = ok.least;
  none_before = ok.none_before;
  since = ok.since;
  once = ok.once;
}

-- ---- a connection comes

module _ (v : ConnectionsView) (ok : IsConnections v) (table : List (Option ConnectionView)) (grown : IsGrown v.table table) (key number : ℕ) (fits : key < length table) (above : v.next ≤ number) where
  abbrev pub came : ConnectionsView
  came = record v { table = slice_set table key (Some (new_connection v.dialect number)); next = number + 1 }

  new_at : slot_in came.table key ≡ Some (new_connection v.dialect number)
  new_at = let t = there table key fits in set_slot table key (Some (new_connection v.dialect number)) t.0 t.1

  new_here : IsHere came (new_connection v.dialect number)
  new_here = record {
    below = omega arith;
    reads = new_reads v.dialect;
    since = let least = ok.least in omega (arith, least, above);
    talks = let f = ok.fresh number above in
        subst (λ (z : List ℕ × List ℕ). SessionOk v.dialect (WasReplied v.replied number) z.0 (new_connection v.dialect number).session z.1) (λ i. (sym f.0 i, sym f.1 i)) (new_ok v.dialect (WasReplied v.replied number));
    counted = λ e in_it is. let b = ok.below e in_it in absurd (omega (arith, b, is, above));
  }

  -- who is there is the new one, or was there
  who : (k : ℕ) (c : ConnectionView) → slot_in came.table k ≡ Some c → ((k ≡ key) × (new_connection v.dialect number ≡ c)) ⊎ ((k ≢ key) × (slot_in v.table k ≡ Some c))
  who k c at = ⊎_elim
      (λ (same : k ≡ key). inl (same, let e : ◌≡◌ {A = Option ConnectionView} (Some (new_connection v.dialect number)) (Some c) = sym new_at ∙ subst (λ (x : ℕ). slot_in came.table x ≡ Some c) same at in cc e))
      (λ (differs : k ≢ key). inr (differs, sym (other_slot table key (Some (new_connection v.dialect number)) k differs ∙ grown k) ∙ at))
      (same_or_not k key)

  pub came_keeps : IsConnections came
  came_keeps = record {
    here = λ k c at. ⊎_elim
        (λ (new : (k ≡ key) × (new_connection v.dialect number ≡ c)). subst (IsHere came) new.1 new_here)
        (λ (old : (k ≢ key) × (slot_in v.table k ≡ Some c)). let h = ok.here k c old.1 in let b = h.below in record { below = omega (arith, b, above); reads = h.reads; since = h.since; talks = h.talks; counted = h.counted })
        (who k c at);
    one_key = λ i j c d at_i at_j same. ⊎_elim
        (λ (new : (i ≡ key) × (new_connection v.dialect number ≡ c)). ⊎_elim
        (λ (newer : (j ≡ key) × (new_connection v.dialect number ≡ d)). new.0 ∙ sym newer.0)
        (λ (old : (j ≢ key) × (slot_in v.table j ≡ Some d)). let b = (ok.here j d old.1).below in let n : number ≡ c.number = ap (λ (x : ConnectionView). x.number) new.1 in absurd (omega (arith, b, above, n, same)))
        (who j d at_j))
        (λ (old : (i ≢ key) × (slot_in v.table i ≡ Some c)). ⊎_elim
        (λ (new : (j ≡ key) × (new_connection v.dialect number ≡ d)). let b = (ok.here i c old.1).below in let n : number ≡ d.number = ap (λ (x : ConnectionView). x.number) new.1 in absurd (omega (arith, b, above, n, same)))
        (λ (older : (j ≢ key) × (slot_in v.table j ≡ Some d)). ok.one_key i j c d old.1 older.1 same)
        (who j d at_j))
        (who i c at_i);
    answered = ok.answered;
    fresh = λ n le. ok.fresh n (omega (arith, le, above));
    asked = ok.asked;
    below = λ e in_it. let b = ok.below e in_it in omega (arith, b, above);
    least = let least = ok.least in omega (arith, least, above);
    none_before = ok.none_before;
    since = ok.since;
    once = ok.once;
  }

-- ---- a connection is here, and a call changes it

module _ (v : ConnectionsView) (ok : IsConnections v) (key : ℕ) (c : ConnectionView) (at : slot_in v.table key ≡ Some c) where
  set_is : (p : Option ConnectionView) → slot_in (slice_set v.table key p) key ≡ p
  set_is p = set_slot v.table key p (Some c) (slot_there v.table key c at)

  -- it leaves, and what came of it and what it was given are so
  gone : (heard given : List (ℕ × List ℕ)) (replied : List (CommandNumber × replies.Reply)) → ((h : ℕ) → h ≢ c.number → bytes_of_connection h heard ≡ bytes_of_connection h v.heard) → ((h : ℕ) → h ≢ c.number → bytes_of_connection h given ≡ bytes_of_connection h v.given)
      → ((more : List ℕ) × (bytes_of_connection c.number heard ≡ bytes_of_connection c.number v.heard ++ more)) → ((h q : ℕ) (r : replies.Reply) → WasReplied v.replied h q r → WasReplied replied h q r)
      → IsAnswered v.dialect (WasReplied replied c.number) (bytes_of_connection c.number heard) (bytes_of_connection c.number given)
      → IsConnections (record { dialect = v.dialect; table = slice_set v.table key None; next = v.next; first = v.first; heard = heard; given = given; passed = v.passed; taken = v.taken; replied = replied })
  gone heard given replied hs gs longer rs is =
      let now : ConnectionsView = record { dialect = v.dialect; table = slice_set v.table key None; next = v.next; first = v.first; heard = heard; given = given; passed = v.passed; taken = v.taken; replied = replied } in
      moved_keeps v now key c.number ok (record {
        was = c;
        was_at = at;
        was_number = refl;
        others = λ k differs. other_slot v.table key None k differs;
        own = λ d e. let clash : ◌≡◌ {A = Option ConnectionView} None (Some d) = sym (set_is None) ∙ e in absurd (cc clash);
        dialect = refl;
        next = refl;
        first = refl;
        taken = refl;
        heard = hs;
        given = gs;
        longer = longer;
        replied = rs;
        answered = is;
      })

  -- it leaves
  pub left_keeps : IsConnections (record v { table = slice_set v.table key None })
  left_keeps = gone v.heard v.given v.replied (λ h differs. refl) (λ h differs. refl) ([], sym (append-nil (bytes_of_connection c.number v.heard))) (λ h q r w. w) (ok.answered c.number)

  -- it read a piece, and failed
  pub failed_keeps : (piece : List ℕ) → IsConnections (record v { table = slice_set v.table key None; heard = v.heard ++ (c.number, piece) ∷ [] })
  failed_keeps piece = gone (v.heard ++ (c.number, piece) ∷ []) v.given v.replied (λ h differs. bytes_other h c.number v.heard piece differs) (λ h differs. refl) (piece, bytes_own c.number v.heard piece) (λ h q r w. w)
      (subst (λ (bytes : List ℕ). IsAnswered v.dialect (WasReplied v.replied c.number) bytes (bytes_of_connection c.number v.given)) (sym (bytes_own c.number v.heard piece))
      (answered_longer v.dialect (WasReplied v.replied c.number) (WasReplied v.replied c.number) (bytes_of_connection c.number v.heard) piece (bytes_of_connection c.number v.given) (λ q r w. w) (ok.answered c.number)))

  -- it leaves, and is given nothing; replies may have come
  pub told_keeps : (replied : List (CommandNumber × replies.Reply)) → ((h q : ℕ) (r : replies.Reply) → WasReplied v.replied h q r → WasReplied replied h q r)
      → IsConnections (record v { table = slice_set v.table key None; given = v.given ++ (c.number, []) ∷ []; replied = replied })
  told_keeps replied rs = gone v.heard (v.given ++ (c.number, []) ∷ []) replied (λ h differs. refl) (λ h differs. bytes_other h c.number v.given [] differs) ([], sym (append-nil (bytes_of_connection c.number v.heard))) rs
      (subst (λ (bytes : List ℕ). IsAnswered v.dialect (WasReplied replied c.number) (bytes_of_connection c.number v.heard) bytes) (sym (bytes_own c.number v.given [] ∙ append-nil (bytes_of_connection c.number v.given)))
      (answered_implies v.dialect (WasReplied v.replied c.number) (WasReplied replied c.number) (bytes_of_connection c.number v.heard) (bytes_of_connection c.number v.given) (rs c.number) (ok.answered c.number)))

  -- it read a piece
  pub fed_keeps : (piece : List ℕ) (g : SessionStep) (p : Option ConnectionView) → IsFedSession c.session piece g → ((d : ConnectionView) → p ≡ Some d → d ≡ after_given c g)
      → IsConnections (record v { table = slice_set v.table key p; heard = v.heard ++ (c.number, piece) ∷ []; given = v.given ++ (c.number, g.bytes) ∷ [] })
  fed_keeps piece g p fed only =
      let now : ConnectionsView = record v { table = slice_set v.table key p; heard = v.heard ++ (c.number, piece) ∷ []; given = v.given ++ (c.number, g.bytes) ∷ [] } in
      let P = WasReplied v.replied c.number in
      let h = ok.here key c at in
      let talks : SessionOk v.dialect P (bytes_of_connection c.number now.heard) g.session (bytes_of_connection c.number now.given) =
      subst (λ (z : List ℕ × List ℕ). SessionOk v.dialect P z.0 g.session z.1) (λ i. (sym (bytes_own c.number v.heard piece) i, sym (bytes_own c.number v.given g.bytes) i))
      (fed_ok v.dialect P (bytes_of_connection c.number v.heard) piece c.session (bytes_of_connection c.number v.given) g h.talks fed) in
      let here : IsHere now (after_given c g) = record { below = h.below; reads = fed_reads_so c.session piece g fed ∙ h.reads; since = h.since; talks = talks; counted = λ e in_it is. counted_on e.0.turn c g (asks_may c.session g (fed_asks c.session piece g fed)) (h.counted e in_it is) } in
      moved_keeps v now key c.number ok (record {
        was = c;
        was_at = at;
        was_number = refl;
        others = λ k differs. other_slot v.table key p k differs;
        own = λ d e. let is = only d (sym (set_is p) ∙ e) in (ap (λ (x : ConnectionView). x.number) is, subst (IsHere now) (sym is) here);
        dialect = refl;
        next = refl;
        first = refl;
        taken = refl;
        heard = λ h differs. bytes_other h c.number v.heard piece differs;
        given = λ h differs. bytes_other h c.number v.given g.bytes differs;
        longer = (piece, bytes_own c.number v.heard piece);
        replied = λ h q r w. w;
        answered = record { taken = talks.taken; texts = talks.texts; first = talks.front };
      })

  -- it took a reply
  pub replied_keeps : (turn : ℕ) (reply : replies.Reply) (g : SessionStep) (p : Option ConnectionView) → g ≡ session_answered c.session turn reply → ((d : ConnectionView) → p ≡ Some d → d ≡ after_given c g)
      → IsConnections (record v { table = slice_set v.table key p; given = v.given ++ (c.number, g.bytes) ∷ []; replied = v.replied ++ (record { connection = c.number; turn = turn }, reply) ∷ [] })
  replied_keeps turn reply g p step only =
      let entry : CommandNumber × replies.Reply = (record { connection = c.number; turn = turn }, reply) in
      let now : ConnectionsView = record v { table = slice_set v.table key p; given = v.given ++ (c.number, g.bytes) ∷ []; replied = v.replied ++ entry ∷ [] } in
      let Q = WasReplied now.replied c.number in
      let on = λ (h q : ℕ) (r : replies.Reply) (w : WasReplied v.replied h q r). Contains-append_left v.replied (entry ∷ []) (record { connection = h; turn = q }, r) w in
      let h = ok.here key c at in
      let all = bytes_of_connection c.number v.heard in
      let before = session_implies v.dialect (WasReplied v.replied c.number) Q all c.session (bytes_of_connection c.number v.given) (on c.number) h.talks in
      let talked : SessionOk v.dialect Q all g.session (bytes_of_connection c.number v.given ++ g.bytes) = subst (λ (x : SessionStep). SessionOk v.dialect Q all x.session (bytes_of_connection c.number v.given ++ x.bytes)) (sym step)
      (replied_ok v.dialect Q all c.session (bytes_of_connection c.number v.given) turn reply (Contains-push v.replied entry) before) in
      let talks : SessionOk v.dialect Q all g.session (bytes_of_connection c.number now.given) = subst (SessionOk v.dialect Q all g.session) (sym (bytes_own c.number v.given g.bytes)) talked in
      let here : IsHere now (after_given c g) = record {
        below = h.below;
        reads = ap (λ (x : SessionStep). dialect_of x.session.reader) step ∙ (replied_reads_so c.session turn reply ∙ h.reads);
        since = h.since;
        talks = talks;
        counted = λ e in_it is. counted_on e.0.turn c g (subst (MayAsk c.session) (sym step) (replied_asks c.session turn reply)) (h.counted e in_it is);
      } in
      moved_keeps v now key c.number ok (record {
        was = c;
        was_at = at;
        was_number = refl;
        others = λ k differs. other_slot v.table key p k differs;
        own = λ d e. let is = only d (sym (set_is p) ∙ e) in (ap (λ (x : ConnectionView). x.number) is, subst (IsHere now) (sym is) here);
        dialect = refl;
        next = refl;
        first = refl;
        taken = refl;
        heard = λ h differs. refl;
        given = λ h differs. bytes_other h c.number v.given g.bytes differs;
        longer = ([], sym (append-nil all));
        replied = on;
        answered = record { taken = talks.taken; texts = talks.texts; first = talks.front };
      })
