-- Each event of a world keeps true that what is kept and sent was asked.
use Rattle.std.proofs.Common.{◌≡◌, ◌≢◌, ℕ, zero, suc, List, [], ◌∷◌, ◌++◌, map, Option, Some, None, refl, sym, ◌∙◌, ap, subst, ⊎_elim, arith, slice_get, slice_set}
use Rattle.std.specs.Prelude.{◌==◌}
use Rattle.std.proofs.lemmas.Bool.{cond_both, eqb-true, eqb-false}
use Rattle.std.proofs.lemmas.List.{append-nil}
use Rattle.proto.specs.declared.reply.Reply as replies
use Rattle.decrees.specs.declared.ballot.Ballot.{Ballot}
use Rattle.decrees.specs.declared.node.Letter.{Letter}
use Rattle.decrees.specs.declared.node.Node.{Node}
use Rattle.decrees.specs.declared.node.Node.TheVariants as node
use Rattle.executor.specs.Work.{WorkView}
use Rattle.exec_lines.specs.declared.body.Body.{Body}
use Rattle.exec_lines.specs.declared.body.Body.TheVariants as body
use Rattle.exec_lines.specs.declared.input.Input as of_executor
use Rattle.exec_lines.specs.declared.input.Input.TheVariants as executor_input
use Rattle.exec_node.specs.Executor.{ExecutorView}
use Rattle.verifier.specs.declared.input.Input as of_verifier
use Rattle.verifier.specs.declared.input.Input.TheVariants as verifier_input
use Rattle.verifier.specs.Verifier.{VerifierView}
use Rattle.client.specs.declared.input.Input as of_client
use Rattle.client.specs.declared.input.Input.TheVariants as client_input
use Rattle.client.specs.Laws.{piece_of}
use Rattle.events.specs.declared.event.Event.{Event}
use Rattle.events.specs.declared.event.Event.TheVariants.{Feed, Again, Hangup, Deliver, Cut, Step, Finish, Suspect, Trim, Crash, Restart, Lost, FailSave}
use Rattle.events.specs.declared.event.Replica.{Replica}
use Rattle.events.specs.declared.event.Replica.TheVariants as replica
use Rattle.slots.specs.Slot.{Slot}
use Rattle.slots.specs.declared.slot.Slot.TheVariants.{Up, Down, Gone}
use Rattle.slots.specs.Slots.{executor_kept, executor_told, verifier_kept, verifier_told, crashed_slot, lost_slot, told_slot, ExecutorReopens}
use Rattle.worlds.specs.Clients.{ClientSlot}
use Rattle.worlds.specs.World.{WorldView, with_executor, with_verifier, ClientAtGiven, ClientGiven, ExecutorAtGiven, VerifierAtGiven, ExecutorAtOpened, VerifierAtOpened, changed_at, ClientReached, VerifierReached, NodeReached, letter_at, IsDelivered, WorldNext}
use Rattle.slots.specs.Sending.{as_sent}
use Rattle.worlds.proofs.SlotLemmas.{get_set}
use Rattle.one_server_laws.proofs.Inputs.{MayCome}
use Rattle.one_server_laws.proofs.Plays.{Held}
use Rattle.memcached_spec.specs.Fed.{fed_by, fed_to}
use Rattle.memcached_spec.specs.Asked.{IsAsked}
use Rattle.worlds.specs.Asked.{IsAskedRequest, WasSent}
use Rattle.one_server_laws.proofs.Each.{each_of_both, each_at, contains_at, each_implies}
use Rattle.one_server_laws.proofs.Grown.{IsLater, later_by, request_later, fed_next}
use Rattle.one_server_laws.proofs.AskedLines.{IsAskedWork, IsAskedMember, IsAskedBody, IsAskedLetter, AreAskedLetters, BringsAsked, IsCutNow}
use Rattle.one_server_laws.proofs.ClientLines.{IsClientOf, client_stays, HandsSent, client_settles}
use Rattle.one_server_laws.proofs.Slots.{AnyState, AnyRound, IsAskedSlot, may_be_heard, settles_asked, reopens_asked, crashed_asked, lost_asked, told_asked}

-- What was sent and what executors keep was asked, and clients were given what they were sent.
pub record IsAskedWorld (events : List Event) (u : ℕ) (w : WorldView) : Type 0 where
  pub letters : AreAskedLetters events w.letters
  pub executors : (id : ℕ) (slot : Slot ExecutorView) → slice_get w.executors id ≡ Some slot → IsAskedSlot events u id slot
  pub clients : (i : ℕ) (slot : ClientSlot) → slice_get w.clients i ≡ Some slot → IsClientOf events w.letters (suc i) slot

-- ---- more events

module _ {events later : List Event} (on : IsLater events later) where
  body_later : (b : Body) → IsAskedBody events b → IsAskedBody later b
  body_later (body.Want r) is = request_later on r is
  body_later (body.Order b) is = on.cuts b is
  body_later (body.Reply number reply) is = tt
  body_later (body.Need q) is = tt
  body_later (body.Parcel p) is = tt
  body_later (body.Ballot b) is = tt

  letters_later : (ls : List (Letter Body)) → AreAskedLetters events ls → AreAskedLetters later ls
  letters_later ls h = each_implies (IsAskedLetter events) (IsAskedLetter later) (λ l is. body_later l.body is) ls h

  work_later : (o : Option WorkView) → IsAskedWork events o → IsAskedWork later o
  work_later None is = tt
  work_later (Some w) is = on.cuts w.batch is

  slot_later : (u id : ℕ) (slot : Slot ExecutorView) → IsAskedSlot events u id slot → IsAskedSlot later u id slot
  slot_later u id (Up e) is = record {
    waiting = each_implies (IsAskedRequest events) (IsAskedRequest later) (request_later on) e.state.gather is.waiting;
    working = work_later e.state.work is.working;
    members = each_implies (IsAskedMember events) (IsAskedMember later) (λ t h. on.cuts t.batch h) e.state.chain.members is.members;
  }
  slot_later u id (Down kept) is = λ x spelled. each_implies (IsAskedMember events) (IsAskedMember later) (λ t h. on.cuts t.batch h) x.chain (is x spelled)
  slot_later u id (Gone kept) is = λ x spelled. each_implies (IsAskedMember events) (IsAskedMember later) (λ t h. on.cuts t.batch h) x.chain (is x spelled)

-- no more is fed
pub world_later : (events later : List Event) (u : ℕ) (w : WorldView) → IsLater events later → ((client : ℕ) → fed_to client later ≡ fed_to client events) → IsAskedWorld events u w → IsAskedWorld later u w
world_later events later u w on same ok = record {
  letters = letters_later on w.letters ok.letters;
  executors = λ id slot at. slot_later on u id slot (ok.executors id slot at);
  clients = λ i slot at. subst (λ (ls : List (Letter Body)). IsClientOf later ls (suc i) slot) (append-nil w.letters) (client_stays events later w.letters [] (suc i) slot (same (suc i)) (ok.clients i slot at));
}

-- ---- a client is given an input

module _ (events later : List Event) (u : ℕ) (w : WorldView) (on : IsLater events later) (ok : IsAskedWorld events u w) (c : ℕ) (x : of_client.Input) (fed : fed_to c later ≡ fed_to c events ++ piece_of x)
    (others : (client : ℕ) → client ≢ c → fed_to client later ≡ fed_to client events) (hands : HandsSent w.letters c x) where
  -- nobody is there
  nobody : ((i : ℕ) (slot : ClientSlot) → slice_get w.clients i ≡ Some slot → suc i ≢ c) → IsAskedWorld later u w
  nobody none = record {
    letters = letters_later on w.letters ok.letters;
    executors = λ id slot at. slot_later on u id slot (ok.executors id slot at);
    clients = λ i slot at. subst (λ (ls : List (Letter Body)). IsClientOf later ls (suc i) slot) (append-nil w.letters) (client_stays events later w.letters [] (suc i) slot (others (suc i) (none i slot at)) (ok.clients i slot at));
  }

  at_given : (i : ℕ) → suc i ≡ c → (o : Option ClientSlot) (now : WorldView) → slice_get w.clients i ≡ o → ClientAtGiven w i x o now → IsAskedWorld later u now
  at_given i is None now placed h = subst (IsAskedWorld later u) (sym h) (nobody (λ j slot at same. absurd (not_there j slot at (omega (arith, is, same)))))
    where
      not_there : (j : ℕ) (slot : ClientSlot) → slice_get w.clients j ≡ Some slot → j ≡ i → ⊥
      not_there j slot at same = let both : ◌≡◌ {A = Option ClientSlot} None (Some slot) = sym placed ∙ (ap (slice_get w.clients) (sym same) ∙ at) in cc both
  at_given i is (Some old) now placed h =
      let its : fed_to (suc i) later ≡ fed_to (suc i) events ++ piece_of x = subst (λ (client : ℕ). fed_to client later ≡ fed_to client events ++ piece_of x) (sym is) fed in
      let sent : HandsSent w.letters (suc i) x = subst (λ (client : ℕ). HandsSent w.letters client x) (sym is) hands in
      let comes = client_settles events later w.letters i x its sent old h.0 h.1 (ok.clients i old placed) h.2 in
      subst (IsAskedWorld later u) (sym h.3)
      (record {
        letters = each_of_both (IsAskedLetter later) w.letters h.1 (letters_later on w.letters ok.letters) comes.1;
        executors = λ id slot at. slot_later on u id slot (ok.executors id slot at);
        clients = λ j slot at. ⊎_elim
            (λ (p : (j ≡ i) × (slot ≡ h.0)). subst (λ (z : ℕ × ClientSlot). IsClientOf later (w.letters ++ h.1) (suc z.0) z.1) (λ k. (sym p.0 k, sym p.1 k)) comes.0)
            (λ (p : (j ≢ i) × (slice_get w.clients j ≡ Some slot)). client_stays events later w.letters h.1 (suc j) slot (others (suc j) (λ e. p.0 (omega (arith, e, is)))) (ok.clients j slot p.1))
            (get_set w.clients i h.0 j slot at);
      })

  given_where : (n : ℕ) → n ≡ c → (now : WorldView) → ClientGiven w n x now → IsAskedWorld later u now
  given_where zero is now h = subst (IsAskedWorld later u) (sym h) (nobody (λ i slot at same. absurd (omega (arith, is, same))))
  given_where (suc i) is now h = at_given i is (slice_get w.clients i) now refl h

  client_fed : (now : WorldView) → ClientGiven w c x now → IsAskedWorld later u now
  client_fed now h = given_where c refl now h

module _ (events : List Event) {u : ℕ} {w : WorldView} (held : Held u AnyState AnyRound w) (ok : IsAskedWorld events u w) where
  unmoved_world : (now : WorldView) → now ≡ w → IsAskedWorld events u now
  unmoved_world now e = subst (IsAskedWorld events u) (sym e) ok

  -- ---- a client is given an input that is no piece

  same_events : IsLater events events
  same_events = record { fed = λ client. ([], sym (append-nil (fed_to client events))); moments = λ moment m. m; cuts = λ b cut. cut }

  client_given : (c : ℕ) (x : of_client.Input) → piece_of x ≡ [] → HandsSent w.letters c x → (now : WorldView) → ClientGiven w c x now → IsAskedWorld events u now
  client_given c x none hands now h = client_fed events events u w same_events ok c x (sym (ap (λ (b : List ℕ). fed_to c events ++ b) none ∙ append-nil (fed_to c events))) (λ client other. refl) hands now h

  -- ---- executors

  -- letters are sent, and clients are as they were
  clients_stay : (new : List (Letter Body)) (i : ℕ) (slot : ClientSlot) → slice_get w.clients i ≡ Some slot → IsClientOf events (w.letters ++ new) (suc i) slot
  clients_stay new i slot at = client_stays events events w.letters new (suc i) slot refl (ok.clients i slot at)

  executor_put : (id : ℕ) (slot : Slot ExecutorView) (new : List (Letter Body)) → IsAskedSlot events u id slot → AreAskedLetters events new → IsAskedWorld events u (with_executor w id slot new)
  executor_put id slot new is heard = record {
    letters = each_of_both (IsAskedLetter events) w.letters new ok.letters heard;
    executors = λ j s at. ⊎_elim
        (λ (p : (j ≡ id) × (s ≡ slot)). subst (λ (z : ℕ × Slot ExecutorView). IsAskedSlot events u z.0 z.1) (λ k. (sym p.0 k, sym p.1 k)) is)
        (λ (p : (j ≢ id) × (slice_get w.executors j ≡ Some s)). ok.executors j s p.1)
        (get_set w.executors id slot j s at);
    clients = clients_stay new;
  }

  executor_given : (id : ℕ) (x : of_executor.Input) → MayCome held.now x → BringsAsked events x → (o : Option (Slot ExecutorView)) (now : WorldView) → slice_get w.executors id ≡ o → ExecutorAtGiven w id x o now → IsAskedWorld events u now
  executor_given id x may brings None now placed h = unmoved_world now h
  executor_given id x may brings (Some old) now placed h =
      let comes = settles_asked held events id x may brings old h.0 h.1 placed (ok.executors id old placed) h.2 in
      subst (IsAskedWorld events u) (sym h.3) (executor_put id h.0 h.1 comes.0 comes.1)

  executor_opened : (id : ℕ) (o : Option (Slot ExecutorView)) (now : WorldView) → slice_get w.executors id ≡ o → ExecutorAtOpened w id o now → IsAskedWorld events u now
  executor_opened id None now placed h = unmoved_world now h
  executor_opened id (Some old) now placed h =
      let comes = reopens_asked held events id old h.0 h.1 placed (ok.executors id old placed) (subst (λ (v : ℕ). ExecutorReopens v id old h.0 h.1) held.same.same_u h.2) in
      subst (IsAskedWorld events u) (sym h.3) (executor_put id h.0 h.1 comes.0 comes.1)

  executor_changes : (id : ℕ) (change : Slot ExecutorView → Slot ExecutorView) → ((slot : Slot ExecutorView) → slice_get w.executors id ≡ Some slot → IsAskedSlot events u id slot → IsAskedSlot events u id (change slot))
      → (o : Option (Slot ExecutorView)) (now : WorldView) → slice_get w.executors id ≡ o → now ≡ record w { executors = changed_at w.executors id change o } → IsAskedWorld events u now
  executor_changes id change each None now placed e = unmoved_world now e
  executor_changes id change each (Some slot) now placed e =
      let put = executor_put id (change slot) [] (each slot placed (ok.executors id slot placed)) tt in
      subst (IsAskedWorld events u) (sym e) (subst (λ (ls : List (Letter Body)). IsAskedWorld events u (record w { executors = slice_set w.executors id (change slot); letters = ls })) (append-nil w.letters) put)

  -- ---- verifiers

  ballots_heard : (new : List (Letter Ballot)) → AreAskedLetters events (map as_sent new)
  ballots_heard [] = tt
  ballots_heard (l ∷ new) = (tt, ballots_heard new)

  verifier_put : (id : ℕ) (slot : Slot VerifierView) (new : List (Letter Ballot)) → IsAskedWorld events u (with_verifier w id slot new)
  verifier_put id slot new = record {
    letters = each_of_both (IsAskedLetter events) w.letters (map as_sent new) ok.letters (ballots_heard new);
    executors = ok.executors;
    clients = clients_stay (map as_sent new);
  }

  verifier_given : (id : ℕ) (x : of_verifier.Input) (o : Option (Slot VerifierView)) (now : WorldView) → VerifierAtGiven w id x o now → IsAskedWorld events u now
  verifier_given id x None now h = unmoved_world now h
  verifier_given id x (Some old) now h = subst (IsAskedWorld events u) (sym h.3) (verifier_put id h.0 h.1)

  verifier_opened : (id : ℕ) (o : Option (Slot VerifierView)) (now : WorldView) → VerifierAtOpened w id o now → IsAskedWorld events u now
  verifier_opened id None now h = unmoved_world now h
  verifier_opened id (Some old) now h = subst (IsAskedWorld events u) (sym h.3) (verifier_put id h.0 h.1)

  verifiers_differ : (verifiers : List (Slot VerifierView)) (now : WorldView) → now ≡ record w { verifiers = verifiers } → IsAskedWorld events u now
  verifiers_differ verifiers now e = subst (IsAskedWorld events u) (sym e) (record { letters = ok.letters; executors = ok.executors; clients = ok.clients })

  -- ---- a letter comes

  client_reached : (c : ℕ) (b : Body) (now : WorldView) → ((number : ℕ) (reply : replies.Reply) → b ≡ body.Reply number reply → WasSent w.letters c number reply) → ClientReached w c b now → IsAskedWorld events u now
  client_reached c (body.Reply number reply) now sent h = client_given c (client_input.Reply number reply) refl
      (λ n r e.
      let both : ◌≡◌ {A = of_client.Input} (client_input.Reply number reply) (client_input.Reply n r) = e in
      let numbers : number ≡ n = cc both in
      let answers : reply ≡ r = cc both in
      subst (λ (z : ℕ × replies.Reply). WasSent w.letters c z.0 z.1) (λ i. (numbers i, answers i)) (sent number reply refl))
      now h
  client_reached c (body.Want r) now sent h = unmoved_world now h
  client_reached c (body.Order b) now sent h = unmoved_world now h
  client_reached c (body.Need q) now sent h = unmoved_world now h
  client_reached c (body.Parcel p) now sent h = unmoved_world now h
  client_reached c (body.Ballot b) now sent h = unmoved_world now h

  verifier_reached : (l : Letter Body) (id : ℕ) (b : Body) (now : WorldView) → VerifierReached w l id b now → IsAskedWorld events u now
  verifier_reached l id (body.Ballot b) now h = verifier_given id (verifier_input.Letter (record { from = l.from; to = l.to; body = b })) (slice_get w.verifiers id) now h
  verifier_reached l id (body.Want r) now h = unmoved_world now h
  verifier_reached l id (body.Order b) now h = unmoved_world now h
  verifier_reached l id (body.Reply number reply) now h = unmoved_world now h
  verifier_reached l id (body.Need q) now h = unmoved_world now h
  verifier_reached l id (body.Parcel p) now h = unmoved_world now h

  node_reached : (k : ℕ) (l : Letter Body) (to : Node) (now : WorldView) → slice_get w.letters k ≡ Some l → l.to ≡ to → NodeReached w l to now → IsAskedWorld events u now
  node_reached k l (node.Client c) now at to h = client_reached c l.body now (λ number reply e. (l, contains_at w.letters k l at, to, e)) h
  node_reached k l (node.Executor id) now at to h =
      executor_given id (executor_input.Letter l) (may_be_heard held k l at) (each_at (IsAskedLetter events) w.letters k l ok.letters at) (slice_get w.executors id) now refl h
  node_reached k l (node.Verifier id) now at to h = verifier_reached l id l.body now h

  delivery : (k : ℕ) (o : Option (Letter Body)) (now : WorldView) → slice_get w.letters k ≡ o → IsDelivered w o now → IsAskedWorld events u now
  delivery k None now at h = unmoved_world now h
  delivery k (Some l) now at h = node_reached k l l.to now at refl h

  delivered : (k : ℕ) (now : WorldView) → IsDelivered w (letter_at w.letters k) now → IsAskedWorld events u now
  delivered zero now h = unmoved_world now h
  delivered (suc k) now h = delivery k (slice_get w.letters k) now refl h

  -- ---- a replica is opened

  pub opened_asked : (r : Replica) (now : WorldView) → WorldNext w (Restart r) now → IsAskedWorld events u now
  opened_asked (replica.Executor id) now h = executor_opened id (slice_get w.executors id) now refl h
  opened_asked (replica.Verifier id) now h = verifier_opened id (slice_get w.verifiers id) now h

-- ---- any event

module _ (events : List Event) {u : ℕ} {w : WorldView} (held : Held u AnyState AnyRound w) (ok : IsAskedWorld events u w) where
  -- an event that feeds nothing
  quiet : (e : Event) → ((client : ℕ) → fed_by client e ≡ []) → IsAskedWorld (events ++ e ∷ []) u w
  quiet e none = world_later events (events ++ e ∷ []) u w (later_by events (e ∷ []))
      (λ client. fed_next client events e ∙ (ap (λ (b : List ℕ). fed_to client events ++ b) (none client) ∙ append-nil (fed_to client events))) ok

  fed_asked : (c : ℕ) (bytes : _) (now : WorldView) → ClientGiven w c (client_input.Feed bytes) now → IsAskedWorld (events ++ Feed c bytes ∷ []) u now
  fed_asked c bytes now h = client_fed events (events ++ Feed c bytes ∷ []) u w (later_by events (Feed c bytes ∷ [])) ok c (client_input.Feed bytes)
      (fed_next c events (Feed c bytes) ∙ ap (λ (b : List ℕ). fed_to c events ++ b) (cond_both (c == c) bytes.items [] (λ (b : List ℕ). b ≡ bytes.items) (λ _. refl) (λ other. absurd (eqb-false c c other refl))))
      (λ client other. fed_next client events (Feed c bytes)
      ∙ (ap (λ (b : List ℕ). fed_to client events ++ b) (cond_both (c == client) bytes.items [] (λ (b : List ℕ). b ≡ []) (λ same. absurd (other (sym (eqb-true c client same)))) (λ _. refl))
      ∙ append-nil (fed_to client events)))
      (λ n r e. absurd (cc e)) now h

  cut_now : (id moment : ℕ) → IsCutNow (events ++ Cut id moment ∷ []) moment
  cut_now id moment = record {
    before = events;
    executor = id;
    split = refl;
    asked = λ r is. subst (λ (bytes : List ℕ). IsAsked bytes r.number r.command) (fed_next r.client events (Cut id moment) ∙ append-nil (fed_to r.client events)) is;
  }

  pub event_asked : (e : Event) (now : WorldView) → WorldNext w e now → IsAskedWorld (events ++ e ∷ []) u now
  event_asked (Feed c bytes) now h = fed_asked c bytes now h
  event_asked (Again c) now h = client_given (events ++ Again c ∷ []) held (quiet (Again c) (λ client. refl)) c client_input.Again refl (λ n r e. absurd (cc e)) now h
  event_asked (Hangup c) now h = client_given (events ++ Hangup c ∷ []) held (quiet (Hangup c) (λ client. refl)) c client_input.Hangup refl (λ n r e. absurd (cc e)) now h
  event_asked (Deliver k) now h = delivered (events ++ Deliver k ∷ []) held (quiet (Deliver k) (λ client. refl)) k now h
  event_asked (Cut id moment) now h = executor_given (events ++ Cut id moment ∷ []) held (quiet (Cut id moment) (λ client. refl)) id (executor_input.Cut moment) tt (cut_now id moment) (slice_get w.executors id) now refl h
  event_asked (Step id place) now h = executor_given (events ++ Step id place ∷ []) held (quiet (Step id place) (λ client. refl)) id (executor_input.Step place) tt tt (slice_get w.executors id) now refl h
  event_asked (Finish id) now h = executor_given (events ++ Finish id ∷ []) held (quiet (Finish id) (λ client. refl)) id executor_input.Finish tt tt (slice_get w.executors id) now refl h
  event_asked (Suspect id) now h = verifier_given (events ++ Suspect id ∷ []) held (quiet (Suspect id) (λ client. refl)) id verifier_input.Suspect (slice_get w.verifiers id) now h
  event_asked (Trim id place) now h = verifier_given (events ++ Trim id place ∷ []) held (quiet (Trim id place) (λ client. refl)) id (verifier_input.Trim place) (slice_get w.verifiers id) now h
  event_asked (Crash (replica.Executor id)) now h =
      executor_changes (events ++ Crash (replica.Executor id) ∷ []) held (quiet (Crash (replica.Executor id)) (λ client. refl)) id (crashed_slot executor_kept) (crashed_asked held (events ++ Crash (replica.Executor id) ∷ []) id) (slice_get w.executors id) now refl h
  event_asked (Crash (replica.Verifier id)) now h = verifiers_differ (events ++ Crash (replica.Verifier id) ∷ []) held (quiet (Crash (replica.Verifier id)) (λ client. refl)) (changed_at w.verifiers id (crashed_slot verifier_kept) (slice_get w.verifiers id)) now h
  event_asked (Restart r) now h = opened_asked (events ++ Restart r ∷ []) held (quiet (Restart r) (λ client. refl)) r now h
  event_asked (Lost (replica.Executor id)) now h =
      executor_changes (events ++ Lost (replica.Executor id) ∷ []) held (quiet (Lost (replica.Executor id)) (λ client. refl)) id (lost_slot executor_kept) (lost_asked held (events ++ Lost (replica.Executor id) ∷ []) id) (slice_get w.executors id) now refl h
  event_asked (Lost (replica.Verifier id)) now h = verifiers_differ (events ++ Lost (replica.Verifier id) ∷ []) held (quiet (Lost (replica.Verifier id)) (λ client. refl)) (changed_at w.verifiers id (lost_slot verifier_kept) (slice_get w.verifiers id)) now h
  event_asked (FailSave (replica.Executor id)) now h =
      executor_changes (events ++ FailSave (replica.Executor id) ∷ []) held (quiet (FailSave (replica.Executor id)) (λ client. refl)) id (told_slot executor_told) (told_asked held (events ++ FailSave (replica.Executor id) ∷ []) id) (slice_get w.executors id) now refl h
  event_asked (FailSave (replica.Verifier id)) now h = verifiers_differ (events ++ FailSave (replica.Verifier id) ∷ []) held (quiet (FailSave (replica.Verifier id)) (λ client. refl)) (changed_at w.verifiers id (told_slot verifier_told) (slice_get w.verifiers id)) now h
