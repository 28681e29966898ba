-- Of which replies it is asked what, in the letters that an event of a world sends.
use Rattle.std.proofs.Common.{◌≡◌, inl, inr, ℕ, zero, suc, Bool, true, false, List, [], ◌∷◌, ◌++◌, map, Option, Some, None, refl, sym, ap, ◌∙◌, subst, slice_get}
use Rattle.std.proofs.lemmas.Bool.{cond_both}
use Rattle.std.proofs.lemmas.List.{append-nil}
use Rattle.std.specs.Prelude.{◌==◌}
use Rattle.keeper.specs.Kept.{Kept}
use Rattle.proto.specs.declared.reply.Reply as replies
use Rattle.proto.specs.declared.turn.Turn.{Turn}
use Rattle.proto.specs.declared.turn.Turn.TheVariants as turn
use Rattle.proto.specs.Text.{notice_text, given_text}
use Rattle.sessions.specs.declared.request.Request.{Request}
use Rattle.decrees.specs.declared.ballot.Ballot.{Ballot}
use Rattle.decrees.specs.declared.node.Letter.{Letter}
use Rattle.decrees.specs.declared.node.Node.{Node}
use Rattle.decrees.specs.declared.node.Node.TheVariants as node
use Rattle.decrees.specs.Count.{member_count}
use Rattle.exec_lines.specs.declared.body.Body.{Body}
use Rattle.exec_lines.specs.declared.body.Body.TheVariants as body
use Rattle.exec_lines.specs.declared.input.Input as of_executor
use Rattle.exec_lines.specs.declared.input.Input.TheVariants as executor_input
use Rattle.exec_node.specs.Executor.{ExecutorView, executor_outcome, executor_handled, OpensExecutor}
use Rattle.verifier.specs.declared.input.Input as of_verifier
use Rattle.verifier.specs.declared.input.Input.TheVariants as verifier_input
use Rattle.verifier.specs.Verifier.{VerifierView}
use Rattle.client.specs.declared.asked.Asked.{Asked}
use Rattle.client.specs.declared.input.Input as of_client
use Rattle.client.specs.declared.input.Input.TheVariants as client_input
use Rattle.client.specs.declared.talk.Talk.{Talk}
use Rattle.client.specs.Talk.{Given, next_request, client_letter, wants_below, unmoved, go, go_where, go_on}
use Rattle.client.specs.Step.{IsFedWhere, answered_to, asked_again, IsClientStep}
use Rattle.events.specs.declared.event.Event.{Event}
use Rattle.events.specs.declared.event.Event.TheVariants.{Feed, Again, Hangup, Deliver, Cut, Step, Finish, Suspect, Trim, Crash, Restart, Lost, FailSave}
use Rattle.events.specs.declared.event.Replica.{Replica}
use Rattle.events.specs.declared.event.Replica.TheVariants as replica
use Rattle.slots.specs.Slot.{Slot}
use Rattle.slots.specs.declared.slot.Slot.TheVariants.{Up, Down, Gone}
use Rattle.slots.specs.Slots.{ExecutorSettles, ExecutorReopens}
use Rattle.worlds.specs.Clients.{ClientSlot, ClientSettlesWhere}
use Rattle.worlds.specs.World.{WorldView, with_executor, ClientAtGiven, ClientGiven, ExecutorAtGiven, VerifierAtGiven, ExecutorAtOpened, VerifierAtOpened, ClientReached, VerifierReached, NodeReached, letter_at, IsDelivered, WorldNext}
use Rattle.slots.specs.Sending.{as_sent}
use Rattle.worlds.proofs.SlotLemmas.{set_get}
use Rattle.one_server_laws.proofs.Replies.{AllReplies, all-append, resumed_replies}

-- ---- clients and verifiers reply nothing

module _ (P : ℕ → ℕ → replies.Reply → Type 0) where
  wants_quiet : (c n : ℕ) (r : Request) → AllReplies P (wants_below c n r)
  wants_quiet c zero r = tt
  wants_quiet c (suc n) r = all-append P (wants_below c n r) (client_letter c (node.Executor n) (body.Want r) ∷ []) (wants_quiet c n r) (tt, tt)

  go_quiet : (u c : ℕ) (t : Talk) (bytes : List ℕ) (turns : List Turn) → AllReplies P (go u c t bytes turns).letters
  go_quiet u c t bytes [] = tt
  go_quiet u c t bytes (turn.Say notice ∷ turns) = go_quiet u c t (bytes ++ notice_text notice) turns
  go_quiet u c t bytes (turn.Close notice ∷ turns) = tt
  go_quiet u c t bytes (turn.Ask command quiet ∷ turns) = wants_quiet c (member_count u) (next_request c t.last command)

  go_where_quiet : (u c : ℕ) (t : Talk) (bytes : List ℕ) (o : Option Asked) (closed : Bool) → AllReplies P (go_where u c t bytes o closed).letters
  go_where_quiet u c t bytes None false = go_quiet u c t bytes t.waiting
  go_where_quiet u c t bytes None true = tt
  go_where_quiet u c t bytes (Some asked) closed = tt

  go_on_quiet : (u c : ℕ) (t : Talk) (bytes : List ℕ) → AllReplies P (go_on u c t bytes).letters
  go_on_quiet u c t bytes = go_where_quiet u c t bytes t.outstanding t.closed

  answered_quiet : (u c : ℕ) (t : Talk) (number : ℕ) (reply : replies.Reply) (o : Option Asked) → AllReplies P (answered_to u c t number reply o).letters
  answered_quiet u c t number reply None = tt
  answered_quiet u c t number reply (Some asked) =
      cond_both (asked.request.number == number) (go_on u c (record t { outstanding = None }) (given_text reply asked.quiet)) (unmoved t) (λ (g : Given). AllReplies P g.letters)
      (λ _. go_on_quiet u c (record t { outstanding = None }) (given_text reply asked.quiet))
      (λ _. tt)

  again_quiet : (u c : ℕ) (t : Talk) (o : Option Asked) → AllReplies P (asked_again u c t o).letters
  again_quiet u c t None = tt
  again_quiet u c t (Some asked) = wants_quiet c (member_count u) asked.request

  fed_quiet : (b : Bool) (u c : ℕ) (t : Talk) (piece : List ℕ) (g : Given) → IsFedWhere b u c t piece g → AllReplies P g.letters
  fed_quiet true u c t piece g h = subst (λ (z : Given). AllReplies P z.letters) (sym h) tt
  fed_quiet false u c t piece g h = subst (λ (z : Given). AllReplies P z.letters) (sym h.3) (go_on_quiet u c (record t { reader = h.1; waiting = t.waiting ++ h.0 }) [])

  client_quiet : (u c : ℕ) (t : Talk) (x : of_client.Input) (g : Given) → IsClientStep u c t x g → AllReplies P g.letters
  client_quiet u c t (client_input.Feed piece) g h = fed_quiet t.closed u c t piece.items g h
  client_quiet u c t (client_input.Reply number reply) g h = subst (λ (z : Given). AllReplies P z.letters) (sym h) (answered_quiet u c t number reply t.outstanding)
  client_quiet u c t client_input.Again g h = subst (λ (z : Given). AllReplies P z.letters) (sym h) (again_quiet u c t t.outstanding)
  client_quiet u c t client_input.Hangup g h = subst (λ (z : Given). AllReplies P z.letters) (sym h) tt

  settled_quiet : (b : Bool) (old now : ClientSlot) (x : of_client.Input) (new : List (Letter Body)) → ClientSettlesWhere b old x now new → AllReplies P new
  settled_quiet false old now x new h = subst (AllReplies P) (sym h.1) tt
  settled_quiet true old now x new (inl h) = subst (AllReplies P) (sym h.3) (client_quiet old.client.u old.client.client old.client.talk x h.0 h.1)
  settled_quiet true old now x new (inr h) = subst (AllReplies P) (sym h.1.2) tt

  ballots_quiet : (new : List (Letter Ballot)) → AllReplies P (map as_sent new)
  ballots_quiet [] = tt
  ballots_quiet (l ∷ new) = (tt, ballots_quiet new)

-- ---- an event

-- more letters were sent, and of each reply among them it holds
abbrev pub Sends : (ℕ → ℕ → replies.Reply → Type 0) → WorldView → WorldView → Type 0
Sends P w x = (new : List (Letter Body)) × (x.letters ≡ w.letters ++ new) × AllReplies P new

-- an input that an event brings; a letter is one of this world
abbrev pub IsBrought : WorldView → of_executor.Input → Type 0
IsBrought w (executor_input.Letter l) = (k : ℕ) × (slice_get w.letters k ≡ Some l)
IsBrought w (executor_input.Cut moment) = Unit {0}
IsBrought w (executor_input.Step place) = Unit {0}
IsBrought w executor_input.Finish = Unit {0}
IsBrought w (executor_input.Adopt t) = ⊥

-- it holds of the replies of each executor that does a step between these worlds
abbrev pub StepsReply : (ℕ → ℕ → replies.Reply → Type 0) → WorldView → WorldView → Type 0
StepsReply P w x = (id : ℕ) (i : of_executor.Input) (e : ExecutorView) → IsBrought w i → slice_get w.executors id ≡ Some (Up e) → slice_get x.executors id ≡ Some (Up (executor_handled e i)) → AllReplies P (executor_outcome e i).letters

module _ (P : ℕ → ℕ → replies.Reply → Type 0) (w x : WorldView) where
  same_letters : x.letters ≡ w.letters → Sends P w x
  same_letters e = ([], e ∙ sym (append-nil w.letters), tt)

  stays : x ≡ w → Sends P w x
  stays e = same_letters (ap (λ (y : WorldView). y.letters) e)

  client_at_given : (i : ℕ) (input : of_client.Input) (o : Option ClientSlot) → ClientAtGiven w i input o x → Sends P w x
  client_at_given i input None h = stays h
  client_at_given i input (Some old) h = (h.1, ap (λ (y : WorldView). y.letters) h.3, settled_quiet P old.client.up old h.0 input h.1 h.2)

  client_given : (c : ℕ) (input : of_client.Input) → ClientGiven w c input x → Sends P w x
  client_given zero input h = stays h
  client_given (suc i) input h = client_at_given i input (slice_get w.clients i) h

  verifier_given : (id : ℕ) (input : of_verifier.Input) (o : Option (Slot VerifierView)) → VerifierAtGiven w id input o x → Sends P w x
  verifier_given id input None h = stays h
  verifier_given id input (Some old) h = (map as_sent h.1, ap (λ (y : WorldView). y.letters) h.3, ballots_quiet P h.1)

  verifier_opened : (id : ℕ) (o : Option (Slot VerifierView)) → VerifierAtOpened w id o x → Sends P w x
  verifier_opened id None h = stays h
  verifier_opened id (Some old) h = (map as_sent h.1, ap (λ (y : WorldView). y.letters) h.3, ballots_quiet P h.1)

  opened_quiet : (u id : ℕ) (o : Option (List ℕ)) (kept : Kept) (e : ExecutorView) (new : List (Letter Body)) → OpensExecutor u id o kept.failures kept.fails_next e new → AllReplies P new
  opened_quiet u id None kept e new h = subst (AllReplies P) (sym h.1) tt
  opened_quiet u id (Some bytes) kept e new h = subst (AllReplies P) (sym h.2) (resumed_replies P u id e.state)

  reopened_quiet : (u id : ℕ) (old now : Slot ExecutorView) (new : List (Letter Body)) → ExecutorReopens u id old now new → AllReplies P new
  reopened_quiet u id (Up e) now new h = subst (AllReplies P) (sym h.1) tt
  reopened_quiet u id (Gone kept) now new h = subst (AllReplies P) (sym h.1) tt
  reopened_quiet u id (Down kept) now new (inl h) = opened_quiet u id kept.saved kept h.1.0 new h.1.2
  reopened_quiet u id (Down kept) now new (inr h) = subst (AllReplies P) (sym h.2) tt

  executor_opened : (id : ℕ) (o : Option (Slot ExecutorView)) → ExecutorAtOpened w id o x → Sends P w x
  executor_opened id None h = stays h
  executor_opened id (Some old) h = (h.1, ap (λ (y : WorldView). y.letters) h.3, reopened_quiet w.u id old h.0 h.1 h.2)

  -- a replica that is opened replies nothing
  pub opening_sends : (r : Replica) → WorldNext w (Restart r) x → Sends P w x
  opening_sends (replica.Executor id) h = executor_opened id (slice_get w.executors id) h
  opening_sends (replica.Verifier id) h = verifier_opened id (slice_get w.verifiers id) h

  module _ (replied : StepsReply P w x) where
    settled : (id : ℕ) (input : of_executor.Input) → IsBrought w input → (old now : Slot ExecutorView) (new : List (Letter Body)) → slice_get w.executors id ≡ Some old → x ≡ with_executor w id now new → ExecutorSettles old input now new → AllReplies P new
    settled id input brought (Up e) now new placed is (inl h) =
        let there : slice_get x.executors id ≡ Some now = ap (λ (y : WorldView). slice_get y.executors id) is ∙ set_get w.executors id now (Up e) placed in
        subst (AllReplies P) (sym h.2) (replied id input e brought placed (there ∙ ap (λ (s : Slot ExecutorView). Some s) h.1))
    settled id input brought (Up e) now new placed is (inr h) = subst (AllReplies P) (sym h.1.2) tt
    settled id input brought (Down kept) now new placed is h = subst (AllReplies P) (sym h.1) tt
    settled id input brought (Gone kept) now new placed is h = subst (AllReplies P) (sym h.1) tt

    executor_given : (id : ℕ) (input : of_executor.Input) → IsBrought w input → (o : Option (Slot ExecutorView)) → slice_get w.executors id ≡ o → ExecutorAtGiven w id input o x → Sends P w x
    executor_given id input brought None placed h = stays h
    executor_given id input brought (Some old) placed h = (h.1, ap (λ (y : WorldView). y.letters) h.3, settled id input brought old h.0 h.1 placed h.3 h.2)

    client_reached : (c : ℕ) (b : Body) → ClientReached w c b x → Sends P w x
    client_reached c (body.Reply number reply) h = client_given c (client_input.Reply number reply) h
    client_reached c (body.Want r) h = stays h
    client_reached c (body.Order b) h = stays h
    client_reached c (body.Need q) h = stays h
    client_reached c (body.Parcel p) h = stays h
    client_reached c (body.Ballot b) h = stays h

    verifier_reached : (l : Letter Body) (id : ℕ) (b : Body) → VerifierReached w l id b x → Sends P w x
    verifier_reached l id (body.Ballot b) h = verifier_given id (verifier_input.Letter (record { from = l.from; to = l.to; body = b })) (slice_get w.verifiers id) h
    verifier_reached l id (body.Want r) h = stays h
    verifier_reached l id (body.Order b) h = stays h
    verifier_reached l id (body.Reply number reply) h = stays h
    verifier_reached l id (body.Need q) h = stays h
    verifier_reached l id (body.Parcel p) h = stays h

    node_reached : (k : ℕ) (l : Letter Body) (to : Node) → slice_get w.letters k ≡ Some l → NodeReached w l to x → Sends P w x
    node_reached k l (node.Client c) at h = client_reached c l.body h
    node_reached k l (node.Executor id) at h = executor_given id (executor_input.Letter l) (k, at) (slice_get w.executors id) refl h
    node_reached k l (node.Verifier id) at h = verifier_reached l id l.body h

    delivery : (k : ℕ) (o : Option (Letter Body)) → slice_get w.letters k ≡ o → IsDelivered w o x → Sends P w x
    delivery k None at h = stays h
    delivery k (Some l) at h = node_reached k l l.to at h

    delivered : (k : ℕ) → IsDelivered w (letter_at w.letters k) x → Sends P w x
    delivered zero h = stays h
    delivered (suc k) h = delivery k (slice_get w.letters k) refl h

    pub event_sends : (e : Event) → WorldNext w e x → Sends P w x
    event_sends (Feed c bytes) h = client_given c (client_input.Feed bytes) h
    event_sends (Again c) h = client_given c client_input.Again h
    event_sends (Hangup c) h = client_given c client_input.Hangup h
    event_sends (Deliver k) h = delivered k h
    event_sends (Cut id moment) h = executor_given id (executor_input.Cut moment) tt (slice_get w.executors id) refl h
    event_sends (Step id place) h = executor_given id (executor_input.Step place) tt (slice_get w.executors id) refl h
    event_sends (Finish id) h = executor_given id executor_input.Finish tt (slice_get w.executors id) refl h
    event_sends (Suspect id) h = verifier_given id verifier_input.Suspect (slice_get w.verifiers id) h
    event_sends (Trim id place) h = verifier_given id (verifier_input.Trim place) (slice_get w.verifiers id) h
    event_sends (Crash (replica.Executor id)) h = same_letters (ap (λ (y : WorldView). y.letters) h)
    event_sends (Crash (replica.Verifier id)) h = same_letters (ap (λ (y : WorldView). y.letters) h)
    event_sends (Restart r) h = opening_sends r h
    event_sends (Lost (replica.Executor id)) h = same_letters (ap (λ (y : WorldView). y.letters) h)
    event_sends (Lost (replica.Verifier id)) h = same_letters (ap (λ (y : WorldView). y.letters) h)
    event_sends (FailSave (replica.Executor id)) h = same_letters (ap (λ (y : WorldView). y.letters) h)
    event_sends (FailSave (replica.Verifier id)) h = same_letters (ap (λ (y : WorldView). y.letters) h)
