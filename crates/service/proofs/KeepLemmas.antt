-- Each call keeps what always holds of a service.
use Rattle.std.proofs.Common.{◌≡◌, ◌⊎◌, ⊎_elim, ℕ, zero, suc, ◌-◌, ◌<◌, ◌≤◌, Bool, List, [], ◌∷◌, ◌++◌, map, length, Option, Some, None, refl, sym, ap, ◌∙◌, subst, arith, slice_get, append_assoc}
use Rattle.std.specs.Prelude.{Contains}
use Rattle.std.proofs.lemmas.List.{append-nil, map-append}
use Rattle.std.proofs.lemmas.List.Elements.{Contains-push, Contains-append_left, Contains-append_right, Contains-append_cases}
use Rattle.proto.specs.declared.command.Command.{Command}
use Rattle.proto.specs.declared.reply.Reply as replies
use Rattle.sessions.specs.declared.request.Request.{Request}
use Rattle.connections.specs.declared.connections.CommandNumber.{CommandNumber}
use Rattle.connections.specs.declared.slots.ConnectionId.{ConnectionId}
use Rattle.loop_messages.specs.declared.message.Said.{Said}
use Rattle.connections.specs.Connections.{ConnectionsView, WasReplied}
use Rattle.connections.proofs.SlotLemmas.{set_get}
use Rattle.connections.proofs.TakeLemmas.{get_pushed, contains_at, one_of}
use Rattle.ensemble.specs.declared.answer.Answer.{Answer}
use Rattle.ensemble.specs.Nodes.{size_of}
use Rattle.ensemble.specs.declared.noted.Noted.{Noted}
use Rattle.ensemble.specs.declared.noted.Noted.TheVariants as noted
use Rattle.ensemble.specs.Ensemble.{EnsembleView, answer_entry, order_entry, moment_entry}
use Rattle.ensemble.proofs.Lists.{place_of}
use Rattle.service.specs.declared.assignment.Assignment.{Assignment}
use Rattle.service.specs.declared.assignment.Outstanding.{Outstanding}
use Rattle.service.specs.declared.note.Waiting.{Waiting}
use Rattle.service.specs.declared.asking.Asking.{Asking}
use Rattle.service.specs.declared.asking.Asking.TheVariants.{Nothing, Asked, Failed}
use Rattle.service.specs.Service.{ServiceView, ReplicasView, IsSameProcess, none_shown, asked_keys, before_ask, IsAnsweredEarlier, command_number_of, IsAssigned, IsService, WaitsAt, Waits, asked_as, assigned_as, assigned, AreLogged, AnswersTo, Gives, GivesNothing, GivesOne, given_entry, passed_entry}
use Rattle.service.proofs.OrderLemmas.{Order, asked_push, none_asked, more_asks_nothing, before_same, before_last, asked_below, asked_count}
use Rattle.service.specs.Steps.{NoneWaits, KeepsWaits, AddsWait, EndsWait, KeepsTaken, IsAskedOf, AsksFor, Settles}
use Rattle.service.specs.Owed.{IsFreeIn, EndsWaitAt}

-- ---- nothing was asked yet

pub first_keeps : (v : ServiceView) → v.assignments ≡ [] → v.asked ≡ [] → v.order ≡ [] → v.connections.replied ≡ [] → NoneWaits v.waiting → IsService v
first_keeps v none none_asked none_ordered none_replied none_waits = record {
  each = λ a i. absurd (empty a (subst (λ (xs : List Assignment). Contains xs a) none i));
  none_else = λ r i. absurd (empty r (subst (λ (xs : List (Request × Bool)). Contains xs r) none_asked i));
  in_order = ap (map asked_as) none_asked ∙ sym (ap (map assigned_as) none);
  once = λ i j a b at_i at_j same turn. let e : ◌≡◌ {A = Option Assignment} None (Some a) = subst (λ (xs : List Assignment). slice_get xs i ≡ Some a) none at_i in absurd (cc e);
  replied = λ e i. absurd (empty e (subst (λ (xs : List (CommandNumber × replies.Reply)). Contains xs e) none_replied i));
  ordered = ap asked_keys none_ordered ∙ sym (ap (map assigned_as) none);
  in_turn = λ i b at_i. let e : ◌≡◌ {A = Option Assignment} None (Some b) = subst (λ (xs : List Assignment). slice_get xs i ≡ Some b) none at_i in absurd (cc e);
  waits = λ a w. absurd (none_waits a w);
  in_own_slot = λ i a w. absurd (none_waits a (i, w.0, w.1, w.2));
  unreplied = λ a w. absurd (none_waits a w);
}
  where
    empty : {X : Type 0} (x : X) → Contains [] x → ⊥
    empty x i = let lt = i.1 in absurd (omega (arith, lt))

-- who waits waited
still_waits : (old new : List (Option Outstanding)) → KeepsWaits old new → (a : Assignment) → Waits new a → Waits old a
still_waits old new keeps a w = let was = keeps w.0 a (w.1, w.2, w.3) in (w.0, was.0, was.1, was.2)

-- who ends a wait adds none
pub ends_keeps : (old new : List (Option Outstanding)) (proxy number : ℕ) (r : Option Outstanding) → EndsWait old proxy number new r → KeepsWaits old new
ends_keeps old new proxy number None e = e
ends_keeps old new proxy number (Some o) e = e.0

-- ---- nothing is asked

pub keeps : (v now : ServiceView) → IsService v → KeepsTaken v.connections now.connections → now.connections.replied ≡ v.connections.replied → now.asked ≡ v.asked
    → ((x : (ℕ × ℕ) × replies.Reply) → Contains v.answered x → Contains now.answered x) → now.assignments ≡ v.assignments → (more : Order) → asked_keys more ≡ [] → now.order ≡ v.order ++ more → KeepsWaits v.waiting now.waiting → IsService now
keeps v now ok taken replied asked answered same more none order waits = record {
  each = λ a i.
      let e = ok.each a (subst (λ (xs : List Assignment). Contains xs a) same i) in
      record {
        command = e.command;
        taken = taken (command_number_of a, e.command) e.taken;
        request = e.request;
        quiet = e.quiet;
        asked = subst (λ (xs : List (Request × Bool)). Contains xs (e.request, e.quiet)) (sym asked) e.asked;
        of_proxy = e.of_proxy;
        numbered = e.numbered;
        same = e.same;
      };
  none_else = λ r i.
      let n = ok.none_else r (subst (λ (xs : List (Request × Bool)). Contains xs r) asked i) in
      (n.0, subst (λ (xs : List Assignment). Contains xs n.0) (sym same) n.1, n.2, n.3);
  in_order = ap (map asked_as) asked ∙ ok.in_order ∙ sym (ap (map assigned_as) same);
  once = λ i j a b at_i at_j.
      ok.once i j a b (subst (λ (xs : List Assignment). slice_get xs i ≡ Some a) same at_i) (subst (λ (xs : List Assignment). slice_get xs j ≡ Some b) same at_j);
  replied = λ e i.
      let r = ok.replied e (subst (λ (xs : List (CommandNumber × replies.Reply)). Contains xs e) replied i) in (
        r.0,
        subst (λ (xs : List Assignment). Contains xs r.0) (sym same) r.1,
        r.2,
        answered ((r.0.proxy, r.0.number), e.1) r.3,
        subst (λ (o : Order). Contains o ((r.0.proxy, r.0.number), noted.Answered)) (sym order) (Contains-append_left v.order more ((r.0.proxy, r.0.number), noted.Answered) r.4),
      );
  ordered = ap asked_keys order ∙ (more_asks_nothing v.order more none ∙ (ok.ordered ∙ sym (ap (map assigned_as) same)));
  in_turn = λ i b at_i turn from_one below.
      let at : slice_get v.assignments i ≡ Some b = subst (λ (xs : List Assignment). slice_get xs i ≡ Some b) same at_i in
      let was = ok.in_turn i b at turn from_one below in
      let before : before_ask i now.order ≡ before_ask i v.order = ap (before_ask i) order ∙ before_same i v.order more (asked_below v ok i b at) in
      record { assignment = was.assignment; assigned = subst (λ (xs : List Assignment). Contains xs was.assignment) (sym same) was.assigned; of_connection = was.of_connection; of_turn = was.of_turn; answered = subst (λ (o : Order). Contains o ((was.assignment.proxy, was.assignment.number), noted.Answered)) (sym before) was.answered };
  waits = λ a w. subst (λ (xs : List Assignment). Contains xs a) (sym same) (ok.waits a (still_waits v.waiting now.waiting waits a w));
  in_own_slot = λ i a w. ok.in_own_slot i a (waits i a w);
  unreplied = λ a w reply was. ok.unreplied a (still_waits v.waiting now.waiting waits a w) reply (subst (λ (xs : List (CommandNumber × replies.Reply)). WasReplied xs a.connection a.turn reply) replied was);
}

-- another queue
pub requeued : (v : ServiceView) (queue : List Waiting) → IsService v → IsService (record v { queue = queue })
requeued v queue ok = keeps v (record v { queue = queue }) ok (λ e i. i) refl refl (λ x i. i) refl [] refl (sym (append-nil v.order)) (λ i a w. w)

-- whatever is seen of the replicas
pub seen : (v : ServiceView) (replicas : ReplicasView) → IsService v → IsService (record v { replicas = replicas })
seen v replicas ok = keeps v (record v { replicas = replicas }) ok (λ e i. i) refl refl (λ x i. i) refl [] refl (sym (append-nil v.order)) (λ i a w. w)

-- the connections alone went on
pub connections_keep : (v : ServiceView) (now : ConnectionsView) → IsService v → now.taken ≡ v.connections.taken → now.replied ≡ v.connections.replied → IsService (record v { connections = now })
connections_keep v now ok taken replied = keeps v (record v { connections = now }) ok (λ e i. subst (λ (xs : List (CommandNumber × Command)). Contains xs e) (sym taken) i) replied refl (λ x i. i) refl [] refl (sym (append-nil v.order)) (λ i a w. w)

-- the replicas worked
pub worked_keeps : (v : ServiceView) (asked : List (Request × Bool)) (answered : List ((ℕ × ℕ) × replies.Reply)) (order : Order) (moment : ℕ) (answers : List Answer) → IsService v → asked ≡ v.asked → answered ≡ v.answered ++ map answer_entry answers → order ≡ (v.order ++ moment_entry moment ∷ []) ++ map order_entry answers
    → IsService (record v { asked = asked; answered = answered; order = order })
worked_keeps v asked answered order moment answers ok same is ordered =
    keeps v (record v { asked = asked; answered = answered; order = order }) ok (λ e i. i) refl same
    (λ x i. subst (λ (xs : List ((ℕ × ℕ) × replies.Reply)). Contains xs x) (sym is) (Contains-append_left v.answered (map answer_entry answers) x i)) refl (moment_entry moment ∷ map order_entry answers) (none_asked answers) (ordered ∙ append_assoc v.order (moment_entry moment ∷ []) (map order_entry answers)) (λ i a w. w)

pub tended_keeps : (v : ServiceView) (asked : List (Request × Bool)) (answered : List ((ℕ × ℕ) × replies.Reply)) (order : Order) (waiting : List (Option Outstanding)) → IsService v → asked ≡ v.asked → answered ≡ v.answered → order ≡ v.order → KeepsWaits v.waiting waiting
    → IsService (record v { asked = asked; answered = answered; order = order; waiting = waiting })
tended_keeps v asked answered order waiting ok same is ordered waits =
    keeps v (record v { asked = asked; answered = answered; order = order; waiting = waiting }) ok (λ e i. i) refl same (λ x i. subst (λ (xs : List ((ℕ × ℕ) × replies.Reply)). Contains xs x) (sym is) i) refl [] refl (ordered ∙ sym (append-nil v.order)) waits

contains_map : {X : Type 0} (of : Answer → X) (answers : List Answer) (a : Answer) → Contains answers a → Contains (map of answers) (of a)
contains_map of [] a i = let lt = i.1 in absurd (omega (arith, lt))
contains_map of (x ∷ answers) a (zero, lt, e) = (zero, omega arith, ap of e)
contains_map of (x ∷ answers) a (suc k, lt, e) = let c = contains_map of answers a (k, omega (arith, lt), e) in let less = c.1 in (suc c.0, omega (arith, less), c.2)

pub are_logged : (answers : List Answer) (old new : List ((ℕ × ℕ) × replies.Reply)) (order order_now : Order) → new ≡ old ++ map answer_entry answers → order_now ≡ order ++ map order_entry answers → AreLogged answers new order_now
are_logged answers old new order order_now is ordered a i = (
  subst (λ (xs : List ((ℕ × ℕ) × replies.Reply)). Contains xs (answer_entry a)) (sym is) (Contains-append_right old (map answer_entry answers) (answer_entry a) (contains_map answer_entry answers a i)),
  subst (λ (xs : Order). Contains xs (order_entry a)) (sym ordered) (Contains-append_right order (map order_entry answers) (order_entry a) (contains_map order_entry answers a i)),
)

-- ---- a command is asked

module _ (v : ServiceView) (ok : IsService v) (at : ConnectionId) (proxy : ℕ) (next : ConnectionsView) (e f : EnsembleView) (same_asked : e.asked ≡ v.asked) (same_answered : e.answered ≡ v.answered) (same_order : e.order ≡ v.order) (a : Assignment) (waiting : List (Option Outstanding)) (queue : List Waiting) (is : IsAskedOf at proxy v.connections next e f a) (free : IsFreeIn v.waiting proxy) (adds : AddsWait v.waiting a waiting) where
  abbrev pub now : ServiceView
  now = record { connections = next; asked = f.asked; answered = f.answered; order = f.order; assignments = v.assignments ++ a ∷ []; waiting = waiting; queue = queue; replicas = none_shown }

  abbrev entry : Request × Bool
  entry = (is.logged.request, is.quiet)

  asked_is : f.asked ≡ v.asked ++ entry ∷ []
  asked_is = is.logged.after ∙ ap (λ (xs : List (Request × Bool)). xs ++ entry ∷ []) same_asked

  answered_is : f.answered ≡ v.answered
  answered_is = is.answered ∙ same_answered

  abbrev ask_entry : (ℕ × ℕ) × Noted
  ask_entry = ((proxy, a.number), noted.Asked)

  order_is : f.order ≡ v.order ++ ask_entry ∷ []
  order_is = is.ordered ∙ ap (λ (o : Order). o ++ ask_entry ∷ []) same_order

  kept : (b : Assignment) → Contains v.assignments b → Contains (v.assignments ++ a ∷ []) b
  kept b i = Contains-append_left v.assignments (a ∷ []) b i

  old_one : (b : Assignment) → IsAssigned v b → IsAssigned now b
  old_one b o = record {
    command = o.command;
    taken = subst (λ (xs : List (CommandNumber × Command)). Contains xs (command_number_of b, o.command)) (sym is.taken) (Contains-append_left v.connections.taken _ (command_number_of b, o.command) o.taken);
    request = o.request;
    quiet = o.quiet;
    asked = subst (λ (xs : List (Request × Bool)). Contains xs (o.request, o.quiet)) (sym asked_is) (Contains-append_left v.asked (entry ∷ []) (o.request, o.quiet) o.asked);
    of_proxy = o.of_proxy;
    numbered = o.numbered;
    same = o.same;
  }

  new_one : IsAssigned now a
  new_one = record {
    command = is.command;
    taken = subst (λ (xs : List (CommandNumber × Command)). Contains xs (command_number_of a, is.command)) (sym (is.taken ∙ ap (λ (n : ℕ). v.connections.taken ++ (record { connection = n; turn = a.turn }, is.command) ∷ []) (sym is.of_connection)))
        (Contains-push v.connections.taken (command_number_of a, is.command));
    request = is.logged.request;
    quiet = is.quiet;
    asked = subst (λ (xs : List (Request × Bool)). Contains xs entry) (sym asked_is) (Contains-push v.asked entry);
    of_proxy = is.logged.of_proxy ∙ sym is.of_proxy;
    numbered = is.logged.numbered;
    same = is.logged.asks;
  }

  -- an assignment before it is of another command
  differs : (b : Assignment) → Contains v.assignments b → b.connection ≡ a.connection → b.turn ≡ a.turn → ⊥
  differs b i same turn =
      let o = ok.each b i in
      let lt = is.first (command_number_of b, o.command) o.taken (same ∙ is.of_connection) in
      absurd (omega (arith, lt, turn))

  same_request : asked_as entry ≡ assigned_as a
  same_request = λ k. ((is.logged.of_proxy ∙ sym is.of_proxy) k, is.logged.numbered k)

  -- a command that was answered before
  answered_before : (b : ℕ) (turn : ℕ) (o p : Order) → p ≡ o → IsAnsweredEarlier v.assignments b turn o → IsAnsweredEarlier now.assignments b turn p
  answered_before b turn o p same was = record { assignment = was.assignment; assigned = kept was.assignment was.assigned; of_connection = was.of_connection; of_turn = was.of_turn; answered = subst (λ (x : Order). Contains x ((was.assignment.proxy, was.assignment.number), noted.Answered)) (sym same) was.answered }

  -- each earlier command of the connection was answered
  earlier_one : (turn : ℕ) → 1 ≤ turn → turn < a.turn → IsAnsweredEarlier v.assignments a.connection turn v.order
  earlier_one turn from_one below =
      let reply = is.earlier turn from_one below in
      let r = ok.replied (record { connection = at.number; turn = turn }, reply.0) reply.1 in
      record { assignment = r.0; assigned = r.1; of_connection = ap (λ (n : CommandNumber). n.connection) r.2 ∙ sym is.of_connection; of_turn = ap (λ (n : CommandNumber). n.turn) r.2; answered = r.4 }

  turn_now : (i : ℕ) (b : Assignment) → slice_get now.assignments i ≡ Some b → (turn : ℕ) → 1 ≤ turn → turn < b.turn → IsAnsweredEarlier now.assignments b.connection turn (before_ask i f.order)
  turn_now i b at_i turn from_one below = ⊎_elim
      (λ (old : slice_get v.assignments i ≡ Some b). answered_before b.connection turn (before_ask i v.order) (before_ask i f.order)
      (ap (before_ask i) order_is ∙ before_same i v.order (ask_entry ∷ []) (asked_below v ok i b old)) (ok.in_turn i b old turn from_one below))
      (λ (new : (i ≡ length v.assignments) × (a ≡ b)).
      let all : before_ask i f.order ≡ v.order = (λ j. before_ask (new.0 j) (order_is j)) ∙ (ap (λ (n : ℕ). before_ask n (v.order ++ ask_entry ∷ [])) (sym (asked_count v ok)) ∙ before_last v.order (proxy, a.number)) in
      let turn_of_a : turn < a.turn = subst (λ (x : Assignment). turn < x.turn) (sym new.1) below in
      subst (λ (x : Assignment). IsAnsweredEarlier now.assignments x.connection turn (before_ask i f.order)) new.1
      (answered_before a.connection turn v.order (before_ask i f.order) all (earlier_one turn from_one turn_of_a)))
      (get_pushed v.assignments a i b at_i)

  pub asked_keeps : IsService now
  asked_keeps = record {
    each = λ b i. ⊎_elim (λ (old : Contains v.assignments b). old_one b (ok.each b old)) (λ (new : Contains (a ∷ []) b). subst (IsAssigned now) (one_of a b new) new_one) (Contains-append_cases v.assignments (a ∷ []) b i);
    none_else = λ r i. ⊎_elim
        (λ (old : Contains v.asked r). let n = ok.none_else r old in (n.0, kept n.0 n.1, n.2, n.3))
        (λ (new : Contains (entry ∷ []) r). subst (λ (x : Request × Bool). (b : Assignment) × Contains (v.assignments ++ a ∷ []) b × (b.proxy ≡ x.0.client) × (b.number ≡ x.0.number)) (one_of entry r new) (a, Contains-push v.assignments a, is.of_proxy ∙ sym is.logged.of_proxy, sym is.logged.numbered))
        (Contains-append_cases v.asked (entry ∷ []) r (subst (λ (xs : List (Request × Bool)). Contains xs r) asked_is i));
    in_order =
        ap (map asked_as) asked_is ∙ map-append asked_as v.asked (entry ∷ [])
        ∙ ap (λ (xs : List (ℕ × ℕ)). xs ++ asked_as entry ∷ []) ok.in_order
        ∙ ap (λ (x : ℕ × ℕ). map assigned_as v.assignments ++ x ∷ []) same_request
        ∙ sym (map-append assigned_as v.assignments (a ∷ []));
    once = λ i j b d at_i at_j same turn. ⊎_elim
        (λ (old : slice_get v.assignments i ≡ Some b). ⊎_elim
        (λ (older : slice_get v.assignments j ≡ Some d). ok.once i j b d old older same turn)
        (λ (new : (j ≡ length v.assignments) × (a ≡ d)). absurd (differs b (contains_at v.assignments i b old) (same ∙ sym (ap (λ (x : Assignment). x.connection) new.1)) (turn ∙ sym (ap (λ (x : Assignment). x.turn) new.1))))
        (get_pushed v.assignments a j d at_j))
        (λ (new : (i ≡ length v.assignments) × (a ≡ b)). ⊎_elim
        (λ (old : slice_get v.assignments j ≡ Some d). absurd (differs d (contains_at v.assignments j d old) (sym same ∙ sym (ap (λ (x : Assignment). x.connection) new.1)) (sym turn ∙ sym (ap (λ (x : Assignment). x.turn) new.1))))
        (λ (newer : (j ≡ length v.assignments) × (a ≡ d)). new.0 ∙ sym newer.0)
        (get_pushed v.assignments a j d at_j))
        (get_pushed v.assignments a i b at_i);
    replied = λ x i.
        let r = ok.replied x (subst (λ (xs : List (CommandNumber × replies.Reply)). Contains xs x) is.bytes.replied i) in (
          r.0,
          kept r.0 r.1,
          r.2,
          subst (λ (xs : List ((ℕ × ℕ) × replies.Reply)). Contains xs ((r.0.proxy, r.0.number), x.1)) (sym answered_is) r.3,
          subst (λ (o : Order). Contains o ((r.0.proxy, r.0.number), noted.Answered)) (sym order_is) (Contains-append_left v.order (ask_entry ∷ []) ((r.0.proxy, r.0.number), noted.Answered) r.4),
        );
    ordered =
        ap asked_keys order_is ∙ (asked_push v.order (proxy, a.number)
        ∙ (ap (λ (xs : List (ℕ × ℕ)). xs ++ (proxy, a.number) ∷ []) ok.ordered
        ∙ (ap (λ (n : ℕ). map assigned_as v.assignments ++ (n, a.number) ∷ []) (sym is.of_proxy)
        ∙ sym (map-append assigned_as v.assignments (a ∷ [])))));
    in_turn = turn_now;
    waits = λ b w. ⊎_elim
        (λ (old : WaitsAt v.waiting w.0 b). kept b (ok.waits b (w.0, old.0, old.1, old.2)))
        (λ (new : (b ≡ a) × (w.0 ≡ a.proxy - 1)). subst (Contains (v.assignments ++ a ∷ [])) (sym new.0) (Contains-push v.assignments a))
        (adds w.0 b (w.1, w.2, w.3));
    in_own_slot = λ i b w. ⊎_elim
        (λ (old : WaitsAt v.waiting i b). ok.in_own_slot i b old)
        (λ (new : (b ≡ a) × (i ≡ a.proxy - 1)).
        let same : b.proxy ≡ a.proxy = ap (λ (x : Assignment). x.proxy) new.0 in
        let here = new.1 in
        let of_proxy = is.of_proxy in
        let numbered = free.1 in
        omega (arith, same, here, of_proxy, numbered))
        (adds i b w);
    unreplied = λ b w reply was.
        let before : WasReplied v.connections.replied b.connection b.turn reply = subst (λ (xs : List (CommandNumber × replies.Reply)). WasReplied xs b.connection b.turn reply) is.bytes.replied was in
        ⊎_elim
        (λ (old : WaitsAt v.waiting w.0 b). ok.unreplied b (w.0, old.0, old.1, old.2) reply before)
        (λ (new : (b ≡ a) × (w.0 ≡ a.proxy - 1)).
        let r = ok.replied (record { connection = b.connection; turn = b.turn }, reply) before in
        differs r.0 r.1 (ap (λ (n : CommandNumber). n.connection) r.2 ∙ ap (λ (x : Assignment). x.connection) new.0) (ap (λ (n : CommandNumber). n.turn) r.2 ∙ ap (λ (x : Assignment). x.turn) new.0))
        (adds w.0 b (w.1, w.2, w.3));
  }

-- whatever came of it
pub assign_keeps : (v : ServiceView) (at : ConnectionId) (proxy : ℕ) (next : ConnectionsView) (e f : EnsembleView) (asking : Asking) (pool waiting : List (Option Outstanding)) (assignments : List Assignment) (said said_now : List Said) (key : ℕ) (queue : List Waiting) → IsService v → e.asked ≡ v.asked → e.answered ≡ v.answered → e.order ≡ v.order → pool ≡ v.waiting → IsFreeIn pool proxy
    → AsksFor at proxy v.connections e next f asking → Settles key asking pool waiting v.assignments assignments said said_now
    → IsService (record { connections = next; asked = f.asked; answered = f.answered; order = f.order; assignments = assignments; waiting = waiting; queue = queue; replicas = none_shown })
assign_keeps v at proxy next e f Nothing pool waiting assignments said said_now key queue ok a b o same free asks settles =
    keeps v _ ok asks.0.taken asks.0.replied (ap (λ (x : EnsembleView). x.asked) asks.0.same ∙ a) (λ x i. subst (λ (xs : List ((ℕ × ℕ) × replies.Reply)). Contains xs x) (sym (ap (λ (y : EnsembleView). y.answered) asks.0.same ∙ b)) i) settles.1 [] refl (ap (λ (y : EnsembleView). y.order) asks.0.same ∙ (o ∙ sym (append-nil v.order))) (λ k y w. subst (λ (ws : List (Option Outstanding)). WaitsAt ws k y) (settles.0 ∙ same) w)
assign_keeps v at proxy next e f (Failed g) pool waiting assignments said said_now key queue ok a b o same free asks settles =
    keeps v _ ok asks.0.taken asks.0.replied (ap (λ (x : EnsembleView). x.asked) asks.0.same ∙ a) (λ x i. subst (λ (xs : List ((ℕ × ℕ) × replies.Reply)). Contains xs x) (sym (ap (λ (y : EnsembleView). y.answered) asks.0.same ∙ b)) i) settles.1 [] refl (ap (λ (y : EnsembleView). y.order) asks.0.same ∙ (o ∙ sym (append-nil v.order))) (λ k y w. subst (λ (ws : List (Option Outstanding)). WaitsAt ws k y) (settles.0 ∙ same) w)
assign_keeps v at proxy next e f (Asked x) pool waiting assignments said said_now key queue ok a b o same free asks settles =
    subst (λ (xs : List Assignment). IsService (record { connections = next; asked = f.asked; answered = f.answered; order = f.order; assignments = xs; waiting = waiting; queue = queue; replicas = none_shown })) (sym settles.1) (asked_keeps v ok at proxy next e f a b o x waiting queue asks (subst (λ (ws : List (Option Outstanding)). IsFreeIn ws proxy) same free) (subst (λ (ws : List (Option Outstanding)). AddsWait ws x waiting) same settles.0))

pub assign_gives : (at : ConnectionId) (proxy : ℕ) (old next : ConnectionsView) (e f : EnsembleView) (asking : Asking) (was waiting : List (Option Outstanding)) (before assignments : List Assignment) (said said_now : List Said) (key : ℕ)
    → AsksFor at proxy old e next f asking → Settles key asking was waiting before assignments said said_now → Gives old said next said_now
assign_gives at proxy old next e f Nothing was waiting before assignments said said_now key asks settles = ([], settles.2 ∙ sym (append-nil said), asks.1 ∙ sym (append-nil old.given), asks.2 ∙ sym (append-nil old.passed))
assign_gives at proxy old next e f (Asked x) was waiting before assignments said said_now key asks settles = ([], settles.2 ∙ sym (append-nil said), asks.bytes.given ∙ sym (append-nil old.given), asks.bytes.passed ∙ sym (append-nil old.passed))
assign_gives at proxy old next e f (Failed g) was waiting before assignments said said_now key asks settles = (g ∷ [], settles.2, asks.1, asks.2)

pub assign_hears : (at : ConnectionId) (proxy : ℕ) (old next : ConnectionsView) (e f : EnsembleView) (asking : Asking) → AsksFor at proxy old e next f asking → next.heard ≡ old.heard
assign_hears at proxy old next e f Nothing asks = asks.0.heard
assign_hears at proxy old next e f (Asked x) asks = asks.bytes.heard
assign_hears at proxy old next e f (Failed g) asks = asks.0.heard

pub assign_size : (at : ConnectionId) (proxy : ℕ) (old next : ConnectionsView) (e f : EnsembleView) (asking : Asking) → AsksFor at proxy old e next f asking → size_of f.nodes ≡ size_of e.nodes
assign_size at proxy old next e f Nothing asks = ap (λ (x : EnsembleView). size_of x.nodes) asks.0.same
assign_size at proxy old next e f (Asked x) asks = asks.size
assign_size at proxy old next e f (Failed g) asks = ap (λ (x : EnsembleView). size_of x.nodes) asks.0.same

-- ---- a reply comes back

pub replied_keeps : (v : ServiceView) (next : ConnectionsView) (waiting : List (Option Outstanding)) (o : Outstanding) (proxy number : ℕ) (reply : replies.Reply) (said said_now : List Said) → IsService v → Contains v.answered ((proxy, number), reply) → Contains v.order ((proxy, number), noted.Answered) → EndsWait v.waiting proxy number waiting (Some o) → EndsWaitAt v.waiting o waiting
    → AnswersTo o.assignment reply v.connections next said said_now → IsService (record v { connections = next; waiting = waiting })
replied_keeps v next waiting o proxy number reply said said_now ok logged in_order ends back to = record {
  each = λ a i.
      let e = ok.each a i in
      record { command = e.command; taken = subst (λ (xs : List (CommandNumber × Command)). Contains xs (command_number_of a, e.command)) (sym to.taken) e.taken; request = e.request; quiet = e.quiet; asked = e.asked; of_proxy = e.of_proxy; numbered = e.numbered; same = e.same };
  none_else = ok.none_else;
  in_order = ok.in_order;
  once = ok.once;
  replied = λ e i. ⊎_elim
      (λ (same : next.replied ≡ v.connections.replied). ok.replied e (subst (λ (xs : List (CommandNumber × replies.Reply)). Contains xs e) same i))
      (λ (more : next.replied ≡ v.connections.replied ++ (command_number_of o.assignment, reply) ∷ []). ⊎_elim
      (λ (old : Contains v.connections.replied e). ok.replied e old)
      (λ (new : Contains ((command_number_of o.assignment, reply) ∷ []) e).
      subst (λ (x : CommandNumber × replies.Reply). (a : Assignment) × Contains v.assignments a × (command_number_of a ≡ x.0) × Contains v.answered ((a.proxy, a.number), x.1) × Contains v.order ((a.proxy, a.number), noted.Answered)) (one_of (command_number_of o.assignment, reply) e new)
      (o.assignment, ok.waits o.assignment ends.1, refl, subst (λ (z : ℕ × ℕ). Contains v.answered (z, reply)) (λ j. (sym ends.2 j, sym ends.3 j)) logged, subst (λ (z : ℕ × ℕ). Contains v.order (z, noted.Answered)) (λ j. (sym ends.2 j, sym ends.3 j)) in_order))
      (Contains-append_cases v.connections.replied ((command_number_of o.assignment, reply) ∷ []) e (subst (λ (xs : List (CommandNumber × replies.Reply)). Contains xs e) more i)))
      to.replied;
  ordered = ok.ordered;
  in_turn = ok.in_turn;
  waits = λ a w. ok.waits a (was_waiting a w);
  in_own_slot = λ i a w. ok.in_own_slot i a (ends.0 i a w);
  unreplied = none_replied;
}
  where
    was_waiting : (a : Assignment) → Waits waiting a → Waits v.waiting a
    was_waiting = still_waits v.waiting waiting ends.0

    -- the slot of the proxy that waited for the reply is empty now
    other_slot : (a : Assignment) → Waits waiting a → o.assignment.connection ≡ a.connection → o.assignment.turn ≡ a.turn → ⊥
    other_slot a w connection turn =
        let first = place_of v.assignments o.assignment (ok.waits o.assignment (back.0, o, back.1, refl)) in
        let second = place_of v.assignments a (ok.waits a (was_waiting a w)) in
        let index : first.0 ≡ second.0 = ok.once first.0 second.0 o.assignment a first.1 second.1 connection turn in
        let both : ◌≡◌ {A = Option Assignment} (Some o.assignment) (Some a) = sym first.1 ∙ (ap (slice_get v.assignments) index ∙ second.1) in
        let same : o.assignment ≡ a = cc both in
        let one : o.assignment.proxy ≡ suc back.0 = ok.in_own_slot back.0 o.assignment (o, back.1, refl) in
        let other : a.proxy ≡ suc w.0 = ok.in_own_slot w.0 a (ends.0 w.0 a (w.1, w.2, w.3)) in
        let proxies : o.assignment.proxy ≡ a.proxy = ap (λ (x : Assignment). x.proxy) same in
        let here : w.0 ≡ back.0 = omega (arith, one, other, proxies) in
        let gone : slice_get waiting back.0 ≡ Some None = ap (λ (xs : List (Option Outstanding)). slice_get xs back.0) back.2 ∙ set_get v.waiting back.0 None (Some o) back.1 in
        let clash : ◌≡◌ {A = Option (Option Outstanding)} (Some None) (Some (Some w.1)) = sym gone ∙ (ap (slice_get waiting) (sym here) ∙ w.2) in
        absurd (cc clash)

    none_replied : (a : Assignment) → Waits waiting a → (r : replies.Reply) → WasReplied next.replied a.connection a.turn r → ⊥
    none_replied a w r was = ⊎_elim
        (λ (same : next.replied ≡ v.connections.replied). ok.unreplied a (was_waiting a w) r (subst (λ (xs : List (CommandNumber × replies.Reply)). WasReplied xs a.connection a.turn r) same was))
        (λ (more : next.replied ≡ v.connections.replied ++ (command_number_of o.assignment, reply) ∷ []). ⊎_elim
        (λ (before : Contains v.connections.replied (record { connection = a.connection; turn = a.turn }, r)). ok.unreplied a (was_waiting a w) r before)
        (λ (new : Contains ((command_number_of o.assignment, reply) ∷ []) (record { connection = a.connection; turn = a.turn }, r)).
        let same = one_of (command_number_of o.assignment, reply) (record { connection = a.connection; turn = a.turn }, r) new in
        other_slot a w (ap (λ (x : CommandNumber × replies.Reply). x.0.connection) same) (ap (λ (x : CommandNumber × replies.Reply). x.0.turn) same))
        (Contains-append_cases v.connections.replied ((command_number_of o.assignment, reply) ∷ []) (record { connection = a.connection; turn = a.turn }, r) (subst (λ (xs : List (CommandNumber × replies.Reply)). WasReplied xs a.connection a.turn r) more was)))
        to.replied

-- ---- what is given

pub gives_none : (v : ConnectionsView) (said : List Said) → Gives v said v said
gives_none v said = ([], sym (append-nil said), sym (append-nil v.given), sym (append-nil v.passed))

logged_on : {X : Type 0} (entry : Said → X) (l0 l1 l2 : List X) (a b : List Said) → l1 ≡ l0 ++ map entry a → l2 ≡ l1 ++ map entry b → l2 ≡ l0 ++ map entry (a ++ b)
logged_on {X} entry l0 l1 l2 a b first second = second ∙ (ap (λ (xs : List X). xs ++ map entry b) first ∙ (append_assoc l0 (map entry a) (map entry b) ∙ ap (λ (xs : List X). l0 ++ xs) (sym (map-append entry a b))))

pub gives_on : (v0 v1 v2 : ConnectionsView) (s0 s1 s2 : List Said) → Gives v0 s0 v1 s1 → Gives v1 s1 v2 s2 → Gives v0 s0 v2 s2
gives_on v0 v1 v2 s0 s1 s2 a b = (
  a.0 ++ b.0,
  b.1 ∙ (ap (λ (xs : List Said). xs ++ b.0) a.1 ∙ append_assoc s0 a.0 b.0),
  logged_on given_entry v0.given v1.given v2.given a.0 b.0 a.2 b.2,
  logged_on passed_entry v0.passed v1.passed v2.passed a.0 b.0 a.3 b.3,
)

-- a reply gives one text, or nothing
pub gives_one : (v now : ConnectionsView) (said said_now : List Said) → GivesNothing v said now said_now ⊎ GivesOne v said now said_now → Gives v said now said_now
gives_one v now said said_now gives = ⊎_elim
    (λ (none : GivesNothing v said now said_now). ([], none.0 ∙ sym (append-nil said), none.1 ∙ sym (append-nil v.given), none.2 ∙ sym (append-nil v.passed)))
    (λ (one : GivesOne v said now said_now). (one.0 ∷ [], one.1, one.2, one.3))
    gives

pub assigned_more : (log : List (Assignment × ℕ)) (e : Assignment × ℕ) → assigned (log ++ e ∷ []) ≡ assigned log ++ e.0 ∷ []
assigned_more log e = map-append (λ (x : Assignment × ℕ). x.0) log (e ∷ [])

-- all that was said in a call
pub gives_all : (v next : ConnectionsView) (before said : List Said) → before ≡ [] → Gives v before next said → (next.given ≡ v.given ++ map given_entry said) × (next.passed ≡ v.passed ++ map passed_entry said)
gives_all v next before said none gives =
    let all : gives.0 ≡ said = sym (gives.1 ∙ ap (λ (xs : List Said). xs ++ gives.0) none) in
    (gives.2 ∙ ap (λ (xs : List Said). v.given ++ map given_entry xs) all, gives.3 ∙ ap (λ (xs : List Said). v.passed ++ map passed_entry xs) all)

-- ---- the same process

pub same_process : (v : ServiceView) → IsSameProcess v v
same_process v = record { dialect = refl; first = refl; found = refl }

pub process_on : (v mid next : ServiceView) → IsSameProcess v mid → IsSameProcess mid next → IsSameProcess v next
process_on v mid next a b = record { dialect = b.dialect ∙ a.dialect; first = b.first ∙ a.first; found = b.found ∙ a.found }

-- a command is asked
pub asks_same : (at : ConnectionId) (proxy : ℕ) (v next : ConnectionsView) (e f : EnsembleView) (asking : Asking) → AsksFor at proxy v e next f asking → (next.dialect ≡ v.dialect) × (next.first ≡ v.first) × (f.found ≡ e.found)
asks_same at proxy v next e f Nothing asks = (asks.0.dialect, asks.0.since, ap (λ (x : EnsembleView). x.found) asks.0.same)
asks_same at proxy v next e f (Asked a) asks = (asks.bytes.dialect, asks.bytes.since, asks.found)
asks_same at proxy v next e f (Failed given) asks = (asks.0.dialect, asks.0.since, ap (λ (x : EnsembleView). x.found) asks.0.same)
