-- A service is served by the one run of its world.
use Rattle.std.proofs.Common.{◌≡◌, ℕ, Bool, List, map, Some, sym, ap, ◌∙◌, subst}
use Rattle.std.specs.Prelude.{Contains, slice_get}
use Rattle.std.specs.Option.{option_map}
use Rattle.std.proofs.lemmas.Option.{slice_get-map}
use Rattle.proto.specs.declared.command.Command.{Command}
use Rattle.proto.specs.declared.reply.Reply as replies
use Rattle.memcached_spec.specs.Asked.{IsAsked}
use Rattle.memcached_spec.specs.Fed.{fed_to}
use Rattle.grammar.proofs.AskLemmas.{shown_imply}
use Rattle.sessions.specs.declared.request.Request.{Request}
use Rattle.executor.specs.declared.answered.Answered.{Answered}
use Rattle.executor.proofs.RoundLemmas.{get_map}
use Rattle.run_laws.specs.Run.{Executed}
use Rattle.one_server_laws.specs.Saved.{IsMet, DigestsAreDistinct}
use Rattle.one_server_laws.specs.Run.{IsRun}
use Rattle.one_server_laws.specs.Laws.{WorldsAreOfOneServer}
use Rattle.connections.specs.declared.connections.CommandNumber.{CommandNumber}
use Rattle.connections.specs.Connections.{bytes_of_connection, WasReplied, IsConnections}
use Rattle.service.specs.declared.assignment.Assignment.{Assignment}
use Rattle.service.specs.Service.{ServiceView, IsService, HasEnsemble, command_number_of, asked_as, assigned_as}
use Rattle.service_laws.specs.Serving.{IsAssignment, WasAnsweredFor, IsConnectionServed, IsServedByOne, IsServedIn, IsServing}
use Rattle.service_laws.proofs.AskedLemmas.{place_of, asks, asked_by, asked_once}
use Rattle.service_laws.proofs.RunLemmas.{has_run}

module _ (v : ServiceView) (talks : IsConnections v.connections) (ok : IsService v) (over : HasEnsemble v) where
  pub is_assignment : (a : Assignment) → Contains v.assignments a → IsAssignment v over.world.events a
  is_assignment a c =
      let is = ok.each a c in
      let of_request = asks over.ensemble over.world (is.request, is.quiet) (subst (λ (xs : List (Request × Bool)). Contains xs (is.request, is.quiet)) (sym over.same_asked) is.asked) in
      record {
        command = is.command;
        of_connection = talks.asked (command_number_of a, is.command) is.taken;
        of_proxy = subst (λ (k : (ℕ × ℕ) × Command). IsAsked (fed_to k.0.0 over.world.events) k.0.1 k.1) (λ i. ((is.of_proxy i, is.numbered i), is.same i)) of_request;
      }

  pub is_assigned : (proxy number : ℕ) (command : Command) → IsAsked (fed_to proxy over.world.events) number command → (a : Assignment) × Contains v.assignments a × (a.proxy ≡ proxy) × (a.number ≡ number)
  is_assigned proxy number command is =
      let r = asked_by over.ensemble over.world proxy number command is in
      let a = ok.none_else r.0 (subst (λ (xs : List (Request × Bool)). Contains xs r.0) over.same_asked r.1) in
      (a.0, a.1, a.2 ∙ r.2, a.3 ∙ r.3)

  -- the request as which the command at this place was asked
  request_there : (i : ℕ) (a : Assignment) → slice_get v.assignments i ≡ Some a → (r : Request × Bool) × (slice_get over.ensemble.asked i ≡ Some r) × (r.0.client ≡ a.proxy) × (r.0.number ≡ a.number)
  request_there i a at =
      let there : slice_get (map asked_as v.asked) i ≡ Some (assigned_as a) = ap (λ (xs : List (ℕ × ℕ)). slice_get xs i) ok.in_order ∙ (slice_get-map assigned_as v.assignments i ∙ ap (option_map assigned_as) at) in
      let r = get_map asked_as v.asked i (assigned_as a) there in
      (r.0, ap (λ (xs : List (Request × Bool)). slice_get xs i) over.same_asked ∙ r.1, ap (λ (x : ℕ × ℕ). x.0) (sym r.2), ap (λ (x : ℕ × ℕ). x.1) (sym r.2))

  pub for_one : (i j : ℕ) (a b : Assignment) → slice_get v.assignments i ≡ Some a → slice_get v.assignments j ≡ Some b → a.proxy ≡ b.proxy → a.number ≡ b.number → i ≡ j
  for_one i j a b at_i at_j proxy number =
      let q = request_there i a at_i in
      let r = request_there j b at_j in
      asked_once over.ensemble over.world i j q.0 r.0 q.1 r.1 (q.2 ∙ (proxy ∙ sym r.2)) (q.3 ∙ (number ∙ sym r.3))

  -- two assignments of one command are one
  same_assignment : (a b : Assignment) → Contains v.assignments a → Contains v.assignments b → a.connection ≡ b.connection → a.turn ≡ b.turn → a ≡ b
  same_assignment a b in_a in_b connection turn =
      let at_a = place_of v.assignments a in_a in
      let at_b = place_of v.assignments b in_b in
      let place = ok.once at_a.0 at_b.0 a b at_a.1 at_b.1 connection turn in
      cc (sym at_a.1 ∙ (ap (slice_get v.assignments) place ∙ at_b.1))

  module _ (run : List Executed) (is : IsRun (IsMet over.world.through.worlds) over.world.events over.world.now run) where
    was_answered : (connection turn : ℕ) (reply : replies.Reply) → WasReplied v.connections.replied connection turn reply → WasAnsweredFor run v.assignments connection turn reply
    was_answered connection turn reply w =
        let r = ok.replied (record { connection = connection; turn = turn }, reply) w in
        let sent = over.world.answers ((r.0.proxy, r.0.number), reply) (subst (λ (xs : List ((ℕ × ℕ) × replies.Reply)). Contains xs ((r.0.proxy, r.0.number), reply)) (sym over.same_answered) r.3) in
        (r.0, r.1, ap (λ (n : CommandNumber). n.connection) r.2, ap (λ (n : CommandNumber). n.turn) r.2, is.replied r.0.proxy r.0.number reply sent)

    pub is_served : (connection : ℕ) → IsConnectionServed v.connections.dialect run v.assignments connection (bytes_of_connection connection v.connections.heard) (bytes_of_connection connection v.connections.given)
    is_served connection =
        let a = talks.answered connection in
        record { taken = a.taken; texts = shown_imply (WasReplied v.connections.replied connection) (WasAnsweredFor run v.assignments connection) (was_answered connection) 1 a.taken (bytes_of_connection connection v.connections.given) a.texts; first = a.first }

    pub one_reply : (connection turn : ℕ) (r s : replies.Reply) → WasAnsweredFor run v.assignments connection turn r → WasAnsweredFor run v.assignments connection turn s → r ≡ s
    one_reply connection turn r s x y =
        let same = same_assignment x.0 y.0 x.1 y.1 (x.2 ∙ sym y.2) (x.3 ∙ sym y.3) in
        let one = is.once x.4.place y.4.place x.4.answered y.4.answered x.4.given y.4.given (x.4.client_is ∙ (ap (λ (a : Assignment). a.proxy) same ∙ sym y.4.client_is)) (x.4.number_is ∙ (ap (λ (a : Assignment). a.number) same ∙ sym y.4.number_is)) in
        sym x.4.reply_is ∙ (ap (λ (a : Answered). a.reply) one.1 ∙ y.4.reply_is)

  served_by_one : WorldsAreOfOneServer → DigestsAreDistinct over.world.through.worlds → (run : List Executed) × IsServedByOne v over run
  served_by_one law distinct =
      let r = has_run law over.world.config over.world.events over.world.now over.world.through distinct in
      (r.0, record { is_run = r.1; served = is_served r.0 r.1; one_reply = one_reply r.0 r.1 })

  pub served_in : WorldsAreOfOneServer → IsServedIn v over
  served_in law = record { each = is_assignment; none_else = is_assigned; one_run = served_by_one law }

pub is_serving : (v : ServiceView) → IsConnections v.connections → IsService v → HasEnsemble v → WorldsAreOfOneServer → IsServing v
is_serving v talks ok over law = record { has_world = over; in_each = λ each. served_in v talks ok each law; once = ok.once; for_one = for_one v talks ok over }
