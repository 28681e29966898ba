-- Each call leaves an ensemble of which the same is true.
use Rattle.std.proofs.Common.{◌≡◌, ◌≢◌, ◌⊎◌, inl, inr, ⊎_elim, ℕ, suc, ◌+◌, ◌<◌, ◌^◌, Bool, true, false, List, [], ◌∷◌, ◌++◌, length, Option, None, Some, slice_get, slice_set, refl, sym, ap, ◌∙◌, subst, arith}
use Rattle.std.specs.Prelude.{Contains, ◌==◌}
use Rattle.std.specs.declared.alloc.Global.{Global}
use Rattle.std.specs.declared.vec.Vec.{Vec}
use Rattle.std.proofs.lemmas.List.{append-nil}
use Rattle.std.proofs.lemmas.List.Concat.{flat_map-append}
use Rattle.std.proofs.lemmas.List.Elements.{Contains-append_left, Contains-push, Contains-push_cases}
use Rattle.std.proofs.lemmas.Bool.{eqb-true}
use Rattle.proto.specs.declared.command.Command.{Command}
use Rattle.proto.specs.declared.reply.Reply as replies
use Rattle.proto.specs.declared.turn.Turn.TheVariants.{Ask}
use Rattle.proto.specs.Grammar.{Spells, IsTurnText}
use Rattle.proto.proofs.SpellsLemmas.{alone_small}
use Rattle.sessions.specs.declared.request.Request.{Request}
use Rattle.decrees.specs.declared.node.Letter.{Letter}
use Rattle.decrees.specs.declared.node.Node.{Node}
use Rattle.decrees.specs.declared.node.Node.TheVariants as node
use Rattle.exec_lines.specs.declared.body.Body.{Body}
use Rattle.exec_lines.specs.declared.body.Body.TheVariants as body
use Rattle.exec_lines.specs.declared.input.Input.TheVariants as executor_input
use Rattle.verifier.specs.declared.input.Input.TheVariants as verifier_input
use Rattle.client.specs.declared.input.Input.TheVariants as client_input
use Rattle.client.specs.RequestProofs.{client_number}
use Rattle.client.specs.Talk.{Given, next_request, wants}
use Rattle.events.specs.declared.event.Event.TheVariants.{Feed}
use Rattle.worlds.specs.Clients.{ClientSlot}
use Rattle.slots.specs.Runs.{RunIsSteps}
use Rattle.worlds.specs.World.{WorldView, WorldNext, with_client}
use Rattle.memcached_spec.specs.Fed.{fed_by, fed_to}
use Rattle.proxies.specs.Proxy.{ProxyView, asks, talk_of, AskIsFed, AnswerIsReplied, AgainIsAsked}
use Rattle.hosts.specs.Host.{HostSettles, HostTakes, HostReopens, HostCollects}
use Rattle.ensemble.specs.declared.answer.Answer.{Answer}
use Rattle.ensemble.specs.Nodes.{NodesView, HostMoves, HostAdvances, VerifierMoves, VerifierGets, VerifierOpens, VerifierTrims, ProxyGets, ProxyReached, NodesReached, DeliversOf, Delivers, RunsAll, IsAskedBy, IsPosted, AsksAgain}
use Rattle.memcached_spec.specs.Asked.{HasText}
use Rattle.ensemble.specs.declared.noted.Noted.{Noted}
use Rattle.ensemble.specs.declared.noted.Noted.TheVariants as noted
use Rattle.ensemble.specs.Moments.{now_from, IsNow}
use Rattle.ensemble.specs.Ensemble.{EnsembleView, IsLogged, IsLike, AreCut, IsEnsemble, asks_of, asked_turn, turns_of, client_of, answer_log, order_log}
use Rattle.ensemble.proofs.Lists.{set_split, length_set, in_head, in_tail}
use Rattle.ensemble.proofs.Moments.{Order, cut_by, one_cut, still_cut, cut_moments}
use Rattle.ensemble.proofs.Past.{past_now}
use Rattle.ensemble.proofs.Goes.{Goes, goes_nowhere, AreSent, still_sent, still_past, past_next, uncut_more, reached_more, ensemble_answers, ensemble_stays}
use Rattle.ensemble.proofs.Hosts.{host_goes, acts_takes, acts_cut, acts_opens, acts_collects, acts_advances, runs_goes}
use Rattle.ensemble.proofs.Verifiers.{suspect_goes, trim_goes, open_verifier_goes, reached_goes}
use Rattle.ensemble.proofs.Clients.{slot_of, client_given, posted_from, like_client, answered_goes, again_goes}
use Rattle.ensemble.proofs.Asks.{still_in_order, count_same, count_other, spells_asked, spells_other}
use Rattle.ensemble.proofs.GhostVec.{vec_of}

-- ---- a letter comes

shorter : (n : NodesView) (w : WorldView) (l : Letter Body) (rest : List (Letter Body)) → n.mail ≡ l ∷ rest → IsLike n w → IsLike (record n { mail = rest }) w
shorter n w l rest is like = record {
  same_u = like.same_u;
  executors = like.executors;
  verifiers = like.verifiers;
  clients = like.clients;
  mail = λ x c. like.mail x (subst (λ (ls : List (Letter Body)). Contains ls x) (sym is) (in_tail l x rest c));
  hosts = like.hosts;
}

module _ (law : AnswerIsReplied) (e : EnsembleView) (h : IsEnsemble e) where
  abbrev last : Option ℕ
  last = now_from None e.order

  abbrev After : NodesView → Option Answer → Type 0
  After n answer = IsEnsemble (record { nodes = n; asked = e.asked; answered = e.answered ++ answer_log answer; order = e.order ++ order_log answer; refused = e.refused; found = e.found })

  -- it went on from what is left when a letter was taken
  silent : (mail : List (Letter Body)) (n : NodesView) (answer : Option Answer) → Goes last (record e.nodes { mail = mail }) n h.now → answer ≡ None → After n answer
  silent mail n answer g none =
      let whole : Goes last e.nodes n h.now = record { world = g.world; moves = g.moves; like = g.like; same_u = g.same_u; proxies = g.proxies } in
      subst (λ (o : Option Answer). After n o) (sym none)
      (subst (λ (logs : List ((ℕ × ℕ) × replies.Reply) × List ((ℕ × ℕ) × Noted)). IsEnsemble (record { nodes = n; asked = e.asked; answered = logs.0; order = logs.1; refused = e.refused; found = e.found }))
      (λ i. (sym (append-nil e.answered) i, sym (append-nil e.order) i)) (ensemble_stays e n h whole))

  to_proxy : (l : Letter Body) (rest : List (Letter Body)) (client number : ℕ) (reply : replies.Reply) (proxies : List ProxyView) (answer : Option Answer) → IsLike (record e.nodes { mail = rest }) h.now → Contains h.now.letters l → l.to ≡ node.Client client → l.body ≡ body.Reply number reply
      → ProxyGets e.nodes.proxies client number reply proxies answer → After (record e.nodes { proxies = proxies; mail = rest }) answer
  to_proxy l rest client number reply proxies answer like was to says (inr same) =
      silent rest (record e.nodes { proxies = proxies; mail = rest }) answer
      (goes_nowhere (record e.nodes { mail = rest }) (record e.nodes { proxies = proxies; mail = rest }) h.now like (ap (λ (ps : List ProxyView). record e.nodes { proxies = ps; mail = rest }) same.0)) same.1
  to_proxy l rest client number reply proxies answer like was to says (inl r) =
      let g = answered_goes {cut = last} law (record e.nodes { mail = rest }) h.now l client number reply proxies answer like was to says r in
      let n : NodesView = record e.nodes { proxies = proxies; mail = rest } in
      let whole : Goes last e.nodes n h.now = record { world = g.world; moves = g.moves; like = g.like; same_u = g.same_u; proxies = g.proxies } in
      subst (λ (o : Option Answer). After n o) (sym r.is)
      (ensemble_answers e n h whole client number reply (l, g.moves.grows l was, to, says))

  come : (l : Letter Body) (rest : List (Letter Body)) (n : NodesView) (answer : Option Answer) → IsLike (record e.nodes { mail = rest }) h.now → Contains h.now.letters l → (x : Node) → l.to ≡ x → NodesReached (record e.nodes { mail = rest }) l x n answer → After n answer
  come l rest n answer like was (node.Executor id) to reached =
      silent rest n answer (host_goes (λ a left sent. HostTakes a l left sent) (record e.nodes { mail = rest }) n h.now id like (acts_takes h.now id l was to) reached.0) reached.1
  come l rest n answer like was (node.Verifier id) to reached =
      silent rest n answer (reached_goes (record e.nodes { mail = rest }) n h.now l id like was to reached.0) reached.1
  come l rest n answer like was (node.Client c) to reached = by l.body refl reached
    where
      by : (b : Body) → l.body ≡ b → ProxyReached (record e.nodes { mail = rest }) c b n answer → After n answer
      by (body.Reply number reply) says r = subst (λ (x : NodesView). After x answer) (sym r.2) (to_proxy l rest c number reply r.0 answer like was to says r.1)
      by (body.Want q) says same = silent rest n answer (goes_nowhere (record e.nodes { mail = rest }) n h.now like same.0) same.1
      by (body.Order q) says same = silent rest n answer (goes_nowhere (record e.nodes { mail = rest }) n h.now like same.0) same.1
      by (body.Need q) says same = silent rest n answer (goes_nowhere (record e.nodes { mail = rest }) n h.now like same.0) same.1
      by (body.Parcel q) says same = silent rest n answer (goes_nowhere (record e.nodes { mail = rest }) n h.now like same.0) same.1
      by (body.Ballot q) says same = silent rest n answer (goes_nowhere (record e.nodes { mail = rest }) n h.now like same.0) same.1

  pub deliver_goes : (n : NodesView) (answer : Option Answer) → Delivers e.nodes n answer → After n answer
  deliver_goes n answer d = by e.nodes.mail refl d
    where
      by : (mail : List (Letter Body)) → e.nodes.mail ≡ mail → DeliversOf e.nodes mail n answer → After n answer
      by [] is same = silent e.nodes.mail n answer (goes_nowhere e.nodes n h.now h.like same.0) same.1
      by (l ∷ rest) is reached =
          come l rest n answer (shorter e.nodes h.now l rest is h.like) (h.like.mail l (subst (λ (ls : List (Letter Body)). Contains ls l) (sym is) (in_head l rest))) l.to refl reached

-- ---- one replica, or all executors

module _ (e : EnsembleView) (n : NodesView) (h : IsEnsemble e) where
  abbrev Stays : Type 0
  Stays = IsEnsemble (record e { nodes = n })

  pub take_held_goes : (id : ℕ) → HostMoves HostAdvances id e.nodes n → Stays
  take_held_goes id m = ensemble_stays e n h (host_goes HostAdvances e.nodes n h.now id h.like (acts_advances h.now id) m)

  pub cut_goes : (id moment : ℕ) → IsNow e.order moment → HostMoves (λ a left sent. HostSettles a (executor_input.Cut moment) left sent) id e.nodes n → Stays
  cut_goes id moment at m =
      let goes : Goes (Some moment) e.nodes n h.now = host_goes (λ a left sent. HostSettles a (executor_input.Cut moment) left sent) e.nodes n h.now id h.like (acts_cut h.now id moment) m in
      ensemble_stays e n h (subst (λ (cut : Option ℕ). Goes cut e.nodes n h.now) (sym at) goes)

  pub collect_goes : (id : ℕ) → HostMoves HostCollects id e.nodes n → Stays
  collect_goes id m = ensemble_stays e n h (host_goes HostCollects e.nodes n h.now id h.like (acts_collects h.now id) m)

  pub open_executor_goes : (id : ℕ) → HostMoves (λ a left sent. HostReopens e.nodes.u id a left sent) id e.nodes n ⊎ (n ≡ e.nodes) → Stays
  open_executor_goes id (inr same) = ensemble_stays e n h (goes_nowhere e.nodes n h.now h.like same)
  open_executor_goes id (inl m) = ensemble_stays e n h (host_goes (λ a left sent. HostReopens e.nodes.u id a left sent) e.nodes n h.now id h.like
      (λ a left sent at has did. acts_opens h.now id a left sent at has (subst (λ (u : ℕ). HostReopens u id a left sent) (sym h.like.same_u) did)) m)

  pub open_verifier_at_goes : (id : ℕ) → VerifierMoves (VerifierOpens e.nodes.u id) id e.nodes n ⊎ (n ≡ e.nodes) → Stays
  open_verifier_at_goes id (inr same) = ensemble_stays e n h (goes_nowhere e.nodes n h.now h.like same)
  open_verifier_at_goes id (inl m) = ensemble_stays e n h (open_verifier_goes e.nodes n h.now id h.like m)

  pub suspect_at_goes : (id : ℕ) → VerifierMoves (VerifierGets verifier_input.Suspect) id e.nodes n → Stays
  suspect_at_goes id m = ensemble_stays e n h (suspect_goes e.nodes n h.now id h.like m)

  pub trim_at_goes : (id : ℕ) → VerifierMoves VerifierTrims id e.nodes n → Stays
  trim_at_goes id m = ensemble_stays e n h (trim_goes e.nodes n h.now id h.like m)

  pub run_jobs_goes : RunIsSteps → RunsAll e.nodes n → Stays
  run_jobs_goes steps m = ensemble_stays e n h (runs_goes steps e.nodes n h.now h.like m)

  pub again_at_goes : AgainIsAsked → (number : ℕ) → AsksAgain e.nodes number n → Stays
  again_at_goes law number m = ensemble_stays e n h (again_goes law e.nodes n h.now number h.like (λ i p at. (h.numbered i p at).0) m)

-- ---- a proxy asks

-- what each client was fed spells what it asked
spelled_next : (client index : ℕ) (fed : List ℕ) (bytes : Vec ℕ Global) (asked : List (Request × Bool)) (a : Request × Bool) → Spells fed (turns_of client asked) [] → IsTurnText bytes.items (asked_turn a) → a.0.client ≡ suc index
    → Spells (fed ++ fed_by client (Feed (suc index) bytes)) (turns_of client (asked ++ a ∷ [])) []
spelled_next client index fed bytes asked a spells text of = by (suc index == client) refl
  where
    by : (same : Bool) → (suc index == client) ≡ same → Spells (fed ++ fed_by client (Feed (suc index) bytes)) (turns_of client (asked ++ a ∷ [])) []
    by true e =
        let own : fed_by client (Feed (suc index) bytes) ≡ bytes.items = rw e refl in
        subst (λ (bs : List ℕ). Spells (fed ++ bs) (turns_of client (asked ++ a ∷ [])) []) (sym own)
        (spells_asked client fed bytes.items asked a spells text (of ∙ eqb-true (suc index) client e))
    by false e =
        let none : fed ++ fed_by client (Feed (suc index) bytes) ≡ fed = ap (λ (bs : List ℕ). fed ++ bs) (rw e refl) ∙ append-nil fed in
        subst (λ (bs : List ℕ). Spells bs (turns_of client (asked ++ a ∷ [])) []) (sym none)
        (spells_other client fed asked a spells (ap (λ (k : ℕ). k == client) of ∙ e))

pub asks_goes : AskIsFed → Global → (e : EnsembleView) (h : IsEnsemble e) (mid n : NodesView) (number : ℕ) (command : Command) (quiet : Bool) (r : Request) → HasText command quiet
    → IsAskedBy e.nodes.proxies number command quiet mid.proxies r → mid ≡ record e.nodes { proxies = mid.proxies } → IsPosted mid number r n
    → IsEnsemble (record { nodes = n; asked = e.asked ++ (r, quiet) ∷ []; answered = e.answered; order = e.order ++ ((number, r.number), noted.Asked) ∷ []; refused = e.refused; found = e.found })
asks_goes law alloc e h mid n number command quiet r text a is posted =
    let p = a.proxy in
    let own = text.0 in
    let small : length own < 2 ^ 63 = (let least = alone_small own command quiet text.1 in omega (arith, least)) in
    let bytes : Vec ℕ Global = vec_of alloc own small in
    let asked = asks p command quiet in
    let g : Given = record { talk = talk_of asked; letters = wants e.nodes.u p.client (next_request p.client p.last command); bytes = [] } in
    let slot = slot_of e.nodes h.now a.index p h.like a.there in
    let after : ClientSlot = record { client = record (client_of e.nodes.u p) { talk = g.talk }; given = slot.0.given ++ g.bytes } in
    let now = with_client h.now a.index after g.letters in
    let event = Feed (suc a.index) bytes in
    let fed_step = law e.nodes.u p own command quiet a.free text.1 in
    let next : WorldNext h.now event now = client_given e.nodes h.now a.index p slot.0 (client_input.Feed bytes) g slot.1 slot.2 fed_step in
    let at = h.numbered a.index p a.there in
    let of : r.client ≡ suc a.index = ap (λ (x : Request). x.client) a.is ∙ ap client_number at.0 in
    let numbered : r.number ≡ p.last + 1 = ap (λ (x : Request). x.number) a.is in
    let asks_command : r.command ≡ command = ap (λ (x : Request). x.command) a.is in
    let wanted : wants mid.u number r ≡ g.letters = λ i. wants (ap (λ (x : NodesView). x.u) is i) ((a.at ∙ sym at.0) i) (a.is i) in
    let from : (l : Letter Body) → Contains n.mail l → Contains e.nodes.mail l ⊎ Contains g.letters l = λ l c. subst (λ (ls : List (Letter Body)). Contains ls l ⊎ Contains g.letters l) (ap (λ (x : NodesView). x.mail) is) (posted_from mid number r n g.letters wanted posted l c) in
    let set : NodesView = record e.nodes { proxies = slice_set e.nodes.proxies a.index asked; mail = n.mail } in
    let n_is : n ≡ set = posted.after ∙ (λ i. record (is i) { mail = n.mail }) ∙ ap (λ (ps : List ProxyView). record e.nodes { proxies = ps; mail = n.mail }) a.after in
    let entry : Request × Bool = (r, quiet) in
    let own_text : IsTurnText own (Ask r.command quiet) = subst (λ (c : Command). IsTurnText own (Ask c quiet)) (sym asks_command) text.1 in
    let fed_there = λ (client : ℕ). flat_map-append (fed_by client) h.events (event ∷ []) ∙ ap (λ (bs : List ℕ). fed_to client h.events ++ bs) (append-nil (fed_by client event)) in
    let order : Order = e.order ++ ((number, r.number), noted.Asked) ∷ [] in
    let through = reached_more h.config h.events (event ∷ []) h.now now h.through (now ∷ [], (next, tt), refl) in
    let in_order : (client k : ℕ) (b : Request × Bool) → slice_get (asks_of client (e.asked ++ entry ∷ [])) k ≡ Some b → b.0.number ≡ suc k = λ client. still_in_order client e.asked entry (h.in_order client)
    (λ same. numbered ∙ (ap (λ (k : ℕ). k + 1) (at.1 ∙ ap (λ (k : ℕ). length (asks_of k e.asked)) (sym of ∙ same)) ∙ plus_one (length (asks_of client e.asked)))) in
    let fed : (client : ℕ) → Spells (fed_to client (h.events ++ event ∷ [])) (turns_of client (e.asked ++ entry ∷ [])) [] = λ client. subst (λ (bs : List ℕ). Spells bs (turns_of client (e.asked ++ entry ∷ [])) []) (sym (fed_there client)) (spelled_next client a.index (fed_to client h.events) bytes e.asked entry (h.fed client) own_text of) in
    let answers : AreSent e.answered now.letters = λ b c. still_sent h.now.letters now.letters b.0.0 b.0.1 b.1 (λ l x. Contains-append_left h.now.letters g.letters l x) (h.answers b c) in
    let key : ◌≡◌ {A = ℕ × ℕ} (r.client, r.number) (number, r.number) = λ i. ((of ∙ sym a.at) i, r.number) in
    let ordered_asks : (b : Request × Bool) → Contains (e.asked ++ entry ∷ []) b → Contains order ((b.0.client, b.0.number), noted.Asked) = λ b c. ⊎_elim
    (λ (old : Contains e.asked b). Contains-append_left e.order _ _ (h.ordered_asks b old))
    (λ (same : entry ≡ b). subst (λ (x : Request × Bool). Contains order ((x.0.client, x.0.number), noted.Asked)) same (subst (λ (k : ℕ × ℕ). Contains order (k, noted.Asked)) (sym key) (Contains-push e.order ((number, r.number), noted.Asked))))
    (Contains-push_cases e.asked entry b c) in
    let ordered_answers : (p k : ℕ) → Contains order ((p, k), noted.Answered) → (reply : replies.Reply) × Contains e.answered ((p, k), reply) = λ p k c. ⊎_elim
    (λ (old : Contains e.order ((p, k), noted.Answered)). h.ordered_answers p k old)
    (λ (same : ◌≡◌ {A = (ℕ × ℕ) × Noted} ((number, r.number), noted.Asked) ((p, k), noted.Answered)). absurd (let kinds : noted.Asked ≡ noted.Answered = ap (λ (x : (ℕ × ℕ) × Noted). x.1) same in cc kinds))
    (Contains-push_cases e.order ((number, r.number), noted.Asked) ((p, k), noted.Answered) c) in
    let cuts : AreCut order (h.events ++ event ∷ []) = uncut_more order h.events (event ∷ []) (λ moment c. let none : cut_by event ≡ Some moment = one_cut event moment c in cc none) (still_cut e.order (((number, r.number), noted.Asked) ∷ []) h.events h.cuts) in
    subst (λ (x : NodesView). IsEnsemble (record { nodes = x; asked = e.asked ++ entry ∷ []; answered = e.answered; order = order; refused = e.refused; found = e.found })) (sym n_is) (record {
      config = h.config;
      events = h.events ++ event ∷ [];
      now = now;
      same_u = h.same_u;
      clients = h.clients ∙ sym (length_set e.nodes.proxies a.index asked);
      through = through;
      like = like_client e.nodes h.now a.index asked after g.letters n.mail h.like refl from;
      numbered = λ i q there. ⊎_elim
          (λ (here : (i ≡ a.index) × (q ≡ asked)). (
            ap (λ (x : ProxyView). x.client) here.1 ∙ (at.0 ∙ ap suc (sym here.0)),
            ap (λ (x : ProxyView). x.last) here.1 ∙ (ap (λ (k : ℕ). k + 1) at.1 ∙ (sym (count_same (suc a.index) e.asked entry of) ∙ ap (λ (k : ℕ). length (asks_of (suc k) (e.asked ++ entry ∷ []))) (sym here.0))),
          ))
          (λ (other : (i ≢ a.index) × (slice_get e.nodes.proxies i ≡ Some q)). (
            (h.numbered i q other.1).0,
            (h.numbered i q other.1).1 ∙ sym (count_other (suc i) e.asked entry (λ same. other.0 (let both : suc a.index ≡ suc i = sym of ∙ same in omega (arith, both)))),
          ))
          (set_split e.nodes.proxies a.index i asked q there);
      in_order = in_order;
      fed = fed;
      answers = answers;
      ordered_asks = ordered_asks;
      ordered_answers = ordered_answers;
      cuts = cuts;
      past = past_next (h.events ++ event ∷ []) through.worlds e.order ((number, r.number), noted.Asked)
          (still_past e h (event ∷ []) now (now ∷ [], (next, tt), refl))
          (past_now h.config (h.events ++ event ∷ []) now through (e.asked ++ entry ∷ []) e.answered order in_order fed ordered_asks ordered_answers answers (cut_moments order (h.events ++ event ∷ []) cuts));
    })
  where
    plus_one : (k : ℕ) → k + 1 ≡ suc k
    plus_one k = omega arith

-- and it is logged so
pub asks_logged : (asked : List (Request × Bool)) (proxies old : List ProxyView) (number : ℕ) (command : Command) (quiet : Bool) (r : Request) (now : List (Request × Bool)) → IsAskedBy old number command quiet proxies r → r.client ≡ number → now ≡ asked ++ (r, quiet) ∷ []
    → IsLogged asked number r.number command quiet now
asks_logged asked proxies old number command quiet r now a of is = record {
  request = r;
  of_proxy = of;
  numbered = refl;
  asks = ap (λ (x : Request). x.command) a.is;
  after = is;
}

-- if nothing is answered
pub deliver_none : AnswerIsReplied → (e : EnsembleView) (h : IsEnsemble e) (n : NodesView) (answer : Option Answer) → Delivers e.nodes n answer → answer ≡ None → IsEnsemble (record e { nodes = n })
deliver_none law e h n answer d none =
    subst (λ (logs : List ((ℕ × ℕ) × replies.Reply) × List ((ℕ × ℕ) × Noted)). IsEnsemble (record { nodes = n; asked = e.asked; answered = logs.0; order = logs.1; refused = e.refused; found = e.found }))
    (λ i. (append-nil e.answered i, append-nil e.order i))
    (subst (λ (o : Option Answer). IsEnsemble (record { nodes = n; asked = e.asked; answered = e.answered ++ answer_log o; order = e.order ++ order_log o; refused = e.refused; found = e.found })) none (deliver_goes law e h n answer d))

-- if one is
pub deliver_some : AnswerIsReplied → (e : EnsembleView) (h : IsEnsemble e) (n : NodesView) (answer : Option Answer) (a : Answer) (log : List ((ℕ × ℕ) × replies.Reply)) (order : Order) → Delivers e.nodes n answer → answer ≡ Some a
    → log ≡ e.answered ++ ((a.proxy, a.number), a.reply) ∷ [] → order ≡ e.order ++ ((a.proxy, a.number), noted.Answered) ∷ [] → IsEnsemble (record { nodes = n; asked = e.asked; answered = log; order = order; refused = e.refused; found = e.found })
deliver_some law e h n answer a log order d some is in_order =
    subst (λ (logs : List ((ℕ × ℕ) × replies.Reply) × List ((ℕ × ℕ) × Noted)). IsEnsemble (record { nodes = n; asked = e.asked; answered = logs.0; order = logs.1; refused = e.refused; found = e.found })) (λ i. (sym is i, sym in_order i))
    (subst (λ (o : Option Answer). IsEnsemble (record { nodes = n; asked = e.asked; answered = e.answered ++ answer_log o; order = e.order ++ order_log o; refused = e.refused; found = e.found })) some (deliver_goes law e h n answer d))
