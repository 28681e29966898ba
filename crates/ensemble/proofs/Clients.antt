-- A proxy is a client of the world.
use Rattle.std.proofs.Common.{◌≡◌, ◌⊎◌, inl, inr, ⊎_elim, ℕ, zero, suc, Bool, true, false, List, [], ◌∷◌, ◌++◌, Option, None, Some, slice_get, slice_set, refl, sym, ap, ◌∙◌, subst}
use Rattle.std.specs.Prelude.{Contains, ◌==◌}
use Rattle.std.proofs.lemmas.List.Elements.{Contains-append_left, Contains-append_right}
use Rattle.std.proofs.lemmas.Bool.{eqb-true}
use Rattle.proto.specs.declared.reply.Reply as replies
use Rattle.sessions.specs.declared.request.Request.{Request}
use Rattle.decrees.specs.declared.node.Letter.{Letter}
use Rattle.decrees.specs.declared.node.Node.{Node}
use Rattle.decrees.specs.declared.node.Node.TheVariants as node
use Rattle.exec_lines.specs.declared.body.Body.{Body}
use Rattle.exec_lines.specs.declared.body.Body.TheVariants as body
use Rattle.client.specs.declared.asked.Asked.{Asked}
use Rattle.client.specs.declared.input.Input.{Input}
use Rattle.client.specs.declared.input.Input.TheVariants as input
use Rattle.client.specs.Client.{ClientView}
use Rattle.client.specs.Talk.{Given, wants}
use Rattle.client.specs.Step.{IsClientStep, on_reply}
use Rattle.events.specs.declared.event.Event.TheVariants.{Deliver, Again}
use Rattle.worlds.specs.Clients.{ClientSlot, ClientSettles, ClientSettlesWhere}
use Rattle.worlds.specs.World.{WorldView, WorldNext, ClientAtGiven, ClientGiven, NodeReached, IsDelivered, with_client}
use Rattle.worlds.specs.World as of_world
use Rattle.proxies.specs.Proxy.{ProxyView, answers, has_asked, request_of, talk_of, AnswerIsReplied, AgainIsAsked}
use Rattle.hosts.specs.Host.{HostView}
use Rattle.ensemble.specs.declared.answer.Answer.{Answer}
use Rattle.ensemble.specs.Nodes.{NodesView, ProxyAnswers, IsPosted, AsksAgain}
use Rattle.ensemble.specs.Ensemble.{HasSent, IsLike, client_of}
use Rattle.ensemble.proofs.Lists.{grown, set_cases, length_set, place_of, map_get, get_map, map_set}
use Rattle.ensemble.proofs.Goes.{moves_by, SameProxies, same_proxies, Goes, goes_nowhere}

abbrev client_in : ClientSlot → ClientView
client_in slot = slot.client

-- the client's part that a proxy is, with what its client was given
pub slot_of : (n : NodesView) (w : WorldView) (index : ℕ) (p : ProxyView) → IsLike n w → slice_get n.proxies index ≡ Some p → (slot : ClientSlot) × (slice_get w.clients index ≡ Some slot) × (slot.client ≡ client_of n.u p)
slot_of n w index p like at =
    get_map client_in w.clients index (client_of n.u p) (ap (λ (cs : List ClientView). slice_get cs index) like.clients ∙ map_get (client_of n.u) n.proxies index p at)

-- the client's part after a step that leaves a proxy's talk
pub slot_after : ClientSlot → ClientView → Given → ClientSlot
slot_after slot c g = record { client = record c { talk = g.talk }; given = slot.given ++ g.bytes }

settles_where : (slot : ClientSlot) (c : ClientView) (x : Input) (g : Given) → slot.client ≡ c → c.up ≡ true → IsClientStep c.u c.client c.talk x g → ClientSettles slot x (record { client = record c { talk = g.talk }; given = slot.given ++ g.bytes }) g.letters
settles_where slot c x g is up step =
    let P : ClientView → Type 0 = λ d. ClientSettlesWhere d.up (record { client = d; given = slot.given }) x (record { client = record c { talk = g.talk }; given = slot.given ++ g.bytes }) g.letters in
    subst P (sym is) (subst (λ (b : Bool). ClientSettlesWhere b (record { client = c; given = slot.given }) x (record { client = record c { talk = g.talk }; given = slot.given ++ g.bytes }) g.letters) (sym up)
    (inl (g, step, refl, refl)))

-- the proxy's client was given an input
pub client_given : (n : NodesView) (w : WorldView) (index : ℕ) (p : ProxyView) (slot : ClientSlot) (x : Input) (g : Given) → slice_get w.clients index ≡ Some slot → slot.client ≡ client_of n.u p → IsClientStep n.u p.client (talk_of p) x g
    → ClientGiven w (suc index) x (with_client w index (record { client = record (client_of n.u p) { talk = g.talk }; given = slot.given ++ g.bytes }) g.letters)
client_given n w index p slot x g at is step =
    let after : ClientSlot = record { client = record (client_of n.u p) { talk = g.talk }; given = slot.given ++ g.bytes } in
    subst (λ (o : Option ClientSlot). ClientAtGiven w index x o (with_client w index after g.letters)) (sym at) (after, g.letters, settles_where slot (client_of n.u p) x g is refl step, refl)

still_has : (h : HostView) (id : ℕ) (letters more : List (Letter Body)) → HasSent h id letters → HasSent h id (letters ++ more)
still_has h id letters more has = record {
  held = λ l c. let was = has.held l c in (Contains-append_left letters more l was.0, was.1);
  sent = λ l c. Contains-append_left letters more l (has.sent l c);
}

-- what is under way was so before, or was sent just now
pub posted_from : (n : NodesView) (client : ℕ) (r : Request) (now : NodesView) (letters : List (Letter Body)) → wants n.u client r ≡ letters → IsPosted n client r now → (l : Letter Body) → Contains now.mail l → Contains n.mail l ⊎ Contains letters l
posted_from n client r now letters wanted posted l c = ⊎_elim (λ (old : Contains n.mail l). inl old) (λ (fresh : Contains posted.sent l). inr (subst (λ (ls : List (Letter Body)). Contains ls l) wanted (posted.among l fresh))) (grown n.mail posted.sent now.mail posted.grows l c)

-- so the world stays like the nodes
pub like_client : (n : NodesView) (w : WorldView) (index : ℕ) (p : ProxyView) (slot : ClientSlot) (new mail : List (Letter Body)) → IsLike n w → slot.client ≡ client_of n.u p → ((l : Letter Body) → Contains mail l → Contains n.mail l ⊎ Contains new l)
    → IsLike (record n { proxies = slice_set n.proxies index p; mail = mail }) (with_client w index slot new)
like_client n w index p slot new mail like is from = record {
  same_u = like.same_u;
  executors = like.executors;
  verifiers = like.verifiers;
  clients =
      map_set client_in w.clients index slot
      ∙ ((λ i. slice_set (like.clients i) index (is i)) ∙ sym (map_set (client_of n.u) n.proxies index p));
  mail = λ l c. ⊎_elim (λ (old : Contains n.mail l). Contains-append_left w.letters new l (like.mail l old)) (λ (fresh : Contains new l). Contains-append_right w.letters new l fresh) (from l c);
  hosts = λ j k there. still_has k j w.letters new (like.hosts j k there);
}

-- ---- a reply comes

answered_proxies : (ps : List ProxyView) (index : ℕ) (p q : ProxyView) → slice_get ps index ≡ Some p → q.client ≡ p.client → q.last ≡ p.last → SameProxies ps (slice_set ps index q)
answered_proxies ps index p q at client last = record {
  count = length_set ps index q;
  each = λ i r there. ⊎_elim
      (λ (here : (i ≡ index) × (r ≡ q)). (p, ap (slice_get ps) here.0 ∙ at, ap (λ (x : ProxyView). x.client) here.1 ∙ client, ap (λ (x : ProxyView). x.last) here.1 ∙ last))
      (λ (other : slice_get ps i ≡ Some r). (r, other, refl, refl))
      (set_cases ps index i q r there);
}

-- what was asked under this number
asked_under : (o : Option Asked) (number : ℕ) → has_asked o number ≡ true → (a : Asked) × (o ≡ Some a) × (a.request.number ≡ number)
asked_under None number is = absurd (cc is)
asked_under (Some a) number is = (a, refl, eqb-true a.request.number number is)

-- the step of the client to which the reply comes
replied : AnswerIsReplied → (u : ℕ) (p : ProxyView) (number : ℕ) (reply : replies.Reply) → has_asked p.asked number ≡ true
    → (g : Given) × IsClientStep u p.client (talk_of p) (input.Reply number reply) g × (g.talk ≡ talk_of (answers p number)) × (g.letters ≡ [])
replied law u p number reply is =
    let a = asked_under p.asked number is in
    let step = law u p a.0 reply a.1 in
    let g = on_reply u p.client (talk_of p) number reply in
    let at : g ≡ on_reply u p.client (talk_of p) a.0.request.number reply = ap (λ (k : ℕ). on_reply u p.client (talk_of p) k reply) (sym a.2) in
    (g, refl, ap (λ (x : Given). x.talk) (at ∙ step) ∙ ap (λ (k : ℕ). talk_of (answers p k)) a.2, ap (λ (x : Given). x.letters) (at ∙ step))

-- a reply was sent to the proxy, and is answered
pub answered_goes : {cut : Option ℕ} → AnswerIsReplied → (n : NodesView) (w : WorldView) (l : Letter Body) (client number : ℕ) (reply : replies.Reply) (proxies : List ProxyView) (answer : Option Answer) → IsLike n w → Contains w.letters l → l.to ≡ node.Client client → l.body ≡ body.Reply number reply
    → ProxyAnswers n.proxies client number reply proxies answer → Goes cut n (record n { proxies = proxies }) w
answered_goes {cut} law n w l client number reply proxies answer like was to says r =
    let slot = slot_of n w r.index r.proxy like r.there in
    let step = replied law n.u r.proxy number reply r.was_asked in
    let after : ClientSlot = record { client = record (client_of n.u r.proxy) { talk = step.0.talk }; given = slot.0.given ++ step.0.bytes } in
    let now = with_client w r.index after step.0.letters in
    let given = client_given n w r.index r.proxy slot.0 (input.Reply number reply) step.0 slot.1 slot.2 step.1 in
    let k = place_of w.letters l was in
    let next : WorldNext w (Deliver (suc k.0)) now =
    subst (λ (o : Option (Letter Body)). IsDelivered w o now) (sym k.1)
    (subst (λ (x : Node). NodeReached w l x now) (sym (to ∙ ap node.Client r.at))
    (subst (λ (b : Body). of_world.ClientReached w (suc r.index) b now) (sym says) given)) in
    let is : after.client ≡ client_of n.u (answers r.proxy number) = ap (λ (t : _). record (client_of n.u r.proxy) { talk = t }) step.2 in
    record {
      world = now;
      moves = moves_by w now (Deliver (suc k.0)) step.0.letters next (λ c. refl) (λ m c. absurd (cc c)) refl;
      like = subst (λ (ps : List ProxyView). IsLike (record n { proxies = ps }) now) (sym r.after) (like_client n w r.index (answers r.proxy number) after step.0.letters n.mail like is (λ l c. inl c));
      same_u = refl;
      proxies = subst (SameProxies n.proxies) (sym r.after) (answered_proxies n.proxies r.index r.proxy (answers r.proxy number) r.there refl refl);
    }

-- ---- what is outstanding is sent once more

same_set : (ps : List ProxyView) (index : ℕ) (p : ProxyView) → slice_get ps index ≡ Some p → slice_set ps index p ≡ ps
same_set [] index p at = absurd (cc at)
same_set (q ∷ ps) zero p at = (let here : q ≡ p = cc at in ap (λ (x : ProxyView). x ∷ ps) (sym here))
same_set (q ∷ ps) (suc index) p at = ap (λ (qs : List ProxyView). q ∷ qs) (same_set ps index p at)

asked_of : (o : Option Asked) (r : Request) → request_of o ≡ Some r → (a : Asked) × (o ≡ Some a) × (a.request ≡ r)
asked_of None r e = absurd (cc e)
asked_of (Some a) r e = (a, refl, cc e)

pub again_goes : {cut : Option ℕ} → AgainIsAsked → (n now : NodesView) (w : WorldView) (number : ℕ) → IsLike n w → ((i : ℕ) (p : ProxyView) → slice_get n.proxies i ≡ Some p → p.client ≡ suc i) → AsksAgain n number now → Goes cut n now w
again_goes {cut} law n now w number like numbered (inr same) = goes_nowhere n now w like same
again_goes {cut} law n now w number like numbered (inl (request, r, posted)) =
    let out = asked_of r.proxy.asked request r.is in
    let slot = slot_of n w r.index r.proxy like r.there in
    let g : Given = record { talk = talk_of r.proxy; letters = wants n.u r.proxy.client out.0.request; bytes = [] } in
    let after : ClientSlot = record { client = record (client_of n.u r.proxy) { talk = g.talk }; given = slot.0.given ++ g.bytes } in
    let there = with_client w r.index after g.letters in
    let given = client_given n w r.index r.proxy slot.0 input.Again g slot.1 slot.2 (sym (law n.u r.proxy out.0 out.1)) in
    let own : number ≡ r.proxy.client = r.at ∙ sym (numbered r.index r.proxy r.there) in
    let wanted : wants n.u number request ≡ g.letters = λ i. wants n.u (own i) (sym out.2 i) in
    subst (λ (x : NodesView). Goes cut n x w) (sym posted.after) (record {
      world = there;
      moves = moves_by w there (Again (suc r.index)) g.letters given (λ c. refl) (λ m c. absurd (cc c)) refl;
      like = subst (λ (ps : List ProxyView). IsLike (record n { proxies = ps; mail = now.mail }) there) (same_set n.proxies r.index r.proxy r.there) (like_client n w r.index r.proxy after g.letters now.mail like refl (posted_from n number request now g.letters wanted posted));
      same_u = refl;
      proxies = same_proxies n.proxies n.proxies refl;
    })
