-- How nodes and a world that is like them go on.
use Rattle.std.proofs.Common.{◌≡◌, ⊎_elim, ℕ, Bool, Option, List, [], ◌∷◌, ◌++◌, length, None, Some, slice_get, refl, sym, ap, ◌∙◌, subst}
use Rattle.std.specs.Prelude.{Contains}
use Rattle.std.proofs.lemmas.List.{append-nil}
use Rattle.std.proofs.lemmas.List.Concat.{flat_map-append}
use Rattle.std.proofs.lemmas.List.Elements.{Contains-append_left, Contains-append_right, Contains-push, Contains-push_cases}
use Rattle.proto.specs.declared.reply.Reply as replies
use Rattle.proto.specs.Grammar.{Spells}
use Rattle.sessions.specs.declared.request.Request.{Request}
use Rattle.decrees.specs.declared.node.Letter.{Letter}
use Rattle.exec_lines.specs.declared.body.Body.{Body}
use Rattle.events.specs.declared.event.Event.{Event}
use Rattle.events.specs.declared.event.Event.TheVariants.{Cut}
use Rattle.memcached_spec.specs.Asked.{IsAsked}
use Rattle.proto.specs.declared.command.Command.{Command}
use Rattle.events.specs.Config.{ConfigView}
use Rattle.worlds.specs.World.{WorldView, WorldNext, WorldRuns, last_world, ReachedWorlds, EndsWith, IsReached}
use Rattle.memcached_spec.specs.Fed.{fed_by, fed_to, IsMoment}
use Rattle.worlds.specs.Asked.{WasSent}
use Rattle.worlds.proofs.LeadLemmas.{LeadsTo, leads_nowhere, leads_append, runs_append, last_append}
use Rattle.proxies.specs.Proxy.{ProxyView}
use Rattle.ensemble.specs.declared.noted.Noted.{Noted}
use Rattle.ensemble.specs.declared.noted.Noted.TheVariants as noted
use Rattle.ensemble.specs.Nodes.{NodesView}
use Rattle.ensemble.specs.Moments.{now_from, IsNow}
use Rattle.ensemble.specs.Ensemble.{EnsembleView, IsLike, IsPast, IsCutAt, AreCut, IsEnsemble, turns_of, moment_entry}
use Rattle.ensemble.proofs.Lists.{in_head}
use Rattle.ensemble.proofs.Moments.{Order, cut_by, one_cut, no_cut, cut_cases, still_cut, cut_moments, two_splits}
use Rattle.ensemble.proofs.Past.{longer_split, past_more, past_now, asked_in_order}

-- ---- worlds

-- events lead there that feed nobody, and cut at no other moment than this; letters are not lost
pub record Moves (cut : Option ℕ) (w now : WorldView) : Type 0 where
  pub events : List Event
  pub leads : LeadsTo w events now
  pub unfed : (client : ℕ) → fed_to client events ≡ []
  pub grows : (l : Letter Body) → Contains w.letters l → Contains now.letters l
  pub cuts : (moment : ℕ) → IsMoment events moment → cut ≡ Some moment

pub stays : {cut : Option ℕ} → (w now : WorldView) → now ≡ w → Moves cut w now
stays w now same = record {
  events = [];
  leads = subst (λ (x : WorldView). LeadsTo w [] x) (sym same) (leads_nowhere w);
  unfed = λ client. refl;
  grows = λ l c. subst (λ (x : WorldView). Contains x.letters l) (sym same) c;
  cuts = λ moment c. no_cut moment c;
}

-- by one event
pub moves_by : {cut : Option ℕ} → (w now : WorldView) (e : Event) (new : List (Letter Body)) → WorldNext w e now → ((client : ℕ) → fed_by client e ≡ []) → ((moment : ℕ) → cut_by e ≡ Some moment → cut ≡ Some moment) → now.letters ≡ w.letters ++ new → Moves cut w now
moves_by w now e new next unfed cuts sent = record {
  events = e ∷ [];
  leads = (now ∷ [], (next, tt), refl);
  unfed = λ client. append-nil (fed_by client e) ∙ unfed client;
  grows = λ l c. subst (λ (ls : List (Letter Body)). Contains ls l) (sym sent) (Contains-append_left w.letters new l c);
  cuts = λ moment c. cuts moment (one_cut e moment c);
}

fed_both : (client : ℕ) (es fs : List Event) → fed_to client (es ++ fs) ≡ fed_to client es ++ fed_to client fs
fed_both client es fs = flat_map-append (fed_by client) es fs

pub moves_on : {cut : Option ℕ} → (a b c : WorldView) → Moves cut a b → Moves cut b c → Moves cut a c
moves_on a b c p q = record {
  events = p.events ++ q.events;
  leads = leads_append a b c p.events q.events p.leads q.leads;
  unfed = λ client. fed_both client p.events q.events ∙ (λ i. p.unfed client i ++ q.unfed client i);
  grows = λ l in_a. q.grows l (p.grows l in_a);
  cuts = λ moment i. ⊎_elim (λ (old : IsMoment p.events moment). p.cuts moment old) (λ (new : IsMoment q.events moment). q.cuts moment new) (cut_cases p.events q.events moment i);
}

reached_by : (config : ConfigView) (es fs : List Event) (w now : WorldView) (worlds : List WorldView) → ReachedWorlds config es worlds → EndsWith worlds w → LeadsTo w fs now → IsReached config (es ++ fs) now
reached_by config es fs w now [] reached ends leads = absurd reached
reached_by config es fs w now (first ∷ later) reached ends leads = record {
  worlds = first ∷ (later ++ leads.0);
  reached = (reached.0, runs_append first es fs later leads.0 reached.1 (subst (λ (x : WorldView). WorldRuns x fs leads.0) (sym ends) leads.1));
  ends = last_append first later leads.0 ∙ (ap (λ (x : WorldView). last_world x leads.0) ends ∙ leads.2);
}

pub reached_more : (config : ConfigView) (es fs : List Event) (w now : WorldView) → IsReached config es w → LeadsTo w fs now → IsReached config (es ++ fs) now
reached_more config es fs w now r leads = reached_by config es fs w now r.worlds r.reached r.ends leads

worlds_by : (config : ConfigView) (es fs : List Event) (w now : WorldView) (worlds : List WorldView) (reached : ReachedWorlds config es worlds) (ends : EndsWith worlds w) (leads : LeadsTo w fs now) → (reached_by config es fs w now worlds reached ends leads).worlds ≡ worlds ++ leads.0
unfolding reached_by
worlds_by config es fs w now [] reached ends leads = absurd reached
worlds_by config es fs w now (first ∷ later) reached ends leads = refl

-- its worlds are those of before and those that the events led to
pub worlds_more : (config : ConfigView) (es fs : List Event) (w now : WorldView) (r : IsReached config es w) (leads : LeadsTo w fs now) → (reached_more config es fs w now r leads).worlds ≡ r.worlds ++ leads.0
unfolding reached_more
worlds_more config es fs w now r leads = worlds_by config es fs w now r.worlds r.reached r.ends leads

-- ---- nodes

-- the same proxies, whatever they wait for
pub record SameProxies (old now : List ProxyView) : Type 0 where
  pub count : length now ≡ length old
  pub each : (i : ℕ) (p : ProxyView) → slice_get now i ≡ Some p → (q : ProxyView) × (slice_get old i ≡ Some q) × (p.client ≡ q.client) × (p.last ≡ q.last)

pub same_proxies : (old now : List ProxyView) → now ≡ old → SameProxies old now
same_proxies old now same = subst (SameProxies old) (sym same) (record { count = refl; each = λ i p at. (p, at, refl, refl) })

-- the nodes went on, and so did the world
pub record Goes (cut : Option ℕ) (n now : NodesView) (w : WorldView) : Type 0 where
  pub world : WorldView
  pub moves : Moves cut w world
  pub like : IsLike now world
  pub same_u : now.u ≡ n.u
  pub proxies : SameProxies n.proxies now.proxies

pub goes_nowhere : {cut : Option ℕ} → (n now : NodesView) (w : WorldView) → IsLike n w → now ≡ n → Goes cut n now w
goes_nowhere n now w like same = record {
  world = w;
  moves = stays w w refl;
  like = subst (λ (x : NodesView). IsLike x w) (sym same) like;
  same_u = ap (λ (x : NodesView). x.u) same;
  proxies = same_proxies n.proxies now.proxies (ap (λ (x : NodesView). x.proxies) same);
}

pub goes_on : {cut : Option ℕ} → (a b c : NodesView) (w : WorldView) (p : Goes cut a b w) → Goes cut b c p.world → Goes cut a c w
goes_on a b c w p q = record {
  world = q.world;
  moves = moves_on w p.world q.world p.moves q.moves;
  like = q.like;
  same_u = q.same_u ∙ p.same_u;
  proxies = record {
    count = q.proxies.count ∙ p.proxies.count;
    each = λ i r at.
        let mid = q.proxies.each i r at in
        let first = p.proxies.each i mid.0 mid.1 in
        (first.0, first.1, mid.2 ∙ first.2, mid.3 ∙ first.3);
  };
}

-- ---- the ensemble

pub still_sent : (letters more : List (Letter Body)) (client number : ℕ) (reply : replies.Reply) → ((l : Letter Body) → Contains letters l → Contains more l) → WasSent letters client number reply → WasSent more client number reply
still_sent letters more client number reply grows sent = (sent.0, grows sent.0 sent.1, sent.2, sent.3)

-- what was answered now was sent
abbrev pub AreSent : List ((ℕ × ℕ) × replies.Reply) → List (Letter Body) → Type 0
AreSent answered letters = (a : (ℕ × ℕ) × replies.Reply) → Contains answered a → WasSent letters a.0.0 a.0.1 a.1

-- what was fed to a client is what it was, since nobody was fed
still_fed : {cut : Option ℕ} → (w now : WorldView) (m : Moves cut w now) (events : List Event) (client : ℕ) → fed_to client (events ++ m.events) ≡ fed_to client events
still_fed w now m events client = fed_both client events m.events ∙ (ap (λ (bytes : List ℕ). fed_to client events ++ bytes) (m.unfed client) ∙ append-nil (fed_to client events))

-- each beginning of the order that was there is still a moment
pub still_past : (e : EnsembleView) (h : IsEnsemble e) (more : List Event) (now : WorldView) (leads : LeadsTo h.now more now) (early late : Order) → e.order ≡ early ++ late
    → IsPast (h.events ++ more) (reached_more h.config h.events more h.now now h.through leads).worlds early
still_past e h more now leads early late is =
    subst (λ (ws : List WorldView). IsPast (h.events ++ more) ws early) (sym (worlds_more h.config h.events more h.now now h.through leads))
    (past_more h.events more h.through.worlds leads.0 early (h.past early late is))

-- and if one thing more is noted, each beginning of that is one too
pub past_next : (events : List Event) (worlds : List WorldView) (order : Order) (x : (ℕ × ℕ) × Noted) → ((early late : Order) → order ≡ early ++ late → IsPast events worlds early) → IsPast events worlds (order ++ x ∷ [])
    → (early late : Order) → order ++ x ∷ [] ≡ early ++ late → IsPast events worlds early
past_next events worlds order x were now early late is = ⊎_elim
    (λ (old : (rest : Order) × (order ≡ early ++ rest)). were early old.0 old.1)
    (λ (whole : early ≡ order ++ x ∷ []). subst (λ (o : Order). IsPast events worlds o) (sym whole) now)
    (longer_split order x early late is)

-- ---- cuts

-- no more cuts
pub uncut_more : (order : Order) (events more : List Event) → ((moment : ℕ) → IsMoment more moment → ⊥) → AreCut order events → AreCut order (events ++ more)
uncut_more order events more none cuts before after executor moment is = ⊎_elim
    (λ (old : (mid : List Event) × (events ≡ before ++ Cut executor moment ∷ mid)). cuts before old.0 executor moment old.1)
    (λ (new : (mid : List Event) × (before ≡ events ++ mid) × (more ≡ mid ++ Cut executor moment ∷ after)). absurd (none moment (executor, in_these_events more new.0 after executor moment new.2)))
    (two_splits events more before (Cut executor moment) after is)
  where
    in_these_events : (more mid after : List Event) (executor moment : ℕ) → more ≡ mid ++ Cut executor moment ∷ after → Contains more (Cut executor moment)
    in_these_events more mid after executor moment is = subst (λ (es : List Event). Contains es (Cut executor moment)) (sym is) (Contains-append_right mid (Cut executor moment ∷ after) (Cut executor moment) (in_head (Cut executor moment) after))

none_before : (xs ys : List ℕ) → xs ++ ys ≡ [] → xs ≡ []
none_before [] ys is = refl
none_before (x ∷ xs) ys is = absurd (cc is)

-- more cuts, at the moment of now
cut_more : (order : Order) (events more : List Event) → ((moment : ℕ) → IsMoment more moment → IsNow order moment) → ((client : ℕ) → fed_to client more ≡ [])
    → ((client number : ℕ) (command : Command) → IsAsked (fed_to client events) number command → Contains order ((client, number), noted.Asked)) → AreCut order events → AreCut order (events ++ more)
cut_more order events more now unfed asked cuts before after executor moment is = ⊎_elim
    (λ (old : (mid : List Event) × (events ≡ before ++ Cut executor moment ∷ mid)). cuts before old.0 executor moment old.1)
    (λ (new : (mid : List Event) × (before ≡ events ++ mid) × (more ≡ mid ++ Cut executor moment ∷ after)). here new.0 new.1 new.2)
    (two_splits events more before (Cut executor moment) after is)
  where
    here : (mid : List Event) → before ≡ events ++ mid → more ≡ mid ++ Cut executor moment ∷ after → IsCutAt order before moment
    here mid front back = record {
      early = order;
      late = [];
      split = sym (append-nil order);
      now = now moment (executor, subst (λ (es : List Event). Contains es (Cut executor moment)) (sym back) (Contains-append_right mid (Cut executor moment ∷ after) (Cut executor moment) (in_head (Cut executor moment) after)));
      asked = λ client number command was. asked client number command (subst (λ (bytes : List ℕ). IsAsked bytes number command) (same client) was);
    }
      where
        same : (client : ℕ) → fed_to client before ≡ fed_to client events
        same client =
            let none : fed_to client mid ≡ [] = none_before (fed_to client mid) (fed_to client (Cut executor moment ∷ after)) (sym (fed_both client mid (Cut executor moment ∷ after)) ∙ (ap (fed_to client) (sym back) ∙ unfed client)) in
            ap (fed_to client) front ∙ (fed_both client events mid ∙ (ap (λ (bytes : List ℕ). fed_to client events ++ bytes) none ∙ append-nil (fed_to client events)))

-- nothing was answered
pub ensemble_stays : (e : EnsembleView) (n : NodesView) (h : IsEnsemble e) → Goes (now_from None e.order) e.nodes n h.now → IsEnsemble (record e { nodes = n })
ensemble_stays e n h g = record {
  config = h.config;
  events = h.events ++ g.moves.events;
  now = g.world;
  same_u = h.same_u ∙ sym g.same_u;
  clients = h.clients ∙ sym g.proxies.count;
  through = reached_more h.config h.events g.moves.events h.now g.world h.through g.moves.leads;
  like = g.like;
  numbered = λ i p at. let old = g.proxies.each i p at in let was = h.numbered i old.0 old.1 in (old.2 ∙ was.0, old.3 ∙ was.1);
  in_order = h.in_order;
  fed = λ client. subst (λ (bytes : List ℕ). Spells bytes (turns_of client e.asked) []) (sym (still_fed h.now g.world g.moves h.events client)) (h.fed client);
  answers = λ a c. still_sent h.now.letters g.world.letters a.0.0 a.0.1 a.1 g.moves.grows (h.answers a c);
  ordered_asks = h.ordered_asks;
  ordered_answers = h.ordered_answers;
  cuts = cut_more e.order h.events g.moves.events g.moves.cuts g.moves.unfed (λ client number command is. asked_in_order client (fed_to client h.events) e.asked e.order (h.in_order client) (h.fed client) h.ordered_asks number command is) h.cuts;
  past = λ early late is. still_past e h g.moves.events g.world g.moves.leads early late is;
}

in_longer : {X : Type 0} (xs : List X) (y x : X) → Contains xs x → Contains (xs ++ y ∷ []) x
in_longer xs y x c = Contains-append_left xs (y ∷ []) x c

-- one request was answered
pub ensemble_answers : (e : EnsembleView) (n : NodesView) (h : IsEnsemble e) (g : Goes (now_from None e.order) e.nodes n h.now) (client number : ℕ) (reply : replies.Reply) → WasSent g.world.letters client number reply
    → IsEnsemble (record { nodes = n; asked = e.asked; answered = e.answered ++ ((client, number), reply) ∷ []; order = e.order ++ ((client, number), noted.Answered) ∷ []; refused = e.refused; found = e.found })
unfolding ensemble_stays
ensemble_answers e n h g client number reply sent =
    let stays = ensemble_stays e n h g in
    let answered : List ((ℕ × ℕ) × replies.Reply) = e.answered ++ ((client, number), reply) ∷ [] in
    let order : Order = e.order ++ ((client, number), noted.Answered) ∷ [] in
    let entry : (ℕ × ℕ) × Noted = ((client, number), noted.Answered) in
    let cuts : AreCut order stays.events = still_cut e.order (entry ∷ []) stays.events stays.cuts in
    let answers : AreSent answered g.world.letters = λ a c. ⊎_elim
    (λ (old : Contains e.answered a). stays.answers a old)
    (λ (same : ((client, number), reply) ≡ a). subst (λ (x : (ℕ × ℕ) × replies.Reply). WasSent g.world.letters x.0.0 x.0.1 x.1) same sent)
    (Contains-push_cases e.answered ((client, number), reply) a c) in
    let ordered_asks : (a : Request × Bool) → Contains e.asked a → Contains order ((a.0.client, a.0.number), noted.Asked) = λ a c. in_longer e.order ((client, number), noted.Answered) ((a.0.client, a.0.number), noted.Asked) (h.ordered_asks a c) in
    let ordered_answers : (p k : ℕ) → Contains order ((p, k), noted.Answered) → (r : replies.Reply) × Contains answered ((p, k), r) = λ p k c. ⊎_elim
    (λ (old : Contains e.order ((p, k), noted.Answered)). let was = h.ordered_answers p k old in (was.0, in_longer e.answered ((client, number), reply) ((p, k), was.0) was.1))
    (λ (same : ◌≡◌ {A = (ℕ × ℕ) × Noted} ((client, number), noted.Answered) ((p, k), noted.Answered)). (reply, subst (λ (x : (ℕ × ℕ) × Noted). Contains answered (x.0, reply)) same (Contains-push e.answered ((client, number), reply))))
    (Contains-push_cases e.order ((client, number), noted.Answered) ((p, k), noted.Answered) c) in
    record {
      config = stays.config;
      events = stays.events;
      now = stays.now;
      same_u = stays.same_u;
      clients = stays.clients;
      through = stays.through;
      like = stays.like;
      numbered = stays.numbered;
      in_order = stays.in_order;
      fed = stays.fed;
      answers = answers;
      ordered_asks = ordered_asks;
      ordered_answers = ordered_answers;
      cuts = cuts;
      past = past_next stays.events stays.through.worlds e.order entry stays.past
          (past_now stays.config stays.events stays.now stays.through e.asked answered order stays.in_order stays.fed ordered_asks ordered_answers answers (cut_moments order stays.events cuts));
    }

-- a moment was handed in
pub ensemble_noted : (e : EnsembleView) (moment : ℕ) (order : Order) → order ≡ e.order ++ moment_entry moment ∷ [] → IsEnsemble e → IsEnsemble (record e { order = order })
ensemble_noted e moment order is h =
    let entry = moment_entry moment in
    let noted_so : Order = e.order ++ entry ∷ [] in
    let ordered_asks : (a : Request × Bool) → Contains e.asked a → Contains noted_so ((a.0.client, a.0.number), noted.Asked) = λ a c. in_longer e.order entry ((a.0.client, a.0.number), noted.Asked) (h.ordered_asks a c) in
    let ordered_answers : (p k : ℕ) → Contains noted_so ((p, k), noted.Answered) → (r : replies.Reply) × Contains e.answered ((p, k), r) = λ p k c. ⊎_elim
    (λ (old : Contains e.order ((p, k), noted.Answered)). h.ordered_answers p k old)
    (λ (same : ◌≡◌ {A = (ℕ × ℕ) × Noted} entry ((p, k), noted.Answered)). absurd (let kinds : noted.Moment ≡ noted.Answered = ap (λ (x : (ℕ × ℕ) × Noted). x.1) same in cc kinds))
    (Contains-push_cases e.order entry ((p, k), noted.Answered) c) in
    let cuts : AreCut noted_so h.events = still_cut e.order (entry ∷ []) h.events h.cuts in
    subst (λ (o : Order). IsEnsemble (record e { order = o })) (sym is) (record {
      config = h.config;
      events = h.events;
      now = h.now;
      same_u = h.same_u;
      clients = h.clients;
      through = h.through;
      like = h.like;
      numbered = h.numbered;
      in_order = h.in_order;
      fed = h.fed;
      answers = h.answers;
      ordered_asks = ordered_asks;
      ordered_answers = ordered_answers;
      cuts = cuts;
      past = past_next h.events h.through.worlds e.order entry h.past
          (past_now h.config h.events h.now h.through e.asked e.answered noted_so h.in_order h.fed ordered_asks ordered_answers h.answers (cut_moments noted_so h.events cuts));
    })
