-- What is done of a verifier is an event.
use Rattle.std.proofs.Common.{◌≡◌, inl, inr, ⊎_elim, ℕ, suc, List, [], ◌++◌, map, Option, None, Some, slice_get, slice_set, refl, sym, ap, ◌∙◌, subst}
use Rattle.std.specs.Prelude.{Contains}
use Rattle.std.proofs.lemmas.List.{append-nil}
use Rattle.std.proofs.lemmas.List.Elements.{Contains-append_left, Contains-append_right}
use Rattle.decrees.specs.declared.ballot.Ballot.{Ballot}
use Rattle.decrees.specs.declared.node.Letter.{Letter}
use Rattle.decrees.specs.declared.node.Node.{Node}
use Rattle.decrees.specs.declared.node.Node.TheVariants as node
use Rattle.exec_lines.specs.declared.body.Body.{Body}
use Rattle.exec_lines.specs.declared.body.Body.TheVariants as body
use Rattle.verifier.specs.declared.input.Input.{Input}
use Rattle.verifier.specs.declared.input.Input.TheVariants as input
use Rattle.verifier.specs.Verifier.{VerifierView}
use Rattle.events.specs.declared.event.Event.{Event}
use Rattle.events.specs.declared.event.Event.TheVariants.{Deliver, Suspect, Trim, Restart}
use Rattle.events.specs.declared.event.Replica.TheVariants.{Verifier}
use Rattle.slots.specs.Slot.{Slot}
use Rattle.slots.specs.Slots.{VerifierSettles}
use Rattle.worlds.specs.World.{WorldView, WorldNext, VerifierAtGiven, VerifierGiven, VerifierAtOpened, NodeReached, IsDelivered, with_verifier}
use Rattle.slots.specs.Sending.{as_sent}
use Rattle.worlds.specs.World as of_world
use Rattle.memcached_spec.specs.Fed.{fed_by}
use Rattle.hosts.specs.Host.{HostView}
use Rattle.ensemble.specs.Nodes.{NodesView, MayGrow, AtVerifierIn, VerifierMoves, VerifierGets, VerifierOpens, VerifierTrims, VerifiersReached}
use Rattle.ensemble.specs.Ensemble.{HasSent, IsLike}
use Rattle.ensemble.proofs.Lists.{grown, set_same, in_none, place_of}
use Rattle.ensemble.proofs.Moments.{cut_by}
use Rattle.ensemble.proofs.Goes.{Moves, stays, moves_by, Goes, goes_nowhere, same_proxies}

-- what a verifier did is an event, or nothing
abbrev pub Acts : Option ℕ → WorldView → ℕ → Slot VerifierView → List (Letter Ballot) → Type 0
Acts cut w id left sent = Moves cut w (with_verifier w id left sent)

acts_given : {cut : Option ℕ} → (w : WorldView) (id : ℕ) (x : Input) (e : Event) (old left : Slot VerifierView) (sent : List (Letter Ballot)) → slice_get w.verifiers id ≡ Some old → VerifierSettles old x left sent
    → ((now : WorldView) → VerifierGiven w id x now → WorldNext w e now) → ((client : ℕ) → fed_by client e ≡ []) → ((moment : ℕ) → cut_by e ≡ Some moment → cut ≡ Some moment) → Acts cut w id left sent
acts_given {cut} w id x e old left sent at settles next unfed cuts =
    let now = with_verifier w id left sent in
    moves_by w now e (map as_sent sent) (next now (subst (λ (o : Option (Slot VerifierView)). VerifierAtGiven w id x o now) (sym at) (left, sent, settles, refl))) unfed cuts refl

acts_letter : {cut : Option ℕ} → (w : WorldView) (id : ℕ) (l : Letter Body) (b : Ballot) → Contains w.letters l → l.to ≡ node.Verifier id → l.body ≡ body.Ballot b
    → (old left : Slot VerifierView) (sent : List (Letter Ballot)) → slice_get w.verifiers id ≡ Some old → VerifierGets (input.Letter (record { from = l.from; to = l.to; body = b })) old left sent → Acts cut w id left sent
acts_letter {cut} w id l b was to says old left sent at did =
    let k = place_of w.letters l was in
    acts_given w id (input.Letter (record { from = l.from; to = l.to; body = b })) (Deliver (suc k.0)) old left sent at did
    (λ now given. subst (λ (o : Option (Letter Body)). IsDelivered w o now) (sym k.1)
    (subst (λ (x : Node). NodeReached w l x now) (sym to) (subst (λ (x : Body). of_world.VerifierReached w l id x now) (sym says) given)))
    (λ client. refl) (λ m c. absurd (cc c))

acts_none : {cut : Option ℕ} → (w : WorldView) (id : ℕ) (old : Slot VerifierView) → slice_get w.verifiers id ≡ Some old → Acts cut w id old []
acts_none {cut} w id old at = stays w (with_verifier w id old []) (λ i. record w { verifiers = set_same w.verifiers id old at i; letters = append-nil w.letters i })

acts_suspects : {cut : Option ℕ} → (w : WorldView) (id : ℕ) (old left : Slot VerifierView) (sent : List (Letter Ballot)) → slice_get w.verifiers id ≡ Some old → VerifierGets input.Suspect old left sent → Acts cut w id left sent
acts_suspects {cut} w id old left sent at did = acts_given w id input.Suspect (Suspect id) old left sent at did (λ now given. given) (λ client. refl) (λ m c. absurd (cc c))

acts_trims : {cut : Option ℕ} → (w : WorldView) (id : ℕ) (old left : Slot VerifierView) (sent : List (Letter Ballot)) → slice_get w.verifiers id ≡ Some old → VerifierTrims old left sent → Acts cut w id left sent
acts_trims {cut} w id old left sent at (inl same) = subst (λ (p : Slot VerifierView × List (Letter Ballot)). Acts cut w id p.0 p.1) (λ i. (sym same.0 i, sym same.1 i)) (acts_none w id old at)
acts_trims {cut} w id old left sent at (inr did) = acts_given w id (input.Trim did.0) (Trim id did.0) old left sent at did.1 (λ now given. given) (λ client. refl) (λ m c. absurd (cc c))

acts_opens : {cut : Option ℕ} → (u : ℕ) (w : WorldView) (id : ℕ) → w.u ≡ u → (old left : Slot VerifierView) (sent : List (Letter Ballot)) → slice_get w.verifiers id ≡ Some old → VerifierOpens u id old left sent → Acts cut w id left sent
acts_opens {cut} u w id same old left sent at did =
    let now = with_verifier w id left sent in
    moves_by w now (Restart (Verifier id)) (map as_sent sent)
    (subst (λ (o : Option (Slot VerifierView)). VerifierAtOpened w id o now) (sym at) (left, sent, subst (λ (v : ℕ). VerifierOpens v id old left sent) (sym same) did, refl)) (λ client. refl) (λ m c. absurd (cc c)) refl

-- ---- the world stays like the nodes

sent_still : (h : HostView) (id : ℕ) (letters more : List (Letter Body)) → HasSent h id letters → HasSent h id (letters ++ more)
sent_still h id letters more has = record {
  held = λ l c. let was = has.held l c in (Contains-append_left letters more l was.0, was.1);
  sent = λ l c. Contains-append_left letters more l (has.sent l c);
}

like_acts : (n : NodesView) (w : WorldView) (id : ℕ) (left : Slot VerifierView) (sent : List (Letter Ballot)) (mail : List (Letter Body)) → IsLike n w → MayGrow n.mail (map as_sent sent) mail
    → IsLike (record n { verifiers = slice_set n.verifiers id left; mail = mail }) (with_verifier w id left sent)
like_acts n w id left sent mail like grows = record {
  same_u = like.same_u;
  executors = like.executors;
  verifiers = ap (λ (vs : List (Slot VerifierView)). slice_set vs id left) like.verifiers;
  clients = like.clients;
  mail = λ l c. ⊎_elim (λ (old : Contains n.mail l). Contains-append_left w.letters (map as_sent sent) l (like.mail l old)) (λ (new : Contains (map as_sent sent) l). Contains-append_right w.letters (map as_sent sent) l new) (grown n.mail (map as_sent sent) mail grows l c);
  hosts = λ j k there. sent_still k j w.letters (map as_sent sent) (like.hosts j k there);
}

pub verifier_goes : {cut : Option ℕ} → (Does : Slot VerifierView → Slot VerifierView → List (Letter Ballot) → Type 0) (n now : NodesView) (w : WorldView) (id : ℕ) → IsLike n w
    → ((old left : Slot VerifierView) (sent : List (Letter Ballot)) → slice_get w.verifiers id ≡ Some old → Does old left sent → Acts cut w id left sent)
    → VerifierMoves Does id n now → Goes cut n now w
verifier_goes {cut} Does n now w id like acts m =
    subst (λ (x : NodesView). Goes cut n x w) (sym m.5) (by (slice_get n.verifiers id) refl m.3)
  where
    by : (o : Option (Slot VerifierView)) → slice_get n.verifiers id ≡ o → AtVerifierIn Does id n.verifiers m.0 m.1 o → Goes cut n (record n { verifiers = m.0; mail = m.2 }) w
    by None at did = record {
      world = w;
      moves = stays w w refl;
      like = subst (λ (vs : List (Slot VerifierView)). IsLike (record n { verifiers = vs; mail = m.2 }) w) (sym did.0) (record {
        same_u = like.same_u;
        executors = like.executors;
        verifiers = like.verifiers;
        clients = like.clients;
        mail = λ l c. ⊎_elim (λ (old : Contains n.mail l). like.mail l old) (λ (new : Contains (map as_sent m.1) l). absurd (in_none l (subst (λ (ls : List (Letter Ballot)). Contains (map as_sent ls) l) did.1 new))) (grown n.mail (map as_sent m.1) m.2 m.4 l c);
        hosts = like.hosts;
      });
      same_u = refl;
      proxies = same_proxies n.proxies n.proxies refl;
    }
    by (Some v) at did =
        let there : slice_get w.verifiers id ≡ Some v = ap (λ (vs : List (Slot VerifierView)). slice_get vs id) like.verifiers ∙ at in
        record {
          world = with_verifier w id did.0 m.1;
          moves = acts v did.0 m.1 there did.1;
          like = subst (λ (vs : List (Slot VerifierView)). IsLike (record n { verifiers = vs; mail = m.2 }) (with_verifier w id did.0 m.1)) (sym did.2) (like_acts n w id did.0 m.1 m.2 like m.4);
          same_u = refl;
          proxies = same_proxies n.proxies n.proxies refl;
        }

-- ---- what is done of verifiers

pub suspect_goes : {cut : Option ℕ} → (n now : NodesView) (w : WorldView) (id : ℕ) → IsLike n w → VerifierMoves (VerifierGets input.Suspect) id n now → Goes cut n now w
suspect_goes {cut} n now w id like m = verifier_goes (VerifierGets input.Suspect) n now w id like (acts_suspects w id) m

pub trim_goes : {cut : Option ℕ} → (n now : NodesView) (w : WorldView) (id : ℕ) → IsLike n w → VerifierMoves VerifierTrims id n now → Goes cut n now w
trim_goes {cut} n now w id like m = verifier_goes VerifierTrims n now w id like (acts_trims w id) m

pub open_verifier_goes : {cut : Option ℕ} → (n now : NodesView) (w : WorldView) (id : ℕ) → IsLike n w → VerifierMoves (VerifierOpens n.u id) id n now → Goes cut n now w
open_verifier_goes {cut} n now w id like m = verifier_goes (VerifierOpens n.u id) n now w id like (acts_opens n.u w id like.same_u) m

-- a letter comes that was sent to it
pub reached_goes : {cut : Option ℕ} → (n now : NodesView) (w : WorldView) (l : Letter Body) (id : ℕ) → IsLike n w → Contains w.letters l → l.to ≡ node.Verifier id → VerifiersReached n l id l.body now → Goes cut n now w
reached_goes {cut} n now w l id like was to reached = by l.body refl reached
  where
    by : (b : Body) → l.body ≡ b → VerifiersReached n l id b now → Goes cut n now w
    by (body.Ballot b) says m = verifier_goes (VerifierGets (input.Letter (record { from = l.from; to = l.to; body = b }))) n now w id like (acts_letter w id l b was to says) m
    by (body.Want r) says same = goes_nowhere n now w like same
    by (body.Order b) says same = goes_nowhere n now w like same
    by (body.Reply number reply) says same = goes_nowhere n now w like same
    by (body.Need q) says same = goes_nowhere n now w like same
    by (body.Parcel p) says same = goes_nowhere n now w like same
