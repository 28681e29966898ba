-- What a member does with its part is done with the whole.
use Rattle.std.proofs.Common.{◌≡◌, ◌≢◌, inl, inr, ⊎_elim, ℕ, suc, Bool, true, false, List, ◌++◌, map, Option, None, Some, slice_get, slice_set, refl, sym, ap, ◌∙◌, subst}
use Rattle.std.specs.Prelude.{Contains, ◌==◌}
use Rattle.std.proofs.lemmas.List.Elements.{Contains-append_left, Contains-append_right}
use Rattle.std.proofs.lemmas.Bool.{eqb-true, eqb-false}
use Rattle.proto.specs.declared.command.Command.{Command}
use Rattle.proto.specs.declared.reply.Reply as replies
use Rattle.sessions.specs.declared.request.Request.{Request}
use Rattle.decrees.specs.declared.ballot.Ballot.{Ballot}
use Rattle.decrees.specs.declared.node.Letter.{Letter}
use Rattle.decrees.specs.declared.node.Node.{Node}
use Rattle.decrees.specs.declared.node.Node.TheVariants as node
use Rattle.exec_lines.specs.declared.body.Body.{Body}
use Rattle.exec_lines.specs.declared.body.Body.TheVariants as body
use Rattle.client.specs.Talk.{wants}
use Rattle.verifier.specs.declared.input.Input.TheVariants as verifier_input
use Rattle.verifier.specs.Verifier.{VerifierView}
use Rattle.slots.specs.Slot.{Slot}
use Rattle.slots.specs.Sending.{as_sent}
use Rattle.proxies.specs.Proxy.{ProxyView, asks, answers}
use Rattle.hosts.specs.Host.{HostView, LettersAreAmong, HostTakes}
use Rattle.ensemble.specs.declared.answer.Answer.{Answer}
use Rattle.ensemble.specs.Nodes.{NodesView, MayGrow, AtHostIn, HostMoves, AtVerifierIn, VerifierMoves, VerifierGets, VerifiersReached, ProxyGets, ProxyReached, NodesReached, IsAskedBy, IsOutstanding, IsPosted, AsksAgain}
use Rattle.ensemble.proofs.Lists.{set_get, get_other, grown}
use Rattle.site_laws.specs.Site.{IsNodeOf, IsPart}

-- ---- lists

-- if two lists have the same at a place, they have the same there after the same was set in both
set_both : {X : Type 0} (xs ys : List X) (i j : ℕ) (old x : X) → slice_get xs i ≡ Some old → slice_get ys i ≡ Some old → slice_get xs j ≡ slice_get ys j → slice_get (slice_set xs i x) j ≡ slice_get (slice_set ys i x) j
set_both xs ys i j old x in_xs in_ys same = by (i == j) refl
  where
    by : (here : Bool) → (i == j) ≡ here → slice_get (slice_set xs i x) j ≡ slice_get (slice_set ys i x) j
    by true e =
        let is : i ≡ j = eqb-true i j e in
        subst (λ (k : ℕ). slice_get (slice_set xs i x) k ≡ slice_get (slice_set ys i x) k) is (set_get xs i old x in_xs ∙ sym (set_get ys i old x in_ys))
    by false e =
        let other : j ≢ i = λ is. eqb-false i j e (sym is) in
        get_other xs i j x other ∙ (same ∙ sym (get_other ys i j x other))

-- ---- a member and the others

-- the whole did the same, and every other member has its part as before
pub record Lifted (home : ℕ → ℕ) (Does : NodesView → NodesView → Type 0) (whole : NodesView) (m : ℕ) (now : NodesView) : Type 0 where
  pub after : NodesView
  pub does : Does whole after
  pub part : IsPart home after m now
  pub others : (k : ℕ) → (m == k) ≡ false → (n : NodesView) → IsPart home whole k n → IsPart home after k n
  pub grows : LettersAreAmong whole.mail after.mail

module _ (home : ℕ → ℕ) where
  -- nothing was done
  pub lift_none : (whole n now : NodesView) (m : ℕ) → IsPart home whole m n → now ≡ n → Lifted home (λ a b. b ≡ a) whole m now
  lift_none whole n now m p same = record {
    after = whole;
    does = refl;
    part = subst (λ (x : NodesView). IsPart home whole m x) (sym same) p;
    others = λ k other x q. q;
    grows = λ l c. c;
  }

  more_mail : (whole : NodesView) (sent : List (Letter Body)) (k : ℕ) (n : NodesView) → IsPart home whole k n → LettersAreAmong n.mail (whole.mail ++ sent)
  more_mail whole sent k n q l c = Contains-append_left whole.mail sent l (q.mail l c)

  grown_mail : (whole n : NodesView) (sent mail : List (Letter Body)) (m : ℕ) → IsPart home whole m n → MayGrow n.mail sent mail → LettersAreAmong mail (whole.mail ++ sent)
  grown_mail whole n sent mail m p grows l c = ⊎_elim
      (λ (old : Contains n.mail l). Contains-append_left whole.mail sent l (p.mail l old))
      (λ (new : Contains sent l). Contains-append_right whole.mail sent l new)
      (grown n.mail sent mail grows l c)

  -- ---- an executor's host, a verifier

  pub lift_host : (Does : HostView → HostView → List (Letter Body) → Type 0) (whole n now : NodesView) (m : ℕ) → IsPart home whole m n → HostMoves Does m n now → Lifted home (HostMoves Does m) whole m now
  lift_host Does whole n now m p moves =
      subst (λ (x : NodesView). Lifted home (HostMoves Does m) whole m x) (sym moves.5) (by (slice_get n.executors m) refl moves.3)
    where
      by : (o : Option HostView) → slice_get n.executors m ≡ o → AtHostIn Does m n.executors moves.0 moves.1 o → Lifted home (HostMoves Does m) whole m (record n { executors = moves.0; mail = moves.2 })
      by None at did =
          let there : slice_get whole.executors m ≡ None = p.executor ∙ at in
          record {
            after = record whole { mail = whole.mail ++ moves.1 };
            does = (whole.executors, moves.1, whole.mail ++ moves.1, subst (λ (o : Option HostView). AtHostIn Does m whole.executors whole.executors moves.1 o) (sym there) (refl, did.1), inl refl, refl);
            part = record {
              same_u = p.same_u;
              executor = p.executor ∙ ap (λ (hs : List HostView). slice_get hs m) (sym did.0);
              verifier = p.verifier;
              proxies = p.proxies;
              mail = grown_mail whole n moves.1 moves.2 m p moves.4;
            };
            others = λ k other x q. record { same_u = q.same_u; executor = q.executor; verifier = q.verifier; proxies = q.proxies; mail = more_mail whole moves.1 k x q };
            grows = λ l c. Contains-append_left whole.mail moves.1 l c;
          }
      by (Some h) at did =
          let there : slice_get whole.executors m ≡ Some h = p.executor ∙ at in
          let hosts : List HostView = slice_set whole.executors m did.0 in
          record {
            after = record whole { executors = hosts; mail = whole.mail ++ moves.1 };
            does = (hosts, moves.1, whole.mail ++ moves.1, subst (λ (o : Option HostView). AtHostIn Does m whole.executors hosts moves.1 o) (sym there) (did.0, did.1, refl), inl refl, refl);
            part = record {
              same_u = p.same_u;
              executor = set_get whole.executors m h did.0 there ∙ sym (ap (λ (hs : List HostView). slice_get hs m) did.2 ∙ set_get n.executors m h did.0 at);
              verifier = p.verifier;
              proxies = p.proxies;
              mail = grown_mail whole n moves.1 moves.2 m p moves.4;
            };
            others = λ k other x q. record { same_u = q.same_u; executor = get_other whole.executors m k did.0 (λ is. eqb-false m k other (sym is)) ∙ q.executor; verifier = q.verifier; proxies = q.proxies; mail = more_mail whole moves.1 k x q };
            grows = λ l c. Contains-append_left whole.mail moves.1 l c;
          }

  pub lift_verifier : (Does : Slot VerifierView → Slot VerifierView → List (Letter Ballot) → Type 0) (whole n now : NodesView) (m : ℕ) → IsPart home whole m n → VerifierMoves Does m n now → Lifted home (VerifierMoves Does m) whole m now
  lift_verifier Does whole n now m p moves =
      subst (λ (x : NodesView). Lifted home (VerifierMoves Does m) whole m x) (sym moves.5) (by (slice_get n.verifiers m) refl moves.3)
    where
      by : (o : Option (Slot VerifierView)) → slice_get n.verifiers m ≡ o → AtVerifierIn Does m n.verifiers moves.0 moves.1 o → Lifted home (VerifierMoves Does m) whole m (record n { verifiers = moves.0; mail = moves.2 })
      by None at did =
          let there : slice_get whole.verifiers m ≡ None = p.verifier ∙ at in
          record {
            after = record whole { mail = whole.mail ++ map as_sent moves.1 };
            does = (whole.verifiers, moves.1, whole.mail ++ map as_sent moves.1, subst (λ (o : Option (Slot VerifierView)). AtVerifierIn Does m whole.verifiers whole.verifiers moves.1 o) (sym there) (refl, did.1), inl refl, refl);
            part = record {
              same_u = p.same_u;
              executor = p.executor;
              verifier = p.verifier ∙ ap (λ (vs : List (Slot VerifierView)). slice_get vs m) (sym did.0);
              proxies = p.proxies;
              mail = grown_mail whole n (map as_sent moves.1) moves.2 m p moves.4;
            };
            others = λ k other x q. record { same_u = q.same_u; executor = q.executor; verifier = q.verifier; proxies = q.proxies; mail = more_mail whole (map as_sent moves.1) k x q };
            grows = λ l c. Contains-append_left whole.mail (map as_sent moves.1) l c;
          }
      by (Some v) at did =
          let there : slice_get whole.verifiers m ≡ Some v = p.verifier ∙ at in
          let slots : List (Slot VerifierView) = slice_set whole.verifiers m did.0 in
          record {
            after = record whole { verifiers = slots; mail = whole.mail ++ map as_sent moves.1 };
            does = (slots, moves.1, whole.mail ++ map as_sent moves.1, subst (λ (o : Option (Slot VerifierView)). AtVerifierIn Does m whole.verifiers slots moves.1 o) (sym there) (did.0, did.1, refl), inl refl, refl);
            part = record {
              same_u = p.same_u;
              executor = p.executor;
              verifier = set_get whole.verifiers m v did.0 there ∙ sym (ap (λ (vs : List (Slot VerifierView)). slice_get vs m) did.2 ∙ set_get n.verifiers m v did.0 at);
              proxies = p.proxies;
              mail = grown_mail whole n (map as_sent moves.1) moves.2 m p moves.4;
            };
            others = λ k other x q. record { same_u = q.same_u; executor = q.executor; verifier = get_other whole.verifiers m k did.0 (λ is. eqb-false m k other (sym is)) ∙ q.verifier; proxies = q.proxies; mail = more_mail whole (map as_sent moves.1) k x q };
            grows = λ l c. Contains-append_left whole.mail (map as_sent moves.1) l c;
          }

  -- ---- proxies

  -- the proxy at this place is another one
  set_part : (whole n : NodesView) (m index : ℕ) (old q : ProxyView) → home (suc index) ≡ m → IsPart home whole m n → slice_get n.proxies index ≡ Some old
      → IsPart home (record whole { proxies = slice_set whole.proxies index q }) m (record n { proxies = slice_set n.proxies index q })
  set_part whole n m index old q here p there = record {
    same_u = p.same_u;
    executor = p.executor;
    verifier = p.verifier;
    proxies = λ i at. set_both whole.proxies n.proxies index i old q (p.proxies index here ∙ there) there (p.proxies i at);
    mail = p.mail;
  }

  set_others : (whole : NodesView) (m index : ℕ) (q : ProxyView) → home (suc index) ≡ m → (k : ℕ) → (m == k) ≡ false → (x : NodesView) → IsPart home whole k x → IsPart home (record whole { proxies = slice_set whole.proxies index q }) k x
  set_others whole m index q here k other x p = record {
    same_u = p.same_u;
    executor = p.executor;
    verifier = p.verifier;
    proxies = λ i at. get_other whole.proxies index i q (λ same. eqb-false m k other (sym here ∙ (ap (λ (j : ℕ). home (suc j)) (sym same) ∙ at))) ∙ p.proxies i at;
    mail = p.mail;
  }

  -- a proxy got a reply
  lift_reply : (whole n : NodesView) (m client number : ℕ) (reply : replies.Reply) (proxies : List ProxyView) (answer : Option Answer) → home client ≡ m → IsPart home whole m n → ProxyGets n.proxies client number reply proxies answer
      → Lifted home (λ a b. ProxyReached a client (body.Reply number reply) b answer) whole m (record n { proxies = proxies })
  lift_reply whole n m client number reply proxies answer here p (inr same) = record {
    after = whole;
    does = (whole.proxies, inr (refl, same.1), refl);
    part = subst (λ (ps : List ProxyView). IsPart home whole m (record n { proxies = ps })) (sym same.0) p;
    others = λ k other x q. q;
    grows = λ l c. c;
  }
  lift_reply whole n m client number reply proxies answer here p (inl r) =
      let at : home (suc r.index) ≡ m = ap home (sym r.at) ∙ here in
      let q : ProxyView = answers r.proxy number in
      let all : List ProxyView = slice_set whole.proxies r.index q in
      record {
        after = record whole { proxies = all };
        does = (all, inl (record { index = r.index; at = r.at; proxy = r.proxy; there = p.proxies r.index at ∙ r.there; was_asked = r.was_asked; after = refl; is = r.is }), refl);
        part = subst (λ (ps : List ProxyView). IsPart home (record whole { proxies = all }) m (record n { proxies = ps })) (sym r.after) (set_part whole n m r.index r.proxy q at p r.there);
        others = λ k other x s. set_others whole m r.index q at k other x s;
        grows = λ l c. c;
      }

  -- ---- a letter

  -- the same, said otherwise
  pub lift_as : (A B : NodesView → NodesView → Type 0) (whole : NodesView) (m : ℕ) (now : NodesView) → ((x y : NodesView) → A x y → B x y) → Lifted home A whole m now → Lifted home B whole m now
  lift_as A B whole m now to f = record { after = f.after; does = to whole f.after f.does; part = f.part; others = f.others; grows = f.grows }

  -- something is true of both
  pub lift_with : (A : NodesView → NodesView → Type 0) (P : Type 0) (whole : NodesView) (m : ℕ) (now : NodesView) → P → Lifted home A whole m now → Lifted home (λ a b. A a b × P) whole m now
  lift_with A P whole m now is f = lift_as A (λ a b. A a b × P) whole m now (λ x y a. (a, is)) f

  lift_ballot : (whole n now : NodesView) (l : Letter Body) (m id : ℕ) → id ≡ m → IsPart home whole m n → (b : Body) → VerifiersReached n l id b now → Lifted home (λ x y. VerifiersReached x l id b y) whole m now
  lift_ballot whole n now l m id here p (body.Ballot b) moves =
      subst (λ (k : ℕ). Lifted home (λ x y. VerifiersReached x l id (body.Ballot b) y) whole k now) here
      (lift_verifier (VerifierGets (verifier_input.Letter (record { from = l.from; to = l.to; body = b }))) whole n now id (subst (λ (k : ℕ). IsPart home whole k n) (sym here) p) moves)
  lift_ballot whole n now l m id here p (body.Want r) same = lift_none whole n now m p same
  lift_ballot whole n now l m id here p (body.Order r) same = lift_none whole n now m p same
  lift_ballot whole n now l m id here p (body.Reply number reply) same = lift_none whole n now m p same
  lift_ballot whole n now l m id here p (body.Need r) same = lift_none whole n now m p same
  lift_ballot whole n now l m id here p (body.Parcel r) same = lift_none whole n now m p same

  lift_to_proxy : (whole n now : NodesView) (m client : ℕ) (answer : Option Answer) → home client ≡ m → IsPart home whole m n → (b : Body) → ProxyReached n client b now answer → Lifted home (λ x y. ProxyReached x client b y answer) whole m now
  lift_to_proxy whole n now m client answer here p (body.Reply number reply) r =
      subst (λ (x : NodesView). Lifted home (λ a b. ProxyReached a client (body.Reply number reply) b answer) whole m x) (sym r.2) (lift_reply whole n m client number reply r.0 answer here p r.1)
  lift_to_proxy whole n now m client answer here p (body.Want r) same = lift_with (λ a b. b ≡ a) (answer ≡ None) whole m now same.1 (lift_none whole n now m p same.0)
  lift_to_proxy whole n now m client answer here p (body.Order r) same = lift_with (λ a b. b ≡ a) (answer ≡ None) whole m now same.1 (lift_none whole n now m p same.0)
  lift_to_proxy whole n now m client answer here p (body.Need r) same = lift_with (λ a b. b ≡ a) (answer ≡ None) whole m now same.1 (lift_none whole n now m p same.0)
  lift_to_proxy whole n now m client answer here p (body.Parcel r) same = lift_with (λ a b. b ≡ a) (answer ≡ None) whole m now same.1 (lift_none whole n now m p same.0)
  lift_to_proxy whole n now m client answer here p (body.Ballot r) same = lift_with (λ a b. b ≡ a) (answer ≡ None) whole m now same.1 (lift_none whole n now m p same.0)

  -- a letter came to a node of this member
  pub lift_reached : (whole n now : NodesView) (l : Letter Body) (m : ℕ) (answer : Option Answer) → IsPart home whole m n → (to : Node) → IsNodeOf home m to → NodesReached n l to now answer → Lifted home (λ x y. NodesReached x l to y answer) whole m now
  lift_reached whole n now l m answer p (node.Executor id) here reached =
      lift_with (HostMoves (λ h left sent. HostTakes h l left sent) id) (answer ≡ None) whole m now reached.1
      (subst (λ (k : ℕ). Lifted home (HostMoves (λ h left sent. HostTakes h l left sent) id) whole k now) here
      (lift_host (λ h left sent. HostTakes h l left sent) whole n now id (subst (λ (k : ℕ). IsPart home whole k n) (sym here) p) reached.0))
  lift_reached whole n now l m answer p (node.Verifier id) here reached =
      lift_with (λ x y. VerifiersReached x l id l.body y) (answer ≡ None) whole m now reached.1 (lift_ballot whole n now l m id here p l.body reached.0)
  lift_reached whole n now l m answer p (node.Client c) here reached = lift_to_proxy whole n now m c answer here p l.body reached

  -- ---- what proxies ask

  -- a request was sent
  lift_posted : (whole n now : NodesView) (m client : ℕ) (r : Request) → IsPart home whole m n → IsPosted n client r now → Lifted home (λ a b. IsPosted a client r b) whole m now
  lift_posted whole n now m client r p posted =
      subst (λ (x : NodesView). Lifted home (λ a b. IsPosted a client r b) whole m x) (sym posted.after) (record {
        after = record whole { mail = whole.mail ++ posted.sent };
        does = record {
          sent = posted.sent;
          among = λ l c. subst (λ (u : ℕ). Contains (wants u client r) l) p.same_u (posted.among l c);
          grows = inl refl;
          after = refl;
        };
        part = record { same_u = p.same_u; executor = p.executor; verifier = p.verifier; proxies = p.proxies; mail = grown_mail whole n posted.sent now.mail m p posted.grows };
        others = λ k other x q. record { same_u = q.same_u; executor = q.executor; verifier = q.verifier; proxies = q.proxies; mail = more_mail whole posted.sent k x q };
        grows = λ l c. Contains-append_left whole.mail posted.sent l c;
      })

  -- one step after another
  lift_then : (A B : NodesView → NodesView → Type 0) (whole : NodesView) (m : ℕ) (mid now : NodesView) (first : Lifted home A whole m mid) → Lifted home B first.after m now → Lifted home (λ a b. (c : NodesView) × A a c × B c b) whole m now
  lift_then A B whole m mid now first next = record {
    after = next.after;
    does = (first.after, first.does, next.does);
    part = next.part;
    others = λ k other x q. next.others k other x (first.others k other x q);
    grows = λ l c. next.grows l (first.grows l c);
  }

  -- a proxy asked
  abbrev pub Asks : ℕ → Command → Bool → Request → NodesView → NodesView → Type 0
  Asks number command quiet r a b = IsAskedBy a.proxies number command quiet b.proxies r × (b ≡ record a { proxies = b.proxies })

  lift_asked : (whole n mid : NodesView) (m number : ℕ) (command : Command) (quiet : Bool) (r : Request) → home number ≡ m → IsPart home whole m n → Asks number command quiet r n mid → Lifted home (Asks number command quiet r) whole m mid
  lift_asked whole n mid m number command quiet r here p did =
      let a = did.0 in
      let at : home (suc a.index) ≡ m = ap home (sym a.at) ∙ here in
      let q : ProxyView = asks a.proxy command quiet in
      let all : List ProxyView = slice_set whole.proxies a.index q in
      record {
        after = record whole { proxies = all };
        does = (record { index = a.index; at = a.at; proxy = a.proxy; there = p.proxies a.index at ∙ a.there; free = a.free; is = a.is; after = refl }, refl);
        part = subst (λ (x : NodesView). IsPart home (record whole { proxies = all }) m x) (sym (did.1 ∙ ap (λ (ps : List ProxyView). record n { proxies = ps }) a.after)) (set_part whole n m a.index a.proxy q at p a.there);
        others = λ k other x s. set_others whole m a.index q at k other x s;
        grows = λ l c. c;
      }

  pub lift_asks : (whole n mid now : NodesView) (m number : ℕ) (command : Command) (quiet : Bool) (r : Request) → home number ≡ m → IsPart home whole m n → Asks number command quiet r n mid → IsPosted mid number r now
      → Lifted home (λ a b. (c : NodesView) × Asks number command quiet r a c × IsPosted c number r b) whole m now
  lift_asks whole n mid now m number command quiet r here p asked posted =
      let first = lift_asked whole n mid m number command quiet r here p asked in
      lift_then (Asks number command quiet r) (λ a b. IsPosted a number r b) whole m mid now first (lift_posted first.after mid now m number r first.part posted)

  -- it asked again
  pub lift_again : (whole n now : NodesView) (m number : ℕ) → home number ≡ m → IsPart home whole m n → AsksAgain n number now → Lifted home (λ a b. AsksAgain a number b) whole m now
  lift_again whole n now m number here p (inr same) = lift_as (λ a b. b ≡ a) (λ a b. AsksAgain a number b) whole m now (λ x y e. inr e) (lift_none whole n now m p same)
  lift_again whole n now m number here p (inl (r, out, posted)) =
      let at : home (suc out.index) ≡ m = ap home (sym out.at) ∙ here in
      let there : IsOutstanding whole.proxies number r = record { index = out.index; at = out.at; proxy = out.proxy; there = p.proxies out.index at ∙ out.there; is = out.is } in
      let f = lift_posted whole n now m number r p posted in
      record { after = f.after; does = inl (r, there, f.does); part = f.part; others = f.others; grows = f.grows }
