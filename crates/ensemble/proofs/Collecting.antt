-- What jobs sent is collected, and what a replica does of it.
use Rattle.std.proofs.Common.{◌≡◌, ◌⊎◌, inl, inr, ⊎_elim, ℕ, ◌+◌, ◌-◌, ◌*◌, ◌^◌, ◌<◌, ◌≤◌, Bool, true, false, List, [], ◌∷◌, ◌++◌, length, Option, None, Some, slice_get, slice_set, refl, sym, ap, ◌∙◌, subst, arith, append_assoc}
use Rattle.std.specs.Prelude.{flat_map, take, slice_index_or}
use Rattle.std.proofs.lemmas.List.{append-nil, take_more, take_all}
use Rattle.std.proofs.lemmas.Option.{slice_get_within, slice_get_cases, get_or_from_slice_get}
use Rattle.std.proofs.lemmas.Grind.{flat_map-append}
use Rattle.proto.specs.declared.command.Command.{Command}
use Rattle.sessions.specs.declared.request.Request.{Request}
use Rattle.decrees.specs.declared.ballot.Ballot.{Ballot}
use Rattle.decrees.specs.declared.node.Letter.{Letter}
use Rattle.decrees.specs.declared.node.Node.{Node}
use Rattle.decrees.specs.declared.node.Node.TheVariants as node
use Rattle.exec_lines.specs.declared.body.Body.{Body}
use Rattle.exec_lines.specs.declared.body.Body.TheVariants as body
use Rattle.exec_lines.specs.declared.input.Input.{Input}
use Rattle.exec_lines.specs.declared.input.Input.TheVariants as input
use Rattle.verifier.specs.Verifier.{VerifierView}
use Rattle.slots.specs.Slot.{Slot}
use Rattle.hosts.specs.Host.{HostView, is_order, HostSettles, HostTakes, HostTakesWhere, HostReopens, HostCollects}
use Rattle.ensemble.specs.declared.answer.Answer.{Answer}
use Rattle.ensemble.specs.Nodes.{NodesView, size_of, AtHostIn, HostMoves, HostAdvances, VerifierMoves, ProxyReached, VerifiersReached, NodesReached, DeliversOf, Delivers, IsAskedBy, IsPosted, AsksAgain, RunsAll}
use Rattle.ensemble.specs.Calls.{HostPosts, RefusedNothing, sent_below, CollectedBelow, HaveRun, AllCollected}
use Rattle.ensemble.proofs.Lists.{set_get, set_cases, get_other, none_past}
use Rattle.ensemble.proofs.Sending.{below_or_last}

-- ---- what a host does not send

-- what was sent by its job stays as it was
abbrev pub KeepsSent : (HostView → HostView → List (Letter Body) → Type 0) → Type 0
KeepsSent Does = (h left : HostView) (sent : List (Letter Body)) → Does h left sent → left.sent ≡ h.sent

pub settles_keeps : (x : Input) → KeepsSent (λ h left sent. HostSettles h x left sent)
settles_keeps x h left sent did = ap (λ (v : HostView). v.sent) did.2

pub takes_keeps : (l : Letter Body) → KeepsSent (λ h left sent. HostTakes h l left sent)
takes_keeps l h left sent did = by (is_order l.body) did
  where
    by : (order : Bool) → HostTakesWhere order h l left sent → left.sent ≡ h.sent
    by true held = ⊎_elim (λ e. ap (λ (v : HostView). v.sent) e) (λ e. ap (λ (v : HostView). v.sent) e) held.0
    by false settles = settles_keeps (input.Letter l) h left sent settles

pub advances_keeps : KeepsSent HostAdvances
advances_keeps h left sent (inl obeys) = settles_keeps (input.Letter obeys.order) (record h { held = obeys.rest }) left sent obeys.settles
advances_keeps h left sent (inr forgets) = ap (λ (v : HostView). v.sent) forgets.0.2

pub reopens_keeps : (u id : ℕ) → KeepsSent (λ h left sent. HostReopens u id h left sent)
reopens_keeps u id h left sent did = ap (λ (v : HostView). v.sent) did.2

-- ---- none waits

pub host_waits : (Does : HostView → HostView → List (Letter Body) → Type 0) → KeepsSent Does → (id : ℕ) (n now : NodesView) → HostMoves Does id n now → AllCollected n → AllCollected now
host_waits Does keeps id n now m before = subst AllCollected (sym m.5) (by (slice_get n.executors id) refl m.3)
  where
    by : (o : Option HostView) → slice_get n.executors id ≡ o → AtHostIn Does id n.executors m.0 m.1 o → AllCollected (record n { executors = m.0; mail = m.2 })
    by None is did i h lt at = before i h lt (sym (ap (λ (hs : List HostView). slice_get hs i) did.0) ∙ at)
    by (Some b) is did i h lt at = ⊎_elim
        (λ (same : (i ≡ id) × (h ≡ did.0)).
        ap (λ (v : HostView). v.sent) same.1 ∙ (keeps b did.0 m.1 did.1 ∙ before i b lt (ap (slice_get n.executors) same.0 ∙ is)))
        (λ (other : slice_get n.executors i ≡ Some h). before i h lt other)
        (set_cases n.executors id i did.0 h (sym (ap (λ (hs : List HostView). slice_get hs i) did.2) ∙ at))

pub open_host_waits : (Does : HostView → HostView → List (Letter Body) → Type 0) → KeepsSent Does → (id : ℕ) (n now : NodesView) → HostMoves Does id n now ⊎ (now ≡ n) → AllCollected n → AllCollected now
open_host_waits Does keeps id n now (inl m) before = host_waits Does keeps id n now m before
open_host_waits Does keeps id n now (inr same) before = subst AllCollected (sym same) before

pub verifier_waits : (Does : Slot VerifierView → Slot VerifierView → List (Letter Ballot) → Type 0) (id : ℕ) (n now : NodesView) → VerifierMoves Does id n now → AllCollected n → AllCollected now
verifier_waits Does id n now m before = subst AllCollected (sym m.5) (λ i h lt at. before i h lt at)

pub open_verifier_waits : (Does : Slot VerifierView → Slot VerifierView → List (Letter Ballot) → Type 0) (id : ℕ) (n now : NodesView) → VerifierMoves Does id n now ⊎ (now ≡ n) → AllCollected n → AllCollected now
open_verifier_waits Does id n now (inl m) before = verifier_waits Does id n now m before
open_verifier_waits Does id n now (inr same) before = subst AllCollected (sym same) before

posted_waits : (n : NodesView) (client : ℕ) (r : Request) (now : NodesView) → IsPosted n client r now → AllCollected n → AllCollected now
posted_waits n client r now p before = subst AllCollected (sym p.after) (λ i h lt at. before i h lt at)

pub ask_waits : (n mid now : NodesView) (client : ℕ) (r : Request) → mid ≡ record n { proxies = mid.proxies } → IsPosted mid client r now → AllCollected n → AllCollected now
ask_waits n mid now client r is posted before = posted_waits mid client r now posted (subst AllCollected (sym is) (λ i h lt at. before i h lt at))

pub again_waits : (n : NodesView) (number : ℕ) (now : NodesView) → AsksAgain n number now → AllCollected n → AllCollected now
again_waits n number now (inl m) before = posted_waits n number m.0 now m.2 before
again_waits n number now (inr same) before = subst AllCollected (sym same) before

reached_waits : (n : NodesView) (l : Letter Body) (to : Node) (now : NodesView) (answer : Option Answer) → NodesReached n l to now answer → AllCollected n → AllCollected now
reached_waits n l (node.Executor id) now answer m before = host_waits _ (takes_keeps l) id n now m.0 before
reached_waits n l (node.Client c) now answer m before = by l.body m
  where
    by : (b : Body) → ProxyReached n c b now answer → AllCollected now
    by (body.Reply number reply) r = subst AllCollected (sym r.2) (λ i h lt at. before i h lt at)
    by (body.Want q) same = subst AllCollected (sym same.0) before
    by (body.Order q) same = subst AllCollected (sym same.0) before
    by (body.Need q) same = subst AllCollected (sym same.0) before
    by (body.Parcel q) same = subst AllCollected (sym same.0) before
    by (body.Ballot q) same = subst AllCollected (sym same.0) before
reached_waits n l (node.Verifier id) now answer m before = by l.body m.0
  where
    by : (b : Body) → VerifiersReached n l id b now → AllCollected now
    by (body.Ballot b) v = verifier_waits _ id n now v before
    by (body.Want q) same = subst AllCollected (sym same) before
    by (body.Order q) same = subst AllCollected (sym same) before
    by (body.Reply number reply) same = subst AllCollected (sym same) before
    by (body.Need q) same = subst AllCollected (sym same) before
    by (body.Parcel q) same = subst AllCollected (sym same) before

pub deliver_waits : (n now : NodesView) (answer : Option Answer) → Delivers n now answer → AllCollected n → AllCollected now
deliver_waits n now answer d before = by n.mail d
  where
    by : (mail : List (Letter Body)) → DeliversOf n mail now answer → AllCollected now
    by [] same = subst AllCollected (sym same.0) before
    by (l ∷ rest) reached = reached_waits (record n { mail = rest }) l l.to now answer reached (λ i h lt at. before i h lt at)

-- ---- nothing was refused in either of two calls

pub refused_before : (a b c : ℕ) → a ≤ b → b ≤ c → RefusedNothing a c → RefusedNothing a b
refused_before a b c p q none = record { same = omega (arith, p, q, none.same); below = none.below }

pub refused_after : (a b c : ℕ) → a ≤ b → b ≤ c → RefusedNothing a c → RefusedNothing b c
refused_after a b c p q none = record { same = omega (arith, p, q, none.same); below = omega (arith, p, q, none.same, none.below) }

-- ---- what jobs sent is collected

pub none_collected : (n : NodesView) → CollectedBelow 0 n n
none_collected n = record { below = λ id h lt at. absurd (omega (arith, lt)); above = λ id le. refl; others = refl }

pub collected_more : (id : ℕ) (n mid now : NodesView) → CollectedBelow id n mid → HostMoves HostCollects id mid now → CollectedBelow (id + 1) n now
collected_more id n mid now c m = record {
  below = λ i h lt there. ⊎_elim
      (λ (less : i < id). other i (λ e. omega (arith, e, less)) ∙ c.below i h less there)
      (λ (last : i ≡ id). subst (λ (k : ℕ). slice_get now.executors k ≡ Some (record h { sent = [] })) (sym last) (here h (subst (λ (k : ℕ). slice_get n.executors k ≡ Some h) last there)))
      (below_or_last i id (omega (arith, lt)));
  above = λ i le. other i (λ e. omega (arith, e, le)) ∙ c.above i (omega (arith, le));
  others = m.5 ∙ ap (λ (v : NodesView). record v { executors = m.0; mail = m.2 }) c.others ∙ ap (λ (v : NodesView). record n { executors = v.executors; mail = v.mail }) (sym m.5);
}
  where
    get_is : (i : ℕ) → slice_get now.executors i ≡ slice_get m.0 i
    get_is i = ap (λ (v : NodesView). slice_get v.executors i) m.5

    other : (i : ℕ) → (i ≡ id → ⊥) → slice_get now.executors i ≡ slice_get mid.executors i
    other i differs = get_is i ∙ by (slice_get mid.executors id) m.3
      where
        by : (o : Option HostView) → AtHostIn HostCollects id mid.executors m.0 m.1 o → slice_get m.0 i ≡ slice_get mid.executors i
        by None did = ap (λ (hs : List HostView). slice_get hs i) did.0
        by (Some b) did = ap (λ (hs : List HostView). slice_get hs i) did.2 ∙ get_other mid.executors id i did.0 differs

    here : (h : HostView) → slice_get n.executors id ≡ Some h → slice_get now.executors id ≡ Some (record h { sent = [] })
    here h at = get_is id ∙ by (slice_get mid.executors id) refl m.3
      where
        was : slice_get mid.executors id ≡ Some h
        was = c.above id (omega arith) ∙ at

        by : (o : Option HostView) → slice_get mid.executors id ≡ o → AtHostIn HostCollects id mid.executors m.0 m.1 o → slice_get m.0 id ≡ Some (record h { sent = [] })
        by None is did = absurd (let both : None ≡ Some h = sym is ∙ was in cc both)
        by (Some b) is did =
            let both : Some b ≡ Some h = sym is ∙ was in
            let same : b ≡ h = cc both in
            ap (λ (hs : List HostView). slice_get hs id) did.2 ∙ (set_get mid.executors id b did.0 is ∙ ap (λ (v : HostView). Some v) (did.1.0 ∙ ap (λ (v : HostView). record v { sent = [] }) same))

-- what is collected of a host comes behind that of those before it
sent_more : (id : ℕ) (hosts : List HostView) (h : HostView) → slice_get hosts id ≡ Some h → sent_below (id + 1) hosts ≡ sent_below id hosts ++ h.sent
sent_more id hosts h at =
    let sends : HostView → List (Letter Body) = λ v. v.sent in
    ap (flat_map sends) (take_more hosts id h (slice_get_within hosts id h at) ∙ ap (λ (v : HostView). take id hosts ++ v ∷ []) (get_or_from_slice_get hosts id h h at))
    ∙ (flat_map-append sends (take id hosts) (h ∷ []) ∙ ap (λ (ls : List (Letter Body)). sent_below id hosts ++ ls) (append-nil h.sent))

past : {X : Type 0} (xs : List X) (i : ℕ) → slice_get xs i ≡ None → length xs ≤ i
past xs i none = ⊎_elim (λ (some : (x : _) × (i < length xs) × (slice_get xs i ≡ Some x) × (slice_index_or xs i x ≡ x)). absurd (let both : None ≡ Some some.0 = sym none ∙ some.2 in cc both)) (λ p. p.0) (slice_get_cases xs i).1

none_more : (id : ℕ) (hosts : List HostView) → slice_get hosts id ≡ None → sent_below (id + 1) hosts ≡ sent_below id hosts
none_more id hosts none =
    let le = past hosts id none in
    let sends : HostView → List (Letter Body) = λ v. v.sent in
    ap (flat_map sends) (take_all (id + 1) hosts (omega (arith, le)) ∙ sym (take_all id hosts le))

pub posted_more : (id : ℕ) (n mid now : NodesView) → CollectedBelow id n mid → mid.mail ≡ n.mail ++ sent_below id n.executors → HostPosts HostCollects id mid now → now.mail ≡ n.mail ++ sent_below (id + 1) n.executors
posted_more id n mid now c before p = ap (λ (v : NodesView). v.mail) p.3 ∙ by (slice_get mid.executors id) refl p.2
  where
    by : (o : Option HostView) → slice_get mid.executors id ≡ o → AtHostIn HostCollects id mid.executors p.0 p.1 o → mid.mail ++ p.1 ≡ n.mail ++ sent_below (id + 1) n.executors
    by None is did =
        ap (λ (ls : List (Letter Body)). mid.mail ++ ls) did.1 ∙ (append-nil mid.mail ∙ (before ∙ ap (λ (ls : List (Letter Body)). n.mail ++ ls) (sym (none_more id n.executors (sym (c.above id (omega arith)) ∙ is)))))
    by (Some b) is did =
        ap (λ (ls : List (Letter Body)). mid.mail ++ ls) did.1.1 ∙ (ap (λ (ls : List (Letter Body)). ls ++ b.sent) before ∙ (append_assoc n.mail (sent_below id n.executors) b.sent
        ∙ ap (λ (ls : List (Letter Body)). n.mail ++ ls) (sym (sent_more id n.executors b (sym (c.above id (omega arith)) ∙ is)))))

-- what was collected waits no longer
pub collected_waits : (n now : NodesView) → CollectedBelow (2 * n.u + 1) n now → size_of now ≡ size_of n → AllCollected now
collected_waits n now c same i h lt at = by (slice_get n.executors i) refl
  where
    count : length now.executors ≡ length n.executors
    count = ap (λ (s : ℕ × ℕ × ℕ × ℕ). s.2) same

    by : (o : Option HostView) → slice_get n.executors i ≡ o → h.sent ≡ []
    by None is = absurd (let both : None ≡ Some h = sym (none_past now.executors i (let le = past n.executors i is in omega (arith, le, count))) ∙ at in cc both)
    by (Some b) is =
        let both : Some (record b { sent = [] }) ≡ Some h = sym (c.below i b (subst (λ (u : ℕ). i < 2 * u + 1) (ap (λ (s : ℕ × ℕ × ℕ × ℕ). s.0) same) lt) is) ∙ at in
        let left : record b { sent = [] } ≡ h = cc both in
        sym (ap (λ (v : HostView). v.sent) left)

-- jobs were run, and what they sent was collected
pub have_run : (before middle after : ℕ) (n ran now : NodesView) → middle ≡ before → RunsAll n ran → CollectedBelow (2 * ran.u + 1) ran now → (RefusedNothing middle after → now.mail ≡ ran.mail ++ sent_below (2 * ran.u + 1) ran.executors) → HaveRun before after n now
have_run before middle after n ran now uncounted runs c posted =
    let same_u : ran.u ≡ n.u = ap (λ (v : NodesView). v.u) runs.2 in
    record {
      ran = ran;
      runs = runs;
      collected = subst (λ (u : ℕ). CollectedBelow (2 * u + 1) ran now) same_u c;
      posted = λ none.
          subst (λ (p : List (Letter Body) × ℕ). now.mail ≡ p.0 ++ sent_below (2 * p.1 + 1) ran.executors) (λ i. (ap (λ (v : NodesView). v.mail) runs.2 i, same_u i))
          (posted (record { same = none.same ∙ sym uncounted; below = subst (λ (k : ℕ). k < 2 ^ 64 - 1) (sym uncounted) none.below }));
    }
