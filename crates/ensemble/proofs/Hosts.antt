-- What a host does is an event of its executor, or none.
use Rattle.std.proofs.Common.{◌≡◌, inl, inr, ⊎_elim, ℕ, suc, Bool, true, false, List, [], ◌∷◌, ◌++◌, length, Option, None, Some, slice_get, slice_set, refl, sym, ap, ◌∙◌, subst, arith, append_assoc}
use Rattle.std.specs.Prelude.{Contains}
use Rattle.std.proofs.lemmas.List.{append-nil}
use Rattle.std.proofs.lemmas.List.Elements.{Contains-append_left, Contains-append_right, Contains-push_cases}
use Rattle.decrees.specs.declared.node.Letter.{Letter}
use Rattle.decrees.specs.declared.node.Node.{Node}
use Rattle.decrees.specs.declared.node.Node.TheVariants as node
use Rattle.exec_lines.specs.declared.body.Body.{Body}
use Rattle.exec_lines.specs.declared.input.Input.{Input}
use Rattle.exec_lines.specs.declared.input.Input.TheVariants as input
use Rattle.exec_node.specs.Executor.{ExecutorView}
use Rattle.exec_node.specs.Laws.{gets_on}
use Rattle.events.specs.declared.event.Event.{Event}
use Rattle.events.specs.declared.event.Event.TheVariants.{Deliver, Cut, Step, Finish, Restart}
use Rattle.events.specs.declared.event.Replica.TheVariants.{Executor}
use Rattle.slots.specs.Slot.{Slot}
use Rattle.slots.specs.Slots.{ExecutorSettles, ExecutorReopens}
use Rattle.slots.specs.Runs.{ExecutorSettlesAll, AllGetOn, RunIsSteps}
use Rattle.worlds.specs.World.{WorldView, WorldNext, ExecutorAtGiven, ExecutorGiven, ExecutorAtOpened, NodeReached, IsDelivered, with_executor}
use Rattle.memcached_spec.specs.Fed.{fed_by}
use Rattle.worlds.proofs.FirstLemmas.{get_seam, set_seam}
use Rattle.hosts.specs.Host.{HostView, is_order, HostSettles, HostTakesWhere, HostTakes, HostRuns, HostReopens, HostCollects}
use Rattle.ensemble.specs.Nodes.{NodesView, MayGrow, AtHostIn, AtHost, HostMoves, HostAdvances, AllRan, RunsAll}
use Rattle.ensemble.specs.Ensemble.{HasSent, IsLike}
use Rattle.ensemble.proofs.Lists.{grown, set_get, set_same, set_twice, set_cases, in_none, place_of, map_get, map_set}
use Rattle.ensemble.proofs.Moments.{cut_by}
use Rattle.ensemble.proofs.Goes.{Moves, stays, moves_by, moves_on, Goes, goes_nowhere, goes_on, same_proxies}

abbrev slot_of : HostView → Slot ExecutorView
slot_of h = h.slot

-- ---- one event

given_next : (w : WorldView) (id : ℕ) (x : Input) (old slot : Slot ExecutorView) (new : List (Letter Body)) → slice_get w.executors id ≡ Some old → ExecutorSettles old x slot new → ExecutorGiven w id x (with_executor w id slot new)
given_next w id x old slot new at settles = subst (λ (o : Option (Slot ExecutorView)). ExecutorAtGiven w id x o (with_executor w id slot new)) (sym at) (slot, new, settles, refl)

-- the executor was given an input by this event
moves_given : {cut : Option ℕ} → (w : WorldView) (id : ℕ) (x : Input) (e : Event) (old slot : Slot ExecutorView) (new : List (Letter Body)) → slice_get w.executors id ≡ Some old → ExecutorSettles old x slot new
    → ((now : WorldView) → ExecutorGiven w id x now → WorldNext w e now) → ((client : ℕ) → fed_by client e ≡ []) → ((moment : ℕ) → cut_by e ≡ Some moment → cut ≡ Some moment) → Moves cut w (with_executor w id slot new)
moves_given {cut} w id x e old slot new at settles next unfed cuts = moves_by w (with_executor w id slot new) e new (next (with_executor w id slot new) (given_next w id x old slot new at settles)) unfed cuts refl

-- a letter that was sent to it
moves_letter : {cut : Option ℕ} → (w : WorldView) (id : ℕ) (l : Letter Body) (old slot : Slot ExecutorView) (new : List (Letter Body)) → slice_get w.executors id ≡ Some old → Contains w.letters l → l.to ≡ node.Executor id → ExecutorSettles old (input.Letter l) slot new → Moves cut w (with_executor w id slot new)
moves_letter {cut} w id l old slot new at sent to settles =
    let k = place_of w.letters l sent in
    moves_given w id (input.Letter l) (Deliver (suc k.0)) old slot new at settles
    (λ now given. subst (λ (o : Option (Letter Body)). IsDelivered w o now) (sym k.1) (subst (λ (x : Node). NodeReached w l x now) (sym to) given))
    (λ client. refl) (λ m c. absurd (cc c))

moves_cut : (w : WorldView) (id moment : ℕ) (old slot : Slot ExecutorView) (new : List (Letter Body)) → slice_get w.executors id ≡ Some old → ExecutorSettles old (input.Cut moment) slot new → Moves (Some moment) w (with_executor w id slot new)
moves_cut w id moment old slot new at settles = moves_given w id (input.Cut moment) (Cut id moment) old slot new at settles (λ now given. given) (λ client. refl) (λ m c. c)

moves_open : {cut : Option ℕ} → (w : WorldView) (id : ℕ) (old slot : Slot ExecutorView) (new : List (Letter Body)) → slice_get w.executors id ≡ Some old → ExecutorReopens w.u id old slot new → Moves cut w (with_executor w id slot new)
moves_open {cut} w id old slot new at opens =
    moves_by w (with_executor w id slot new) (Restart (Executor id)) new
    (subst (λ (o : Option (Slot ExecutorView)). ExecutorAtOpened w id o (with_executor w id slot new)) (sym at) (slot, new, opens, refl)) (λ client. refl) (λ m c. absurd (cc c)) refl

-- nothing was done
moves_none : {cut : Option ℕ} → (w : WorldView) (id : ℕ) (old : Slot ExecutorView) → slice_get w.executors id ≡ Some old → Moves cut w (with_executor w id old [])
moves_none {cut} w id old at = stays w (with_executor w id old []) (λ i. record w { executors = set_same w.executors id old at i; letters = append-nil w.letters i })

-- a step or the end of a group
moves_step : {cut : Option ℕ} → (w : WorldView) (id : ℕ) (x : Input) (old slot : Slot ExecutorView) (new : List (Letter Body)) → slice_get w.executors id ≡ Some old → gets_on x ≡ true → ExecutorSettles old x slot new → Moves cut w (with_executor w id slot new)
moves_step {cut} w id (input.Step place) old slot new at gets settles = moves_given w id (input.Step place) (Step id place) old slot new at settles (λ now given. given) (λ client. refl) (λ m c. absurd (cc c))
moves_step {cut} w id input.Finish old slot new at gets settles = moves_given w id input.Finish (Finish id) old slot new at settles (λ now given. given) (λ client. refl) (λ m c. absurd (cc c))
moves_step {cut} w id (input.Letter l) old slot new at gets settles = absurd (cc gets)
moves_step {cut} w id (input.Cut moment) old slot new at gets settles = absurd (cc gets)
moves_step {cut} w id (input.Adopt t) old slot new at gets settles = absurd (cc gets)

-- some of them, one after the other
moves_steps : {cut : Option ℕ} → (w : WorldView) (id : ℕ) (xs : List Input) (old slot : Slot ExecutorView) (new : List (Letter Body)) → slice_get w.executors id ≡ Some old → AllGetOn xs → ExecutorSettlesAll old xs slot new → Moves cut w (with_executor w id slot new)
moves_steps {cut} w id [] old slot new at gets all =
    subst (λ (p : Slot ExecutorView × List (Letter Body)). Moves cut w (with_executor w id p.0 p.1)) (λ i. (sym all.0 i, sym all.1 i)) (moves_none w id old at)
moves_steps {cut} w id (x ∷ xs) old slot new at gets all =
    let mid = with_executor w id all.0 all.1 in
    let first = moves_step {cut = cut} w id x old all.0 all.1 at gets.0 all.3 in
    let rest = moves_steps {cut = cut} mid id xs all.0 slot all.2 (set_get w.executors id old all.0 at) gets.1 all.4 in
    let is : with_executor mid id slot all.2 ≡ with_executor w id slot new =
    λ i. record w { executors = set_twice w.executors id all.0 slot i; letters = (append_assoc w.letters all.1 all.2 ∙ ap (λ (ls : List (Letter Body)). w.letters ++ ls) (sym all.5)) i } in
    subst (Moves cut w) is (moves_on w mid (with_executor mid id slot all.2) first rest)

-- ---- the world stays like the nodes

sent_more : (h : HostView) (id : ℕ) (letters more : List (Letter Body)) → HasSent h id letters → HasSent h id (letters ++ more)
sent_more h id letters more has = record {
  held = λ l c. let was = has.held l c in (Contains-append_left letters more l was.0, was.1);
  sent = λ l c. Contains-append_left letters more l (has.sent l c);
}

-- what a host did: its executor sent so, and all that the host has was sent
pub record Acts (cut : Option ℕ) (w : WorldView) (id : ℕ) (left : HostView) (sent : List (Letter Body)) : Type 0 where
  pub new : List (Letter Body)
  pub moves : Moves cut w (with_executor w id left.slot new)
  pub has : HasSent left id (w.letters ++ new)
  pub are_sent : (l : Letter Body) → Contains sent l → Contains (w.letters ++ new) l

like_acts : {cut : Option ℕ} → (n : NodesView) (w : WorldView) (id : ℕ) (h left : HostView) (sent mail : List (Letter Body)) → IsLike n w → slice_get n.executors id ≡ Some h → (a : Acts cut w id left sent) → MayGrow n.mail sent mail
    → IsLike (record n { executors = slice_set n.executors id left; mail = mail }) (with_executor w id left.slot a.new)
like_acts {cut} n w id h left sent mail like at a grows = record {
  same_u = like.same_u;
  executors = ap (λ (es : List (Slot ExecutorView)). slice_set es id left.slot) like.executors ∙ sym (map_set slot_of n.executors id left);
  verifiers = like.verifiers;
  clients = like.clients;
  mail = λ l c. ⊎_elim (λ (old : Contains n.mail l). Contains-append_left w.letters a.new l (like.mail l old)) (λ (new : Contains sent l). a.are_sent l new) (grown n.mail sent mail grows l c);
  hosts = λ j k there. ⊎_elim
      (λ (here : (j ≡ id) × (k ≡ left)). subst (λ (p : HostView × ℕ). HasSent p.0 p.1 (w.letters ++ a.new)) (λ i. (sym here.1 i, sym here.0 i)) a.has)
      (λ (other : slice_get n.executors j ≡ Some k). sent_more k j w.letters a.new (like.hosts j k other))
      (set_cases n.executors id j left k there);
}

pub host_goes : {cut : Option ℕ} → (Does : HostView → HostView → List (Letter Body) → Type 0) (n now : NodesView) (w : WorldView) (id : ℕ) → IsLike n w
    → ((h left : HostView) (sent : List (Letter Body)) → slice_get w.executors id ≡ Some h.slot → HasSent h id w.letters → Does h left sent → Acts cut w id left sent)
    → HostMoves Does id n now → Goes cut n now w
host_goes {cut} Does n now w id like acts m =
    subst (λ (x : NodesView). Goes cut n x w) (sym m.5) (by (slice_get n.executors id) refl m.3)
  where
    by : (o : Option HostView) → slice_get n.executors id ≡ o → AtHostIn Does id n.executors m.0 m.1 o → Goes cut n (record n { executors = m.0; mail = m.2 }) w
    by None at did = record {
      world = w;
      moves = stays w w refl;
      like = subst (λ (hs : List HostView). IsLike (record n { executors = hs; mail = m.2 }) w) (sym did.0) (record {
        same_u = like.same_u;
        executors = like.executors;
        verifiers = like.verifiers;
        clients = like.clients;
        mail = λ l c. ⊎_elim (λ (old : Contains n.mail l). like.mail l old) (λ (new : Contains m.1 l). absurd (in_none l (subst (λ (ls : List (Letter Body)). Contains ls l) did.1 new))) (grown n.mail m.1 m.2 m.4 l c);
        hosts = like.hosts;
      });
      same_u = refl;
      proxies = same_proxies n.proxies n.proxies refl;
    }
    by (Some h) at did =
        let there : slice_get w.executors id ≡ Some h.slot = ap (λ (es : List (Slot ExecutorView)). slice_get es id) like.executors ∙ map_get slot_of n.executors id h at in
        let a = acts h did.0 m.1 there (like.hosts id h at) did.1 in
        record {
          world = with_executor w id did.0.slot a.new;
          moves = a.moves;
          like = subst (λ (hs : List HostView). IsLike (record n { executors = hs; mail = m.2 }) (with_executor w id did.0.slot a.new)) (sym did.2) (like_acts n w id h did.0 m.1 m.2 like at a m.4);
          same_u = refl;
          proxies = same_proxies n.proxies n.proxies refl;
        }

-- ---- what hosts do

-- its executor was given an input, or opened
pub acts_settled : {cut : Option ℕ} → (w : WorldView) (id : ℕ) (h left : HostView) (slot : Slot ExecutorView) (sent : List (Letter Body)) → HasSent h id w.letters → Moves cut w (with_executor w id slot sent) → left ≡ record h { slot = slot } → Acts cut w id left sent
acts_settled {cut} w id h left slot sent has moves is = subst (λ (x : HostView). Acts cut w id x sent) (sym is) (record {
  new = sent;
  moves = moves;
  has = record {
    held = λ l c. let was = has.held l c in (Contains-append_left w.letters sent l was.0, was.1);
    sent = λ l c. Contains-append_left w.letters sent l (has.sent l c);
  };
  are_sent = λ l c. Contains-append_right w.letters sent l c;
})

-- its executor was given nothing
acts_kept : {cut : Option ℕ} → (w : WorldView) (id : ℕ) (left : HostView) (sent : List (Letter Body)) → slice_get w.executors id ≡ Some left.slot → HasSent left id w.letters → ((l : Letter Body) → Contains sent l → Contains w.letters l) → Acts cut w id left sent
acts_kept {cut} w id left sent at has are = record {
  new = [];
  moves = moves_none w id left.slot at;
  has = sent_more left id w.letters [] has;
  are_sent = λ l c. Contains-append_left w.letters [] l (are l c);
}

pub acts_takes : {cut : Option ℕ} → (w : WorldView) (id : ℕ) (l : Letter Body) → Contains w.letters l → l.to ≡ node.Executor id
    → (h left : HostView) (sent : List (Letter Body)) → slice_get w.executors id ≡ Some h.slot → HasSent h id w.letters → HostTakes h l left sent → Acts cut w id left sent
acts_takes {cut} w id l was to h left sent at has takes = by (is_order l.body) takes
  where
    nothing : sent ≡ [] → (x : Letter Body) → Contains sent x → Contains w.letters x
    nothing none x c = absurd (in_none x (subst (λ (ls : List (Letter Body)). Contains ls x) none c))

    by : (order : Bool) → HostTakesWhere order h l left sent → Acts cut w id left sent
    by false did = acts_settled w id h left did.0 sent has (moves_letter w id l h.slot did.0 sent at was to did.1) did.2
    by true (inl held, none) = subst (λ (x : HostView). Acts cut w id x sent) (sym held) (acts_kept w id (record h { held = h.held ++ l ∷ [] }) sent at
        (record {
          held = λ x c. ⊎_elim (λ (old : Contains h.held x). has.held x old) (λ (new : l ≡ x). (subst (Contains w.letters) new was, subst (λ (y : Letter Body). y.to ≡ node.Executor id) new to)) (Contains-push_cases h.held l x c);
          sent = has.sent;
        }) (nothing none))
    by true (inr same, none) = subst (λ (x : HostView). Acts cut w id x sent) (sym same) (acts_kept w id h sent at has (nothing none))

pub acts_cut : (w : WorldView) (id moment : ℕ) (h left : HostView) (sent : List (Letter Body)) → slice_get w.executors id ≡ Some h.slot → HasSent h id w.letters → HostSettles h (input.Cut moment) left sent → Acts (Some moment) w id left sent
acts_cut w id moment h left sent at has did = acts_settled w id h left did.0 sent has (moves_cut w id moment h.slot did.0 sent at did.1) did.2

pub acts_opens : {cut : Option ℕ} → (w : WorldView) (id : ℕ) (h left : HostView) (sent : List (Letter Body)) → slice_get w.executors id ≡ Some h.slot → HasSent h id w.letters → HostReopens w.u id h left sent → Acts cut w id left sent
acts_opens {cut} w id h left sent at has did = acts_settled w id h left did.0 sent has (moves_open w id h.slot did.0 sent at did.1) did.2

pub acts_collects : {cut : Option ℕ} → (w : WorldView) (id : ℕ) (h left : HostView) (sent : List (Letter Body)) → slice_get w.executors id ≡ Some h.slot → HasSent h id w.letters → HostCollects h left sent → Acts cut w id left sent
acts_collects {cut} w id h left sent at has did = subst (λ (x : HostView). Acts cut w id x sent) (sym did.0) (acts_kept w id (record h { sent = [] }) sent at
    (record { held = has.held; sent = λ l c. absurd (in_none l c) })
    (λ l c. has.sent l (subst (λ (ls : List (Letter Body)). Contains ls l) did.1 c)))

rest_has : (h : HostView) (id : ℕ) (rest letters : List (Letter Body)) → ((l : Letter Body) → Contains rest l → Contains h.held l) → HasSent h id letters → HasSent (record h { held = rest }) id letters
rest_has h id rest letters among has = record { held = λ l c. has.held l (among l c); sent = has.sent }

pub acts_advances : {cut : Option ℕ} → (w : WorldView) (id : ℕ) (h left : HostView) (sent : List (Letter Body)) → slice_get w.executors id ≡ Some h.slot → HasSent h id w.letters → HostAdvances h left sent → Acts cut w id left sent
acts_advances {cut} w id h left sent at has (inl obeys) =
    let was = has.held obeys.order obeys.was_held in
    acts_settled w id (record h { held = obeys.rest }) left obeys.settles.0 sent (rest_has h id obeys.rest w.letters obeys.among has)
    (moves_letter w id obeys.order h.slot obeys.settles.0 sent at was.0 was.1 obeys.settles.1) obeys.settles.2
acts_advances {cut} w id h left sent at has (inr (forgets, none)) = subst (λ (x : HostView). Acts cut w id x sent) (sym forgets.2) (acts_kept w id (record h { held = forgets.0 }) sent at
    (rest_has h id forgets.0 w.letters forgets.1 has) (λ l c. absurd (in_none l (subst (λ (ls : List (Letter Body)). Contains ls l) none c))))

-- ---- jobs

abbrev pub RunsAlone : HostView → HostView → List (Letter Body) → Type 0
RunsAlone h left sent = HostRuns h left × (sent ≡ [])

pub acts_runs : {cut : Option ℕ} → RunIsSteps → (w : WorldView) (id : ℕ) (h left : HostView) (sent : List (Letter Body)) → slice_get w.executors id ≡ Some h.slot → HasSent h id w.letters → RunsAlone h left sent → Acts cut w id left sent
acts_runs {cut} steps w id h left sent at has (did, none) =
    let inputs = steps h.slot did.0 did.1 did.2 in
    subst (λ (x : HostView). Acts cut w id x sent) (sym did.3) (record {
      new = did.1;
      moves = moves_steps w id inputs.0 h.slot did.0 did.1 at inputs.1 inputs.2;
      has = record {
        held = λ l c. let was = has.held l c in (Contains-append_left w.letters did.1 l was.0, was.1);
        sent = λ l c. Contains-append_right w.letters did.1 l c;
      };
      are_sent = λ l c. absurd (in_none l (subst (λ (ls : List (Letter Body)). Contains ls l) none c));
    })

ran_rest : (h left : HostView) (old now : List HostView) → AllRan (h ∷ old) (left ∷ now) → AllRan old now
ran_rest h left old now ran = record { same = (let all = ran.same in omega (arith, all)); each = λ i a b at to. ran.each (suc i) a b at to }

-- the hosts behind these run their jobs
runs_from : {cut : Option ℕ} → RunIsSteps → (pre old now : List HostView) → AllRan old now → (n : NodesView) (w : WorldView) → IsLike (record n { executors = pre ++ old }) w → Goes cut (record n { executors = pre ++ old }) (record n { executors = pre ++ now }) w
runs_from {cut} steps pre [] [] ran n w like = goes_nowhere (record n { executors = pre ++ [] }) (record n { executors = pre ++ [] }) w like refl
runs_from {cut} steps pre [] (left ∷ now) ran n w like = (let all = ran.same in absurd (omega (arith, all)))
runs_from {cut} steps pre (h ∷ old) [] ran n w like = (let all = ran.same in absurd (omega (arith, all)))
runs_from {cut} steps pre (h ∷ old) (left ∷ now) ran n w like =
    let a : NodesView = record n { executors = pre ++ h ∷ old } in
    let b : NodesView = record n { executors = pre ++ left ∷ old } in
    let c : NodesView = record n { executors = pre ++ left ∷ now } in
    let did : AtHost RunsAlone (length pre) a.executors b.executors [] =
    subst (λ (o : Option HostView). AtHostIn RunsAlone (length pre) a.executors b.executors [] o) (sym (get_seam pre h old)) (left, (ran.each 0 h left refl refl, refl), sym (set_seam pre h old left)) in
    let first : Goes cut a b w = host_goes RunsAlone a b w (length pre) like (acts_runs steps w (length pre)) (b.executors, [], n.mail, did, inr refl, refl) in
    let at = append_assoc pre (left ∷ []) old in
    let to = append_assoc pre (left ∷ []) now in
    let rest = runs_from {cut = cut} steps (pre ++ left ∷ []) old now (ran_rest h left old now ran) n first.world (subst (λ (hs : List HostView). IsLike (record n { executors = hs }) first.world) (sym at) first.like) in
    let later : Goes cut b c first.world = subst (λ (p : List HostView × List HostView). Goes cut (record n { executors = p.0 }) (record n { executors = p.1 }) first.world) (λ i. (at i, to i)) rest in
    goes_on a b c w first later

pub runs_goes : {cut : Option ℕ} → RunIsSteps → (n now : NodesView) (w : WorldView) → IsLike n w → RunsAll n now → Goes cut n now w
runs_goes {cut} steps n now w like ran = subst (λ (x : NodesView). Goes cut n x w) (sym ran.2) (runs_from steps [] n.executors ran.0 ran.1 n w like)
