-- A site: members that each have an executor, a verifier and client proxies of their own, and letters between them.
use Rattle.std.specs.Prelude.{◌≡◌, ℕ, ◌≤◌, suc, Bool, List, [], ◌∷◌, ◌++◌, flat_map, Option, None, Some, Contains, slice_get, replicate}
use Rattle.proto.specs.declared.reply.Reply as replies
use Rattle.sessions.specs.declared.request.Request.{Request}
use Rattle.decrees.specs.Count.{member_count}
use Rattle.decrees.specs.declared.node.Letter.{Letter}
use Rattle.decrees.specs.declared.node.Node.{Node}
use Rattle.decrees.specs.declared.node.Node.TheVariants.{Client, Executor, Verifier}
use Rattle.exec_lines.specs.declared.body.Body.{Body}
use Rattle.exec_lines.specs.declared.input.Input.TheVariants as executor_input
use Rattle.verifier.specs.declared.input.Input.TheVariants as verifier_input
use Rattle.events.specs.Config.{ConfigView}
use Rattle.slots.specs.declared.slot.Slot.TheVariants.{Down}
use Rattle.slots.specs.Slots.{executor_kept, crashed_slot, nothing_kept}
use Rattle.memcached_spec.specs.Asked.{HasText}
use Rattle.hosts.specs.Host.{HostView, LettersAreAmong, HostSettles, HostRuns, HostReopens, HostCollects}
use Rattle.ensemble.specs.declared.answer.Answer.{Answer}
use Rattle.ensemble.specs.declared.noted.Noted.{Noted}
use Rattle.ensemble.specs.declared.noted.Noted.TheVariants as noted
use Rattle.ensemble.specs.First.{first_proxies_of}
use Rattle.ensemble.specs.Nodes.{NodesView, HostMoves, HostAdvances, VerifierMoves, VerifierGets, VerifierOpens, VerifierTrims, NodesReached, IsAskedBy, IsPosted, AsksAgain}
use Rattle.ensemble.specs.Calls.{VerifierCrashes}
use Rattle.ensemble.specs.Ensemble.{EnsembleView, IsEnsemble, answer_log, order_log, moment_entry}
use Rattle.site_laws.specs.Orders.{deeds_of, AreAllowed, DoesAll, shows, all_shown}

-- ---- what a member does

-- one thing that a member did
pub data Deed : Type 0 where
  -- a letter came that left another member, and is under way here
  Came : Letter Body → Deed
  -- a letter that is under way here left for another member
  Left : Letter Body → Deed
  -- a letter that is under way here came to a node of this member, and this was answered
  Took : Letter Body → Option Answer → Deed
  -- a proxy of this member asked this, and whether it is quiet
  Asked : Request → Bool → Deed
  -- what this proxy has outstanding was sent once more
  Again : ℕ → Deed
  -- this moment was handed in, and the executor was to cut a batch at it
  CutAt : ℕ → Deed
  -- the executor was given an order that was held, or some were let go
  Advanced : Deed
  -- the executor ran its job
  Ran : Deed
  -- what the job sent is under way
  Collected : Deed
  OpenedExecutor : Deed
  OpenedVerifier : Deed
  -- the verifier was told that the leader is suspected
  Suspected : Deed
  -- the verifier forgot decrees
  Trimmed : Deed
  -- letters under way were let go
  Forgot : Deed
  -- the process ended, or what it did since it saved is gone
  ExecutorEnded : Deed
  VerifierEnded : Deed

-- its executor ran its job, and nothing is under way yet
abbrev pub RunsOnly : HostView → HostView → List (Letter Body) → Type 0
RunsOnly h left sent = HostRuns h left × (sent ≡ [])

-- its executor crashed, and what its host had of letters is gone
abbrev pub HostEnds : HostView → HostView → List (Letter Body) → Type 0
HostEnds h left sent = (left ≡ record { slot = crashed_slot executor_kept h.slot; held = []; sent = [] }) × (sent ≡ [])

-- `home` says to which member each client belongs
module _ (home : ℕ → ℕ) where
  -- the node is of this member
  abbrev pub IsNodeOf : ℕ → Node → Type 0
  IsNodeOf m (Client c) = home c ≡ m
  IsNodeOf m (Executor id) = id ≡ m
  IsNodeOf m (Verifier id) = id ≡ m

  -- this deed leads the nodes of member m from there to here: each case is what one call of `Nodes` says, or two
  abbrev pub Does : ℕ → NodesView → Deed → NodesView → Type 0
  Does m n (Came l) now = now ≡ record n { mail = n.mail ++ l ∷ [] }
  Does m n (Left l) now = Contains n.mail l × (now ≡ n)
  Does m n (Took l answer) now = (rest : List (Letter Body)) × LettersAreAmong rest n.mail × Contains n.mail l × IsNodeOf m l.to × NodesReached (record n { mail = rest }) l l.to now answer
  Does m n (Asked r quiet) now = (mid : NodesView) × (home r.client ≡ m) × HasText r.command quiet × IsAskedBy n.proxies r.client r.command quiet mid.proxies r × (mid ≡ record n { proxies = mid.proxies }) × IsPosted mid r.client r now
  Does m n (Again number) now = (home number ≡ m) × AsksAgain n number now
  Does m n (CutAt moment) now = HostMoves (λ h left sent. HostSettles h (executor_input.Cut moment) left sent) m n now
  Does m n Advanced now = HostMoves HostAdvances m n now
  Does m n Ran now = HostMoves RunsOnly m n now
  Does m n Collected now = HostMoves HostCollects m n now
  Does m n OpenedExecutor now = HostMoves (λ h left sent. HostReopens n.u m h left sent) m n now
  Does m n OpenedVerifier now = VerifierMoves (VerifierOpens n.u m) m n now
  Does m n Suspected now = VerifierMoves (VerifierGets verifier_input.Suspect) m n now
  Does m n Trimmed now = VerifierMoves VerifierTrims m n now
  Does m n Forgot now = (rest : List (Letter Body)) × LettersAreAmong rest n.mail × (now ≡ record n { mail = rest })
  Does m n ExecutorEnded now = HostMoves HostEnds m n now
  Does m n VerifierEnded now = VerifierMoves VerifierCrashes m n now

-- ---- letters, requests, answers and moments among deeds

abbrev pub came_by : Deed → List (Letter Body)
came_by (Came l) = l ∷ []
came_by d = []

abbrev pub left_by : Deed → List (Letter Body)
left_by (Left l) = l ∷ []
left_by d = []

abbrev pub asked_by : Deed → List (Request × Bool)
asked_by (Asked r quiet) = (r, quiet) ∷ []
asked_by d = []

abbrev pub replies_by : Deed → List ((ℕ × ℕ) × replies.Reply)
replies_by (Took l answer) = answer_log answer
replies_by d = []

-- what is noted of it in the order of an ensemble
abbrev pub noted_by : Deed → List ((ℕ × ℕ) × Noted)
noted_by (Asked r quiet) = ((r.client, r.number), noted.Asked) ∷ []
noted_by (Took l answer) = order_log answer
noted_by (CutAt moment) = moment_entry moment ∷ []
noted_by d = []

abbrev pub all_by : {X : Type 0} → (Deed → List X) → List (ℕ × Deed) → List X
all_by f order = flat_map (λ (x : ℕ × Deed). f x.1) order

-- what comes had left before
abbrev pub HadLeft : List (ℕ × Deed) → ℕ × Deed → Type 0
HadLeft before x = LettersAreAmong (came_by x.1) (all_by left_by before)

-- ---- what a deed shows to others

pub data Shown : Type 0 where
  CameIn : Letter Body → Shown
  WentOut : Letter Body → Shown
  Asks : Request → Bool → Shown
  Answers : Answer → Shown
  Notes : ℕ → Shown

abbrev pub shown_by : Deed → Option Shown
shown_by (Came l) = Some (CameIn l)
shown_by (Left l) = Some (WentOut l)
shown_by (Took l None) = None
shown_by (Took l (Some a)) = Some (Answers a)
shown_by (Asked r quiet) = Some (Asks r quiet)
shown_by (CutAt moment) = Some (Notes moment)
shown_by d = None

abbrev pub went_out : ℕ × Shown → List (Letter Body)
went_out (m, WentOut l) = l ∷ []
went_out (m, CameIn l) = []
went_out (m, Asks r quiet) = []
went_out (m, Answers a) = []
went_out (m, Notes moment) = []

-- a letter that comes in went out before
abbrev pub WentBefore : List (ℕ × Shown) → ℕ × Shown → Type 0
WentBefore before (m, CameIn l) = Contains (flat_map went_out before) l
WentBefore before (m, WentOut l) = Unit {0}
WentBefore before (m, Asks r quiet) = Unit {0}
WentBefore before (m, Answers a) = Unit {0}
WentBefore before (m, Notes moment) = Unit {0}

-- ---- members and the whole

-- member m has its part of these nodes
pub record IsPart (home : ℕ → ℕ) (whole : NodesView) (m : ℕ) (n : NodesView) : Type 0 where
  pub same_u : n.u ≡ whole.u
  pub executor : slice_get whole.executors m ≡ slice_get n.executors m
  pub verifier : slice_get whole.verifiers m ≡ slice_get n.verifiers m
  pub proxies : (i : ℕ) → home (suc i) ≡ m → slice_get whole.proxies i ≡ slice_get n.proxies i
  pub mail : LettersAreAmong n.mail whole.mail

-- These members are parts of one ensemble. What was asked and answered in it, and which moments were handed in, is what they did, in this order.
pub record IsSite (home : ℕ → ℕ) (members : ℕ → NodesView) (order : List (ℕ × Deed)) : Type 0 where
  pub whole : EnsembleView
  pub ensemble : IsEnsemble whole
  pub parts : (m : ℕ) → IsPart home whole.nodes m (members m)
  pub left : LettersAreAmong (all_by left_by order) whole.nodes.mail
  pub asked : whole.asked ≡ all_by asked_by order
  pub answered : whole.answered ≡ all_by replies_by order
  pub ordered : whole.order ≡ all_by noted_by order

-- all replicas are down, and none has a record
abbrev pub unopened_nodes : ConfigView → NodesView
unopened_nodes c = record {
  u = c.u;
  proxies = first_proxies_of c.clients;
  executors = replicate (member_count c.u) (record { slot = Down nothing_kept; held = []; sent = [] });
  verifiers = replicate (member_count c.u) (Down nothing_kept);
  mail = [];
}

-- The law. Each member can only say of itself which deeds led it where it is. In whatever order all these deeds were done, if each letter left before it came, the members are parts of one ensemble. Each beginning of that order is such an order too.
abbrev pub SiteIsEnsemble : Type 0
SiteIsEnsemble = (c : ConfigView) (home : ℕ → ℕ) (order : List (ℕ × Deed)) (now : ℕ → NodesView)
    → ((m : ℕ) → DoesAll (Does home) m (unopened_nodes c) (deeds_of m order) (now m)) → AreAllowed HadLeft [] order → IsSite home now order

-- these members show this order, and did what leads to a site
pub record ShowsSite (home : ℕ → ℕ) (order : List (ℕ × Shown)) (now : ℕ → NodesView) : Type 0 where
  pub deeds : List (ℕ × Deed)
  pub same : all_shown shown_by deeds ≡ order
  pub site : IsSite home now deeds

-- The same of what members show alone: letters, requests, answers and moments, in any order in which a letter goes out before it comes in. Members are numbered below `count`.
abbrev pub SiteIsShown : Type 0
SiteIsShown = (c : ConfigView) (home : ℕ → ℕ) (count : ℕ) (order : List (ℕ × Shown)) (deeds : ℕ → List Deed) (now : ℕ → NodesView)
    → ((m : ℕ) → DoesAll (Does home) m (unopened_nodes c) (deeds m) (now m)) → ((m : ℕ) → shows shown_by (deeds m) ≡ deeds_of m order) → ((m : ℕ) → count ≤ m → deeds m ≡ [])
    → AreAllowed WentBefore [] order → ShowsSite home order now
