-- The members of one site are parts of one ensemble.
use Rattle.std.specs.Prelude.{◌≡◌, ℕ, ◌<◌, ◌≤◌, List, [], ◌∷◌, ◌++◌, flat_map, Option, None, Some}
use Rattle.proto.specs.declared.reply.Reply as replies
use Rattle.sessions.specs.declared.request.Request.{Request}
use Rattle.std.specs.Prelude.{Bool}
use Rattle.decrees.specs.Count.{member_count}
use Rattle.events.specs.Config.{ConfigView}
use Rattle.ensemble.specs.declared.noted.Noted.{Noted}
use Rattle.ensemble.specs.declared.noted.Noted.TheVariants as noted
use Rattle.ensemble.specs.Ensemble.{EnsembleView, IsEnsemble, answer_entry, order_entry, moment_entry}
use Rattle.site_laws.specs.Orders.{deeds_of, AreAllowed}
use Rattle.site_laws.specs.Site.{Shown, CameIn, WentOut, Asks, Answers, Notes, WentBefore, IsPart}
use Rattle.site_laws.specs.Lives.{MemberKept, IsKeptOf}
use Rattle.member.specs.Member.{MemberView, whose, home_of, IsSiteMember}

-- ---- requests, answers and moments among what members show

abbrev pub asked_in : ℕ × Shown → List (Request × Bool)
asked_in (m, Asks r quiet) = (r, quiet) ∷ []
asked_in (m, Answers a) = []
asked_in (m, Notes moment) = []
asked_in (m, CameIn l) = []
asked_in (m, WentOut l) = []

abbrev pub answered_in : ℕ × Shown → List ((ℕ × ℕ) × replies.Reply)
answered_in (m, Answers a) = answer_entry a ∷ []
answered_in (m, Asks r quiet) = []
answered_in (m, Notes moment) = []
answered_in (m, CameIn l) = []
answered_in (m, WentOut l) = []

-- what is noted of it in the order of an ensemble
abbrev pub noted_in : ℕ × Shown → List ((ℕ × ℕ) × Noted)
noted_in (m, Asks r quiet) = ((r.client, r.number), noted.Asked) ∷ []
noted_in (m, Answers a) = order_entry a ∷ []
noted_in (m, Notes moment) = moment_entry moment ∷ []
noted_in (m, CameIn l) = []
noted_in (m, WentOut l) = []

-- ---- the law

-- these are the members of a site, by their numbers, each in its first process, and each has shown its part of this order, in which each letter went out before it came in
pub record AreOneSite (c : ConfigView) (members : ℕ → MemberView) (order : List (ℕ × Shown)) : Type 0 where
  pub each : (m : ℕ) → m < member_count c.u → IsSiteMember (members m)
  pub of_site : (m : ℕ) → m < member_count c.u → whose (members m) ≡ (m, c, None)
  pub show : (m : ℕ) → m < member_count c.u → (members m).shown ≡ deeds_of m order
  pub no_others : (m : ℕ) → member_count c.u ≤ m → deeds_of m order ≡ []
  pub allowed : AreAllowed WentBefore [] order

-- they are parts of one ensemble, in which just this was asked and answered, and these moments were handed in, in this order
pub record AreOneEnsemble (c : ConfigView) (members : ℕ → MemberView) (order : List (ℕ × Shown)) : Type 0 where
  pub whole : EnsembleView
  pub ensemble : IsEnsemble whole
  pub parts : (m : ℕ) → m < member_count c.u → IsPart (home_of c) whole.nodes m (members m).nodes
  pub asked : whole.asked ≡ flat_map asked_in order
  pub answered : whole.answered ≡ flat_map answered_in order
  pub ordered : whole.order ≡ flat_map noted_in order

abbrev pub MembersAreOneEnsemble : Type 0
MembersAreOneEnsemble = (c : ConfigView) (members : ℕ → MemberView) (order : List (ℕ × Shown)) → AreOneSite c members order → AreOneEnsemble c members order

-- ---- members whose processes ended

-- a process of member m, which began with what was found
pub record IsProcessOf (c : ConfigView) (m : ℕ) (found : Option MemberKept) (v : MemberView) : Type 0 where
  pub is : IsSiteMember v
  pub whose : whose v ≡ (m, c, found)

-- The processes of member m, one after the other: each of the first ones as it was when that was kept with which the next one began, and the last one as it is.
abbrev pub AreProcesses : ConfigView → ℕ → Option MemberKept → List MemberView → MemberView → Type 0
AreProcesses c m found [] last = IsProcessOf c m found last
AreProcesses c m found (v ∷ ended) last = (kept : MemberKept) × IsProcessOf c m found v × IsKeptOf m v.nodes kept × AreProcesses c m (Some kept) ended last

-- what they have shown, in order
abbrev pub shown_by_all : List MemberView → MemberView → List Shown
shown_by_all [] last = last.shown
shown_by_all (v ∷ ended) last = v.shown ++ shown_by_all ended last

-- These are the members of a site, each with its processes that ended. What they have shown is their part of this order, in which each letter went out before it came in. What a process showed after that was kept with which the next one began is not in the order.
pub record AreOneSiteOfLives (c : ConfigView) (ended : ℕ → List MemberView) (members : ℕ → MemberView) (order : List (ℕ × Shown)) : Type 0 where
  pub each : (m : ℕ) → m < member_count c.u → AreProcesses c m None (ended m) (members m)
  pub show : (m : ℕ) → m < member_count c.u → shown_by_all (ended m) (members m) ≡ deeds_of m order
  pub no_others : (m : ℕ) → member_count c.u ≤ m → deeds_of m order ≡ []
  pub allowed : AreAllowed WentBefore [] order

abbrev pub MembersOfLivesAreOneEnsemble : Type 0
MembersOfLivesAreOneEnsemble = (c : ConfigView) (ended : ℕ → List MemberView) (members : ℕ → MemberView) (order : List (ℕ × Shown)) → AreOneSiteOfLives c ended members order → AreOneEnsemble c members order
