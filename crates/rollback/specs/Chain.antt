-- Tentative states over a committed one.
use Rattle.std.specs.Prelude.{ℕ, ◌≡◌, ◌≤◌, List, [], ◌∷◌, ◌++◌, length, Bool, true, false, IsTrue, ◌==◌, ◌&&◌, Option, Some, None, if◌then◌else◌, refl, flat_map}
use Rattle.std.specs.Coded.{Coded, code_by, coded×, coded_list}
use Rattle.std.specs.Int.{w8}
use Rattle.wire.specs.Number.{num}
use Rattle.decrees.specs.declared.decree.Decree.{Decree}
use Rattle.decrees.specs.declared.decree.Decree.TheVariants.{Commit, Rollback}
use Rattle.decrees.specs.declared.standing.Standing.{Standing}
use Rattle.decrees.specs.Votes.{token_eq}
use Rattle.states.specs.declared.version.Version.{Version}
use Rattle.states.specs.declared.version.Version.TheVariants.{Second}
use Rattle.states.specs.State.{StateView}
use Rattle.states.specs.Version.{state_text_in, IsStateIn}
use Rattle.executor.specs.declared.answered.Answered.{Answered}
use Rattle.executor.specs.Work.{TentativeView}
use Rattle.executor.specs.Kept.{IsTentativeOverIn}
use Rattle.executor.specs.MemberRecord.{member_text_in}
use Rattle.rollback.specs.declared.chain.TheConstants.{MOST_MEMBERS}

-- A chain: the committed state, and the tentative ones over it, in order.
pub record ChainView : Type 0 where
  pub have : StateView
  pub members : List TentativeView

-- the state after the last member, or the committed state
abbrev pub tip : StateView → List TentativeView → StateView
tip base [] = base
tip base (t ∷ ts) = tip t.after ts

abbrev pub chain_tip : ChainView → StateView
chain_tip c = tip c.have c.members

-- the tentative state is over this one, as number and token tell
abbrev pub is_over : StateView → TentativeView → Bool
is_over s t = (t.before.number == s.number) && token_eq t.before.token s.token

-- each member is over the one before it
abbrev pub are_linked : StateView → List TentativeView → Bool
are_linked s [] = true
are_linked s (t ∷ ts) = is_over s t && are_linked t.after ts

pub record IsChain (c : ChainView) : Type 0 where
  pub few : length c.members ≤ MOST_MEMBERS
  pub linked : IsTrue (are_linked c.have c.members)

abbrev pub pushed : ChainView → TentativeView → ChainView
pushed c t = record c { members = c.members ++ t ∷ [] }

-- the decree is the commit of this state, by its number and token
abbrev pub commits_state : Decree → StateView → Bool
commits_state (Commit n token) s = (s.number == n) && token_eq s.token token
commits_state Rollback s = false

-- the decree commits the first member
abbrev pub commits_first : Decree → List TentativeView → Bool
commits_first d [] = false
commits_first d (t ∷ ts) = commits_state d t.after

-- the first member is committed, and the others are over it
abbrev pub without_first : StateView → List TentativeView → ChainView
without_first s [] = record { have = s; members = [] }
without_first s (t ∷ ts) = record { have = t.after; members = ts }

abbrev pub first_replies : List TentativeView → List Answered
first_replies [] = []
first_replies (t ∷ ts) = t.replies

-- what a chain gives at a decree: the replies of its first member, if that is committed
abbrev pub given_by : Decree → ChainView → Option (List Answered)
given_by d c = if commits_first d c.members then Some (first_replies c.members) else None

-- the chain after it
abbrev pub after_decree : Decree → ChainView → ChainView
after_decree d c = if commits_first d c.members then without_first c.have c.members else c

abbrev pub undone : ChainView → ChainView
undone c = record c { members = [] }

-- the state has the number and the token that stand
abbrev pub is_standing : Standing → StateView → Bool
is_standing st s = (s.number == st.n) && token_eq s.token st.token

-- the chain over the state that stands, if that is the committed one or a member's
abbrev pub chain_from : Standing → StateView → List TentativeView → Option ChainView
chain_from st have [] = if is_standing st have then Some (record { have = have; members = [] }) else None
chain_from st have (t ∷ ts) = if is_standing st have then Some (record { have = have; members = t ∷ ts }) else chain_from st t.after ts

-- the replies of the members up to it, in order
abbrev pub replies_on_commit : Standing → StateView → List TentativeView → List Answered
replies_on_commit st have [] = []
replies_on_commit st have (t ∷ ts) = if is_standing st have then [] else t.replies ++ replies_on_commit st t.after ts

-- a chain is identified by its states
abbrev pub chain_code : Coded StateView → Coded TentativeView → Coded ChainView
chain_code state tentative = code_by (StateView × List TentativeView) (coded× state (coded_list tentative)) (λ c. (c.have, c.members)) (λ p. record { have = p.0; members = p.1 }) (λ _. refl)

-- the record of the committed state, how many members there are, and each of them over the state before it
abbrev pub chain_text_in : Version → ChainView → List ℕ
chain_text_in version c = state_text_in version c.have ++ (num w8 (length c.members) ++ flat_map (member_text_in version) c.members)

-- what is written
abbrev pub chain_text : ChainView → List ℕ
chain_text c = chain_text_in Second c

-- the same of a chain without members
abbrev pub alone_text : StateView → List ℕ
alone_text s = chain_text (record { have = s; members = [] })

-- each member is over just the state before it, and not only by number and token
abbrev pub AreOverIn : Version → StateView → List TentativeView → Type 0
AreOverIn version s [] = Unit {0}
AreOverIn version s (t ∷ ts) = IsTentativeOverIn version s t × AreOverIn version t.after ts

abbrev pub AreOver : StateView → List TentativeView → Type 0
AreOver s ts = AreOverIn Second s ts

-- so many members over a state
pub record AreMembers (version : Version) (s : StateView) (count : ℕ) (ts : List TentativeView) : Type 0 where
  pub counted : length ts ≡ count
  pub over : AreOverIn version s ts

-- a chain over this state, with so many members
pub record IsFilled (version : Version) (s : StateView) (count : ℕ) (c : ChainView) : Type 0 where
  pub have : c.have ≡ s
  pub members : AreMembers version s count c.members

abbrev pub members_text : Version → ChainView → List ℕ
members_text version c = flat_map (member_text_in version) c.members

-- a chain that can be read back from its record in this version
pub record IsRecordedIn (version : Version) (c : ChainView) : Type 0 where
  pub state : IsStateIn version c.have
  pub few : length c.members ≤ MOST_MEMBERS
  pub over : AreOverIn version c.have c.members

abbrev pub IsRecorded : ChainView → Type 0
IsRecorded c = IsRecordedIn Second c
