-- A member of a site, and what is always true of it.
use Rattle.std.specs.Prelude.{◌≡◌, ℕ, ◌-◌, ◌/◌, ◌<◌, List, ◌++◌, Option, refl}
use Rattle.std.specs.Coded.{Coded, code_by, coded×, coded_ℕ, coded_list}
use Rattle.decrees.specs.Count.{member_count}
use Rattle.decrees.specs.declared.node.Letter.{Letter}
use Rattle.exec_lines.specs.declared.body.Body.{Body}
use Rattle.events.specs.Config.{ConfigView}
use Rattle.ensemble.specs.Nodes.{NodesView, IsFree}
use Rattle.site_laws.specs.Orders.{DoesAll, shows}
use Rattle.site_laws.specs.Site.{Deed, Does, Shown, shown_by}
use Rattle.site_laws.specs.Lives.{MemberKept, begun_nodes}

pub record MemberView : Type 0 where
  pub id : ℕ
  pub config : ConfigView
  -- what its process began with, if it began with what was kept of another one
  pub found : Option MemberKept
  -- of which only its own executor, verifier and proxies do anything
  pub nodes : NodesView
  -- letters to other members, until they leave
  pub leaving : List (Letter Body)
  -- what it has shown to others, in order
  pub shown : List Shown
  -- how often something was not done for want of memory, or since a bound was reached
  pub refused : ℕ

-- a member is identified by what it has
abbrev pub member_code : Coded ConfigView → Coded (Option MemberKept) → Coded NodesView → Coded (Letter Body) → Coded (List Shown) → Coded MemberView
member_code config found nodes letter shown =
    code_by ((((((ℕ × ConfigView) × Option MemberKept) × NodesView) × List (Letter Body)) × List Shown) × ℕ)
    (coded× (coded× (coded× (coded× (coded× (coded× coded_ℕ config) found) nodes) (coded_list letter)) shown) coded_ℕ)
    (λ m. ((((((m.id, m.config), m.found), m.nodes), m.leaving), m.shown), m.refused))
    (λ p. record { id = p.0.0.0.0.0.0; config = p.0.0.0.0.0.1; found = p.0.0.0.0.1; nodes = p.0.0.0.1; leaving = p.0.0.1; shown = p.0.1; refused = p.1 })
    (λ _. refl)

-- which member of which site it is, and what its process began with
abbrev pub whose : MemberView → ℕ × ConfigView × Option MemberKept
whose v = (v.id, v.config, v.found)

-- how many proxies each member has
abbrev pub block_of : ConfigView → ℕ
block_of c = c.clients / member_count c.u

-- the member of this client: those of member m are numbered from `m * block_of c + 1` on
abbrev pub home_of : ConfigView → ℕ → ℕ
home_of c client = (client - 1) / block_of c

-- the site has a member of this number, and each member has a proxy
pub record HasPlace (c : ConfigView) (id : ℕ) : Type 0 where
  pub member : id < member_count c.u
  pub proxies : 0 < block_of c

-- the proxy is its own, and free
pub record MayAsk (v : MemberView) (proxy : ℕ) : Type 0 where
  pub free : IsFree v.nodes.proxies proxy
  pub here : home_of v.config proxy ≡ v.id

-- these letters are under way, too
abbrev pub with_leaving : List (Letter Body) → NodesView → NodesView
with_leaving leaving n = record n { mail = leaving ++ n.mail }

-- deeds led the nodes of a member from those that its process began with to these, and show this
pub record HasDone (id : ℕ) (c : ConfigView) (found : Option MemberKept) (now : NodesView) (shown : List Shown) : Type 0 where
  pub deeds : List Deed
  pub leads : DoesAll (Does (home_of c)) id (begun_nodes c id found) deeds now
  pub show : shows shown_by deeds ≡ shown

-- what is always true of a member
abbrev pub IsSiteMember : MemberView → Type 0
IsSiteMember v = HasDone v.id v.config v.found (with_leaving v.leaving v.nodes) v.shown
