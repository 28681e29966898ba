-- What is kept of a member, and the process that begins with it.
use Rattle.std.specs.Prelude.{◌≡◌, ℕ, Bool, List, [], ◌∷◌, length, Option, None, Some}
use Rattle.events.specs.Config.{ConfigView}
use Rattle.site_laws.specs.Lives.{MemberKept}
use Rattle.member.specs.Member.{HasPlace}

-- what was found, if something was
abbrev pub record_found : List (MemberKept × Bool) → Option MemberKept
record_found [] = None
record_found (e ∷ rest) = Some e.0

-- a process of member `id` may begin with this: it was kept of that member, in a site of as many members and proxies
pub record MayBegin (c : ConfigView) (id : ℕ) (kept : MemberKept) : Type 0 where
  pub place : HasPlace c id
  pub own : kept.id ≡ id
  pub same_u : kept.u ≡ c.u
  pub proxies : length kept.proxies ≡ c.clients
