-- What is done of a member's own two replicas.
use Rattle.std.specs.Prelude.{◌≡◌, ℕ, true}
use Rattle.events.specs.declared.event.Replica.{Replica}
use Rattle.events.specs.declared.event.Replica.TheVariants as replica
use Rattle.ensemble.specs.Shown.{is_up_at}
use Rattle.member.specs.Member.{MemberView}

-- the number of the member whose replica this is
abbrev pub member_of : Replica → ℕ
member_of (replica.Executor id) = id
member_of (replica.Verifier id) = id

-- its executor and its verifier are up
pub record AreBothUp (v : MemberView) : Type 0 where
  pub executor : is_up_at v.nodes (replica.Executor v.id) ≡ true
  pub verifier : is_up_at v.nodes (replica.Verifier v.id) ≡ true
