-- The first letter that is under way.
use Rattle.std.specs.Prelude.{◌≡◌, List, Some, slice_get}
use Rattle.decrees.specs.declared.node.Letter.{Letter}
use Rattle.decrees.specs.declared.node.Node.{Node}
use Rattle.exec_lines.specs.declared.body.Body.{Body}
use Rattle.site_laws.specs.Site.{IsNodeOf}
use Rattle.member.specs.Member.{MemberView, home_of}

-- the first of these letters is for this node
pub record IsFirstTo (mail : List (Letter Body)) (to : Node) : Type 0 where
  pub letter : Letter Body
  pub first : slice_get mail 0 ≡ Some letter
  pub is_to : letter.to ≡ to

-- it is for one of the member's own nodes
pub record IsFirstHere (v : MemberView) : Type 0 where
  pub letter : Letter Body
  pub first : slice_get v.nodes.mail 0 ≡ Some letter
  pub here : IsNodeOf (home_of v.config) v.id letter.to
