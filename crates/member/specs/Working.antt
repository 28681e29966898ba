-- What work adds to what a member shows, and where it leaves it.
use Rattle.std.specs.Prelude.{◌≡◌, ℕ, List, [], ◌∷◌, ◌++◌, flat_map, false, Option, None, Some, Contains, slice_get}
use Rattle.std.specs.List.{list_any}
use Rattle.decrees.specs.declared.node.Letter.{Letter}
use Rattle.exec_lines.specs.declared.body.Body.{Body}
use Rattle.hosts.specs.Host.{HostView}
use Rattle.hosts.specs.Orders.{has_due}
use Rattle.ensemble.specs.declared.answer.Answer.{Answer}
use Rattle.ensemble.specs.Shown.{has_job, would_cut}
use Rattle.site_laws.specs.Site.{Shown, CameIn, WentOut, Asks, Answers, Notes}
use Rattle.member.specs.Member.{MemberView}

abbrev pub answers_by : Shown → List Answer
answers_by (Answers a) = a ∷ []
answers_by (CameIn l) = []
answers_by (WentOut l) = []
answers_by (Asks r quiet) = []
answers_by (Notes moment) = []

-- an answer is shown
abbrev pub answer_shown : Option Answer → List Shown
answer_shown None = []
answer_shown (Some a) = Answers a ∷ []

-- work at this moment shows answers and this moment, and no letter and no request
abbrev pub IsOfWork : ℕ → Shown → Type 0
IsOfWork moment (Answers a) = Unit {0}
IsOfWork moment (Notes noted) = noted ≡ moment
IsOfWork moment (CameIn l) = ⊥
IsOfWork moment (WentOut l) = ⊥
IsOfWork moment (Asks r quiet) = ⊥

-- work at this moment gave the answers that came behind these, and showed them in order
pub record HasWorked (moment : ℕ) (shown : List Shown) (answers : List Answer) (shown_now : List Shown) (answers_now : List Answer) : Type 0 where
  pub added : List Shown
  pub after : shown_now ≡ shown ++ added
  pub answered : answers_now ≡ answers ++ flat_map answers_by added
  pub only : (x : Shown) → Contains added x → IsOfWork moment x

-- the letters that were to leave are to leave, and maybe more behind them
pub record LeaveToo (leaving now : List (Letter Body)) : Type 0 where
  pub more : List (Letter Body)
  pub behind : now ≡ leaving ++ more

-- no cut would give a batch of its executor
abbrev pub NoBatchHere : MemberView → Type 0
NoBatchHere v = (h : HostView) → slice_get v.nodes.executors v.id ≡ Some h → would_cut h.slot ≡ false

-- No letter is under way within the member, no executor has a job, no host holds an order that its executor could obey now, and no cut would give a batch of its own.
pub record IsMemberAtRest (v : MemberView) : Type 0 where
  pub none_comes : v.nodes.mail ≡ []
  pub none_runs : list_any has_job v.nodes.executors ≡ false
  pub none_is_due : list_any has_due v.nodes.executors ≡ false
  pub none_is_cut : NoBatchHere v
