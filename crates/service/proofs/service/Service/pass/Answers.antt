use Rattle.std.proofs.Common.{◌≡◌, ◌+◌, inl, ℕ, Bool, true, false, List, [], length, refl, sym, ap, ◌∙◌, subst, arith}
use Rattle.std.specs.Prelude.{not}
use Rattle.std.specs.Vec.{vec_len}
use Rattle.std.proofs.lemmas.Bool.{eqb-true}
use Rattle.std.proofs.lemmas.List.{append-nil, nil_from_length}
use Rattle.loop_messages.specs.declared.message.Said.{Said}
use Rattle.connections.specs.Connections.{ConnectionsView}
use Rattle.service.specs.Service.{ServiceView, Gives}
use Rattle.service.proofs.MomentLemmas.{now_given}
use Rattle.service.proofs.KeepLemmas.{gives_on}
use Rattle.service.specs.Told.{TellsIn}
use Rattle.service.proofs.ToldLemmas.{pass_tells, tells_same, asked_and_rests}
use Rattle.service.proofs.service.Service.pass.Goals.{then-goes_on, else-goes_on}
use Rattle.service.proofs.service.Service.pass.Goals as goal

-- what was given when commands were asked, and then what was answered
pub returns-clause-given : goal.returns-clause-given
returns-clause-given g c =
    let before = c.args.self.now.connections in
    let between = c.assign_all.new.self.connections in
    let after = c.answer_all.new.self.connections in
    let of_inside : Gives c.self.inside.connections c.args.said.now.items between c.assign_all.new.said.items = subst (λ (said : List Said). Gives c.self.inside.connections said between c.assign_all.new.said.items) c.has_room.ensures.said c.assign_all.ensures.given in
    let asked : Gives before c.args.said.now.items between c.assign_all.new.said.items = subst (λ (x : ServiceView). Gives x.connections c.args.said.now.items between c.assign_all.new.said.items) c.self.view_is of_inside in
    let answered : Gives between c.assign_all.new.said.items after c.answer_all.new.said.items = subst (λ (x : ConnectionsView). Gives x c.assign_all.new.said.items after c.answer_all.new.said.items) c.execute-answers.ensures.connections c.answer_all.ensures.given in
    gives_on before between after c.args.said.now.items c.assign_all.new.said.items c.answer_all.new.said.items asked answered

pub execute-answers-requires : goal.execute-answers-requires
execute-answers-requires g c =
    let between = c.assign_all.new.self.connections in
    let of_inside : Gives c.self.inside.connections c.args.said.now.items between c.assign_all.new.said.items = subst (λ (said : List Said). Gives c.self.inside.connections said between c.assign_all.new.said.items) c.has_room.ensures.said c.assign_all.ensures.given in
    let asked : Gives c.args.self.now.connections c.args.said.now.items between c.assign_all.new.said.items = subst (λ (x : ServiceView). Gives x.connections c.args.said.now.items between c.assign_all.new.said.items) c.self.view_is of_inside in
    (c.type_bounds.sync-R, now_given c.args.self.now.connections between _ _ c.args.moment asked c.requires)

pub returns-clause-tells : goal.returns-clause-tells
returns-clause-tells g c =
    let s = c.self.inside in
    let mid = c.assign_all.new.self in
    let now = c.answer_all.new.self in
    let asked : TellsIn s.connections.table (s.refused + s.ensemble.refused) c.args.said.now.items mid.connections.table mid.replicas.refused c.assign_all.new.said.items = subst (λ (said : List Said). TellsIn s.connections.table (s.refused + s.ensemble.refused) said mid.connections.table mid.replicas.refused c.assign_all.new.said.items) c.has_room.ensures.said c.assign_all.ensures.tells in
    subst (λ (x : ServiceView). TellsIn x.connections.table x.replicas.refused c.args.said.now.items now.connections.table now.replicas.refused c.answer_all.new.said.items) c.self.view_is
    (pass_tells s.connections.table mid.connections.table c.execute-answers.new.self.connections.table now.connections.table _ _ _ _ c.args.said.now.items c.assign_all.new.said.items c.answer_all.new.said.items
    c.assign_all.ensures.counted c.execute-answers.ensures.counted c.answer_all.ensures.counted (ap (λ (x : ConnectionsView). x.table) c.execute-answers.ensures.connections) asked c.answer_all.ensures.tells)

pub returns-then-not-has_room-clause-given : goal.returns-then-not-has_room-clause-given
returns-then-not-has_room-clause-given g c = (
  [],
  c.has_room.ensures.said ∙ sym (append-nil c.args.said.now.items),
  ap (λ (x : ServiceView). x.connections.given) c.self.view_is ∙ sym (append-nil c.args.self.now.connections.given),
  ap (λ (x : ServiceView). x.connections.passed) c.self.view_is ∙ sym (append-nil c.args.self.now.connections.passed),
)

pub returns-then-not-has_room-clause-tells : goal.returns-then-not-has_room-clause-tells
returns-then-not-has_room-clause-tells g c =
    tells_same _ _ _ _ c.args.said.now.items c.has_room.new.said.items (ap (λ (x : ServiceView). x.connections.table) c.self.view_is) c.has_room.ensures.said

is_not : (b : Bool) → not b ≡ false → b ≡ true
is_not true e = refl
is_not false e = absurd (cc e)

-- either nothing came back, and then what was asked is all, or nobody waits
pub returns-clause-stops : goal.returns-clause-stops
returns-clause-stops g c = λ stops same few. elim c.if-goes_on.branch [
  | then-goes_on w ↦
      let queue = c.self-2.inside.queue in
      let empty : w.is_empty.result ≡ true = is_not w.is_empty.result (sym w.result-is ∙ stops) in
      let none : length queue.items ≡ 0 = sym queue.ok.0 ∙ eqb-true queue.len 0 (sym w.is_empty.ensures ∙ empty) in
      inl (subst (λ (v : ServiceView). v.queue ≡ []) c.self-2.view_is (nil_from_length queue.items none))
  | else-goes_on w ↦
      let answers = c.execute-answers.result in
      let zero = eqb-true (vec_len answers) 0 (sym c.is_empty-goes_on.ensures ∙ w.if-goes_on.false) in
      let count : length answers.items ≡ 0 = omega (arith, zero) in
      let was : ℕ = c.self.inside.refused + c.self.inside.ensemble.refused in
      let is : was ≡ c.args.self.now.replicas.refused = ap (λ (v : ServiceView). v.replicas.refused) c.self.view_is in
      asked_and_rests c.assign_all.new.self c.execute-answers.new.self c.answer_all.new.self was _ _ _ c.assign_all.ensures.counted c.execute-answers.ensures.counted c.answer_all.ensures.counted c.assign_all.ensures.asks c.execute-answers.ensures.same (c.answer_all.ensures.none (nil_from_length answers.items count)) (same ∙ sym is) (omega (arith, few, is))
]
