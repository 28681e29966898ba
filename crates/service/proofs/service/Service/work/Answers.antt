use Rattle.std.proofs.Common.{◌≡◌, ◌≤◌, ℕ, List, [], ◌∷◌, ◌++◌, map, sym, ap, ◌∙◌, subst}
use Rattle.loop_messages.specs.declared.message.Said.{Said}
use Rattle.connections.specs.History.{Passed, moment_as}
use Rattle.ensemble.specs.Nodes.{size_of}
use Rattle.service.specs.Service.{ServiceView, ReplicasView, RestsUnlessRefused, given_entry, passed_entry}
use Rattle.service.specs.Told.{AreTold, LeaversAreTold, UnlessRefused, TellsIn, AsksWhatWaits}
use Rattle.service.proofs.MomentLemmas.{now_noted}
use Rattle.service.proofs.KeepLemmas.{gives_all}
use Rattle.service.proofs.ToldLemmas.{tells_all, work_asks}
use Rattle.service.proofs.service.Service.work.Goals as goal

pub passes-requires : goal.passes-requires
passes-requires g c = (c.type_bounds.sync-R, now_noted c.args.self.now.connections.passed c.note.new.self.connections.passed c.args.moment c.note.ensures.passed)

pub returns-clause-given : goal.returns-clause-given
returns-clause-given g c =
    let old = c.args.self.now in
    let said = c.passes.new.said.items in
    let all = gives_all c.note.new.self.connections c.passes.new.self.connections c.new-said.result.items said c.new-said.ensures.items c.passes.ensures.given in
    subst (λ (x : ServiceView). x.connections.given ≡ old.connections.given ++ map given_entry said) (sym c.count_times.ensures)
    (all.0 ∙ ap (λ (log : List (ℕ × List ℕ)). log ++ map given_entry said) c.note.ensures.given)

pub returns-clause-passed : goal.returns-clause-passed
returns-clause-passed g c =
    let old = c.args.self.now in
    let said = c.passes.new.said.items in
    let all = gives_all c.note.new.self.connections c.passes.new.self.connections c.new-said.result.items said c.new-said.ensures.items c.passes.ensures.given in
    subst (λ (x : ServiceView). x.connections.passed ≡ (old.connections.passed ++ moment_as c.args.moment ∷ []) ++ map passed_entry said) (sym c.count_times.ensures)
    (all.1 ∙ ap (λ (log : List Passed). log ++ map passed_entry said) c.note.ensures.passed)

pub returns-clause-told : goal.returns-clause-told
returns-clause-told g c =
    let old = c.args.self.now in
    let began = c.note.new.self in
    let now = c.passes.new.self in
    let said = c.passes.new.said.items in
    let tells : TellsIn began.connections.table began.replicas.refused [] now.connections.table now.replicas.refused said = subst (λ (before : List Said). TellsIn began.connections.table began.replicas.refused before now.connections.table now.replicas.refused said) c.new-said.ensures.items c.passes.ensures.tells in
    let all = tells_all old.connections.table began.connections.table now.connections.table old.replicas.refused began.replicas.refused now.replicas.refused said c.note.ensures.table (ap (λ (r : ReplicasView). r.refused) c.note.ensures.replicas) tells in
    subst (λ (x : ServiceView). AreTold old.connections.table x.connections.table said) (sym c.count_times.ensures) all.0

pub returns-clause-leavers : goal.returns-clause-leavers
returns-clause-leavers g c =
    let old = c.args.self.now in
    let began = c.note.new.self in
    let now = c.passes.new.self in
    let said = c.passes.new.said.items in
    let tells : TellsIn began.connections.table began.replicas.refused [] now.connections.table now.replicas.refused said = subst (λ (before : List Said). TellsIn began.connections.table began.replicas.refused before now.connections.table now.replicas.refused said) c.new-said.ensures.items c.passes.ensures.tells in
    let all = tells_all old.connections.table began.connections.table now.connections.table old.replicas.refused began.replicas.refused now.replicas.refused said c.note.ensures.table (ap (λ (r : ReplicasView). r.refused) c.note.ensures.replicas) tells in
    subst (λ (x : ServiceView). UnlessRefused old.replicas.refused x.replicas.refused (LeaversAreTold old.connections.table x.connections.table said)) (sym c.count_times.ensures) all.1

pub returns-clause-asks : goal.returns-clause-asks
returns-clause-asks g c =
    let old = c.args.self.now in
    subst (λ (x : ServiceView). UnlessRefused old.replicas.refused x.replicas.refused (AsksWhatWaits old x)) (sym c.count_times.ensures)
    (work_asks old c.note.new.self c.passes.new.self c.note.ensures.answered (ap (λ (r : ReplicasView). r.refused) c.note.ensures.replicas) c.passes.ensures.asks)

pub returns-clause-counted : goal.returns-clause-counted
returns-clause-counted g c =
    subst (λ (x : ServiceView). c.args.self.now.replicas.refused ≤ x.replicas.refused) (sym c.count_times.ensures)
    (subst (λ (r : ReplicasView). r.refused ≤ c.passes.new.self.replicas.refused) c.note.ensures.replicas c.passes.ensures.counted)

pub returns-clause-size : goal.returns-clause-size
returns-clause-size g c =
    subst (λ (x : ServiceView). size_of x.replicas.ensemble.nodes ≡ size_of c.args.self.now.replicas.ensemble.nodes) (sym c.count_times.ensures)
    (c.passes.ensures.size ∙ ap (λ (r : ReplicasView). size_of r.ensemble.nodes) c.note.ensures.replicas)

pub returns-clause-rest : goal.returns-clause-rest
returns-clause-rest g c =
    subst (λ (x : ServiceView). RestsUnlessRefused c.args.self.now.replicas x.replicas) (sym c.count_times.ensures)
    (subst (λ (r : ReplicasView). RestsUnlessRefused r c.passes.new.self.replicas) c.note.ensures.replicas c.passes.ensures.rest)
