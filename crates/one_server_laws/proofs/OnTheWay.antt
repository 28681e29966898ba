-- A state that is committed on the way to what an executor is told to stand was chosen.
use Rattle.std.proofs.Common.{◌≡◌, ℕ, zero, suc, List, [], ◌∷◌, Some, refl, ◌∙◌, ap, subst, slice_get}
use Rattle.std.specs.Prelude.{Contains, option_map}
use Rattle.proto.specs.declared.reply.Reply as replies
use Rattle.decrees.specs.declared.decree.Decree.{Decree}
use Rattle.decrees.specs.declared.decree.Decree.TheVariants.{Commit}
use Rattle.decrees.specs.declared.standing.Standing.{Standing}
use Rattle.states.specs.State.{StateView}
use Rattle.executor.specs.Work.{TentativeView}
use Rattle.exec_lines.specs.declared.input.Input.{Input}
use Rattle.exec_lines.specs.declared.input.Input.TheVariants as input
use Rattle.exec_node.specs.Executor.{ExecutorView, executor_outcome}
use Rattle.run_laws.specs.Run.{Executed}
use Rattle.run_laws.specs.Met.{ToldApart}
use Rattle.run_laws.proofs.Elements.{in_head, in_tail}
use Rattle.custody_laws.specs.Durable.{reached_in}
use Rattle.custody_laws.proofs.Kept.{Chain-in}
use Rattle.custody_laws.proofs.Custody.{reached_ok, committed_under}
use Rattle.slots.specs.declared.slot.Slot.TheVariants.{Up}
use Rattle.worlds.specs.World.{WorldView}
use Rattle.one_server_laws.specs.Saved.{saved_of}
use Rattle.one_server_laws.proofs.Stood.{parts, reached_is, under_in, under_low}
use Rattle.one_server_laws.proofs.Inputs.{MayCome}
use Rattle.one_server_laws.proofs.Events.{may_hear}
use Rattle.one_server_laws.proofs.Plays.{Held}
use Rattle.one_server_laws.proofs.Outcomes.{has_saved, outcome_stands}
use Rattle.one_server_laws.proofs.Replies.{KeepsOnTheWay}
use Rattle.one_server_laws.proofs.Sending.{IsBrought}

-- a decree at an index is among them
among_decrees : (ds : List Decree) (i : ℕ) (d : Decree) → slice_get ds i ≡ Some d → Contains ds d
among_decrees [] i d e = absurd (cc e)
among_decrees (x ∷ ds) zero d e = let same : x ≡ d = cc e in subst (Contains (x ∷ ds)) same (in_head x ds)
among_decrees (x ∷ ds) (suc i) d e = in_tail x d ds (among_decrees ds i d e)

-- states are distinguished if more are
pub apart_among : (met more : StateView → Type 0) → ((s : StateView) → met s → more s) → ToldApart more → ToldApart met
apart_among met more h apart = record {
  states = λ s m. apart.states s (h s m);
  distinct = λ a b p q e. apart.distinct a b (p.0, h p.0 p.1, p.2) (q.0, h q.0 q.1, q.2) e;
}

module _ {u : ℕ} {met : StateView → Type 0} {rounds : Executed → Type 0} {w : WorldView} (held : Held u met rounds w) where
  -- what an event brings may come
  may_come : (x : Input) → IsBrought w x → MayCome held.now x
  may_come (input.Letter l) brought = may_hear held.before held.is_reached held.same held.events held.verifiers_are brought.0 l l.from brought.1 refl
  may_come (input.Cut moment) brought = tt
  may_come (input.Step place) brought = tt
  may_come input.Finish brought = tt
  may_come (input.Adopt t) brought = absurd brought

  module _ (apart : ToldApart met) (id : ℕ) (e : ExecutorView) (placed : slice_get w.executors id ≡ Some (Up e)) (x : Input) (brought : IsBrought w x) where
    pub way_is_chosen : (client number : ℕ) (reply : replies.Reply) (k : KeepsOnTheWay e.state (executor_outcome e x).state client number reply)
        → met k.under.0.after × Contains held.now.decrees (Commit k.under.0.after.number k.under.0.after.token)
    way_is_chosen client number reply k =
        let d = saved_of e.state in
        let now = (executor_outcome e x).state in
        let m : TentativeView = k.under.0 in
        let ok = (reached_ok u held.before held.now held.is_reached).execs id d (has_saved held id e placed) in
        let stands = outcome_stands held id e placed x (may_come x brought) in
        let reached : reached_in now.standing d.have d.chain ≡ Some (parts k.chain) = reached_is now.standing d.have d.chain ∙ ap (option_map parts) k.is_found in
        let low = under_low (Contains held.now.met) (Contains held.now.rounds) d.standing.epoch now.standing d.have d.chain (parts k.chain) m ok.chain reached k.under.1 in
        let inside = under_in now.standing d.have d.chain m k.under.1 in
        let there = subst (λ (st : Standing). reached_in st d.have d.chain ≡ Some (parts k.chain)) stands.stands reached in
        let told = apart_among (Contains held.now.met) met held.met_is apart in
        let at = committed_under u held.before held.now id d now.known (parts k.chain) m held.is_reached told (has_saved held id e placed) stands.within there inside low in (
          held.met_is m.after (Chain-in (Contains held.now.met) (Contains held.now.rounds) d.standing.epoch d.have d.chain ok.chain inside).is_met,
          among_decrees held.now.decrees at.0 (Commit m.after.number m.after.token) at.1,
        )
