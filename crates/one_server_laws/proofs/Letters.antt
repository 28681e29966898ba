-- Each reply that was ever sent to a client is kept by a committed state.
use Rattle.std.proofs.Common.{◌≡◌, inl, inr, ℕ, List, [], ◌∷◌, ◌++◌, Some, refl, sym, ◌∙◌, subst, ⊎_elim, slice_get}
use Rattle.std.specs.Prelude.{Contains}
use Rattle.std.proofs.lemmas.List.Elements.{Contains-append_left}
use Rattle.proto.specs.declared.reply.Reply as replies
use Rattle.decrees.specs.declared.decree.Decree.{Decree}
use Rattle.decrees.specs.declared.decree.Decree.TheVariants.{Commit}
use Rattle.decrees.specs.declared.node.Letter.{Letter}
use Rattle.decrees.specs.declared.node.Node.{Node}
use Rattle.decrees.specs.Count.{member_count}
use Rattle.states.specs.State.{StateView}
use Rattle.exec_lines.specs.declared.body.Body.{Body}
use Rattle.exec_lines.specs.declared.input.Input.{Input}
use Rattle.exec_node.specs.Executor.{ExecutorView, executor_outcome, executor_handled}
use Rattle.agreement_laws.specs.ChosenList.{chosen}
use Rattle.run_laws.specs.Met.{ToldApart}
use Rattle.run_laws.specs.Chosen.{IsCommitted}
use Rattle.run_laws.proofs.Elements.{in_none, first_or_other}
use Rattle.custody_laws.specs.Durable.{Durable}
use Rattle.custody_laws.proofs.Custody.{reached_ok}
use Rattle.events.specs.declared.event.Event.{Event}
use Rattle.events.specs.declared.event.Replica.TheVariants as replica
use Rattle.events.specs.Config.{ConfigView}
use Rattle.slots.specs.declared.slot.Slot.TheVariants.{Up}
use Rattle.worlds.specs.World.{WorldView, WorldNext, WorldRuns, last_world, unopened_world, restarts_below, opening_events, IsFirstWorld}
use Rattle.world_laws.specs.Laws.{chosen_list}
use Rattle.one_server_laws.specs.Saved.{saved_of, AreLinked, IsMet, IsExecuted}
use Rattle.one_server_laws.specs.HeldLaws.{IsChosenState}
use Rattle.one_server_laws.proofs.Records.{chain_is_linked}
use Rattle.one_server_laws.proofs.Plays.{Held, last_held, are_of_executor_machines, AreRestarts, restarts_both, restarts_are}
use Rattle.one_server_laws.proofs.Proved.{committed_is_chosen_in_worlds}
use Rattle.worlds.specs.Asked.{WasSent}
use Rattle.one_server_laws.proofs.Replies.{SaidTo, AllReplies, replies_more, all-append, KeepsReply, KeepsOnTheWay, KeepsBeforeOrAfter, step_replies}
use Rattle.one_server_laws.proofs.Sending.{IsBrought, StepsReply, opening_sends, event_sends}
use Rattle.one_server_laws.proofs.OnTheWay.{way_is_chosen}
use Rattle.one_server_laws.proofs.Past.{Past, next_past, among_push, met_among}

-- A state that was met, or is the first, and of which a Commit is chosen, or that has number 0, keeps this reply for the client.
pub record IsCommittedReply (seen : List WorldView) (w : WorldView) (client number : ℕ) (reply : replies.Reply) : Type 0 where
  pub state : StateView
  pub chosen : IsChosenState seen w state
  pub keeps : KeepsReply state client number reply

-- ---- one executor

module _ {c : ConfigView} {events : List Event} {seen : List WorldView} {w : WorldView} (past : Past c events seen w) where
  -- what an executor has committed that is up
  up_is_chosen : (id : ℕ) (e : ExecutorView) → slice_get w.executors id ≡ Some (Up e) → IsChosenState seen w e.state.chain.have
  up_is_chosen id e placed = committed_is_chosen_in_worlds c events seen w id (saved_of e.state) past.reached past.ends (record { slot = Up e; there = placed; had = refl })

  up_is_linked : (id : ℕ) (e : ExecutorView) → slice_get w.executors id ≡ Some (Up e) → AreLinked e.state.chain.have e.state.chain.members
  up_is_linked id e placed =
      let h = are_of_executor_machines c events seen w past.reached past.ends in
      let mine = h.same.executors id (Up e) placed in
      let chain = ((reached_ok w.u h.before h.now h.reached).execs id mine.0 mine.1).chain in
      subst (λ (y : Durable). AreLinked y.have y.chain) (sym mine.2.saved) (chain_is_linked (Contains h.now.met) (Contains h.now.rounds) mine.0.standing.epoch mine.0.have mine.0.chain chain)

-- ---- the next world

module _ {c : ConfigView} {events : List Event} {seen : List WorldView} {w : WorldView} (past : Past c events seen w) (apart : ToldApart (IsMet seen)) (e : Event) (x : WorldView) (next : WorldNext w e x) (grown : (new : List Decree) × (chosen_list x ≡ chosen_list w ++ new)) where
  committed_later : (s : StateView) → IsCommitted (chosen_list w) s → IsCommitted (chosen_list x) s
  committed_later s (inl first) = inl first
  committed_later s (inr at) = inr (subst (λ (ds : List Decree). Contains ds (Commit s.number s.token)) (sym grown.1) (Contains-append_left (chosen_list w) grown.0 (Commit s.number s.token) at))

  chosen_later : (s : StateView) → IsChosenState seen w s → IsChosenState (seen ++ x ∷ []) x s
  chosen_later s h = record {
    known = ⊎_elim inl (λ m. inr (met_among seen (seen ++ x ∷ []) (among_push seen x) s m)) h.known;
    committed = committed_later s h.committed;
  }

  reply_later : (client number : ℕ) (reply : replies.Reply) → IsCommittedReply seen w client number reply → IsCommittedReply (seen ++ x ∷ []) x client number reply
  reply_later client number reply h = record { state = h.state; chosen = chosen_later h.state h.chosen; keeps = h.keeps }

  held : Held c.u (IsMet seen) (IsExecuted seen) w
  held = last_held c events seen w past.reached past.ends

  decrees_are : held.now.decrees ≡ chosen_list w
  decrees_are = held.same.decrees ∙ (λ i. chosen (sym held.same.same_u i) (sym held.same.letters i))

  -- a reply that is committed on the way is kept by a state that is chosen
  way_replies : (id : ℕ) (i : Input) (v : ExecutorView) → IsBrought w i → slice_get w.executors id ≡ Some (Up v) → (client number : ℕ) (reply : replies.Reply) → KeepsOnTheWay v.state (executor_outcome v i).state client number reply
      → IsCommittedReply seen w client number reply
  way_replies id i v brought placed client number reply k =
      let is = way_is_chosen held apart id v placed i brought client number reply k in
      record {
        state = k.under.0.after;
        chosen = record {
          known = inr is.0;
          committed = inr (subst (λ (ds : List Decree). Contains ds (Commit k.under.0.after.number k.under.0.after.token)) decrees_are is.1);
        };
        keeps = k.under.2;
      }

  steps_reply : StepsReply (IsCommittedReply (seen ++ x ∷ []) x) w x
  steps_reply id i v brought placed now =
      replies_more (KeepsBeforeOrAfter v.state (executor_outcome v i).state) (IsCommittedReply (seen ++ x ∷ []) x) by (executor_outcome v i).letters (step_replies v.u v.id v.state (up_is_linked past id v placed) i)
    where
      by : (client number : ℕ) (reply : replies.Reply) → KeepsBeforeOrAfter v.state (executor_outcome v i).state client number reply → IsCommittedReply (seen ++ x ∷ []) x client number reply
      by client number reply (inl k) = record { state = v.state.chain.have; chosen = chosen_later v.state.chain.have (up_is_chosen past id v placed); keeps = k }
      by client number reply (inr (inl k)) = record {
        state = (executor_outcome v i).state.chain.have;
        chosen = up_is_chosen (next_past c events seen w e x past next) id (executor_handled v i) now;
        keeps = k;
      }
      by client number reply (inr (inr k)) = reply_later client number reply (way_replies id i v brought placed client number reply k)

  pub replies_next : AllReplies (IsCommittedReply seen w) w.letters → AllReplies (IsCommittedReply (seen ++ x ∷ []) x) x.letters
  replies_next old =
      let P = IsCommittedReply (seen ++ x ∷ []) x in
      let sent = event_sends P w x steps_reply e next in
      subst (AllReplies P) (sym sent.1) (all-append P w.letters sent.0 (replies_more (IsCommittedReply seen w) P reply_later w.letters old) sent.2)

-- ---- the first world

module _ (P : ℕ → ℕ → replies.Reply → Type 0) where
  opened_replies : (w : WorldView) (es : List Event) (ws : List WorldView) → AllReplies P w.letters → AreRestarts es → WorldRuns w es ws → AllReplies P (last_world w ws).letters
  opened_replies w [] [] old r runs = old
  opened_replies w [] (x ∷ ws) old r runs = absurd runs
  opened_replies w (e ∷ es) [] old r runs = absurd runs
  opened_replies w (e ∷ es) (x ∷ ws) old r runs =
      let sent = opening_sends P w x r.0 (subst (λ (y : Event). WorldNext w y x) r.1 runs.0) in
      opened_replies x es ws (subst (AllReplies P) (sym sent.1) (all-append P w.letters sent.0 old sent.2)) r.2 runs.1

  pub replies_first : (c : ConfigView) (first : WorldView) → IsFirstWorld c first → AllReplies P first.letters
  replies_first c first h =
      subst (λ (x : WorldView). AllReplies P x.letters) h.2
      (opened_replies (unopened_world c) (opening_events c.u) h.0 tt
      (restarts_both (restarts_below replica.Executor (member_count c.u)) (restarts_below replica.Verifier (member_count c.u)) (restarts_are replica.Executor (member_count c.u)) (restarts_are replica.Verifier (member_count c.u))) h.1)

  -- ---- a letter that was sent

  among_letters : (ls : List (Letter Body)) (l : Letter Body) → AllReplies P ls → Contains ls l → SaidTo P l.to l.body
  among_letters [] l all at = absurd (in_none l at)
  among_letters (y ∷ ls) l all at =
      ⊎_elim (λ (same : y ≡ l). subst (λ (z : Letter Body). SaidTo P z.to z.body) same all.0) (λ later. among_letters ls l all.1 later) (first_or_other y l ls at)

  pub sent_reply : (ls : List (Letter Body)) (client number : ℕ) (reply : replies.Reply) → AllReplies P ls → WasSent ls client number reply → P client number reply
  sent_reply ls client number reply all sent =
      subst (λ (z : Node × Body). SaidTo P z.0 z.1) (λ i. (sent.2 i, sent.3 i)) (among_letters ls sent.0 all sent.1)
