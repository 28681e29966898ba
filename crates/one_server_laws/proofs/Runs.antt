-- Each world of a play has a run, which begins with that of the world before.
use Rattle.std.proofs.Common.{◌≡◌, inl, inr, ℕ, suc, ◌-◌, List, [], ◌∷◌, ◌++◌, take, Some, sym, ap, subst, ⊎_elim, slice_get}
use Rattle.std.specs.Prelude.{Contains}
use Rattle.std.proofs.lemmas.List.Elements.{Contains-append_cases}
use Rattle.proto.specs.declared.reply.Reply as replies
use Rattle.sessions.specs.declared.sessions.LastReply.{LastReply}
use Rattle.decrees.specs.declared.decree.Decree.{Decree}
use Rattle.decrees.specs.declared.decree.Decree.TheVariants.{Commit, Rollback}
use Rattle.decrees.specs.declared.standing.Standing.{Standing}
use Rattle.decrees.specs.Standing.{standing}
use Rattle.states.specs.State.{StateView}
use Rattle.client.proofs.TakenLemmas.{texts_imply}
use Rattle.run_laws.specs.Run.{Executed, states_of, Extends}
use Rattle.run_laws.specs.Met.{ToldApart}
use Rattle.run_laws.specs.Chosen.{IsMade, AllMade, IsRunOf}
use Rattle.run_laws.specs.Replied.{WasGiven}
use Rattle.run_laws.proofs.Runs.{has, grows, of_run}
use Rattle.run_laws.proofs.Replies.{answered_once, kept_was_given}
use Rattle.events.specs.declared.event.Event.{Event}
use Rattle.events.specs.Config.{ConfigView}
use Rattle.worlds.specs.World.{WorldView, WorldNext, WorldRuns}
use Rattle.world_laws.specs.Laws.{chosen_list, ListsGrow}
use Rattle.world_laws.proofs.Proved.{list_only_grows}
use Rattle.one_server_laws.specs.Saved.{IsMet, IsExecuted}
use Rattle.one_server_laws.specs.HeldLaws.{IsChosenState}
use Rattle.one_server_laws.proofs.Proved.{each_has_one_in_worlds, chosen_is_made_in_worlds, committed_is_chosen_in_worlds}
use Rattle.one_server_laws.proofs.Told.{met_are_told_apart}
use Rattle.run_laws.proofs.Elements.{in_head, in_tail, in_none, first_or_other}
use Rattle.worlds.specs.Asked.{WasSent}
use Rattle.one_server_laws.specs.AskedLaws.{ExecutedIsAsked, GivenIsReplied}
use Rattle.one_server_laws.specs.Served.{WasAnswered}
use Rattle.one_server_laws.specs.Run.{IsRun, RunsGrow, IsOneServer}
use Rattle.one_server_laws.specs.InTime.{ExecutedWasCut, IsRunInTime, RunsGrowInTime, IsOneServerInTime, WorldsAreInTime}
use Rattle.one_server_laws.specs.Laws.{WorldsAreOfOneServer}
use Rattle.one_server_laws.proofs.Replies.{AllReplies}
use Rattle.one_server_laws.proofs.Past.{Past, first_past, next_past, Among, among_push, met_among, executed_among}
use Rattle.one_server_laws.proofs.OnTheWay.{apart_among}
use Rattle.one_server_laws.proofs.Letters.{IsCommittedReply, replies_first, replies_next, sent_reply}

-- more states met
made_more : (met more : StateView → Type 0) (rounds : Executed → Type 0) → ((s : StateView) → met s → more s) → (s : Standing) (d : Decree) → IsMade met rounds s d → IsMade more rounds s d
made_more met more rounds h s Rollback made = tt
made_more met more rounds h s (Commit n t) made = record {
  old = made.old;
  executed = made.executed;
  is_over = made.is_over;
  known_round = made.known_round;
  old_known = ⊎_elim inl (λ m. inr (h made.old m)) made.old_known;
  old_number = made.old_number;
  old_token = made.old_token;
  new_met = h made.executed.new made.new_met;
  new_number = made.new_number;
  new_token = made.new_token;
}

-- what was met in the whole play is distinguished; what was asked and given is as the laws of `asked` say
module _ (c : ConfigView) (all : List WorldView) (apart : ToldApart (IsMet all)) (executed_cut : ExecutedWasCut) (executed_asked : ExecutedIsAsked) (given_replied : GivenIsReplied) where
  -- a run of the decrees that are chosen in this world, of rounds of the worlds up to it
  abbrev RunOf : List WorldView → WorldView → List Executed → Type 0
  RunOf seen w run = IsRunOf (IsMet all) (IsExecuted seen) (chosen_list w) run

  made_of : {events : List Event} {seen : List WorldView} {w : WorldView} → Past c events seen w → Among seen all → AllMade (IsMet all) (IsExecuted seen) (chosen_list w)
  made_of {events} {seen} {w} past among place d at =
      made_more (IsMet seen) (IsMet all) (IsExecuted seen) (met_among seen all among) (standing (take (place - 1) (chosen_list w))) d
      (chosen_is_made_in_worlds c events seen w past.reached past.ends place d at)

  module _ {events : List Event} {seen : List WorldView} {w : WorldView} (past : Past c events seen w) (among : Among seen all) where
    has_run : (run : List Executed) × RunOf seen w run
    has_run = has (IsMet all) (IsExecuted seen) (chosen_list w) apart (made_of past among)

    module _ (run : List Executed) (built : RunOf seen w run) where
      -- a state that is chosen is the run's
      chosen_is_of : (s : StateView) → IsChosenState seen w s → slice_get (states_of run) s.number ≡ Some s
      chosen_is_of s h = of_run (IsMet all) (IsExecuted seen) (chosen_list w) run s apart built (⊎_elim inl (λ m. inr (met_among seen all among s m)) h.known) h.committed

      -- a reply that such a state keeps was given in the run
      was_answered : (client number : ℕ) (reply : replies.Reply) → IsCommittedReply seen w client number reply → WasAnswered run client number reply
      was_answered client number reply h =
          let was : WasGiven run h.state.number client (record { number = number; reply = reply }) = kept_was_given run h.state.number h.state client (record { number = number; reply = reply }) built.follows (chosen_is_of h.state h.chosen) h.keeps in
          record {
            place = was.place;
            answered = was.answered;
            given = was.given;
            client_is = was.client_is;
            number_is = ap (λ (k : LastReply). k.number) was.kept_is;
            reply_is = ap (λ (k : LastReply). k.reply) was.kept_is;
          }

      pub is_run : AllReplies (IsCommittedReply seen w) w.letters → IsRun (IsMet all) events w run
      is_run replied = record {
        follows = built.follows;
        one_each = built.one_each;
        states_met = built.states_met;
        each_has_one = λ id within. each_has_one_in_worlds c events seen w id past.reached past.ends within;
        committed = λ id x has. chosen_is_of x.have (committed_is_chosen_in_worlds c events seen w id x past.reached past.ends has);
        asked = λ r q at inside. let ok = executed_asked c events seen r past.reached (built.known_rounds r at) in ok.requests q inside;
        once = λ i j a b g k client number. answered_once run i j a b built.follows g k client number;
        moments = λ r at. let ok = executed_asked c events seen r past.reached (built.known_rounds r at) in ok.moment;
        replied = λ client number reply sent. was_answered client number reply (sent_reply (IsCommittedReply seen w) w.letters client number reply replied sent);
        served = λ i slot at.
            let is = given_replied c events seen w i slot past.reached past.ends at in
            record {
              taken = is.0;
              texts = texts_imply (WasSent w.letters (suc i)) (WasAnswered run (suc i)) (λ number reply sent. was_answered (suc i) number reply (sent_reply (IsCommittedReply seen w) w.letters (suc i) number reply replied sent)) 1 is.0 slot.given is.1;
              first = is.2;
            };
      }

      pub is_in_time : AllReplies (IsCommittedReply seen w) w.letters → IsRunInTime (IsMet all) events w run
      is_in_time replied = record { is_run = is_run replied; cut = λ r at. executed_cut c events seen r past.reached (built.known_rounds r at) }

    -- the run of the next world begins with this one
    run_next : (e : Event) (x : WorldView) → WorldNext w e x → Among (seen ++ x ∷ []) all → (grown : (new : List Decree) × (chosen_list x ≡ chosen_list w ++ new)) → (run : List Executed) → RunOf seen w run
        → (later : List Executed) × Extends run later × RunOf (seen ++ x ∷ []) x later
    run_next e x next among_later grown run built =
        let made_later : AllMade (IsMet all) (IsExecuted (seen ++ x ∷ [])) (chosen_list x) = made_of (next_past c events seen w e x past next) among_later in
        let more = grows (IsMet all) (IsMet all) (IsExecuted seen) (IsExecuted (seen ++ x ∷ [])) (chosen_list w) grown.0 run (λ s m. m) (executed_among seen (seen ++ x ∷ []) (among_push seen x)) apart
        (subst (λ (ds : List Decree). AllMade (IsMet all) (IsExecuted (seen ++ x ∷ [])) ds) grown.1 made_later) built in
        (more.0, more.1, subst (λ (ds : List Decree). IsRunOf (IsMet all) (IsExecuted (seen ++ x ∷ [])) ds more.0) (sym grown.1) more.2)

  -- all worlds that are left are among those of the play
  left_among : (seen : List WorldView) (x : WorldView) (xs : List WorldView) → Among seen all → Among (x ∷ xs) all → Among (seen ++ x ∷ []) all
  left_among seen x xs among left y at = ⊎_elim (among y) (λ (last : Contains (x ∷ []) y). ⊎_elim (λ (same : x ≡ y). subst (Contains all) same (left x (in_head x xs))) (λ none. absurd (in_none y none)) (first_or_other x y [] last)) (Contains-append_cases seen (x ∷ []) y at)

  runs_grow : {events : List Event} {seen : List WorldView} {w : WorldView} → Past c events seen w → Among seen all → (es : List Event) (xs : List WorldView) → Among xs all → WorldRuns w es xs → ListsGrow w xs
      → AllReplies (IsCommittedReply seen w) w.letters → (run : List Executed) → RunOf seen w run → RunsGrowInTime (IsMet all) events run es xs
  runs_grow past among [] [] left runs lists replied run built = tt
  runs_grow past among [] (x ∷ xs) left runs lists replied run built = absurd runs
  runs_grow past among (e ∷ es) [] left runs lists replied run built = absurd runs
  runs_grow {events} {seen} {w} past among (e ∷ es) (x ∷ xs) left runs lists replied run built =
      let now = next_past c events seen w e x past runs.0 in
      let among_now = left_among seen x xs among left in
      let later = run_next past among e x runs.0 among_now lists.0 run built in
      let replied_now = replies_next past (apart_among (IsMet seen) (IsMet all) (met_among seen all among) apart) e x runs.0 lists.0 replied in
      (later.0, later.1, is_in_time now among_now later.0 later.2 replied_now, runs_grow now among_now es xs (λ y at. left y (in_tail x y xs at)) runs.1 lists.1 replied_now later.0 later.2)

pub are_in_time : ExecutedWasCut → ExecutedIsAsked → GivenIsReplied → WorldsAreInTime
are_in_time executed_cut executed_asked given_replied c events [] reached distinct = absurd reached
are_in_time executed_cut executed_asked given_replied c events (first ∷ later) reached distinct =
    let all : List WorldView = first ∷ later in
    let apart = met_are_told_apart c events (first ∷ later) reached distinct in
    let past = first_past c first reached.0 in
    let among : Among (first ∷ []) (first ∷ later) = λ y at. ⊎_elim (λ (same : first ≡ y). subst (Contains (first ∷ later)) same (in_head first later)) (λ none. absurd (in_none y none)) (first_or_other first y [] at) in
    let replied = replies_first (IsCommittedReply (first ∷ []) first) c first reached.0 in
    let run = has_run c (first ∷ later) apart executed_cut executed_asked given_replied past among in (
      run.0,
      is_in_time c (first ∷ later) apart executed_cut executed_asked given_replied past among run.0 run.1 replied,
      runs_grow c (first ∷ later) apart executed_cut executed_asked given_replied past among events later (λ y at. in_tail first y later at) reached.1 (list_only_grows c events first later reached) replied run.0 run.1,
    )

-- ---- whenever batches were cut

runs_grow_so : (met : StateView → Type 0) (past : List Event) (run : List Executed) (es : List Event) (xs : List WorldView) → RunsGrowInTime met past run es xs → RunsGrow met past run es xs
runs_grow_so met past run [] [] grows = tt
runs_grow_so met past run [] (x ∷ xs) grows = absurd grows
runs_grow_so met past run (e ∷ es) [] grows = absurd grows
runs_grow_so met past run (e ∷ es) (x ∷ xs) grows = (grows.0, grows.1, grows.2.is_run, runs_grow_so met (past ++ e ∷ []) grows.0 es xs grows.3)

pub is_one_server : (events : List Event) (worlds : List WorldView) → IsOneServerInTime events worlds → IsOneServer events worlds
is_one_server events [] none = absurd none
is_one_server events (first ∷ later) is = (is.0, is.1.is_run, runs_grow_so (IsMet (first ∷ later)) [] is.0 events later is.2)

pub are_of_one_server : WorldsAreInTime → WorldsAreOfOneServer
are_of_one_server law c events worlds reached distinct = is_one_server events worlds (law c events worlds reached distinct)
