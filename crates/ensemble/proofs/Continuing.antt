-- Each step that an ensemble may make it may make after what was before it.
use Rattle.std.proofs.Common.{◌≡◌, inl, inr, ℕ, List, [], ◌∷◌, ◌++◌, Option, None, Some, sym, ◌∙◌, subst, append_assoc}
use Rattle.std.specs.Prelude.{Bool}
use Rattle.proto.specs.declared.reply.Reply as replies
use Rattle.sessions.specs.declared.request.Request.{Request}
use Rattle.slots.specs.Runs.{RunIsSteps}
use Rattle.proxies.proofs.ProxyLemmas.{ask_is_fed, answer_is_replied, again_is_asked}
use Rattle.ensemble.specs.declared.answer.Answer.{Answer}
use Rattle.ensemble.specs.declared.noted.Noted.TheVariants as noted
use Rattle.ensemble.specs.Nodes.{NodesView, Delivers}
use Rattle.ensemble.specs.Kept.{ProcessView}
use Rattle.ensemble.specs.Moments.{now_from, IsNow}
use Rattle.ensemble.specs.Ensemble.{EnsembleView, IsEnsemble, answer_log, order_log, moment_entry}
use Rattle.ensemble.specs.Process.{ensemble_after, IsEnsembleAfter}
use Rattle.ensemble.specs.Steps.{ExecutorsGoOn, VerifiersGoOn, NodesGoOn, LetterComes, ProxyAsks, IsEnsembleStep, AreEnsembleSteps, last_ensemble}
use Rattle.ensemble.proofs.Moments.{Order, now_both}
use Rattle.ensemble.proofs.Goes.{ensemble_noted}
use Rattle.ensemble.proofs.Going.{take_held_goes, cut_goes, collect_goes, open_executor_goes, open_verifier_at_goes, suspect_at_goes, trim_at_goes, run_jobs_goes, again_at_goes, deliver_goes, deliver_none, asks_goes}
use Rattle.ensemble.proofs.StopLemmas.{stop_executor_goes, stop_verifier_goes}
use Rattle.ensemble.proofs.Served.{any_besides}
use Rattle.ensemble.proofs.Ending.{MayBecome, goes_on_after}

-- what is the moment of now is so whatever was noted before
still_from : (was : Option ℕ) (order : Order) (moment : ℕ) → now_from None order ≡ Some moment → now_from was order ≡ Some moment
still_from was [] moment is = absurd (cc is)
still_from was ((key, noted.Asked) ∷ order) moment is = is
still_from was ((key, noted.Answered) ∷ order) moment is = still_from was order moment is
still_from was ((key, noted.Moment) ∷ order) moment is = is

pub still_now : (early order : Order) (moment : ℕ) → IsNow order moment → IsNow (early ++ order) moment
still_now early order moment is = now_both None early order ∙ still_from (now_from None early) order moment is

-- ---- the nodes go on

module _ (e : EnsembleView) (n : NodesView) where
  executors_go_on : RunIsSteps → ExecutorsGoOn e n → MayBecome e (record e { nodes = n })
  executors_go_on steps (inl held) before h = take_held_goes (ensemble_after before e) n h held.0 held.1
  executors_go_on steps (inr (inl cut)) before h = cut_goes (ensemble_after before e) n h cut.id cut.moment (still_now before.order e.order cut.moment cut.now) cut.moves
  executors_go_on steps (inr (inr (inl collects))) before h = collect_goes (ensemble_after before e) n h collects.0 collects.1
  executors_go_on steps (inr (inr (inr (inl opens)))) before h = open_executor_goes (ensemble_after before e) n h opens.0 (inl opens.1)
  executors_go_on steps (inr (inr (inr (inr (inl stops))))) before h = stop_executor_goes (ensemble_after before e) n h stops.0 stops.1
  executors_go_on steps (inr (inr (inr (inr (inr runs))))) before h = run_jobs_goes (ensemble_after before e) n h steps runs

  verifiers_go_on : VerifiersGoOn e n → MayBecome e (record e { nodes = n })
  verifiers_go_on (inl suspects) before h = suspect_at_goes (ensemble_after before e) n h suspects.0 suspects.1
  verifiers_go_on (inr (inl trims)) before h = trim_at_goes (ensemble_after before e) n h trims.0 trims.1
  verifiers_go_on (inr (inr (inl opens))) before h = open_verifier_at_goes (ensemble_after before e) n h opens.0 (inl opens.1)
  verifiers_go_on (inr (inr (inr stops))) before h = stop_verifier_goes (ensemble_after before e) n h stops.0 stops.1

  nodes_go_on : RunIsSteps → NodesGoOn e n → MayBecome e (record e { nodes = n })
  nodes_go_on steps (inl executors) = executors_go_on steps executors
  nodes_go_on steps (inr (inl verifiers)) = verifiers_go_on verifiers
  nodes_go_on steps (inr (inr again)) = λ before h. again_at_goes (ensemble_after before e) n h again_is_asked again.0 again.1

-- ---- a letter comes

module _ (e now : EnsembleView) (l : LetterComes e now) where
  pub letter_comes : MayBecome e now
  letter_comes before h =
      subst (λ (x : EnsembleView). IsEnsemble (ensemble_after before x)) (sym l.after)
      (subst (λ (logs : List ((ℕ × ℕ) × replies.Reply) × Order). IsEnsemble (record { nodes = now.nodes; asked = before.asked ++ e.asked; answered = logs.0; order = logs.1; refused = e.refused; found = before.found }))
      (λ i. (append_assoc before.answered e.answered (answer_log l.answer) i, append_assoc before.order e.order (order_log l.answer) i))
      (deliver_goes answer_is_replied (ensemble_after before e) h now.nodes l.answer l.delivers))

-- one that answers nothing
pub comes_silently : (e : EnsembleView) (n : NodesView) (answer : Option Answer) → Delivers e.nodes n answer → answer ≡ None → MayBecome e (record e { nodes = n })
comes_silently e n answer delivers none before h = deliver_none answer_is_replied (ensemble_after before e) h n answer delivers none

-- one that answers
pub comes_and_answers : (e : EnsembleView) (n : NodesView) (answer : Option Answer) (a : Answer) (log : List ((ℕ × ℕ) × replies.Reply)) (order : Order) → Delivers e.nodes n answer → answer ≡ Some a → log ≡ e.answered ++ answer_log (Some a) → order ≡ e.order ++ order_log (Some a)
    → MayBecome e (record e { nodes = n; answered = log; order = order })
comes_and_answers e n answer a log order delivers some is in_order = letter_comes e (record e { nodes = n; answered = log; order = order }) (record {
  answer = answer;
  delivers = delivers;
  after = λ i. record e { nodes = n; answered = (is ∙ (λ j. e.answered ++ answer_log (sym some j))) i; order = (in_order ∙ (λ j. e.order ++ order_log (sym some j))) i };
})

-- ---- a proxy asks

module _ (e now : EnsembleView) (a : ProxyAsks e now) where
  pub proxy_asks : MayBecome e now
  proxy_asks before h =
      subst (λ (x : EnsembleView). IsEnsemble (ensemble_after before x)) (sym a.after)
      (subst (λ (logs : List (Request × Bool) × Order). IsEnsemble (record { nodes = now.nodes; asked = logs.0; answered = before.answered ++ e.answered; order = logs.1; refused = e.refused; found = before.found }))
      (λ i. (append_assoc before.asked e.asked ((a.request, a.quiet) ∷ []) i, append_assoc before.order e.order (((a.number, a.request.number), noted.Asked) ∷ []) i))
      (asks_goes ask_is_fed a.alloc (ensemble_after before e) h a.asking now.nodes a.number a.command a.quiet a.request a.text a.asked_by a.only a.posted))

-- ---- a moment is noted, and more is counted

pub moment_noted : (e : EnsembleView) (moment : ℕ) (order : Order) → order ≡ e.order ++ moment_entry moment ∷ [] → MayBecome e (record e { order = order })
moment_noted e moment order is before h = ensemble_noted (ensemble_after before e) moment (before.order ++ order) ((λ i. before.order ++ is i) ∙ sym (append_assoc before.order e.order (moment_entry moment ∷ []))) h

pub counted : (e : EnsembleView) (refused : ℕ) → MayBecome e (record e { refused = refused })
counted e refused before h = any_besides (ensemble_after before e) refused before.found h

-- ---- each step

abbrev becomes : (e x now : EnsembleView) → now ≡ x → MayBecome e x → MayBecome e now
becomes e x now is may before h = subst (λ (y : EnsembleView). IsEnsemble (ensemble_after before y)) (sym is) (may before h)

one_step : RunIsSteps → (e now : EnsembleView) → IsEnsembleStep e now → MayBecome e now
one_step steps e now (inl nodes) = becomes e (record e { nodes = nodes.0 }) now nodes.2 (nodes_go_on e nodes.0 steps nodes.1)
one_step steps e now (inr (inl comes)) = letter_comes e now comes
one_step steps e now (inr (inr (inl asks))) = proxy_asks e now asks
one_step steps e now (inr (inr (inr (inl notes)))) = becomes e (record e { order = e.order ++ moment_entry notes.0 ∷ [] }) now notes.1 (moment_noted e notes.0 (e.order ++ moment_entry notes.0 ∷ []) (λ i. e.order ++ moment_entry notes.0 ∷ []))
one_step steps e now (inr (inr (inr (inr counts)))) = becomes e (record e { refused = counts.0 }) now counts.1 (counted e counts.0)

pub steps_after : RunIsSteps → (found : Option ProcessView) (e : EnsembleView) (later : List EnsembleView) → AreEnsembleSteps e later → IsEnsembleAfter found e → IsEnsembleAfter found (last_ensemble e later)
steps_after law found e [] made h = h
steps_after law found e (now ∷ later) made h = steps_after law found now later made.1 (goes_on_after found e now (one_step law e now made.0) h)
