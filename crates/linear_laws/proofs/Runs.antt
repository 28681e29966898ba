-- What a run makes for each client.
use Rattle.std.proofs.Common.{◌≡◌, ℕ, zero, suc, ◌+◌, ◌-◌, ◌≤◌, inl, inr, List, [], ◌∷◌, ◌++◌, map, length, take, drop, Some, refl, sym, ap, ◌∙◌, subst, arith, append_assoc}
use Rattle.std.specs.Prelude.{slice_get, flat_map, Contains}
use Rattle.std.proofs.lemmas.List.{append-nil, map-append}
use Rattle.std.proofs.Math.Seq.{take-append_seam}
use Rattle.proto.specs.declared.command.Command.{Command}
use Rattle.item_steps.specs.Steps.{steps, reply}
use Rattle.item_steps.specs.declared.step.Answer.{Answer}
use Rattle.sessions.specs.declared.request.Request.{Request}
use Rattle.sessions.specs.Fresh.{next_number}
use Rattle.states.specs.State.{StateView}
use Rattle.executor.specs.declared.answered.Answered.{Answered}
use Rattle.run_laws.specs.Run.{Executed, IsOver, IsRunFrom}
use Rattle.run_laws.proofs.Elements.{in_head, in_tail, in_none, first_or_other}
use Rattle.memcached_spec.specs.Server.{Made, Line, Leads, made_for}
use Rattle.memcached_spec.specs.Order.{replies_from}
use Rattle.linear_laws.specs.Laws.{seen, last_of}
use Rattle.linear_laws.proofs.Flat.{leads_on}
use Rattle.run_laws.proofs.Replies.{runs_next, round_one, after_answer}
use Rattle.linear_laws.proofs.Answers.{number_stays}
use Rattle.linear_laws.proofs.Rounds.{RoundMade, RanOne, round_made, steps_made, answers_made, made_for-append, runner_in}

-- these lines are those of the rounds, one after the other
abbrev pub IsMadeOf : StateView → List Executed → List Line → Type 0
IsMadeOf s [] lines = lines ≡ []
IsMadeOf s (e ∷ run) lines = (first : List Line) × (rest : List Line) × (lines ≡ first ++ rest) × RoundMade s e first × IsMadeOf e.new run rest

pub made_of_run : (s : StateView) (run : List Executed) → IsRunFrom s run → (lines : List Line) × IsMadeOf s run lines
made_of_run s [] h = ([], refl)
made_of_run s (e ∷ run) h =
    let first = round_made s e h.0 in
    let rest = made_of_run e.new run h.1 in
    (first.0 ++ rest.0, (first.0, rest.0, refl, first.1, rest.1))

pub made_on : (s : StateView) (run more : List Executed) (lines later : List Line) → IsMadeOf s run lines → IsMadeOf (last_of s run) more later → IsMadeOf s (run ++ more) (lines ++ later)
made_on s [] more lines later h k = subst (λ (l : List Line). IsMadeOf s more (l ++ later)) (sym h) k
made_on s (e ∷ run) more lines later h k =
    (h.0, h.1 ++ later, ap (λ l. l ++ later) h.2 ∙ append_assoc h.0 h.1 later, h.3, made_on e.new run more h.1 later h.4 k)

pub made_leads : (s : StateView) (run : List Executed) (lines : List Line) → IsMadeOf s run lines → Leads (seen s) lines (seen (last_of s run))
made_leads s [] lines h = subst (λ (l : List Line). Leads (seen s) l (seen s)) (sym h) refl
made_leads s (e ∷ run) lines h =
    subst (λ (l : List Line). Leads (seen s) l (seen (last_of e.new run))) (sym h.2)
    (leads_on h.0 h.1 (seen s) (seen e.new) (seen (last_of e.new run)) h.3.leads (made_leads e.new run h.1 h.4))

pub steps_made-append : (c : ℕ) (xs ys : List Line) → steps_made c (xs ++ ys) ≡ steps_made c xs ++ steps_made c ys
steps_made-append c xs ys = ap (map (λ (d : Made). d.step)) (made_for-append c xs ys) ∙ map-append (λ (d : Made). d.step) (made_for c xs) (made_for c ys)

pub answers_made-append : (c : ℕ) (xs ys : List Line) → answers_made c (xs ++ ys) ≡ answers_made c xs ++ answers_made c ys
answers_made-append c xs ys = ap (map (λ (d : Made). d.answer)) (made_for-append c xs ys) ∙ map-append (λ (d : Made). d.answer) (made_for c xs) (made_for c ys)

pub as_many : (c : ℕ) (lines : List Line) → length (steps_made c lines) ≡ length (answers_made c lines)
as_many c lines = by (made_for c lines)
  where
    by : (xs : List Made) → length (map (λ (d : Made). d.step) xs) ≡ length (map (λ (d : Made). d.answer) xs)
    by [] = refl
    by (x ∷ xs) = ap suc (by xs)

-- the steps of one command more
pub steps_next : (commands : List Command) (b : ℕ) (command : Command) → slice_get commands b ≡ Some command → flat_map steps (take b commands) ++ steps command ≡ flat_map steps (take (suc b) commands)
steps_next [] b command at = absurd (cc at)
steps_next (x ∷ xs) zero command at = let same : x ≡ command = cc at in ap steps (sym same) ∙ sym (append-nil (steps x))
steps_next (x ∷ xs) (suc b) command at = append_assoc (steps x) (flat_map steps (take b xs)) (steps command) ∙ ap (λ l. steps x ++ l) (steps_next xs b command at)

pub drop_seam : {X : Type 0} (xs ys : List X) → drop (length xs) (xs ++ ys) ≡ ys
drop_seam [] ys = refl
drop_seam (x ∷ xs) ys = drop_seam xs ys

-- the requests of the client in a run are of these commands
abbrev pub AreOfCommands : ℕ → List Command → List Executed → Type 0
AreOfCommands c commands run = (e : Executed) (q : Request) → Contains run e → Contains e.batch.requests q → q.client ≡ c → (1 ≤ q.number) × (slice_get commands (q.number - 1) ≡ Some q.command)

-- From the client's next command on, so many of its commands were executed, each once and whole; and the answer to each is the reply that is made of its steps' answers.
pub record ClientMade (commands : List Command) (run : List Executed) (lines : List Line) (c b : ℕ) : Type 0 where
  pub ran : List Command
  pub made : steps_made c lines ≡ flat_map steps ran
  pub theirs : (i : ℕ) (command : Command) → slice_get ran i ≡ Some command → slice_get commands (b + i) ≡ Some command
  pub replied : (e : Executed) (a : Answered) → Contains run e → Contains e.replies a → a.client ≡ c → (i : ℕ) × (a.number ≡ suc (b + i)) × (slice_get (replies_from ran (answers_made c lines)) i ≡ Some a.reply)

no_answers_of : (c : ℕ) (lines : List Line) → steps_made c lines ≡ [] → answers_made c lines ≡ []
no_answers_of c lines e = by (made_for c lines) e
  where
    by : (xs : List Made) → map (λ (d : Made). d.step) xs ≡ [] → map (λ (d : Made). d.answer) xs ≡ []
    by [] e = refl
    by (x ∷ xs) e = absurd (cc e)

module _ (c : ℕ) (commands : List Command) (s : StateView) (e : Executed) (over : IsOver s e) (run : List Executed) (lines first rest : List Line) (b : ℕ) (split : lines ≡ first ++ rest)
    (of_commands : AreOfCommands c commands (e ∷ run)) (next : next_number s.sessions c ≡ suc b) (one : RanOne s e first c) where
  number_is : one.runner.1.number ≡ suc b
  number_is = runs_next s.sessions [] e.batch.requests one.runner one.runs ∙ ap (next_number s.sessions) one.client ∙ next

  pub number_after : next_number e.new.sessions c ≡ suc (suc b)
  number_after =
      let after = after_answer s e over (record { place = one.runner.0; client = one.runner.1.client; number = one.runner.1.number; reply = reply one.runner.1.command (answers_made c first) }) one.replied in
      let here : next_number e.new.sessions c ≡ one.runner.1.number + 1 = ap (next_number e.new.sessions) (sym one.client) ∙ after in
      let number = number_is in
      omega (arith, here, number)

  pub its_command : slice_get commands b ≡ Some one.runner.1.command
  its_command =
      let h = of_commands e one.runner.1 (in_head e run) (runner_in s e.batch one.runner one.runs) one.client in
      let number = number_is in
      let place : one.runner.1.number - 1 ≡ b = omega (arith, number) in
      ap (slice_get commands) (sym place) ∙ h.1

  count : length (steps one.runner.1.command) ≡ length (answers_made c first)
  count = ap length (sym one.made) ∙ as_many c first

  all_answers : answers_made c lines ≡ answers_made c first ++ answers_made c rest
  all_answers = ap (answers_made c) split ∙ answers_made-append c first rest

  front : take (length (steps one.runner.1.command)) (answers_made c lines) ≡ answers_made c first
  front = (λ i. take (count i) (all_answers i)) ∙ take-append_seam (answers_made c first) (answers_made c rest)

  back : drop (length (steps one.runner.1.command)) (answers_made c lines) ≡ answers_made c rest
  back = (λ i. drop (count i) (all_answers i)) ∙ drop_seam (answers_made c first) (answers_made c rest)

  theirs_of : (ran : List Command) → ((i : ℕ) (command : Command) → slice_get ran i ≡ Some command → slice_get commands (suc b + i) ≡ Some command)
      → (i : ℕ) (command : Command) → slice_get (one.runner.1.command ∷ ran) i ≡ Some command → slice_get commands (b + i) ≡ Some command
  theirs_of ran h zero command at = let same : b + 0 ≡ b = omega arith in ap (slice_get commands) same ∙ its_command ∙ at
  theirs_of ran h (suc i) command at = let same : b + suc i ≡ suc b + i = omega arith in ap (slice_get commands) same ∙ h i command at

  pub with_one : ClientMade commands run rest c (suc b) → ClientMade commands (e ∷ run) lines c b
  with_one later = record {
    ran = one.runner.1.command ∷ later.ran;
    made = ap (steps_made c) split ∙ steps_made-append c first rest ∙ (λ i. one.made i ++ later.made i);
    theirs = theirs_of later.ran later.theirs;
    replied = λ x a there given client. elim (first_or_other e x run there) [
      | inl same ↦
          let here : Contains e.replies a = subst (λ (y : Executed). Contains y.replies a) (sym same) given in
          let is = round_one s e.new e.batch e.ordered e.replies over.round a (record { place = one.runner.0; client = one.runner.1.client; number = one.runner.1.number; reply = reply one.runner.1.command (answers_made c first) }) here one.replied (client ∙ sym one.client) in
          let number = ap (λ (y : Answered). y.number) is ∙ number_is in
          let head : reply one.runner.1.command (take (length (steps one.runner.1.command)) (answers_made c lines)) ≡ a.reply = ap (reply one.runner.1.command) front ∙ sym (ap (λ (y : Answered). y.reply) is) in
          (0, omega (arith, number), ap Some head)
      | inr there' ↦
          let r = later.replied x a there' given client in
          let number = r.1 in
          (suc r.0, omega (arith, number), subst (λ (l : List Answer). slice_get (replies_from later.ran l) r.0 ≡ Some a.reply) (sym back) r.2)
    ];
  }

module _ (c : ℕ) (commands : List Command) where
  pub client_made : (s : StateView) (run : List Executed) (lines : List Line) (b : ℕ) → IsRunFrom s run → IsMadeOf s run lines → AreOfCommands c commands run → next_number s.sessions c ≡ suc b → ClientMade commands run lines c b
  client_made s [] lines b h made of_commands next = record {
    ran = [];
    made = ap (steps_made c) made;
    theirs = λ i command e. absurd (cc e);
    replied = λ e a none. absurd (in_none e none);
  }
  client_made s (e ∷ run) lines b h made of_commands next = elim (made.3.each c) [
    | inr none ↦
        let next_is : next_number e.new.sessions c ≡ suc b = number_stays s e h.0 c none.none ∙ next in
        let later = client_made e.new run made.1 b h.1 made.4 (λ x q there. of_commands x q (in_tail e x run there)) next_is in
        let no_answers : answers_made c made.0 ≡ [] = no_answers_of c made.0 none.made in
        let answers : answers_made c lines ≡ answers_made c made.1 = ap (answers_made c) made.2 ∙ answers_made-append c made.0 made.1 ∙ ap (λ l. l ++ answers_made c made.1) no_answers in
        record {
          ran = later.ran;
          made = ap (steps_made c) made.2 ∙ steps_made-append c made.0 made.1 ∙ ap (λ l. l ++ steps_made c made.1) none.made ∙ later.made;
          theirs = later.theirs;
          replied = λ x a there given client. elim (first_or_other e x run there) [
            | inl same ↦ absurd (none.none a (subst (λ (y : Executed). Contains y.replies a) (sym same) given) client)
            | inr there' ↦
                let r = later.replied x a there' given client in
                (r.0, r.1, subst (λ (l : List Answer). slice_get (replies_from later.ran l) r.0 ≡ Some a.reply) (sym answers) r.2)
          ];
        }
    | inl one ↦
        let later = client_made e.new run made.1 (suc b) h.1 made.4 (λ x q there. of_commands x q (in_tail e x run there)) (number_after c commands s e h.0 run lines made.0 made.1 b made.2 of_commands next one) in
        with_one c commands s e h.0 run lines made.0 made.1 b made.2 of_commands next one later
  ]
