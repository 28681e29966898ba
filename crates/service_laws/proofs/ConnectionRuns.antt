-- What a run makes for each connection, whose commands proxies ask.
use Rattle.std.proofs.Common.{◌≡◌, ◌⊎◌, ℕ, zero, suc, ◌+◌, ◌≤◌, inl, inr, Bool, true, false, List, [], ◌∷◌, ◌++◌, map, length, take, drop, Some, refl, sym, ap, ◌∙◌, subst, arith, append_assoc}
use Rattle.std.specs.Prelude.{slice_get, flat_map, Contains, max, ◌==◌}
use Rattle.std.proofs.lemmas.Bool.{eqb-true, eq-eqb}
use Rattle.std.proofs.lemmas.List.Elements.{Contains-append_cases}
use Rattle.std.proofs.Math.Seq.{take-append_seam}
use Rattle.proto.specs.declared.command.Command.{Command}
use Rattle.item_steps.specs.Steps.{steps, reply}
use Rattle.item_steps.specs.declared.step.Answer.{Answer}
use Rattle.sessions.specs.Fresh.{next_number}
use Rattle.states.specs.State.{StateView, initial_state}
use Rattle.states.specs.Followed.{moment_of}
use Rattle.executor.specs.declared.answered.Answered.{Answered}
use Rattle.run_laws.specs.Run.{Executed, IsOver, IsRunFrom}
use Rattle.run_laws.proofs.Elements.{in_head, in_tail, in_none, first_or_other}
use Rattle.run_laws.proofs.Replies.{runs_next, round_one}
use Rattle.memcached_spec.specs.Server.{Made, Line, Tick, Do, Leads, IsDone, uniques}
use Rattle.memcached_spec.specs.Order.{replies_from}
use Rattle.linear_laws.specs.Laws.{seen, last_of}
use Rattle.linear_laws.proofs.Flat.{leads_on}
use Rattle.linear_laws.proofs.Fresh.{all_fresh}
use Rattle.linear_laws.proofs.Rounds.{RoundMade, RanOne, steps_made, answers_made, uniques-append, count}
use Rattle.linear_laws.proofs.Runs.{IsMadeOf, steps_made-append, answers_made-append, as_many, drop_seam}
use Rattle.service_laws.proofs.Renamed.{renamed_line, leads_renamed, uniques_renamed, did_run, IsOnly, IsNone, one_renamed, none_renamed, tick_renamed}

-- the connection whose command a proxy asks next
abbrev pub owner_in : (ℕ → ℕ → ℕ) → StateView → ℕ → ℕ
owner_in owner s p = owner p (next_number s.sessions p)

-- In this round one command of the connection is executed: its next one.
pub record OneInTurn (owner turn : ℕ → ℕ → ℕ) (c : ℕ) (commands : List Command) (s : StateView) (e : Executed) (first : List Line) (b : ℕ) : Type 0 where
  pub proxy : ℕ
  pub ran : RanOne s e first proxy
  pub own : owner_in owner s proxy ≡ c
  pub its_turn : turn proxy (next_number s.sessions proxy) ≡ suc b
  pub command_is : slice_get commands b ≡ Some ran.runner.1.command
  pub only : (p : ℕ) → RanOne s e first p → owner_in owner s p ≡ c → p ≡ proxy

abbrev pub NoneInTurn : (ℕ → ℕ → ℕ) → ℕ → StateView → Executed → List Line → Type 0
NoneInTurn owner c s e first = (p : ℕ) → RanOne s e first p → owner_in owner s p ≡ c → ⊥

-- from its command b on, the connection's commands are executed in their order, one a round at most
abbrev pub AreInTurn : (ℕ → ℕ → ℕ) → (ℕ → ℕ → ℕ) → ℕ → List Command → (s : StateView) (run : List Executed) (lines : List Line) → IsMadeOf s run lines → ℕ → Type 0
AreInTurn owner turn c commands s [] lines made b = Unit {0}
AreInTurn owner turn c commands s (e ∷ run) lines made b =
    (OneInTurn owner turn c commands s e made.0 b × AreInTurn owner turn c commands e.new run made.1 made.4 (suc b)) ⊎ (NoneInTurn owner c s e made.0 × AreInTurn owner turn c commands e.new run made.1 made.4 b)

pub record ConnectionMade (owner turn : ℕ → ℕ → ℕ) (commands : List Command) (run : List Executed) (lines : List Line) (c b : ℕ) : Type 0 where
  pub ran : List Command
  pub made : steps_made c lines ≡ flat_map steps ran
  pub theirs : (i : ℕ) (command : Command) → slice_get ran i ≡ Some command → slice_get commands (b + i) ≡ Some command
  pub replied : (e : Executed) (a : Answered) → Contains run e → Contains e.replies a → owner a.client a.number ≡ c → (i : ℕ) × (turn a.client a.number ≡ suc (b + i)) × (slice_get (replies_from ran (answers_made c lines)) i ≡ Some a.reply)

-- ---- lists

-- ---- one round

module _ (s : StateView) (e : Executed) (over : IsOver s e) (first : List Line) (round : RoundMade s e first) where
  abbrev entry : (p : ℕ) → RanOne s e first p → Answered
  entry p one = record { place = one.runner.0; client = one.runner.1.client; number = one.runner.1.number; reply = reply one.runner.1.command (answers_made p first) }

  -- what was answered is of a client that ran, and of its next number
  pub answer_ran : (a : Answered) → Contains e.replies a → (one : RanOne s e first a.client) × (a.number ≡ next_number s.sessions a.client)
  answer_ran a here = elim (round.each a.client) [
    | inl one ↦
        let is = round_one s e.new e.batch e.ordered e.replies over.round a (entry a.client one) here one.replied (sym one.client) in
        (one, ap (λ (x : Answered). x.number) is ∙ (runs_next s.sessions [] e.batch.requests one.runner one.runs ∙ ap (next_number s.sessions) one.client))
    | inr none ↦ absurd (none.none a here refl)
  ]

  -- so is what made a line
  pub line_ran : (d : Made) → Contains first (Do d) → RanOne s e first d.client
  line_ran d i = elim (round.each d.client) [
    | inl one ↦ one
    | inr none ↦ absurd (did_run d.client first d i refl none.made)
  ]

  module _ (owner turn : ℕ → ℕ → ℕ) (c : ℕ) (commands : List Command) (b : ℕ) where
    pub is_only : (o : OneInTurn owner turn c commands s e first b) → IsOnly (owner_in owner s) c o.proxy first
    is_only o d i = by (owner_in owner s d.client == c) refl
      where
        by : (own : Bool) → (owner_in owner s d.client == c) ≡ own → (owner_in owner s d.client == c) ≡ (d.client == o.proxy)
        by true is = is ∙ sym (eq-eqb d.client o.proxy (o.only d.client (line_ran d i) (eqb-true (owner_in owner s d.client) c is)))
        by false is = other (d.client == o.proxy) refl
          where
            other : (same : Bool) → (d.client == o.proxy) ≡ same → (owner_in owner s d.client == c) ≡ (d.client == o.proxy)
            other true e2 = absurd (let own : (owner_in owner s d.client == c) ≡ true = eq-eqb (owner_in owner s d.client) c (ap (owner_in owner s) (eqb-true d.client o.proxy e2) ∙ o.own) in let no_way : true ≡ false = sym own ∙ is in cc no_way)
            other false e2 = is ∙ sym e2

    pub is_none : NoneInTurn owner c s e first → IsNone (owner_in owner s) c first
    is_none none d i = by (owner_in owner s d.client == c) refl
      where
        by : (own : Bool) → (owner_in owner s d.client == c) ≡ own → (owner_in owner s d.client == c) ≡ false
        by true is = absurd (none d.client (line_ran d i) (eqb-true (owner_in owner s d.client) c is))
        by false is = is

    -- the connection's part of the round, if a proxy carried a command of it
    module _ (o : OneInTurn owner turn c commands s e first b) where
      abbrev new_first : List Line
      new_first = map (renamed_line (owner_in owner s)) first

      pub one_steps : steps_made c new_first ≡ steps o.ran.runner.1.command
      one_steps = one_renamed (owner_in owner s) c (λ (d : Made). d.step) (λ d k. refl) o.proxy first (is_only o) ∙ o.ran.made

      pub one_answers : answers_made c new_first ≡ answers_made o.proxy first
      one_answers = one_renamed (owner_in owner s) c (λ (d : Made). d.answer) (λ d k. refl) o.proxy first (is_only o)

      -- an answer to the connection in this round is this one
      pub answer_is : (a : Answered) → Contains e.replies a → owner a.client a.number ≡ c → (turn a.client a.number ≡ suc b) × (a.reply ≡ reply o.ran.runner.1.command (answers_made o.proxy first))
      answer_is a here own =
          let w = answer_ran a here in
          let client = o.only a.client w.0 (ap (owner a.client) (sym w.1) ∙ own) in
          let is = round_one s e.new e.batch e.ordered e.replies over.round a (entry o.proxy o.ran) here o.ran.replied (client ∙ sym o.ran.client) in
          ((λ i. turn (client i) ((w.1 ∙ ap (next_number s.sessions) client) i)) ∙ o.its_turn, ap (λ (x : Answered). x.reply) is)

    -- none of the connection's commands is answered in a round that carried none
    pub no_answer : NoneInTurn owner c s e first → (a : Answered) → Contains e.replies a → owner a.client a.number ≡ c → ⊥
    no_answer none a here own =
        let w = answer_ran a here in
        none a.client w.0 (ap (owner a.client) (sym w.1) ∙ own)

    pub none_steps : NoneInTurn owner c s e first → steps_made c (map (renamed_line (owner_in owner s)) first) ≡ []
    none_steps none = none_renamed (owner_in owner s) c (λ (d : Made). d.step) (λ d k. refl) first (is_none none)

    pub none_answers : NoneInTurn owner c s e first → answers_made c (map (renamed_line (owner_in owner s)) first) ≡ []
    none_answers none = none_renamed (owner_in owner s) c (λ (d : Made). d.answer) (λ d k. refl) first (is_none none)

-- ---- a run

pub max_is : (a b : ℕ) → (max a b ≡ a) ⊎ ((max a b ≡ b) × (a ≤ b))
max_is a b = grind (arith)

module _ (owner turn : ℕ → ℕ → ℕ) where
  -- the lines of the run, each of the connection whose command it is a step of
  unfoldable pub lines_of : (s : StateView) (run : List Executed) (lines : List Line) → IsMadeOf s run lines → List Line
  lines_of s [] lines made = []
  lines_of s (e ∷ run) lines made = map (renamed_line (owner_in owner s)) made.0 ++ lines_of e.new run made.1 made.4

  pub lines_lead : (s : StateView) (run : List Executed) (lines : List Line) (made : IsMadeOf s run lines) → Leads (seen s) (lines_of s run lines made) (seen (last_of s run))
  unfolding lines_of
  lines_lead s [] lines made = refl
  lines_lead s (e ∷ run) lines made =
      leads_on (map (renamed_line (owner_in owner s)) made.0) (lines_of e.new run made.1 made.4) (seen s) (seen e.new) (seen (last_of e.new run))
      (leads_renamed (owner_in owner s) made.0 (seen s) (seen e.new) made.3.leads) (lines_lead e.new run made.1 made.4)

  pub lines_uniques : (s : StateView) (run : List Executed) (lines : List Line) (made : IsMadeOf s run lines) → uniques (lines_of s run lines made) ≡ uniques lines
  unfolding lines_of
  lines_uniques s [] lines made = ap uniques (sym made)
  lines_uniques s (e ∷ run) lines made =
      uniques-append (map (renamed_line (owner_in owner s)) made.0) (lines_of e.new run made.1 made.4)
      ∙ ((λ i. uniques_renamed (owner_in owner s) made.0 i ++ lines_uniques e.new run made.1 made.4 i)
      ∙ (sym (uniques-append made.0 made.1) ∙ sym (ap uniques made.2)))

  -- they are what one server does
  pub is_done : (run : List Executed) (lines : List Line) (made : IsMadeOf initial_state run lines) → IsRunFrom initial_state run → IsDone (lines_of initial_state run lines made)
  is_done run lines made follows = record {
    last = seen (last_of initial_state run);
    leads = lines_lead initial_state run lines made;
    fresh = λ u. subst (λ (us : List ℕ). count u us ≤ 1) (sym (lines_uniques initial_state run lines made)) (all_fresh initial_state run lines follows made u);
  }

  -- it becomes as late as the rounds' moments
  pub ticks_of : (P : ℕ → Type 0) (s : StateView) (run : List Executed) (lines : List Line) (made : IsMadeOf s run lines) → IsRunFrom s run → ((r : Executed) → Contains run r → P r.batch.moment) → (s.moment ≡ 0) ⊎ P s.moment
      → (m : ℕ) → Contains (lines_of s run lines made) (Tick m) → P m
  unfolding lines_of
  ticks_of P s [] lines made follows each before m c = absurd (in_none (Tick m) c)
  ticks_of P s (e ∷ run) lines made follows each before m c =
      let now : P (moment_of s e.batch) = elim (max_is e.batch.moment s.moment) [
        | inl is ↦ subst P (sym is) (each e (in_head e run))
        | inr (is, le) ↦ elim before [
          | inl none ↦ let same : e.batch.moment ≡ moment_of s e.batch = omega (arith, none, le, is) in subst P same (each e (in_head e run))
          | inr was ↦ subst P (sym is) was
        ]
      ] in
      elim (Contains-append_cases (map (renamed_line (owner_in owner s)) made.0) (lines_of e.new run made.1 made.4) (Tick m) c) [
        | inl here ↦ subst P (sym (made.3.ticks m (tick_renamed (owner_in owner s) made.0 m here))) now
        | inr there ↦ ticks_of P e.new run made.1 made.4 follows.1 (λ r k. each r (in_tail e r run k)) (inr (subst P (sym follows.0.round.moment) now)) m there
      ]

  -- the lines of a longer run begin with lines of the run
  made_front : (s : StateView) (run more : List Executed) (lines : List Line) (made : IsMadeOf s (run ++ more) lines)
      → (first : List Line) × (front : IsMadeOf s run first) × (rest : List Line) × (lines_of s (run ++ more) lines made ≡ lines_of s run first front ++ rest)
  unfolding lines_of
  made_front s [] more lines made = ([], refl, lines_of s more lines made, refl)
  made_front s (e ∷ run) more lines made =
      let r = made_front e.new run more made.1 made.4 in
      let own = map (renamed_line (owner_in owner s)) made.0 in
      (made.0 ++ r.0, (made.0, r.0, refl, made.3, r.1), r.2, ap (λ (ls : List Line). own ++ ls) r.3 ∙ sym (append_assoc own (lines_of e.new run r.0 r.1) r.2))

  pub lines_begin : (s : StateView) (all run more : List Executed) → all ≡ run ++ more → (lines : List Line) (made : IsMadeOf s all lines)
      → (first : List Line) × (front : IsMadeOf s run first) × (rest : List Line) × (lines_of s all lines made ≡ lines_of s run first front ++ rest)
  lines_begin s all run more is =
      subst (λ (r : List Executed). (lines : List Line) (made : IsMadeOf s r lines) → (first : List Line) × (front : IsMadeOf s run first) × (rest : List Line) × (lines_of s r lines made ≡ lines_of s run first front ++ rest)) (sym is) (made_front s run more)

  module _ (c : ℕ) (commands : List Command) where
    theirs_next : (b : ℕ) (command : Command) (ran : List Command) → slice_get commands b ≡ Some command → ((i : ℕ) (x : Command) → slice_get ran i ≡ Some x → slice_get commands (suc b + i) ≡ Some x)
        → (i : ℕ) (x : Command) → slice_get (command ∷ ran) i ≡ Some x → slice_get commands (b + i) ≡ Some x
    theirs_next b command ran its h zero x at = let same : b + 0 ≡ b = omega arith in ap (slice_get commands) same ∙ its ∙ at
    theirs_next b command ran its h (suc i) x at = let same : b + suc i ≡ suc b + i = omega arith in ap (slice_get commands) same ∙ h i x at

    module _ (s : StateView) (e : Executed) (over : IsOver s e) (run : List Executed) (first : List Line) (round : RoundMade s e first) (rest : List Line) (b : ℕ) where
      abbrev all : List Line
      all = map (renamed_line (owner_in owner s)) first ++ rest

      with_one : (o : OneInTurn owner turn c commands s e first b) → ConnectionMade owner turn commands run rest c (suc b) → ConnectionMade owner turn commands (e ∷ run) all c b
      with_one o later =
          let command = o.ran.runner.1.command in
          let new_first = map (renamed_line (owner_in owner s)) first in
          let new_steps = one_steps s e over first round owner turn c commands b o in
          let new_answers = one_answers s e over first round owner turn c commands b o in
          let count_is : length (steps command) ≡ length (answers_made c new_first) = ap length (sym new_steps) ∙ as_many c new_first in
          let front : take (length (steps command)) (answers_made c all) ≡ answers_made c new_first = (λ i. take (count_is i) (answers_made-append c new_first rest i)) ∙ take-append_seam (answers_made c new_first) (answers_made c rest) in
          let back : drop (length (steps command)) (answers_made c all) ≡ answers_made c rest = (λ i. drop (count_is i) (answers_made-append c new_first rest i)) ∙ drop_seam (answers_made c new_first) (answers_made c rest) in
          record {
            ran = command ∷ later.ran;
            made = steps_made-append c new_first rest ∙ (λ i. new_steps i ++ later.made i);
            theirs = theirs_next b command later.ran o.command_is later.theirs;
            replied = λ x a there given own. elim (first_or_other e x run there) [
              | inl same ↦
                  let here : Contains e.replies a = subst (λ (y : Executed). Contains y.replies a) (sym same) given in
                  let is = answer_is s e over first round owner turn c commands b o a here own in
                  let its_turn = is.0 in
                  let head : reply command (take (length (steps command)) (answers_made c all)) ≡ a.reply = ap (reply command) (front ∙ new_answers) ∙ sym is.1 in
                  (0, omega (arith, its_turn), ap Some head)
              | inr there' ↦
                  let r = later.replied x a there' given own in
                  let number = r.1 in
                  (suc r.0, omega (arith, number), subst (λ (l : List Answer). slice_get (replies_from later.ran l) r.0 ≡ Some a.reply) (sym back) r.2)
            ];
          }

      with_none : NoneInTurn owner c s e first → ConnectionMade owner turn commands run rest c b → ConnectionMade owner turn commands (e ∷ run) all c b
      with_none none later =
          let new_first = map (renamed_line (owner_in owner s)) first in
          let answers : answers_made c all ≡ answers_made c rest = answers_made-append c new_first rest ∙ ap (λ l. l ++ answers_made c rest) (none_answers s e over first round owner turn c commands b none) in
          record {
            ran = later.ran;
            made = steps_made-append c new_first rest ∙ ap (λ l. l ++ steps_made c rest) (none_steps s e over first round owner turn c commands b none) ∙ later.made;
            theirs = later.theirs;
            replied = λ x a there given own. elim (first_or_other e x run there) [
              | inl same ↦ absurd (no_answer s e over first round owner turn c commands b none a (subst (λ (y : Executed). Contains y.replies a) (sym same) given) own)
              | inr there' ↦
                  let r = later.replied x a there' given own in
                  (r.0, r.1, subst (λ (l : List Answer). slice_get (replies_from later.ran l) r.0 ≡ Some a.reply) (sym answers) r.2)
            ];
          }

    pub connection_made : (s : StateView) (run : List Executed) (lines : List Line) (made : IsMadeOf s run lines) (b : ℕ) → IsRunFrom s run → AreInTurn owner turn c commands s run lines made b → ConnectionMade owner turn commands run (lines_of s run lines made) c b
    unfolding lines_of
    connection_made s [] lines made b h turns = record {
      ran = [];
      made = refl;
      theirs = λ i command e. absurd (cc e);
      replied = λ e a none. absurd (in_none e none);
    }
    connection_made s (e ∷ run) lines made b h (inl one) =
        with_one s e h.0 run made.0 made.3 (lines_of e.new run made.1 made.4) b one.0 (connection_made e.new run made.1 made.4 (suc b) h.1 one.1)
    connection_made s (e ∷ run) lines made b h (inr none) =
        with_none s e h.0 run made.0 made.3 (lines_of e.new run made.1 made.4) b none.0 (connection_made e.new run made.1 made.4 b h.1 none.1)
