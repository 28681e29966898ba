-- The commands of each connection are executed in turn.
use Rattle.std.proofs.Common.{◌≡◌, ◌⊎◌, ℕ, zero, suc, ◌+◌, ◌-◌, ◌<◌, ◌≤◌, inl, inr, ⊎_elim, Bool, true, false, List, [], ◌∷◌, ◌++◌, length, take, Option, Some, None, refl, sym, ap, ◌∙◌, subst, arith, append_assoc}
use Rattle.std.specs.Prelude.{slice_get, flat_map, Contains, ◌==◌, if◌then◌else◌}
use Rattle.std.specs.Option.{option_map_or}
use Rattle.std.proofs.lemmas.Bool.{eqb-true, eq-eqb}
use Rattle.std.proofs.lemmas.List.{length-append}
use Rattle.proto.specs.declared.command.Command.{Command}
use Rattle.proto.specs.declared.reply.Reply as replies
use Rattle.proto.specs.declared.turn.Turn.{Turn as ProfileTurn}
use Rattle.proto.proofs.SpellsLemmas.{spells_one}
use Rattle.grammar.specs.declared.reader.Dialect.{Dialect}
use Rattle.grammar.specs.declared.turn.Turn.{Turn}
use Rattle.grammar.specs.Asks.{SpellsIn, commands_in, IsAskedIn}
use Rattle.grammar.specs.Orders.{IsExecutedFrom}
use Rattle.grammar.proofs.ReadLemmas.{some_spelled, one_asked}
use Rattle.grammar.proofs.AskLemmas.{shown_imply}
use Rattle.item_steps.specs.Steps.{steps, reply}
use Rattle.sessions.specs.Fresh.{next_number}
use Rattle.states.specs.State.{StateView, initial_state}
use Rattle.executor.specs.declared.answered.Answered.{Answered}
use Rattle.memcached_spec.specs.Asked.{asked, IsAsked}
use Rattle.memcached_spec.specs.Fed.{fed_to}
use Rattle.memcached_spec.specs.Server.{Line}
use Rattle.memcached_spec.specs.Order.{replies_from}
use Rattle.events.specs.declared.event.Event.{Event}
use Rattle.worlds.specs.World.{WorldView}
use Rattle.run_laws.specs.Run.{Executed, IsOver, IsRunFrom}
use Rattle.run_laws.proofs.Elements.{in_head, in_tail, in_none, first_or_other}
use Rattle.run_laws.proofs.Replies.{runs_next}
use Rattle.one_server_laws.specs.Run.{IsRun}
use Rattle.connections.specs.Connections.{bytes_of_connection}
use Rattle.connections.proofs.TakeLemmas.{contains_at}
use Rattle.service.specs.declared.assignment.Assignment.{Assignment}
use Rattle.linear_laws.proofs.Rounds.{RoundMade, RanOne, answers_made, runner_in}
use Rattle.linear_laws.proofs.Runs.{IsMadeOf}
use Rattle.service_laws.specs.Serving.{WasAnsweredFor, IsConnectionServed}
use Rattle.service_laws.specs.Orders.{RanAt, RanInTurn, IsConnectionOrder}
use Rattle.service_laws.proofs.AskedLemmas.{place_of}
use Rattle.service_laws.proofs.ConnectionRuns.{owner_in, OneInTurn, NoneInTurn, AreInTurn, ConnectionMade, answer_ran, lines_of, is_done, ticks_of, connection_made}

-- ---- which command a request is

unfoldable pub assigned_to : List Assignment → ℕ → ℕ → Option Assignment
assigned_to [] p n = None
assigned_to (a ∷ xs) p n = if a.proxy == p then (if a.number == n then Some a else assigned_to xs p n) else assigned_to xs p n

pub found : (xs : List Assignment) (a : Assignment) → Contains xs a → (b : Assignment) × (assigned_to xs a.proxy a.number ≡ Some b) × Contains xs b × (b.proxy ≡ a.proxy) × (b.number ≡ a.number)
unfolding assigned_to
found [] a c = absurd (in_none a c)
found (x ∷ xs) a c = by (x.proxy == a.proxy) (x.number == a.number) refl refl (λ later. found xs a later)
  where
    by : (p n : Bool) → (x.proxy == a.proxy) ≡ p → (x.number == a.number) ≡ n → (Contains xs a → (b : Assignment) × (assigned_to xs a.proxy a.number ≡ Some b) × Contains xs b × (b.proxy ≡ a.proxy) × (b.number ≡ a.number))
        → (b : Assignment) × ((if x.proxy == a.proxy then (if x.number == a.number then Some x else assigned_to xs a.proxy a.number) else assigned_to xs a.proxy a.number) ≡ Some b) × Contains (x ∷ xs) b × (b.proxy ≡ a.proxy) × (b.number ≡ a.number)
    by true true is_p is_n later = (x, rw is_p (rw is_n refl), in_head x xs, eqb-true x.proxy a.proxy is_p, eqb-true x.number a.number is_n)
    by true false is_p is_n later = elim (first_or_other x a xs c) [
      | inl same ↦ absurd (let own : (x.number == a.number) ≡ true = eq-eqb x.number a.number (ap (λ (y : Assignment). y.number) same) in let no_way : true ≡ false = sym own ∙ is_n in cc no_way)
      | inr there ↦ let f = later there in (f.0, rw is_p (rw is_n f.1), in_tail x f.0 xs f.2, f.3, f.4)
    ]
    by false n is_p is_n later = elim (first_or_other x a xs c) [
      | inl same ↦ absurd (let own : (x.proxy == a.proxy) ≡ true = eq-eqb x.proxy a.proxy (ap (λ (y : Assignment). y.proxy) same) in let no_way : true ≡ false = sym own ∙ is_p in cc no_way)
      | inr there ↦ let f = later there in (f.0, rw is_p f.1, in_tail x f.0 xs f.2, f.3, f.4)
    ]

any_or_none : {X : Type 0} (P : X → Bool) (xs : List X) → ((x : X) × Contains xs x × (P x ≡ true)) ⊎ ((x : X) → Contains xs x → P x ≡ false)
any_or_none P [] = inr (λ x c. absurd (in_none x c))
any_or_none {X} P (x ∷ xs) = by (P x) refl (any_or_none P xs)
  where
    by : (b : Bool) → P x ≡ b → ((y : X) × Contains xs y × (P y ≡ true)) ⊎ ((y : X) → Contains xs y → P y ≡ false) → ((y : X) × Contains (x ∷ xs) y × (P y ≡ true)) ⊎ ((y : X) → Contains (x ∷ xs) y → P y ≡ false)
    by true is later = inl (x, in_head x xs, is)
    by false is (inl there) = inl (there.0, in_tail x there.0 xs there.1, there.2)
    by false is (inr none) = inr (λ y c. ⊎_elim (λ (same : x ≡ y). ap P (sym same) ∙ is) (λ (there : Contains xs y). none y there) (first_or_other x y xs c))

-- a list whose members are at the same places of another is a beginning of it
beginning : {X : Type 0} (xs ys : List X) → ((i : ℕ) (x : X) → slice_get xs i ≡ Some x → slice_get ys i ≡ Some x) → xs ≡ take (length xs) ys
beginning [] ys h = refl
beginning (x ∷ xs) [] h = absurd (let none = h 0 x refl in cc none)
beginning {X} (x ∷ xs) (y ∷ ys) h =
    let first : y ≡ x = cc (h 0 x refl) in
    λ i. sym first i ∷ beginning xs ys (λ k. h (suc k)) i

three : (t b : ℕ) → (t ≤ b) ⊎ ((t ≡ suc b) ⊎ (suc b < t))
three zero b = inl (omega arith)
three (suc zero) zero = inr (inl refl)
three (suc (suc t)) zero = inr (inr (omega arith))
three (suc t) (suc b) = elim (three t b) [
  | inl le ↦ inl (omega (arith, le))
  | inr (inl is) ↦ inr (inl (ap suc is))
  | inr (inr gt) ↦ inr (inr (omega (arith, gt)))
]

less_or : (i k : ℕ) → i < suc k → (i < k) ⊎ (i ≡ k)
less_or zero zero lt = inr refl
less_or zero (suc k) lt = inl (omega arith)
less_or (suc i) zero lt = absurd (omega (arith, lt))
less_or (suc i) (suc k) lt = elim (less_or i k (omega (arith, lt))) [
  | inl less ↦ inl (omega (arith, less))
  | inr is ↦ inr (ap suc is)
]

pub at_seam : {X : Type 0} (xs : List X) (x : X) (ys : List X) → slice_get (xs ++ x ∷ ys) (length xs) ≡ Some x
at_seam [] x ys = refl
at_seam (z ∷ xs) x ys = at_seam xs x ys

-- A run answers what connections asked and were given, whose commands proxies asked.
pub record IsRunOf (d : Dialect) (heard given : List (ℕ × List ℕ)) (moments_of : List ℕ) (xs : List Assignment) (met : StateView → Type 0) (events : List Event) (w : WorldView) (run : List Executed) : Type 0 where
  pub is_run : IsRun met events w run
  pub moments : (r : Executed) → Contains run r → Contains moments_of r.batch.moment
  pub once : (i j : ℕ) (a b : Assignment) → slice_get xs i ≡ Some a → slice_get xs j ≡ Some b → a.connection ≡ b.connection → a.turn ≡ b.turn → i ≡ j
  pub for_one : (i j : ℕ) (a b : Assignment) → slice_get xs i ≡ Some a → slice_get xs j ≡ Some b → a.proxy ≡ b.proxy → a.number ≡ b.number → i ≡ j
  pub from_one : (a : Assignment) → Contains xs a → 1 ≤ a.turn
  -- what a proxy asked is a command that the bytes of a connection ask
  pub asks : (proxy number : ℕ) (command : Command) → IsAsked (fed_to proxy events) number command → (a : Assignment) × Contains xs a × (a.proxy ≡ proxy) × (a.number ≡ number) × IsAskedIn d (bytes_of_connection a.connection heard) a.turn command
  pub served : (c : ℕ) → IsConnectionServed d run xs c (bytes_of_connection c heard) (bytes_of_connection c given)

module _ (xs : List Assignment) where
  unfoldable pub owner : ℕ → ℕ → ℕ
  owner p n = option_map_or (λ (a : Assignment). a.connection) (assigned_to xs p n) 0

  unfoldable pub turn_of_request : ℕ → ℕ → ℕ
  turn_of_request p n = option_map_or (λ (a : Assignment). a.turn) (assigned_to xs p n) 0

pub same_asked : (bytes : List ℕ) (n : ℕ) (c d : Command) → IsAsked bytes n c → IsAsked bytes n d → c ≡ d
same_asked bytes n c d x y =
    let same = spells_one bytes x.turns y.turns x.rest y.rest x.spells y.spells in
    cc (sym x.is ∙ (ap (λ (ts : List ProfileTurn). slice_get (asked ts) (n - 1)) same.0 ∙ y.is))

module _ (d : Dialect) (heard given : List (ℕ × List ℕ)) (moments_of : List ℕ) (xs : List Assignment) (met : StateView → Type 0) (events : List Event) (w : WorldView) (run : List Executed) (serves : IsRunOf d heard given moments_of xs met events w run) (in_turn : RanInTurn run xs) where
  is_run : IsRun met events w run
  is_run = serves.is_run

  same_command : (a b : Assignment) → Contains xs a → Contains xs b → a.connection ≡ b.connection → a.turn ≡ b.turn → a ≡ b
  same_command a b in_a in_b connection turn =
      let at_a = place_of xs a in_a in
      let at_b = place_of xs b in_b in
      let place = serves.once at_a.0 at_b.0 a b at_a.1 at_b.1 connection turn in
      cc (sym at_a.1 ∙ (ap (slice_get xs) place ∙ at_b.1))

  same_request : (a b : Assignment) → Contains xs a → Contains xs b → a.proxy ≡ b.proxy → a.number ≡ b.number → a ≡ b
  same_request a b in_a in_b proxy number =
      let at_a = place_of xs a in_a in
      let at_b = place_of xs b in_b in
      let place = serves.for_one at_a.0 at_b.0 a b at_a.1 at_b.1 proxy number in
      cc (sym at_a.1 ∙ (ap (slice_get xs) place ∙ at_b.1))

  abbrev its_owner : ℕ → ℕ → ℕ
  its_owner = owner xs

  abbrev its_turn_of : ℕ → ℕ → ℕ
  its_turn_of = turn_of_request xs

  pub owner_is : (a : Assignment) → Contains xs a → its_owner a.proxy a.number ≡ a.connection
  unfolding owner
  owner_is a c =
      let f = found xs a c in
      let same = same_request f.0 a f.2 c f.3 f.4 in
      ap (λ (o : Option Assignment). option_map_or (λ (x : Assignment). x.connection) o 0) f.1 ∙ ap (λ (x : Assignment). x.connection) same

  pub turn_is : (a : Assignment) → Contains xs a → its_turn_of a.proxy a.number ≡ a.turn
  unfolding turn_of_request
  turn_is a c =
      let f = found xs a c in
      let same = same_request f.0 a f.2 c f.3 f.4 in
      ap (λ (o : Option Assignment). option_map_or (λ (x : Assignment). x.turn) o 0) f.1 ∙ ap (λ (x : Assignment). x.turn) same

  -- the command that a proxy carried in a round
  pub record Carried (s : StateView) (e : Executed) (first : List Line) (place p : ℕ) (one : RanOne s e first p) : Type 0 where
    pub a : Assignment
    pub there : Contains xs a
    pub proxy : a.proxy ≡ p
    pub number : a.number ≡ next_number s.sessions p
    pub ran : RanAt run place a
    pub asks : IsAskedIn d (bytes_of_connection a.connection heard) a.turn one.runner.1.command

  pub carried : (s : StateView) (e : Executed) (first : List Line) (place p : ℕ) (one : RanOne s e first p) → slice_get run place ≡ Some e → Carried s e first place p one
  carried s e first place p one at =
      let q = one.runner.1 in
      let its_number : q.number ≡ next_number s.sessions p = runs_next s.sessions [] e.batch.requests one.runner one.runs ∙ ap (next_number s.sessions) one.client in
      let was_asked = is_run.asked e q (contains_at run place e at) (runner_in s e.batch one.runner one.runs) in
      let a = serves.asks q.client q.number q.command was_asked in
      record {
        a = a.0;
        there = a.1;
        proxy = a.2 ∙ one.client;
        number = a.3 ∙ its_number;
        ran = (record { place = one.runner.0; client = q.client; number = q.number; reply = reply q.command (answers_made p first) }, record { executed = e; there = at; given = one.replied }, sym a.2, sym a.3);
        asks = a.4;
      }

  -- a command is executed in one round
  one_place : (a : Assignment) (i j : ℕ) → RanAt run i a → RanAt run j a → i ≡ j
  one_place a i j x y = (is_run.once i j x.0 y.0 x.1 y.1 (x.2 ∙ sym y.2) (x.3 ∙ sym y.3)).0

  -- ---- the connection's commands, one after the other

  module _ (c : ℕ) (turns : List Turn) (spells : SpellsIn d (bytes_of_connection c heard) turns) where
    -- what ran in the first rounds are commands up to b
    abbrev Low : ℕ → ℕ → Type 0
    Low rounds b = (a : Assignment) (place : ℕ) → Contains xs a → a.connection ≡ c → place < rounds → RanAt run place a → a.turn ≤ b

    -- and all of these ran
    abbrev High : ℕ → ℕ → Type 0
    High rounds b = (t : ℕ) → 1 ≤ t → t ≤ b → (a : Assignment) × Contains xs a × (a.connection ≡ c) × (a.turn ≡ t) × (place : ℕ) × (place < rounds) × RanAt run place a

    next_is : (rounds b : ℕ) (a : Assignment) → Low rounds b → High rounds b → Contains xs a → a.connection ≡ c → RanAt run rounds a → a.turn ≡ suc b
    next_is rounds b a low high there own ran = elim (three a.turn b) [
      | inl le ↦
          let from_one = serves.from_one a there in
          let h = high a.turn from_one le in
          let same = same_command h.0 a h.1 there (h.2 ∙ sym own) h.3 in
          let place = one_place a h.4 rounds (subst (RanAt run h.4) same h.6) ran in
          let lt = h.5 in
          absurd (omega (arith, place, lt))
      | inr (inl is) ↦ is
      | inr (inr gt) ↦
          let w = in_turn a rounds (suc b) there ran (omega arith) gt in
          let le = low w.0 w.4 w.1 (w.2 ∙ own) w.5 w.6 in
          let is = w.3 in
          absurd (omega (arith, le, is))
    ]

    module _ (s : StateView) (e : Executed) (over : IsOver s e) (first : List Line) (round : RoundMade s e first) (k : ℕ) (at : slice_get run k ≡ Some e) (b : ℕ) (low : Low k b) (high : High k b) where
      its_next : (p : ℕ) (one : RanOne s e first p) → owner_in its_owner s p ≡ c → (w : Carried s e first k p one) × (w.a.connection ≡ c) × (w.a.turn ≡ suc b)
      its_next p one own =
          let w = carried s e first k p one at in
          let connection : w.a.connection ≡ c = sym (owner_is w.a w.there) ∙ ((λ i. its_owner (w.proxy i) (w.number i)) ∙ own) in
          (w, connection, next_is k b w.a low high w.there connection w.ran)

      its_command : (p : ℕ) (one : RanOne s e first p) → owner_in its_owner s p ≡ c → slice_get (commands_in turns) b ≡ Some one.runner.1.command
      its_command p one own =
          let w = its_next p one own in
          let own_asks : IsAskedIn d (bytes_of_connection c heard) w.0.a.turn one.runner.1.command = subst (λ (n : ℕ). IsAskedIn d (bytes_of_connection n heard) w.0.a.turn one.runner.1.command) w.1 w.0.asks in
          let same = one_asked d (bytes_of_connection c heard) own_asks.turns turns own_asks.spells spells in
          let is = w.2 in
          let place : b ≡ w.0.a.turn - 1 = omega (arith, is) in
          ap (slice_get (commands_in turns)) place ∙ subst (λ (cs : List Command). slice_get cs (w.0.a.turn - 1) ≡ Some one.runner.1.command) same own_asks.is

      one_in_turn : (x : Answered) → Contains e.replies x → its_owner x.client x.number ≡ c → OneInTurn its_owner its_turn_of c (commands_in turns) s e first b
      one_in_turn x there own =
          let r = answer_ran s e over first round x there in
          let own_in : owner_in its_owner s x.client ≡ c = ap (its_owner x.client) (sym r.1) ∙ own in
          let w = its_next x.client r.0 own_in in
          record {
            proxy = x.client;
            ran = r.0;
            own = own_in;
            its_turn = (λ i. its_turn_of (sym w.0.proxy i) (sym w.0.number i)) ∙ (turn_is w.0.a w.0.there ∙ w.2);
            command_is = its_command x.client r.0 own_in;
            only = λ q one own_q.
                let u = its_next q one own_q in
                let same = same_command u.0.a w.0.a u.0.there w.0.there (u.1 ∙ sym w.1) (u.2 ∙ sym w.2) in
                sym u.0.proxy ∙ (ap (λ (y : Assignment). y.proxy) same ∙ w.0.proxy);
          }

      -- a command of the connection that ran in this round
      ran_here : (a : Assignment) → RanAt run k a → Contains xs a → a.connection ≡ c → (x : Answered) × Contains e.replies x × (its_owner x.client x.number ≡ c)
      ran_here a ran there own =
          let same : ran.1.executed ≡ e = cc (sym ran.1.there ∙ at) in
          (ran.0, subst (λ (y : Executed). Contains y.replies ran.0) same ran.1.given, (λ i. its_owner (ran.2 i) (ran.3 i)) ∙ (owner_is a there ∙ own))

      none_in_turn : ((x : Answered) → Contains e.replies x → its_owner x.client x.number ≡ c → ⊥) → NoneInTurn its_owner c s e first
      none_in_turn none p one own =
          let q = one.runner.1 in
          let its_number : q.number ≡ next_number s.sessions p = runs_next s.sessions [] e.batch.requests one.runner one.runs ∙ ap (next_number s.sessions) one.client in
          none (record { place = one.runner.0; client = q.client; number = q.number; reply = reply q.command (answers_made p first) }) one.replied ((λ i. its_owner (one.client i) (its_number i)) ∙ own)

      low_one : Low (suc k) (suc b)
      low_one a place there own lt ran = elim (less_or place k lt) [
        | inl less ↦ let le = low a place there own less ran in omega (arith, le)
        | inr is ↦ let turn = next_is k b a low high there own (subst (λ (n : ℕ). RanAt run n a) is ran) in omega (arith, turn)
      ]

      low_none : ((x : Answered) → Contains e.replies x → its_owner x.client x.number ≡ c → ⊥) → Low (suc k) b
      low_none none a place there own lt ran = elim (less_or place k lt) [
        | inl less ↦ low a place there own less ran
        | inr is ↦ let w = ran_here a (subst (λ (n : ℕ). RanAt run n a) is ran) there own in absurd (none w.0 w.1 w.2)
      ]

      high_none : High (suc k) b
      high_none t from_one le = let h = high t from_one le in let lt = h.5 in (h.0, h.1, h.2, h.3, h.4, omega (arith, lt), h.6)

      high_one : (x : Answered) → Contains e.replies x → its_owner x.client x.number ≡ c → High (suc k) (suc b)
      high_one x there own t from_one le =
          let r = answer_ran s e over first round x there in
          let w = its_next x.client r.0 (ap (its_owner x.client) (sym r.1) ∙ own) in
          elim (less_or t (suc b) (omega (arith, le))) [
            | inl less ↦ high_none t from_one (omega (arith, less))
            | inr is ↦ (w.0.a, w.0.there, w.1, w.2 ∙ sym is, k, omega arith, w.0.ran)
          ]

    pub are_in_turn : (before later : List Executed) (s : StateView) (lines : List Line) (made : IsMadeOf s later lines) → IsRunFrom s later → run ≡ before ++ later → (k : ℕ) → k ≡ length before → (b : ℕ) → Low k b → High k b → AreInTurn its_owner its_turn_of c (commands_in turns) s later lines made b
    are_in_turn before [] s lines made h is k len b low high = tt
    are_in_turn before (e ∷ later) s lines made h is k len b low high =
        let at : slice_get run k ≡ Some e = (λ i. slice_get (is i) (len i)) ∙ at_seam before e later in
        let is_next : run ≡ (before ++ e ∷ []) ++ later = is ∙ sym (append_assoc before (e ∷ []) later) in
        let more = length-append before (e ∷ []) in
        let len_next : suc k ≡ length (before ++ e ∷ []) = omega (arith, len, more) in
        elim (any_or_none (λ (x : Answered). its_owner x.client x.number == c) e.replies) [
          | inl (x, there, own) ↦
              let own_is = eqb-true (its_owner x.client x.number) c own in
              inl (
                one_in_turn s e h.0 made.0 made.3 k at b low high x there own_is,
                are_in_turn (before ++ e ∷ []) later e.new made.1 made.4 h.1 is_next (suc k) len_next (suc b) (low_one s e h.0 made.0 made.3 k at b low high) (high_one s e h.0 made.0 made.3 k at b low high x there own_is),
              )
          | inr none ↦
              let none_own : (x : Answered) → Contains e.replies x → its_owner x.client x.number ≡ c → ⊥ = λ x there own. let yes_own : (its_owner x.client x.number == c) ≡ true = eq-eqb (its_owner x.client x.number) c own in let no_way : true ≡ false = sym yes_own ∙ none x there in cc no_way in
              inr (
                none_in_turn s e h.0 made.0 made.3 k at b low high none_own,
                are_in_turn (before ++ e ∷ []) later e.new made.1 made.4 h.1 is_next (suc k) len_next b (low_none s e h.0 made.0 made.3 k at b low high none_own) (high_none s e h.0 made.0 made.3 k at b low high),
              )
        ]

    -- ---- what is made for the connection

    module _ (lines : List Line) (made : IsMadeOf initial_state run lines) where
      abbrev all : List Line
      all = lines_of its_owner its_turn_of initial_state run lines made

      for_connection : ConnectionMade its_owner its_turn_of (commands_in turns) run all c 0
      for_connection = connection_made its_owner its_turn_of c (commands_in turns) initial_state run lines made 0 is_run.follows
          (are_in_turn [] run initial_state lines made is_run.follows refl 0 refl 0 (λ a place there own lt ran. absurd (omega (arith, lt))) (λ t from_one le. absurd (omega (arith, from_one, le))))

      ran_first : for_connection.ran ≡ take (length for_connection.ran) (commands_in turns)
      ran_first = beginning for_connection.ran (commands_in turns) (λ i x at. let same : 0 + i ≡ i = omega arith in sym (ap (slice_get (commands_in turns)) same) ∙ for_connection.theirs i x at)

      pub executed_for : IsExecutedFrom d all c (bytes_of_connection c heard)
      executed_for = record { turns = turns; spells = spells; count = length for_connection.ran; made = for_connection.made ∙ ap (flat_map steps) ran_first }

      reply_there : (number : ℕ) (r : replies.Reply) → WasAnsweredFor run xs c number r → slice_get (replies_from (take (length for_connection.ran) (commands_in turns)) (answers_made c all)) (number - 1) ≡ Some r
      reply_there number r (a, there, connection, turn, was) =
          let own : its_owner was.answered.client was.answered.number ≡ c = (λ i. its_owner (was.client_is i) (was.number_is i)) ∙ (owner_is a there ∙ connection) in
          let g = for_connection.replied was.given.executed was.answered (contains_at run was.place was.given.executed was.given.there) was.given.given own in
          let turn_here : number ≡ suc (0 + g.0) = sym turn ∙ (sym (turn_is a there) ∙ ((λ i. its_turn_of (sym was.client_is i) (sym was.number_is i)) ∙ g.1)) in
          let place : g.0 ≡ number - 1 = omega (arith, turn_here) in
          subst (λ (cs : List Command). slice_get (replies_from cs (answers_made c all)) (number - 1) ≡ Some r) ran_first
          (subst (λ (k : ℕ). slice_get (replies_from for_connection.ran (answers_made c all)) k ≡ Some r) place (g.2 ∙ ap Some was.reply_is))

  -- these lines are an order of all connections
  pub order_of : (lines : List Line) (made : IsMadeOf initial_state run lines) → IsConnectionOrder d heard given moments_of (lines_of its_owner its_turn_of initial_state run lines made)
  unfolding executed_for
  order_of lines made = record {
    done = is_done its_owner its_turn_of run lines made is_run.follows;
    ticks = ticks_of its_owner its_turn_of (Contains moments_of) initial_state run lines made is_run.follows serves.moments (inl refl);
    asked_only = λ c.
        let bytes = bytes_of_connection c heard in
        let sp = some_spelled d bytes in
        executed_for c sp.0 sp.1 lines made;
    answered = λ c.
        let is = serves.served c in
        let f = is.first in
        record {
          executed = executed_for c f.turns f.spells lines made;
          taken = is.taken;
          more = f.more;
          first = f.is;
          texts = shown_imply (WasAnsweredFor run xs c) _ (reply_there c f.turns f.spells lines made) 1 is.taken (bytes_of_connection c given) is.texts;
        };
  }
