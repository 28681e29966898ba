-- A read that shows what was stored before it is in an order.
use Rattle.std.proofs.Common.{◌≡◌, ℕ, zero, suc, Bool, true, false, List, [], ◌∷◌, ◌++◌, length, map, Some, refl, sym, ap, arith, subst}
use Rattle.std.specs.Prelude.{codes, ◌==◌, ◌≤◌, if◌then◌else◌, filter, Contains, slice_get}
use Rattle.std.specs.Fmt.{digits}
use Rattle.std.specs.FinMap.{get-insert, empty}
use Rattle.std.specs.Cmp.Lexicographic.{nat_list_cmp_total}
use Rattle.std.specs.declared.alloc.Global.{Global}
use Rattle.std.specs.declared.vec.Vec.{Vec}
use Rattle.proto.specs.declared.reply.Reply.TheVariants.{Stored}
use Rattle.proto.specs.declared.turn.Turn.TheVariants.{Ask}
use Rattle.proto.specs.Grammar.{Spells}
use Rattle.item_steps.specs.Effect.{updated}
use Rattle.item_steps.specs.Steps.{reply}
use Rattle.item_steps.specs.declared.step.Answer.TheVariants.{Seen, Did}
use Rattle.events.specs.declared.event.Event.{Event}
use Rattle.events.specs.declared.event.Event.TheVariants.{Feed}
use Rattle.memcached_spec.specs.Fed.{fed_to}
use Rattle.memcached_spec.specs.Server.{Made, Line, Tick, Do, IsDone, made_for, new_server}
use Rattle.memcached_spec.specs.Order.{IsExecutedFor, IsAnsweredBy, IsOrder}
use Rattle.memcached_spec.specs.Laws.{FreshReadIsInOrder}
use Rattle.memcached_spec.proofs.Stale.{a_set, a_get, set_step, get_step, new_one, nothing_spelled, set_spelled, get_spelled, eqb_is}

abbrev the_set : Made
the_set = record { client = 1; step = set_step; unique = 0; answer = Did Stored }

abbrev the_get : Made
the_get = record { client = 2; step = get_step; unique = 0; answer = Seen (Some (new_one new_server 0)) }

abbrev one_line : List Line
one_line = Do the_set ∷ []

abbrev two_lines : List Line
two_lines = Do the_set ∷ Do the_get ∷ []

none_made : IsDone []
none_made = record { last = new_server; leads = refl; fresh = λ unique. omega arith }

abbrev zero_alone : List ℕ
zero_alone = 0 ∷ []

at_most_one : (unique : ℕ) → length (filter (λ x. x == unique) zero_alone) ≤ 1
at_most_one unique = by (0 == unique)
  where
    by : (b : Bool) → length (if b then zero_alone else []) ≤ 1
    by true = omega arith
    by false = omega arith

one_made : IsDone one_line
unfolding updated
one_made = record { last = _; leads = (refl, refl); fresh = at_most_one }

both_made : IsDone two_lines
unfolding updated
both_made = record { last = _; leads = (refl, (ap (λ o. Seen o) (sym (get-insert nat_list_cmp_total empty (codes "x") (new_one new_server 0) (codes "x"))), refl)); fresh = at_most_one }

no_tick : (moment : ℕ) → Contains [] (Tick moment) → ⊥
no_tick moment (k, lt, e) = omega (arith, lt)

no_tick_in_one : (moment : ℕ) → Contains one_line (Tick moment) → ⊥
no_tick_in_one moment (zero, lt, e) = cc e
no_tick_in_one moment (suc k, lt, e) = omega (arith, lt)

no_tick_in_two : (moment : ℕ) → Contains two_lines (Tick moment) → ⊥
no_tick_in_two moment (zero, lt, e) = cc e
no_tick_in_two moment (suc zero, lt, e) = cc e
no_tick_in_two moment (suc (suc k), lt, e) = omega (arith, lt)

module _ (set get : Vec ℕ Global) (set_is : set.items ≡ codes "set x 0 0 1\r\n1\r\n") (get_is : get.items ≡ codes "get x\r\n") where
  abbrev first_events : List Event
  first_events = Feed 1 set ∷ []

  abbrev both_events : List Event
  both_events = Feed 1 set ∷ Feed 2 get ∷ []

  abbrev set_executed : (lines : List Line) (all : List ℕ) → all ≡ codes "set x 0 0 1\r\n1\r\n" → map (λ d. d.step) (made_for 1 lines) ≡ set_step ∷ [] → IsExecutedFor lines 1 all
  set_executed lines all e made = record { turns = Ask a_set false ∷ []; rest = []; spells = subst (λ (xs : List ℕ). Spells xs (Ask a_set false ∷ []) []) (sym e) set_spelled; count = 1; made = made }

  abbrev get_executed : (lines : List Line) (all : List ℕ) → all ≡ codes "get x\r\n" → map (λ d. d.step) (made_for 2 lines) ≡ get_step ∷ [] → IsExecutedFor lines 2 all
  get_executed lines all e made = record { turns = Ask a_get false ∷ []; rest = []; spells = subst (λ (xs : List ℕ). Spells xs (Ask a_get false ∷ []) []) (sym e) get_spelled; count = 1; made = made }

  executed_nothing : (lines : List Line) (client : ℕ) (all : List ℕ) → all ≡ [] → made_for client lines ≡ [] → IsExecutedFor lines client all
  executed_nothing lines client all e none = record { turns = []; rest = all; spells = subst (λ (xs : List ℕ). Spells xs [] xs) (sym e) nothing_spelled; count = 0; made = ap (λ (ds : List Made). map (λ d. d.step) ds) none }

  none_at_first : (client : ℕ) → IsExecutedFor [] client []
  none_at_first client = executed_nothing [] client [] refl refl

  first_executed : (client : ℕ) → IsExecutedFor one_line client (fed_to client first_events)
  first_executed client = by (1 == client) refl
    where
      by : (b : Bool) → (1 == client) ≡ b → IsExecutedFor one_line client (fed_to client first_events)
      by true e = subst (λ (c : ℕ). IsExecutedFor one_line c (fed_to c first_events)) (eqb_is 1 client e) (set_executed one_line (fed_to 1 first_events) (ap (λ (xs : List ℕ). xs ++ []) set_is) refl)
      by false e = executed_nothing one_line client (fed_to client first_events) (ap (λ (b : Bool). (if b then set.items else []) ++ []) e) (ap (λ (b : Bool). if b then the_set ∷ [] else []) e)

  both_executed : (client : ℕ) → IsExecutedFor two_lines client (fed_to client both_events)
  both_executed client = by (1 == client) refl (2 == client) refl
    where
      by : (b : Bool) → (1 == client) ≡ b → (c : Bool) → (2 == client) ≡ c → IsExecutedFor two_lines client (fed_to client both_events)
      by true e c f = subst (λ (c : ℕ). IsExecutedFor two_lines c (fed_to c both_events)) (eqb_is 1 client e) (set_executed two_lines (fed_to 1 both_events) (ap (λ (xs : List ℕ). xs ++ []) set_is) refl)
      by false e true f = subst (λ (c : ℕ). IsExecutedFor two_lines c (fed_to c both_events)) (eqb_is 2 client f) (get_executed two_lines (fed_to 2 both_events) (ap (λ (xs : List ℕ). xs ++ []) get_is) refl)
      by false e false f = executed_nothing two_lines client (fed_to client both_events)
          (λ i. (if e i then set.items else []) ++ ((if f i then get.items else []) ++ []))
          (λ i. if e i then the_set ∷ (if f i then the_get ∷ [] else []) else (if f i then the_get ∷ [] else []))

  -- what is not given needs no reply
  given_none : (lines : List Line) (client : ℕ) (all : List ℕ) → IsExecutedFor lines client all → IsAnsweredBy lines client all []
  given_none lines client all x = record { executed = x; taken = []; more = x.turns; first = refl; texts = refl }

  at_first : IsOrder [] ([] ∷ [] ∷ []) []
  at_first = record {
    done = none_made;
    moments = λ moment at. absurd (no_tick moment at);
    asked_only = none_at_first;
    answered = λ i given at. by i given at;
  } where
    by : (i : ℕ) (given : List ℕ) → slice_get ([] ∷ [] ∷ []) i ≡ Some given → IsAnsweredBy [] (suc i) [] given
    by zero given at = subst (λ (g : List ℕ). IsAnsweredBy [] 1 [] g) (cc at) (given_none [] 1 [] (none_at_first 1))
    by (suc zero) given at = subst (λ (g : List ℕ). IsAnsweredBy [] 2 [] g) (cc at) (given_none [] 2 [] (none_at_first 2))
    by (suc (suc i)) given at = absurd (cc at)

  stored_text : IsAnsweredBy one_line 1 (fed_to 1 first_events) (codes "STORED\r\n")
  stored_text = record { executed = set_executed one_line (fed_to 1 first_events) (ap (λ (xs : List ℕ). xs ++ []) set_is) refl; taken = Ask a_set false ∷ []; more = []; first = refl; texts = (Stored, [], refl, refl, refl) }

  stored_still : IsAnsweredBy two_lines 1 (fed_to 1 both_events) (codes "STORED\r\n")
  stored_still = record { executed = set_executed two_lines (fed_to 1 both_events) (ap (λ (xs : List ℕ). xs ++ []) set_is) refl; taken = Ask a_set false ∷ []; more = []; first = refl; texts = (Stored, [], refl, refl, refl) }

  shown_text : IsAnsweredBy two_lines 2 (fed_to 2 both_events) (codes "VALUE x 0 1\r\n1\r\nEND\r\n")
  unfolding digits
  shown_text = record { executed = get_executed two_lines (fed_to 2 both_events) (ap (λ (xs : List ℕ). xs ++ []) get_is) refl; taken = Ask a_get false ∷ []; more = []; first = refl; texts = (reply a_get (the_get.answer ∷ []), [], refl, refl, refl) }

  after_one : IsOrder first_events (codes "STORED\r\n" ∷ [] ∷ []) one_line
  after_one = record {
    done = one_made;
    moments = λ moment at. absurd (no_tick_in_one moment at);
    asked_only = first_executed;
    answered = λ i given at. by i given at;
  } where
    by : (i : ℕ) (given : List ℕ) → slice_get (codes "STORED\r\n" ∷ [] ∷ []) i ≡ Some given → IsAnsweredBy one_line (suc i) (fed_to (suc i) first_events) given
    by zero given at = subst (λ (g : List ℕ). IsAnsweredBy one_line 1 (fed_to 1 first_events) g) (cc at) stored_text
    by (suc zero) given at = subst (λ (g : List ℕ). IsAnsweredBy one_line 2 (fed_to 2 first_events) g) (cc at) (given_none one_line 2 (fed_to 2 first_events) (first_executed 2))
    by (suc (suc i)) given at = absurd (cc at)

  after_both : IsOrder both_events (codes "STORED\r\n" ∷ codes "VALUE x 0 1\r\n1\r\nEND\r\n" ∷ []) two_lines
  after_both = record {
    done = both_made;
    moments = λ moment at. absurd (no_tick_in_two moment at);
    asked_only = both_executed;
    answered = λ i given at. by i given at;
  } where
    by : (i : ℕ) (given : List ℕ) → slice_get (codes "STORED\r\n" ∷ codes "VALUE x 0 1\r\n1\r\nEND\r\n" ∷ []) i ≡ Some given → IsAnsweredBy two_lines (suc i) (fed_to (suc i) both_events) given
    by zero given at = subst (λ (g : List ℕ). IsAnsweredBy two_lines 1 (fed_to 1 both_events) g) (cc at) stored_still
    by (suc zero) given at = subst (λ (g : List ℕ). IsAnsweredBy two_lines 2 (fed_to 2 both_events) g) (cc at) shown_text
    by (suc (suc i)) given at = absurd (cc at)

pub fresh_read_is_in_order : FreshReadIsInOrder
fresh_read_is_in_order set get set_is get_is = ([], at_first set get set_is get_is, (one_line, after_one set get set_is get_is, (Do the_get ∷ [], after_both set get set_is get_is, tt)))
