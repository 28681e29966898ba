-- What proxies asked, as their bytes spell it.
use Rattle.std.proofs.Common.{◌≡◌, ⊎_elim, ℕ, zero, suc, ◌+◌, ◌-◌, Bool, true, false, List, [], ◌∷◌, length, map, Some, refl, sym, ap, ◌∙◌, subst, arith, cond}
use Rattle.std.specs.Prelude.{Contains, slice_get, filter}
use Rattle.std.proofs.lemmas.Bool.{eqb-true, eq-eqb}
use Rattle.std.proofs.lemmas.Option.{slice_get_read}
use Rattle.std.proofs.lemmas.List.Elements.{All-contains, All-contains_itself, All-filter, filter_passes}
use Rattle.proto.specs.declared.command.Command.{Command}
use Rattle.proto.specs.declared.turn.Turn.{Turn}
use Rattle.proto.proofs.SpellsLemmas.{spells_one}
use Rattle.memcached_spec.specs.Asked.{asked, IsAsked}
use Rattle.memcached_spec.specs.Fed.{fed_to}
use Rattle.sessions.specs.declared.request.Request.{Request}
use Rattle.run_laws.proofs.Elements.{in_head, in_tail, in_none, first_or_other}
use Rattle.connections.proofs.TakeLemmas.{contains_at}
use Rattle.ensemble.specs.Ensemble.{EnsembleView, IsEnsemble, is_of, asks_of, asked_turn, turns_of}

-- where it is
pub place_of : {X : Type 0} (xs : List X) (x : X) → Contains xs x → (k : ℕ) × (slice_get xs k ≡ Some x)
place_of xs x c = (c.0, slice_get_read xs (length xs) c.0 x refl c.1 (sym c.2))

-- what passes a test is kept
kept : {X : Type 0} (P : X → Bool) (xs : List X) (x : X) → Contains xs x → P x ≡ true → Contains (filter P xs) x
kept P [] x c passes = absurd (in_none x c)
kept {X} P (y ∷ xs) x c passes = ⊎_elim (λ (same : y ≡ x). here same) (λ (later : Contains xs x). by (P y) (kept P xs x later passes)) (first_or_other y x xs c)
  where
    by : (b : Bool) → Contains (filter P xs) x → Contains (cond b (y ∷ filter P xs) (filter P xs)) x
    by true later = in_tail y x (filter P xs) later
    by false later = later

    here : y ≡ x → Contains (filter P (y ∷ xs)) x
    here same = subst (λ (b : Bool). Contains (cond b (y ∷ filter P xs) (filter P xs)) x) (sym (ap P same ∙ passes)) (subst (λ (z : X). Contains (y ∷ filter P xs) z) same (in_head y (filter P xs)))

-- ---- requests and the commands of their turns

request_at : (entries : List (Request × Bool)) (k : ℕ) (command : Command) → slice_get (asked (map asked_turn entries)) k ≡ Some command → (r : Request × Bool) × (slice_get entries k ≡ Some r) × (r.0.command ≡ command)
request_at [] k command at = absurd (cc at)
request_at (r ∷ entries) zero command at = (r, refl, cc at)
request_at (r ∷ entries) (suc k) command at = request_at entries k command at

command_at : (entries : List (Request × Bool)) (k : ℕ) (r : Request × Bool) → slice_get entries k ≡ Some r → slice_get (asked (map asked_turn entries)) k ≡ Some r.0.command
command_at [] k r at = absurd (cc at)
command_at (x ∷ entries) zero r at = (let same : x ≡ r = cc at in ap (λ (y : Request × Bool). Some y.0.command) same)
command_at (x ∷ entries) (suc k) r at = command_at entries k r at

-- ---- requests of one client have rising numbers

module _ (client : ℕ) where
  -- what the client asked is numbered from this number on
  abbrev pub AreFrom : ℕ → List (Request × Bool) → Type 0
  AreFrom from entries = (k : ℕ) (r : Request × Bool) → slice_get (asks_of client entries) k ≡ Some r → r.0.number ≡ from + k

  -- the first one is the client's, or not
  first_own : (from : ℕ) (x : Request × Bool) (entries : List (Request × Bool)) → AreFrom from (x ∷ entries) → is_of client x ≡ true → (k : ℕ) (r : Request × Bool) → slice_get (x ∷ asks_of client entries) k ≡ Some r → r.0.number ≡ from + k
  first_own from x entries are own = subst (λ (b : Bool). (k : ℕ) (r : Request × Bool) → slice_get (cond b (x ∷ asks_of client entries) (asks_of client entries)) k ≡ Some r → r.0.number ≡ from + k) own are

  first_other : (from : ℕ) (x : Request × Bool) (entries : List (Request × Bool)) → AreFrom from (x ∷ entries) → is_of client x ≡ false → AreFrom from entries
  first_other from x entries are other = subst (λ (b : Bool). (k : ℕ) (r : Request × Bool) → slice_get (cond b (x ∷ asks_of client entries) (asks_of client entries)) k ≡ Some r → r.0.number ≡ from + k) other are

  rest_from : (from : ℕ) (x : Request × Bool) (entries : List (Request × Bool)) → AreFrom from (x ∷ entries) → (n : ℕ) × AreFrom n entries
  rest_from from x entries are = by (is_of client x) refl
    where
      by : (own : Bool) → is_of client x ≡ own → (n : ℕ) × AreFrom n entries
      by true e = (suc from, λ k r at. let number = first_own from x entries are e (suc k) r at in omega (arith, number))
      by false e = (from, first_other from x entries are e)

  -- a later one has another number than the first
  first_differs : (from : ℕ) (x : Request × Bool) (entries : List (Request × Bool)) (j : ℕ) (r : Request × Bool) → AreFrom from (x ∷ entries) → slice_get entries j ≡ Some r → x.0.client ≡ client → r.0.client ≡ client → x.0.number ≡ r.0.number → ⊥
  first_differs from x entries j r are at x_own r_own same =
      let own : is_of client x ≡ true = eq-eqb x.0.client client x_own in
      let later = place_of (asks_of client entries) r (kept (is_of client) entries r (contains_at entries j r at) (eq-eqb r.0.client client r_own)) in
      let first = first_own from x entries are own 0 x refl in
      let second = first_own from x entries are own (suc later.0) r later.1 in
      omega (arith, first, second, same)

  pub one_place : (from : ℕ) (entries : List (Request × Bool)) → AreFrom from entries → (i j : ℕ) (q r : Request × Bool) → slice_get entries i ≡ Some q → slice_get entries j ≡ Some r → q.0.client ≡ client → r.0.client ≡ client → q.0.number ≡ r.0.number → i ≡ j
  one_place from [] are i j q r at_i at_j q_own r_own same = absurd (cc at_i)
  one_place from (x ∷ entries) are zero zero q r at_i at_j q_own r_own same = refl
  one_place from (x ∷ entries) are zero (suc j) q r at_i at_j q_own r_own same =
      let is : x ≡ q = cc at_i in
      absurd (first_differs from x entries j r are at_j (ap (λ (z : Request × Bool). z.0.client) is ∙ q_own) r_own (ap (λ (z : Request × Bool). z.0.number) is ∙ same))
  one_place from (x ∷ entries) are (suc i) zero q r at_i at_j q_own r_own same =
      let is : x ≡ r = cc at_j in
      absurd (first_differs from x entries i q are at_i (ap (λ (z : Request × Bool). z.0.client) is ∙ r_own) q_own (ap (λ (z : Request × Bool). z.0.number) is ∙ sym same))
  one_place from (x ∷ entries) are (suc i) (suc j) q r at_i at_j q_own r_own same =
      let rest = rest_from from x entries are in
      ap suc (one_place rest.0 entries rest.1 i j q r at_i at_j q_own r_own same)

module _ (e : EnsembleView) (world : IsEnsemble e) where
  -- a request is asked once
  pub asked_once : (i j : ℕ) (q r : Request × Bool) → slice_get e.asked i ≡ Some q → slice_get e.asked j ≡ Some r → q.0.client ≡ r.0.client → q.0.number ≡ r.0.number → i ≡ j
  asked_once i j q r at_i at_j client number =
      one_place q.0.client 1 e.asked (λ k x at. let numbered = world.in_order q.0.client k x at in omega (arith, numbered)) i j q r at_i at_j refl (sym client) number

  -- what was asked, its proxy's bytes ask
  pub asks : (r : Request × Bool) → Contains e.asked r → IsAsked (fed_to r.0.client world.events) r.0.number r.0.command
  asks r c =
      let own = place_of (asks_of r.0.client e.asked) r (kept (is_of r.0.client) e.asked r c (eq-eqb r.0.client r.0.client refl)) in
      let number = world.in_order r.0.client own.0 r own.1 in
      let place : r.0.number - 1 ≡ own.0 = omega (arith, number) in
      record {
        turns = turns_of r.0.client e.asked;
        rest = [];
        spells = world.fed r.0.client;
        from_one = omega (arith, number);
        is = ap (slice_get (asked (turns_of r.0.client e.asked))) place ∙ command_at (asks_of r.0.client e.asked) own.0 r own.1;
      }

  -- what a proxy's bytes ask was asked
  pub asked_by : (client number : ℕ) (command : Command) → IsAsked (fed_to client world.events) number command → (r : Request × Bool) × Contains e.asked r × (r.0.client ≡ client) × (r.0.number ≡ number) × (r.0.command ≡ command)
  asked_by client number command a =
      let same = spells_one (fed_to client world.events) a.turns (turns_of client e.asked) a.rest [] a.spells (world.fed client) in
      let at : slice_get (asked (turns_of client e.asked)) (number - 1) ≡ Some command = subst (λ (ts : List Turn). slice_get (asked ts) (number - 1) ≡ Some command) same.0 a.is in
      let r = request_at (asks_of client e.asked) (number - 1) command at in
      let own = contains_at (asks_of client e.asked) (number - 1) r.0 r.1 in
      let own_is : is_of client r.0 ≡ true = All-contains (λ (x : Request × Bool). is_of client x ≡ true) (asks_of client e.asked) r.0 (filter_passes (is_of client) e.asked) own in
      let numbered = world.in_order client (number - 1) r.0 r.1 in
      let from_one = a.from_one in (
        r.0,
        All-contains (Contains e.asked) (asks_of client e.asked) r.0 (All-filter (is_of client) (Contains e.asked) e.asked (All-contains_itself e.asked)) own,
        eqb-true r.0.0.client client own_is,
        omega (arith, numbered, from_one),
        r.2,
      )
