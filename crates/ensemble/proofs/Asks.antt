-- What was asked, as bytes spell it, after one more request.
use Rattle.std.proofs.Common.{◌≡◌, ◌≢◌, ◌⊎◌, inl, inr, ⊎_elim, ℕ, zero, suc, ◌+◌, Bool, true, false, List, [], ◌∷◌, ◌++◌, length, map, None, Some, slice_get, refl, sym, ap, ◌∙◌, subst}
use Rattle.std.specs.Prelude.{◌==◌}
use Rattle.std.proofs.lemmas.List.{append-nil, length-append}
use Rattle.std.proofs.lemmas.List.Elements.{filter-append}
use Rattle.std.proofs.lemmas.Bool.{eqb-true, eq-eqb}
use Rattle.proto.specs.declared.turn.Turn.{Turn}
use Rattle.proto.specs.Grammar.{Spells, IsTurnText, next_turn}
use Rattle.proto.proofs.SpellsLemmas.{next_extends}
use Rattle.sessions.specs.declared.request.Request.{Request}
use Rattle.ensemble.specs.Ensemble.{is_of, asks_of, asked_turn, turns_of}

abbrev Ask_of : Type 0
Ask_of = Request × Bool

-- ---- by client

asks_more : (client : ℕ) (asked : List Ask_of) (a : Ask_of) → asks_of client (asked ++ a ∷ []) ≡ asks_of client asked ++ asks_of client (a ∷ [])
asks_more client asked a = filter-append (is_of client) asked (a ∷ [])

pub asks_same : (client : ℕ) (asked : List Ask_of) (a : Ask_of) → a.0.client ≡ client → asks_of client (asked ++ a ∷ []) ≡ asks_of client asked ++ a ∷ []
asks_same client asked a is =
    let one : asks_of client (a ∷ []) ≡ a ∷ [] = rw (eq-eqb a.0.client client is) refl in
    asks_more client asked a ∙ ap (λ (entries : List Ask_of). asks_of client asked ++ entries) one

pub asks_other : (client : ℕ) (asked : List Ask_of) (a : Ask_of) → (a.0.client == client) ≡ false → asks_of client (asked ++ a ∷ []) ≡ asks_of client asked
asks_other client asked a is =
    let none : asks_of client (a ∷ []) ≡ [] = rw is refl in
    asks_more client asked a ∙ (ap (λ (entries : List Ask_of). asks_of client asked ++ entries) none ∙ append-nil (asks_of client asked))

-- the last one
pub at_end : {X : Type 0} (xs : List X) (x y : X) (k : ℕ) → slice_get (xs ++ x ∷ []) k ≡ Some y → (slice_get xs k ≡ Some y) ⊎ ((k ≡ length xs) × (y ≡ x))
at_end [] x y zero at = (let here : x ≡ y = cc at in inr (refl, sym here))
at_end [] x y (suc k) at = absurd (cc at)
at_end (z ∷ xs) x y zero at = inl at
at_end (z ∷ xs) x y (suc k) at =
    ⊎_elim (λ (old : slice_get xs k ≡ Some y). inl old) (λ (last : (k ≡ length xs) × (y ≡ x)). inr (ap suc last.0, last.1)) (at_end xs x y k at)

-- requests of a client are numbered from 1
pub still_in_order : (client : ℕ) (asked : List Ask_of) (a : Ask_of) → ((k : ℕ) (b : Ask_of) → slice_get (asks_of client asked) k ≡ Some b → b.0.number ≡ suc k)
    → (a.0.client ≡ client → a.0.number ≡ suc (length (asks_of client asked))) → (k : ℕ) (b : Ask_of) → slice_get (asks_of client (asked ++ a ∷ [])) k ≡ Some b → b.0.number ≡ suc k
still_in_order client asked a order next k b at = by (a.0.client == client) refl
  where
    by : (same : Bool) → (a.0.client == client) ≡ same → b.0.number ≡ suc k
    by true e =
        let is = eqb-true a.0.client client e in
        ⊎_elim
        (λ (old : slice_get (asks_of client asked) k ≡ Some b). order k b old)
        (λ (last : (k ≡ length (asks_of client asked)) × (b ≡ a)). ap (λ (x : Ask_of). x.0.number) last.1 ∙ (next is ∙ ap suc (sym last.0)))
        (at_end (asks_of client asked) a b k (sym (ap (λ (entries : List Ask_of). slice_get entries k) (asks_same client asked a is)) ∙ at))
    by false e = order k b (sym (ap (λ (entries : List Ask_of). slice_get entries k) (asks_other client asked a e)) ∙ at)

-- how many a client has asked
pub count_same : (client : ℕ) (asked : List Ask_of) (a : Ask_of) → a.0.client ≡ client → length (asks_of client (asked ++ a ∷ [])) ≡ length (asks_of client asked) + 1
count_same client asked a is = ap length (asks_same client asked a is) ∙ length-append (asks_of client asked) (a ∷ [])

pub count_other : (client : ℕ) (asked : List Ask_of) (a : Ask_of) → a.0.client ≢ client → length (asks_of client (asked ++ a ∷ [])) ≡ length (asks_of client asked)
count_other client asked a other = by (a.0.client == client) refl
  where
    by : (same : Bool) → (a.0.client == client) ≡ same → length (asks_of client (asked ++ a ∷ [])) ≡ length (asks_of client asked)
    by true e = absurd (other (eqb-true a.0.client client e))
    by false e = ap length (asks_other client asked a e)

-- ---- as bytes spell it

map_more : (entries : List Ask_of) (a : Ask_of) → map asked_turn (entries ++ a ∷ []) ≡ map asked_turn entries ++ asked_turn a ∷ []
map_more [] a = refl
map_more (b ∷ entries) a = ap (λ (ts : List Turn). asked_turn b ∷ ts) (map_more entries a)

spells_more : (bytes own : List ℕ) (entries : List Ask_of) (a : Ask_of) → Spells bytes (map asked_turn entries) [] → IsTurnText own (asked_turn a) → Spells (bytes ++ own) (map asked_turn entries ++ asked_turn a ∷ []) []
spells_more bytes own [] a spells text =
    let nothing : next_turn [] ≡ None = subst (λ (bs : List ℕ). next_turn bs ≡ None) (sym spells.1) spells.0 in
    subst (λ (bs : List ℕ). Spells (bs ++ own) (asked_turn a ∷ []) []) spells.1 ([], text, (nothing, refl))
spells_more bytes own (b ∷ entries) a spells text =
    (spells.0 ++ own, next_extends bytes own spells.0 (asked_turn b) spells.1, spells_more spells.0 own entries a spells.2 text)

pub spells_asked : (client : ℕ) (bytes own : List ℕ) (asked : List Ask_of) (a : Ask_of) → Spells bytes (turns_of client asked) [] → IsTurnText own (asked_turn a) → a.0.client ≡ client → Spells (bytes ++ own) (turns_of client (asked ++ a ∷ [])) []
spells_asked client bytes own asked a spells text is =
    subst (λ (ts : List Turn). Spells (bytes ++ own) ts []) (sym (ap (map asked_turn) (asks_same client asked a is) ∙ map_more (asks_of client asked) a)) (spells_more bytes own (asks_of client asked) a spells text)

pub spells_other : (client : ℕ) (bytes : List ℕ) (asked : List Ask_of) (a : Ask_of) → Spells bytes (turns_of client asked) [] → (a.0.client == client) ≡ false → Spells bytes (turns_of client (asked ++ a ∷ [])) []
spells_other client bytes asked a spells other =
    subst (λ (ts : List Turn). Spells bytes ts []) (sym (ap (map asked_turn) (asks_other client asked a other))) spells
