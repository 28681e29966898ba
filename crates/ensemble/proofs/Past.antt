-- What had been asked and answered at a moment stays so as a world goes on.
use Rattle.std.proofs.Common.{◌≡◌, ◌⊎◌, inl, inr, ⊎_elim, ℕ, zero, suc, ◌-◌, Bool, true, false, List, [], ◌∷◌, ◌++◌, length, map, Some, slice_get, refl, sym, ap, ◌∙◌, subst, arith, append_assoc}
use Rattle.std.specs.Prelude.{Contains, ◌==◌}
use Rattle.std.proofs.lemmas.List.{append-nil}
use Rattle.std.proofs.lemmas.Bool.{eqb-true}
use Rattle.proto.specs.declared.command.Command.{Command}
use Rattle.proto.specs.declared.reply.Reply as replies
use Rattle.proto.specs.declared.turn.Turn.{Turn}
use Rattle.proto.specs.Grammar.{Spells}
use Rattle.proto.proofs.SpellsLemmas.{spells_one}
use Rattle.sessions.specs.declared.request.Request.{Request}
use Rattle.events.specs.declared.event.Event.{Event}
use Rattle.events.specs.Config.{ConfigView}
use Rattle.worlds.specs.World.{WorldView, WorldRuns, last_world, ReachedWorlds, EndsWith, IsReached}
use Rattle.worlds.specs.Asked.{WasSent}
use Rattle.memcached_spec.specs.Fed.{fed_to, IsMoment}
use Rattle.memcached_spec.specs.Asked as spelled
use Rattle.ensemble.specs.declared.noted.Noted.TheVariants as noted
use Rattle.ensemble.specs.Moments.{moments_in}
use Rattle.ensemble.specs.Ensemble.{IsPast, asks_of, asked_turn, turns_of}
use Rattle.ensemble.proofs.Lists.{in_head, in_tail}
use Rattle.ensemble.proofs.Moments.{Order}

abbrev Asks : Type 0
Asks = List (Request × Bool)

-- ---- lists

pub get_longer : {X : Type 0} (xs ys : List X) (k : ℕ) (x : X) → slice_get xs k ≡ Some x → slice_get (xs ++ ys) k ≡ Some x
get_longer [] ys k x at = absurd (cc at)
get_longer (y ∷ xs) ys zero x at = at
get_longer (y ∷ xs) ys (suc k) x at = get_longer xs ys k x at

-- a beginning of a list that is longer by one is a beginning of it, or the whole of the longer one
pub longer_split : {X : Type 0} (xs : List X) (x : X) (early late : List X) → xs ++ x ∷ [] ≡ early ++ late → ((rest : List X) × (xs ≡ early ++ rest)) ⊎ (early ≡ xs ++ x ∷ [])
longer_split [] x [] late is = inl ([], refl)
longer_split {X} [] x (y ∷ []) late is = inr (let same : x ≡ y = cc is in ap (λ (z : X). z ∷ []) (sym same))
longer_split [] x (y ∷ z ∷ early) late is = absurd (cc is)
longer_split (w ∷ xs) x [] late is = inl (w ∷ xs, refl)
longer_split {X} (w ∷ xs) x (y ∷ early) late is =
    let same : w ≡ y = cc is in
    let tails : xs ++ x ∷ [] ≡ early ++ late = cc is in
    ⊎_elim
    (λ (old : (rest : List X) × (xs ≡ early ++ rest)). inl (old.0, λ i. same i ∷ old.1 i))
    (λ (whole : early ≡ xs ++ x ∷ []). inr (λ i. sym same i ∷ whole i))
    (longer_split xs x early late tails)

-- and what comes behind that beginning
pub longer_split_late : {X : Type 0} (xs : List X) (x : X) (early late : List X) → xs ++ x ∷ [] ≡ early ++ late → ((rest : List X) × (xs ≡ early ++ rest) × (late ≡ rest ++ x ∷ [])) ⊎ (early ≡ xs ++ x ∷ [])
longer_split_late [] x [] late is = inl ([], refl, sym is)
longer_split_late {X} [] x (y ∷ []) late is = inr (let same : x ≡ y = cc is in ap (λ (z : X). z ∷ []) (sym same))
longer_split_late [] x (y ∷ z ∷ early) late is = absurd (cc is)
longer_split_late (w ∷ xs) x [] late is = inl (w ∷ xs, refl, sym is)
longer_split_late {X} (w ∷ xs) x (y ∷ early) late is =
    let same : w ≡ y = cc is in
    let tails : xs ++ x ∷ [] ≡ early ++ late = cc is in
    ⊎_elim
    (λ (old : (rest : List X) × (xs ≡ early ++ rest) × (late ≡ rest ++ x ∷ [])). inl (old.0, (λ i. same i ∷ old.1 i), old.2))
    (λ (whole : early ≡ xs ++ x ∷ []). inr (λ i. sym same i ∷ whole i))
    (longer_split_late xs x early late tails)

abbrev IsAskOf : ℕ → Asks → Request × Bool → Type 0
IsAskOf client asked a = Contains asked a × (a.0.client ≡ client)

asks_with : (client : ℕ) (b : Request × Bool) (asked : Asks) → (b.0.client == client) ≡ true → asks_of client (b ∷ asked) ≡ b ∷ asks_of client asked
asks_with client b asked e = rw e refl

asks_without : (client : ℕ) (b : Request × Bool) (asked : Asks) → (b.0.client == client) ≡ false → asks_of client (b ∷ asked) ≡ asks_of client asked
asks_without client b asked e = rw e refl

in_asks : (client : ℕ) (asked : Asks) (k : ℕ) (a : Request × Bool) → slice_get (asks_of client asked) k ≡ Some a → IsAskOf client asked a
in_asks client [] k a at = absurd (cc at)
in_asks client (b ∷ asked) k a at = by (b.0.client == client) refl (λ j old. in_asks client asked j a old) k at
  where
    by : (same : Bool) → (b.0.client == client) ≡ same → ((j : ℕ) → slice_get (asks_of client asked) j ≡ Some a → IsAskOf client asked a) → (k : ℕ) → slice_get (asks_of client (b ∷ asked)) k ≡ Some a → IsAskOf client (b ∷ asked) a
    by true e rest zero at =
        let here : slice_get (b ∷ asks_of client asked) 0 ≡ Some a = sym (ap (λ (xs : Asks). slice_get xs 0) (asks_with client b asked e)) ∙ at in
        let is : b ≡ a = cc here in
        (subst (Contains (b ∷ asked)) is (in_head b asked), ap (λ (c : Request × Bool). c.0.client) (sym is) ∙ eqb-true b.0.client client e)
    by true e rest (suc k) at =
        let there : slice_get (b ∷ asks_of client asked) (suc k) ≡ Some a = sym (ap (λ (xs : Asks). slice_get xs (suc k)) (asks_with client b asked e)) ∙ at in
        let old = rest k there in
        (in_tail b a asked old.0, old.1)
    by false e rest k at =
        let there : slice_get (asks_of client asked) k ≡ Some a = sym (ap (λ (xs : Asks). slice_get xs k) (asks_without client b asked e)) ∙ at in
        let old = rest k there in
        (in_tail b a asked old.0, old.1)

-- each command that turns ask is that of an entry
asked_at : (entries : Asks) (k : ℕ) (command : Command) → slice_get (spelled.asked (map asked_turn entries)) k ≡ Some command → (a : Request × Bool) × (slice_get entries k ≡ Some a)
asked_at [] k command at = absurd (cc at)
asked_at (b ∷ entries) zero command at = (b, refl)
asked_at (b ∷ entries) (suc k) command at = asked_at entries k command at

-- ---- worlds

run_end : (w : WorldView) (events : List Event) (later : List WorldView) → WorldRuns w events later → slice_get (w ∷ later) (length events) ≡ Some (last_world w later)
run_end w [] [] runs = refl
run_end w [] (x ∷ later) runs = absurd runs
run_end w (e ∷ events) [] runs = absurd runs
run_end w (e ∷ events) (x ∷ later) runs = run_end x events later runs.1

end_at : (config : ConfigView) (events : List Event) (worlds : List WorldView) (now : WorldView) → ReachedWorlds config events worlds → EndsWith worlds now → slice_get worlds (length events) ≡ Some now
end_at config events [] now reached ends = absurd ends
end_at config events (first ∷ later) now reached ends = run_end first events later reached.1 ∙ ap Some ends

-- ---- moments

-- a moment of the past stays one
pub past_more : (events more : List Event) (worlds added : List WorldView) (early : Order) → IsPast events worlds early → IsPast (events ++ more) (worlds ++ added) early
past_more events more worlds added early p = record {
  before = p.before;
  after = p.after ++ more;
  split = ap (λ (es : List Event). es ++ more) p.split ∙ append_assoc p.before p.after more;
  now = p.now;
  there = get_longer worlds added (length p.before) p.now p.there;
  asked = p.asked;
  sent = p.sent;
  moments = p.moments;
}

-- what the bytes ask is in the order
pub asked_in_order : (client : ℕ) (bytes : List ℕ) (asked : Asks) (order : Order) → ((k : ℕ) (a : Request × Bool) → slice_get (asks_of client asked) k ≡ Some a → a.0.number ≡ suc k) → Spells bytes (turns_of client asked) []
    → ((a : Request × Bool) → Contains asked a → Contains order ((a.0.client, a.0.number), noted.Asked)) → (number : ℕ) (command : Command) → spelled.IsAsked bytes number command → Contains order ((client, number), noted.Asked)
asked_in_order client bytes asked order in_order fed ordered_asks number command is =
    let same = spells_one bytes is.turns (turns_of client asked) is.rest [] is.spells fed in
    let at : slice_get (spelled.asked (turns_of client asked)) (number - 1) ≡ Some command = subst (λ (ts : List Turn). slice_get (spelled.asked ts) (number - 1) ≡ Some command) same.0 is.is in
    let a = asked_at (asks_of client asked) (number - 1) command at in
    let inside = in_asks client asked (number - 1) a.0 a.1 in
    let counted : a.0.0.number ≡ suc (number - 1) = in_order (number - 1) a.0 a.1 in
    let from_one = is.from_one in
    let numbered : a.0.0.number ≡ number = omega (arith, counted, from_one) in
    subst (λ (key : ℕ × ℕ). Contains order (key, noted.Asked)) (λ i. (inside.1 i, numbered i)) (ordered_asks a.0 inside.0)

-- now is a moment
pub past_now : (config : ConfigView) (events : List Event) (now : WorldView) (through : IsReached config events now) (asked : Asks) (answered : List ((ℕ × ℕ) × replies.Reply)) (order : Order)
    → ((client k : ℕ) (a : Request × Bool) → slice_get (asks_of client asked) k ≡ Some a → a.0.number ≡ suc k)
    → ((client : ℕ) → Spells (fed_to client events) (turns_of client asked) [])
    → ((a : Request × Bool) → Contains asked a → Contains order ((a.0.client, a.0.number), noted.Asked))
    → ((client number : ℕ) → Contains order ((client, number), noted.Answered) → (reply : replies.Reply) × Contains answered ((client, number), reply))
    → ((a : (ℕ × ℕ) × replies.Reply) → Contains answered a → WasSent now.letters a.0.0 a.0.1 a.1)
    → ((moment : ℕ) → IsMoment events moment → Contains (moments_in order) moment)
    → IsPast events through.worlds order
past_now config events now through asked answered order in_order fed ordered_asks ordered_answers answers moments = record {
  before = events;
  after = [];
  split = sym (append-nil events);
  now = now;
  there = end_at config events through.worlds now through.reached through.ends;
  asked = λ client number command is. asked_in_order client (fed_to client events) asked order (in_order client) (fed client) ordered_asks number command is;
  sent = λ client number c. let a = ordered_answers client number c in (a.0, answers ((client, number), a.0) a.1);
  moments = moments;
}
