-- A line says what it is the text of, and nothing else.
use Rattle.std.proofs.Common.{◌≡◌, ℕ, ◌+◌, ◌^◌, cond, eqb, List, [], ◌∷◌, ◌++◌, Option, Some, None, inl, inr, refl, sym, ap, subst, ◌∙◌, codes, bytes_eq}
use Rattle.std.specs.Option.{option_map}
use Rattle.std.proofs.lemmas.Bool.{eqb-true}
use Rattle.std.proofs.lemmas.Slice.Eq.{bytes_eq-Decides}
use Rattle.proto.specs.Line.{◌>>=◌}
use Rattle.proto.specs.Number.{number_below}
use Rattle.events.specs.declared.event.Event.{Event}
use Rattle.events.specs.declared.event.Event.TheVariants.{Feed, Again, Hangup, Deliver, Cut, Step, Finish, Suspect, Trim, Crash, Restart, Lost, FailSave}
use Rattle.events.specs.declared.event.Replica.{Replica}
use Rattle.events.specs.declared.event.Replica.TheVariants.{Executor, Verifier}
use Rattle.schedules.specs.declared.keyword.Keyword.{Keyword}
use Rattle.schedules.specs.declared.keyword.Keyword.TheVariants as keyword
use Rattle.schedules.specs.declared.number.TheConstants.{MOST_EVENTS, MOST_PLACES}
use Rattle.schedules.specs.declared.line.ScheduleLine.{ScheduleLine}
use Rattle.schedules.specs.declared.line.ScheduleLine.TheVariants.{Happens, Settle, Random}
use Rattle.schedules.specs.Parts.{parted, pair_said}
use Rattle.schedules.specs.Escape.{unescaped}
use Rattle.schedules.specs.Line.{NamesReplica, IsFeedText, IsEventText, IsLineText, SaysSomething}
use Rattle.schedules.specs.Reading.{LineView, Feeds, Says, line_view, client_said, replica_number_said, replica_said, keyword_of, said_by, line_said}
use Rattle.schedules.proofs.OptionLemmas.{option_map_some, bind_some, chosen, at_some}
use Rattle.schedules.proofs.EscapeLemmas.{escaped_read, read_escaped}
use Rattle.schedules.proofs.LinesLemmas.{parted_text}
use Rattle.schedules.proofs.WordLemmas.{node_whole, number_whole, pair_made, pair_parts}

-- ---- replicas

replica_read : (r : Replica) (word : List ℕ) → NamesReplica r word → replica_said word ≡ Some r
replica_read (Executor id) word (digits, e, named) = rw (e, named) refl
replica_read (Verifier id) word (digits, e, named) = rw (e, named) refl

replica_named : (r : Replica) (word : List ℕ) → replica_said word ≡ Some r → NamesReplica r word
replica_named r [] h = absurd (cc)
replica_named r (b ∷ digits) h =
    elim (chosen (eqb b 101) (option_map Executor (replica_number_said digits)) (cond (eqb b 118) (option_map Verifier (replica_number_said digits)) None) (Some r) h) [
      | inl p ↦
          let id = option_map_some Executor (replica_number_said digits) r p.1 in
          subst (λ (x : Replica). NamesReplica x (b ∷ digits)) id.2 (digits, ap (λ (x : ℕ). x ∷ digits) (eqb-true b 101 p.0), id.1)
      | inr p ↦ elim (chosen (eqb b 118) (option_map Verifier (replica_number_said digits)) None (Some r) p.1) [
        | inl q ↦
            let id = option_map_some Verifier (replica_number_said digits) r q.1 in
            subst (λ (x : Replica). NamesReplica x (b ∷ digits)) id.2 (digits, ap (λ (x : ℕ). x ∷ digits) (eqb-true b 118 q.0), id.1)
        | inr q ↦ absurd (cc)
      ]
    ]

-- ---- what a line is the text of is read from it

pub feed_read : (c : ℕ) (bytes text : List ℕ) → IsFeedText c bytes text → line_said text ≡ Some (Feeds c bytes)
feed_read c bytes text (rest, e, (front, back, e', named, escaped)) =
    let pair = pair_made client_said unescaped front back c bytes (node_whole 65535 front c named) named (escaped_read bytes back escaped) in
    rw (e, e', pair) refl

event_read : (event : Event) (text : List ℕ) → IsEventText event text → line_said text ≡ Some (line_view (Happens event))
event_read (Feed c bytes) text h = feed_read c bytes.items text h
event_read (Again c) text (rest, e, named) = rw (e, named) refl
event_read (Hangup c) text (rest, e, named) = rw (e, named) refl
event_read (Deliver letter) text (rest, e, written) = rw (e, written) refl
event_read (Cut id moment) text (rest, e, (front, back, e', named, written)) =
    let pair = pair_made replica_number_said (number_below (2 ^ 32)) front back id moment (node_whole 255 front id named) named written in
    rw (e, e', pair) refl
event_read (Step id place) text (rest, e, (front, back, e', named, written)) =
    let pair = pair_made replica_number_said (number_below MOST_PLACES) front back id place (node_whole 255 front id named) named written in
    rw (e, e', pair) refl
event_read (Finish id) text (rest, e, named) = rw (e, named) refl
event_read (Suspect id) text (rest, e, named) = rw (e, named) refl
event_read (Trim id place) text none = absurd none
event_read (Crash r) text (rest, e, named) = rw (e, replica_read r rest named) refl
event_read (Restart r) text (rest, e, named) = rw (e, replica_read r rest named) refl
event_read (Lost r) text (rest, e, named) = rw (e, replica_read r rest named) refl
event_read (FailSave r) text (rest, e, named) = rw (e, replica_read r rest named) refl

pub line_read : (x : ScheduleLine) (text : List ℕ) → IsLineText x text → line_said text ≡ Some (line_view x)
line_read (Happens event) text h = event_read event text h
line_read (Settle most) text (rest, e, written) = rw (e, written) refl
line_read (Random seed count) text (rest, e, (front, back, e', first, second)) =
    let pair = pair_made (number_below (2 ^ 64)) (number_below (MOST_EVENTS + 1)) front back seed count (number_whole (2 ^ 64) front seed first) first second in
    rw (e, e', pair) refl

-- ---- what is read from a line is what it is the text of

abbrev keyword_text : Keyword → List ℕ
keyword_text keyword.Feed = codes "feed"
keyword_text keyword.Again = codes "again"
keyword_text keyword.Hangup = codes "hangup"
keyword_text keyword.Deliver = codes "deliver"
keyword_text keyword.Cut = codes "cut"
keyword_text keyword.Step = codes "step"
keyword_text keyword.Finish = codes "finish"
keyword_text keyword.Suspect = codes "suspect"
keyword_text keyword.Crash = codes "crash"
keyword_text keyword.Restart = codes "restart"
keyword_text keyword.Lose = codes "lose"
keyword_text keyword.FailSave = codes "failsave"
keyword_text keyword.Settle = codes "settle"
keyword_text keyword.Random = codes "random"

-- the word is this keyword's, or the rest decides
or_word : (w : List ℕ) (k : Keyword) (others : Option Keyword) → ((y : Keyword) → others ≡ Some y → w ≡ keyword_text y) → (y : Keyword) → cond (bytes_eq w (keyword_text k)) (Some k) others ≡ Some y → w ≡ keyword_text y
or_word w k others rest y h =
    elim (chosen (bytes_eq w (keyword_text k)) (Some k) others (Some y) h) [
      | inl p ↦ (bytes_eq-Decides w (keyword_text k)).0 p.0 ∙ ap keyword_text (at_some k y p.1)
      | inr p ↦ rest y p.1
    ]

no_word : (w : List ℕ) (y : Keyword) → None ≡ Some y → w ≡ keyword_text y
no_word w y h = absurd (cc)

keyword_is : (w : List ℕ) (k : Keyword) → keyword_of w ≡ Some k → w ≡ keyword_text k
keyword_is w =
    or_word w keyword.Feed _ (or_word w keyword.Again _ (or_word w keyword.Hangup _ (or_word w keyword.Deliver _ (or_word w keyword.Cut _ (or_word w keyword.Step _
    (or_word w keyword.Finish _ (or_word w keyword.Suspect _ (or_word w keyword.Crash _ (or_word w keyword.Restart _ (or_word w keyword.Lose _ (or_word w keyword.FailSave _
    (or_word w keyword.Settle _ (or_word w keyword.Random _ (no_word w))))))))))))))

-- what is said is what the text says
abbrev IsText : LineView → List ℕ → Type 0
IsText (Feeds c bytes) text = IsFeedText c bytes text
IsText (Says line) text = IsLineText line text

event_text : {A : Type 0} (make : A → Event) (o : Option A) (v : LineView) (text : List ℕ) → option_map (λ event. Says (Happens event)) (option_map make o) ≡ Some v → ((a : A) → o ≡ Some a → IsEventText (make a) text) → IsText v text
event_text make o v text h told =
    let event = option_map_some (λ (event : Event). Says (Happens event)) (option_map make o) v h in
    let a = option_map_some make o event.0 event.1 in
    let same : Says (Happens (make a.0)) ≡ v = ap (λ (event : Event). Says (Happens event)) a.2 ∙ event.2 in
    subst (λ (w : LineView). IsText w text) same (told a.0 a.1)

plain_text : {A : Type 0} (make : A → ScheduleLine) (o : Option A) (v : LineView) (text : List ℕ) → option_map Says (option_map make o) ≡ Some v → ((a : A) → o ≡ Some a → IsLineText (make a) text) → IsText v text
plain_text make o v text h told =
    let line = option_map_some Says (option_map make o) v h in
    let a = option_map_some make o line.0 line.1 in
    let same : Says (make a.0) ≡ v = ap Says a.2 ∙ line.2 in
    subst (λ (w : LineView). IsText w text) same (told a.0 a.1)

said_text : (k : Keyword) (rest : List ℕ) (v : LineView) → said_by k rest ≡ Some v → IsText v (keyword_text k ++ 32 ∷ rest)
said_text keyword.Feed rest v h =
    let p = option_map_some (λ (p : ℕ × List ℕ). Feeds p.0 p.1) (pair_said client_said unescaped rest) v h in
    let parts = pair_parts client_said unescaped rest p.0 p.1 in
    subst (λ (w : LineView). IsText w (codes "feed" ++ 32 ∷ rest)) p.2 (rest, refl, (parts.0, parts.1, parts.2, parts.3, read_escaped p.0.1 parts.1 parts.4))
said_text keyword.Again rest v h = event_text Again (client_said rest) v _ h (λ c p. (rest, refl, p))
said_text keyword.Hangup rest v h = event_text Hangup (client_said rest) v _ h (λ c p. (rest, refl, p))
said_text keyword.Deliver rest v h = event_text Deliver (number_below (2 ^ 64) rest) v _ h (λ c p. (rest, refl, p))
said_text keyword.Cut rest v h = event_text (λ p. Cut p.0 p.1) (pair_said replica_number_said (number_below (2 ^ 32)) rest) v _ h (λ p e. (rest, refl, pair_parts replica_number_said (number_below (2 ^ 32)) rest p e))
said_text keyword.Step rest v h = event_text (λ p. Step p.0 p.1) (pair_said replica_number_said (number_below MOST_PLACES) rest) v _ h (λ p e. (rest, refl, pair_parts replica_number_said (number_below MOST_PLACES) rest p e))
said_text keyword.Finish rest v h = event_text Finish (replica_number_said rest) v _ h (λ c p. (rest, refl, p))
said_text keyword.Suspect rest v h = event_text Suspect (replica_number_said rest) v _ h (λ c p. (rest, refl, p))
said_text keyword.Crash rest v h = event_text Crash (replica_said rest) v _ h (λ r p. (rest, refl, replica_named r rest p))
said_text keyword.Restart rest v h = event_text Restart (replica_said rest) v _ h (λ r p. (rest, refl, replica_named r rest p))
said_text keyword.Lose rest v h = event_text Lost (replica_said rest) v _ h (λ r p. (rest, refl, replica_named r rest p))
said_text keyword.FailSave rest v h = event_text FailSave (replica_said rest) v _ h (λ r p. (rest, refl, replica_named r rest p))
said_text keyword.Settle rest v h = plain_text Settle (number_below (MOST_EVENTS + 1) rest) v _ h (λ n p. (rest, refl, p))
said_text keyword.Random rest v h = plain_text (λ p. Random p.0 p.1) (pair_said (number_below (2 ^ 64)) (number_below (MOST_EVENTS + 1)) rest) v _ h (λ p e. (rest, refl, pair_parts (number_below (2 ^ 64)) (number_below (MOST_EVENTS + 1)) rest p e))

is_text : (text : List ℕ) (v : LineView) → line_said text ≡ Some v → IsText v text
is_text text v h =
    let p = bind_some (parted 32 text) (λ (p : List ℕ × List ℕ). keyword_of p.0 >>= λ k. said_by k p.1) v h in
    let k = bind_some (keyword_of p.0.0) (λ (k : Keyword). said_by k p.0.1) v p.2 in
    let text_is : text ≡ keyword_text k.0 ++ 32 ∷ p.0.1 = parted_text 32 text p.0 p.1 ∙ ap (λ (w : List ℕ). w ++ 32 ∷ p.0.1) (keyword_is p.0.0 k.0 k.1) in
    subst (IsText v) (sym text_is) (said_text k.0 p.0.1 v k.2)

something : (v : LineView) (text : List ℕ) → IsText v text → SaysSomething text
something (Feeds c bytes) text h = inl (c, bytes, h)
something (Says line) text h = inr (line, h)

pub says_something : (text : List ℕ) (v : LineView) → line_said text ≡ Some v → SaysSomething text
says_something text v h = something v text (is_text text v h)

pub says_nothing : (text : List ℕ) → line_said text ≡ None → SaysSomething text → ⊥
says_nothing text h (inl feed) = absurd (let e = feed_read feed.0 feed.1 text feed.2 in cc)
says_nothing text h (inr said) = absurd (let e = line_read said.0 text said.1 in cc)

-- a line is known by its view, but for where the bytes of a Feed lie
by_view : (x : ScheduleLine) (v : LineView) (text : List ℕ) → line_view x ≡ v → IsText v text → IsLineText x text
by_view (Happens (Feed d bytes)) v text e h = subst (λ (w : LineView). IsText w text) (sym e) h
by_view x v text e h = subst (λ (w : LineView). IsText w text) (sym e) h

pub line_text : (text : List ℕ) (v : LineView) → line_said text ≡ Some v → (x : ScheduleLine) → line_view x ≡ v → IsLineText x text
line_text text v h x e = by_view x v text e (is_text text v h)
