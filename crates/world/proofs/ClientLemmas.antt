-- What an input to a client leads to, by what its `handle` says.
use Rattle.std.proofs.Common.{◌≡◌, ℕ, Bool, true, false, List, [], ◌++◌, Result, Ok, Err, refl, sym, ap, ◌∙◌, subst, inl, inr}
use Rattle.std.specs.Prelude.{◌↔◌, ◌&&◌, IsTrue, IsOk, not}
use Rattle.base.specs.declared.fault.Fault.{Fault}
use Rattle.base.specs.declared.fault.Fault.TheVariants.{Stopped}
use Rattle.decrees.specs.declared.node.Letter.{Letter}
use Rattle.exec_lines.specs.declared.body.Body.{Body}
use Rattle.client.specs.declared.input.Input.{Input}
use Rattle.client.specs.declared.input.Input.TheVariants.{Feed, Reply, Again, Hangup}
use Rattle.client.specs.Client.{ClientView}
use Rattle.client.specs.Step.{IsClientStep, fits_talk}
use Rattle.client.specs.Laws.{is_hangup}
use Rattle.worlds.specs.Clients.{ClientSlot, ClientSettlesWhere, ClientSettles}

was_up : {T : Type 0} (r : Result T Fault) (x : T) (up : Bool) → r ≡ Ok x → (IsTrue (not up) → r ≡ Err Stopped) → IsTrue up
was_up {T} r x true is before = refl
was_up {T} r x false is before =
    let both : ◌≡◌ {A = Result T Fault} (Ok x) (Err Stopped) = sym is ∙ before refl in
    absurd (cc both)

abbrev at : ClientView → List ℕ → ClientSlot
at c given = record { client = c; given = given }

pub client_does : {T : Type 0} (old new : ClientView) (given bytes : List ℕ) (letters : List (Letter Body)) (x : Input) (r : Result T Fault) (y : T) → r ≡ Ok y
    → (IsTrue (not old.up) → r ≡ Err Stopped) → IsTrue new.up → (new.client ≡ old.client) × (new.u ≡ old.u)
    → IsClientStep old.u old.client old.talk x (record { talk = new.talk; letters = letters; bytes = bytes })
    → ClientSettles (record { client = old; given = given }) x (record { client = new; given = given ++ bytes }) letters
client_does {T} old new given bytes letters x r y is before up same step =
    let was : IsTrue old.up = was_up r y old.up is before in
    subst (λ (b : Bool). ClientSettlesWhere b (at old given) x (at new (given ++ bytes)) letters) (sym was) (inl (
      record { talk = new.talk; letters = letters; bytes = bytes },
      step,
      (λ i. record { client = record { client = same.0 i; u = same.1 i; talk = new.talk; up = (up ∙ sym was) i }; given = given ++ bytes }),
      refl,
    ))

stop_fits : (fits : Bool) (x : Input) → (IsTrue (not fits) → ⊥) → (x ≡ Hangup → ⊥) → IsTrue (fits && not (is_hangup x))
stop_fits true (Feed piece) unfit hangs = refl
stop_fits true (Reply number reply) unfit hangs = refl
stop_fits true Again unfit hangs = refl
stop_fits true Hangup unfit hangs = absurd (hangs refl)
stop_fits false x unfit hangs = absurd (unfit refl)

is_false : (b : Bool) → (IsTrue b → ⊥) → b ≡ false
is_false true h = absurd (h refl)
is_false false h = refl

settles_where : {T : Type 0} (b : Bool) (old new : ClientView) (given : List ℕ) (x : Input) (r : Result T Fault) (e : Fault) → old.up ≡ b → r ≡ Err e
    → (IsTrue old.up → IsTrue (not (fits_talk old.talk x)) → IsOk r) → (IsTrue old.up → x ≡ Hangup → IsOk r)
    → (IsTrue new.up ↔ IsOk r) → (new.client ≡ old.client) × (new.u ≡ old.u) → (IsTrue (not old.up) → new ≡ old)
    → ClientSettlesWhere b (at old given) x (at new given) []
settles_where {T} false old new given x r e is failed unfit hangs ends same before =
    (ap (λ (c : ClientView). at c given) (before (ap not is)), refl)
settles_where {T} true old new given x r e is failed unfit hangs ends same before =
    let no : IsOk r → ⊥ = λ ok. cc (subst (λ (y : Result T Fault). IsOk y) failed ok) in
    let down : new.up ≡ false = is_false new.up (λ up. no (ends.0 up)) in
    inr (
      stop_fits (fits_talk old.talk x) x (λ h. no (unfit is h)) (λ h. no (hangs is h)),
      (new.talk, (λ i. record { client = record { client = same.0 i; u = same.1 i; talk = new.talk; up = down i }; given = given }), refl),
    )

-- it was stopped before, or stops now
pub client_stops : {T : Type 0} (old new : ClientView) (given : List ℕ) (x : Input) (r : Result T Fault) (e : Fault) → r ≡ Err e
    → (IsTrue old.up → IsTrue (not (fits_talk old.talk x)) → IsOk r) → (IsTrue old.up → x ≡ Hangup → IsOk r)
    → (IsTrue new.up ↔ IsOk r) → (new.client ≡ old.client) × (new.u ≡ old.u) → (IsTrue (not old.up) → new ≡ old)
    → ClientSettles (record { client = old; given = given }) x (record { client = new; given = given }) []
client_stops {T} old new given x r e failed unfit hangs ends same before = settles_where old.up old new given x r e refl failed unfit hangs ends same before
