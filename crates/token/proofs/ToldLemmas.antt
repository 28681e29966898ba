-- A count that stops at a limit, and the told text in parts.
use Rattle.std.proofs.Common.{◌≡◌, ℕ, List, [], ◌∷◌, ◌++◌, length, subst, append_assoc, Result, Ok, Err, OnOk, ◌<◌, inl, inr, sym, ap, ◌∙◌, arith}
use Rattle.std.specs.Prelude.{min, nat_lt, flat_map}
use Rattle.std.specs.Int.{w32}
use Rattle.std.specs.FinMap.{entries}
use Rattle.std.proofs.lemmas.Bool.{cases_lt, lt-ltb, le-ltb}
use Rattle.sessions.specs.declared.sessions.LastReply.{LastReply}
use Rattle.sessions.specs.Fresh.{Replies}
use Rattle.wire.specs.Record.{Puts}
use Rattle.wire.specs.Number.{num}
use Rattle.wire.specs.Field.{list_text}
use Rattle.token.specs.Told.{told_session, told_sessions_text}

-- a count that stops at a limit is above a lower one if the length is
pub above_limit : (limit count most n : ℕ) → limit < most → count ≡ min n most → nat_lt limit count ≡ nat_lt limit n
above_limit limit count most n low h = elim (cases_lt limit n) [
  | inl lt ↦ lt-ltb limit count (omega (arith, h, low, lt)) ∙ sym (lt-ltb limit n lt)
  | inr le ↦ le-ltb limit count (omega (arith, h, le)) ∙ sym (le-ltb limit n le)
]

-- the text of sessions was written: its mark, its count and its sessions
pub told_put : {S E : Type 0} (holds : S → List ℕ → Type 0) (r : Result (Unit {0}) E) (es : List (ℕ × LastReply)) (sessions : Replies) (old marked counted new : S) → es ≡ entries sessions
    → Puts holds (7 ∷ []) old marked → Puts holds (num w32 (length es)) marked counted → OnOk r (Puts holds (flat_map told_session es) counted new) → OnOk r (Puts holds (told_sessions_text sessions) old new)
unfolding told_sessions_text
told_put holds (Ok x) es sessions old marked counted new e mark counts put = λ m h.
    subst (holds new)
    (append_assoc (m ++ 7 ∷ []) (num w32 (length es)) (flat_map told_session es) ∙ append_assoc m (7 ∷ []) (num w32 (length es) ++ flat_map told_session es)
    ∙ ap (λ (xs : List (ℕ × LastReply)). m ++ (7 ∷ list_text told_session xs)) e)
    (put ((m ++ 7 ∷ []) ++ num w32 (length es)) (counts (m ++ 7 ∷ []) (mark m h)))
told_put holds (Err x) es sessions old marked counted new e mark counts put = tt
