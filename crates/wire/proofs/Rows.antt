-- If a row of fields is not there, nothing is that is made of it.
use Rattle.std.proofs.Common.{◌≡◌, ℕ, List, ◌∷◌, ◌++◌, sym, ◌∙◌, ap, subst, Option, Some, None}
use Rattle.std.specs.Prelude.{IfSome}
use Rattle.base.specs.declared.fault.Fault.{Fault}
use Rattle.wire.specs.Record.{IsPrefixFree, NoPrefix, Refused, Always}
use Rattle.wire.specs.FrontLaws.{tail_of}
use Rattle.wire.proofs.Values.{Refused-weaker}

-- what each value fits, the value of an option does
pub some_fits : {X : Type 0} {fits : X → Type 0} → ((x : X) → fits x) → (o : Option X) → IfSome o fits
some_fits all None = tt
some_fits all (Some x) = all x

-- no row, so no value that is made of it
pub no_row : {X Y : Type 0} (fits : Y → Type 0) (text : Y → List ℕ) (of : X → Type 0) (row : X → List ℕ) (to : Y → X) (bytes : List ℕ)
    → ((y : Y) → fits y → of (to y)) → ((y : Y) → text y ≡ row (to y)) → (e : Fault) → Refused e (NoPrefix of row bytes) → Refused e (NoPrefix fits text bytes)
no_row fits text of row to bytes fit same e = Refused-weaker e (λ (none : NoPrefix of row bytes). record {
  none = λ v rest f here. none.none (to v) rest (fit v f) (here ∙ ap (λ (t : List ℕ). t ++ rest) (same v));
})

-- the same behind a mark
pub no_marked_row : {X Y : Type 0} (fits : Y → Type 0) (text : Y → List ℕ) (of : X → Type 0) (row : X → List ℕ) (to : Y → X) (mark : ℕ) (bytes after : List ℕ)
    → bytes ≡ mark ∷ after → ((y : Y) → fits y → of (to y)) → ((y : Y) → text y ≡ mark ∷ row (to y)) → (e : Fault)
    → Refused e (NoPrefix of row after) → Refused e (NoPrefix fits text bytes)
no_marked_row fits text of row to mark bytes after begin fit same e = Refused-weaker e (λ (none : NoPrefix of row after). record {
  none = λ v rest f here.
      let whole : mark ∷ after ≡ mark ∷ (row (to v) ++ rest) = sym begin ∙ (here ∙ ap (λ (t : List ℕ). t ++ rest) (same v)) in
      none.none (to v) rest (fit v f) (tail_of mark mark after (row (to v) ++ rest) whole);
})

-- what was read does not fit, and nothing else is there
pub unfit : {Y : Type 0} (fits : Y → Type 0) {text : Y → List ℕ} → IsPrefixFree text → (bytes : List ℕ) (y : Y) (rest : List ℕ) → bytes ≡ text y ++ rest → (fits y → ⊥) → NoPrefix fits text bytes
unfit fits {text} free bytes y rest e wrong = record {
  none = λ v after f here.
      let both = free.apart y v rest after (sym e ∙ here) in
      wrong (subst fits (sym both.0) f);
}

-- the row that was read is no value's, and nothing else is there
pub no_value : {X Y : Type 0} {row : X → List ℕ} → IsPrefixFree row → (text : Y → List ℕ) (to : Y → X) → ((y : Y) → text y ≡ row (to y)) → (bytes : List ℕ) (x : X) (rest : List ℕ) → bytes ≡ row x ++ rest
    → ((y : Y) → to y ≡ x → ⊥) → NoPrefix Always text bytes
no_value {row = row} free text to same bytes x rest e wrong = record {
  none = λ v after f here.
      let both = free.apart x (to v) rest after (sym e ∙ (here ∙ ap (λ (t : List ℕ). t ++ after) (same v))) in
      wrong v (sym both.0);
}
