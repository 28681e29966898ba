-- Texts that begin with a mark of the kind of value.
use Rattle.std.proofs.Common.{◌≡◌, ℕ, List, ◌∷◌, ◌++◌, sym, ◌∙◌, ap}
use Rattle.std.specs.Prelude.{nat_eq}
use Rattle.base.specs.declared.fault.Fault.{Fault}
use Rattle.wire.specs.Record.{IsPrefixFree, NoPrefix, Refused}
use Rattle.wire.specs.FrontLaws.{head_of, Passes, same_numbers}
use Rattle.wire.proofs.Values.{Refused-weaker}

module _ {Y : Type 0} (text : Y → List ℕ) (mark_of : Y → ℕ) (begins : (y : Y) (rest : List ℕ) → head_of (text y ++ rest) ≡ mark_of y) where
  -- a value behind this mark is of its kind
  has_mark : (mark : ℕ) (bytes : List ℕ) (y : Y) (rest : List ℕ) → mark ∷ bytes ≡ text y ++ rest → Passes (nat_eq (mark_of y) mark)
  has_mark mark bytes y rest here = same_numbers (mark_of y) mark (sym (begins y rest) ∙ sym (ap head_of here))

  -- the fields of its kind are not there, so no value is behind this mark
  pub none_behind : {X : Type 0} (fits : Y → Type 0) (of : X → Type 0) (row : X → List ℕ) (mark : ℕ) (bytes : List ℕ)
      → ((y : Y) (rest : List ℕ) → fits y → Passes (nat_eq (mark_of y) mark) → mark ∷ bytes ≡ text y ++ rest → NoPrefix of row bytes → ⊥)
      → (e : Fault) → Refused e (NoPrefix of row bytes) → Refused e (NoPrefix fits text (mark ∷ bytes))
  none_behind fits of row mark bytes not_of_kind e = Refused-weaker e (λ (none : NoPrefix of row bytes). record {
    none = λ y rest f here. not_of_kind y rest f (has_mark mark bytes y rest here) here none;
  })

  -- values of one kind are told apart, so all are
  pub marks_apart : ((v w : Y) (r s : List ℕ) → Passes (nat_eq (mark_of v) (mark_of w)) → text v ++ r ≡ text w ++ s → (v ≡ w) × (r ≡ s)) → IsPrefixFree text
  marks_apart of_kind = record {
    apart = λ v w r s e. of_kind v w r s (same_numbers (mark_of v) (mark_of w) (sym (begins v r) ∙ (ap head_of e ∙ begins w s))) e;
  }
