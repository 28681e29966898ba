-- What it is to write a record and to read one.
use Rattle.std.specs.Prelude.{◌≡◌, ℕ, List, ◌∷◌, ◌++◌, Result, Ok, Err}
use Rattle.std.specs.Borrow.{Bor}
use Rattle.base.specs.declared.fault.Fault.{Fault}
use Rattle.base.specs.declared.fault.Fault.TheVariants.{NoMemory, BadRecord}

-- a text was added to what a sink holds
abbrev pub Puts : {S : Type 0} → (S → List ℕ → Type 0) → List ℕ → S → S → Type 0
Puts holds text old new = (m : List ℕ) → holds old m → holds new (m ++ text)

-- a value whose type keeps all its limits
abbrev pub Always : {X : Type 0} → X → Type 0
Always x = Unit {0}

-- no encoding is a prefix of another value's
pub record IsPrefixFree {X : Type 0} (encoding : X → List ℕ) : Type 0 where
  pub apart : (v w : X) (r s : List ℕ) → encoding v ++ r ≡ encoding w ++ s → (v ≡ w) × (r ≡ s)

-- values that are encoded alike are one value, whatever values they are
abbrev pub OneValue : {X : Type 0} → (X → List ℕ) → Type 0
OneValue {X} encoding = (v w : X) → encoding v ≡ encoding w → v ≡ w

-- the bytes do not begin with this mark
abbrev pub NoMark : ℕ → List ℕ → Type 0
NoMark mark bytes = (rest : List ℕ) → bytes ≡ mark ∷ rest → ⊥

-- the bytes do not begin with the encoding of a value that fits
pub record NoPrefix {X : Type 0} (fits : X → Type 0) (encoding : X → List ℕ) (bytes : List ℕ) : Type 0 where
  pub none : (v : X) (rest : List ℕ) → fits v → bytes ≡ encoding v ++ rest → ⊥

-- a reader fails by a failed allocation, or else for this cause alone
abbrev pub Refused : Fault → Type 0 → Type 0
Refused NoMemory cause = Unit {0}
Refused BadRecord cause = cause
Refused _ cause = ⊥

-- the value at the start of the bytes, and the bytes after it
abbrev pub Takes : {X : Type 0} → (X → Type 0) → (X → List ℕ) → List ℕ → Result (X × Bor (List ℕ)) Fault → Type 0
Takes fits encoding bytes (Ok r) = fits r.0 × (bytes ≡ encoding r.0 ++ r.1.now)
Takes fits encoding bytes (Err e) = Refused e (NoPrefix fits encoding bytes)

-- the value that all of the bytes encode
abbrev pub Reads : {X : Type 0} → (X → Type 0) → (X → List ℕ) → List ℕ → Result X Fault → Type 0
Reads fits encoding bytes (Ok v) = fits v × (bytes ≡ encoding v)
Reads {X} fits encoding bytes (Err e) = Refused e ((v : X) → fits v → bytes ≡ encoding v → ⊥)
