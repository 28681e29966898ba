-- What it is to show entries to a visitor.
use Rattle.std.specs.Prelude.{List, ◌++◌}

-- these entries were shown to it, after those before
abbrev pub Sees : {W E : Type 0} → (W → List E → Type 0) → List E → W → W → Type 0
Sees {W} {E} seen shown old new = (before : List E) → seen old before → seen new (before ++ shown)
