-- States that were met, by any node at any time.
use Rattle.std.specs.Prelude.{◌≡◌, ◌⊎◌, ◌<◌, List, Contains}
use Rattle.states.specs.State.{StateView, initial_state, with_token}
use Rattle.wire.specs.Distinct.{Distinct}
use Rattle.run_laws.specs.Texts.{IsTextOf}

-- each of these is one of those
abbrev pub AreAmong : {X : Type 0} → List X → List X → Type 0
AreAmong {X} these those = (x : X) → Contains these x → Contains those x

-- each of these is such a one
abbrev pub AreAll : {X : Type 0} → List X → (X → Type 0) → Type 0
AreAll {X} these such = (x : X) → Contains these x → such x

-- the state is the first one, or was met
abbrev pub IsKnown : (StateView → Type 0) → StateView → Type 0
IsKnown met s = (s ≡ initial_state) ⊎ met s

-- only the first state has number 0, and each other has the token of its parts
pub record IsTold (s : StateView) : Type 0 where
  pub first : s.number ≡ 0 → s ≡ initial_state
  pub token : 0 < s.number → s ≡ with_token s

-- Digests tell these states apart: each has the token of its parts, and their texts have distinct digests.
pub record ToldApart (met : StateView → Type 0) : Type 0 where
  pub states : (s : StateView) → met s → IsTold s
  pub distinct : Distinct (IsTextOf met)
