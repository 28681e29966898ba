-- The texts that digests of states are made from.
use Rattle.std.specs.Prelude.{ℕ, List, ◌∷◌, ◌++◌}
use Rattle.std.specs.Int.{w32, w64}
use Rattle.wire.specs.declared.token.InnerText.{InnerText}
use Rattle.wire.specs.declared.token.TokenText.{TokenText}
use Rattle.wire.specs.Number.{num, fixed}

unfoldable pub inner_text : InnerText → List ℕ
inner_text t = 1 ∷ (fixed 32 t.left ++ fixed 32 t.right)

unfoldable pub token_text : TokenText → List ℕ
token_text t = 2 ∷ (fixed 32 t.previous ++ num w64 t.n ++ num w64 t.epoch ++ num w32 t.moment ++ fixed 32 t.batch ++ fixed 32 t.root ++ fixed 32 t.sessions)
