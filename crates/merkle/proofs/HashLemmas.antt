-- The digest of a fork, of what its sides have.
use Rattle.std.proofs.Common.{◌≡◌, ℕ, Bool, true, false, List, refl, sym, ◌∙◌}
use Rattle.sha2.specs.Sha256.{sha256}
use Rattle.merkle.specs.Shape.{Shape, fork, fork_text, is_none, joined, trimmed, hash_of, digest_of}

hash_joined : {K V : Type 0} (text : K → V → List ℕ) (p q : Bool) (l r : Shape K V) → hash_of text (joined p q l r (fork l r)) ≡ joined p q (hash_of text l) (hash_of text r) (sha256 (fork_text (hash_of text l) (hash_of text r)))
hash_joined text true q l r = refl
hash_joined text false true l r = refl
hash_joined text false false l r = refl

pub both_digests : {K V : Type 0} (text : K → V → List ℕ) (l r : Shape K V) (p q : Bool) (a b d : List ℕ) → p ≡ is_none l → q ≡ is_none r → a ≡ digest_of text l → b ≡ digest_of text r
    → d ≡ joined p q a b (sha256 (fork_text a b)) → d ≡ digest_of text (fork l r)
unfolding digest_of
both_digests text l r p q a b d is_p is_q is_a is_b e =
    e ∙ (λ i. joined (is_p i) (is_q i) (is_a i) (is_b i) (sha256 (fork_text (is_a i) (is_b i)))) ∙ sym (hash_joined text (is_none l) (is_none r) (trimmed l) (trimmed r))
