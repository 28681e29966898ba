-- What stays if a fork is cloned, and what two bits say of each other.
use Rattle.std.proofs.Common.{◌≡◌, ℕ, Bool, true, false, List, Result, Err, OnErr, refl, sym, ap, ◌∙◌, subst, ◌⊎◌, inl, inr}
use Rattle.std.specs.Prelude.{IfSome, Option}
use mathlib.Core.Bool.{beq}
use Rattle.merkle.specs.declared.fork.Fork.{Fork as ForkOf}
use Rattle.merkle.specs.Shape.{Shape, fork, digest_of, least}
use Rattle.merkle.specs.Tree.{shape, fork_shape, IsForkCached, IsSameFork}

pub alike : (a b : Bool) → beq a b ≡ true → b ≡ a
alike true true e = refl
alike false false e = refl
alike true false e = cc
alike false true e = cc

pub second_true : (a b : Bool) → beq a b ≡ false → a ≡ false → b ≡ true
second_true true b e h = cc
second_true false true e h = refl
second_true false false e h = cc

pub second_false : (a b : Bool) → beq a b ≡ false → a ≡ true → b ≡ false
second_false false b e h = cc
second_false true false e h = refl
second_false true true e h = cc

-- a fork that is another's value, or a clone of it
abbrev pub IsOf : {K V : Type 0} → ForkOf K V → ForkOf K V → Type 0
IsOf a b = (b ≡ a) ⊎ IsSameFork a b

pub same_shape : {K V : Type 0} (a b : ForkOf K V) → IsOf a b → fork_shape b ≡ fork_shape a
same_shape a b (inl e) = ap fork_shape e
same_shape a b (inr s) = λ i. fork (s.left.0 i) (s.right.0 i)

pub same_cached : {K V : Type 0} (hash : K → List ℕ) (text : K → V → List ℕ) (due : V → Option ℕ) (a b : ForkOf K V) → IsOf a b → IsForkCached hash text due a → IsForkCached hash text due b
same_cached hash text due a b (inl e) k = subst (IsForkCached hash text due) (sym e) k
same_cached {K} {V} hash text due a b (inr s) k =
    let one : IfSome a.digest (λ digest. digest ≡ digest_of text (fork_shape b)) = subst (λ (f : Shape K V). IfSome a.digest (λ digest. digest ≡ digest_of text f)) (sym (same_shape a b (inr s))) k.0 in
    let left : b.left_due ≡ least due (shape b.left) = s.left_due ∙ k.1 ∙ ap (least due) (sym s.left.0) in
    let right : b.right_due ≡ least due (shape b.right) = s.right_due ∙ k.2 ∙ ap (least due) (sym s.right.0) in
    (subst (λ o. IfSome o (λ digest. digest ≡ digest_of text (fork_shape b))) (sym s.digest) one, left, right, s.left.1 hash text due k.3, s.right.1 hash text due k.4)

-- what holds at an error holds if there is one
pub of_err : {T E P : Type 0} (r : Result T E) (e : E) → r ≡ Err e → OnErr r P → P
of_err {P = P} r e is h = subst (λ x. OnErr x P) is h
