-- If the fields of an update are not there, no update is behind its mark.
use Rattle.std.proofs.Common.{◌≡◌, ℕ, List, ◌∷◌, ◌++◌, ℤ, sym, ◌∙◌}
use Rattle.std.specs.Prelude.{nat_eq}
use Rattle.base.specs.declared.fault.Fault.{Fault}
use Rattle.proto.specs.declared.command.StoreVerb.{StoreVerb}
use Rattle.proto.specs.declared.command.Update.{Update}
use Rattle.proto.specs.declared.command.Update.TheVariants.{Store, Cas, Touch, Incr, Decr}
use Rattle.wire.specs.Record.{Always, NoPrefix, Refused}
use Rattle.wire.specs.Command.{verb_mark, update_text}
use Rattle.wire.specs.FrontLaws.{tail_of, Passes, same_numbers}
use Rattle.wire.specs.CommandLaws.{store_row, cas_row, touch_row, count_row, kind_of, kind_behind, verb_kind, kind-7, kind-9, kind-10, kind-11}
use Rattle.wire.proofs.Values.{Refused-weaker}

abbrev StoreFits : ((List ℕ × ℕ) × ℤ) × List ℕ → Type 0
StoreFits p = ((Unit {0} × Unit {0}) × Unit {0}) × Unit {0}

abbrev CasFits : (((List ℕ × ℕ) × ℤ) × List ℕ) × ℕ → Type 0
CasFits p = StoreFits p.0 × Unit {0}

abbrev Both : {X Y : Type 0} → X × Y → Type 0
Both p = Unit {0} × Unit {0}

store_here : (verb : StoreVerb) (bytes : List ℕ) → NoPrefix StoreFits store_row bytes → (u : Update) (rest : List ℕ) → Passes (nat_eq (kind_of u) 6) → Always u
    → verb_mark verb ∷ bytes ≡ update_text u ++ rest → ⊥
store_here verb bytes none (Store verb' key flags exptime block) rest h f e =
    none.none (((key, flags), exptime), block) rest (((tt, tt), tt), f) (tail_of (verb_mark verb) (verb_mark verb') _ _ e)
store_here verb bytes none _ rest h f e = absurd h

pub no_store : (verb : StoreVerb) (bytes : List ℕ) (e : Fault) → Refused e (NoPrefix StoreFits store_row bytes) → Refused e (NoPrefix Always update_text (verb_mark verb ∷ bytes))
no_store verb bytes e = Refused-weaker e (λ (none : NoPrefix StoreFits store_row bytes). record {
  none = λ u rest f here. store_here verb bytes none u rest (same_numbers (kind_of u) 6 (sym (kind_behind (verb_mark verb) bytes u rest here) ∙ verb_kind verb)) f here;
})

cas_here : (bytes : List ℕ) → NoPrefix CasFits cas_row bytes → (u : Update) (rest : List ℕ) → Passes (nat_eq (kind_of u) 7) → Always u → 7 ∷ bytes ≡ update_text u ++ rest → ⊥
cas_here bytes none (Cas key flags exptime block unique) rest h f e =
    none.none ((((key, flags), exptime), block), unique) rest ((((tt, tt), tt), f), tt) (tail_of 7 7 _ _ e)
cas_here bytes none _ rest h f e = absurd h

pub no_cas : (bytes : List ℕ) (e : Fault) → Refused e (NoPrefix CasFits cas_row bytes) → Refused e (NoPrefix Always update_text (7 ∷ bytes))
no_cas bytes e = Refused-weaker e (λ (none : NoPrefix CasFits cas_row bytes). record {
  none = λ u rest f here. cas_here bytes none u rest (same_numbers (kind_of u) 7 (sym (kind_behind 7 bytes u rest here) ∙ kind-7)) f here;
})

touch_here : (bytes : List ℕ) → NoPrefix Both touch_row bytes → (u : Update) (rest : List ℕ) → Passes (nat_eq (kind_of u) 9) → Always u → 9 ∷ bytes ≡ update_text u ++ rest → ⊥
touch_here bytes none (Touch key exptime) rest h f e = none.none (key, exptime) rest (tt, tt) (tail_of 9 9 _ _ e)
touch_here bytes none _ rest h f e = absurd h

pub no_touch : (bytes : List ℕ) (e : Fault) → Refused e (NoPrefix Both touch_row bytes) → Refused e (NoPrefix Always update_text (9 ∷ bytes))
no_touch bytes e = Refused-weaker e (λ (none : NoPrefix Both touch_row bytes). record {
  none = λ u rest f here. touch_here bytes none u rest (same_numbers (kind_of u) 9 (sym (kind_behind 9 bytes u rest here) ∙ kind-9)) f here;
})

incr_here : (bytes : List ℕ) → NoPrefix Both count_row bytes → (u : Update) (rest : List ℕ) → Passes (nat_eq (kind_of u) 10) → Always u → 10 ∷ bytes ≡ update_text u ++ rest → ⊥
incr_here bytes none (Incr key delta) rest h f e = none.none (key, delta) rest (tt, tt) (tail_of 10 10 _ _ e)
incr_here bytes none _ rest h f e = absurd h

pub no_incr : (bytes : List ℕ) (e : Fault) → Refused e (NoPrefix Both count_row bytes) → Refused e (NoPrefix Always update_text (10 ∷ bytes))
no_incr bytes e = Refused-weaker e (λ (none : NoPrefix Both count_row bytes). record {
  none = λ u rest f here. incr_here bytes none u rest (same_numbers (kind_of u) 10 (sym (kind_behind 10 bytes u rest here) ∙ kind-10)) f here;
})

decr_here : (bytes : List ℕ) → NoPrefix Both count_row bytes → (u : Update) (rest : List ℕ) → Passes (nat_eq (kind_of u) 11) → Always u → 11 ∷ bytes ≡ update_text u ++ rest → ⊥
decr_here bytes none (Decr key delta) rest h f e = none.none (key, delta) rest (tt, tt) (tail_of 11 11 _ _ e)
decr_here bytes none _ rest h f e = absurd h

pub no_decr : (bytes : List ℕ) (e : Fault) → Refused e (NoPrefix Both count_row bytes) → Refused e (NoPrefix Always update_text (11 ∷ bytes))
no_decr bytes e = Refused-weaker e (λ (none : NoPrefix Both count_row bytes). record {
  none = λ u rest f here. decr_here bytes none u rest (same_numbers (kind_of u) 11 (sym (kind_behind 11 bytes u rest here) ∙ kind-11)) f here;
})
