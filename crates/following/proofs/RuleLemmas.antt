-- What the tables leave no choice of.
use Rattle.std.proofs.Common.{◌≡◌, ◌≢◌, ◌⊎◌, inl, inr, ℕ, ◌+◌, ◌<◌, ◌≤◌, Bool, true, false, List, [], ◌∷◌, length, Option, None, Some, refl, sym, ap, ◌∙◌, subst, arith}
use Rattle.std.specs.Prelude.{◌&&◌, ◌==◌, not, IsSomeAnd, ⊤, nat_lt, slice_get, get_or, if◌then◌else◌}
use Rattle.std.specs.List.{position}
use Rattle.std.specs.Option.{option_map}
use Rattle.std.proofs.lemmas.Bool.{and_parts, not-true, eqb-true, eqb-false, ltb-true, ltb-false}
use Rattle.std.proofs.lemmas.List.{get_or_default}
use Rattle.std.proofs.lemmas.List.Quantifiers.{position-Some}
use Rattle.std.proofs.lemmas.Option.{slice_get_read}
use Rattle.following.specs.declared.action.Action.{Action}
use Rattle.following.specs.declared.action.Action.TheVariants.{HandInOrder, HandInDecree, HandInParcel, DropParcel, Ask, Need, Wait}
use Rattle.following.specs.declared.letter.HeldLetter.{HeldLetter}
use Rattle.following.specs.declared.letter.HeldLetter.TheVariants.{Order, Commit, Rollback, Parcel}
use Rattle.following.specs.declared.report.ExecutorReport.{ExecutorReport}
use Rattle.following.specs.declared.following.Following.{Following}
use Rattle.following.specs.Letters.{is_fetching, has_room_for_batch, next_decree_place, decree_place, is_next_decree, is_later_decree, is_due_decree, fits_chain, is_next_order, is_any_parcel, is_parcel_of, is_parcel_below}
use Rattle.following.specs.Rules.{is_held, with_held, row_if, is_asked_already, is_silent, is_overdue, peer_after, next_peer, fetching_rules, following_rules, rules_of, first_of, next_action, IsHeldAt, IsOther, NoneApplies}

-- ---- what is at the index that a look-up gives

is_at : (test : HeldLetter → Bool) (held : List HeldLetter) (i : ℕ) → position test held ≡ Some i → IsHeldAt held i (λ l. test l ≡ true)
is_at test held i e =
    let x : HeldLetter = get_or held i (Parcel 0) in
    let found = position-Some test held i x e in
    let same : get_or held i x ≡ x = get_or_default held i x (Parcel 0) found.0 in
    let got : slice_get held i ≡ Some x = slice_get_read held (length held) i x refl found.0 (sym same) in
    subst (λ (o : Option HeldLetter). IsSomeAnd o (λ l. test l ≡ true)) (sym got) (sym (ap test same) ∙ found.1)

some_as : (o : Option HeldLetter) (P Q : HeldLetter → Type 0) → ((l : HeldLetter) → P l → Q l) → IsSomeAnd o P → IsSomeAnd o Q
some_as None P Q as_is p = p
some_as (Some l) P Q as_is p = as_is l p

decree_is : (r : ExecutorReport) (l : HeldLetter) → is_next_decree r l ≡ true → decree_place l ≡ r.known + 1
decree_is r l e = eqb-true (decree_place l) (r.known + 1) e

due_is : (r : ExecutorReport) (l : HeldLetter) → is_due_decree r l ≡ true → decree_place l ≡ r.known + 1
due_is r l e = decree_is r l (and_parts (is_next_decree r l) (fits_chain r l) e).0

order_is : (r : ExecutorReport) (l : HeldLetter) → is_next_order r l ≡ true → l ≡ Order r.epoch ((r.number + r.chain) + 1)
order_is r (Order epoch number) e =
    let both = and_parts (epoch == r.epoch) (number == ((r.number + r.chain) + 1)) e in
    let same_epoch : epoch ≡ r.epoch = eqb-true epoch r.epoch both.0 in
    let same_number : number ≡ (r.number + r.chain) + 1 = eqb-true number ((r.number + r.chain) + 1) both.1 in
    cc
order_is r (Commit place number) e = absurd (cc e)
order_is r (Rollback place) e = absurd (cc e)
order_is r (Parcel number) e = absurd (cc e)

parcel_is : (standing : ℕ) (l : HeldLetter) → is_parcel_of standing l ≡ true → l ≡ Parcel standing
parcel_is standing (Order epoch number) e = absurd (cc e)
parcel_is standing (Commit place number) e = absurd (cc e)
parcel_is standing (Rollback place) e = absurd (cc e)
parcel_is standing (Parcel number) e = ap Parcel (eqb-true number standing e)

-- ---- rows

-- what an answer of a rule has to be; waiting is none
abbrev Suits : Following → ExecutorReport → List HeldLetter → Action → Type 0
Suits f r held (HandInOrder i) = IsHeldAt held i (λ l. l ≡ Order r.epoch ((r.number + r.chain) + 1)) × (has_room_for_batch r ≡ true)
Suits f r held (HandInDecree i) = IsHeldAt held i (λ l. decree_place l ≡ r.known + 1)
Suits f r held (HandInParcel i) = IsHeldAt held i (λ l. l ≡ Parcel r.standing)
Suits f r held (DropParcel i) = IsHeldAt held i (λ l. is_parcel_below r.standing l ≡ true)
Suits f r held (Ask place) = (place ≡ next_decree_place r) × (is_asked_already f r ≡ false)
Suits f r held (Need peer) = (is_silent f ≡ true) × IsOther f peer
Suits f r held Wait = ⊥

abbrev RowSuits : (Action → Type 0) → Option Action → Type 0
RowSuits P None = ⊤
RowSuits P (Some action) = P action

abbrev RowsSuit : (Action → Type 0) → List (Option Action) → Type 0
RowsSuit P [] = ⊤
RowsSuit P (row ∷ rows) = RowSuits P row × RowsSuit P rows

held_suits : (P : Action → Type 0) (action : ℕ → Action) (test : HeldLetter → Bool) (held : List HeldLetter) → ((i : ℕ) → IsHeldAt held i (λ l. test l ≡ true) → P (action i)) → RowSuits P (with_held action test held)
held_suits P action test held each = by (position test held) refl
  where
    by : (o : Option ℕ) → position test held ≡ o → RowSuits P (option_map action (position test held))
    by None e = subst (λ (o : Option ℕ). RowSuits P (option_map action o)) (sym e) tt
    by (Some i) e = subst (λ (o : Option ℕ). RowSuits P (option_map action o)) (sym e) (each i (is_at test held i e))

if_suits : (P : Action → Type 0) (b : Bool) (row : Option Action) → (b ≡ true → RowSuits P row) → RowSuits P (row_if b row)
if_suits P true row h = h refl
if_suits P false row h = tt

first_is : (P : Action → Type 0) (rows : List (Option Action)) → RowsSuit P rows → (action : Action) → first_of rows ≡ action → P action ⊎ ((action ≡ Wait) × NoneApplies rows)
first_is P [] suit action e = inr (sym e, tt)
first_is P (None ∷ rows) suit action e = by (first_is P rows suit.1 action e)
  where
    by : P action ⊎ ((action ≡ Wait) × NoneApplies rows) → P action ⊎ ((action ≡ Wait) × NoneApplies (None ∷ rows))
    by (inl p) = inl p
    by (inr q) = inr (q.0, (refl, q.1))
first_is P (Some one ∷ rows) suit action e = inl (subst P e suit.0)

-- ---- the rules

-- no executor is asked that asks
other_after : (f : Following) → 0 < f.last → IsOther f (next_peer f)
other_after f many = by (peer_after f f.peer == f.id) refl
  where
    within : (peer : ℕ) (b : Bool) → nat_lt peer f.last ≡ b → (if b then peer + 1 else 0) ≤ f.last
    within peer true e = let below = ltb-true peer f.last e in omega (arith, below)
    within peer false e = omega arith

    moves : (b : Bool) → nat_lt f.id f.last ≡ b → (if b then f.id + 1 else 0) ≢ f.id
    moves true e = λ same. omega (arith, same)
    moves false e = λ same. (let most = ltb-false f.id f.last e in omega (arith, most, many, same))

    by : (b : Bool) → (peer_after f f.peer == f.id) ≡ b → IsOther f (if b then peer_after f f.id else peer_after f f.peer)
    by true e = (moves (nat_lt f.id f.last) refl, within f.id (nat_lt f.id f.last) refl)
    by false e = (eqb-false (peer_after f f.peer) f.id e, within f.peer (nat_lt f.peer f.last) refl)

module _ (f : Following) (r : ExecutorReport) (held : List HeldLetter) where
  decree_suits : (i : ℕ) → IsHeldAt held i (λ l. is_next_decree r l ≡ true) → Suits f r held (HandInDecree i)
  decree_suits i at = some_as (slice_get held i) (λ l. is_next_decree r l ≡ true) (λ l. decree_place l ≡ r.known + 1) (decree_is r) at

  due_suits : (i : ℕ) → IsHeldAt held i (λ l. is_due_decree r l ≡ true) → Suits f r held (HandInDecree i)
  due_suits i at = some_as (slice_get held i) (λ l. is_due_decree r l ≡ true) (λ l. decree_place l ≡ r.known + 1) (due_is r) at

  order_suits : has_room_for_batch r ≡ true → (i : ℕ) → IsHeldAt held i (λ l. is_next_order r l ≡ true) → Suits f r held (HandInOrder i)
  order_suits room i at = (some_as (slice_get held i) (λ l. is_next_order r l ≡ true) (λ l. l ≡ Order r.epoch ((r.number + r.chain) + 1)) (order_is r) at, room)

  parcel_suits : (i : ℕ) → IsHeldAt held i (λ l. is_parcel_of r.standing l ≡ true) → Suits f r held (HandInParcel i)
  parcel_suits i at = some_as (slice_get held i) (λ l. is_parcel_of r.standing l ≡ true) (λ l. l ≡ Parcel r.standing) (parcel_is r.standing) at

  ask_suits : not (is_asked_already f r) ≡ true → Suits f r held (Ask (next_decree_place r))
  ask_suits e = (refl, not-true (is_asked_already f r) e)

  need_suits : (is_silent f && nat_lt 0 f.last) ≡ true → Suits f r held (Need (next_peer f))
  need_suits e =
      let both = and_parts (is_silent f) (nat_lt 0 f.last) e in
      (both.0, other_after f (ltb-true 0 f.last both.1))

  fetching_suit : RowsSuit (Suits f r held) (fetching_rules f r held)
  fetching_suit = (
    held_suits (Suits f r held) HandInParcel (is_parcel_of r.standing) held parcel_suits,
    (
      held_suits (Suits f r held) DropParcel (is_parcel_below r.standing) held (λ i at. at),
      (
        if_suits (Suits f r held) (is_held is_any_parcel held) (with_held HandInDecree (is_next_decree r) held) (λ _. held_suits (Suits f r held) HandInDecree (is_next_decree r) held decree_suits),
        (
          if_suits (Suits f r held) (is_held is_any_parcel held && not (is_asked_already f r)) (Some (Ask (next_decree_place r))) (λ e. ask_suits (and_parts (is_held is_any_parcel held) (not (is_asked_already f r)) e).1),
          (
            if_suits (Suits f r held) (not (is_held is_any_parcel held) && (is_silent f && nat_lt 0 f.last)) (Some (Need (next_peer f))) (λ e. need_suits (and_parts (not (is_held is_any_parcel held)) (is_silent f && nat_lt 0 f.last) e).1),
            tt,
          ),
        ),
      ),
    ),
  )

  following_suit : RowsSuit (Suits f r held) (following_rules f r held)
  following_suit = (
    held_suits (Suits f r held) HandInDecree (is_due_decree r) held due_suits,
    (
      if_suits (Suits f r held) (has_room_for_batch r) (with_held HandInOrder (is_next_order r) held) (λ room. held_suits (Suits f r held) HandInOrder (is_next_order r) held (order_suits room)),
      (
        if_suits (Suits f r held) (is_held (is_later_decree r) held && (not (is_held (is_next_decree r) held) && not (is_asked_already f r))) (Some (Ask (next_decree_place r)))
            (λ e. ask_suits (and_parts (not (is_held (is_next_decree r) held)) (not (is_asked_already f r)) (and_parts (is_held (is_later_decree r) held) (not (is_held (is_next_decree r) held) && not (is_asked_already f r)) e).1).1),
        (
          if_suits (Suits f r held) (not r.is_running && is_overdue f r) (with_held HandInDecree (is_next_decree r) held) (λ _. held_suits (Suits f r held) HandInDecree (is_next_decree r) held decree_suits),
          tt,
        ),
      ),
    ),
  )

  rules_suit : (b : Bool) → RowsSuit (Suits f r held) (if b then fetching_rules f r held else following_rules f r held)
  rules_suit true = fetching_suit
  rules_suit false = following_suit

  -- an answer suits, or it is to wait and no rule applies
  pub answer : (action : Action) → action ≡ next_action f r held → Suits f r held action ⊎ ((action ≡ Wait) × NoneApplies (rules_of f r held))
  answer action e = first_is (Suits f r held) (rules_of f r held) (rules_suit (is_fetching r)) action (sym e)

  pub decree_fits : (action : Action) → action ≡ next_action f r held → (i : ℕ) → action ≡ HandInDecree i → IsHeldAt held i (λ l. decree_place l ≡ r.known + 1)
  decree_fits action e i is = by (answer (HandInDecree i) (sym is ∙ e))
    where
      by : Suits f r held (HandInDecree i) ⊎ ((HandInDecree i ≡ Wait) × NoneApplies (rules_of f r held)) → IsHeldAt held i (λ l. decree_place l ≡ r.known + 1)
      by (inl p) = p
      by (inr q) = absurd (cc q.0)

  pub order_fits : (action : Action) → action ≡ next_action f r held → (i : ℕ) → action ≡ HandInOrder i → IsHeldAt held i (λ l. l ≡ Order r.epoch ((r.number + r.chain) + 1)) × (has_room_for_batch r ≡ true)
  order_fits action e i is = by (answer (HandInOrder i) (sym is ∙ e))
    where
      by : Suits f r held (HandInOrder i) ⊎ ((HandInOrder i ≡ Wait) × NoneApplies (rules_of f r held)) → Suits f r held (HandInOrder i)
      by (inl p) = p
      by (inr q) = absurd (cc q.0)

  pub parcel_fits : (action : Action) → action ≡ next_action f r held → (i : ℕ) → action ≡ HandInParcel i → IsHeldAt held i (λ l. l ≡ Parcel r.standing)
  parcel_fits action e i is = by (answer (HandInParcel i) (sym is ∙ e))
    where
      by : Suits f r held (HandInParcel i) ⊎ ((HandInParcel i ≡ Wait) × NoneApplies (rules_of f r held)) → IsHeldAt held i (λ l. l ≡ Parcel r.standing)
      by (inl p) = p
      by (inr q) = absurd (cc q.0)

  pub dropped_fits : (action : Action) → action ≡ next_action f r held → (i : ℕ) → action ≡ DropParcel i → IsHeldAt held i (λ l. is_parcel_below r.standing l ≡ true)
  dropped_fits action e i is = by (answer (DropParcel i) (sym is ∙ e))
    where
      by : Suits f r held (DropParcel i) ⊎ ((DropParcel i ≡ Wait) × NoneApplies (rules_of f r held)) → IsHeldAt held i (λ l. is_parcel_below r.standing l ≡ true)
      by (inl p) = p
      by (inr q) = absurd (cc q.0)

  pub ask_fits : (action : Action) → action ≡ next_action f r held → (place : ℕ) → action ≡ Ask place → (place ≡ next_decree_place r) × (is_asked_already f r ≡ false)
  ask_fits action e place is = by (answer (Ask place) (sym is ∙ e))
    where
      by : Suits f r held (Ask place) ⊎ ((Ask place ≡ Wait) × NoneApplies (rules_of f r held)) → (place ≡ next_decree_place r) × (is_asked_already f r ≡ false)
      by (inl p) = p
      by (inr q) = absurd (cc q.0)

  pub need_fits : (action : Action) → action ≡ next_action f r held → (peer : ℕ) → action ≡ Need peer → (is_silent f ≡ true) × IsOther f peer
  need_fits action e peer is = by (answer (Need peer) (sym is ∙ e))
    where
      by : Suits f r held (Need peer) ⊎ ((Need peer ≡ Wait) × NoneApplies (rules_of f r held)) → (is_silent f ≡ true) × IsOther f peer
      by (inl p) = p
      by (inr q) = absurd (cc q.0)

  pub wait_fits : (action : Action) → action ≡ next_action f r held → action ≡ Wait → NoneApplies (rules_of f r held)
  wait_fits action e is = by (answer Wait (sym is ∙ e))
    where
      by : Suits f r held Wait ⊎ ((Wait ≡ Wait) × NoneApplies (rules_of f r held)) → NoneApplies (rules_of f r held)
      by (inl p) = absurd p
      by (inr q) = q.1
