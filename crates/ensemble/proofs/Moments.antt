-- Moments of orders that get longer.
use Rattle.std.proofs.Common.{◌≡◌, ◌⊎◌, inl, inr, ⊎_elim, ℕ, List, [], ◌∷◌, ◌++◌, map, Some, None, Option, refl, sym, ap, ◌∙◌, subst, append_assoc}
use Rattle.std.specs.Prelude.{Contains}
use Rattle.std.proofs.lemmas.List.Elements.{Contains-append_left, Contains-append_cases}
use Rattle.events.specs.declared.event.Event.{Event}
use Rattle.events.specs.declared.event.Event.TheVariants.{Feed, Again, Hangup, Deliver, Cut, Step, Finish, Suspect, Trim, Crash, Restart, Lost, FailSave}
use Rattle.memcached_spec.specs.Fed.{IsMoment}
use Rattle.ensemble.specs.declared.answer.Answer.{Answer}
use Rattle.ensemble.specs.declared.noted.Noted.{Noted}
use Rattle.ensemble.specs.declared.noted.Noted.TheVariants as noted
use Rattle.ensemble.specs.Moments.{moments_in, latest_from, latest_of, IsSince, now_from, IsNow}
use Rattle.ensemble.specs.Ensemble.{order_entry, moment_entry, AreCut}
use Rattle.ensemble.proofs.Lists.{first_or_other, in_head, in_tail, in_none}

abbrev pub Order : Type 0
Order = List ((ℕ × ℕ) × Noted)

-- ---- what was noted

pub moments_both : (early late : Order) → moments_in (early ++ late) ≡ moments_in early ++ moments_in late
moments_both [] late = refl
moments_both ((key, noted.Asked) ∷ early) late = moments_both early late
moments_both ((key, noted.Answered) ∷ early) late = moments_both early late
moments_both ((key, noted.Moment) ∷ early) late = ap (λ (moments : List ℕ). key.1 ∷ moments) (moments_both early late)

pub answers_no_moments : (answers : List Answer) → moments_in (map order_entry answers) ≡ []
answers_no_moments [] = refl
answers_no_moments (a ∷ answers) = answers_no_moments answers

pub moment_longer : (order more : Order) (moment : ℕ) → Contains (moments_in order) moment → Contains (moments_in (order ++ more)) moment
moment_longer order more moment c = subst (λ (moments : List ℕ). Contains moments moment) (sym (moments_both order more)) (Contains-append_left (moments_in order) (moments_in more) moment c)

-- ---- the last one

from_in : (first : ℕ) (moments : List ℕ) (moment : ℕ) → latest_from first moments ≡ moment → (first ≡ moment) ⊎ Contains moments moment
from_in first [] moment is = inl is
from_in first (next ∷ moments) moment is = ⊎_elim
    (λ (same : next ≡ moment). inr (subst (λ (m : ℕ). Contains (next ∷ moments) m) same (in_head next moments)))
    (λ (later : Contains moments moment). inr (in_tail next moment moments later))
    (from_in next moments moment is)

from_both : (first : ℕ) (early late : List ℕ) (moment : ℕ) → latest_from first (early ++ late) ≡ moment → (latest_from first early ≡ moment) ⊎ Contains late moment
from_both first [] late moment is = from_in first late moment is
from_both first (next ∷ early) late moment is = from_both next early late moment is

pub in_these : (moments : List ℕ) (moment : ℕ) → latest_of moments ≡ Some moment → Contains moments moment
in_these [] moment is = absurd (cc is)
in_these (first ∷ moments) moment is = ⊎_elim
    (λ (same : first ≡ moment). subst (λ (m : ℕ). Contains (first ∷ moments) m) same (in_head first moments))
    (λ (later : Contains moments moment). in_tail first moment moments later)
    (from_in first moments moment (cc is))

pub last_since : (early late : List ℕ) (moment : ℕ) → latest_of (early ++ late) ≡ Some moment → IsSince early late moment
last_since [] late moment is = inr (in_these late moment is)
last_since (first ∷ early) late moment is = ⊎_elim
    (λ (same : latest_from first early ≡ moment). inl (ap (λ (m : ℕ). Some m) same))
    (λ (later : Contains late moment). inr later)
    (from_both first early late moment (cc is))

from_last : (first : ℕ) (moments : List ℕ) (moment : ℕ) → latest_from first (moments ++ moment ∷ []) ≡ moment
from_last first [] moment = refl
from_last first (next ∷ moments) moment = from_last next moments moment

pub last_pushed : (moments : List ℕ) (moment : ℕ) → latest_of (moments ++ moment ∷ []) ≡ Some moment
last_pushed [] moment = refl
last_pushed (first ∷ moments) moment = ap (λ (m : ℕ). Some m) (from_last first moments moment)

pub since_more : (early late more : List ℕ) (moment : ℕ) → IsSince early late moment → IsSince early (late ++ more) moment
since_more early late more moment (inl last) = inl last
since_more early late more moment (inr later) = inr (Contains-append_left late more moment later)

-- ---- the moment of now

pub now_both : (now : Option ℕ) (early late : Order) → now_from now (early ++ late) ≡ now_from (now_from now early) late
now_both now [] late = refl
now_both now ((key, noted.Asked) ∷ early) late = now_both None early late
now_both now ((key, noted.Answered) ∷ early) late = now_both now early late
now_both now ((key, noted.Moment) ∷ early) late = now_both (Some key.1) early late

now_or_later : (now : Option ℕ) (order : Order) (moment : ℕ) → now_from now order ≡ Some moment → (now ≡ Some moment) ⊎ Contains (moments_in order) moment
now_or_later now [] moment is = inl is
now_or_later now ((key, noted.Asked) ∷ order) moment is = ⊎_elim (λ (none : None ≡ Some moment). absurd (cc none)) (λ (later : Contains (moments_in order) moment). inr later) (now_or_later None order moment is)
now_or_later now ((key, noted.Answered) ∷ order) moment is = now_or_later now order moment is
now_or_later now ((key, noted.Moment) ∷ order) moment is = ⊎_elim
    (λ (same : Some key.1 ≡ Some moment). let here : key.1 ≡ moment = cc same in inr (subst (λ (m : ℕ). Contains (key.1 ∷ moments_in order) m) here (in_head key.1 (moments_in order))))
    (λ (later : Contains (moments_in order) moment). inr (in_tail key.1 moment (moments_in order) later))
    (now_or_later (Some key.1) order moment is)

pub now_in : (order : Order) (moment : ℕ) → IsNow order moment → Contains (moments_in order) moment
now_in order moment is = ⊎_elim (λ (none : None ≡ Some moment). absurd (cc none)) (λ (there : Contains (moments_in order) moment). there) (now_or_later None order moment is)

-- it was noted after each request that was asked before
pub now_after : (early late : Order) (key : ℕ × ℕ) (moment : ℕ) → IsNow (early ++ (key, noted.Asked) ∷ late) moment → Contains (moments_in late) moment
now_after early late key moment is = now_in late moment (sym (now_both None early ((key, noted.Asked) ∷ late)) ∙ is)

pub now_noted : (order now : Order) (moment : ℕ) → now ≡ order ++ moment_entry moment ∷ [] → IsNow now moment
now_noted order now moment is = ap (now_from None) is ∙ now_both None order (moment_entry moment ∷ [])

now_answers : (now : Option ℕ) (answers : List Answer) → now_from now (map order_entry answers) ≡ now
now_answers now [] = refl
now_answers now (a ∷ answers) = now_answers now answers

-- answers change no moment
pub now_stays : (order now : Order) (answers : List Answer) (moment : ℕ) → now ≡ order ++ map order_entry answers → IsNow order moment → IsNow now moment
now_stays order now answers moment is at = ap (now_from None) is ∙ (now_both None order (map order_entry answers) ∙ (now_answers (now_from None order) answers ∙ at))

-- ---- cuts among events

-- the moment at which the event cuts a batch
abbrev pub cut_by : Event → Option ℕ
cut_by (Feed c bytes) = None
cut_by (Again c) = None
cut_by (Hangup c) = None
cut_by (Deliver letter) = None
cut_by (Cut executor moment) = Some moment
cut_by (Step executor place) = None
cut_by (Finish executor) = None
cut_by (Suspect verifier) = None
cut_by (Trim verifier place) = None
cut_by (Crash replica) = None
cut_by (Restart replica) = None
cut_by (Lost replica) = None
cut_by (FailSave replica) = None

pub one_cut : (e : Event) (moment : ℕ) → IsMoment (e ∷ []) moment → cut_by e ≡ Some moment
one_cut e moment c = ap cut_by (⊎_elim (λ (same : e ≡ Cut c.0 moment). same) (λ (later : Contains [] (Cut c.0 moment)). absurd (in_none (Cut c.0 moment) later)) (first_or_other e (Cut c.0 moment) [] c.1))

pub no_cut : {P : Type 0} (moment : ℕ) → IsMoment [] moment → P
no_cut moment c = absurd (in_none (Cut c.0 moment) c.1)

pub cut_cases : (before after : List Event) (moment : ℕ) → IsMoment (before ++ after) moment → IsMoment before moment ⊎ IsMoment after moment
cut_cases before after moment c = ⊎_elim
    (λ (old : Contains before (Cut c.0 moment)). inl (c.0, old))
    (λ (new : Contains after (Cut c.0 moment)). inr (c.0, new))
    (Contains-append_cases before after (Cut c.0 moment) c.1)

-- where it is
pub cut_place : {X : Type 0} (xs : List X) (x : X) → Contains xs x → (before after : List X) × (xs ≡ before ++ x ∷ after)
cut_place [] x c = absurd (in_none x c)
cut_place {X} (y ∷ xs) x c = ⊎_elim
    (λ (same : y ≡ x). ([], xs, λ i. same i ∷ xs))
    (λ (later : Contains xs x). let rest = cut_place xs x later in (y ∷ rest.0, rest.1, ap (λ (l : List X). y ∷ l) rest.2))
    (first_or_other y x xs c)

-- a cut is among the first or among the later events
pub two_splits : {X : Type 0} (xs ys before : List X) (x : X) (after : List X) → xs ++ ys ≡ before ++ x ∷ after → ((mid : List X) × (xs ≡ before ++ x ∷ mid)) ⊎ ((mid : List X) × (before ≡ xs ++ mid) × (ys ≡ mid ++ x ∷ after))
two_splits [] ys before x after is = inr (before, refl, is)
two_splits {X} (z ∷ xs) ys [] x after is = inl (xs, (let same : z ≡ x = cc is in λ i. same i ∷ xs))
two_splits {X} (z ∷ xs) ys (w ∷ before) x after is =
    let same : z ≡ w = cc is in
    let tails : xs ++ ys ≡ before ++ x ∷ after = cc is in
    ⊎_elim
    (λ (old : (mid : List X) × (xs ≡ before ++ x ∷ mid)). inl (old.0, λ i. same i ∷ old.1 i))
    (λ (new : (mid : List X) × (before ≡ xs ++ mid) × (ys ≡ mid ++ x ∷ after)). inr (new.0, (λ i. sym same i ∷ new.1 i), new.2))
    (two_splits xs ys before x after tails)

-- ---- what was noted as batches were cut

-- a cut stays one as more is noted
pub still_cut : (order more : Order) (events : List Event) → AreCut order events → AreCut (order ++ more) events
still_cut order more events cuts before after executor moment is =
    let c = cuts before after executor moment is in
    record { early = c.early; late = c.late ++ more; split = ap (λ (o : Order). o ++ more) c.split ∙ append_assoc c.early c.late more; now = c.now; asked = c.asked }

-- each was at a moment that was handed in
pub cut_moments : (order : Order) (events : List Event) → AreCut order events → (moment : ℕ) → IsMoment events moment → Contains (moments_in order) moment
cut_moments order events cuts moment c =
    let at = cut_place events (Cut c.0 moment) c.1 in
    let was = cuts at.0 at.1 c.0 moment at.2 in
    subst (λ (o : Order). Contains (moments_in o) moment) (sym was.split) (moment_longer was.early was.late moment (now_in was.early moment was.now))
