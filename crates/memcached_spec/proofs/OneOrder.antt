-- The orders of a play are beginnings of one.
use Rattle.std.proofs.Common.{◌≡◌, List, [], ◌∷◌, ◌++◌, length, Some, refl, sym, ap, ◌∙◌, subst, append_assoc}
use Rattle.std.specs.Prelude.{slice_get}
use Rattle.std.proofs.lemmas.List.{append-nil}
use Rattle.events.specs.declared.event.Event.{Event}
use Rattle.memcached_spec.specs.Server.{Line}
use Rattle.memcached_spec.specs.Order.{AllGiven, IsOrder, OrdersGrow}
use Rattle.memcached_spec.specs.Laws.{LinearizableHasOneOrder}

same_element : (x y : AllGiven) → Some x ≡ Some y → x ≡ y
same_element x y e = cc

-- from one world on, each later moment is a cut of these lines
abbrev CutsFrom : List Event → List Event → List AllGiven → List Line → Type 0
CutsFrom past es xs lines = (early late : List Event) (w : AllGiven) → es ≡ early ++ late → slice_get xs (length early) ≡ Some w
    → (before : List Line) × (after : List Line) × (lines ≡ before ++ after) × IsOrder (past ++ early) w before

all_cuts : (past : List Event) (now : AllGiven) (before : List Line) (es : List Event) (xs : List AllGiven) → IsOrder past now before → OrdersGrow past before es xs
    → (more : List Line) × CutsFrom past es (now ∷ xs) (before ++ more)
all_cuts past now before [] [] order grow = ([], λ early late w is at. here early late w is at)
  where
    here : (early late : List Event) (w : AllGiven) → [] ≡ early ++ late → slice_get (now ∷ []) (length early) ≡ Some w → (front : List Line) × (after : List Line) × (before ++ [] ≡ front ++ after) × IsOrder (past ++ early) w front
    here [] late w is at = (before, [], refl, subst (λ (x : List Event). IsOrder x w before) (sym (append-nil past)) (subst (λ (x : AllGiven). IsOrder past x before) (same_element now w at) order))
    here (e ∷ early) late w is at = absurd (cc is)
all_cuts past now before [] (x ∷ xs) order grow = absurd grow
all_cuts past now before (e ∷ es) [] order grow = absurd grow
all_cuts past now before (e ∷ es) (x ∷ xs) order (added, next, grow) =
    let later = all_cuts (past ++ e ∷ []) x (before ++ added) es xs next grow in
    (added ++ later.0, λ early late w is at. here later.0 later.1 early late w is at)
  where
    here : (more : List Line) → CutsFrom (past ++ e ∷ []) es (x ∷ xs) ((before ++ added) ++ more)
        → (early late : List Event) (w : AllGiven) → e ∷ es ≡ early ++ late → slice_get (now ∷ x ∷ xs) (length early) ≡ Some w → (front : List Line) × (after : List Line) × (before ++ (added ++ more) ≡ front ++ after) × IsOrder (past ++ early) w front
    here more cuts [] late w is at = (before, added ++ more, refl, subst (λ (y : List Event). IsOrder y w before) (sym (append-nil past)) (subst (λ (y : AllGiven). IsOrder past y before) (same_element now w at) order))
    here more cuts (f ∷ early) late w is at =
        let first : e ≡ f = cc is in
        let others : es ≡ early ++ late = cc is in
        let c = cuts early late w others at in
        let events : (past ++ e ∷ []) ++ early ≡ past ++ f ∷ early = append_assoc past (e ∷ []) early ∙ ap (λ (y : Event). past ++ y ∷ early) first in
        (c.0, c.1, sym (append_assoc before added more) ∙ c.2, subst (λ (y : List Event). IsOrder y w c.0) events c.3)

pub has_one_order : LinearizableHasOneOrder
has_one_order events [] none = absurd none
has_one_order events (first ∷ later) (lines, order, grow) =
    let all = all_cuts [] first lines events later order grow in
    (lines ++ all.0, all.1)
