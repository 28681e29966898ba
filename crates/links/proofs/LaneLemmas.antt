-- Letters come through a lane, whatever happens on it.
use Rattle.std.proofs.Common.{◌≡◌, ℕ, zero, suc, false, ◌+◌, ◌-◌, ◌≤◌, max, List, [], ◌∷◌, ◌++◌, length, take, drop, Option, Some, None, All, slice_get, slice_set, refl, sym, ap, ◌∙◌, subst, arith}
use Rattle.std.proofs.lemmas.List.{append_assoc, append-nil, length-append, length-take, length_push, take_at, take_all, take-append-le, take-append-drop}
use Rattle.std.proofs.lemmas.List.Elements.{All-nil, All-push, All-weaker, All-contains}
use Rattle.std.proofs.lemmas.Option.{none-some, same_Some}
use Rattle.links.specs.declared.receiving.Receiving.{Receiving}
use Rattle.links.specs.Numbered.{Numbered, IsBeginningOf}
use Rattle.links.specs.Sending.{IsNextToHandOut, with_letter, with_said, with_acknowledged, on_new_connection}
use Rattle.links.specs.Receiving.{Receives, on_accepted_connection}
use Rattle.links.specs.Lane.{LaneView, LaneEvent, Pushed, Refused, Connected, HandedOut, Accepted, Came, Said, Heard, on_newest, newest, letters_given, Happens, HappensAll, IsNewLane, IsSound, LettersComeThrough}

-- ---- lists

-- an element of a list, and what is before and behind it
pub record SplitsAt {X : Type 0} (xs : List X) (k : ℕ) (x : X) : Type 0 where
  pub before : List X
  pub after : List X
  pub split : xs ≡ before ++ x ∷ after
  pub count : length before ≡ k

splits_at : {X : Type 0} (xs : List X) (k : ℕ) (x : X) → slice_get xs k ≡ Some x → SplitsAt xs k x
splits_at [] k x e = absurd (none-some x e)
splits_at (y ∷ ys) zero x e = record {
  before = [];
  after = ys;
  split = ap (λ z. z ∷ ys) (same_Some y x e);
  count = refl;
}
splits_at (y ∷ ys) (suc k) x e =
    let s = splits_at ys k x e in record {
      before = y ∷ s.before;
      after = s.after;
      split = ap (λ zs. y ∷ zs) s.split;
      count = ap suc s.count;
    }

-- as many of a list as it has in front, or more
begins_taken : {X : Type 0} (n : ℕ) (xs ys : List X) → length xs ≤ n → IsBeginningOf xs (take n (xs ++ ys))
begins_taken n [] ys le = (take n ys, refl)
begins_taken zero (x ∷ xs) ys le = absurd (omega (arith, le))
begins_taken (suc n) (x ∷ xs) ys le =
    let rest = begins_taken n xs ys (omega (arith, le)) in
    (rest.0, ap (λ zs. x ∷ zs) rest.1)

-- ---- what is under way on a connection

-- it is the letter of its number among those that were pushed
pub record IsLetter (pushed : List (List ℕ)) (x : Numbered) : Type 0 where
  pub before : List (List ℕ)
  pub after : List (List ℕ)
  pub split : pushed ≡ before ++ x.1 ∷ after
  pub number : x.0 ≡ length before + 1

letter_more : (pushed more : List (List ℕ)) (x : Numbered) → IsLetter pushed x → IsLetter (pushed ++ more) x
letter_more pushed more x i = record {
  before = i.before;
  after = i.after ++ more;
  split = ap (λ xs. xs ++ more) i.split ∙ append_assoc i.before (x.1 ∷ i.after) more;
  number = i.number;
}

letter_within : (pushed : List (List ℕ)) (x : Numbered) → IsLetter pushed x → x.0 ≤ length pushed
letter_within pushed x i = omega (arith, i.number, ap length i.split, length-append i.before (x.1 ∷ i.after))

-- Each was handed out, and its number is at most one above `top` and those before it.
abbrev pub IsWay : List (List ℕ) → ℕ → ℕ → List Numbered → Type 0
IsWay pushed reached top [] = Unit {0}
IsWay pushed reached top (x ∷ way) = IsLetter pushed x × (x.0 ≤ reached) × (x.0 ≤ top + 1) × IsWay pushed reached (max top x.0) way

-- the highest number that will have come
abbrev pub topmost : ℕ → List Numbered → ℕ
topmost top [] = top
topmost top (x ∷ way) = topmost (max top x.0) way

way_weaker : (p q : List (List ℕ)) → ((x : Numbered) → IsLetter p x → IsLetter q x) → (r s : ℕ) → r ≤ s → (top high : ℕ) → top ≤ high → (way : List Numbered) → IsWay p r top way → IsWay q s high way
way_weaker p q f r s le top high up [] w = tt
way_weaker p q f r s le top high up (x ∷ way) w =
    (f x w.0, omega (arith, w.1, le), omega (arith, w.2, up), way_weaker p q f r s le (max top x.0) (max high x.0) (omega (arith, up)) way w.3)

way_push : (p : List (List ℕ)) (r top : ℕ) (way : List Numbered) (x : Numbered) → IsWay p r top way → IsLetter p x → x.0 ≤ r → x.0 ≤ topmost top way + 1 → IsWay p r top (way ++ x ∷ [])
way_push p r top [] x w i le up = (i, le, up, tt)
way_push p r top (y ∷ way) x w i le up = (w.0, w.1, w.2, way_push p r (max top y.0) way x w.3 i le up)

topmost_push : (top : ℕ) (way : List Numbered) (x : Numbered) → x.0 ≤ topmost top (way ++ x ∷ [])
topmost_push top [] x = omega arith
topmost_push top (y ∷ way) x = topmost_push (max top y.0) way x

topmost_higher : (top high : ℕ) → top ≤ high → (way : List Numbered) → topmost top way ≤ topmost high way
topmost_higher top high le [] = le
topmost_higher top high le (x ∷ way) = topmost_higher (max top x.0) (max high x.0) (omega (arith, le)) way

topmost_least : (top : ℕ) (way : List Numbered) → top ≤ topmost top way
topmost_least top [] = omega arith
topmost_least top (x ∷ way) = omega (arith, topmost_least (max top x.0) way)

-- ---- what is under way on each connection

abbrev pub AreWays : List (List ℕ) → ℕ → ℕ → List (List Numbered) → Type 0
AreWays pushed reached top [] = Unit {0}
AreWays pushed reached top (way ∷ ways) = IsWay pushed reached top way × AreWays pushed reached top ways

ways_weaker : (p q : List (List ℕ)) → ((x : Numbered) → IsLetter p x → IsLetter q x) → (r s : ℕ) → r ≤ s → (top high : ℕ) → top ≤ high → (ways : List (List Numbered)) → AreWays p r top ways → AreWays q s high ways
ways_weaker p q f r s le top high up [] all = tt
ways_weaker p q f r s le top high up (way ∷ ways) all = (way_weaker p q f r s le top high up way all.0, ways_weaker p q f r s le top high up ways all.1)

ways_at : (p : List (List ℕ)) (r top : ℕ) (ways : List (List Numbered)) (k : ℕ) (way : List Numbered) → slice_get ways k ≡ Some way → AreWays p r top ways → IsWay p r top way
ways_at p r top [] k way e all = absurd (none-some way e)
ways_at p r top (w ∷ ways) zero way e all = subst (IsWay p r top) (same_Some w way e) all.0
ways_at p r top (w ∷ ways) (suc k) way e all = ways_at p r top ways k way e all.1

ways_set : (p : List (List ℕ)) (r top : ℕ) (ways : List (List Numbered)) (k : ℕ) (way : List Numbered) → IsWay p r top way → AreWays p r top ways → AreWays p r top (slice_set ways k way)
ways_set p r top [] k way one all = tt
ways_set p r top (w ∷ ways) zero way one all = (one, all.1)
ways_set p r top (w ∷ ways) (suc k) way one all = (all.0, ways_set p r top ways k way one all.1)

ways_handed : (p : List (List ℕ)) (r top : ℕ) (ways : List (List Numbered)) (x : Numbered) → AreWays p r top ways → IsLetter p x → x.0 ≤ r → x.0 ≤ topmost top (newest ways) + 1 → AreWays p r top (on_newest x ways)
ways_handed p r top [] x all i le up = ((i, le, up, tt), tt)
ways_handed p r top (way ∷ older) x all i le up = (way_push p r top way x all.0 i le up, all.1)

newest_handed : (top : ℕ) (ways : List (List Numbered)) (x : Numbered) → x.0 ≤ topmost top (newest (on_newest x ways))
newest_handed top [] x = topmost_push top [] x
newest_handed top (way ∷ older) x = topmost_push top way x

newest_came : (low top : ℕ) (ways : List (List Numbered)) (k : ℕ) (x : Numbered) (way : List Numbered) → slice_get ways k ≡ Some (x ∷ way) → low ≤ topmost top (newest ways) → low ≤ topmost (max top x.0) (newest (slice_set ways k way))
newest_came low top [] k x way e h = absurd (none-some (x ∷ way) e)
newest_came low top (w ∷ ways) zero x way e h = subst (λ (v : List Numbered). low ≤ topmost top v) (same_Some w (x ∷ way) e) h
newest_came low top (w ∷ ways) (suc k) x way e h = omega (arith, h, topmost_higher top (max top x.0) (omega arith) w)

-- ---- what holds of a lane

pub record Holds (l : LaneView) : Type 0 where
  pub acknowledged : List (List ℕ)
  pub kept : l.pushed ≡ acknowledged ++ l.sending.held
  pub count : length acknowledged ≡ l.sending.acknowledged
  pub said : l.sending.acknowledged ≤ l.sending.said
  pub reached : l.sending.said ≤ l.sending.reached
  pub given : l.sending.acknowledged ≤ l.receiving.last
  pub last : l.receiving.last ≤ l.sending.reached
  pub there : l.receiving.last ≤ length l.pushed
  pub received : l.received ≡ take l.receiving.last l.pushed
  pub acknowledgements : All (λ (n : ℕ). n ≤ l.receiving.last) l.acknowledgements
  pub ways : AreWays l.pushed l.sending.reached l.receiving.last l.ways
  pub next : l.sending.said ≤ topmost l.receiving.last (newest l.ways)

new_holds : (l : LaneView) → IsNewLane l → Holds l
new_holds l n = record {
  acknowledged = [];
  kept = n.pushed;
  count = sym n.acknowledged;
  said = omega (arith, n.acknowledged, n.said);
  reached = omega (arith, n.said, n.reached);
  given = omega (arith, n.acknowledged, n.last);
  last = omega (arith, n.last, n.reached);
  there = omega (arith, n.last);
  received = n.received ∙ sym (ap (λ k. take k l.pushed) n.last);
  acknowledgements = subst (λ (ns : List ℕ). All (λ (n : ℕ). n ≤ l.receiving.last) ns) (sym n.acknowledgements) (All-nil (λ (n : ℕ). n ≤ l.receiving.last));
  ways = subst (AreWays l.pushed l.sending.reached l.receiving.last) (sym n.ways) tt;
  next = omega (arith, n.said);
}

pushed_holds : (l : LaneView) (letter : List ℕ) → Holds l → Holds (record l { sending = with_letter letter l.sending; pushed = l.pushed ++ letter ∷ [] })
pushed_holds l letter h = record {
  acknowledged = h.acknowledged;
  kept = ap (λ xs. xs ++ letter ∷ []) h.kept ∙ append_assoc h.acknowledged l.sending.held (letter ∷ []);
  count = h.count;
  said = h.said;
  reached = h.reached;
  given = h.given;
  last = h.last;
  there = omega (arith, h.there, length_push l.pushed letter);
  received = h.received ∙ sym (take-append-le l.receiving.last l.pushed (letter ∷ []) h.there);
  acknowledgements = h.acknowledgements;
  ways = ways_weaker l.pushed (l.pushed ++ letter ∷ []) (letter_more l.pushed (letter ∷ [])) l.sending.reached l.sending.reached (omega arith) l.receiving.last l.receiving.last (omega arith) l.ways h.ways;
  next = h.next;
}

refused_holds : (l : LaneView) (lost : ℕ) → Holds l → Holds (record l { sending = record l.sending { lost = lost } })
refused_holds l lost h = record {
  acknowledged = h.acknowledged;
  kept = h.kept;
  count = h.count;
  said = h.said;
  reached = h.reached;
  given = h.given;
  last = h.last;
  there = h.there;
  received = h.received;
  acknowledgements = h.acknowledgements;
  ways = h.ways;
  next = h.next;
}

connected_holds : (l : LaneView) → Holds l → Holds (record l { sending = on_new_connection l.sending; ways = [] ∷ l.ways })
connected_holds l h = record {
  acknowledged = h.acknowledged;
  kept = h.kept;
  count = h.count;
  said = omega arith;
  reached = omega (arith, h.said, h.reached);
  given = h.given;
  last = h.last;
  there = h.there;
  received = h.received;
  acknowledgements = h.acknowledgements;
  ways = (tt, h.ways);
  next = h.given;
}

handed_holds : (l : LaneView) (x : Numbered) → IsNextToHandOut l.sending x → Holds l → Holds (record l { sending = with_said x.0 l.sending; ways = on_newest x l.ways })
handed_holds l x next h =
    let s = splits_at l.sending.held (l.sending.said - l.sending.acknowledged) x.1 next.1 in
    let letter : IsLetter l.pushed x = record {
      before = h.acknowledged ++ s.before;
      after = s.after;
      split = h.kept ∙ (ap (λ xs. h.acknowledged ++ xs) s.split ∙ sym (append_assoc h.acknowledged s.before (x.1 ∷ s.after)));
      number = omega (arith, next.0, s.count, h.count, h.said, length-append h.acknowledged s.before);
    } in
    let ways = ways_weaker l.pushed l.pushed (λ y i. i) l.sending.reached (max l.sending.reached x.0) (omega arith) l.receiving.last l.receiving.last (omega arith) l.ways h.ways in record {
      acknowledged = h.acknowledged;
      kept = h.kept;
      count = h.count;
      said = omega (arith, next.0, h.said);
      reached = omega arith;
      given = h.given;
      last = omega (arith, h.last);
      there = h.there;
      received = h.received;
      acknowledgements = h.acknowledgements;
      ways = ways_handed l.pushed (max l.sending.reached x.0) l.receiving.last l.ways x ways letter (omega arith) (omega (arith, next.0, h.next));
      next = newest_handed l.receiving.last l.ways x;
    }

accepted_holds : (l : LaneView) (r : Receiving) → r.last ≡ l.receiving.last → Holds l → Holds (record l { receiving = r })
accepted_holds l r same h = record {
  acknowledged = h.acknowledged;
  kept = h.kept;
  count = h.count;
  said = h.said;
  reached = h.reached;
  given = omega (arith, same, h.given);
  last = omega (arith, same, h.last);
  there = omega (arith, same, h.there);
  received = h.received ∙ ap (λ k. take k l.pushed) (sym same);
  acknowledgements = subst (λ (k : ℕ). All (λ (n : ℕ). n ≤ k) l.acknowledgements) (sym same) h.acknowledgements;
  ways = subst (λ (k : ℕ). AreWays l.pushed l.sending.reached k l.ways) (sym same) h.ways;
  next = subst (λ (k : ℕ). l.sending.said ≤ topmost k (newest l.ways)) (sym same) h.next;
}

came_last : (old : Receiving) (x : Numbered) (given : Option Numbered) (r : Receiving) → Receives old x given r → r.last ≡ max old.last x.0
came_last old x None r h = omega (arith, h.0, ap (λ (q : Receiving). q.last) h.1)
came_last old x (Some given) r h = omega (arith, h.1, ap (λ (q : Receiving). q.last) h.2)

came_received : (pushed received : List (List ℕ)) (old : Receiving) (x : Numbered) (given : Option Numbered) (r : Receiving) → received ≡ take old.last pushed → IsLetter pushed x → Receives old x given r
    → received ++ letters_given given ≡ take r.last pushed
came_received pushed received old x None r e i h = append-nil received ∙ (e ∙ ap (λ k. take k pushed) (sym (ap (λ (q : Receiving). q.last) h.1)))
came_received pushed received old x (Some given) r e i h =
    let numbers : length i.before ≡ old.last = omega (arith, i.number, h.1) in
    let front : received ≡ i.before = e ∙ (ap (λ xs. take old.last xs) i.split ∙ take_at i.before (x.1 ∷ i.after) old.last numbers) in
    let regrouped : pushed ≡ (i.before ++ x.1 ∷ []) ++ i.after = i.split ∙ sym (append_assoc i.before (x.1 ∷ []) i.after) in
    let count : length (i.before ++ x.1 ∷ []) ≡ r.last = omega (arith, length_push i.before x.1, numbers, h.1, ap (λ (q : Receiving). q.last) h.2) in
    ap (λ (g : Numbered). received ++ g.1 ∷ []) h.0
    ∙ (ap (λ xs. xs ++ x.1 ∷ []) front
    ∙ sym (ap (λ xs. take r.last xs) regrouped ∙ take_at (i.before ++ x.1 ∷ []) i.after r.last count))

came_holds : (l : LaneView) (k : ℕ) (x : Numbered) (given : Option Numbered) (way : List Numbered) (r : Receiving) → slice_get l.ways k ≡ Some (x ∷ way) → Receives l.receiving x given r → Holds l
    → Holds (record l { receiving = r; ways = slice_set l.ways k way; received = l.received ++ letters_given given })
came_holds l k x given way r at receives h =
    let last = came_last l.receiving x given r receives in
    let w = ways_at l.pushed l.sending.reached l.receiving.last l.ways k (x ∷ way) at h.ways in
    let ways = ways_weaker l.pushed l.pushed (λ y i. i) l.sending.reached l.sending.reached (omega arith) l.receiving.last (max l.receiving.last x.0) (omega arith) l.ways h.ways in record {
      acknowledged = h.acknowledged;
      kept = h.kept;
      count = h.count;
      said = h.said;
      reached = h.reached;
      given = omega (arith, last, h.given);
      last = omega (arith, last, h.last, w.1);
      there = omega (arith, last, h.there, letter_within l.pushed x w.0);
      received = came_received l.pushed l.received l.receiving x given r h.received w.0 receives;
      acknowledgements = All-weaker (λ (n : ℕ). n ≤ l.receiving.last) (λ (n : ℕ). n ≤ r.last) (λ (n : ℕ) le. omega (arith, le, last)) l.acknowledgements h.acknowledgements;
      ways = subst (λ (t : ℕ). AreWays l.pushed l.sending.reached t (slice_set l.ways k way)) (sym last) (ways_set l.pushed l.sending.reached (max l.receiving.last x.0) l.ways k way w.3 ways);
      next = subst (λ (t : ℕ). l.sending.said ≤ topmost t (newest (slice_set l.ways k way))) (sym last) (newest_came l.sending.said l.receiving.last l.ways k x way at h.next);
    }

said_holds : (l : LaneView) (n : ℕ) → n ≡ l.receiving.last → Holds l → Holds (record l { acknowledgements = l.acknowledgements ++ n ∷ [] })
said_holds l n e h = record {
  acknowledged = h.acknowledged;
  kept = h.kept;
  count = h.count;
  said = h.said;
  reached = h.reached;
  given = h.given;
  last = h.last;
  there = h.there;
  received = h.received;
  acknowledgements = All-push (λ (n : ℕ). n ≤ l.receiving.last) l.acknowledgements n h.acknowledgements (omega (arith, e));
  ways = h.ways;
  next = h.next;
}

heard_holds : (l : LaneView) (n : ℕ) → n ≤ l.receiving.last → Holds l → Holds (record l { sending = with_acknowledged n l.sending })
heard_holds l n le h =
    let within : n ≤ l.sending.acknowledged + length l.sending.held = omega (arith, le, h.there, ap length h.kept, length-append h.acknowledged l.sending.held, h.count) in record {
      acknowledged = h.acknowledged ++ take (n - l.sending.acknowledged) l.sending.held;
      kept = h.kept ∙ (ap (λ xs. h.acknowledged ++ xs) (sym (take-append-drop (n - l.sending.acknowledged) l.sending.held)) ∙ sym (append_assoc h.acknowledged (take (n - l.sending.acknowledged) l.sending.held) (drop (n - l.sending.acknowledged) l.sending.held)));
      count = omega (arith, length-append h.acknowledged (take (n - l.sending.acknowledged) l.sending.held), length-take (n - l.sending.acknowledged) l.sending.held, h.count, within);
      said = omega (arith, h.said);
      reached = omega (arith, h.reached, le, h.last);
      given = omega (arith, h.given, le);
      last = h.last;
      there = h.there;
      received = h.received;
      acknowledgements = h.acknowledgements;
      ways = h.ways;
      next = omega (arith, h.next, le, topmost_least l.receiving.last (newest l.ways));
    }

-- ---- the law

happens_holds : (old : LaneView) (e : LaneEvent) (new : LaneView) → Happens old e new → Holds old → Holds new
happens_holds old (Pushed letter) new d h = subst Holds (sym d) (pushed_holds old letter h)
happens_holds old Refused new d h = subst Holds (sym d.1) (refused_holds old d.0 h)
happens_holds old Connected new d h = subst Holds (sym d) (connected_holds old h)
happens_holds old (HandedOut x) new d h = subst Holds (sym d.1) (handed_holds old x d.0 h)
happens_holds old Accepted new d h = subst Holds (sym d) (accepted_holds old (on_accepted_connection old.receiving) refl h)
happens_holds old (Came k x given) new d h = subst Holds (sym d.4) (came_holds old k x given d.0 d.1 d.2 d.3 h)
happens_holds old (Said n) new d h =
    let said : LaneView = record old { acknowledgements = old.acknowledgements ++ n ∷ [] } in
    subst Holds (sym d.1) (accepted_holds said (record old.receiving { is_due = false }) refl (said_holds old n d.0 h))
happens_holds old (Heard n) new d h = subst Holds (sym d.1) (heard_holds old n (All-contains (λ (n : ℕ). n ≤ old.receiving.last) old.acknowledgements n h.acknowledgements d.0) h)

all_hold : (old : LaneView) (events : List LaneEvent) (new : LaneView) → HappensAll old events new → Holds old → Holds new
all_hold old [] new d h = subst Holds (sym d) h
all_hold old (e ∷ events) new d h = all_hold d.0 events new d.2 (happens_holds old e d.0 d.1 h)

sound : (l : LaneView) → Holds l → IsSound l
sound l h =
    let given = begins_taken l.receiving.last h.acknowledged l.sending.held (omega (arith, h.count, h.given)) in record {
      in_order = (drop l.receiving.last l.pushed, sym (ap (λ xs. xs ++ drop l.receiving.last l.pushed) h.received ∙ take-append-drop l.receiving.last l.pushed));
      acknowledged = h.acknowledged;
      kept = h.kept;
      given = (given.0, h.received ∙ (ap (λ xs. take l.receiving.last xs) h.kept ∙ given.1));
      follows = λ k x way at. (ways_at l.pushed l.sending.reached l.receiving.last l.ways k (x ∷ way) at h.ways).2;
      sent = All-weaker (λ (n : ℕ). n ≤ l.receiving.last) (λ (n : ℕ). n ≤ l.sending.reached) (λ (n : ℕ) le. omega (arith, le, h.last)) l.acknowledgements h.acknowledgements;
      whole = λ empty all.
          let came : l.sending.said ≤ l.receiving.last = subst (λ (way : List Numbered). l.sending.said ≤ topmost l.receiving.last way) empty h.next in
          h.received ∙ take_all l.receiving.last l.pushed (omega (arith, came, all, ap length h.kept, length-append h.acknowledged l.sending.held, h.count));
    }

pub come_through : LettersComeThrough
come_through old events new begun happen = sound new (all_hold old events new happen (new_holds old begun))
