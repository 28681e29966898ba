-- Each step keeps the rule of the ticket word.
use Rattle.std.proofs.Common.{◌≡◌, ◌≢◌, ◌⊎◌, ℕ, zero, suc, ◌+◌, ◌%◌, ◌^◌, ◌<◌, ◌≤◌, Bool, true, false, true≢false, cond, List, [], ◌∷◌, ◌++◌, length, set, refl, sym, ap, ◌∙◌, subst, inl, inr, ⊎_elim, arith, length-set, length-append, get_or-set_same, eq-eqb, ne_eqb, append-nil}
use Rattle.std.specs.Prelude.{◌==◌, ◌||◌, slice_index}
use Rattle.std.proofs.lemmas.List.Elements.{filter-append}
use mathlib.Core.Option.{Option, none, some, some-injective, some-ne-none}
use lib.ListN.{get_elem?}
use Rattle.atomic_table.specs.Table.{State, Me, keeps, Allows, Splits, Joins}
use Rattle.atomic_table.proofs.Lists.{at_set, set_again}
use Rattle.round.specs.declared.rule.Entry.{Entry}
use Rattle.round.specs.declared.rule.Held.{Held}
use Rattle.round.specs.declared.rule.View.{View}
use Rattle.round.specs.Tickets.{touches, log_of, held, maker, name_view, pair_view, spent, both, page_part, caller_part, made, Hold, AreLogs, Kinds, IsKnowledge, TicketRule, Drew, Learned}
use Rattle.pages.specs.Page.{page_count}

-- the new view, or one of those before it
at_push : (l : List View) (a b : View) (j : ℕ) → get_elem? (l ++ a ∷ []) j ≡ some b → ((j < length l) × (get_elem? l j ≡ some b)) ⊎ ((j ≡ length l) × (a ≡ b))
at_push [] a b zero e = inr (refl, some-injective a b e)
at_push [] a b (suc j) e = absurd (some-ne-none b (sym e))
at_push (x ∷ xs) a b zero e = inl (omega arith, e)
at_push (x ∷ xs) a b (suc j) e = ⊎_elim (λ t. let h = t.0 in inl (omega arith, t.1)) (λ t. inr (ap suc t.0, t.1)) (at_push xs a b j e)

at_below : (l : List View) (j : ℕ) (b : View) → get_elem? l j ≡ some b → j < length l
at_below [] j b e = absurd (some-ne-none b (sym e))
at_below (x ∷ xs) zero b e = omega arith
at_below (x ∷ xs) (suc j) b e = let r = at_below xs j b e in omega arith

filter_none : (n : ℕ) (e : Entry) → touches n e ≡ false → log_of n (e ∷ []) ≡ []
filter_none n e off = ap (λ b. cond b (e ∷ []) []) off

filter_one : (n : ℕ) (e : Entry) → touches n e ≡ true → log_of n (e ∷ []) ≡ e ∷ []
filter_one n e on = ap (λ b. cond b (e ∷ []) []) on

untouched : (n : ℕ) (order : List Entry) (e : Entry) → touches n e ≡ false → log_of n (order ++ e ∷ []) ≡ log_of n order
untouched n order e off = filter-append (touches n) order (e ∷ []) ∙ ap (λ l. log_of n order ++ l) (filter_none n e off) ∙ append-nil _

touched : (n : ℕ) (order : List Entry) (e : Entry) → touches n e ≡ true → log_of n (order ++ e ∷ []) ≡ log_of n order ++ e ∷ []
touched n order e on = filter-append (touches n) order (e ∷ []) ∙ ap (λ l. log_of n order ++ l) (filter_one n e on)

apart_touches : (n : ℕ) (e : Entry) → e.page ≢ n → e.caller ≢ n → touches n e ≡ false
apart_touches n e p c = ap (λ b. b || (e.caller == n)) (ne_eqb e.page n p) ∙ ne_eqb e.caller n c

page_touches : (e : Entry) → touches e.page e ≡ true
page_touches e = ap (λ b. b || (e.caller == e.page)) (eq-eqb e.page e.page refl)

or_true : (b : Bool) → (b || true) ≡ true
or_true true = refl
or_true false = refl

pub caller_touches : (e : Entry) → touches e.caller e ≡ true
caller_touches e = ap (λ b. (e.page == e.caller) || b) (eq-eqb e.caller e.caller refl) ∙ or_true _

-- the owner of a name, after all that one seat owned went to another
abbrev moved : ℕ → ℕ → Option ℕ → Option ℕ
moved from to none = none
moved from to (some k) = cond (k == from) (some to) (some k)

moved_there : (from to : ℕ) → moved from to (some from) ≡ some to
moved_there from to = ap (λ b. cond b (some to) (some from)) (eq-eqb from from refl)

moved_else : (from to k : ℕ) → k ≢ from → moved from to (some k) ≡ some k
moved_else from to k n = ap (λ b. cond b (some to) (some k)) (ne_eqb k from n)

hold_moved : (order : List Entry) (owner : ℕ → Option ℕ) (from to : ℕ) (hs : List Held) → Hold order owner from hs → Hold order (λ n. moved from to (owner n)) to hs
hold_moved order owner from to [] h = tt
hold_moved order owner from to (x ∷ hs) h = (ap (moved from to) h.0 ∙ moved_there from to, h.1, hold_moved order owner from to hs h.2)

hold_kept : (order : List Entry) (owner : ℕ → Option ℕ) (from to seat : ℕ) (hs : List Held) → seat ≢ from → Hold order owner seat hs → Hold order (λ n. moved from to (owner n)) seat hs
hold_kept order owner from to seat [] n h = tt
hold_kept order owner from to seat (x ∷ hs) n h = (ap (moved from to) h.0 ∙ moved_else from to seat n, h.1, hold_kept order owner from to seat hs n h.2)

hold_append : (order : List Entry) (owner : ℕ → Option ℕ) (seat : ℕ) (hs is : List Held) → Hold order owner seat hs → Hold order owner seat is → Hold order owner seat (hs ++ is)
hold_append order owner seat [] is h i = i
hold_append order owner seat (x ∷ hs) is h i = (h.0, h.1, hold_append order owner seat hs is h.2 i)

-- the owner of one name changes
abbrev given : ℕ → ℕ → (ℕ → Option ℕ) → ℕ → Option ℕ
given name to owner n = cond (n == name) (some to) (owner n)

given_there : (name to : ℕ) (owner : ℕ → Option ℕ) → given name to owner name ≡ some to
given_there name to owner = ap (λ b. cond b (some to) (owner name)) (eq-eqb name name refl)

given_else : (name to : ℕ) (owner : ℕ → Option ℕ) (n : ℕ) → n ≢ name → given name to owner n ≡ owner n
given_else name to owner n off = ap (λ b. cond b (some to) (owner n)) (ne_eqb n name off)

-- a seat that did not own the name holds what it held
hold_given : (order : List Entry) (owner : ℕ → Option ℕ) (name to seat : ℕ) (hs : List Held) → owner name ≢ some seat → Hold order owner seat hs → Hold order (given name to owner) seat hs
hold_given order owner name to seat [] n h = tt
hold_given order owner name to seat (x ∷ hs) n h = (given_else name to owner x.name (λ e. n (ap owner (sym e) ∙ h.0)) ∙ h.0, h.1, hold_given order owner name to seat hs n h.2)

-- one more step keeps the logs that it does not touch
hold_longer : (order : List Entry) (owner : ℕ → Option ℕ) (seat id : ℕ) (e : Entry) (hs : List Held) → seat ≢ id → owner e.page ≡ some id → owner e.caller ≡ some id → Hold order owner seat hs → Hold (order ++ e ∷ []) owner seat hs
hold_longer order owner seat id e [] n p c h = tt
hold_longer order owner seat id e (x ∷ hs) n p c h =
    let off : touches x.name e ≡ false = apart_touches x.name e
    (λ is. n (some-injective seat id (sym h.0 ∙ ap owner (sym is) ∙ p)))
    (λ is. n (some-injective seat id (sym h.0 ∙ ap owner (sym is) ∙ c))) in
    (h.0, h.1 ∙ sym (untouched x.name order e off), hold_longer order owner seat id e hs n p c h.2)

no_seat : (o : Option ℕ) (k : ℕ) → o ≡ none → o ≡ some k → ⊥
no_seat o k a b = some-ne-none k (sym b ∙ a)

not_true : false ≡ true → ⊥
not_true e = true≢false (sym e)

-- the maker's part of the rule, after one more step of a page and a caller that someone owns
makes_longer : (order : List Entry) (owner : ℕ → Option ℕ) (id : ℕ) (e : Entry) (from : ℕ) → owner e.page ≡ some id → owner e.caller ≡ some id
    → ((n : ℕ) → from ≤ n → (owner n ≡ none) × (log_of n order ≡ [])) → (n : ℕ) → from ≤ n → (owner n ≡ none) × (log_of n (order ++ e ∷ []) ≡ [])
makes_longer order owner id e from p c all n le =
    let was = all n le in
    (was.0, untouched n order e (apart_touches n e (λ is. no_seat (owner n) id was.0 (ap owner (sym is) ∙ p)) (λ is. no_seat (owner n) id was.0 (ap owner (sym is) ∙ c))) ∙ was.1)

-- the pair, after the step e
pair_longer : (order : List Entry) (owner : ℕ → Option ℕ) (id : ℕ) (e : Entry) (l m : List Entry) → Hold order owner id (held e.page l ∷ held e.caller m ∷ []) → Hold (order ++ e ∷ []) owner id (held e.page (l ++ e ∷ []) ∷ held e.caller (m ++ e ∷ []) ∷ [])
pair_longer order owner id e l m h = (
  h.0,
  ap (λ x. x ++ e ∷ []) h.1 ∙ sym (touched e.page order e (page_touches e)),
  (h.2.0, ap (λ x. x ++ e ∷ []) h.2.1 ∙ sym (touched e.caller order e (caller_touches e)), tt),
)

kinds_push : (order : List Entry) (e : Entry) → e.page < page_count → page_count ≤ e.caller → Kinds order → Kinds (order ++ e ∷ [])
kinds_push [] e low high k = (low, high, tt)
kinds_push (x ∷ xs) e low high k = (k.0, k.1, kinds_push xs e low high k.2)

next_count : (n l m : ℕ) → n ≡ l % 18446744073709551616 → m ≡ l + 1 → (n + 1) % 18446744073709551616 ≡ m % 18446744073709551616
next_count n l m is more = omega arith

pub draws : (id slots : ℕ) (e : Entry) (l m : List Entry) → e.page < page_count → page_count ≤ e.caller
    → Allows (λ (s : State ℕ View). TicketRule s.words s.views) slots id (pair_view e.page l e.caller m, []) 0 (λ n. (n + 1) % 2 ^ 64) (Drew e (pair_view e.page l e.caller m, []))
draws id slots e l m low high s k _ at _ =
    let v = pair_view e.page l e.caller m in
    let w = pair_view e.page (l ++ e ∷ []) e.caller (m ++ e ∷ []) in
    let n : ℕ = slice_index s.words 0 in
    let mine = k.fits id v at in
    let p = mine.holds.0 in
    let c = mine.holds.2.0 in
    let count = k.counted in
    let more : length (k.order ++ e ∷ []) ≡ length k.order + 1 = length-append k.order (e ∷ []) in
    let wide : length s.words ≡ 1 = k.one in
    let next : (n + 1) % 18446744073709551616 ≡ length (k.order ++ e ∷ []) % 18446744073709551616 = next_count n (length k.order) _ count more in (
      w,
      keeps,
      tt,
      record {
        order = k.order ++ e ∷ [];
        owner = k.owner;
        master = k.master;
        one = length-set s.words 0 ((n + 1) % 18446744073709551616) ∙ wide;
        counted = get_or-set_same s.words 0 ((n + 1) % 18446744073709551616) 0 (omega arith) ∙ next;
        kinds = kinds_push k.order e low high k.kinds;
        fits = λ j u is. ⊎_elim
            (λ (t : (j ≡ id) × (w ≡ u)). subst (λ (x : ℕ × View). IsKnowledge (k.order ++ e ∷ []) k.owner k.master x.0 x.1) (λ i. (sym t.0 i, t.1 i))
            (record { holds = pair_longer k.order k.owner id e l m mine.holds; makes = λ is. absurd (not_true is) }))
            (λ (t : (j ≢ id) × (get_elem? s.views j ≡ some u)). let f = k.fits j u t.1 in
            record { holds = hold_longer k.order k.owner j id e u.held t.0 p c f.holds; makes = λ is. ((f.makes is).0, makes_longer k.order k.owner id e u.next p c (f.makes is).1) })
            (at_set s.views id j w u is);
      },
      refl,
    )

-- whoever makes names is another
makes_kept : (order : List Entry) (owner : ℕ → Option ℕ) (from to next : ℕ) → ((n : ℕ) → next ≤ n → (owner n ≡ none) × (log_of n order ≡ [])) → (n : ℕ) → next ≤ n → (moved from to (owner n) ≡ none) × (log_of n order ≡ [])
makes_kept order owner from to next all n le = let was = all n le in (ap (moved from to) was.0, was.1)

makes_given : (order : List Entry) (owner : ℕ → Option ℕ) (name to next : ℕ) → ((n : ℕ) → next ≤ n → n ≢ name) → ((n : ℕ) → next ≤ n → (owner n ≡ none) × (log_of n order ≡ [])) → (n : ℕ) → next ≤ n → (given name to owner n ≡ none) × (log_of n order ≡ [])
makes_given order owner name to next off all n le = let was = all n le in (given_else name to owner n (off n le) ∙ was.0, was.1)

fits_spent : (order : List Entry) (owner : ℕ → Option ℕ) (master j : ℕ) (u : View) → spent ≡ u → IsKnowledge order owner master j u
fits_spent order owner master j u is = subst (IsKnowledge order owner master j) is (record { holds = tt; makes = λ e. absurd (not_true e) })

abbrev Rule : State ℕ View → Type 0
Rule s = TicketRule s.words s.views

-- all that a seat knows goes to a new seat
pub moves : (id : ℕ) (v : View) → v.makes ≡ false → Splits Rule id v spent v
moves id v quiet s k at =
    let new = length (set s.views id spent) in
    let len : new ≡ length s.views = length-set s.views id spent in
    let here = at_below s.views id v at in
    let mine = k.fits id v at in
    let owner = λ (n : ℕ). moved id new (k.owner n) in
    record {
      order = k.order;
      owner = owner;
      master = k.master;
      one = k.one;
      counted = k.counted;
      kinds = k.kinds;
      fits = λ j u is. ⊎_elim
          (λ (t : (j < new) × (get_elem? (set s.views id spent) j ≡ some u)). ⊎_elim
          (λ (x : (j ≡ id) × (spent ≡ u)). fits_spent k.order owner k.master j u x.1)
          (λ (x : (j ≢ id) × (get_elem? s.views j ≡ some u)). let f = k.fits j u x.1 in
          record { holds = hold_kept k.order k.owner id new j u.held x.0 f.holds; makes = λ e. ((f.makes e).0, makes_kept k.order k.owner id new u.next (f.makes e).1) })
          (at_set s.views id j spent u t.1))
          (λ (t : (j ≡ new) × (v ≡ u)). subst (λ (x : ℕ × View). IsKnowledge k.order owner k.master x.0 x.1) (λ i. (sym t.0 i, t.1 i))
          (record { holds = hold_moved k.order k.owner id new v.held mine.holds; makes = λ e. absurd (not_true (sym quiet ∙ e)) }))
          (at_push (set s.views id spent) v u j is);
    }

-- a pair is cut into its page and its caller
pub parts : (id p c : ℕ) (l m : List Entry) → p ≢ c → Splits Rule id (pair_view p l c m) (name_view p l) (name_view c m)
parts id p c l m apart s k at =
    let v = pair_view p l c m in
    let a = name_view p l in
    let b = name_view c m in
    let new = length (set s.views id a) in
    let mine = k.fits id v at in
    let owner = given c new k.owner in
    record {
      order = k.order;
      owner = owner;
      master = k.master;
      one = k.one;
      counted = k.counted;
      kinds = k.kinds;
      fits = λ j u is. ⊎_elim
          (λ (t : (j < new) × (get_elem? (set s.views id a) j ≡ some u)). ⊎_elim
          (λ (x : (j ≡ id) × (a ≡ u)). subst (λ (x : ℕ × View). IsKnowledge k.order owner k.master x.0 x.1) (λ i. (sym x.0 i, x.1 i))
          (record { holds = (given_else c new k.owner p apart ∙ mine.holds.0, mine.holds.1, tt); makes = λ e. absurd (not_true e) }))
          (λ (x : (j ≢ id) × (get_elem? s.views j ≡ some u)). let f = k.fits j u x.1 in
          record {
            holds = hold_given k.order k.owner c new j u.held (λ e. x.0 (some-injective j id (sym e ∙ mine.holds.2.0))) f.holds;
            makes = λ e. ((f.makes e).0, makes_given k.order k.owner c new u.next (λ n le same. no_seat (k.owner n) id ((f.makes e).1 n le).0 (ap k.owner same ∙ mine.holds.2.0)) (f.makes e).1);
          })
          (at_set s.views id j a u t.1))
          (λ (t : (j ≡ new) × (b ≡ u)). subst (λ (x : ℕ × View). IsKnowledge k.order owner k.master x.0 x.1) (λ i. (sym t.0 i, t.1 i))
          (record { holds = (given_there c new k.owner, mine.holds.2.1, tt); makes = λ e. absurd (not_true e) }))
          (at_push (set s.views id a) b u j is);
    }

-- the maker makes the next name
pub makes_name : (id : ℕ) (v : View) → v.makes ≡ true → Splits Rule id v (made v) (name_view v.next [])
makes_name id v maker s k at =
    let a = made v in
    let b = name_view v.next [] in
    let new = length (set s.views id a) in
    let mine = k.fits id v at in
    let all = (mine.makes maker).1 in
    let owner = given v.next new k.owner in
    let free = all v.next (omega arith) in
    record {
      order = k.order;
      owner = owner;
      master = k.master;
      one = k.one;
      counted = k.counted;
      kinds = k.kinds;
      fits = λ j u is. ⊎_elim
          (λ (t : (j < new) × (get_elem? (set s.views id a) j ≡ some u)). ⊎_elim
          (λ (x : (j ≡ id) × (a ≡ u)). subst (λ (x : ℕ × View). IsKnowledge k.order owner k.master x.0 x.1) (λ i. (sym x.0 i, x.1 i))
          (record {
            holds = hold_given k.order k.owner v.next new id v.held (λ e. no_seat (k.owner v.next) id free.0 e) mine.holds;
            makes = λ e. ((mine.makes maker).0, λ n le. makes_given k.order k.owner v.next new (v.next + 1) (λ n' le' same. omega arith) (λ n' le'. all n' (omega arith)) n le);
          }))
          (λ (x : (j ≢ id) × (get_elem? s.views j ≡ some u)). let f = k.fits j u x.1 in
          record {
            holds = hold_given k.order k.owner v.next new j u.held (λ e. no_seat (k.owner v.next) j free.0 e) f.holds;
            makes = λ e. absurd (x.0 ((f.makes e).0 ∙ sym (mine.makes maker).0));
          })
          (at_set s.views id j a u t.1))
          (λ (t : (j ≡ new) × (b ≡ u)). subst (λ (x : ℕ × View). IsKnowledge k.order owner k.master x.0 x.1) (λ i. (sym t.0 i, t.1 i))
          (record { holds = (given_there v.next new k.owner, sym free.1, tt); makes = λ e. absurd (not_true e) }))
          (at_push (set s.views id a) b u j is);
    }

-- one seat takes in all that another knows
pub takes_in : (id other : ℕ) (v w : View) → Joins Rule id v other w (both v w) spent
takes_in id other v w s k at apart there =
    let a = both v w in
    let mine = k.fits id v at in
    let their : get_elem? s.views other ≡ some w = ⊎_elim (λ (t : (other ≡ id) × (a ≡ w)). absurd (apart t.0)) (λ (t : (other ≢ id) × (get_elem? s.views other ≡ some w)). t.1) (at_set s.views id other a w there) in
    let theirs = k.fits other w their in
    let owner = λ (n : ℕ). moved other id (k.owner n) in
    record {
      order = k.order;
      owner = owner;
      master = k.master;
      one = k.one;
      counted = k.counted;
      kinds = k.kinds;
      fits = λ j u is. ⊎_elim
          (λ (t : (j ≡ other) × (spent ≡ u)). fits_spent k.order owner k.master j u t.1)
          (λ (t : (j ≢ other) × (get_elem? (set s.views id a) j ≡ some u)). ⊎_elim
          (λ (x : (j ≡ id) × (a ≡ u)). subst (λ (x : ℕ × View). IsKnowledge k.order owner k.master x.0 x.1) (λ i. (sym x.0 i, x.1 i))
          (record {
            holds = hold_append k.order owner id v.held w.held (hold_kept k.order k.owner other id id v.held (λ e. apart (sym e)) mine.holds) (hold_moved k.order k.owner other id w.held theirs.holds);
            makes = λ e. ((mine.makes e).0, makes_kept k.order k.owner other id v.next (mine.makes e).1);
          }))
          (λ (x : (j ≢ id) × (get_elem? s.views j ≡ some u)). let f = k.fits j u x.1 in
          record { holds = hold_kept k.order k.owner other id j u.held t.0 f.holds; makes = λ e. ((f.makes e).0, makes_kept k.order k.owner other id u.next (f.makes e).1) })
          (at_set s.views id j a u t.1))
          (at_set (set s.views id a) other j spent u is);
    }

are_logs : (order : List Entry) (owner : ℕ → Option ℕ) (seat : ℕ) (hs : List Held) → Hold order owner seat hs → AreLogs order hs
are_logs order owner seat [] h = tt
are_logs order owner seat (x ∷ hs) h = (h.1, are_logs order owner seat hs h.2)

pub learns : (id slots : ℕ) (v : View) → Allows Rule slots id (v, []) 0 (λ n. n) (Learned (v, []))
learns id slots v s k _ at _ =
    let n : ℕ = slice_index s.words 0 in
    let mine = k.fits id v at in
    let wide : length s.words ≡ 1 = k.one in (
      v,
      keeps,
      tt,
      record {
        order = k.order;
        owner = k.owner;
        master = k.master;
        one = length-set s.words 0 n ∙ wide;
        counted = get_or-set_same s.words 0 n 0 (omega arith) ∙ k.counted;
        kinds = k.kinds;
        fits = λ j u is. k.fits j u (subst (λ (l : List View). get_elem? l j ≡ some u) (set_again s.views id v at) is);
      },
      (refl, record { order = k.order; kinds = k.kinds; logs = are_logs k.order k.owner id v.held mine.holds; none_to_come = λ e n' le. ((mine.makes e).1 n' le).1 }),
    )

pub begins : (words : List ℕ) → words ≡ 0 ∷ [] → TicketRule words (maker 0 ∷ [])
begins words is = record {
  order = [];
  owner = λ _. none;
  master = 0;
  one = ap length is;
  counted = ap (λ w. slice_index w 0) is;
  kinds = tt;
  fits = only;
}
  where
    only : (seat : ℕ) (v : View) → get_elem? (maker 0 ∷ []) seat ≡ some v → IsKnowledge [] (λ _. none) 0 seat v
    only zero v e = subst (IsKnowledge [] (λ _. none) 0 0) (some-injective _ _ e) (record { holds = tt; makes = λ _. (refl, λ n _. (refl, refl)) })
    only (suc seat) v e = absurd (some-ne-none v (sym e))

-- the same, at a view that is known
pub draws_as : (id slots : ℕ) (e : Entry) (l m : List Entry) (me : Me ℕ View) → e.page < page_count → page_count ≤ e.caller → me ≡ (pair_view e.page l e.caller m, [])
    → Allows Rule slots id me 0 (λ n. (n + 1) % 2 ^ 64) (Drew e me)
draws_as id slots e l m me low high is = subst (λ (x : Me ℕ View). Allows Rule slots id x 0 (λ n. (n + 1) % 2 ^ 64) (Drew e x)) (sym is) (draws id slots e l m low high)

pub parts_as : (id p c : ℕ) (l m : List Entry) (v : View) → p ≢ c → v ≡ pair_view p l c m → Splits Rule id v (page_part v) (caller_part v)
parts_as id p c l m v apart is = subst (λ (x : View). Splits Rule id x (page_part x) (caller_part x)) (sym is) (parts id p c l m apart)

pub learns_as : (id slots : ℕ) (me : Me ℕ View) → me.1 ≡ [] → Allows Rule slots id me 0 (λ n. n) (Learned me)
learns_as id slots me is = subst (λ (x : Me ℕ View). Allows Rule slots id x 0 (λ n. n) (Learned x)) (λ i. (me.0, sym is i)) (learns id slots me.0)
