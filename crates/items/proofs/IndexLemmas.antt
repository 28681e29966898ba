-- The index of what is due, after edits.
use Rattle.std.proofs.Common.{◌≡◌, ◌≢◌, ℕ, zero, suc, ◌+◌, ◌<◌, ◌≤◌, Bool, true, false, true≢false, cond, not, List, [], ◌∷◌, ◌++◌, length, take, drop, get_or, Some, None, Option, IsTrue, refl, sym, ap, ◌∙◌, arith, subst}
use Rattle.std.specs.Prelude.{◌==◌, ◌&&◌, nat_lt, filter, is_some, remove}
use Rattle.std.specs.Option.{option_map_or}
use Rattle.std.specs.declared.cmp.Ordering.{Ordering}
use Rattle.std.specs.declared.cmp.Ordering.TheVariants.{Less, Equal, Greater}
use Rattle.std.specs.Ordering.{nat_cmp, eq_by_cmp, is_eq, ordering_then, ordering_reverse}
use Rattle.std.specs.Cmp.{IsTotalOrder, eq_by_cmp_equiv, tied_then, tied_itself}
use Rattle.std.proofs.lemmas.Cmp.{nat_cmp_total, then_total, on_total}
use Rattle.std.specs.Cmp.Lexicographic.{nat_list_cmp_total}
use Rattle.std.specs.FinMap.{find, put, is_sorted, from_sorted, entries, entries-from_sorted, IsAntisymmetric, nat_cmp-IsAntisymmetric, slice_cmp-IsAntisymmetric}
use Rattle.std.specs.FinMap.Entries.{where_key, find-put, find-where_key, length_without, same_entries}
use Rattle.std.specs.FinMap.Entries.{below_all}
use Rattle.std.proofs.lemmas.List.{take_more}
use Rattle.std.proofs.lemmas.Bool.{and_parts, and_from}
use Rattle.std.proofs.lemmas.Bool.Decides.{nat_tests}
use Rattle.std.proofs.lemmas.Map.Entries.{option_filter}
use Rattle.base.proofs.MapLemmas.{as_t, same_filter, sorted_put, sorted_without, sorted_filter, find_filter}
use Rattle.base.proofs.Sorted.{lt_is}
use Rattle.items.specs.declared.item.Item.{Item}
use Rattle.items.specs.Map.{Items, by_bytes, is_alive, alive}
use Rattle.items.specs.Index.{by_due, is_due_at, if_due, due_in, without_due, with_due, IsDueUpTo, IsLaterFrom, IsIndex, IsIndexed}

pub by_due_total : IsTotalOrder by_due
by_due_total = then_total (on_total (λ (x : ℕ × List ℕ). x.0) nat_cmp_total) (on_total (λ (x : ℕ × List ℕ). x.1) nat_list_cmp_total)

bytes_only : IsAntisymmetric by_bytes
bytes_only = slice_cmp-IsAntisymmetric nat_cmp-IsAntisymmetric

pub by_due_only : IsAntisymmetric by_due
by_due_only x y e = by (nat_cmp x.0 y.0) refl
  where
    by : (r : Ordering) → nat_cmp x.0 y.0 ≡ r → x ≡ y
    by Less is = absurd (let no : Less ≡ Equal = sym (ap (λ s. ordering_then s (by_bytes x.1 y.1)) is) ∙ e in cc)
    by Greater is = absurd (let no : Greater ≡ Equal = sym (ap (λ s. ordering_then s (by_bytes x.1 y.1)) is) ∙ e in cc)
    by Equal is =
        let keys = bytes_only x.1 y.1 (sym (ap (λ s. ordering_then s (by_bytes x.1 y.1)) is) ∙ e) in
        λ i. (nat_cmp-IsAntisymmetric x.0 y.0 is i, keys i)

eq_nat : (a b : ℕ) → is_eq (nat_cmp a b) ≡ (a == b)
eq_nat a b = by (nat_lt a b) (a == b) refl refl
  where
    by : (l e : Bool) → nat_lt a b ≡ l → (a == b) ≡ e → is_eq (cond (nat_lt a b) Less (cond (a == b) Equal Greater)) ≡ (a == b)
    by true true il ie = absurd (grind (arith, nat_tests))
    by true false il ie = rw (il, ie) refl
    by false true il ie = rw (il, ie) refl
    by false false il ie = rw (il, ie) refl

-- times and keys tie if both are the same
tie : (a b : ℕ) (j k : List ℕ) → eq_by_cmp by_due (a, j) (b, k) ≡ ((a == b) && eq_by_cmp by_bytes j k)
tie a b j k = sym (tied_then (nat_cmp a b) (by_bytes j k)) ∙ ap (λ t. t && eq_by_cmp by_bytes j k) (eq_nat a b)

same_bytes : (j k : List ℕ) → eq_by_cmp by_bytes j k ≡ true → j ≡ k
same_bytes j k e = bytes_only j k (by (by_bytes j k) e)
  where
    by : (r : Ordering) → is_eq r ≡ true → r ≡ Equal
    by Less h = absurd (true≢false (sym h))
    by Equal h = refl
    by Greater h = absurd (true≢false (sym h))

itself : (k : List ℕ) → eq_by_cmp by_bytes k k ≡ true
itself k = ap is_eq (tied_itself nat_list_cmp_total k)

turn : (j k : List ℕ) → eq_by_cmp by_bytes j k ≡ eq_by_cmp by_bytes k j
turn j k = (eq_by_cmp_equiv nat_list_cmp_total).symm j k

abbrev Dues : Type 0
Dues = List ((ℕ × List ℕ) × Item)

abbrev Entries : Type 0
Entries = List (List ℕ × Item)

-- without what has a key
abbrev pub without : List ℕ → Entries → Entries
without key entries = where_key by_bytes (λ x. not (eq_by_cmp by_bytes key x)) entries

pub find-without : (key q : List ℕ) (entries : Entries) → find by_bytes q (without key entries) ≡ cond (not (eq_by_cmp by_bytes key q)) (find by_bytes q entries) None
find-without key q entries = find-where_key by_bytes (λ x. not (eq_by_cmp by_bytes key x)) q (λ x t. ap (λ y. not (eq_by_cmp by_bytes key y)) (sym (bytes_only q x t))) entries

find-without_due : (time t : ℕ) (key q : List ℕ) (index : Dues)
    → find by_due (t, q) (without_due (Some time) key index) ≡ cond (not ((time == t) && eq_by_cmp by_bytes key q)) (find by_due (t, q) index) None
find-without_due time t key q index =
    find-where_key by_due (λ x. not (eq_by_cmp by_due (time, key) x)) (t, q) (λ x t. ap (λ y. not (eq_by_cmp by_due (time, key) y)) (sym (by_due_only _ x t))) index
    ∙ ap (λ b. cond (not b) (find by_due (t, q) index) None) (tie time t key q)

none_due : (t : ℕ) (o : Option Item) → due_in o ≡ None → if_due t o ≡ None
none_due t None e = refl
none_due t (Some item) e = rw e refl

other_due : (t time : ℕ) (o : Option Item) → due_in o ≡ Some time → (time == t) ≡ false → if_due t o ≡ None
other_due t time None e apart = refl
other_due t time (Some item) e apart = rw (e, apart) refl

-- the index of other entries of which the same is found
pub index-same : (index : Dues) (xs ys : Entries) → ((q : List ℕ) → find by_bytes q xs ≡ find by_bytes q ys) → IsIndex index xs → IsIndex index ys
index-same index xs ys same is = record { rises = is.rises; exact = λ t q. is.exact t q ∙ ap (if_due t) (same q) }

pub without-rises : (time : Option ℕ) (key : List ℕ) (index : Dues) → IsTrue (is_sorted by_due index) → IsTrue (is_sorted by_due (without_due time key index))
without-rises None key index h = h
without-rises (Some time) key index h = sorted_without by_due_total (λ x. not (eq_by_cmp by_due (time, key) x)) index h

-- without a key, and its due time
pub index-without : (index : Dues) (xs : Entries) (key : List ℕ) (time : Option ℕ) → IsIndex index xs → time ≡ due_in (find by_bytes key xs) → IsIndex (without_due time key index) (without key xs)
index-without index xs key time is due = record {
  rises = without-rises time key index is.rises;
  exact = λ t q. by time due t q (eq_by_cmp by_bytes key q) refl ∙ ap (if_due t) (sym (find-without key q xs));
} where
  by : (time : Option ℕ) → time ≡ due_in (find by_bytes key xs) → (t : ℕ) (q : List ℕ) (b : Bool) → eq_by_cmp by_bytes key q ≡ b
      → find by_due (t, q) (without_due time key index) ≡ if_due t (cond (not (eq_by_cmp by_bytes key q)) (find by_bytes q xs) None)
  by None d t q true e =
      is.exact t q ∙ none_due t (find by_bytes q xs) (sym (d ∙ ap (λ k. due_in (find by_bytes k xs)) (same_bytes key q e))) ∙ sym (ap (λ b. if_due t (cond (not b) (find by_bytes q xs) None)) e)
  by None d t q false e = is.exact t q ∙ sym (ap (λ b. if_due t (cond (not b) (find by_bytes q xs) None)) e)
  by (Some time) d t q b e =
      find-without_due time t key q index ∙ ap (λ o. cond (not ((time == t) && eq_by_cmp by_bytes key q)) o None) (is.exact t q)
      ∙ ap (λ b. cond (not ((time == t) && b)) (if_due t (find by_bytes q xs)) None) e
      ∙ apart b e (time == t) refl ∙ sym (ap (λ b. if_due t (cond (not b) (find by_bytes q xs) None)) e)
    where
      apart : (b : Bool) → eq_by_cmp by_bytes key q ≡ b → (s : Bool) → (time == t) ≡ s
          → cond (not (s && b)) (if_due t (find by_bytes q xs)) None ≡ if_due t (cond (not b) (find by_bytes q xs) None)
      apart true e true i = refl
      apart true e false i = other_due t time (find by_bytes q xs) (sym (d ∙ ap (λ k. due_in (find by_bytes k xs)) (same_bytes key q e))) i
      apart false e true i = refl
      apart false e false i = refl

with-rises : (time : Option ℕ) (key : List ℕ) (item : Item) (index : Dues) → IsTrue (is_sorted by_due index) → IsTrue (is_sorted by_due (with_due time key item index))
with-rises None key item index h = h
with-rises (Some time) key item index h = sorted_put by_due_total (time, key) item index h

-- with an entry whose key is new
index-with : (index : Dues) (xs : Entries) (key : List ℕ) (item : Item) → IsIndex index xs → find by_bytes key xs ≡ None → IsIndex (with_due item.due key item index) (put by_bytes key item xs)
index-with index xs key item is none = record {
  rises = with-rises item.due key item index is.rises;
  exact = λ t q. by item.due refl t q (eq_by_cmp by_bytes q key) refl ∙ ap (if_due t) (sym (find-put by_bytes nat_list_cmp_total q key item xs));
} where
  by : (time : Option ℕ) → item.due ≡ time → (t : ℕ) (q : List ℕ) (b : Bool) → eq_by_cmp by_bytes q key ≡ b
      → find by_due (t, q) (with_due time key item index) ≡ if_due t (cond (eq_by_cmp by_bytes q key) (Some item) (find by_bytes q xs))
  by None d t q true e =
      is.exact t q ∙ ap (λ k. if_due t (find by_bytes k xs)) (same_bytes q key e) ∙ ap (if_due t) none
      ∙ sym (none_due t (Some item) d) ∙ sym (ap (λ b. if_due t (cond b (Some item) (find by_bytes q xs))) e)
  by None d t q false e = is.exact t q ∙ sym (ap (λ b. if_due t (cond b (Some item) (find by_bytes q xs))) e)
  by (Some time) d t q b e =
      find-put by_due by_due_total (t, q) (time, key) item index
      ∙ ap (λ s. cond s (Some item) (find by_due (t, q) index)) (tie t time q key ∙ ap (λ b. (t == time) && b) e)
      ∙ ap (cond ((t == time) && b) (Some item)) (is.exact t q)
      ∙ apart b e (t == time) refl ∙ sym (ap (λ b. if_due t (cond b (Some item) (find by_bytes q xs))) e)
    where
      at : (s : Bool) → (t == time) ≡ s → is_due_at t item ≡ s
      at s i = let turned : (time == t) ≡ (t == time) = grind (arith, nat_tests) in rw d (turned ∙ i)

      apart : (b : Bool) → eq_by_cmp by_bytes q key ≡ b → (s : Bool) → (t == time) ≡ s
          → cond (s && b) (Some item) (if_due t (find by_bytes q xs)) ≡ if_due t (cond b (Some item) (find by_bytes q xs))
      apart true e true i = sym (ap (λ b. cond b (Some item) None) (at true i))
      apart true e false i = ap (λ k. if_due t (find by_bytes k xs)) (same_bytes q key e) ∙ ap (if_due t) none ∙ sym (ap (λ b. cond b (Some item) None) (at false i))
      apart false e true i = refl
      apart false e false i = refl

without-none : (key : List ℕ) (xs : Entries) → find by_bytes key (without key xs) ≡ None
without-none key xs = find-without key key xs ∙ ap (λ b. cond (not b) (find by_bytes key xs) None) (itself key)

-- an entry in place of the one of its key, if there is one
pub index-put : (index : Dues) (xs : Entries) (key : List ℕ) (item : Item) (time : Option ℕ) → IsIndex index xs → time ≡ due_in (find by_bytes key xs)
    → IsIndex (with_due item.due key item (without_due time key index)) (put by_bytes key item xs)
index-put index xs key item time is due =
    index-same _ (put by_bytes key item (without key xs)) (put by_bytes key item xs) same
    (index-with (without_due time key index) (without key xs) key item (index-without index xs key time is due) (without-none key xs))
  where
    twice : (b c : Bool) (o : Option Item) → b ≡ c → cond b (Some item) (cond (not c) o None) ≡ cond b (Some item) o
    twice true true o e = refl
    twice false false o e = refl
    twice true false o e = refl
    twice false true o e = absurd (true≢false (sym e))

    same : (q : List ℕ) → find by_bytes q (put by_bytes key item (without key xs)) ≡ find by_bytes q (put by_bytes key item xs)
    same q = find-put by_bytes nat_list_cmp_total q key item (without key xs) ∙ ap (cond (eq_by_cmp by_bytes q key) (Some item)) (find-without key q xs)
        ∙ twice (eq_by_cmp by_bytes q key) (eq_by_cmp by_bytes key q) (find by_bytes q xs) (turn q key) ∙ sym (find-put by_bytes nat_list_cmp_total q key item xs)

-- what is alive at the moment
abbrev living : ℕ → Entries → Entries
living moment xs = filter (λ e. is_alive moment e.1) xs

-- and what of the index is due after it
abbrev pub later : ℕ → Dues → Dues
later moment index = where_key by_due (λ x. nat_lt moment x.0) index

find-later : (moment t : ℕ) (q : List ℕ) (index : Dues) → find by_due (t, q) (later moment index) ≡ cond (nat_lt moment t) (find by_due (t, q) index) None
find-later moment t q index = find-where_key by_due (λ x. nat_lt moment x.0) (t, q) (λ x e. ap (λ (y : ℕ × List ℕ). nat_lt moment y.0) (sym (by_due_only _ x e))) index

abbrev the_none : Option Item
the_none = None

no_item : (b : Bool) → cond b None None ≡ the_none
no_item true = refl
no_item false = refl

-- what is not due is alive, and in the index as before
pub index-alive : (index : Dues) (xs : Entries) (moment : ℕ) → IsIndex index xs → IsTrue (is_sorted by_bytes xs) → IsIndex (later moment index) (living moment xs)
index-alive index xs moment is sorted = record {
  rises = sorted_without by_due_total (λ x. nat_lt moment x.0) index is.rises;
  exact = λ t q. find-later moment t q index ∙ ap (λ o. cond (nat_lt moment t) o None) (is.exact t q)
      ∙ by t (find by_bytes q xs) ∙ ap (if_due t) (sym (find_filter nat_list_cmp_total (is_alive moment) q xs sorted));
} where
  by : (t : ℕ) (o : Option Item) → cond (nat_lt moment t) (if_due t o) None ≡ if_due t (option_filter (is_alive moment) o)
  by t None = no_item (nat_lt moment t)
  by t (Some item) = either (is_due_at t item) (nat_lt moment t) (is_alive moment item) refl (agree item.due refl)
    where
      either : (s l m : Bool) → is_due_at t item ≡ s → (s ≡ true → l ≡ m) → cond l (if_due t (Some item)) None ≡ if_due t (cond m (Some item) None)
      either s true true e same = refl
      either s false false e same = refl
      either true true false e same = absurd (true≢false (same refl))
      either true false true e same = absurd (true≢false (sym (same refl)))
      either false true false e same = ap (λ b. cond b (Some item) None) e
      either false false true e same = sym (ap (λ b. cond b (Some item) None) e)

      agree : (due : Option ℕ) → item.due ≡ due → is_due_at t item ≡ true → nat_lt moment t ≡ is_alive moment item
      agree None d there = let out : is_due_at t item ≡ false = rw d refl in absurd (true≢false (sym there ∙ out))
      agree (Some due) d there =
          let is : is_due_at t item ≡ (due == t) = rw d refl in
          let lives : is_alive moment item ≡ nat_lt moment due = rw d refl in
          let same : (due == t) ≡ true = sym is ∙ there in
          let now : due ≡ t = grind (arith, nat_tests) in
          sym (lives ∙ ap (nat_lt moment) now)

less_time : (x y : ℕ × List ℕ) → by_due x y ≡ Less → x.0 ≤ y.0
less_time x y e = by (nat_lt x.0 y.0) (x.0 == y.0) refl refl
  where
    by : (l s : Bool) → nat_lt x.0 y.0 ≡ l → (x.0 == y.0) ≡ s → x.0 ≤ y.0
    by true s il is = grind (arith, nat_tests)
    by false true il is = grind (arith, nat_tests)
    by false false il is =
        absurd (let no : Greater ≡ Less = sym (ap (λ r. ordering_then r (by_bytes x.1 y.1)) (λ i. cond (il i) Less (cond (is i) Equal Greater))) ∙ e in cc)

-- if one time is after the moment, those that are not sooner are
later-rest : (moment : ℕ) (x : ℕ × List ℕ) (index : Dues) → below_all by_due x index ≡ true → nat_lt moment x.0 ≡ true → later moment index ≡ index
later-rest moment x [] h l = refl
later-rest moment x (e ∷ index) h l =
    let parts = and_parts _ _ h in
    let less : x.0 ≤ e.0.0 = less_time x e.0 (lt_is _ parts.0) in
    let here : nat_lt moment e.0.0 ≡ true = grind (arith, nat_tests) in
    ap (λ b. cond b (e ∷ later moment index) (later moment index)) here ∙ ap (λ es. e ∷ es) (later-rest moment x index parts.1 l)

pub later-all : (moment : ℕ) (index : Dues) → IsTrue (is_sorted by_due index) → IsLaterFrom moment index 0 → later moment index ≡ index
later-all moment [] h l = refl
later-all moment (e ∷ index) h l =
    let here : nat_lt moment e.0.0 ≡ true = l e (omega arith) in
    ap (λ b. cond b (e ∷ later moment index) (later moment index)) here ∙ ap (λ es. e ∷ es) (later-rest moment e.0 index (and_parts _ _ h).0 here)

-- what is due is first
pub later-from : (moment n : ℕ) (index : Dues) → IsTrue (is_sorted by_due index) → IsDueUpTo moment index n → IsLaterFrom moment index n → drop n index ≡ later moment index
later-from moment zero index h due l = sym (later-all moment index h l)
later-from moment (suc n) [] h due l = refl
later-from moment (suc n) (e ∷ index) h due l =
    later-from moment n index (and_parts _ _ h).1 (λ k d lt. due (suc k) d (omega arith)) (λ d lt. l d (omega arith))
    ∙ sym (ap (λ b. cond b (e ∷ later moment index) (later moment index)) (due zero e (omega arith)))

-- entries one after another

below_take : (n : ℕ) (x : List ℕ) (es : Entries) → below_all by_bytes x es ≡ true → below_all by_bytes x (take n es) ≡ true
below_take zero x es h = refl
below_take (suc n) x [] h = refl
below_take (suc n) x (e ∷ es) h = and_from _ _ (and_parts _ _ h).0 (below_take n x es (and_parts _ _ h).1)

sorted_take : (n : ℕ) (es : Entries) → is_sorted by_bytes es ≡ true → is_sorted by_bytes (take n es) ≡ true
sorted_take zero es h = refl
sorted_take (suc n) [] h = refl
sorted_take (suc n) (e ∷ es) h = and_from _ _ (below_take n e.0 es (and_parts _ _ h).0) (sorted_take n es (and_parts _ _ h).1)

below_last : (x : List ℕ) (es : Entries) (e : List ℕ × Item) → below_all by_bytes x (es ++ e ∷ []) ≡ true → by_bytes x e.0 ≡ Less
below_last x [] e h = lt_is _ (and_parts _ _ h).0
below_last x (f ∷ es) e h = below_last x es e (and_parts _ _ h).1

turned_less : (x y : List ℕ) → by_bytes x y ≡ Less → by_bytes y x ≡ Greater
turned_less x y e = nat_list_cmp_total.antisymm y x ∙ ap ordering_reverse e

-- the key of the last of sorted entries is new
last_new : (es : Entries) (e : List ℕ × Item) → is_sorted by_bytes (es ++ e ∷ []) ≡ true → find by_bytes e.0 es ≡ None
last_new [] e h = refl
last_new (f ∷ es) e h = rw (turned_less f.0 e.0 (below_last f.0 es e (and_parts _ _ h).0)) (last_new es e (and_parts _ _ h).1)

put_last : (es : Entries) (e : List ℕ × Item) → is_sorted by_bytes (es ++ e ∷ []) ≡ true → put by_bytes e.0 e.1 es ≡ es ++ e ∷ []
put_last [] e h = refl
put_last (f ∷ es) e h = rw (turned_less f.0 e.0 (below_last f.0 es e (and_parts _ _ h).0)) (ap (λ xs. f ∷ xs) (put_last es e (and_parts _ _ h).1))

pub index-none : IsIndex [] []
index-none = record { rises = refl; exact = λ t q. refl }

-- the next entry of sorted ones
pub index-next : (index : Dues) (es : Entries) (i : ℕ) (e : List ℕ × Item) → IsTrue (is_sorted by_bytes es) → i < length es → e ≡ get_or es i e
    → IsIndex index (take i es) → IsIndex (with_due e.1.due e.0 e.1 index) (take (i + 1) es)
index-next index es i e sorted l at is =
    let more : take (i + 1) es ≡ take i es ++ e ∷ [] = take_more es i e l ∙ ap (λ x. take i es ++ x ∷ []) (sym at) in
    let rising : is_sorted by_bytes (take i es ++ e ∷ []) ≡ true = ap (is_sorted by_bytes) (sym more) ∙ sorted_take (i + 1) es sorted in
    subst (IsIndex (with_due e.1.due e.0 e.1 index)) (put_last (take i es) e rising ∙ sym more) (index-with index (take i es) e.0 e.1 is (last_new (take i es) e rising))

-- the first entry of the index, which is due

due_of : (t : ℕ) (o : Option Item) (v : Item) → if_due t o ≡ Some v → (o ≡ Some v) × (v.due ≡ Some t)
due_of t None v e = absurd (let no : true ≡ false = sym (ap is_some e) in cc)
due_of t (Some item) v e = at item.due refl
  where
    at : (due : Option ℕ) → item.due ≡ due → (Some item ≡ Some v) × (v.due ≡ Some t)
    at None d = absurd (let no : true ≡ false = sym (ap is_some (sym (none_due t (Some item) d) ∙ e)) in cc)
    at (Some due) d = by (due == t) refl
      where
        by : (s : Bool) → (due == t) ≡ s → (Some item ≡ Some v) × (v.due ≡ Some t)
        by false apart = absurd (let no : true ≡ false = sym (ap is_some (sym (other_due t due (Some item) d apart) ∙ e)) in cc)
        by true same =
            let there : is_due_at t item ≡ true = rw d same in
            let is : Some item ≡ Some v = sym (ap (λ b. cond b (Some item) None) there) ∙ e in
            let now : due ≡ t = grind (arith, nat_tests) in
            (is, ap (λ (o : Option Item). due_in o) (sym is) ∙ d ∙ ap Some now)

module _ (e : (ℕ × List ℕ) × Item) (index : Dues) (xs : Entries) (is : IsIndex (e ∷ index) xs) where
  pub first-is : (find by_bytes e.0.1 xs ≡ Some e.1) × (e.1.due ≡ Some e.0.0)
  first-is = due_of e.0.0 (find by_bytes e.0.1 xs) e.1
      (sym (is.exact e.0.0 e.0.1) ∙ ap (λ b. cond b (Some e.1) (find by_due e.0 index)) (ap is_eq (tied_itself by_due_total e.0)))

  -- it is not alive
  first-due : (moment : ℕ) → nat_lt moment e.0.0 ≡ false → is_alive moment e.1 ≡ false
  first-due moment due = rw first-is.1 due

  first_out : (es : Dues) → below_all by_due e.0 es ≡ true → without_due (Some e.0.0) e.0.1 es ≡ es
  first_out [] h = refl
  first_out (f ∷ es) h =
      let apart : eq_by_cmp by_due e.0 f.0 ≡ false = ap is_eq (lt_is _ (and_parts _ _ h).0) in
      ap (λ b. cond (not b) (f ∷ without_due (Some e.0.0) e.0.1 es) (without_due (Some e.0.0) e.0.1 es)) apart ∙ ap (λ fs. f ∷ fs) (first_out es (and_parts _ _ h).1)

  pub index-rest : IsIndex index (without e.0.1 xs)
  index-rest =
      let out : without_due (Some e.0.0) e.0.1 (e ∷ index) ≡ index =
      ap (λ b. cond (not b) (e ∷ without_due (Some e.0.0) e.0.1 index) (without_due (Some e.0.0) e.0.1 index)) (ap is_eq (tied_itself by_due_total e.0))
      ∙ first_out index (and_parts _ _ is.rises).0 in
      subst (λ (es : Dues). IsIndex es (without e.0.1 xs)) out
      (index-without (e ∷ index) xs e.0.1 (Some e.0.0) is (sym (ap due_in first-is.0 ∙ first-is.1)))

  pub first-fewer : IsTrue (is_sorted by_bytes xs) → length (without e.0.1 xs) + 1 ≡ length xs
  first-fewer sorted =
      let all = length_without by_bytes nat_list_cmp_total e.0.1 xs (as_t _ sorted) in
      let one : cond (is_some (find by_bytes e.0.1 xs)) 1 0 ≡ 1 = ap {B = ℕ} (λ (o : Option Item). cond (is_some o) 1 0) first-is.0 in
      omega (arith, all, one)

  pub first-living : (moment : ℕ) → nat_lt moment e.0.0 ≡ false → IsTrue (is_sorted by_bytes xs) → living moment (without e.0.1 xs) ≡ living moment xs
  first-living moment due sorted =
      same_entries by_bytes nat_list_cmp_total bytes_only _ _
      (as_t _ (sorted_filter by_bytes (λ x. is_alive moment x.1) (without e.0.1 xs) left)) (as_t _ (sorted_filter by_bytes (λ x. is_alive moment x.1) xs sorted))
      (λ q. find_filter nat_list_cmp_total (is_alive moment) q (without e.0.1 xs) left ∙ ap (option_filter (is_alive moment)) (find-without e.0.1 q xs)
      ∙ by q (eq_by_cmp by_bytes e.0.1 q) refl ∙ sym (find_filter nat_list_cmp_total (is_alive moment) q xs sorted))
    where
      left : IsTrue (is_sorted by_bytes (without e.0.1 xs))
      left = sorted_without nat_list_cmp_total (λ x. not (eq_by_cmp by_bytes e.0.1 x)) xs sorted

      by : (q : List ℕ) (b : Bool) → eq_by_cmp by_bytes e.0.1 q ≡ b → option_filter (is_alive moment) (cond (not b) (find by_bytes q xs) None) ≡ option_filter (is_alive moment) (find by_bytes q xs)
      by q true same = sym (ap (λ k. option_filter (is_alive moment) (find by_bytes k xs)) (sym (same_bytes e.0.1 q same)) ∙ ap (option_filter (is_alive moment)) first-is.0
          ∙ ap (λ b. cond b (Some e.1) None) (first-due moment due))
      by q false apart = refl

  -- and so something is dropped
  pub first-dropped : (moment : ℕ) → nat_lt moment e.0.0 ≡ false → IsTrue (is_sorted by_bytes xs) → living moment xs ≢ xs
  first-dropped moment due sorted same =
      let left : find by_bytes e.0.1 (living moment xs) ≡ None =
      find_filter nat_list_cmp_total (is_alive moment) e.0.1 xs sorted ∙ ap (option_filter (is_alive moment)) first-is.0 ∙ ap (λ b. cond b (Some e.1) None) (first-due moment due) in
      absurd (let no : true ≡ false = sym (ap is_some first-is.0) ∙ ap (λ (es : Entries). is_some (find by_bytes e.0.1 es)) (sym same) ∙ ap is_some left in cc)

-- if nothing in the index is due nothing is dropped
pub all-living : (index : Dues) (xs : Entries) (moment : ℕ) → IsIndex index xs → IsTrue (is_sorted by_bytes xs) → later moment index ≡ index → living moment xs ≡ xs
all-living index xs moment is sorted all =
    same_entries by_bytes nat_list_cmp_total bytes_only _ _ (as_t _ (sorted_filter by_bytes (λ x. is_alive moment x.1) xs sorted)) (as_t _ sorted)
    (λ q. find_filter nat_list_cmp_total (is_alive moment) q xs sorted ∙ by q (find by_bytes q xs) refl)
  where
    by : (q : List ℕ) (o : Option Item) → find by_bytes q xs ≡ o → option_filter (is_alive moment) (find by_bytes q xs) ≡ find by_bytes q xs
    by q None e = rw e refl
    by q (Some item) e = at item.due refl
      where
        there : is_alive moment item ≡ true → option_filter (is_alive moment) (find by_bytes q xs) ≡ find by_bytes q xs
        there lives = ap (option_filter (is_alive moment)) e ∙ ap (λ b. cond b (Some item) None) lives ∙ sym e

        at : (due : Option ℕ) → item.due ≡ due → option_filter (is_alive moment) (find by_bytes q xs) ≡ find by_bytes q xs
        at None d = there (rw d refl)
        at (Some due) d = by_time (nat_lt moment due) refl
          where
            same : (due == due) ≡ true
            same = grind (arith, nat_tests)

            stands : find by_due (due, q) index ≡ Some item
            stands = is.exact due q ∙ ap (if_due due) e ∙ ap (λ b. cond b (Some item) None) (ap (λ o. option_map_or (λ x. x == due) o false) d ∙ same)

            by_time : (b : Bool) → nat_lt moment due ≡ b → option_filter (is_alive moment) (find by_bytes q xs) ≡ find by_bytes q xs
            by_time true l = there (rw d l)
            by_time false l = absurd (let no : true ≡ false =
                sym (ap is_some stands) ∙ sym (ap (λ (es : Dues). is_some (find by_due (due, q) es)) all)
                ∙ ap is_some (find-later moment due q index ∙ ap (λ b. cond b (find by_due (due, q) index) None) l) in cc)

length_living : (moment : ℕ) (xs : Entries) → length (living moment xs) ≤ length xs
length_living moment [] = omega arith
length_living moment (e ∷ xs) = elim (is_alive moment e.1) as (λ b. length (cond b (e ∷ living moment xs) (living moment xs)) ≤ suc (length xs)) [
  | true ↦ omega (arith, length_living moment xs)
  | false ↦ omega (arith, length_living moment xs)
]

-- as many items are dropped as are due in the index
pub living-fewer : (moment n : ℕ) (index : Dues) (xs : Entries) → IsIndex index xs → IsTrue (is_sorted by_bytes xs) → n ≤ length index → IsDueUpTo moment index n
    → length (living moment xs) + n ≤ length xs
living-fewer moment zero index xs is sorted within due = omega (arith, length_living moment xs)
living-fewer moment (suc n) [] xs is sorted within due = absurd (omega arith)
living-fewer moment (suc n) (e ∷ index) xs is sorted within due =
    let first : nat_lt moment e.0.0 ≡ false = due zero e (omega arith) in
    let left : IsTrue (is_sorted by_bytes (without e.0.1 xs)) = sorted_without nat_list_cmp_total (λ x. not (eq_by_cmp by_bytes e.0.1 x)) xs sorted in
    let rest = living-fewer moment n index (without e.0.1 xs) (index-rest e index xs is) left (omega arith) (λ k d lt. due (suc k) d (omega arith)) in
    omega (arith, rest, first-fewer e index xs is sorted, ap length (first-living e index xs is moment first sorted))

-- a store's index, after its edits

pub indexed-remove : (index new : Dues) (xs ys : Entries) (key : List ℕ) (time : Option ℕ) → IsIndexed index xs → time ≡ due_in (find by_bytes key xs)
    → new ≡ without_due time key index → ys ≡ without key xs → IsIndexed new ys
indexed-remove index new xs ys key time is due made left =
    subst (λ (both : Dues × Entries). IsIndexed both.0 both.1) (λ i. (sym made i, sym left i)) (record {
      sorted = sorted_without nat_list_cmp_total (λ x. not (eq_by_cmp by_bytes key x)) xs is.sorted;
      indexed = index-without index xs key time is.indexed due;
    })

pub indexed-put : (index new : Dues) (xs ys : Entries) (key : List ℕ) (item : Item) (time : Option ℕ) → IsIndexed index xs → time ≡ due_in (find by_bytes key xs)
    → new ≡ with_due item.due key item (without_due time key index) → ys ≡ put by_bytes key item xs → IsIndexed new ys
indexed-put index new xs ys key item time is due made put_is =
    subst (λ (both : Dues × Entries). IsIndexed both.0 both.1) (λ i. (sym made i, sym put_is i)) (record {
      sorted = sorted_put nat_list_cmp_total key item xs is.sorted;
      indexed = index-put index xs key item time is.indexed due;
    })

pub indexed-alive : (index new : Dues) (xs ys : Entries) (moment n : ℕ) → IsIndexed index xs → IsDueUpTo moment index n → IsLaterFrom moment index n
    → new ≡ drop n index → ys ≡ filter (λ e. is_alive moment e.1) xs → IsIndexed new ys
indexed-alive index new xs ys moment n is due l made kept =
    subst (λ (both : Dues × Entries). IsIndexed both.0 both.1) (λ i. (sym (made ∙ later-from moment n index is.indexed.rises due l) i, sym kept i)) (record {
      sorted = sorted_filter by_bytes (λ e. is_alive moment e.1) xs is.sorted;
      indexed = index-alive index xs moment is.indexed is.sorted;
    })

-- what the map of the entries has at a moment
alive-list : (xs : Entries) (moment : ℕ) → IsTrue (is_sorted by_bytes xs) → alive (from_sorted xs) moment ≡ from_sorted (living moment xs)
alive-list xs moment sorted = same_filter (λ e. is_alive moment e.1) xs sorted

same-living : (xs : Entries) (moment : ℕ) → IsTrue (is_sorted by_bytes xs) → alive (from_sorted xs) moment ≡ from_sorted xs → living moment xs ≡ xs
same-living xs moment sorted same =
    sym (entries-from_sorted by_bytes _ (as_t _ (sorted_filter by_bytes (λ e. is_alive moment e.1) xs sorted)))
    ∙ ap entries (sym (alive-list xs moment sorted) ∙ same) ∙ entries-from_sorted by_bytes xs (as_t _ sorted)

-- nothing is due if the first of the index is not
pub alive-none : (index : Dues) (xs : Entries) (moment : ℕ) → IsIndexed index xs → IsLaterFrom moment index 0 → alive (from_sorted xs) moment ≡ from_sorted xs
alive-none index xs moment is l = alive-list xs moment is.sorted ∙ ap from_sorted (all-living index xs moment is.indexed is.sorted (later-all moment index is.indexed.rises l))

-- and something if it is
pub alive-some : (index : Dues) (xs : Entries) (moment : ℕ) → IsIndexed index xs → 0 < length index → IsDueUpTo moment index 1 → alive (from_sorted xs) moment ≢ from_sorted xs
alive-some [] xs moment is l due same = absurd (omega arith)
alive-some (e ∷ index) xs moment is l due same =
    first-dropped e index xs is.indexed moment (due 0 e (omega arith)) is.sorted (same-living xs moment is.sorted same)

-- if something is due the first of the index is
pub first-found : (index : Dues) (xs : Entries) (moment : ℕ) → IsIndexed index xs → alive (from_sorted xs) moment ≢ from_sorted xs → (0 < length index) × IsDueUpTo moment index 1
first-found [] xs moment is some = absurd (some (alive-none [] xs moment is (λ d l. absurd (omega arith))))
first-found (e ∷ index) xs moment is some = (omega arith, at)
  where
    by : (b : Bool) → nat_lt moment e.0.0 ≡ b → nat_lt moment e.0.0 ≡ false
    by false h = h
    by true h = absurd (some (alive-none (e ∷ index) xs moment is (λ d l. h)))

    at : IsDueUpTo moment (e ∷ index) 1
    at zero d l = by (nat_lt moment e.0.0) refl
    at (suc k) d l = absurd (omega arith)

-- without the first
pub indexed-first : (index new : Dues) (xs ys : Entries) (first : (ℕ × List ℕ) × Item) → IsIndexed index xs → 0 < length index → first ≡ get_or index 0 first
    → new ≡ remove index 0 → ys ≡ without first.0.1 xs → IsIndexed new ys
indexed-first [] new xs ys first is l at made left = absurd (omega arith)
indexed-first (e ∷ index) new xs ys first is l at made left =
    subst (λ (both : Dues × Entries). IsIndexed both.0 both.1) (λ i. (sym made i, sym (left ∙ ap (λ (f : (ℕ × List ℕ) × Item). without f.0.1 xs) at) i)) (record {
      sorted = sorted_without nat_list_cmp_total (λ x. not (eq_by_cmp by_bytes e.0.1 x)) xs is.sorted;
      indexed = index-rest e index xs is.indexed;
    })

pub dropped-first : (index : Dues) (xs ys : Entries) (first : (ℕ × List ℕ) × Item) → IsIndexed index xs → first ≡ get_or index 0 first → 0 < length index → ys ≡ without first.0.1 xs
    → (moment : ℕ) → alive (from_sorted xs) moment ≢ from_sorted xs
    → (alive (from_sorted ys) moment ≡ alive (from_sorted xs) moment) × (length (entries (from_sorted {R = by_bytes} ys)) + 1 ≡ length (entries (from_sorted {R = by_bytes} xs)))
dropped-first [] xs ys first is at l left moment some = absurd (omega arith)
dropped-first (e ∷ index) xs ys first is at l left moment some =
    let sorted = sorted_without nat_list_cmp_total (λ x. not (eq_by_cmp by_bytes e.0.1 x)) xs is.sorted in
    let here : ys ≡ without e.0.1 xs = left ∙ ap (λ (f : (ℕ × List ℕ) × Item). without f.0.1 xs) at in
    let due : nat_lt moment e.0.0 ≡ false = (first-found (e ∷ index) xs moment is some).1 0 e (omega arith) in (
      ap (λ (zs : Entries). alive (from_sorted zs) moment) here ∙ alive-list (without e.0.1 xs) moment sorted
          ∙ ap from_sorted (first-living e index xs is.indexed moment due is.sorted) ∙ sym (alive-list xs moment is.sorted),
      ap (λ n. n + 1) (ap (λ (zs : Entries). length (entries (from_sorted {R = by_bytes} zs))) here ∙ ap length (entries-from_sorted by_bytes (without e.0.1 xs) (as_t _ sorted)))
          ∙ first-fewer e index xs is.indexed is.sorted ∙ sym (ap length (entries-from_sorted by_bytes xs (as_t _ is.sorted))),
    )

-- as many are dropped as were found due
pub fewer : (index : Dues) (xs ys : Entries) (moment n : ℕ) → IsIndexed index xs → n ≤ length index → IsDueUpTo moment index n → ys ≡ living moment xs
    → length (entries (from_sorted {R = by_bytes} ys)) + n ≤ length (entries (from_sorted {R = by_bytes} xs))
fewer index xs ys moment n is within due kept =
    let sorted = sorted_filter by_bytes (λ e. is_alive moment e.1) xs is.sorted in
    let after : length (entries (from_sorted {R = by_bytes} ys)) ≡ length (living moment xs) =
    ap (λ (zs : Entries). length (entries (from_sorted {R = by_bytes} zs))) kept ∙ ap length (entries-from_sorted by_bytes (living moment xs) (as_t _ sorted)) in
    let before : length (entries (from_sorted {R = by_bytes} xs)) ≡ length xs = ap length (entries-from_sorted by_bytes xs (as_t _ is.sorted)) in
    omega (arith, after, before, living-fewer moment n index xs is.indexed is.sorted within due)

negated : (b c : Bool) → b ≡ not c → b ≡ false → c ≡ true
negated b true e h = refl
negated b false e h = absurd (true≢false (sym e ∙ h))

affirmed : (b c : Bool) → b ≡ not c → b ≡ true → c ≡ false
affirmed b true e h = absurd (true≢false (sym h ∙ e))
affirmed b false e h = refl

-- what a look at the first of the index answers
module _ (index : Dues) (xs : Entries) (m : Items) (moment : ℕ) (b : Bool) (is : IsIndexed index xs) (view_is : from_sorted xs ≡ m)
    (none : length index ≤ 0 → b ≡ false) (some : (due : (ℕ × List ℕ) × Item) → 0 < length index → b ≡ not (nat_lt moment (get_or index 0 due).0.0)) where
  pub looked-none : b ≡ false → alive m moment ≡ m
  looked-none out = subst (λ (n : Items). alive n moment ≡ n) view_is (alive-none index xs moment is (λ d l. negated b (nat_lt moment (get_or index 0 d).0.0) (some d l) out))

  pub looked-some : b ≡ true → alive m moment ≢ m
  looked-some found = subst (λ (n : Items). alive n moment ≢ n) view_is (alive-some index xs moment is (by (length index) refl) due)
    where
      by : (n : ℕ) → length index ≡ n → 0 < length index
      by zero e = absurd (true≢false (sym found ∙ none (omega (arith, e))))
      by (suc n) e = omega (arith, e)

      due : IsDueUpTo moment index 1
      due zero d l = affirmed b (nat_lt moment (get_or index 0 d).0.0) (some d (by (length index) refl)) found
      due (suc k) d l = absurd (omega arith)

-- if the index is empty nothing is due
pub none-first : (index : Dues) (xs : Entries) (m : Items) → IsIndexed index xs → from_sorted xs ≡ m → length index ≡ 0 → (moment : ℕ) → alive m moment ≡ m
none-first index xs m is view_is empty moment =
    subst (λ (n : Items). alive n moment ≡ n) view_is (alive-none index xs moment is (λ d l. absurd (omega (arith, l, empty))))
