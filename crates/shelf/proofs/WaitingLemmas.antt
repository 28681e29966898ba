-- What a save makes of a file and of what is in memory.
use Rattle.std.proofs.Common.{◌≡◌, ℕ, suc, ◌+◌, ◌-◌, ◌<◌, ◌≤◌, Bool, true, false, List, [], ◌∷◌, ◌++◌, length, map, take, drop, flat_map, filter, not, Option, None, Some, refl, sym, ap, ◌∙◌, subst, inl, inr, arith, append_assoc, append-nil}
use mathlib.Core.Logic.{∥∥₁_map}
use Rattle.std.specs.Prelude.{◌==◌, ◌&&◌, ◌⊎◌, if◌then◌else◌, pos, ⊤}
use Rattle.std.specs.List.{AllByRecursion}
use Rattle.std.specs.Ordering.{is_lt, nat_cmp}
use Rattle.std.proofs.lemmas.Bool.{eqb-true}
use Rattle.std.proofs.lemmas.List.{length-append, take-append-drop, drop-append-le}
use Rattle.std.proofs.lemmas.Cmp.{tied_itself}
use Rattle.sqlite_value.specs.declared.value.Value.TheVariants.{Int}
use Rattle.sqlite_value.specs.Order.{Row, value_cmp}
use Rattle.sqlite_value.proofs.OrderLemmas.{value_cmp_total}
use Rattle.sqlite_trees.specs.Tree.{Trees, put_row}
use Rattle.row_store.specs.declared.change.RowChange.{RowChange}
use Rattle.row_store.specs.declared.change.RowChange.TheVariants.{Put, Remove}
use Rattle.row_store.specs.Saved.{after, after_one}
use Rattle.item_rows.specs.Changes.{Rows, ItemChange, with_change, rows_after, or_first, last_change, IsUnnamed}
use Rattle.item_rows.specs.RowItems.{RowItems, items_row, row_of_items}
use Rattle.item_rows.proofs.ChangeLemmas.{or_row, says, last_change-append}
use Rattle.shelf.specs.declared.process.SavedProcess.{SavedProcess}
use Rattle.shelf.specs.declared.reply.ReplyChange.{ReplyChange}
use Rattle.shelf.specs.declared.reply.ReplyChange.TheVariants.{Kept, Gone}
use Rattle.shelf.specs.Rows.{row_at, change_row, change_rows, process_row, process_rows, row_of_change, row_of_reply, change_in}
use Rattle.shelf.specs.WaitingView.{all_of, changed_rows, SaysOfRows, WaitingView, items_at, HasWaiting, removals, first_after, process_changes, planned, waiting_after, process_after, IsAfterSave, Rotates}
use Rattle.shelf.proofs.RowLemmas.{IsNumbered, all_changes, all_others, after-append}
use Rattle.shelf.proofs.LogLemmas.{log_put, log_removed, removes_others}

map_append : {X Y : Type 0} (f : X → Y) (xs ys : List X) → map f (xs ++ ys) ≡ map f xs ++ map f ys
map_append f [] ys = refl
map_append f (x ∷ xs) ys = ap (λ zs. f x ∷ zs) (map_append f xs ys)

pub map_twice : {X Y Z : Type 0} (f : Y → Z) (g : X → Y) (xs : List X) → map (λ x. f (g x)) xs ≡ map f (map g xs)
map_twice f g [] = refl
map_twice f g (x ∷ xs) = ap (λ zs. f (g x) ∷ zs) (map_twice f g xs)

pub all_of-append : (xs ys : List (List RowItems)) → all_of (xs ++ ys) ≡ all_of xs ++ all_of ys
all_of-append [] ys = refl
all_of-append (x ∷ xs) ys = ap (λ zs. x ++ zs) (all_of-append xs ys) ∙ sym (append_assoc x (all_of xs) (all_of ys))

pub changed_rows-append : (rows : Rows Row) (xs ys : List RowItems) (p : ℕ) → changed_rows rows (xs ++ ys) p ≡ changed_rows (changed_rows rows xs) ys p
changed_rows-append rows [] ys p = refl
changed_rows-append rows (x ∷ xs) ys p = changed_rows-append (with_change rows (row_of_change x)) xs ys p

pub changed_alike : (rows other : Rows Row) → ((p : ℕ) → rows p ≡ other p) → (xs : List RowItems) (p : ℕ) → changed_rows rows xs p ≡ changed_rows other xs p
changed_alike rows other h xs p = ap (λ (r : Rows Row). changed_rows r xs p) (λ i q. h q i)

pub numbered : (xs : List RowItems) → AllByRecursion IsNumbered (map row_of_change xs)
numbered [] = tt
numbered ((row_number, []) ∷ xs) = (tt, numbered xs)
numbered ((row_number, e ∷ es) ∷ xs) = (refl, numbered xs)

pub numbered_replies : (rs : List ReplyChange) → AllByRecursion IsNumbered (map row_of_reply rs)
numbered_replies [] = tt
numbered_replies (Kept reply ∷ rs) = (refl, numbered_replies rs)
numbered_replies (Gone client ∷ rs) = (tt, numbered_replies rs)

both_none : {X : Type 0} (a b : Option (Option X)) → or_first a b ≡ None → (a ≡ None) × (b ≡ None)
both_none None b h = (refl, h)
both_none (Some v) b h = cc

-- rows that have the first of the pending changes: the others make of them what all earlier changes make
pub rest_step : (rows now : Rows Row) (front back earlier : List RowItems) → ((p : ℕ) → now p ≡ changed_rows rows front p)
    → ((p : ℕ) → changed_rows rows (front ++ back) p ≡ changed_rows rows earlier p)
    → ((p : ℕ) → IsUnnamed p (map row_of_change earlier) → IsUnnamed p (map row_of_change (front ++ back)))
    → (p : ℕ) → changed_rows now back p ≡ changed_rows now earlier p
rest_step rows now front back earlier is rest named p = go (last_change p (map row_of_change earlier)) refl
  where
    first : changed_rows now back p ≡ changed_rows rows earlier p
    first = changed_alike now (changed_rows rows front) is back p ∙ (sym (changed_rows-append rows front back p) ∙ rest p)

    go : (o : Option (Option Row)) → last_change p (map row_of_change earlier) ≡ o → changed_rows now back p ≡ changed_rows now earlier p
    go (Some v) e =
        first ∙ (says rows (map row_of_change earlier) p ∙ ap (λ (o : Option (Option Row)). or_row o (rows p)) e)
        ∙ sym (says now (map row_of_change earlier) p ∙ ap (λ (o : Option (Option Row)). or_row o (now p)) e)
    go None e =
        let none = both_none (last_change p (map row_of_change back)) (last_change p (map row_of_change front)) (sym (ap (last_change p) (map_append row_of_change front back) ∙ last_change-append p (map row_of_change front) (map row_of_change back)) ∙ named p e) in
        let stays : now p ≡ rows p = is p ∙ (says rows (map row_of_change front) p ∙ ap (λ (o : Option (Option Row)). or_row o (rows p)) none.1) in
        first ∙ (says rows (map row_of_change earlier) p ∙ ap (λ (o : Option (Option Row)). or_row o (rows p)) e)
        ∙ (sym stays ∙ sym (says now (map row_of_change earlier) p ∙ ap (λ (o : Option (Option Row)). or_row o (now p)) e))

pub named_step : (front back earlier : List RowItems)
    → ((p : ℕ) → IsUnnamed p (map row_of_change earlier) → IsUnnamed p (map row_of_change (front ++ back)))
    → (p : ℕ) → IsUnnamed p (map row_of_change earlier) → IsUnnamed p (map row_of_change back)
named_step front back earlier named p e =
    (both_none (last_change p (map row_of_change back)) (last_change p (map row_of_change front)) (sym (ap (last_change p) (map_append row_of_change front back) ∙ last_change-append p (map row_of_change front) (map row_of_change back)) ∙ named p e)).0

-- a file that is as memory has it says what memory has
pub waiting_says : (db : Trees) (s : WaitingView) → HasWaiting db s → SaysOfRows db (items_at s (row_at (db 0)))
waiting_says db s h = record {
  first = s.first;
  log = h.earlier ++ h.later;
  has_log = h.has_log;
  is = λ p. ap (λ xs. changed_rows (row_at (db 0)) xs p) (all_of-append h.earlier h.later ∙ ap (λ xs. all_of h.earlier ++ xs) h.gathered)
      ∙ (changed_rows-append (row_at (db 0)) (all_of h.earlier) s.gathered p
      ∙ changed_alike (changed_rows (row_at (db 0)) (all_of h.earlier)) (changed_rows (row_at (db 0)) s.pending) (λ q. sym (h.rest q)) s.gathered p);
}

drop_own : {X : Type 0} (xs : List X) → drop (length xs) xs ≡ []
drop_own [] = refl
drop_own (x ∷ xs) = drop_own xs

process_put : (process was : Option SavedProcess) (db : Trees) → db 2 ≡ process_rows was → after (process_changes process) db 2 ≡ process_rows (process_after process was)
process_put None was db h = h
process_put (Some p) None db h = ap (λ rows. put_row (process_row p) rows) h
process_put (Some p) (Some q) db h = ap (λ rows. put_row (process_row p) rows) h ∙ rw (tied_itself value_cmp_total (Int (pos 1))) refl

process_others : (process : Option SavedProcess) (u : ℕ) (db : Trees) → (u == 2) ≡ false → after (process_changes process) db u ≡ db u
process_others None u db h = refl
process_others (Some p) u db h = rw h refl

module _ (db : Trees) (s : WaitingView) (count : ℕ) (changes : List RowItems) (process : Option SavedProcess) (replies : List ReplyChange) where
  abbrev front : List RowItems
  front = take count s.pending

  abbrev logged : Trees
  logged = after_one db (Put 1 (change_row s.next changes))

  abbrev rowed : Trees
  rowed = after (map (change_in 0) (map row_of_change front)) logged

  abbrev removed : Trees
  removed = after (removals s.first (first_after s count - s.first)) rowed

  abbrev told : Trees
  told = after (process_changes process) removed

  abbrev replied : Trees
  replied = after (map (change_in 3) (map row_of_reply replies)) told

  abbrev new : Trees
  new = after (planned s count changes process replies) db

  abbrev after_rows : List RowChange
  after_rows = Put 1 (change_row s.next changes) ∷ [] ++ map (λ c. change_in 0 (row_of_change c)) front

  in_steps : new ≡ replied
  in_steps =
      after-append ((after_rows ++ removals s.first (first_after s count - s.first)) ++ process_changes process) (map (λ r. change_in 3 (row_of_reply r)) replies) db
      ∙ (λ i. after (map_twice (change_in 3) row_of_reply replies i) (process_step i))
    where
      row_step : after after_rows db ≡ rowed
      row_step = ap (λ cs. after cs logged) (map_twice (change_in 0) row_of_change front)

      remove_step : after (after_rows ++ removals s.first (first_after s count - s.first)) db ≡ removed
      remove_step = after-append after_rows (removals s.first (first_after s count - s.first)) db ∙ ap (after (removals s.first (first_after s count - s.first))) row_step

      process_step : after ((after_rows ++ removals s.first (first_after s count - s.first)) ++ process_changes process) db ≡ told
      process_step = after-append (after_rows ++ removals s.first (first_after s count - s.first)) (process_changes process) db ∙ ap (after (process_changes process)) remove_step

  -- the rows of items
  pub rows_are : (p : ℕ) → row_at (new 0) p ≡ changed_rows (row_at (db 0)) front p
  rows_are p =
      ap (λ (t : Trees). row_at (t 0) p) in_steps
      ∙ (ap (λ rows. row_at rows p) (all_others 3 0 (map row_of_reply replies) refl told ∙ (process_others process 0 removed refl ∙ removes_others (first_after s count - s.first) s.first 0 rowed refl))
      ∙ all_changes 0 (map row_of_change front) (numbered front) logged p)

  -- the rows of changes
  log_is : new 1 ≡ after (removals s.first (first_after s count - s.first)) rowed 1
  log_is = ap (λ (t : Trees). t 1) in_steps ∙ (all_others 3 1 (map row_of_reply replies) refl told ∙ process_others process 1 removed refl)

  rowed_log : rowed 1 ≡ put_row (change_row s.next changes) (db 1)
  rowed_log = all_others 0 1 (map row_of_change front) refl logged

  pub process_is : (was : Option SavedProcess) → db 2 ≡ process_rows was → new 2 ≡ process_rows (process_after process was)
  process_is was h =
      ap (λ (t : Trees). t 2) in_steps
      ∙ (all_others 3 2 (map row_of_reply replies) refl told
      ∙ process_put process was removed (removes_others (first_after s count - s.first) s.first 2 rowed refl ∙ (all_others 0 2 (map row_of_change front) refl logged ∙ h)))

  pub replies_are : (client : ℕ) → row_at (new 3) client ≡ rows_after (row_at (db 3)) (map row_of_reply replies) client
  replies_are client =
      ap (λ (t : Trees). row_at (t 3) client) in_steps
      ∙ (all_changes 3 (map row_of_reply replies) (numbered_replies replies) told client
      ∙ ap (λ rows. rows_after (row_at rows) (map row_of_reply replies) client)
      (process_others process 3 removed refl ∙ (removes_others (first_after s count - s.first) s.first 3 rowed refl ∙ all_others 0 3 (map row_of_change front) refl logged)))

  -- what is there
  pub items_are : (p : ℕ) → items_at (waiting_after s count changes) (row_at (new 0)) p ≡ changed_rows (items_at s (row_at (db 0))) changes p
  items_are p =
      changed_rows-append (changed_rows (row_at (new 0)) (drop count s.pending)) s.gathered changes p
      ∙ changed_alike _ _ (λ q. changed_alike _ _ pending s.gathered q) changes p
    where
      pending : (q : ℕ) → changed_rows (row_at (new 0)) (drop count s.pending) q ≡ changed_rows (row_at (db 0)) s.pending q
      pending q =
          changed_alike (row_at (new 0)) (changed_rows (row_at (db 0)) front) rows_are (drop count s.pending) q
          ∙ (sym (changed_rows-append (row_at (db 0)) front (drop count s.pending) q)
          ∙ ap (λ xs. changed_rows (row_at (db 0)) xs q) (take-append-drop count s.pending))

  module _ (h : HasWaiting db s) where
    abbrev later : List (List RowItems)
    later = h.later ++ changes ∷ []

    has_new_log : rowed 1 ≡ change_rows s.first (h.earlier ++ later)
    has_new_log =
        rowed_log
        ∙ (ap (λ rows. put_row (change_row s.next changes) rows) h.has_log
        ∙ (log_put s.first s.next (h.earlier ++ h.later) changes (omega (arith, length-append h.earlier h.later, h.earlier_are, h.later_are))
        ∙ ap (change_rows s.first) (append_assoc h.earlier h.later (changes ∷ []))))

    gathered_are : all_of later ≡ s.gathered ++ changes
    gathered_are = all_of-append h.later (changes ∷ []) ∙ (λ i. h.gathered i ++ append-nil changes i)

    later_are : s.middle + length later ≡ s.next + 1
    later_are = omega (arith, length-append h.later (changes ∷ []), h.later_are)

    rest : (p : ℕ) → changed_rows (row_at (new 0)) (drop count s.pending) p ≡ changed_rows (row_at (new 0)) (all_of h.earlier) p
    rest = rest_step (row_at (db 0)) (row_at (new 0)) front (drop count s.pending) (all_of h.earlier) rows_are
        (λ p. ap (λ xs. changed_rows (row_at (db 0)) xs p) (take-append-drop count s.pending) ∙ h.rest p)
        (λ p e. ap (λ xs. last_change p (map row_of_change xs)) (take-append-drop count s.pending) ∙ h.named p e)

    named : (p : ℕ) → IsUnnamed p (map row_of_change (all_of h.earlier)) → IsUnnamed p (map row_of_change (drop count s.pending))
    named = named_step front (drop count s.pending) (all_of h.earlier)
        (λ p e. ap (λ xs. last_change p (map row_of_change xs)) (take-append-drop count s.pending) ∙ h.named p e)

    all_written : (count == length s.pending) ≡ true → drop count s.pending ≡ []
    all_written done = ap (λ n. drop n s.pending) (eqb-true count (length s.pending) done) ∙ drop_own s.pending

    pub still_waiting : (done : Bool) → (count == length s.pending) ≡ done → HasWaiting new (waiting_after s count changes)
    still_waiting true done =
        let first : first_after s count ≡ s.middle = ap (λ (b : Bool). if b then s.middle else s.first) done in
        let count_is : s.middle - s.first ≡ length h.earlier = omega (arith, h.earlier_are) in
        let number_is : first_after s count - s.first ≡ length h.earlier = ap (λ (n : ℕ). n - s.first) first ∙ count_is in
        let enough : length h.earlier ≤ length (h.earlier ++ later) = omega (arith, length-append h.earlier later) in
        let plus : s.middle + 0 ≡ s.middle = omega arith in
        let gone : new 1 ≡ change_rows s.middle later =
        log_is ∙ (ap (λ (n : ℕ). after (removals s.first n) rowed 1) number_is
        ∙ (log_removed (length h.earlier) s.first (h.earlier ++ later) rowed enough has_new_log
        ∙ (λ i. change_rows (h.earlier_are i) (drop_all h.earlier later i)))) in
        record {
          earlier = [];
          later = later;
          has_log = gone ∙ ap (λ (n : ℕ). change_rows n later) (sym first);
          earlier_are = ap (λ (n : ℕ). n + 0) first ∙ plus;
          later_are = later_are;
          gathered = gathered_are;
          rest = λ p. ap (λ (xs : List RowItems). changed_rows (row_at (new 0)) xs p) (all_written done);
          named = λ p e. ap (λ (xs : List RowItems). last_change p (map row_of_change xs)) (all_written done);
        }
      where
        drop_all : {X : Type 0} (xs ys : List X) → drop (length xs) (xs ++ ys) ≡ ys
        drop_all [] ys = refl
        drop_all (x ∷ xs) ys = drop_all xs ys
    still_waiting false done =
        let first : first_after s count ≡ s.first = ap (λ (b : Bool). if b then s.middle else s.first) done in
        let nothing : s.first - s.first ≡ 0 = omega arith in
        let number_is : first_after s count - s.first ≡ 0 = ap (λ (n : ℕ). n - s.first) first ∙ nothing in
        record {
          earlier = h.earlier;
          later = later;
          has_log = log_is ∙ (ap (λ (n : ℕ). after (removals s.first n) rowed 1) number_is ∙ (has_new_log ∙ ap (λ (n : ℕ). change_rows n (h.earlier ++ later)) (sym first)));
          earlier_are = ap (λ (n : ℕ). n + length h.earlier) first ∙ h.earlier_are;
          later_are = later_are;
          gathered = gathered_are;
          rest = rest;
          named = named;
        }

  pub is_after_save : ∥ HasWaiting db s ∥₁ → IsAfterSave db (items_at s (row_at (db 0))) changes process replies new
  is_after_save waiting_view = record {
    items_are = ∥∥₁_map waiting_view (λ h.
        let says_it = waiting_says new (waiting_after s count changes) (still_waiting h (count == length s.pending) refl) in
        record { first = says_it.first; log = says_it.log; has_log = says_it.has_log; is = λ p. sym (sym (items_are p) ∙ sym (says_it.is p)) });
    process_is = process_is;
    replies_are = replies_are;
  }

-- what was gathered is pending now
pub rotated_waits : (db : Trees) (old new : WaitingView) → Rotates old new → HasWaiting db old → HasWaiting db new
rotated_waits db old new t h =
    let short : length h.earlier ≡ 0 = omega (arith, h.earlier_are, t.all_written) in
    let first : new.first ≡ old.first = ap (λ (s : WaitingView). s.first) t.is in
    let middle : new.middle ≡ old.next = ap (λ (s : WaitingView). s.middle) t.is in
    let next : new.next ≡ old.next = ap (λ (s : WaitingView). s.next) t.is in
    let gathered : new.gathered ≡ [] = ap (λ (s : WaitingView). s.gathered) t.is in
    let none : h.earlier ≡ [] = empty h.earlier short in
    let all : all_of (h.earlier ++ h.later) ≡ old.gathered = ap (λ xs. all_of (xs ++ h.later)) none ∙ h.gathered in
    record {
      earlier = h.earlier ++ h.later;
      later = [];
      has_log = h.has_log ∙ (λ i. change_rows (sym first i) (sym (append-nil (h.earlier ++ h.later)) i));
      earlier_are = omega (arith, length-append h.earlier h.later, first, middle, h.earlier_are, h.later_are);
      later_are = omega (arith, middle, next);
      gathered = sym gathered;
      rest = λ p.
          says (row_at (db 0)) (map row_of_change new.pending) p
          ∙ (ap (λ (o : Option (Option Row)). or_row o (row_at (db 0) p)) (t.sorted p ∙ ap (λ xs. last_change p (map row_of_change xs)) (sym all))
          ∙ sym (says (row_at (db 0)) (map row_of_change (all_of (h.earlier ++ h.later))) p));
      named = λ p e. t.sorted p ∙ (ap (λ xs. last_change p (map row_of_change xs)) (sym all) ∙ e);
    }
  where
    empty : {X : Type 0} (xs : List X) → length xs ≡ 0 → xs ≡ []
    empty [] e = refl
    empty (x ∷ xs) e = absurd (omega (arith, e))

pub rotated_items : (rows : Rows Row) (old new : WaitingView) → Rotates old new → (p : ℕ) → items_at new rows p ≡ items_at old rows p
rotated_items rows old new t p =
    let gathered : new.gathered ≡ [] = ap (λ (s : WaitingView). s.gathered) t.is in
    ap (λ xs. changed_rows (changed_rows rows new.pending) xs p) gathered
    ∙ (says rows (map row_of_change new.pending) p
    ∙ (ap (λ (o : Option (Option Row)). or_row o (rows p)) (t.sorted p)
    ∙ (sym (says rows (map row_of_change old.gathered) p) ∙ ap (λ xs. changed_rows (changed_rows rows xs) old.gathered p) (sym t.none))))

-- what is in memory after a save is as the file has it
pub saved_waiting : (db now : Trees) (s noted rotated : WaitingView) (count : ℕ) (changes : List RowItems) (process : Option SavedProcess) (replies : List ReplyChange)
    → now ≡ after (planned s count changes process replies) db → noted ≡ waiting_after s count changes → (rotated ≡ noted) ⊎ Rotates noted rotated
    → HasWaiting db s → HasWaiting now rotated
saved_waiting db now s noted rotated count changes process replies is note rotates h =
    let after_note : HasWaiting now noted =
    subst (λ t. HasWaiting t noted) (sym is)
    (subst (HasWaiting (after (planned s count changes process replies) db)) (sym note) (still_waiting db s count changes process replies h (count == length s.pending) refl)) in
    elim rotates [ inl same ↦ subst (HasWaiting now) (sym same) after_note | inr over ↦ rotated_waits now noted rotated over after_note ]

pub saved_items : (db now : Trees) (s noted rotated : WaitingView) (count : ℕ) (changes : List RowItems) (process : Option SavedProcess) (replies : List ReplyChange)
    → now ≡ after (planned s count changes process replies) db → noted ≡ waiting_after s count changes → (rotated ≡ noted) ⊎ Rotates noted rotated
    → (p : ℕ) → items_at rotated (row_at (now 0)) p ≡ changed_rows (items_at s (row_at (db 0))) changes p
saved_items db now s noted rotated count changes process replies is note rotates p =
    let after_note : items_at noted (row_at (now 0)) p ≡ changed_rows (items_at s (row_at (db 0))) changes p =
    ap (λ (t : Trees). items_at noted (row_at (t 0)) p) is ∙ (ap (λ (t : WaitingView). items_at t (row_at (after (planned s count changes process replies) db 0)) p) note ∙ items_are db s count changes process replies p) in
    elim rotates [
      | inl same ↦ ap (λ (t : WaitingView). items_at t (row_at (now 0)) p) same ∙ after_note
      | inr over ↦ rotated_items (row_at (now 0)) noted rotated over p ∙ after_note
    ]
