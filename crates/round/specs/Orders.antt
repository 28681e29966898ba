-- One order of all steps of a round, and what it gives.
use Rattle.std.specs.Prelude.{◌≡◌, ℕ, ◌+◌, List, [], ◌∷◌, map}
use Rattle.std.specs.List.{AllByRecursion, range_with_len}
use Rattle.atomic_table.specs.Seated.{TableId}
use Rattle.atomic_table.specs.declared.shared.Seat.{Seat}
use Rattle.items.specs.Map.{Items}
use Rattle.item_steps.specs.Schedule.{Placed, IsInterleaving, placed, items_after, answers_in}
use Rattle.item_steps.specs.declared.step.Stamp.{Stamp}
use Rattle.item_steps.specs.declared.step.Answer.{Answer}
use Rattle.item_steps.specs.declared.group.Task.{Task}
use Rattle.pages.specs.Page.{page_items}
use Rattle.round.specs.declared.rule.Entry.{Entry}
use Rattle.round.specs.declared.rule.Held.{Held}
use Rattle.round.specs.declared.rule.View.{View}
use Rattle.round.specs.Tickets.{log_of, name_of_caller}
use Rattle.round.specs.Histories.{IsRoundHistory}
use Rattle.round.specs.Sittings.{Sitting, Running, running_in, dealt, answered_at}

abbrev pub placed_of : Entry → Placed
placed_of e = (e.place, e.step)

abbrev pub answered_of : Entry → ℕ × Answer
answered_of e = (e.place, e.answer)

-- what is held is the history of the pages from number p on, which began as parts of this map
abbrev pub AreHistories : Stamp → Items → ℕ → List Held → List Items → Type 0
AreHistories base opening p [] [] = Unit {0}
AreHistories base opening p [] (m ∷ ms) = ⊥
AreHistories base opening p (h ∷ hs) [] = ⊥
AreHistories base opening p (h ∷ hs) (m ∷ ms) = (h.name ≡ p) × IsRoundHistory base p (page_items opening p) h.log m × AreHistories base opening (p + 1) hs ms

-- what is held are the steps of these seats
abbrev pub AreOf : List Held → List Sitting → Type 0
AreOf [] [] = Unit {0}
AreOf [] (s ∷ ss) = ⊥
AreOf (h ∷ hs) [] = ⊥
AreOf (h ∷ hs) (s ∷ ss) = (h.name ≡ name_of_caller s.caller) × (h.log ≡ s.log) × AreOf hs ss

-- the same token, which may hold more
abbrev pub IsAsBefore : TableId → Seat ℕ View → Seat ℕ View → Type 0
IsAsBefore table t u = (u.table_id ≡ table) × (u.me.1 ≡ []) × (u.me.0.makes ≡ t.me.0.makes) × (u.me.0.next ≡ t.me.0.next)

-- What a round comes to: there is one order in which each step of the group is once, those of a request in their order and those of a
-- seat as it made them; in that order the steps lead from the opening items to these, and answered what each request is given.
pub record RoundResult (base : Stamp) (opening : Items) (group : List Task) (seats : List Sitting) (now : Items) (answers : List (List Answer)) : Type 0 where
  pub order : List Entry
  pub interleaves : IsInterleaving (placed group) (map placed_of order)
  pub seated : AllByRecursion (λ s. s.log ≡ log_of (name_of_caller s.caller) order) seats
  pub items : now ≡ items_after base opening (map placed_of order)
  pub replies : map answered_of order ≡ answers_in base opening (map placed_of order)
  pub given : answers ≡ map (λ task. answered_at task.place order) group

-- What the pages and the seats of a round give once no step is left: there is one order of all steps, from which each caller's requests have
-- their answers, and with the answers that it gives to each request the round comes to these items.
pub record Gathered (base : Stamp) (opening : Items) (group : List Task) (callers : ℕ) (seats : List Sitting) (now : Items) (lists : List (List Running)) : Type 0 where
  pub order : List Entry
  pub ended : RoundResult base opening group seats now (map (λ task. answered_at task.place order) group)
  pub requests : lists ≡ map (λ caller. map (running_in order) (dealt callers caller group)) (range_with_len 0 callers)
