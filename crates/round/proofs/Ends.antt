-- What the seats and the pages tell together, once no step is left.
use Rattle.std.proofs.Common.{◌≡◌, ℕ, zero, suc, ◌+◌, ◌-◌, ◌%◌, ◌<◌, ◌≤◌, Bool, true, false, cond, List, [], ◌∷◌, ◌++◌, map, length, Some, None, refl, sym, ap, ◌∙◌, arith, subst, leb}
use Rattle.std.specs.Prelude.{slice_get, ◌==◌, filter}
use Rattle.std.specs.List.{AllByRecursion, list_all, range_with_len}
use Rattle.std.proofs.lemmas.Bool.{leb-true, leb-false}
use Rattle.std.proofs.lemmas.Bool.Decides.{nat_tests}
use Rattle.std.proofs.lemmas.List.{take_all, length-map}
use Rattle.std.proofs.Math.Nat.{mod-lt}
use Rattle.items.specs.Map.{Items}
use Rattle.item_steps.specs.Schedule.{GroupRuns, items_after, answers_in, answers_at}
use Rattle.item_steps.specs.declared.step.Stamp.{Stamp}
use Rattle.item_steps.specs.declared.step.Answer.{Answer}
use Rattle.item_steps.specs.declared.group.Task.{Task}
use Rattle.pages.specs.Page.{page_count}
use Rattle.pages.specs.Joined.{joined_pages, parts}
use Rattle.pages.proofs.PartLemmas.{joined-parts}
use Rattle.round.specs.declared.rule.Entry.{Entry}
use Rattle.round.specs.declared.rule.Held.{Held}
use Rattle.round.specs.Tickets.{touches, log_of, name_of_caller, Kinds, AreLogs}
use Rattle.round.specs.Sittings.{Sitting, Running, dealt, log_at, answered_at, running_in, is_done, has_ended, are_apart, Follows, IsSitting}
use Rattle.round.specs.Orders.{AreHistories, AreOf, RoundResult, Gathered, placed_of, answered_of}
use Rattle.round.proofs.Keeps.{caller_touches}
use Rattle.round.proofs.Lists.{same_element, in_filter, filter_within, list_all_at, all_at, map_same}
use Rattle.round.proofs.Replays.{Replayed, replays_held}
use Rattle.round.proofs.Interleaves.{apart_from, Complete, interleaved}
use Rattle.round.proofs.Dealt.{dealt_has, dealt_is}

pub logs_front : (order : List Entry) (hs is : List Held) → AreLogs order (hs ++ is) → AreLogs order hs
logs_front order [] is l = tt
logs_front order (h ∷ hs) is l = (l.0, logs_front order hs is l.1)

pub logs_back : (order : List Entry) (hs is : List Held) → AreLogs order (hs ++ is) → AreLogs order is
logs_back order [] is l = l
logs_back order (h ∷ hs) is l = logs_back order hs is l.1

-- one seat more
pub of_push : (hs : List Held) (ss : List Sitting) (h : Held) (s : Sitting) → AreOf hs ss → h.name ≡ name_of_caller s.caller → h.log ≡ s.log → AreOf (hs ++ h ∷ []) (ss ++ s ∷ [])
of_push [] [] h s are name log = (name, log, tt)
of_push [] (t ∷ ss) h s are name log = absurd are
of_push (g ∷ hs) [] h s are name log = absurd are
of_push (g ∷ hs) (t ∷ ss) h s are name log = (are.0, are.1, of_push hs ss h s are.2 name log)

abbrev Seated : List Entry → Sitting → Type 0
Seated order s = s.log ≡ log_of (name_of_caller s.caller) order

seated : (order : List Entry) (hs : List Held) (ss : List Sitting) → AreOf hs ss → AreLogs order hs → AllByRecursion (Seated order) ss
seated order [] [] are logs = tt
seated order [] (s ∷ ss) are logs = absurd are
seated order (h ∷ hs) [] are logs = absurd are
seated order (h ∷ hs) (s ∷ ss) are logs = (sym are.1 ∙ logs.0 ∙ ap (λ n. log_of n order) are.0, seated order hs ss are.2 logs.1)

-- a seat with no step left has all steps of its requests
complete_seat : (s : Sitting) → Follows s.tasks s.log → has_ended s ≡ true → Complete s.tasks s.log
complete_seat s f ended = record {
  steps = λ i t at.
      let done : leb (length t.steps) (length (answered_at t.place s.log)) ≡ true = list_all_at (λ (task : Task). is_done (running_in s.log task)) s.tasks ended i t at in
      let most = leb-true (length t.steps) (length (answered_at t.place s.log)) done in
      let same : length (answered_at t.place s.log) ≡ length (log_at t.place s.log) = length-map (log_at t.place s.log) (λ (e : Entry). e.answer) in
      f.first i t at ∙ take_all (length (log_at t.place s.log)) t.steps (omega arith);
  no_others = f.no_others;
}

kinds_at : (order : List Entry) → Kinds order → (i : ℕ) (e : Entry) → slice_get order i ≡ Some e → (e.page < page_count) × (page_count ≤ e.caller)
kinds_at [] kinds i e at = absurd (let no : None ≡ Some e = at in cc)
kinds_at (x ∷ xs) kinds zero e at = subst (λ (y : Entry). (y.page < page_count) × (page_count ≤ y.caller)) (same_element x e at) (kinds.0, kinds.1)
kinds_at (x ∷ xs) kinds (suc i) e at = kinds_at xs kinds.2 i e at

is_place : (n m : ℕ) → (n == m) ≡ true → n ≡ m
is_place n m is = grind (arith, nat_tests)

-- the seat of a caller, if the seats are in the order of their callers
caller_at : (ss : List Sitting) (n from : ℕ) → map (λ (s : Sitting). s.caller) ss ≡ range_with_len from n → (i : ℕ) → i < n → (s : Sitting) × (slice_get ss i ≡ Some s) × (s.caller ≡ from + i)
caller_at [] zero from names i lt = absurd (omega arith)
caller_at [] (suc n) from names i lt = absurd (let no : [] ≡ from ∷ range_with_len (from + 1) n = names in cc)
caller_at (s ∷ ss) zero from names i lt = absurd (omega arith)
caller_at (s ∷ ss) (suc n) from names zero lt =
    let zer : from ≡ from + 0 = omega arith in
    let here : s.caller ∷ map (λ (s : Sitting). s.caller) ss ≡ from ∷ range_with_len (from + 1) n = names in
    let first : s.caller ≡ from = cc in
    (s, refl, first ∙ zer)
caller_at (s ∷ ss) (suc n) from names (suc i) lt =
    let here : s.caller ∷ map (λ (s : Sitting). s.caller) ss ≡ from ∷ range_with_len (from + 1) n = names in
    let others : map (λ (s : Sitting). s.caller) ss ≡ range_with_len (from + 1) n = cc in
    let r = caller_at ss n (from + 1) others i (omega arith) in
    let more : (from + 1) + i ≡ from + suc i = omega arith in
    (r.0, r.1, r.2 ∙ more)

map_callers : {Y : Type 0} (g : ℕ → Y) (ss : List Sitting) → map (λ (s : Sitting). g s.caller) ss ≡ map g (map (λ (s : Sitting). s.caller) ss)
map_callers g [] = refl
map_callers g (s ∷ ss) = ap (λ l. g s.caller ∷ l) (map_callers g ss)

-- the answers to a request, of the order and of its answers
answers_given : (place : ℕ) (order : List Entry) → answered_at place order ≡ answers_at place (map answered_of order)
answers_given place [] = refl
answers_given place (e ∷ es) = by (e.place == place) (answers_given place es)
  where
    by : (b : Bool) → answered_at place es ≡ answers_at place (map answered_of es)
        → map (λ (x : Entry). x.answer) (cond b (e ∷ log_at place es) (log_at place es))
        ≡ map (λ (a : ℕ × Answer). a.1) (cond b ((e.place, e.answer) ∷ filter (λ (a : ℕ × Answer). a.0 == place) (map answered_of es)) (filter (λ (a : ℕ × Answer). a.0 == place) (map answered_of es)))
    by true r = ap (λ l. e.answer ∷ l) r
    by false r = r

-- what a round comes to is a run of its group
pub group_runs : (base : Stamp) (m now : Items) (group : List Task) (seats : List Sitting) (answers : List (List Answer)) → RoundResult base m group seats now answers → GroupRuns base m group now answers
group_runs base m now group seats answers e = record {
  order = map placed_of e.order;
  interleaves = e.interleaves;
  items = e.items;
  replies = e.given ∙ map_same (λ (task : Task). answered_at task.place e.order) (λ (task : Task). answers_at task.place (answers_in base m (map placed_of e.order))) group
      (λ i t at. answers_given t.place e.order ∙ ap (answers_at t.place) e.replies);
}

module _ (group : List Task) (callers : ℕ) (apart : are_apart group ≡ true) (order : List Entry) (kinds : Kinds order)
    (none : (n : ℕ) → name_of_caller callers ≤ n → log_of n order ≡ []) (done : (c : ℕ) → c < callers → Complete (dealt callers c group) (log_of (name_of_caller c) order)) where
  none_there : {A : Type 0} (i : ℕ) (e : Entry) → slice_get order i ≡ Some e → name_of_caller callers ≤ e.caller → A
  none_there i e at le =
      let r = in_filter (touches e.caller) order i e at (caller_touches e) in
      let no : None ≡ Some e = sym (ap (λ l. slice_get l r.0) (none e.caller le)) ∙ r.1 in
      absurd cc

  low_caller : (i : ℕ) (e : Entry) → slice_get order i ≡ Some e → e.caller < name_of_caller callers
  low_caller i e at = by (leb (name_of_caller callers) e.caller) refl
    where
      by : (b : Bool) → leb (name_of_caller callers) e.caller ≡ b → e.caller < name_of_caller callers
      by true is = none_there i e at (leb-true (name_of_caller callers) e.caller is)
      by false is = leb-false (name_of_caller callers) e.caller is

  -- each step is one of a request of its caller
  home : (i : ℕ) (e : Entry) → slice_get order i ≡ Some e → (j : ℕ) × (t : Task) × (slice_get group j ≡ Some t) × (t.place ≡ e.place) × (e.caller ≡ name_of_caller (j % callers))
  home i e at =
      let high = (kinds_at order kinds i e at).1 in
      let low = low_caller i e at in
      let c : ℕ = e.caller - page_count in
      let name : e.caller ≡ name_of_caller c = omega arith in
      let r = in_filter (touches e.caller) order i e at (caller_touches e) in
      let few : c < callers = omega arith in
      let o = (done c few).no_others r.0 e (ap (λ n. slice_get (log_of n order) r.0) (sym name) ∙ r.1) in
      let d = dealt_is callers c 0 group o.0 o.1 o.2 in
      let zer : d.0 ≡ 0 + d.0 = omega arith in
      (d.0, o.1, d.1, o.3, name ∙ ap name_of_caller (sym d.2) ∙ ap (λ n. name_of_caller (n % callers)) (sym zer))

  -- the steps of a request are all in its caller's log
  own_log : (j : ℕ) (t : Task) → slice_get group j ≡ Some t → log_at t.place (log_of (name_of_caller (j % callers)) order) ≡ log_at t.place order
  own_log j t there = filter_within (λ (e : Entry). e.place == t.place) (touches (name_of_caller (j % callers))) order (λ i e at is.
      let h = home i e at in
      let same : h.0 ≡ j = apart_from group apart h.0 j h.1 t h.2 there (h.3 ∙ is_place e.place t.place is) in
      subst (λ n. touches n e ≡ true) (h.4 ∙ ap (λ n. name_of_caller (n % callers)) same) (caller_touches e))

  complete : 0 < callers → Complete group order
  complete some = record {
    steps = λ j t there.
        let c : ℕ = j % callers in
        let zer : 0 + j ≡ j = omega arith in
        let d = dealt_has callers c 0 group j t there (ap (λ n. n % callers) zer) in
        sym (ap (λ l. map (λ (e : Entry). e.step) l) (own_log j t there)) ∙ (done c (mod-lt j some)).steps d.0 t d.1;
    no_others = λ i e at. let h = home i e at in (h.0, h.1, h.2, h.3);
  }

  -- the requests of a caller, as its own log tells them and as the order does
  own_running : (c : ℕ) → map (running_in (log_of (name_of_caller c) order)) (dealt callers c group) ≡ map (running_in order) (dealt callers c group)
  own_running c = map_same (running_in (log_of (name_of_caller c) order)) (running_in order) (dealt callers c group) (λ k t at.
      let d = dealt_is callers c 0 group k t at in
      let zer : d.0 ≡ 0 + d.0 = omega arith in
      let mine : d.0 % callers ≡ c = ap (λ n. n % callers) zer ∙ d.2 in
      let logs : log_at t.place (log_of (name_of_caller c) order) ≡ log_at t.place order = ap (λ n. log_at t.place (log_of (name_of_caller n) order)) (sym mine) ∙ own_log d.0 t d.1 in
      ap (λ l. record { task = t; answers = map (λ (e : Entry). e.answer) l }) logs)

  pub running_lists : (seats : List Sitting) → map (λ (s : Sitting). s.caller) seats ≡ range_with_len 0 callers → AllByRecursion (IsSitting group callers) seats → AllByRecursion (Seated order) seats
      → map (λ (s : Sitting). map (running_in s.log) s.tasks) seats ≡ map (λ c. map (running_in order) (dealt callers c group)) (range_with_len 0 callers)
  running_lists seats names sat logs =
      let list = λ (c : ℕ). map (running_in order) (dealt callers c group) in
      map_same (λ (s : Sitting). map (running_in s.log) s.tasks) (λ (s : Sitting). list s.caller) seats (λ i s at.
      let is = all_at (IsSitting group callers) seats sat i s at in
      let log = all_at (Seated order) seats logs i s at in
      (λ k. map (running_in (log k)) (is.has k)) ∙ own_running s.caller)
      ∙ map_callers list seats ∙ ap (map list) names

-- each caller's log has all steps of its requests
all_complete : (group : List Task) (callers : ℕ) (order : List Entry) (seats : List Sitting) → map (λ (s : Sitting). s.caller) seats ≡ range_with_len 0 callers → AllByRecursion (IsSitting group callers) seats
    → list_all has_ended seats ≡ true → AllByRecursion (Seated order) seats → (c : ℕ) → c < callers → Complete (dealt callers c group) (log_of (name_of_caller c) order)
all_complete group callers order seats names sat ended logs c few =
    let r = caller_at seats callers 0 names c few in
    let s : Sitting = r.0 in
    let is = all_at (IsSitting group callers) seats sat c s r.1 in
    let zer : 0 + c ≡ c = omega arith in
    let mine : s.caller ≡ c = r.2 ∙ zer in
    let log : s.log ≡ log_of (name_of_caller c) order = all_at (Seated order) seats logs c s r.1 ∙ ap (λ n. log_of (name_of_caller n) order) mine in
    let tasks : s.tasks ≡ dealt callers c group = is.has ∙ ap (λ n. dealt callers n group) mine in
    subst (λ (x : List Task × List Entry). Complete x.0 x.1) (λ i. (tasks i, log i)) (complete_seat s is.follows (list_all_at has_ended seats ended c s r.1))

-- What the pages and the seats of a round tell of it, once all its steps were made, with the order that the ticket word tells of.
pub record Told (base : Stamp) (opening : Items) (group : List Task) (callers : ℕ) (order : List Entry) (now : List Items) (seats : List Sitting) : Type 0 where
  pub apart : are_apart group ≡ true
  pub some : 0 < callers
  pub names : map (λ (s : Sitting). s.caller) seats ≡ range_with_len 0 callers
  pub sat : AllByRecursion (IsSitting group callers) seats
  pub ended : list_all has_ended seats ≡ true
  pub wide : length now ≡ page_count
  pub kinds : Kinds order
  pub none : (n : ℕ) → name_of_caller callers ≤ n → log_of n order ≡ []
  pub histories : (hs : List Held) × AreHistories base opening 0 hs now × AreLogs order hs
  pub seated : (hs : List Held) × AreOf hs seats × AreLogs order hs

module _ {base : Stamp} {opening : Items} {group : List Task} {callers : ℕ} {order : List Entry} {now : List Items} {seats : List Sitting} (t : Told base opening group callers order now seats) where
  logs : AllByRecursion (Seated order) seats
  logs = seated order t.seated.0 seats t.seated.1 t.seated.2

  complete_logs : (c : ℕ) → c < callers → Complete (dealt callers c group) (log_of (name_of_caller c) order)
  complete_logs = all_complete group callers order seats t.names t.sat t.ended logs

  pub replayed : Replayed base (parts opening) order now
  replayed = replays_held base opening t.histories.0 now order t.wide t.kinds t.histories.1 t.histories.2

  ends : RoundResult base opening group seats (joined_pages now) (map (λ (task : Task). answered_at task.place order) group)
  ends = record {
    order = order;
    interleaves = interleaved order group (apart_from group t.apart) (complete group callers t.apart order t.kinds t.none complete_logs t.some);
    seated = logs;
    items = replayed.items ∙ ap (λ m. items_after base m (map placed_of order)) (joined-parts opening);
    replies = replayed.replies ∙ ap (λ m. answers_in base m (map placed_of order)) (joined-parts opening);
    given = refl;
  }

  pub gathered : (lists : List (List Running)) → lists ≡ map (λ (s : Sitting). map (running_in s.log) s.tasks) seats → Gathered base opening group callers seats (joined_pages now) lists
  gathered lists are = record {
    order = order;
    ended = ends;
    requests = are ∙ running_lists group callers t.apart order t.kinds t.none complete_logs seats t.names t.sat logs;
  }
