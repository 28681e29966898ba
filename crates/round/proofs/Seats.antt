-- What a seat's requests say of what contracts see of it.
use Rattle.std.proofs.Common.{◌≡◌, ℕ, zero, suc, ◌+◌, Bool, true, false, cond, List, [], ◌∷◌, map, get_or, Some, None, Option, refl, sym, ap, ◌∙◌, subst, arith, eq-eqb}
use Rattle.std.specs.Prelude.{slice_get, ◌==◌, ◌||◌, ◌&&◌, option_map}
use Rattle.std.specs.List.{list_all, list_any, position, position_from}
use Rattle.std.specs.Prelude.{IfSome, IfNone}
use Rattle.std.proofs.lemmas.Iterator.Adapters.{position_from-zero}
use Rattle.std.proofs.lemmas.Bool.Decides.{nat_tests}
use Rattle.std.proofs.lemmas.Option.{get_or_from_slice_get, slice_get-get_or}
use Rattle.std.proofs.lemmas.List.Quantifiers.{position-Some}
use Rattle.item_steps.specs.declared.step.Step.{Step}
use Rattle.item_steps.specs.declared.group.Task.{Task}
use Rattle.pages.specs.Page.{page_number}
use Rattle.pages.specs.Step.{step_key, step_page}
use Rattle.round.specs.declared.rule.Entry.{Entry}
use Rattle.round.specs.Sittings.{Running, Sitting, running_in, next_of, dealt, holds, is_done, are_apart, IsAtEnd}
use Rattle.round.proofs.Lists.{same_element, map_at}
use Rattle.round.proofs.Interleaves.{Apart, apart_from}
use Rattle.round.proofs.Dealt.{dealt_apart}
use Rattle.round.proofs.Follows.{tasks_of_running}

pub running_has : (running : List Running) (log : List Entry) (dealt : List Task) → running ≡ map (running_in log) dealt → running ≡ map (running_in log) (map (λ (r : Running). r.task) running)
running_has running log dealt has = has ∙ ap (λ (l : List Task). map (running_in log) l) (sym (ap (λ (l : List Running). map (λ (r : Running). r.task) l) has ∙ tasks_of_running log dealt))

pub running_at : (running : List Running) (log : List Entry) (tasks : List Task) → running ≡ map (running_in log) tasks → (i : ℕ) (t : Task) → slice_get tasks i ≡ Some t → (r : Running) → r ≡ get_or running i r → r ≡ running_in log t
running_at running log tasks has i t at r is = is ∙ ap (λ (l : List Running). get_or l i r) has ∙ get_or_from_slice_get (map (running_in log) tasks) i (running_in log t) r (map_at (running_in log) tasks i t at)

pub page_of_key : (o : Option Step) (key : List ℕ) → Some key ≡ option_map step_key o → Some (page_number key) ≡ option_map step_page o
page_of_key None key e = absurd (let no : Some key ≡ None = e in cc)
page_of_key (Some s) key e = let same : key ≡ step_key s = cc in ap (λ k. Some (page_number k)) same

pub no_page : (o : Option Step) → None ≡ option_map step_key o → None ≡ option_map step_page o
no_page None e = refl
no_page (Some s) e = absurd (let no : None ≡ Some (step_key s) = e in cc)

pub all_done : (log : List Entry) (tasks : List Task) → list_all is_done (map (running_in log) tasks) ≡ list_all (λ (t : Task). is_done (running_in log t)) tasks
all_done log [] = refl
all_done log (t ∷ ts) = ap (λ b. is_done (running_in log t) && b) (all_done log ts)

-- none passes the test
none_from : {X : Type 0} (p : X → Bool) (i : ℕ) (xs : List X) → position_from p i xs ≡ None → list_any p xs ≡ false
none_from p i [] e = refl
none_from p i (x ∷ xs) e = by (p x) (none_from p (i + 1) xs) e
  where
    by : (b : Bool) → (position_from p (i + 1) xs ≡ None → list_any p xs ≡ false) → cond b (Some i) (position_from p (i + 1) xs) ≡ None → (b || list_any p xs) ≡ false
    by true r e = absurd (let no : Some i ≡ None = e in cc)
    by false r e = r e

none_passes : {X : Type 0} (p : X → Bool) (xs : List X) → position p xs ≡ None → list_any p xs ≡ false
none_passes p xs e = none_from p 0 xs (sym (position_from-zero p xs) ∙ e)

any_task : (running : List Running) (place : ℕ) → list_any (λ (r : Running). r.task.place == place) running ≡ list_any (λ (t : Task). t.place == place) (map (λ (r : Running). r.task) running)
any_task [] place = refl
any_task (r ∷ rs) place = ap (λ b. (r.task.place == place) || b) (any_task rs place)

is_place : (n m : ℕ) → (n == m) ≡ true → n ≡ m
is_place n m is = grind (arith, nat_tests)

pub is_held : (tasks : List Task) (place i : ℕ) (t : Task) → slice_get tasks i ≡ Some t → t.place ≡ place → list_any (λ (t : Task). t.place == place) tasks ≡ true
is_held [] place i t at is = absurd (let no : None ≡ Some t = at in cc)
is_held (x ∷ xs) place zero t at is =
    ap (λ b. b || list_any (λ (t : Task). t.place == place) xs) (eq-eqb x.place place (ap (λ (t : Task). t.place) (same_element x t at) ∙ is))
is_held (x ∷ xs) place (suc i) t at is = ap (λ b. (x.place == place) || b) (is_held xs place i t at is) ∙ or_true (x.place == place)
  where
    or_true : (b : Bool) → (b || true) ≡ true
    or_true true = refl
    or_true false = refl

pub end_is_held : (s : Sitting) (place : ℕ) → IsAtEnd s place → holds s place ≡ true
end_is_held s place a = is_held s.tasks place a.index a.task a.there a.its

-- a request that has a step left is not at its end
pub not_at_end : (s : Sitting) (place : ℕ) → Apart s.tasks → (i : ℕ) (t : Task) (step : Step) → slice_get s.tasks i ≡ Some t → t.place ≡ place → next_of (running_in s.log t) ≡ Some step → IsAtEnd s place → ⊥
not_at_end s place apart i t step at its next a =
    let same : a.index ≡ i = apart a.index i a.task t a.there at (a.its ∙ sym its) in
    let task : a.task ≡ t = same_element a.task t (sym a.there ∙ ap (λ k. slice_get s.tasks k) same ∙ at) in
    let no : None ≡ Some step = sym a.ended ∙ ap (λ (t : Task). next_of (running_in s.log t)) task ∙ next in
    absurd cc

pub step_of_page : (o : Option Step) (number : ℕ) → Some number ≡ option_map step_page o → (step : Step) × (o ≡ Some step) × (step_page step ≡ number)
step_of_page None number e = absurd (let no : Some number ≡ None = e in cc)
step_of_page (Some s) number e = (s, refl, let same : number ≡ step_page s = cc in sym same)

pub no_step : (o : Option Step) → None ≡ option_map step_page o → o ≡ None
no_step None e = refl
no_step (Some s) e = absurd (let no : None ≡ Some (step_page s) = e in cc)

-- the requests of a seat are apart
pub seat_apart : (group : List Task) (callers caller : ℕ) (s : Sitting) → are_apart group ≡ true → s.tasks ≡ dealt callers caller group → Apart s.tasks
seat_apart group callers caller s apart is = subst (λ (l : List Task). Apart l) (sym is) (apart_from (dealt callers caller group) (dealt_apart callers caller 0 group apart))

-- a request that was found among the seat's own
pub found_task : (running : List Running) (tasks : List Task) (place i : ℕ) → map (λ (r : Running). r.task) running ≡ tasks → (r : Running) × (slice_get running i ≡ Some r) × (r.task.place ≡ place)
    → (t : Task) × (slice_get tasks i ≡ Some t) × (t.place ≡ place)
found_task running tasks place i is f = (f.0.task, ap (λ (l : List Task). slice_get l i) (sym is) ∙ map_at (λ (r : Running). r.task) running i f.0 f.1, f.2)

pub near_is : (running : List Running) (tasks : List Task) (place : ℕ) → map (λ (r : Running). r.task) running ≡ tasks → (o : Option ℕ)
    → IfSome o (λ i. (r : Running) × (slice_get running i ≡ Some r) × (r.task.place ≡ place)) → (o ≡ None → list_any (λ (r : Running). r.task.place == place) running ≡ false)
    → IfSome o (λ i. (t : Task) × (slice_get tasks i ≡ Some t) × (t.place ≡ place)) × IfNone o (list_any (λ (t : Task). t.place == place) tasks ≡ false)
near_is running tasks place is None some none = (tt, subst (λ (l : List Task). list_any (λ (t : Task). t.place == place) l ≡ false) is (sym (any_task running place) ∙ none refl))
near_is running tasks place is (Some i) some none = (found_task running tasks place i is some, tt)

pub near_at : (running : List Running) (place i : ℕ) → position (λ (r : Running). r.task.place == place) running ≡ Some i → (r : Running) × (slice_get running i ≡ Some r) × (r.task.place ≡ place)
near_at [] place i e = absurd (let no : None ≡ Some i = e in cc)
near_at (x ∷ xs) place i e =
    let f = position-Some (λ (r : Running). r.task.place == place) (x ∷ xs) i x e in
    let r : Running = get_or (x ∷ xs) i x in
    (r, slice_get-get_or (x ∷ xs) i x f.0, is_place r.task.place place f.1)

pub at_is : (running : List Running) (place : ℕ) (o : Option ℕ) → o ≡ position (λ (r : Running). r.task.place == place) running
    → IfSome o (λ i. (r : Running) × (slice_get running i ≡ Some r) × (r.task.place ≡ place)) × (o ≡ None → list_any (λ (r : Running). r.task.place == place) running ≡ false)
at_is running place None e = (tt, λ _. none_passes (λ (r : Running). r.task.place == place) running (sym e))
at_is running place (Some i) e = (near_at running place i (sym e), λ n. absurd (let no : Some i ≡ None = n in cc))
