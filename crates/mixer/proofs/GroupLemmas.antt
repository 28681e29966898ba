-- What a look at the next request does to the lists of the definition.
use Rattle.std.proofs.Common.{◌≡◌, ℕ, zero, suc, ◌+◌, ◌<◌, ◌≤◌, Bool, true, false, cond, List, [], ◌∷◌, ◌++◌, length, take, drop, filter, map, max, get_or, nat_eq, drop-cons, add-one, append_assoc, refl, sym, ap, ◌∙◌, arith, All}
use Rattle.std.specs.Prelude.{fold, if◌then◌else◌}
use Rattle.std.specs.List.{zip}
use Rattle.std.specs.Ordering.{nat_cmp, ord_max}
use Rattle.std.proofs.lemmas.Bool.Decides.{nat_tests}
use Rattle.std.proofs.lemmas.List.{length-take-le}
use Rattle.std.proofs.lemmas.List.Elements.{All-push, All-weaker}
use Rattle.proto.specs.declared.command.Command.{Command}
use Rattle.sessions.specs.declared.request.Request.{Request}
use Rattle.item_steps.specs.declared.group.Task.{Task}
use Rattle.mixer.specs.Groups.{conflicts, commands_of, number_after, numbers_from, task_of, tasks_from, members}

pub ord_max-nat_cmp : (a b : ℕ) → ord_max nat_cmp a b ≡ max a b
ord_max-nat_cmp a b = grind (arith, nat_tests)

pub bounded : (b : Bool) (most n all : ℕ) → most ≤ all → n < all → cond b (max most (n + 1)) most ≤ all
bounded true most n all h g = omega arith
bounded false most n all h g = h

pub equal_is : (a b : ℕ) → a ≡ b → nat_eq a b ≡ true
equal_is a b e = grind (arith, nat_tests)

pub other_is : (a b : ℕ) → (a ≡ b → ⊥) → nat_eq a b ≡ false
other_is a b e = grind (arith, nat_tests)

joined : {A : Type 0} (b : Bool) (xs : List A) (x : A) (ys : List A) → cond b (xs ++ x ∷ []) xs ++ ys ≡ xs ++ cond b (x ∷ ys) ys
joined true xs x ys = append_assoc xs (x ∷ []) ys
joined false xs x ys = refl

-- the number after these, if it is `most` after those before them
abbrev pub number_from : ℕ → List (Command × ℕ) → Command → ℕ
number_from most earlier c = fold (λ m e. if conflicts e.0 c then max m (e.1 + 1) else m) most earlier

drop-at : {A : Type 0} (xs : List A) (i : ℕ) (d : A) → i < length xs → drop i xs ≡ get_or xs i d ∷ drop (i + 1) xs
drop-at xs i d h = rw add-one (drop-cons xs i d h)

take-at : {A : Type 0} (xs : List A) (i : ℕ) (d : A) → i < length xs → take (i + 1) xs ≡ take i xs ++ get_or xs i d ∷ []
take-at [] i d h = absurd (omega arith)
take-at (x ∷ xs) zero d h = refl
take-at (x ∷ xs) (suc i) d h = rw add-one (ap (λ ys. x ∷ ys) (rw add-one at (take-at xs i d (omega arith))))

-- one more turn over the earlier requests
pub number_more : (rs : List Request) (ns : List ℕ) (c : Command) (i : ℕ) (d : Request) (most next all : ℕ) → i < length rs → i < length ns → number_from most (zip (commands_of (drop i rs)) (drop i ns)) c ≡ all
    → next ≡ cond (conflicts (get_or rs i d).command c) (max most (get_or ns i 0 + 1)) most
    → number_from next (zip (commands_of (drop (i + 1) rs)) (drop (i + 1) ns)) c ≡ all
number_more rs ns c i d most next all h g before is =
    ap (λ m. number_from m (zip (commands_of (drop (i + 1) rs)) (drop (i + 1) ns)) c) is
    ∙ ap (λ ys. number_from most (zip (commands_of ys) (get_or ns i 0 ∷ drop (i + 1) ns)) c) (sym (drop-at rs i d h))
    ∙ ap (λ ms. number_from most (zip (commands_of (drop i rs)) ms) c) (sym (drop-at ns i 0 g))
    ∙ before

pub members-first : (number n : ℕ) (task : Task) (ts : List (ℕ × Task)) → members number ((n, task) ∷ ts) ≡ cond (nat_eq n number) (task ∷ members number ts) (members number ts)
members-first number n task ts = elim (nat_eq n number) as (λ b. map (λ t. t.1) (cond b ((n, task) ∷ filter (λ t. nat_eq t.0 number) ts) (filter (λ t. nat_eq t.0 number) ts)) ≡ cond b (task ∷ members number ts) (members number ts)) [ true ↦ refl | false ↦ refl ]

-- one more turn over the requests, in search of the members of a group
pub members_more : (rs : List Request) (ns : List ℕ) (number i : ℕ) (d : Request) (tasks next all : List Task) → i < length rs → i < length ns → tasks ++ members number (zip (drop i ns) (tasks_from i (drop i rs))) ≡ all
    → next ≡ cond (nat_eq (get_or ns i 0) number) (tasks ++ task_of i (get_or rs i d) ∷ []) tasks
    → next ++ members number (zip (drop (i + 1) ns) (tasks_from (i + 1) (drop (i + 1) rs))) ≡ all
members_more rs ns number i d tasks next all h g before is =
    let more = members number (zip (drop (i + 1) ns) (tasks_from (i + 1) (drop (i + 1) rs))) in
    let task = task_of i (get_or rs i d) in
    let whole : members number (zip (drop i ns) (tasks_from i (drop i rs))) ≡ members number (zip (get_or ns i 0 ∷ drop (i + 1) ns) (task ∷ tasks_from (i + 1) (drop (i + 1) rs))) =
    ap (λ ms. members number (zip ms (tasks_from i (drop i rs)))) (drop-at ns i 0 g) ∙ ap (λ ys. members number (zip (get_or ns i 0 ∷ drop (i + 1) ns) (tasks_from i ys))) (drop-at rs i d h) in
    ap (λ ts. ts ++ more) is ∙ joined (nat_eq (get_or ns i 0) number) tasks task more ∙ ap (λ ts. tasks ++ ts) (sym (members-first number (get_or ns i 0) task (zip (drop (i + 1) ns) (tasks_from (i + 1) (drop (i + 1) rs)))) ∙ sym whole) ∙ before

zip-push : {A B : Type 0} (xs : List A) (ys : List B) (x : A) (y : B) → length xs ≡ length ys → zip (xs ++ x ∷ []) (ys ++ y ∷ []) ≡ zip xs ys ++ (x, y) ∷ []
zip-push [] [] x y h = refl
zip-push [] (b ∷ ys) x y h = absurd (omega arith)
zip-push (a ∷ xs) [] x y h = absurd (omega arith)
zip-push (a ∷ xs) (b ∷ ys) x y h = ap (λ es. (a, b) ∷ es) (zip-push xs ys x y (omega arith))

commands-push : (rs : List Request) (r : Request) → commands_of (rs ++ r ∷ []) ≡ commands_of rs ++ r.command ∷ []
commands-push [] r = refl
commands-push (x ∷ rs) r = ap (λ cs. x.command ∷ cs) (commands-push rs r)

pub length-commands : (rs : List Request) → length (commands_of rs) ≡ length rs
length-commands [] = refl
length-commands (r ∷ rs) = ap suc (length-commands rs)

-- one more request has its number
pub numbers_more : (rs : List Request) (ns all : List ℕ) (i n : ℕ) (d : Request) → i < length rs → length ns ≡ i → ns ++ numbers_from (zip (commands_of (take i rs)) ns) (commands_of (drop i rs)) ≡ all
    → n ≡ number_after (zip (commands_of (take i rs)) ns) (get_or rs i d).command
    → (ns ++ n ∷ []) ++ numbers_from (zip (commands_of (take (i + 1) rs)) (ns ++ n ∷ [])) (commands_of (drop (i + 1) rs)) ≡ all
numbers_more rs ns all i n d h len before is =
    let c = (get_or rs i d).command in
    let earlier = zip (commands_of (take i rs)) ns in
    let rest = commands_of (drop (i + 1) rs) in
    let longer : zip (commands_of (take (i + 1) rs)) (ns ++ n ∷ []) ≡ earlier ++ (c, n) ∷ [] =
    ap (λ ys. zip (commands_of ys) (ns ++ n ∷ [])) (take-at rs i d h)
    ∙ ap (λ cs. zip cs (ns ++ n ∷ [])) (commands-push (take i rs) (get_or rs i d))
    ∙ zip-push (commands_of (take i rs)) ns c n (length-commands (take i rs) ∙ length-take-le i rs (omega arith) ∙ sym len) in
    append_assoc ns (n ∷ []) _
    ∙ ap (λ es. ns ++ n ∷ numbers_from es rest) longer
    ∙ ap (λ m. ns ++ m ∷ numbers_from (earlier ++ (c, m) ∷ []) rest) is
    ∙ ap (λ ys. ns ++ numbers_from earlier (commands_of ys)) (sym (drop-at rs i d h))
    ∙ before

pub below_next : (i n : ℕ) (ns : List ℕ) → All (λ m. m < i) ns → n ≤ i → All (λ m. m < i + 1) (ns ++ n ∷ [])
below_next i n ns h g = All-push (λ m. m < i + 1) ns n (All-weaker (λ m. m < i) (λ m. m < i + 1) (λ x below. omega arith) ns h) (omega arith)
