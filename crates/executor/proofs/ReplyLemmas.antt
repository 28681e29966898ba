-- Replies that sessions keep.
use Rattle.std.proofs.Common.{◌≡◌, ◌≢◌, ℕ, ◌+◌, ◌<◌, Bool, true, false, cond, List, [], ◌∷◌, ◌++◌, map, length, take, drop, get_or, Option, Some, None, refl, sym, ap, ◌∙◌, arith}
use Rattle.std.specs.Prelude.{if◌then◌else◌, not, ◌&&◌, ◌||◌, ◌==◌}
use Rattle.std.specs.List.{list_any}
use Rattle.std.specs.Ordering.{nat_cmp, eq_by_cmp}
use Rattle.std.specs.Cmp.{nat_cmp_total}
use Rattle.std.specs.FinMap.{get, insert, get-insert}
use Rattle.std.proofs.lemmas.Bool.{eq-eqb}
use Rattle.std.proofs.lemmas.Bool.Decides.{nat_tests}
use Rattle.std.proofs.lemmas.List.{drop_more, length-take-le}
use Rattle.base.specs.declared.fault.Fault.{Fault}
use Rattle.proto.specs.declared.reply.Reply.{Reply}
use Rattle.item_steps.specs.Steps.{reply}
use Rattle.item_steps.specs.Schedule.{answers_at}
use Rattle.sessions.specs.declared.request.Request.{Request}
use Rattle.sessions.specs.declared.sessions.LastReply.{LastReply}
use Rattle.sessions.specs.Fresh.{Replies, is_next}
use Rattle.batches.specs.declared.batch.Batch.{Batch}
use Rattle.wire.specs.Record.{Refused}
use Rattle.wire.proofs.Values.{Refused-weaker}
use Rattle.pages.proofs.JoinedLemmas.{same_number}
use Rattle.executor.specs.declared.answered.Answered.{Answered}
use Rattle.states.specs.State.{StateView}
use Rattle.executor.specs.Fresh.{Runner, runs, runners_among, fresh_after}
use Rattle.executor.specs.Round.{Round, runners, answered, kept_after}
use Rattle.executor.specs.Kept.{kept_for, reply_kept, AreKept, LackOne}

-- a list with none is not of replies alone
none_among : (xs others : List Answered) (later : List (Option Answered)) → map Some xs ++ None ∷ later ≡ map Some others → ⊥
none_among [] [] later e = cc e
none_among [] (y ∷ others) later e = cc e
none_among (x ∷ xs) [] later e = cc e
none_among (x ∷ xs) (y ∷ others) later e =
    let tail : map Some xs ++ None ∷ later ≡ map Some others = cc e in
    none_among xs others later tail

-- replies that are kept are given by the sessions
pub one_list : (xs ys : List Answered) → map Some xs ≡ map Some ys → xs ≡ ys
one_list [] [] e = refl
one_list [] (y ∷ ys) e = absurd (cc e)
one_list (x ∷ xs) [] e = absurd (cc e)
one_list (x ∷ xs) (y ∷ ys) e =
    let head : ◌≡◌ {A = Option Answered} (Some x) (Some y) = cc e in
    let same : x ≡ y = cc head in
    let tail : map Some xs ≡ map Some ys = cc e in
    (λ i. same i ∷ one_list xs ys tail i)

-- if no reply is kept for a request that ran
pub lacks : (s before : Replies) (requests : List Request) (place : ℕ) (q : Request) (replies : List Answered) → place < length requests → q ≡ get_or requests place q → runs before (take place requests) q ≡ true
    → map Some replies ++ map (kept_for s) (fresh_after before (take place requests) (drop place requests)) ≡ map (kept_for s) (runners_among before requests) → (e : Fault)
    → Refused e (kept_for s (place, q) ≡ None) → Refused e (LackOne s (runners_among before requests))
lacks s before requests place q replies within at ran so_far e = Refused-weaker e (λ (none : kept_for s (place, q) ≡ None) others kept.
    let here : drop place requests ≡ q ∷ drop (place + 1) requests = drop_more requests place q within ∙ ap (λ x. x ∷ drop (place + 1) requests) (sym at) in
    let long : length (take place requests) ≡ place = length-take-le place requests (omega (arith, within)) in
    let others_ran : List Runner = fresh_after before (take place requests ++ q ∷ []) (drop (place + 1) requests) in
    let first : fresh_after before (take place requests) (drop place requests) ≡ (place, q) ∷ others_ran =
    ap (fresh_after before (take place requests)) here ∙ (ap (λ b. (if b then (length (take place requests), q) ∷ [] else []) ++ others_ran) ran ∙ ap (λ n. (n, q) ∷ others_ran) long) in
    let whole : map Some replies ++ None ∷ map (kept_for s) others_ran ≡ map Some others =
    ap (λ o. map Some replies ++ o ∷ map (kept_for s) others_ran) (sym none) ∙ (ap (λ rs. map Some replies ++ map (kept_for s) rs) (sym first) ∙ (so_far ∙ kept)) in
    none_among replies others (map (kept_for s) others_ran) whole)

-- what is true of each member of a list
abbrev Every : {X : Type 0} → (X → Type 0) → List X → Type 0
Every P [] = Unit {0}
Every P (x ∷ xs) = P x × Every P xs

every_weaker : {X : Type 0} (P Q : X → Type 0) (xs : List X) → ((x : X) → P x → Q x) → Every P xs → Every Q xs
every_weaker P Q [] f all = tt
every_weaker P Q (x ∷ xs) f all = (f x all.0, every_weaker P Q xs f all.1)

none_in_front : (p : Request → Bool) (xs ys : List Request) → list_any p (xs ++ ys) ≡ false → list_any p xs ≡ false
none_in_front p [] ys e = refl
none_in_front p (x ∷ xs) ys e = by (p x) e (none_in_front p xs ys)
  where
    by : (b : Bool) → (b || list_any p (xs ++ ys)) ≡ false → (list_any p (xs ++ ys) ≡ false → list_any p xs ≡ false) → (b || list_any p xs) ≡ false
    by true e more = e
    by false e more = more e

none_behind : (p : Request → Bool) (xs ys : List Request) → list_any p (xs ++ ys) ≡ false → list_any p ys ≡ false
none_behind p [] ys e = e
none_behind p (x ∷ xs) ys e = by (p x) e (none_behind p xs ys)
  where
    by : (b : Bool) → (b || list_any p (xs ++ ys)) ≡ false → (list_any p (xs ++ ys) ≡ false → list_any p ys ≡ false) → list_any p ys ≡ false
    by true e more = absurd (cc e)
    by false e more = more e

-- no earlier request is of its client
abbrev IsNew : List Request → Runner → Type 0
IsNew earlier r = list_any (λ e. e.client == r.1.client) earlier ≡ false

not_is : (a b : Bool) → (a && not b) ≡ true → b ≡ false
not_is true true e = absurd (cc e)
not_is true false e = refl
not_is false b e = absurd (cc e)

all_new : (before : Replies) (earlier later : List Request) → Every (IsNew earlier) (fresh_after before earlier later)
all_new before earlier [] = tt
all_new before earlier (q ∷ later) =
    by (runs before earlier q) refl
    (every_weaker (IsNew (earlier ++ q ∷ [])) (IsNew earlier) (fresh_after before (earlier ++ q ∷ []) later) (λ r new. none_in_front (λ e. e.client == r.1.client) earlier (q ∷ []) new) (all_new before (earlier ++ q ∷ []) later))
  where
    by : (b : Bool) → runs before earlier q ≡ b → Every (IsNew earlier) (fresh_after before (earlier ++ q ∷ []) later)
        → Every (IsNew earlier) ((if b then (length earlier, q) ∷ [] else []) ++ fresh_after before (earlier ++ q ∷ []) later)
    by true e others = (not_is (is_next before q) (list_any (λ x. x.client == q.client) earlier) e, others)
    by false e others = others

-- the clients of all are different
abbrev AreApart : List Runner → Type 0
AreApart [] = Unit {0}
AreApart (r ∷ rs) = Every (λ x. x.1.client ≢ r.1.client) rs × AreApart rs

other_client : (q : Request) (r : Runner) → list_any (λ e. e.client == r.1.client) (q ∷ []) ≡ false → r.1.client ≢ q.client
other_client q r new same =
    let clash : true ≡ false = sym (ap (λ b. b || false) (eq-eqb q.client r.1.client (sym same))) ∙ new in
    cc clash

pub clients_apart : (before : Replies) (earlier later : List Request) → AreApart (fresh_after before earlier later)
clients_apart before earlier [] = tt
clients_apart before earlier (q ∷ later) =
    by (runs before earlier q)
    (every_weaker (IsNew (earlier ++ q ∷ [])) (λ x. x.1.client ≢ q.client) (fresh_after before (earlier ++ q ∷ []) later) (λ r new. other_client q r (none_behind (λ e. e.client == r.1.client) earlier (q ∷ []) new)) (all_new before (earlier ++ q ∷ []) later))
    (clients_apart before (earlier ++ q ∷ []) later)
  where
    by : (b : Bool) → Every (λ x. x.1.client ≢ q.client) (fresh_after before (earlier ++ q ∷ []) later) → AreApart (fresh_after before (earlier ++ q ∷ []) later)
        → AreApart ((if b then (length earlier, q) ∷ [] else []) ++ fresh_after before (earlier ++ q ∷ []) later)
    by true new others = (new, others)
    by false new others = others

same_client : (c : ℕ) → eq_by_cmp nat_cmp c c ≡ true
same_client c = grind (arith, nat_tests)

different_client : (c d : ℕ) → d ≢ c → eq_by_cmp nat_cmp c d ≡ false
different_client c d apart = grind (arith, nat_tests)

module _ (reply_to : Runner → Reply) where
  abbrev answer_to : Runner → Answered
  answer_to r = record { place = r.0; client = r.1.client; number = r.1.number; reply = reply_to r }

  abbrev kept_of : Runner → LastReply
  kept_of r = record { number = r.1.number; reply = reply_to r }

  -- what is kept of a client is not touched by replies to others
  untouched : (s : Replies) (rs : List Runner) (c : ℕ) → Every (λ x. x.1.client ≢ c) rs → get (kept_after s (map answer_to rs)) c ≡ get s c
  untouched s [] c apart = refl
  untouched s (r ∷ rs) c apart =
      untouched (insert s r.1.client (kept_of r)) rs c apart.1
      ∙ (get-insert nat_cmp_total s r.1.client (kept_of r) c ∙ ap (λ b. cond b (Some (kept_of r)) (get s c)) (different_client c r.1.client apart.0))

  -- the sessions after the replies keep each
  pub all_kept : (s : Replies) (rs : List Runner) → AreApart rs → AreKept (kept_after s (map answer_to rs)) rs (map answer_to rs)
  all_kept s [] apart = refl
  all_kept s (r ∷ rs) apart =
      let now : Replies = insert s r.1.client (kept_of r) in
      let found : get (kept_after now (map answer_to rs)) r.1.client ≡ Some (kept_of r) =
      untouched now rs r.1.client apart.0 ∙ (get-insert nat_cmp_total s r.1.client (kept_of r) r.1.client ∙ ap (λ b. cond b (Some (kept_of r)) (get s r.1.client)) (same_client r.1.client)) in
      let head : kept_for (kept_after now (map answer_to rs)) r ≡ Some (answer_to r) = ap (reply_kept r) found ∙ ap (λ b. if b then Some (answer_to r) else None) (same_number r.1.number) in
      (λ i. head i ∷ all_kept now rs apart.1 i)

-- a round's sessions keep its replies
pub round_kept : (base : StateView) (batch : Batch) (ordered : Bool) (after : StateView) (replies : List Answered) → Round base batch ordered after replies → AreKept after.sessions (runners base batch) replies
round_kept base batch ordered after replies round =
    let kept = all_kept (λ r. reply r.1.command (answers_at r.0 round.answers)) base.sessions (runners base batch) (clients_apart base.sessions [] batch.requests) in
    let sessions : kept_after base.sessions (map (answered round.answers) (runners base batch)) ≡ after.sessions = ap (kept_after base.sessions) (sym round.replied) ∙ sym round.sessions in
    λ i. (ap (λ s. map (kept_for s) (runners base batch)) (sym sessions) ∙ (kept ∙ ap (map Some) (sym round.replied))) i
