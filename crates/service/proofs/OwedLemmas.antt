-- What is outstanding is remembered, whatever is called.
use Rattle.std.proofs.Common.{◌≡◌, ◌⊎◌, inl, inr, ⊎_elim, ℕ, zero, suc, ◌-◌, ◌≤◌, Bool, true, false, List, [], ◌∷◌, ◌++◌, Option, Some, None, refl, sym, ap, ◌∙◌, subst, arith, slice_get, slice_set}
use Rattle.std.specs.Prelude.{◌≢◌, Contains, is_some, if◌then◌else◌}
use Rattle.std.proofs.lemmas.Bool.{eq-eqb}
use Rattle.std.proofs.lemmas.List.Elements.{Contains-push, Contains-append_left}
use Rattle.proto.specs.declared.command.Command.{Command}
use Rattle.session.specs.declared.session.Awaited.{Awaited}
use Rattle.session.specs.Session.{is_outstanding_as}
use Rattle.session.specs.declared.session.Ready.{Ready}
use Rattle.loop_messages.specs.declared.message.TheConstants.{MOST_UNWRITTEN}
use Rattle.connections.specs.declared.slots.ConnectionId.{ConnectionId}
use Rattle.grammar.specs.declared.reader.Dialect.{Dialect}
use Rattle.connections.specs.Connection.{ConnectionView, new_connection}
use Rattle.connections.specs.Slots.{slot_in, is_of_connection, is_untaken_in, is_untaken, left_at, after_written, written_at, HasSameOthers, IsGrown}
use Rattle.connections.specs.Owed.{HasSameOutstanding, HasCommand, ReadsFurther, AnswersOn, BecomesAt, IsTakenAt, HasNoneToTake}
use Rattle.connections.proofs.SlotLemmas.{set_get, set_other, same_or_not}
use Rattle.connections.proofs.OwedLemmas.{left_own, written_back, written_others}
use Rattle.connections.proofs.AtLemmas.{set_same, left_others}
use Rattle.loop_messages.specs.declared.message.Said.{Said}
use Rattle.connections.specs.Connections.{ConnectionsView}
use Rattle.ensemble.specs.Ensemble.{EnsembleView}
use Rattle.service.specs.declared.asking.Asking.{Asking}
use Rattle.service.specs.declared.asking.Asking.TheVariants as asking
use Rattle.service.specs.declared.assignment.Assignment.{Assignment}
use Rattle.service.specs.declared.assignment.Outstanding.{Outstanding}
use Rattle.service.specs.declared.note.Waiting.{Waiting}
use Rattle.service.specs.Steps.{is_request_of, owed_of, TakesOne, TakesWaitIn, TakesWaitAt, SetsWaitIn, SetsWaitAt, AsksFor, Settles}
use Rattle.service.specs.Owed.{IsInQueue, IsWaitedFor, IsRememberedAs, IsRemembered, Remembers, StillRemembers, queue_with, RepliesAt, IsFreeIn, WaitsNow, EndsWaitAt, KeepsOwed}

abbrev Table : Type 0
Table = List (Option ConnectionView)

abbrev Pool : Type 0
Pool = List (Option Outstanding)

-- another connection than the one of this id
abbrev IsOther : ConnectionId → ℕ → ℕ → Type 0
IsOther at key number = (key ≢ at.key) ⊎ (number ≢ at.number)

abbrev QueueKeeps : ConnectionId → List Waiting → List Waiting → Type 0
QueueKeeps at queue queue_now = (key number : ℕ) → IsOther at key number → IsInQueue queue key number → IsInQueue queue_now key number

abbrev PoolKeeps : ConnectionId → Pool → Pool → Type 0
PoolKeeps at pool pool_now = (key number turn : ℕ) → IsOther at key number → IsWaitedFor pool key number turn → IsWaitedFor pool_now key number turn

-- ---- one connection

-- who is remembered still is, if the queue and the proxies keep it
pub mono : (queue queue_now : List Waiting) (pool pool_now : Pool) (key : ℕ) (c : ConnectionView) → (IsInQueue queue key c.number → IsInQueue queue_now key c.number) → ((turn : ℕ) → IsWaitedFor pool key c.number turn → IsWaitedFor pool_now key c.number turn)
    → IsRemembered queue pool key c → IsRemembered queue_now pool_now key c
mono queue queue_now pool pool_now key c queues pools = by c.session.outstanding c.session.command
  where
    by : (o : Option Awaited) (m : Option Command) → IsRememberedAs queue pool key c o m → IsRememberedAs queue_now pool_now key c o m
    by None m r = tt
    by (Some asked) (Some command) r = ⊎_elim (λ (there : IsInQueue queue key c.number). inl (queues there)) (λ (behind : MOST_UNWRITTEN ≤ c.unwritten). inr behind) r
    by (Some asked) None r = pools asked.number r

-- a connection with the same outstanding command
pub as_before : (queue : List Waiting) (pool : Pool) (key : ℕ) (c d : ConnectionView) → d.number ≡ c.number → (MOST_UNWRITTEN ≤ c.unwritten → MOST_UNWRITTEN ≤ d.unwritten) → HasSameOutstanding c d → IsRemembered queue pool key c → IsRemembered queue pool key d
as_before queue pool key c d number behind same r =
    subst (λ (z : Option Awaited × Option Command). IsRememberedAs queue pool key d z.0 z.1) (λ i. (sym same.0 i, sym same.1 i)) (by c.session.outstanding c.session.command r)
  where
    by : (o : Option Awaited) (m : Option Command) → IsRememberedAs queue pool key c o m → IsRememberedAs queue pool key d o m
    by None m r = tt
    by (Some asked) (Some command) r = ⊎_elim (λ (there : IsInQueue queue key c.number). inl (subst (IsInQueue queue key) (sym number) there)) (λ (le : MOST_UNWRITTEN ≤ c.unwritten). inr (behind le)) r
    by (Some asked) None r = subst (λ (n : ℕ). IsWaitedFor pool key n asked.number) (sym number) r

-- a connection whose command is to be taken, and that is in the queue
pub enqueued : (queue : List Waiting) (pool : Pool) (key : ℕ) (d : ConnectionView) → HasCommand d → IsInQueue queue key d.number → IsRemembered queue pool key d
enqueued queue pool key d has there = by d.session.outstanding d.session.command has
  where
    by : (o : Option Awaited) (m : Option Command) → is_some m ≡ true → IsRememberedAs queue pool key d o m
    by None m has = tt
    by (Some asked) (Some command) has = inl there
    by (Some asked) None has = absurd (cc has)

-- one that has nothing outstanding
pub at_rest : (queue : List Waiting) (pool : Pool) (key : ℕ) (d : ConnectionView) → d.session.outstanding ≡ None → IsRemembered queue pool key d
at_rest queue pool key d none = subst (λ (o : Option Awaited). IsRememberedAs queue pool key d o d.session.command) (sym none) tt

-- ---- the queue

more_in_queue : (queue : List Waiting) (w : Waiting) (key number : ℕ) → IsInQueue queue key number → IsInQueue (queue ++ w ∷ []) key number
more_in_queue queue w key number i = record { waiting = i.waiting; there = Contains-append_left queue (w ∷ []) i.waiting i.there; key_is = i.key_is; number_is = i.number_is }

pub joined_keeps : (b : Bool) (queue : List Waiting) (w : Waiting) (key number : ℕ) → IsInQueue queue key number → IsInQueue (queue_with b queue w) key number
joined_keeps true queue w key number i = more_in_queue queue w key number i
joined_keeps false queue w key number i = i

joined_there : (b : Bool) (queue : List Waiting) (w : Waiting) → b ≡ true → IsInQueue (queue_with b queue w) w.at.key w.at.number
joined_there true queue w e = record { waiting = w; there = Contains-push queue w; key_is = refl; number_is = refl }
joined_there false queue w e = absurd (cc e)

-- who is here with a command to be taken joins the queue
untaken_is : (at : ConnectionId) (table : Table) (d : ConnectionView) → slot_in table at.key ≡ Some d → d.number ≡ at.number → HasCommand d → is_untaken_in at.number table at.key ≡ true
untaken_is at table d e number has = ap (is_untaken at.number) e ∙ rw (eq-eqb d.number at.number number) has

pub joins : (at : ConnectionId) (table : Table) (queue : List Waiting) (w : Waiting) (d : ConnectionView) → w.at ≡ at → slot_in table at.key ≡ Some d → d.number ≡ at.number → HasCommand d → IsInQueue (queue_with (is_untaken_in at.number table at.key) queue w) at.key d.number
joins at table queue w d of e number has =
    subst (λ (z : ℕ × ℕ). IsInQueue (queue_with (is_untaken_in at.number table at.key) queue w) z.0 z.1) (λ i. ((of i).key, (ap (λ (p : ConnectionId). p.number) of ∙ sym number) i))
    (joined_there (is_untaken_in at.number table at.key) queue w (untaken_is at table d e number has))

in_tail : (w : Waiting) (queue : List Waiting) (x : Waiting) → Contains (w ∷ queue) x → (w ≡ x) ⊎ Contains queue x
in_tail w queue x (zero, lt, e) = inl e
in_tail w queue x (suc k, lt, e) = inr (k, omega (arith, lt), e)

-- the first of the queue goes
pub popped : (w : Waiting) (queue : List Waiting) → QueueKeeps w.at (w ∷ queue) queue
popped w queue key number other i = ⊎_elim
    (λ (same : w ≡ i.waiting). absurd (⊎_elim
    (λ (differs : key ≢ w.at.key). differs (sym (ap (λ (x : Waiting). x.at.key) same ∙ i.key_is)))
    (λ (differs : number ≢ w.at.number). differs (sym (ap (λ (x : Waiting). x.at.number) same ∙ i.number_is)))
    other))
    (λ (there : Contains queue i.waiting). record { waiting = i.waiting; there = there; key_is = i.key_is; number_is = i.number_is })
    (in_tail w queue i.waiting i.there)

-- ---- all connections

-- what one call does of one connection
pub step : (queue queue_now : List Waiting) (pool pool_now : Pool) (table table_now : Table) (at : ConnectionId) → HasSameOthers at.key table table_now → QueueKeeps at queue queue_now → PoolKeeps at pool pool_now
    → ((d : ConnectionView) → slot_in table_now at.key ≡ Some d → ((d.number ≢ at.number) × (slot_in table at.key ≡ Some d)) ⊎ IsRemembered queue_now pool_now at.key d)
    → Remembers queue pool table → Remembers queue_now pool_now table_now
step queue queue_now pool pool_now table table_now at others queues pools own r key d e = ⊎_elim
    (λ (same : key ≡ at.key). subst (λ (k : ℕ). IsRemembered queue_now pool_now k d) (sym same) (⊎_elim
    (λ (was : (d.number ≢ at.number) × (slot_in table at.key ≡ Some d)). mono queue queue_now pool pool_now at.key d (queues at.key d.number (inr was.0)) (λ turn. pools at.key d.number turn (inr was.0)) (r at.key d was.1))
    (λ (is : IsRemembered queue_now pool_now at.key d). is)
    (own d (subst (λ (k : ℕ). slot_in table_now k ≡ Some d) same e))))
    (λ (differs : key ≢ at.key). mono queue queue_now pool pool_now key d (queues key d.number (inl differs)) (λ turn. pools key d.number turn (inl differs)) (r key d (sym (others key differs) ∙ e)))
    (same_or_not key at.key)

same_queue : (at : ConnectionId) (queue : List Waiting) → QueueKeeps at queue queue
same_queue at queue key number other i = i

same_pool : (at : ConnectionId) (pool : Pool) → PoolKeeps at pool pool
same_pool at pool key number turn other i = i

joined_queue : (at : ConnectionId) (b : Bool) (queue : List Waiting) (w : Waiting) → QueueKeeps at queue (queue_with b queue w)
joined_queue at b queue w key number other i = joined_keeps b queue w key number i

pub left_remembers : (queue : List Waiting) (table table_now : Table) (at : ConnectionId) → table_now ≡ left_at at table → StillRemembers queue queue table table_now
left_remembers queue table table_now at left pool r =
    subst (Remembers queue pool) (sym left) (step queue queue pool pool table (left_at at table) at (left_others at table) (same_queue at queue) (same_pool at pool) (λ d e. inl (left_own at table d e)) r)

pub grown_remembers : (queue : List Waiting) (pool : Pool) (table table_now : Table) → IsGrown table table_now → Remembers queue pool table → Remembers queue pool table_now
grown_remembers queue pool table table_now grown r key d e = r key d (sym (grown key) ∙ e)

pub came_remembers : (dialect : Dialect) (queue : List Waiting) (pool : Pool) (table table_now : Table) (at : ConnectionId) → HasSameOthers at.key table table_now → slot_in table_now at.key ≡ Some (new_connection dialect at.number) → Remembers queue pool table → Remembers queue pool table_now
came_remembers dialect queue pool table table_now at others here r =
    step queue queue pool pool table table_now at others (same_queue at queue) (same_pool at pool)
    (λ d e. let is : new_connection dialect at.number ≡ d = (let s : ◌≡◌ {A = Option ConnectionView} (Some (new_connection dialect at.number)) (Some d) = sym here ∙ e in cc s) in
    inr (at_rest queue pool at.key d (sym (ap (λ (c : ConnectionView). c.session.outstanding) is))))
    r

pub heard_remembers : (queue : List Waiting) (table table_now : Table) (at : ConnectionId) (w : Waiting) → w.at ≡ at → HasSameOthers at.key table table_now → BecomesAt ReadsFurther at table table_now → StillRemembers queue (queue_with (is_untaken_in at.number table_now at.key) queue w) table table_now
heard_remembers queue table table_now at w of others becomes pool r =
    let b = is_untaken_in at.number table_now at.key in
    step queue (queue_with b queue w) pool pool table table_now at others (joined_queue at b queue w) (same_pool at pool)
    (λ d e.
    let was = becomes d e in
    let c = was.0 in
    let reads = was.3 in
    inr (⊎_elim
    (λ (same : HasSameOutstanding c d). as_before (queue_with b queue w) pool at.key c d reads.number reads.behind same (mono queue (queue_with b queue w) pool pool at.key c (λ i. joined_keeps b queue w at.key c.number i) (λ turn i. i) (r at.key c was.1)))
    (λ (has : HasCommand d). enqueued (queue_with b queue w) pool at.key d has (joins at table_now queue w d of e (reads.number ∙ was.2) has))
    reads.owes))
    r

pub written_remembers : (queue : List Waiting) (table : Table) (at : ConnectionId) (count : ℕ) (w : Waiting) → w.at ≡ at → StillRemembers queue (queue_with (is_untaken_in at.number (written_at at count table) at.key) queue w) table (written_at at count table)
written_remembers queue table at count w of pool r =
    let now = written_at at count table in
    let b = is_untaken_in at.number now at.key in
    let queue_now = queue_with b queue w in
    step queue queue_now pool pool table now at (written_others at count table) (joined_queue at b queue w) (same_pool at pool)
    (λ d e.
    let back = written_back at count at.key table d e in
    let c = back.was in
    let kept : IsRemembered queue_now pool at.key c = mono queue queue_now pool pool at.key c (λ i. joined_keeps b queue w at.key c.number i) (λ turn i. i) (r at.key c back.there) in
    inr (⊎_elim
    (λ (same : d ≡ c). subst (IsRemembered queue_now pool at.key) (sym same) kept)
    (λ less. by_command queue_now pool at.key c d less.0 kept (λ has. joins at now queue w d of e (ap (λ (x : ConnectionView). x.number) less.0 ∙ less.1) has))
    back.became))
    r
  where
    -- one of which less waits to be written
    by_command : (queue : List Waiting) (pool : Pool) (key : ℕ) (c d : ConnectionView) → d ≡ after_written count c → IsRemembered queue pool key c → (HasCommand d → IsInQueue queue key d.number) → IsRemembered queue pool key d
    by_command queue pool key c d is kept there = subst (IsRemembered queue pool key) (sym is) (by c.session.outstanding c.session.command kept (λ has. subst (λ (x : ConnectionView). IsInQueue queue key x.number) is (there (subst HasCommand (sym is) has))))
      where
        by : (o : Option Awaited) (m : Option Command) → IsRememberedAs queue pool key c o m → (is_some m ≡ true → IsInQueue queue key c.number) → IsRememberedAs queue pool key (after_written count c) o m
        by None m k there = tt
        by (Some asked) (Some command) k there = inl (there refl)
        by (Some asked) None k there = k

-- ---- what proxies wait for

-- a proxy that waited for nothing waits
pub waits_keeps : (pool pool_now : Pool) (i : ℕ) (o : Outstanding) → slice_get pool i ≡ Some None → pool_now ≡ slice_set pool i (Some o) → KeepsOwed pool pool_now
waits_keeps pool pool_now i o free set key number turn w = ⊎_elim
    (λ (same : w.slot ≡ i). let clash : ◌≡◌ {A = Option (Option Outstanding)} (Some None) (Some (Some w.outstanding)) = sym free ∙ (ap (slice_get pool) (sym same) ∙ w.there) in absurd (cc clash))
    (λ (differs : w.slot ≢ i). record { slot = w.slot; outstanding = w.outstanding; there = ap (λ (p : Pool). slice_get p w.slot) set ∙ (set_other pool i (Some o) w.slot differs ∙ w.there); key_is = w.key_is; number_is = w.number_is; turn_is = w.turn_is })
    (same_or_not w.slot i)

pub waits_there : (pool pool_now : Pool) (i : ℕ) (o : Outstanding) → slice_get pool i ≡ Some None → pool_now ≡ slice_set pool i (Some o) → IsWaitedFor pool_now o.key o.assignment.connection o.assignment.turn
waits_there pool pool_now i o free set = record { slot = i; outstanding = o; there = ap (λ (p : Pool). slice_get p i) set ∙ set_get pool i (Some o) None free; key_is = refl; number_is = refl; turn_is = refl }

-- one that waited for another command still does
ends_keeps : (pool pool_now : Pool) (o : Outstanding) → EndsWaitAt pool o pool_now → (key number turn : ℕ) → (o.key ≡ key → o.assignment.connection ≡ number → o.assignment.turn ≡ turn → ⊥) → IsWaitedFor pool key number turn → IsWaitedFor pool_now key number turn
ends_keeps pool pool_now o ends key number turn other w = ⊎_elim
    (λ (same : w.slot ≡ ends.0).
    let is : w.outstanding ≡ o = (let s : ◌≡◌ {A = Option (Option Outstanding)} (Some (Some w.outstanding)) (Some (Some o)) = sym w.there ∙ (ap (slice_get pool) same ∙ ends.1) in cc s) in
    absurd (other (sym (ap (λ (x : Outstanding). x.key) is) ∙ w.key_is) (sym (ap (λ (x : Outstanding). x.assignment.connection) is) ∙ w.number_is) (sym (ap (λ (x : Outstanding). x.assignment.turn) is) ∙ w.turn_is)))
    (λ (differs : w.slot ≢ ends.0). record { slot = w.slot; outstanding = w.outstanding; there = ap (λ (p : Pool). slice_get p w.slot) ends.2 ∙ (set_other pool ends.0 None w.slot differs ∙ w.there); key_is = w.key_is; number_is = w.number_is; turn_is = w.turn_is })
    (same_or_not w.slot ends.0)

owed_some : (p : Option Outstanding) (key : ℕ) (a : Assignment) → owed_of p ≡ Some (key, a) → (o : Outstanding) × (p ≡ Some o) × (o.key ≡ key) × (o.assignment ≡ a)
owed_some None key a e = let s : ◌≡◌ {A = Option (ℕ × Assignment)} None (Some (key, a)) = e in absurd (cc s)
owed_some (Some o) key a e =
    let s : ◌≡◌ {A = Option (ℕ × Assignment)} (Some (o.key, o.assignment)) (Some (key, a)) = e in
    let t : ◌≡◌ {A = ℕ × Assignment} (o.key, o.assignment) (key, a) = cc s in
    (o, refl, ap (λ (z : ℕ × Assignment). z.0) t, ap (λ (z : ℕ × Assignment). z.1) t)

pub sets_keeps : (pool pool_now : Pool) (i : ℕ) → SetsWaitAt i pool pool_now → KeepsOwed pool pool_now
sets_keeps pool pool_now i s = by (slice_get pool i) refl s
  where
    by : (p : Option (Option Outstanding)) → slice_get pool i ≡ p → SetsWaitIn i pool pool_now p → KeepsOwed pool pool_now
    by None e s key number turn w = subst (λ (p : Pool). IsWaitedFor p key number turn) (sym s) w
    by (Some slot) e s key number turn w = ⊎_elim
        (λ (same : w.slot ≡ i).
        let is : slot ≡ Some w.outstanding = (let t : ◌≡◌ {A = Option (Option Outstanding)} (Some slot) (Some (Some w.outstanding)) = sym e ∙ (ap (slice_get pool) (sym same) ∙ w.there) in cc t) in
        let o = owed_some s.0 w.outstanding.key w.outstanding.assignment (s.1 ∙ ap owed_of is) in
        record { slot = i; outstanding = o.0; there = ap (λ (p : Pool). slice_get p i) s.2 ∙ (set_get pool i s.0 slot e ∙ ap (λ (p : Option Outstanding). Some p) o.1); key_is = o.2 ∙ w.key_is; number_is = ap (λ (a : Assignment). a.connection) o.3 ∙ w.number_is; turn_is = ap (λ (a : Assignment). a.turn) o.3 ∙ w.turn_is })
        (λ (differs : w.slot ≢ i). record { slot = w.slot; outstanding = w.outstanding; there = ap (λ (p : Pool). slice_get p w.slot) s.2 ∙ (set_other pool i s.0 w.slot differs ∙ w.there); key_is = w.key_is; number_is = w.number_is; turn_is = w.turn_is })
        (same_or_not w.slot i)

pub owed_remembers : (queue : List Waiting) (pool pool_now : Pool) (table : Table) → KeepsOwed pool pool_now → Remembers queue pool table → Remembers queue pool_now table
owed_remembers queue pool pool_now table keeps r key d e = mono queue queue pool pool_now key d (λ i. i) (λ turn i. keeps key d.number turn i) (r key d e)

-- ---- a reply comes

more_remembers : (queue : List Waiting) (pool : Pool) (table : Table) (b : Bool) (w : Waiting) → Remembers queue pool table → Remembers (queue_with b queue w) pool table
more_remembers queue pool table b w r key d e = mono queue (queue_with b queue w) pool pool key d (λ i. joined_keeps b queue w key d.number i) (λ turn i. i) (r key d e)

differs_turn : (asked : Awaited) (turn : ℕ) → is_outstanding_as (Some asked) turn ≡ false → turn ≡ asked.number → ⊥
differs_turn asked turn not same = let clash : false ≡ true = sym not ∙ eq-eqb asked.number turn (sym same) in absurd (cc clash)

module _ (queue : List Waiting) (pool pool_now : Pool) (o : Outstanding) (ends : EndsWaitAt pool o pool_now) where
  abbrev asker : ConnectionId
  asker = record { key = o.key; number = o.assignment.connection }

  others_wait : PoolKeeps asker pool pool_now
  others_wait key number turn other w = ends_keeps pool pool_now o ends key number turn
      (λ same_key same_number same_turn. ⊎_elim (λ (differs : key ≢ o.key). differs (sym same_key)) (λ (differs : number ≢ o.assignment.connection). differs (sym same_number)) other) w

  -- its command was not taken, or is another one
  still : (c : ConnectionView) → c.number ≡ o.assignment.connection → HasCommand c ⊎ (is_outstanding_as c.session.outstanding o.assignment.turn ≡ false) → IsRemembered queue pool o.key c → IsRemembered queue pool_now o.key c
  still c number why = by c.session.outstanding c.session.command why
    where
      by : (x : Option Awaited) (m : Option Command) → (is_some m ≡ true) ⊎ (is_outstanding_as x o.assignment.turn ≡ false) → IsRememberedAs queue pool o.key c x m → IsRememberedAs queue pool_now o.key c x m
      by None m why r = tt
      by (Some asked) (Some command) why r = r
      by (Some asked) None why r = ends_keeps pool pool_now o ends o.key c.number asked.number
          (λ same_key same_number same_turn. ⊎_elim (λ (has : is_some {T = Command} None ≡ true). absurd (cc has)) (λ (not : is_outstanding_as (Some asked) o.assignment.turn ≡ false). differs_turn asked o.assignment.turn not same_turn) why) r

  pub answered_remembers : (table table_now : Table) (w : Waiting) → w.at ≡ asker → HasSameOthers o.key table table_now → BecomesAt (AnswersOn o.assignment.turn) asker table table_now → Remembers queue pool table
      → Remembers (queue_with (is_untaken_in o.assignment.connection table_now o.key) queue w) pool_now table_now
  answered_remembers table table_now w of others becomes r =
      let b = is_untaken_in o.assignment.connection table_now o.key in
      let queue_now = queue_with b queue w in
      step queue queue_now pool pool_now table table_now asker others (joined_queue asker b queue w) others_wait
      (λ d e.
      let was = becomes d e in
      let c = was.0 in
      let on = was.3 in
      inr (⊎_elim
      (λ (same : HasSameOutstanding c d × (HasCommand c ⊎ (is_outstanding_as c.session.outstanding o.assignment.turn ≡ false))).
      as_before queue_now pool_now o.key c d on.number on.behind same.0 (mono queue queue_now pool_now pool_now o.key c (λ i. joined_keeps b queue w o.key c.number i) (λ turn i. i) (still c was.2 same.1 (r o.key c was.1))))
      (λ other. ⊎_elim
      (λ (none : d.session.outstanding ≡ None). at_rest queue_now pool_now o.key d none)
      (λ (has : HasCommand d). enqueued queue_now pool_now o.key d has (joins asker table_now queue w d of e (on.number ∙ was.2) has))
      other)
      on.owes))
      r

  -- it is not here
  pub gone_remembers : (table : Table) → ((d : ConnectionView) → slot_in table o.key ≡ Some d → d.number ≢ o.assignment.connection) → Remembers queue pool table → Remembers queue pool_now table
  gone_remembers table not_here r = step queue queue pool pool_now table table asker (λ other differs. refl) (same_queue asker queue) others_wait (λ d e. inl (not_here d e, e)) r

  -- it is here, or not
  pub replied_remembers : (table table_now : Table) (w : Waiting) → w.at ≡ asker → RepliesAt asker o.assignment.turn table table_now → Remembers queue pool table
      → Remembers (queue_with (is_untaken_in o.assignment.connection table_now o.key) queue w) pool_now table_now
  replied_remembers table table_now w of replies r = ⊎_elim
      (λ none. more_remembers queue pool_now table_now (is_untaken_in o.assignment.connection table_now o.key) w (subst (Remembers queue pool_now) (sym none.0) (gone_remembers table (λ d e same. let clash : false ≡ true = sym none.1 ∙ (ap (is_of_connection o.assignment.connection) e ∙ eq-eqb d.number o.assignment.connection same) in absurd (cc clash)) r)))
      (λ some. answered_remembers table table_now w of some.0 some.1 r)
      replies

  -- it leaves
  pub leaves_remembers : (table table_now : Table) → table_now ≡ left_at asker table → Remembers queue pool table → Remembers queue pool_now table_now
  leaves_remembers table table_now left r =
      subst (Remembers queue pool_now) (sym left) (step queue queue pool pool_now table (left_at asker table) asker (left_others asker table) (same_queue asker queue) others_wait (λ d e. inl (left_own asker table d e)) r)

-- ---- a command is asked

module _ (queue : List Waiting) (w : Waiting) (pool : Pool) (table table_now : Table) where
  -- there was none to be asked
  pub nothing_remembers : HasNoneToTake w.at table → Remembers (w ∷ queue) pool table → Remembers queue pool table
  nothing_remembers none r = step (w ∷ queue) queue pool pool table table w.at (λ other differs. refl) (popped w queue) (same_pool w.at pool)
      (λ d e. ⊎_elim
      (λ (same : d.number ≡ w.at.number). inr (untaken d (none d e same) (r w.at.key d e)))
      (λ (differs : d.number ≢ w.at.number). inl (differs, e))
      (same_or_not d.number w.at.number))
      r
    where
      untaken : (d : ConnectionView) → (d.session.command ≡ None) ⊎ (MOST_UNWRITTEN ≤ d.unwritten) → IsRemembered (w ∷ queue) pool w.at.key d → IsRemembered queue pool w.at.key d
      untaken d why = by d.session.outstanding d.session.command why
        where
          by : (o : Option Awaited) (m : Option Command) → (m ≡ None) ⊎ (MOST_UNWRITTEN ≤ d.unwritten) → IsRememberedAs (w ∷ queue) pool w.at.key d o m → IsRememberedAs queue pool w.at.key d o m
          by None m why r = tt
          by (Some asked) (Some command) why r = ⊎_elim (λ (none : ◌≡◌ {A = Option Command} (Some command) None). absurd (cc none)) (λ (le : MOST_UNWRITTEN ≤ d.unwritten). inr le) why
          by (Some asked) None why r = r

  -- it left
  pub failed_remembers : HasSameOthers w.at.key table table_now → slot_in table_now w.at.key ≡ None → Remembers (w ∷ queue) pool table → Remembers queue pool table_now
  failed_remembers others none r = step (w ∷ queue) queue pool pool table table_now w.at others (popped w queue) (same_pool w.at pool)
      (λ d e. let clash : ◌≡◌ {A = Option ConnectionView} None (Some d) = sym none ∙ e in absurd (cc clash)) r

  -- it was asked, and its proxy waits
  pub asked_remembers : (pool_now : Pool) (i : ℕ) (a : Assignment) (ready : Ready) → slice_get pool i ≡ Some None → a.proxy ≡ suc i → a.connection ≡ w.at.number → ready.turn ≡ a.turn → WaitsNow w.at.key a pool pool_now → HasSameOthers w.at.key table table_now → IsTakenAt w.at table table_now ready
      → Remembers (w ∷ queue) pool table → Remembers queue pool_now table_now
  asked_remembers pool_now i a ready free proxy connection turn now others took r =
      let o = now.0 in
      let slot : a.proxy - 1 ≡ i = omega (arith, proxy) in
      let set : pool_now ≡ slice_set pool i (Some o) = now.3 ∙ ap (λ (k : ℕ). slice_set pool k (Some o)) slot in
      let there = waits_there pool pool_now i o free set in
      step (w ∷ queue) queue pool pool_now table table_now w.at others (popped w queue) (λ key number turn other x. waits_keeps pool pool_now i o free set key number turn x)
      (λ d e.
      let is : took.next ≡ d = (let s : ◌≡◌ {A = Option ConnectionView} (Some took.next) (Some d) = sym took.there ∙ e in cc s) in
      let t = took.is in
      let of = t.of_session in
      let waited : IsWaitedFor pool_now w.at.key took.was.number of.asked.number = subst (λ (z : ℕ × ℕ × ℕ). IsWaitedFor pool_now z.0 z.1 z.2)
      (λ j. (now.1 j, (ap (λ (x : Assignment). x.connection) now.2 ∙ (connection ∙ sym took.number)) j, (ap (λ (x : Assignment). x.turn) now.2 ∙ (sym turn ∙ sym of.turn)) j)) there in
      let now_is : took.next ≡ record took.was { session = record took.was.session { command = None } } = t.now_is ∙ (λ j. record { number = took.was.number; session = of.now_is j; unwritten = took.was.unwritten }) in
      inr (subst (IsRemembered queue pool_now w.at.key) (sym now_is ∙ is) (subst (λ (x : Option Awaited). IsRememberedAs queue pool_now w.at.key (record took.was { session = record took.was.session { command = None } }) x None) (sym of.outstanding) waited)))
      r

-- whatever came of it
pub assign_remembers : (queue : List Waiting) (w : Waiting) (pool pool_now : Pool) (v next : ConnectionsView) (proxy : ℕ) (e f : EnsembleView) (asking : Asking) (before now : List Assignment) (said said_now : List Said) → IsFreeIn pool proxy → AsksFor w.at proxy v e next f asking → Settles w.at.key asking pool pool_now before now said said_now
    → Remembers (w ∷ queue) pool v.table → Remembers queue pool_now next.table
assign_remembers queue w pool pool_now v next proxy e f asking.Nothing before now said said_now free asks settles r =
    subst (λ (z : Pool × ConnectionsView). Remembers queue z.0 z.1.table) (λ i. (sym settles.0 i, sym asks.4 i)) (nothing_remembers queue w pool v.table v.table asks.5 r)
assign_remembers queue w pool pool_now v next proxy e f (asking.Asked a) before now said said_now free asks settles r =
    asked_remembers queue w pool v.table next.table pool_now free.0 a asks.ready free.2 (asks.of_proxy ∙ free.1) asks.of_connection asks.turn_is settles.3 asks.others asks.there r
assign_remembers queue w pool pool_now v next proxy e f (asking.Failed given) before now said said_now free asks settles r =
    subst (λ (p : Pool). Remembers queue p next.table) (sym settles.0) (failed_remembers queue w pool v.table next.table asks.3 asks.4 r)

-- ---- a proxy gives back what it waited for

abbrev Cases : Pool → Pool → Option Outstanding → Type 0
Cases pool pool_now result = ((result ≡ None) × (pool_now ≡ pool)) ⊎ ((o : Outstanding) × (result ≡ Some o) × EndsWaitAt pool o pool_now)

both_cases : (i proxy number : ℕ) (pool pool_now : Pool) (result : Option Outstanding) → TakesWaitAt i proxy number pool pool_now result → Cases pool pool_now result
both_cases i proxy number pool pool_now result t = by (slice_get pool i) refl t
  where
    by_some : (o : Outstanding) (b : Bool) (now : Option Outstanding) → slice_get pool i ≡ Some (Some o) → result ≡ (if b then Some o else None) → now ≡ (if b then None else Some o) → pool_now ≡ slice_set pool i now → Cases pool pool_now result
    by_some o true now e is left set = inr (o, is, (i, e, set ∙ ap (slice_set pool i) left))
    by_some o false now e is left set = inl (is, set ∙ (ap (slice_set pool i) left ∙ set_same pool i (Some o) e))

    by_slot : (p now : Option Outstanding) → slice_get pool i ≡ Some p → TakesOne proxy number p now result → pool_now ≡ slice_set pool i now → Cases pool pool_now result
    by_slot None now e one set = inl (one.0, set ∙ (ap (slice_set pool i) one.1 ∙ set_same pool i None e))
    by_slot (Some o) now e one set = by_some o (is_request_of proxy number (Some o)) now e one.0 one.1 set

    by : (p : Option (Option Outstanding)) → slice_get pool i ≡ p → TakesWaitIn i proxy number pool pool_now result p → Cases pool pool_now result
    by None e t = inl (t.1, t.0)
    by (Some p) e t = by_slot p t.0 e t.1 t.2

pub gives_nothing : (i proxy number : ℕ) (pool pool_now : Pool) (result : Option Outstanding) → result ≡ None → TakesWaitAt i proxy number pool pool_now result → pool_now ≡ pool
gives_nothing i proxy number pool pool_now result is t = ⊎_elim (λ none. none.1) (λ some. let clash : ◌≡◌ {A = Option Outstanding} None (Some some.0) = sym is ∙ some.1 in absurd (cc clash)) (both_cases i proxy number pool pool_now result t)

pub gives_back : (i proxy number : ℕ) (pool pool_now : Pool) (o : Outstanding) → TakesWaitAt i proxy number pool pool_now (Some o) → EndsWaitAt pool o pool_now
gives_back i proxy number pool pool_now o t = ⊎_elim
    (λ none. let clash : ◌≡◌ {A = Option Outstanding} (Some o) None = none.0 in absurd (cc clash))
    (λ some. let is : o ≡ some.0 = (let s : ◌≡◌ {A = Option Outstanding} (Some o) (Some some.0) = some.1 in cc s) in subst (λ (x : Outstanding). EndsWaitAt pool x pool_now) (sym is) some.2)
    (both_cases i proxy number pool pool_now (Some o) t)
