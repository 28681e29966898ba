-- Each beginning of what passed was a moment, and stays one.
use Rattle.std.proofs.Common.{◌≡◌, ◌⊎◌, inr, ⊎_elim, ℕ, Bool, List, [], ◌∷◌, ◌++◌, map, Option, Some, refl, sym, ap, ◌∙◌, subst, arith, append_assoc}
use Rattle.std.specs.Prelude.{Contains, Result, Ok, Err}
use Rattle.std.proofs.lemmas.List.{append-nil}
use Rattle.std.proofs.lemmas.List.Elements.{Contains-append_left, Contains-append_cases}
use Rattle.base.specs.declared.fault.Fault.{Fault}
use Rattle.proto.specs.declared.reply.Reply as replies
use Rattle.grammar.specs.declared.reader.Dialect.{Dialect}
use Rattle.grammar.specs.Asks.{IsAskedIn}
use Rattle.grammar.proofs.AskLemmas.{asked_stays}
use Rattle.connections.specs.declared.connections.CommandNumber.{CommandNumber}
use Rattle.connections.specs.declared.slots.ConnectionId.{ConnectionId}
use Rattle.loop_messages.specs.declared.message.Said.{Said}
use Rattle.connections.specs.History.{Passed, HistoryView, IsHistory, heard_as, given_as, moment_as, heard_among, given_among, moments_among}
use Rattle.connections.specs.Connections.{ConnectionsView, bytes_in, bytes_of_connection, WasReplied, IsAnswered, IsConnections}
use Rattle.connections.proofs.KeepLemmas.{none_keep}
use Rattle.connections.proofs.HistoryLemmas.{heard_more, nothing_given, moments_both}
use Rattle.connections.proofs.TakeLemmas.{one_of}
use Rattle.connections.proofs.TextLemmas.{answered_longer, answered_implies, bytes_more}
use Rattle.ensemble.specs.declared.answer.Answer.{Answer}
use Rattle.sessions.specs.declared.request.Request.{Request}
use Rattle.ensemble.specs.declared.noted.Noted.TheVariants as noted
use Rattle.ensemble.specs.Moments.{moments_in, latest_of, IsSince}
use Rattle.ensemble.specs.Ensemble.{EnsembleView, answer_entry, order_entry, moment_entry}
use Rattle.ensemble.proofs.Past.{longer_split_late}
use Rattle.ensemble.proofs.Moments.{answers_no_moments, in_these, last_since, last_pushed, since_more}
use Rattle.ensemble.proofs.Moments as of_order
use Rattle.service.specs.declared.assignment.Assignment.{Assignment}
use Rattle.service.specs.declared.assignment.Outstanding.{Outstanding}
use Rattle.service.specs.declared.asking.Asking.{Asking}
use Rattle.service.specs.declared.asking.Asking.TheVariants.{Nothing, Asked, Failed}
use Rattle.service.specs.Service.{ServiceView, IsService, HasMoments, WasMoment, WasAnsweredBy, IsPassedNow, command_number_of, passed_entry, Hears, Gives, GivesNothing, GivesOne}
use Rattle.service.specs.Steps.{AsksFor, Settles}
use Rattle.service.proofs.OrderLemmas.{Order}

abbrev pub Replies : Type 0
Replies = List ((ℕ × ℕ) × replies.Reply)

abbrev pub history_of : ConnectionsView → HistoryView
history_of v = record { heard = v.heard; given = v.given; passed = v.passed }

-- ---- moments that were handed in

-- the replicas were handed only moments that had passed
abbrev pub AreHanded : Order → List Passed → Type 0
AreHanded order passed = (moment : ℕ) → Contains (moments_in order) moment → Contains (moments_among passed) moment

-- it is the last of these, or came later
abbrev IsPassedSince : List Passed → List Passed → ℕ → Type 0
IsPassedSince early late moment = IsSince (moments_among early) (moments_among late) moment

now_since_passed : (passed early late : List Passed) (moment : ℕ) → passed ≡ early ++ late → IsPassedNow passed moment → IsPassedSince early late moment
now_since_passed passed early late moment is now =
    last_since (moments_among early) (moments_among late) moment (ap latest_of (sym (moments_both early late)) ∙ (ap (λ (p : List Passed). latest_of (moments_among p)) (sym is) ∙ now))

later_since : (early late more : List Passed) (moment : ℕ) → IsPassedSince early late moment → IsPassedSince early (late ++ more) moment
later_since early late more moment is = subst (λ (moments : List ℕ). IsSince (moments_among early) moments moment) (sym (moments_both late more)) (since_more (moments_among early) (moments_among late) (moments_among more) moment is)

pub handed_of : (v : ServiceView) → HasMoments v → AreHanded v.order v.connections.passed
handed_of v were moment c =
    let all = v.connections.passed in
    let w = were all [] (sym (append-nil all)) in
    let both : moments_in v.order ≡ moments_in w.order_then ++ moments_in w.later_order = ap moments_in w.split_order ∙ of_order.moments_both w.order_then w.later_order in
    ⊎_elim
    (λ (old : Contains (moments_in w.order_then) moment). w.moments moment old)
    (λ (new : Contains (moments_in w.later_order) moment). ⊎_elim
    (λ (last : latest_of (moments_among all) ≡ Some moment). in_these (moments_among all) moment last)
    (λ (none : Contains [] moment). absurd (let lt = none.1 in omega (arith, lt)))
    (w.later moment new))
    (Contains-append_cases (moments_in w.order_then) (moments_in w.later_order) moment (subst (λ (moments : List ℕ). Contains moments moment) both c))

-- more passed, and no moment was handed in
pub handed_more : (order now : Order) (passed more : List Passed) → moments_in now ≡ moments_in order → AreHanded order passed → AreHanded now (passed ++ more)
handed_more order now passed more same were moment c =
    subst (λ (moments : List ℕ). Contains moments moment) (sym (moments_both passed more)) (Contains-append_left (moments_among passed) (moments_among more) moment (were moment (subst (λ (moments : List ℕ). Contains moments moment) same c)))

-- ---- one moment

-- it stays one as more is asked and answered
pub moment_stays : (d : Dialect) (order more : Order) (assignments added : List Assignment) (answered now : Replies) (passed late : List Passed) → ((x : (ℕ × ℕ) × replies.Reply) → Contains answered x → Contains now x)
    → ((moment : ℕ) → Contains (moments_in more) moment → IsPassedSince passed late moment) → WasMoment d order assignments answered passed late → WasMoment d (order ++ more) (assignments ++ added) now passed late
moment_stays d order more assignments added answered now passed late kept since was = record {
  order_then = was.order_then;
  later_order = was.later_order ++ more;
  split_order = ap (λ (o : Order). o ++ more) was.split_order ∙ append_assoc was.order_then was.later_order more;
  asked_then = was.asked_then;
  asked_later = was.asked_later ++ added;
  split_asked = ap (λ (xs : List Assignment). xs ++ added) was.split_asked ∙ append_assoc was.asked_then was.asked_later added;
  ordered = was.ordered;
  heard = was.heard;
  given = λ c. answered_implies d (WasAnsweredBy was.asked_then answered was.order_then c) (WasAnsweredBy was.asked_then now was.order_then c) (bytes_of_connection c (heard_among passed)) (bytes_of_connection c (given_among passed))
      (λ turn reply w. (w.0, w.1, w.2, w.3, kept ((w.0.proxy, w.0.number), reply) w.4, w.5)) (was.given c);
  moments = was.moments;
  later = λ moment c. ⊎_elim
      (λ (old : Contains (moments_in was.later_order) moment). was.later moment old)
      (λ (new : Contains (moments_in more) moment). since moment new)
      (Contains-append_cases (moments_in was.later_order) (moments_in more) moment (subst (λ (moments : List ℕ). Contains moments moment) (of_order.moments_both was.later_order more) c));
}

-- and as more passes
pub moment_late : (d : Dialect) (order : Order) (assignments : List Assignment) (answered : Replies) (passed late more : List Passed) → WasMoment d order assignments answered passed late → WasMoment d order assignments answered passed (late ++ more)
moment_late d order assignments answered passed late more was = record {
  order_then = was.order_then;
  later_order = was.later_order;
  split_order = was.split_order;
  asked_then = was.asked_then;
  asked_later = was.asked_later;
  split_asked = was.split_asked;
  ordered = was.ordered;
  heard = was.heard;
  given = was.given;
  moments = was.moments;
  later = λ moment c. later_since passed late more moment (was.later moment c);
}

-- one more piece is heard
moment_heard : (d : Dialect) (order : Order) (assignments : List Assignment) (answered : Replies) (passed late : List Passed) (number : ℕ) (piece : List ℕ) → WasMoment d order assignments answered passed late → WasMoment d order assignments answered (passed ++ heard_as number piece ∷ []) late
moment_heard d order assignments answered passed late number piece was = record {
  order_then = was.order_then;
  later_order = was.later_order;
  split_order = was.split_order;
  asked_then = was.asked_then;
  asked_later = was.asked_later;
  split_asked = was.split_asked;
  ordered = was.ordered;
  heard = λ a i.
      let h = was.heard a i in
      (h.0, subst (λ (bytes : List ℕ). IsAskedIn d bytes a.turn h.0) (sym (more a.connection)) (asked_stays d (bytes_of_connection a.connection (heard_among passed)) (bytes_in a.connection (number, piece)) a.turn h.0 h.1));
  given = λ c.
      let P = WasAnsweredBy was.asked_then answered was.order_then c in
      subst (λ (z : List ℕ × List ℕ). IsAnswered d P z.0 z.1) (λ i. (sym (more c) i, bytes_of_connection c (sym (nothing_given number piece passed) i)))
      (answered_longer d P P (bytes_of_connection c (heard_among passed)) (bytes_in c (number, piece)) (bytes_of_connection c (given_among passed)) (λ q r w. w) (was.given c));
  moments = λ moment c. subst (λ (moments : List ℕ). Contains moments moment) (sym same) (was.moments moment c);
  later = λ moment c. subst (λ (moments : List ℕ). IsSince moments (moments_among late) moment) (sym same) (was.later moment c);
}
  where
    more : (c : ℕ) → bytes_of_connection c (heard_among (passed ++ heard_as number piece ∷ [])) ≡ bytes_of_connection c (heard_among passed) ++ bytes_in c (number, piece)
    more c = ap (bytes_of_connection c) (heard_more number piece passed) ∙ bytes_more c (heard_among passed) (number, piece)

    same : moments_among (passed ++ heard_as number piece ∷ []) ≡ moments_among passed
    same = moments_both passed (heard_as number piece ∷ []) ∙ append-nil (moments_among passed)

-- now is one
pub moment_now : (v : ServiceView) → IsService v → IsConnections v.connections → IsHistory (history_of v.connections) → AreHanded v.order v.connections.passed → WasMoment v.connections.dialect v.order v.assignments v.answered v.connections.passed []
moment_now v ok talks logs handed = record {
  order_then = v.order;
  later_order = [];
  split_order = sym (append-nil v.order);
  asked_then = v.assignments;
  asked_later = [];
  split_asked = sym (append-nil v.assignments);
  ordered = ok.ordered;
  heard = λ a i.
      let e = ok.each a i in
      (e.command, subst (λ (log : List (ℕ × List ℕ)). IsAskedIn v.connections.dialect (bytes_of_connection a.connection log) a.turn e.command) (sym logs.heard) (talks.asked (command_number_of a, e.command) e.taken));
  given = λ c.
      subst (λ (z : List (ℕ × List ℕ) × List (ℕ × List ℕ)). IsAnswered v.connections.dialect (WasAnsweredBy v.assignments v.answered v.order c) (bytes_of_connection c z.0) (bytes_of_connection c z.1)) (λ i. (sym logs.heard i, sym logs.given i))
      (answered_implies v.connections.dialect (WasReplied v.connections.replied c) (WasAnsweredBy v.assignments v.answered v.order c) (bytes_of_connection c v.connections.heard) (bytes_of_connection c v.connections.given)
      (λ turn reply w.
      let r = ok.replied (record { connection = c; turn = turn }, reply) w in
      (r.0, r.1, ap (λ (n : CommandNumber). n.connection) r.2, ap (λ (n : CommandNumber). n.turn) r.2, r.3, r.4)) (talks.answered c));
  moments = handed;
  later = λ moment c. absurd (let lt = c.1 in omega (arith, lt));
}

-- ---- all moments

-- nothing passed, and a moment that was handed in is the one of now
pub moments_stay : (v now : ServiceView) → HasMoments v → now.connections.dialect ≡ v.connections.dialect → now.connections.passed ≡ v.connections.passed → (more : Order) → now.order ≡ v.order ++ more → ((moment : ℕ) → Contains (moments_in more) moment → IsPassedNow v.connections.passed moment)
    → (added : List Assignment) → now.assignments ≡ v.assignments ++ added → ((x : (ℕ × ℕ) × replies.Reply) → Contains v.answered x → Contains now.answered x) → HasMoments now
moments_stay v now were dialect passed more order since added assignments kept early late is =
    let split : v.connections.passed ≡ early ++ late = sym passed ∙ is in
    subst (λ (z : Dialect × Order × List Assignment). WasMoment z.0 z.1 z.2 now.answered early late) (λ i. (sym dialect i, sym order i, sym assignments i))
    (moment_stays v.connections.dialect v.order more v.assignments added v.answered now.answered early late kept (λ moment c. now_since_passed v.connections.passed early late moment split (since moment c)) (were early late split))

-- nothing was asked or answered either
pub same_moments : (v now : ServiceView) → HasMoments v → now.connections.dialect ≡ v.connections.dialect → now.connections.passed ≡ v.connections.passed → now.order ≡ v.order → now.assignments ≡ v.assignments → now.answered ≡ v.answered → HasMoments now
same_moments v now were dialect passed order assignments answered =
    moments_stay v now were dialect passed [] (order ∙ sym (append-nil v.order)) (λ moment c. absurd (let lt = c.1 in omega (arith, lt))) [] (assignments ∙ sym (append-nil v.assignments)) (λ x i. subst (λ (xs : Replies). Contains xs x) (sym answered) i)

-- the replicas were handed the moment of now, and worked
pub worked_moments : (v : ServiceView) (asked : List (Request × Bool)) (answered : Replies) (order : Order) (moment : ℕ) (answers : List Answer) → HasMoments v → answered ≡ v.answered ++ map answer_entry answers → order ≡ (v.order ++ moment_entry moment ∷ []) ++ map order_entry answers → IsPassedNow v.connections.passed moment
    → HasMoments (record v { asked = asked; answered = answered; order = order })
worked_moments v asked answered order moment answers were is ordered now =
    moments_stay v (record v { asked = asked; answered = answered; order = order }) were refl refl (moment_entry moment ∷ map order_entry answers) (ordered ∙ append_assoc v.order (moment_entry moment ∷ []) (map order_entry answers))
    (λ m c. subst (IsPassedNow v.connections.passed) (one m (subst (λ (moments : List ℕ). Contains (moment ∷ moments) m) (answers_no_moments answers) c)) now)
    [] (sym (append-nil v.assignments)) (λ x i. subst (λ (xs : Replies). Contains xs x) (sym is) (Contains-append_left v.answered (map answer_entry answers) x i))
  where
    one : (m : ℕ) → Contains (moment ∷ []) m → moment ≡ m
    one m c = one_of moment m c

-- nothing came yet
pub first_moments : (v : ServiceView) → v.connections.passed ≡ [] → v.order ≡ [] → HasMoments v
first_moments v none_passed none_ordered [] late is = record {
  order_then = [];
  later_order = v.order;
  split_order = refl;
  asked_then = [];
  asked_later = v.assignments;
  split_asked = refl;
  ordered = refl;
  heard = λ a i. let lt = i.1 in absurd (omega (arith, lt));
  given = λ c. answered_implies v.connections.dialect (WasReplied [] c) (WasAnsweredBy [] v.answered [] c) [] [] (λ turn reply w. let lt = w.1 in absurd (omega (arith, lt))) ((none_keep v.connections.dialect 0).answered c);
  moments = λ moment c. absurd (let lt = c.1 in omega (arith, lt));
  later = λ moment c. absurd (nothing moment (subst (λ (o : Order). Contains (moments_in o) moment) none_ordered c));
}
  where
    nothing : (moment : ℕ) → Contains [] moment → ⊥
    nothing moment c = let lt = c.1 in omega (arith, lt)
first_moments v none_passed none_ordered (x ∷ early) late is = absurd (let e : ◌≡◌ {A = List Passed} [] (x ∷ (early ++ late)) = sym none_passed ∙ is in cc e)

-- one more passed
one_passed : (d : Dialect) (order : Order) (assignments : List Assignment) (answered : Replies) (passed : List Passed) (x : Passed) → ((early late : List Passed) → passed ≡ early ++ late → WasMoment d order assignments answered early late) → WasMoment d order assignments answered (passed ++ x ∷ []) []
    → (early late : List Passed) → passed ++ x ∷ [] ≡ early ++ late → WasMoment d order assignments answered early late
one_passed d order assignments answered passed x were is early late split = ⊎_elim
    (λ (old : (rest : List Passed) × (passed ≡ early ++ rest) × (late ≡ rest ++ x ∷ [])). subst (WasMoment d order assignments answered early) (sym old.2) (moment_late d order assignments answered early old.0 (x ∷ []) (were early old.0 old.1)))
    (λ (whole : early ≡ passed ++ x ∷ []). moment_late d order assignments answered early [] late (subst (λ (p : List Passed). WasMoment d order assignments answered p []) (sym whole) is))
    (longer_split_late passed x early late split)

-- a service of these connections
abbrev pub over : ServiceView → ConnectionsView → ServiceView
over v next = record v { connections = next }

-- they are as these connections' bytes are read
of_next : (v : ServiceView) (next : ConnectionsView) → HasMoments v → next.dialect ≡ v.connections.dialect → (early late : List Passed) → v.connections.passed ≡ early ++ late → WasMoment next.dialect v.order v.assignments v.answered early late
of_next v next were dialect early late is = subst (λ (d : Dialect). WasMoment d v.order v.assignments v.answered early late) (sym dialect) (were early late is)

-- a moment passed
pub noted_moments : (v : ServiceView) (next : ConnectionsView) (moment : ℕ) → HasMoments v → next.dialect ≡ v.connections.dialect → next.passed ≡ v.connections.passed ++ moment_as moment ∷ [] → WasMoment next.dialect v.order v.assignments v.answered next.passed [] → HasMoments (over v next)
noted_moments v next moment were dialect is now early late split =
    one_passed next.dialect v.order v.assignments v.answered v.connections.passed (moment_as moment) (of_next v next were dialect) (subst (λ (p : List Passed). WasMoment next.dialect v.order v.assignments v.answered p []) is now) early late (sym is ∙ split)

pub heard_moments : (v : ServiceView) (next : ConnectionsView) (key number : ℕ) (piece : List ℕ) (result : Result Said Fault) → HasMoments v → next.dialect ≡ v.connections.dialect → Hears key number piece v.connections next result → WasMoment next.dialect v.order v.assignments v.answered next.passed [] → HasMoments (over v next)
heard_moments v next key number piece (Ok said) were dialect hears now early late is =
    let d = next.dialect in
    let before = of_next v next were dialect in
    one_passed d v.order v.assignments v.answered (v.connections.passed ++ heard_as number piece ∷ []) (given_as number said.bytes.items)
    (one_passed d v.order v.assignments v.answered v.connections.passed (heard_as number piece) before (moment_heard d v.order v.assignments v.answered v.connections.passed [] number piece (before v.connections.passed [] (sym (append-nil v.connections.passed)))))
    (subst (λ (p : List Passed). WasMoment d v.order v.assignments v.answered p []) hears.2 now) early late (sym hears.2 ∙ is)
heard_moments v next key number piece (Err fault) were dialect hears now early late is =
    let d = next.dialect in
    let before = of_next v next were dialect in
    ⊎_elim
    (λ (same : (next.heard ≡ v.connections.heard) × (next.passed ≡ v.connections.passed)). before early late (sym same.1 ∙ is))
    (λ (more : (next.heard ≡ v.connections.heard ++ (number, piece) ∷ []) × (next.passed ≡ v.connections.passed ++ heard_as number piece ∷ [])).
    one_passed d v.order v.assignments v.answered v.connections.passed (heard_as number piece) before (subst (λ (p : List Passed). WasMoment d v.order v.assignments v.answered p []) more.1 now) early late (sym more.1 ∙ is))
    hears.0

-- what passed is of moments that had passed before
pub heard_handed : (v : ServiceView) (next : ConnectionsView) (key number : ℕ) (piece : List ℕ) (result : Result Said Fault) → HasMoments v → Hears key number piece v.connections next result → AreHanded v.order next.passed
heard_handed v next key number piece (Ok said) were hears =
    subst (AreHanded v.order) (sym hears.2) (handed_more v.order v.order (v.connections.passed ++ heard_as number piece ∷ []) (given_as number said.bytes.items ∷ []) refl (handed_more v.order v.order v.connections.passed (heard_as number piece ∷ []) refl (handed_of v were)))
heard_handed v next key number piece (Err fault) were hears = ⊎_elim
    (λ (same : (next.heard ≡ v.connections.heard) × (next.passed ≡ v.connections.passed)). subst (AreHanded v.order) (sym same.1) (handed_of v were))
    (λ (more : (next.heard ≡ v.connections.heard ++ (number, piece) ∷ []) × (next.passed ≡ v.connections.passed ++ heard_as number piece ∷ [])). subst (AreHanded v.order) (sym more.1) (handed_more v.order v.order v.connections.passed (heard_as number piece ∷ []) refl (handed_of v were)))
    hears.0

pub given_handed : (v : ServiceView) (order : Order) (next : ConnectionsView) (said said_now : List Said) → HasMoments v → moments_in order ≡ moments_in v.order → Gives v.connections said next said_now → AreHanded order next.passed
given_handed v order next said said_now were same gives = subst (AreHanded order) (sym gives.3) (handed_more v.order order v.connections.passed (map passed_entry gives.0) same (handed_of v were))

pub answered_moments : (v now : ServiceView) (said said_now : List Said) → HasMoments v → now.connections.dialect ≡ v.connections.dialect → now.order ≡ v.order → now.assignments ≡ v.assignments → now.answered ≡ v.answered → GivesNothing v.connections said now.connections said_now ⊎ GivesOne v.connections said now.connections said_now
    → WasMoment now.connections.dialect now.order now.assignments now.answered now.connections.passed [] → HasMoments now
answered_moments v now said said_now were dialect order assignments answered gives is = ⊎_elim
    (λ (none : GivesNothing v.connections said now.connections said_now). same_moments v now were dialect none.2 order assignments answered)
    (λ (one : GivesOne v.connections said now.connections said_now) early late split.
    let kept = same_moments v (record now { connections = record v.connections { dialect = now.connections.dialect } }) were dialect refl order assignments answered in
    one_passed now.connections.dialect now.order now.assignments now.answered v.connections.passed (passed_entry one.0) kept (subst (λ (p : List Passed). WasMoment now.connections.dialect now.order now.assignments now.answered p []) one.3 is) early late (sym one.3 ∙ split))
    gives

pub assigned_moments : (v now : ServiceView) (at : ConnectionId) (proxy : ℕ) (e f : EnsembleView) (asking : Asking) (pool : List (Option Outstanding)) (said said_now : List Said) (key : ℕ) → HasMoments v → e.answered ≡ v.answered → e.order ≡ v.order → now.order ≡ f.order → now.answered ≡ f.answered
    → AsksFor at proxy v.connections e now.connections f asking → Settles key asking pool now.waiting v.assignments now.assignments said said_now → WasMoment now.connections.dialect now.order now.assignments now.answered now.connections.passed [] → HasMoments now
assigned_moments v now at proxy e f Nothing pool said said_now key were answered order order_now answered_now asks settles is =
    same_moments v now were asks.0.dialect asks.2 (order_now ∙ (ap (λ (x : EnsembleView). x.order) asks.0.same ∙ order)) settles.1 (answered_now ∙ (ap (λ (x : EnsembleView). x.answered) asks.0.same ∙ answered))
assigned_moments v now at proxy e f (Asked a) pool said said_now key were answered order order_now answered_now asks settles is =
    moments_stay v now were asks.bytes.dialect asks.bytes.passed (((proxy, a.number), noted.Asked) ∷ []) (order_now ∙ (asks.ordered ∙ ap (λ (o : Order). o ++ ((proxy, a.number), noted.Asked) ∷ []) order)) (λ moment c. absurd (let lt = c.1 in omega (arith, lt))) (a ∷ []) settles.1
    (λ x i. subst (λ (xs : Replies). Contains xs x) (sym (answered_now ∙ (asks.answered ∙ answered))) i)
assigned_moments v now at proxy e f (Failed given) pool said said_now key were answered order order_now answered_now asks settles is =
    answered_moments v now said said_now were asks.0.dialect (order_now ∙ (ap (λ (x : EnsembleView). x.order) asks.0.same ∙ order)) settles.1 (answered_now ∙ (ap (λ (x : EnsembleView). x.answered) asks.0.same ∙ answered)) (inr (given, settles.2, asks.1, asks.2)) is

-- asking hands in no moment
pub asked_moments : (at : ConnectionId) (proxy : ℕ) (v next : ConnectionsView) (e f : EnsembleView) (asking : Asking) → AsksFor at proxy v e next f asking → moments_in f.order ≡ moments_in e.order
asked_moments at proxy v next e f Nothing asks = ap (λ (x : EnsembleView). moments_in x.order) asks.0.same
asked_moments at proxy v next e f (Asked a) asks = ap moments_in asks.ordered ∙ (of_order.moments_both e.order (((proxy, a.number), noted.Asked) ∷ []) ∙ append-nil (moments_in e.order))
asked_moments at proxy v next e f (Failed given) asks = ap (λ (x : EnsembleView). moments_in x.order) asks.0.same

-- ---- the moment of now

pub now_noted : (passed now : List Passed) (moment : ℕ) → now ≡ passed ++ moment_as moment ∷ [] → IsPassedNow now moment
now_noted passed now moment is = ap (λ (p : List Passed). latest_of (moments_among p)) is ∙ (ap latest_of (moments_both passed (moment_as moment ∷ [])) ∙ last_pushed (moments_among passed) moment)

given_no_moments : (given : List Said) → moments_among (map passed_entry given) ≡ []
given_no_moments [] = refl
given_no_moments (g ∷ given) = given_no_moments given

pub now_given : (v now : ConnectionsView) (said said_now : List Said) (moment : ℕ) → Gives v said now said_now → IsPassedNow v.passed moment → IsPassedNow now.passed moment
now_given v now said said_now moment gives at =
    let same : moments_among now.passed ≡ moments_among v.passed = ap moments_among gives.3 ∙ (moments_both v.passed (map passed_entry gives.0) ∙ (ap (λ (moments : List ℕ). moments_among v.passed ++ moments) (given_no_moments gives.0) ∙ append-nil (moments_among v.passed))) in
    ap latest_of same ∙ at

-- the moment that passes was not handed in yet
pub noted_handed : (v : ServiceView) (next : ConnectionsView) (moment : ℕ) → HasMoments v → next.passed ≡ v.connections.passed ++ moment_as moment ∷ [] → AreHanded v.order next.passed
noted_handed v next moment were is = subst (AreHanded v.order) (sym is) (handed_more v.order v.order v.connections.passed (moment_as moment ∷ []) refl (handed_of v were))
