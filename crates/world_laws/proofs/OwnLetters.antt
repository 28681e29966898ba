-- Executors and clients send letters in their own name alone.
use Rattle.std.proofs.Common.{◌≡◌, ℕ, zero, suc, ◌+◌, Bool, true, false, List, [], ◌∷◌, ◌++◌, Option, Some, None, refl, sym, subst}
use Rattle.std.specs.Prelude.{◌==◌, if◌then◌else◌, nat_lt, flat_map}
use Rattle.std.specs.FinMap.{get}
use Rattle.std.specs.List.{AllByRecursion}
use Rattle.std.proofs.lemmas.Bool.{cond_both}
use Rattle.decrees.specs.declared.ballot.Ballot.{Ballot}
use Rattle.decrees.specs.declared.ballot.Ballot.TheVariants.{Token, Accept, Accepted, Decided, Ask, Change, Promise, Stands}
use Rattle.decrees.specs.declared.decree.Decree.{Decree}
use Rattle.decrees.specs.declared.node.Letter.{Letter}
use Rattle.decrees.specs.declared.node.Node.{Node}
use Rattle.decrees.specs.declared.node.Node.TheVariants.{Client, Executor, Verifier}
use Rattle.decrees.specs.declared.standing.Standing.{Standing}
use Rattle.decrees.specs.Count.{member_count}
use Rattle.proto.specs.declared.reply.Reply as replies
use Rattle.proto.specs.declared.turn.Turn.{Turn}
use Rattle.proto.specs.declared.turn.Turn.TheVariants as turn
use Rattle.proto.specs.Text.{notice_text, given_text}
use Rattle.sessions.specs.declared.request.Request.{Request}
use Rattle.sessions.specs.declared.sessions.LastReply.{LastReply}
use Rattle.batches.specs.declared.batch.Batch.{Batch}
use Rattle.states.specs.State.{StateView}
use Rattle.executor.specs.declared.answered.Answered.{Answered}
use Rattle.executor.specs.declared.work.Ended.{Ended}
use Rattle.executor.specs.declared.work.Ended.TheVariants.{On, Done}
use Rattle.executor.specs.Work.{TentativeView, WorkView, is_group_done}
use Rattle.rollback.specs.Chain.{ChainView, chain_tip, commits_first, first_replies, chain_from, replies_on_commit}
use Rattle.transfer.specs.declared.need.Need.{Need}
use Rattle.transfer.specs.Need.{need_of}
use Rattle.transfer.specs.Parcel.{ParcelView, answer_of, take_of}
use Rattle.exec_lines.specs.declared.body.Body.{Body}
use Rattle.exec_lines.specs.declared.body.Body.TheVariants as body
use Rattle.exec_lines.specs.declared.input.Input as of_executor
use Rattle.exec_lines.specs.declared.input.Input.TheVariants as executor_input
use Rattle.exec_lines.specs.Begun.{begin_of, finish_of}
use Rattle.exec_lines.specs.State.{ExecutorState, ExecutorOutcome, is_behind, runs_in_order, executor_letter, to_first_verifiers, to_all_verifiers, to_first_executors, to_other_executors, token_told, to_clients, unchanged, one_letter}
use Rattle.exec_lines.specs.Lines.{waits, wanted, completed, went_on, begin, after_cut, cut_batch, ordered, may_cut, on_cut, may_obey_order, on_order, stepped, work_after, finished, may_adopt, on_adopt, needs, rolled_back, roll_back, commit_first, obey, decree_is_due, on_decree, is_told, stood_without, stood, on_stands, has_more, on_need, came, on_parcel, resumed}
use Rattle.exec_lines.specs.Step.{from_client, from_executor, on_ballot, from_verifier, on_letter, executor_step}
use Rattle.client.specs.declared.asked.Asked.{Asked}
use Rattle.client.specs.declared.input.Input as of_client
use Rattle.client.specs.declared.input.Input.TheVariants as client_input
use Rattle.client.specs.declared.talk.Talk.{Talk}
use Rattle.client.specs.Talk.{Given, next_request, client_letter, wants_below, unmoved, go, go_where, go_on}
use Rattle.client.specs.Step.{IsFedWhere, answered_to, asked_again, IsClientStep}

abbrev pub AllFrom : Node → List (Letter Body) → Type 0
AllFrom n ls = AllByRecursion (λ l. l.from ≡ n) ls

all-append : (n : Node) (xs ys : List (Letter Body)) → AllFrom n xs → AllFrom n ys → AllFrom n (xs ++ ys)
all-append n [] ys h k = k
all-append n (x ∷ xs) ys h k = (h.0, all-append n xs ys h.1 k)

-- ---- executors

verifiers_own : (id n : ℕ) (b : Ballot) → AllFrom (Executor id) (to_first_verifiers id n b)
verifiers_own id zero b = tt
verifiers_own id (suc n) b = all-append (Executor id) (to_first_verifiers id n b) (executor_letter id (Verifier n) (body.Ballot b) ∷ []) (verifiers_own id n b) (refl, tt)

executors_own : (id n : ℕ) (b : Body) → AllFrom (Executor id) (to_first_executors id n b)
executors_own id zero b = tt
executors_own id (suc n) b =
    all-append (Executor id) (to_first_executors id n b) (if n == id then [] else executor_letter id (Executor n) b ∷ []) (executors_own id n b)
    (cond_both (n == id) [] (executor_letter id (Executor n) b ∷ []) (AllFrom (Executor id)) (λ _. tt) (λ _. (refl, tt)))

told_own : (u id : ℕ) (t : TentativeView) → AllFrom (Executor id) (token_told u id t)
told_own u id t = verifiers_own id (member_count u) (Token t.batch.epoch t.after.number t.before.token t.after.token)

all_told_own : (u id : ℕ) (ts : List TentativeView) → AllFrom (Executor id) (flat_map (token_told u id) ts)
all_told_own u id [] = tt
all_told_own u id (t ∷ ts) = all-append (Executor id) (token_told u id t) (flat_map (token_told u id) ts) (told_own u id t) (all_told_own u id ts)

clients_own : (id : ℕ) (answered : List Answered) → AllFrom (Executor id) (to_clients id answered)
clients_own id [] = tt
clients_own id (a ∷ more) = (refl, clients_own id more)

needs_own : (u id : ℕ) (s : ExecutorState) → AllFrom (Executor id) (needs u id s)
needs_own u id s = cond_both (is_behind s) (to_other_executors u id (body.Need (need_of s.chain.have))) [] (AllFrom (Executor id)) (λ _. executors_own id (member_count u) (body.Need (need_of s.chain.have))) (λ _. tt)

-- all letters of the outcome are of this executor
abbrev IsOwn : ℕ → ExecutorOutcome → Type 0
IsOwn id o = AllFrom (Executor id) o.letters

want_own : (id : ℕ) (s : ExecutorState) (r : Request) (o : Option LastReply) → IsOwn id (wanted id s r o)
want_own id s r None = tt
want_own id s r (Some kept) = cond_both (kept.number == r.number) (one_letter id s (Client r.client) (body.Reply r.number kept.reply)) (if nat_lt r.number kept.number then unchanged s else waits s r) (IsOwn id)
    (λ _. (refl, tt))
    (λ _. cond_both (nat_lt r.number kept.number) (unchanged s) (waits s r) (IsOwn id) (λ _. tt) (λ _. tt))

went_on_own : (u id : ℕ) (s : ExecutorState) (letters : List (Letter Body)) (e : Ended) → AllFrom (Executor id) letters → IsOwn id (went_on u id s letters e)
went_on_own u id s letters (On w) h = h
went_on_own u id s letters (Done t) h = all-append (Executor id) letters (token_told u id t) h (told_own u id t)

begin_own : (u id : ℕ) (s : ExecutorState) (letters : List (Letter Body)) (b : Batch) → AllFrom (Executor id) letters → IsOwn id (begin u id s letters b)
begin_own u id s letters b h = went_on_own u id s letters (begin_of (chain_tip s.chain) b (runs_in_order s.standing b.n)) h

ordered_own : (u id : ℕ) (s : ExecutorState) (o : Option Batch) → IsOwn id (ordered u id s o)
ordered_own u id s None = tt
ordered_own u id s (Some b) = begin_own u id s (to_other_executors u id (body.Order b)) b (executors_own id (member_count u) (body.Order b))

cut_own : (u id : ℕ) (s : ExecutorState) (moment : ℕ) → IsOwn id (on_cut u id s moment)
cut_own u id s moment = cond_both (may_cut u id s) (ordered u id (after_cut s) (cut_batch s moment)) (unchanged s) (IsOwn id) (λ _. ordered_own u id (after_cut s) (cut_batch s moment)) (λ _. tt)

order_own : (u id : ℕ) (s : ExecutorState) (b : Batch) → IsOwn id (on_order u id s b)
order_own u id s b = cond_both (may_obey_order s b) (begin u id s [] b) (unchanged s) (IsOwn id) (λ _. begin_own u id s [] b tt) (λ _. tt)

stepped_own : (id : ℕ) (s : ExecutorState) (o : Option WorkView) → IsOwn id (stepped s o)
stepped_own id s None = tt
stepped_own id s (Some w) = tt

finished_own : (u id : ℕ) (s : ExecutorState) (o : Option WorkView) → IsOwn id (finished u id s o)
finished_own u id s None = tt
finished_own u id s (Some w) = cond_both (is_group_done w.progress) (went_on u id s [] (finish_of w)) (unchanged s) (IsOwn id) (λ _. went_on_own u id s [] (finish_of w) tt) (λ _. tt)

adopt_own : (u id : ℕ) (s : ExecutorState) (t : TentativeView) → IsOwn id (on_adopt u id s t)
adopt_own u id s t = cond_both (may_adopt s t) (completed u id s [] t) (unchanged s) (IsOwn id) (λ _. told_own u id t) (λ _. tt)

obey_own : (u id : ℕ) (s : ExecutorState) (d : Decree) → IsOwn id (obey u id s d)
obey_own u id s d = cond_both (commits_first d s.chain.members) (commit_first id s d) (roll_back u id s d) (IsOwn id)
    (λ _. clients_own id (first_replies s.chain.members))
    (λ _. needs_own u id (rolled_back s d))

decree_own : (u id : ℕ) (s : ExecutorState) (v place : ℕ) (d : Decree) → IsOwn id (on_decree u id s v place d)
decree_own u id s v place d = cond_both (decree_is_due s place d) (obey u id s d) (if nat_lt (s.known + 1) place then one_letter id s (Verifier v) (body.Ballot (Ask (s.known + 1))) else unchanged s) (IsOwn id)
    (λ _. obey_own u id s d)
    (λ _. cond_both (nat_lt (s.known + 1) place) (one_letter id s (Verifier v) (body.Ballot (Ask (s.known + 1)))) (unchanged s) (IsOwn id) (λ _. (refl, tt)) (λ _. tt))

stood_own : (u id : ℕ) (s : ExecutorState) (place : ℕ) (st : Standing) (o : Option ChainView) → IsOwn id (stood u id s place st o)
stood_own u id s place st None = needs_own u id (stood_without s place st)
stood_own u id s place st (Some c) = clients_own id (replies_on_commit st s.chain.have s.chain.members)

stands_own : (u id : ℕ) (s : ExecutorState) (place : ℕ) (st : Standing) → IsOwn id (on_stands u id s place st)
stands_own u id s place st = cond_both (is_told s place st) (stood u id s place st (chain_from st s.chain.have s.chain.members)) (unchanged s) (IsOwn id)
    (λ _. stood_own u id s place st (chain_from st s.chain.have s.chain.members)) (λ _. tt)

need_own : (id : ℕ) (s : ExecutorState) (e : ℕ) (q : Need) → IsOwn id (on_need id s e q)
need_own id s e q = cond_both (has_more s q) (one_letter id s (Executor e) (body.Parcel (answer_of s.chain.have q))) (unchanged s) (IsOwn id) (λ _. (refl, tt)) (λ _. tt)

came_own : (id : ℕ) (s : ExecutorState) (o : Option StateView) → IsOwn id (came s o)
came_own id s None = tt
came_own id s (Some state) = tt

parcel_own : (id : ℕ) (s : ExecutorState) (p : ParcelView) → IsOwn id (on_parcel s p)
parcel_own id s p = cond_both (is_behind s) (came s (take_of s.chain.have.items p s.standing.n s.standing.token)) (unchanged s) (IsOwn id) (λ _. came_own id s (take_of s.chain.have.items p s.standing.n s.standing.token)) (λ _. tt)

from_client_own : (id : ℕ) (s : ExecutorState) (b : Body) → IsOwn id (from_client id s b)
from_client_own id s (body.Want r) = want_own id s r (get s.chain.have.sessions r.client)
from_client_own id s (body.Order b) = tt
from_client_own id s (body.Reply number reply) = tt
from_client_own id s (body.Need q) = tt
from_client_own id s (body.Parcel p) = tt
from_client_own id s (body.Ballot b) = tt

from_executor_own : (u id : ℕ) (s : ExecutorState) (e : ℕ) (b : Body) → IsOwn id (from_executor u id s e b)
from_executor_own u id s e (body.Want r) = tt
from_executor_own u id s e (body.Order b) = order_own u id s b
from_executor_own u id s e (body.Reply number reply) = tt
from_executor_own u id s e (body.Need q) = need_own id s e q
from_executor_own u id s e (body.Parcel p) = parcel_own id s p
from_executor_own u id s e (body.Ballot b) = tt

on_ballot_own : (u id : ℕ) (s : ExecutorState) (v : ℕ) (b : Ballot) → IsOwn id (on_ballot u id s v b)
on_ballot_own u id s v (Token epoch n previous token) = tt
on_ballot_own u id s v (Accept view place d) = tt
on_ballot_own u id s v (Accepted view place d) = tt
on_ballot_own u id s v (Decided place d) = decree_own u id s v place d
on_ballot_own u id s v (Ask place) = tt
on_ballot_own u id s v (Change view) = tt
on_ballot_own u id s v (Promise view count accepted) = tt
on_ballot_own u id s v (Stands place st) = stands_own u id s place st

from_verifier_own : (u id : ℕ) (s : ExecutorState) (v : ℕ) (b : Body) → IsOwn id (from_verifier u id s v b)
from_verifier_own u id s v (body.Want r) = tt
from_verifier_own u id s v (body.Order b) = tt
from_verifier_own u id s v (body.Reply number reply) = tt
from_verifier_own u id s v (body.Need q) = tt
from_verifier_own u id s v (body.Parcel p) = tt
from_verifier_own u id s v (body.Ballot b) = on_ballot_own u id s v b

on_letter_own : (u id : ℕ) (s : ExecutorState) (from : Node) (b : Body) → IsOwn id (on_letter u id s from b)
on_letter_own u id s (Client c) b = from_client_own id s b
on_letter_own u id s (Executor e) b = from_executor_own u id s e b
on_letter_own u id s (Verifier v) b = from_verifier_own u id s v b

-- whatever the input
pub executor_sends : (u id : ℕ) (s : ExecutorState) (x : of_executor.Input) → AllFrom (Executor id) (executor_step u id s x).letters
executor_sends u id s (executor_input.Letter l) = on_letter_own u id s l.from l.body
executor_sends u id s (executor_input.Cut moment) = cut_own u id s moment
executor_sends u id s (executor_input.Step place) = stepped_own id s (work_after s.work place)
executor_sends u id s executor_input.Finish = finished_own u id s s.work
executor_sends u id s (executor_input.Adopt t) = adopt_own u id s t

-- and if it goes on from its record
pub resumed_sends : (u id : ℕ) (s : ExecutorState) → AllFrom (Executor id) (resumed u id s).letters
resumed_sends u id s =
    all-append (Executor id) (flat_map (token_told u id) s.chain.members) (to_all_verifiers u id (Ask (s.known + 1)) ++ needs u id s) (all_told_own u id s.chain.members)
    (all-append (Executor id) (to_all_verifiers u id (Ask (s.known + 1))) (needs u id s) (verifiers_own id (member_count u) (Ask (s.known + 1))) (needs_own u id s))

-- ---- clients

wants_own : (c n : ℕ) (r : Request) → AllFrom (Client c) (wants_below c n r)
wants_own c zero r = tt
wants_own c (suc n) r = all-append (Client c) (wants_below c n r) (client_letter c (Executor n) (body.Want r) ∷ []) (wants_own c n r) (refl, tt)

go_own : (u c : ℕ) (t : Talk) (bytes : List ℕ) (turns : List Turn) → AllFrom (Client c) (go u c t bytes turns).letters
go_own u c t bytes [] = tt
go_own u c t bytes (turn.Say notice ∷ turns) = go_own u c t (bytes ++ notice_text notice) turns
go_own u c t bytes (turn.Close notice ∷ turns) = tt
go_own u c t bytes (turn.Ask command quiet ∷ turns) = wants_own c (member_count u) (next_request c t.last command)

go_where_own : (u c : ℕ) (t : Talk) (bytes : List ℕ) (o : Option Asked) (closed : Bool) → AllFrom (Client c) (go_where u c t bytes o closed).letters
go_where_own u c t bytes None false = go_own u c t bytes t.waiting
go_where_own u c t bytes None true = tt
go_where_own u c t bytes (Some asked) closed = tt

go_on_own : (u c : ℕ) (t : Talk) (bytes : List ℕ) → AllFrom (Client c) (go_on u c t bytes).letters
go_on_own u c t bytes = go_where_own u c t bytes t.outstanding t.closed

answered_own : (u c : ℕ) (t : Talk) (number : ℕ) (reply : replies.Reply) (o : Option Asked) → AllFrom (Client c) (answered_to u c t number reply o).letters
answered_own u c t number reply None = tt
answered_own u c t number reply (Some asked) =
    cond_both (asked.request.number == number) (go_on u c (record t { outstanding = None }) (given_text reply asked.quiet)) (unmoved t) (λ (g : Given). AllFrom (Client c) g.letters)
    (λ _. go_on_own u c (record t { outstanding = None }) (given_text reply asked.quiet))
    (λ _. tt)

again_own : (u c : ℕ) (t : Talk) (o : Option Asked) → AllFrom (Client c) (asked_again u c t o).letters
again_own u c t None = tt
again_own u c t (Some asked) = wants_own c (member_count u) asked.request

fed_own : (b : Bool) (u c : ℕ) (t : Talk) (piece : List ℕ) (g : Given) → IsFedWhere b u c t piece g → AllFrom (Client c) g.letters
fed_own true u c t piece g h = subst (λ (z : Given). AllFrom (Client c) z.letters) (sym h) tt
fed_own false u c t piece g h = subst (λ (z : Given). AllFrom (Client c) z.letters) (sym h.3) (go_on_own u c (record t { reader = h.1; waiting = t.waiting ++ h.0 }) [])

-- whatever the input
pub client_sends : (u c : ℕ) (t : Talk) (x : of_client.Input) (g : Given) → IsClientStep u c t x g → AllFrom (Client c) g.letters
client_sends u c t (client_input.Feed piece) g h = fed_own t.closed u c t piece.items g h
client_sends u c t (client_input.Reply number reply) g h = subst (λ (z : Given). AllFrom (Client c) z.letters) (sym h) (answered_own u c t number reply t.outstanding)
client_sends u c t client_input.Again g h = subst (λ (z : Given). AllFrom (Client c) z.letters) (sym h) (again_own u c t t.outstanding)
client_sends u c t client_input.Hangup g h = subst (λ (z : Given). AllFrom (Client c) z.letters) (sym h) tt
