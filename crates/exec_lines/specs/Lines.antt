-- What an executor does with each input, line by line.
use Rattle.std.specs.Prelude.{◌≡◌, ℕ, ◌+◌, ◌≤◌, ◌==◌, ◌&&◌, ◌||◌, Bool, true, false, List, [], ◌∷◌, ◌++◌, length, filter, flat_map, Option, None, Some, nat_lt, nat_le, if◌then◌else◌, refl}
use Rattle.std.specs.Str.{bytes_eq}
use Rattle.std.specs.FinMap.{get}
use Rattle.decrees.specs.declared.decree.Decree.{Decree}
use Rattle.decrees.specs.declared.ballot.Ballot.TheVariants.{Ask}
use Rattle.decrees.specs.declared.node.Letter.{Letter}
use Rattle.decrees.specs.declared.node.Node.TheVariants.{Client, Executor, Verifier}
use Rattle.decrees.specs.declared.standing.Standing.{Standing}
use Rattle.decrees.specs.Standing.{standing_after, may_follow}
use Rattle.decrees.specs.Start.{could_stand}
use Rattle.sessions.specs.declared.request.Request.{Request}
use Rattle.sessions.specs.declared.sessions.LastReply.{LastReply}
use Rattle.sessions.specs.Fresh.{is_next}
use Rattle.batches.specs.declared.batch.Batch.{Batch}
use Rattle.batches.specs.declared.batch.TheConstants.{MOST_REQUESTS, GREATEST_NUMBER}
use Rattle.batches.specs.Waiting.{added}
use Rattle.batches.specs.Cut.{taken, left}
use Rattle.wire.specs.Batch.{batch_text}
use Rattle.states.specs.State.{StateView}
use Rattle.executor.specs.declared.work.Ended.{Ended}
use Rattle.executor.specs.declared.work.Ended.TheVariants.{On, Done}
use Rattle.executor.specs.Work.{TentativeView, WorkView, is_group_done}
use Rattle.executor.specs.GroupRun.{is_untouched}
use Rattle.executor.specs.StepOf.{step_of}
use Rattle.rollback.specs.Chain.{ChainView, chain_tip, is_over, pushed, undone, commits_first, without_first, first_replies, chain_from, replies_on_commit}
use Rattle.transfer.specs.declared.need.Need.{Need}
use Rattle.transfer.specs.Need.{need_of}
use Rattle.transfer.specs.Parcel.{ParcelView, answer_of, take_of}
use Rattle.exec_lines.specs.declared.body.Body.{Body}
use Rattle.exec_lines.specs.declared.body.Body.TheVariants as body
use Rattle.exec_lines.specs.Begun.{begin_of, finish_of}
use Rattle.exec_lines.specs.CutProofs.{from_one, within, few_taken}
use Rattle.exec_lines.specs.State.{ExecutorState, ExecutorOutcome, is_behind, next_batch_number, is_primary, may_begin, runs_in_order, to_all_verifiers, to_other_executors, token_told, to_clients, unchanged, one_letter, after_crash}

-- A client's request.
abbrev pub waits : ExecutorState → Request → ExecutorOutcome
waits s r = record { state = record s { gather = added r s.gather }; saves = false; letters = [] }

abbrev pub wanted : ℕ → ExecutorState → Request → Option LastReply → ExecutorOutcome
wanted id s r None = waits s r
wanted id s r (Some kept) =
    if kept.number == r.number then one_letter id s (Client r.client) (body.Reply r.number kept.reply)
    else if nat_lt r.number kept.number then unchanged s
    else waits s r

abbrev pub on_want : ℕ → ExecutorState → Request → ExecutorOutcome
on_want id s r = wanted id s r (get s.chain.have.sessions r.client)

-- The tentative state joins the chain, and its token is told after these letters.
abbrev pub completed : ℕ → ℕ → ExecutorState → List (Letter Body) → TentativeView → ExecutorOutcome
completed u id s letters t = record { state = record s { chain = pushed s.chain t; work = None }; saves = true; letters = letters ++ token_told u id t }

-- what comes of work, after these letters
abbrev pub went_on : ℕ → ℕ → ExecutorState → List (Letter Body) → Ended → ExecutorOutcome
went_on u id s letters (On w) = record { state = record s { work = Some w }; saves = false; letters = letters }
went_on u id s letters (Done t) = completed u id s letters t

-- the batch is begun over the tip
abbrev pub begin : ℕ → ℕ → ExecutorState → List (Letter Body) → Batch → ExecutorOutcome
begin u id s letters b = went_on u id s letters (begin_of (chain_tip s.chain) b (runs_in_order s.standing b.n))

-- The batch of these requests, if there is one.
abbrev pub batch_of : (epoch n moment : ℕ) (requests : List Request) → 1 ≤ n → n ≤ GREATEST_NUMBER → length requests ≤ MOST_REQUESTS → Option Batch
batch_of epoch n moment [] first last few = None
batch_of epoch n moment (r ∷ rs) first last few = Some (record { epoch = epoch; n = n; moment = moment; requests = r ∷ rs; first = first; last = last; few = few })

-- there is a number for the next batch
abbrev pub has_number : ExecutorState → Bool
has_number s = nat_le (next_batch_number s) GREATEST_NUMBER

-- the requests of the next batch
abbrev pub requests_taken : ExecutorState → List Request
requests_taken s = taken MOST_REQUESTS (chain_tip s.chain).sessions s.gather

abbrev pub cut_where : (s : ExecutorState) (moment : ℕ) (has : Bool) → has_number s ≡ has → Option Batch
cut_where s moment true e =
    batch_of s.standing.epoch (next_batch_number s) moment (requests_taken s) (from_one (chain_tip s.chain).number) (within (next_batch_number s) GREATEST_NUMBER e)
    (few_taken MOST_REQUESTS (filter (is_next (chain_tip s.chain).sessions) s.gather))
cut_where s moment false e = None

-- the next batch over the tip, if there is a number and a request for it
abbrev pub cut_batch : ExecutorState → ℕ → Option Batch
cut_batch s moment = cut_where s moment (has_number s) refl

-- what waits on
abbrev pub after_cut : ExecutorState → ExecutorState
after_cut s = record s { gather = if has_number s then left MOST_REQUESTS (chain_tip s.chain).sessions s.gather else s.gather }

abbrev pub ordered : ℕ → ℕ → ExecutorState → Option Batch → ExecutorOutcome
ordered u id s None = unchanged s
ordered u id s (Some b) = begin u id s (to_other_executors u id (body.Order b)) b

abbrev pub may_cut : ℕ → ℕ → ExecutorState → Bool
may_cut u id s = is_primary u id s && may_begin s

-- The primary cuts a batch.
abbrev pub on_cut : ℕ → ℕ → ExecutorState → ℕ → ExecutorOutcome
on_cut u id s moment = if may_cut u id s then ordered u id (after_cut s) (cut_batch s moment) else unchanged s

-- Another executor orders a batch.
abbrev pub may_obey_order : ExecutorState → Batch → Bool
may_obey_order s b = (b.epoch == s.standing.epoch) && (may_begin s && (b.n == next_batch_number s))

abbrev pub on_order : ℕ → ℕ → ExecutorState → Batch → ExecutorOutcome
on_order u id s b = if may_obey_order s b then begin u id s [] b else unchanged s

-- A step of the work.
abbrev pub stepped : ExecutorState → Option WorkView → ExecutorOutcome
stepped s None = unchanged s
stepped s (Some w) = record { state = record s { work = Some w }; saves = false; letters = [] }

abbrev pub work_after : Option WorkView → ℕ → Option WorkView
work_after None place = None
work_after (Some w) place = step_of w place

abbrev pub on_step : ExecutorState → ℕ → ExecutorOutcome
on_step s place = stepped s (work_after s.work place)

-- The end of a group.
abbrev pub finished : ℕ → ℕ → ExecutorState → Option WorkView → ExecutorOutcome
finished u id s None = unchanged s
finished u id s (Some w) = if is_group_done w.progress then went_on u id s [] (finish_of w) else unchanged s

abbrev pub on_finish : ℕ → ℕ → ExecutorState → ExecutorOutcome
on_finish u id s = finished u id s s.work

-- A tentative state is adopted for work of which no step was made.
abbrev pub is_made_of : TentativeView → WorkView → Bool
is_made_of t w = is_untouched w.progress && (is_over w.base t && bytes_eq (batch_text t.batch) (batch_text w.batch))

abbrev pub adopts : Option WorkView → TentativeView → Bool
adopts None t = false
adopts (Some w) t = is_made_of t w

abbrev pub may_adopt : ExecutorState → TentativeView → Bool
may_adopt s t = adopts s.work t

abbrev pub on_adopt : ℕ → ℕ → ExecutorState → TentativeView → ExecutorOutcome
on_adopt u id s t = if may_adopt s t then completed u id s [] t else unchanged s

-- What it asks of the others, if it is behind.
abbrev pub needs : ℕ → ℕ → ExecutorState → List (Letter Body)
needs u id s = if is_behind s then to_other_executors u id (body.Need (need_of s.chain.have)) else []

-- one decree more, without chain and work
abbrev pub rolled_back : ExecutorState → Decree → ExecutorState
rolled_back s d = record s { known = s.known + 1; standing = standing_after s.standing d; chain = undone s.chain; work = None }

-- one decree more, by which the first member is committed
abbrev pub first_committed : ExecutorState → Decree → ExecutorState
first_committed s d = record s { known = s.known + 1; standing = standing_after s.standing d; chain = without_first s.chain.have s.chain.members }

abbrev pub roll_back : ℕ → ℕ → ExecutorState → Decree → ExecutorOutcome
roll_back u id s d = record { state = rolled_back s d; saves = true; letters = needs u id (rolled_back s d) }

abbrev pub commit_first : ℕ → ExecutorState → Decree → ExecutorOutcome
commit_first id s d = record { state = first_committed s d; saves = true; letters = to_clients id (first_replies s.chain.members) }

abbrev pub obey : ℕ → ℕ → ExecutorState → Decree → ExecutorOutcome
obey u id s d = if commits_first d s.chain.members then commit_first id s d else roll_back u id s d

-- it is the next decree, and may come next
abbrev pub decree_is_due : ExecutorState → ℕ → Decree → Bool
decree_is_due s place d = (place == (s.known + 1)) && may_follow s.standing d

-- it is that, or one of a later place
abbrev pub is_heeded : ExecutorState → ℕ → Decree → Bool
is_heeded s place d = decree_is_due s place d || nat_lt (s.known + 1) place

-- A decree is decided.
abbrev pub on_decree : ℕ → ℕ → ExecutorState → ℕ → ℕ → Decree → ExecutorOutcome
on_decree u id s from place d =
    if decree_is_due s place d then obey u id s d
    else if nat_lt (s.known + 1) place then one_letter id s (Verifier from) (body.Ballot (Ask (s.known + 1)))
    else unchanged s

-- this could stand there, and the executor has not obeyed as much
abbrev pub is_told : ExecutorState → ℕ → Standing → Bool
is_told s place st = nat_lt s.known place && could_stand place st

-- the epoch goes on
abbrev pub goes_on : ExecutorState → Standing → Bool
goes_on s st = st.epoch == s.standing.epoch

-- it is committed up to the state that stands; what is over that stays if the epoch goes on, members and work alike
abbrev pub stood_over : ExecutorState → ℕ → Standing → ChainView → ExecutorState
stood_over s place st c = record s { known = place; standing = st; chain = if goes_on s st then c else undone c; work = if goes_on s st then s.work else None }

-- it has not the state that stands
abbrev pub stood_without : ExecutorState → ℕ → Standing → ExecutorState
stood_without s place st = record s { known = place; standing = st; chain = undone s.chain; work = None }

abbrev pub stood : ℕ → ℕ → ExecutorState → ℕ → Standing → Option ChainView → ExecutorOutcome
stood u id s place st None = record { state = stood_without s place st; saves = true; letters = needs u id (stood_without s place st) }
stood u id s place st (Some c) = record { state = stood_over s place st c; saves = true; letters = to_clients id (replies_on_commit st s.chain.have s.chain.members) }

-- A verifier tells what stands after more decrees.
abbrev pub on_stands : ℕ → ℕ → ExecutorState → ℕ → Standing → ExecutorOutcome
on_stands u id s place st = if is_told s place st then stood u id s place st (chain_from st s.chain.have s.chain.members) else unchanged s

-- Another executor is behind.
abbrev pub has_more : ExecutorState → Need → Bool
has_more s q = nat_lt q.number s.chain.have.number

abbrev pub on_need : ℕ → ExecutorState → ℕ → Need → ExecutorOutcome
on_need id s from q = if has_more s q then one_letter id s (Executor from) (body.Parcel (answer_of s.chain.have q)) else unchanged s

-- The state that stands has come.
abbrev pub came : ExecutorState → Option StateView → ExecutorOutcome
came s None = unchanged s
came s (Some state) = record { state = record s { chain = record { have = state; members = [] } }; saves = true; letters = [] }

abbrev pub on_parcel : ExecutorState → ParcelView → ExecutorOutcome
on_parcel s p = if is_behind s then came s (take_of s.chain.have.items p s.standing.n s.standing.token) else unchanged s

-- What an executor does that goes on from its record.
abbrev pub resumed : ℕ → ℕ → ExecutorState → ExecutorOutcome
resumed u id s = record {
  state = after_crash s;
  saves = false;
  letters = flat_map (token_told u id) s.chain.members ++ (to_all_verifiers u id (Ask (s.known + 1)) ++ needs u id s);
}
