-- What an executor replies to clients is what its committed state keeps, before the step or after it, or a state that it commits on the way.
use Rattle.std.proofs.Common.{◌≡◌, ◌⊎◌, inl, inr, ℕ, zero, suc, ◌+◌, Bool, true, false, List, [], ◌∷◌, ◌++◌, Option, Some, None, map, refl, sym, ap, ◌∙◌}
use Rattle.std.specs.Prelude.{◌==◌, if◌then◌else◌, nat_lt, flat_map}
use Rattle.std.specs.FinMap.{get}
use Rattle.std.specs.List.{AllByRecursion}
use Rattle.std.proofs.lemmas.Bool.{cond_both, eqb-true}
use Rattle.decrees.specs.declared.ballot.Ballot.{Ballot}
use Rattle.decrees.specs.declared.ballot.Ballot.TheVariants.{Token, Accept, Accepted, Decided, Ask, Change, Promise, Stands}
use Rattle.decrees.specs.declared.decree.Decree.{Decree}
use Rattle.decrees.specs.declared.node.Letter.{Letter}
use Rattle.decrees.specs.declared.node.Node.{Node}
use Rattle.decrees.specs.declared.node.Node.TheVariants.{Client, Executor, Verifier}
use Rattle.decrees.specs.declared.standing.Standing.{Standing}
use Rattle.decrees.specs.Count.{member_count}
use Rattle.proto.specs.declared.reply.Reply as replies
use Rattle.sessions.specs.declared.request.Request.{Request}
use Rattle.sessions.specs.declared.sessions.LastReply.{LastReply}
use Rattle.sessions.specs.Fresh.{Replies}
use Rattle.batches.specs.declared.batch.Batch.{Batch}
use Rattle.states.specs.State.{StateView}
use Rattle.executor.specs.declared.answered.Answered.{Answered}
use Rattle.executor.specs.declared.work.Ended.{Ended}
use Rattle.executor.specs.declared.work.Ended.TheVariants.{On, Done}
use Rattle.executor.specs.Fresh.{Runner}
use Rattle.executor.specs.Kept.{reply_kept, kept_for, AreKept}
use Rattle.executor.specs.Work.{TentativeView, WorkView, is_group_done}
use Rattle.rollback.specs.Chain.{ChainView, chain_tip, commits_first, first_replies, without_first, is_standing, chain_from, replies_on_commit}
use Rattle.transfer.specs.declared.need.Need.{Need}
use Rattle.transfer.specs.Need.{need_of}
use Rattle.transfer.specs.Parcel.{ParcelView, answer_of, take_of}
use Rattle.exec_lines.specs.declared.body.Body.{Body}
use Rattle.exec_lines.specs.declared.body.Body.TheVariants as body
use Rattle.exec_lines.specs.declared.input.Input.{Input}
use Rattle.exec_lines.specs.declared.input.Input.TheVariants as input
use Rattle.exec_lines.specs.Begun.{begin_of, finish_of}
use Rattle.exec_lines.specs.State.{ExecutorState, ExecutorOutcome, is_behind, runs_in_order, executor_letter, to_first_verifiers, to_all_verifiers, to_first_executors, to_other_executors, token_told, to_clients, unchanged, one_letter}
use Rattle.exec_lines.specs.Lines.{waits, wanted, completed, went_on, begin, after_cut, cut_batch, ordered, may_cut, on_cut, may_obey_order, on_order, stepped, work_after, finished, may_adopt, on_adopt, needs, rolled_back, roll_back, commit_first, obey, decree_is_due, on_decree, is_told, stood_over, stood_without, stood, on_stands, has_more, on_need, came, on_parcel, resumed}
use Rattle.exec_lines.specs.Step.{from_client, from_executor, on_ballot, from_verifier, on_letter, executor_step}
use Rattle.one_server_laws.specs.Saved.{AreLinked}
use Rattle.one_server_laws.proofs.Stood.{IsUnder}

-- ---- replies among letters

-- what is asked of a reply to this node
abbrev pub RepliedTo : (ℕ → ℕ → replies.Reply → Type 0) → Node → ℕ → replies.Reply → Type 0
RepliedTo P (Client c) number reply = P c number reply
RepliedTo P (Executor id) number reply = Unit {0}
RepliedTo P (Verifier id) number reply = Unit {0}

abbrev pub SaidTo : (ℕ → ℕ → replies.Reply → Type 0) → Node → Body → Type 0
SaidTo P to (body.Reply number reply) = RepliedTo P to number reply
SaidTo P to (body.Want r) = Unit {0}
SaidTo P to (body.Order b) = Unit {0}
SaidTo P to (body.Need q) = Unit {0}
SaidTo P to (body.Parcel p) = Unit {0}
SaidTo P to (body.Ballot b) = Unit {0}

-- of each reply to a client among these letters it holds
abbrev pub AllReplies : (ℕ → ℕ → replies.Reply → Type 0) → List (Letter Body) → Type 0
AllReplies P ls = AllByRecursion (λ l. SaidTo P l.to l.body) ls

module _ (P Q : ℕ → ℕ → replies.Reply → Type 0) (h : (c number : ℕ) (reply : replies.Reply) → P c number reply → Q c number reply) where
  replied_more : (to : Node) (number : ℕ) (reply : replies.Reply) → RepliedTo P to number reply → RepliedTo Q to number reply
  replied_more (Client c) number reply k = h c number reply k
  replied_more (Executor id) number reply k = tt
  replied_more (Verifier id) number reply k = tt

  said_more : (to : Node) (b : Body) → SaidTo P to b → SaidTo Q to b
  said_more to (body.Reply number reply) k = replied_more to number reply k
  said_more to (body.Want r) k = tt
  said_more to (body.Order b) k = tt
  said_more to (body.Need q) k = tt
  said_more to (body.Parcel p) k = tt
  said_more to (body.Ballot b) k = tt

  pub replies_more : (ls : List (Letter Body)) → AllReplies P ls → AllReplies Q ls
  replies_more [] k = tt
  replies_more (l ∷ ls) k = (said_more l.to l.body k.0, replies_more ls k.1)

-- ---- letters with no reply

module _ (P : ℕ → ℕ → replies.Reply → Type 0) where
  pub all-append : (xs ys : List (Letter Body)) → AllReplies P xs → AllReplies P ys → AllReplies P (xs ++ ys)
  all-append [] ys h k = k
  all-append (x ∷ xs) ys h k = (h.0, all-append xs ys h.1 k)

  to_verifiers : (id n : ℕ) (b : Ballot) → AllReplies P (to_first_verifiers id n b)
  to_verifiers id zero b = tt
  to_verifiers id (suc n) b = all-append (to_first_verifiers id n b) (executor_letter id (Verifier n) (body.Ballot b) ∷ []) (to_verifiers id n b) (tt, tt)

  to_executors : (id n : ℕ) (b : Body) → ((to : Node) → SaidTo P to b) → AllReplies P (to_first_executors id n b)
  to_executors id zero b h = tt
  to_executors id (suc n) b h =
      all-append (to_first_executors id n b) (if n == id then [] else executor_letter id (Executor n) b ∷ []) (to_executors id n b h)
      (cond_both (n == id) [] (executor_letter id (Executor n) b ∷ []) (AllReplies P) (λ _. tt) (λ _. (h (Executor n), tt)))

  tells : (u id : ℕ) (t : TentativeView) → AllReplies P (token_told u id t)
  tells u id t = to_verifiers id (member_count u) (Token t.batch.epoch t.after.number t.before.token t.after.token)

  all_tell : (u id : ℕ) (ts : List TentativeView) → AllReplies P (flat_map (token_told u id) ts)
  all_tell u id [] = tt
  all_tell u id (t ∷ ts) = all-append (token_told u id t) (flat_map (token_told u id) ts) (tells u id t) (all_tell u id ts)

  asks_others : (u id : ℕ) (s : ExecutorState) → AllReplies P (needs u id s)
  asks_others u id s = cond_both (is_behind s) (to_other_executors u id (body.Need (need_of s.chain.have))) [] (AllReplies P)
      (λ _. to_executors id (member_count u) (body.Need (need_of s.chain.have)) (λ to. tt)) (λ _. tt)

  -- what goes on from its record replies nothing
  pub resumed_replies : (u id : ℕ) (s : ExecutorState) → AllReplies P (resumed u id s).letters
  resumed_replies u id s =
      all-append (flat_map (token_told u id) s.chain.members) (to_all_verifiers u id (Ask (s.known + 1)) ++ needs u id s) (all_tell u id s.chain.members)
      (all-append (to_all_verifiers u id (Ask (s.known + 1))) (needs u id s) (to_verifiers id (member_count u) (Ask (s.known + 1))) (asks_others u id s))

-- ---- what sessions keep

-- the state keeps this reply for the client
abbrev pub KeepsReply : StateView → ℕ → ℕ → replies.Reply → Type 0
KeepsReply s c number reply = get s.sessions c ≡ Some (record { number = number; reply = reply })

-- the answers that are kept for a request that ran
kept_one : (sessions : Replies) (r : Runner) (a : Answered) (o : Option LastReply) → get sessions r.1.client ≡ o → reply_kept r o ≡ Some a → get sessions a.client ≡ Some (record { number = a.number; reply = a.reply })
kept_one sessions r a None at e = absurd (cc e)
kept_one sessions r a (Some kept) at e = by (kept.number == r.1.number) refl e
  where
    by : (b : Bool) → (kept.number == r.1.number) ≡ b → (if b then Some (record { place = r.0; client = r.1.client; number = r.1.number; reply = kept.reply }) else None) ≡ Some a → get sessions a.client ≡ Some (record { number = a.number; reply = a.reply })
    by false other none = absurd (cc none)
    by true same some =
        let is : ◌≡◌ {A = Answered} (record { place = r.0; client = r.1.client; number = r.1.number; reply = kept.reply }) a = cc some in
        let number = eqb-true kept.number r.1.number same in
        ap (λ (x : Answered). get sessions x.client) (sym is) ∙ (at ∙ ((λ i. Some (record { number = number i; reply = kept.reply })) ∙ ap (λ (x : Answered). Some (record { number = x.number; reply = x.reply })) is))

kept_all : (s : StateView) (id : ℕ) (rs : List Runner) (answers : List Answered) → AreKept s.sessions rs answers → AllReplies (KeepsReply s) (to_clients id answers)
kept_all s id [] [] e = tt
kept_all s id [] (a ∷ answers) e = absurd (cc e)
kept_all s id (r ∷ rs) [] e = absurd (cc e)
kept_all s id (r ∷ rs) (a ∷ answers) e =
    let first : kept_for s.sessions r ≡ Some a = cc e in
    let others : map (kept_for s.sessions) rs ≡ map Some answers = cc e in
    (kept_one s.sessions r a (get s.sessions r.1.client) refl first, kept_all s id rs answers others)

-- the replies of the first member are kept by the state that it leads to
first_kept : (id : ℕ) (have : StateView) (ms : List TentativeView) → AreLinked have ms → AllReplies (KeepsReply (without_first have ms).have) (to_clients id (first_replies ms))
first_kept id have [] linked = tt
first_kept id have (t ∷ ts) linked = kept_all t.after id _ t.replies linked.1

-- and those of the members up to what stands, each by the state after that member
abbrev pub KeepsUnder : Standing → StateView → List TentativeView → ℕ → ℕ → replies.Reply → Type 0
KeepsUnder st have ms c number reply = (m : TentativeView) × IsUnder st have ms m × KeepsReply m.after c number reply

replies_both : (P : ℕ → ℕ → replies.Reply → Type 0) (id : ℕ) (xs ys : List Answered) → AllReplies P (to_clients id xs) → AllReplies P (to_clients id ys) → AllReplies P (to_clients id (xs ++ ys))
replies_both P id [] ys h k = k
replies_both P id (x ∷ xs) ys h k = (h.0, replies_both P id xs ys h.1 k)

under_kept : (id : ℕ) (st : Standing) (have : StateView) (ms : List TentativeView) → AreLinked have ms → AllReplies (KeepsUnder st have ms) (to_clients id (replies_on_commit st have ms))
under_kept id st have [] linked = tt
under_kept id st have (t ∷ ts) linked = cond_both (is_standing st have) [] (t.replies ++ replies_on_commit st t.after ts) (λ (answers : List Answered). AllReplies (KeepsUnder st have (t ∷ ts)) (to_clients id answers))
    (λ _. tt)
    (λ below.
    let P = KeepsUnder st have (t ∷ ts) in
    replies_both P id t.replies (replies_on_commit st t.after ts)
    (replies_more (KeepsReply t.after) P (λ c number reply k. (t, (below, inl refl), k)) (to_clients id t.replies) (kept_all t.after id _ t.replies linked.1))
    (replies_more (KeepsUnder st t.after ts) P (λ c number reply k. (k.0, (below, inr k.1), k.2)) (to_clients id (replies_on_commit st t.after ts)) (under_kept id st t.after ts linked.2)))

-- ---- line by line

-- what stands now was found in the chain, and the reply is kept by the state after a member up to that
pub record KeepsOnTheWay (s now : ExecutorState) (c number : ℕ) (reply : replies.Reply) : Type 0 where
  pub chain : ChainView
  pub is_found : chain_from now.standing s.chain.have s.chain.members ≡ Some chain
  pub under : KeepsUnder now.standing s.chain.have s.chain.members c number reply

-- a reply is one that the committed state keeps, before or after, or one that is committed on the way
abbrev pub KeepsBeforeOrAfter : ExecutorState → ExecutorState → ℕ → ℕ → replies.Reply → Type 0
KeepsBeforeOrAfter s now c number reply = KeepsReply s.chain.have c number reply ⊎ KeepsReply now.chain.have c number reply ⊎ KeepsOnTheWay s now c number reply

abbrev RepliesKept : ExecutorState → ExecutorOutcome → Type 0
RepliesKept s o = AllReplies (KeepsBeforeOrAfter s o.state) o.letters

module _ (u id : ℕ) (s : ExecutorState) (linked : AreLinked s.chain.have s.chain.members) where
  wants_kept : (r : Request) (o : Option LastReply) → get s.chain.have.sessions r.client ≡ o → RepliesKept s (wanted id s r o)
  wants_kept r None at = tt
  wants_kept r (Some kept) at = cond_both (kept.number == r.number) (one_letter id s (Client r.client) (body.Reply r.number kept.reply)) (if nat_lt r.number kept.number then unchanged s else waits s r) (RepliesKept s)
      (λ same. let number = eqb-true kept.number r.number same in (inl (at ∙ (λ i. Some (record { number = number i; reply = kept.reply }))), tt))
      (λ _. cond_both (nat_lt r.number kept.number) (unchanged s) (waits s r) (RepliesKept s) (λ _. tt) (λ _. tt))

  went_on_kept : (now : ExecutorState) (letters : List (Letter Body)) (e : Ended) → ((P : ℕ → ℕ → replies.Reply → Type 0) → AllReplies P letters) → RepliesKept s (went_on u id now letters e)
  went_on_kept now letters (On w) h = h (KeepsBeforeOrAfter s (went_on u id now letters (On w)).state)
  went_on_kept now letters (Done t) h =
      let P = KeepsBeforeOrAfter s (completed u id now letters t).state in
      all-append P letters (token_told u id t) (h P) (tells P u id t)

  begin_kept : (now : ExecutorState) (letters : List (Letter Body)) (b : Batch) → ((P : ℕ → ℕ → replies.Reply → Type 0) → AllReplies P letters) → RepliesKept s (begin u id now letters b)
  begin_kept now letters b h = went_on_kept now letters (begin_of (chain_tip now.chain) b (runs_in_order now.standing b.n)) h

  ordered_kept : (now : ExecutorState) (o : Option Batch) → RepliesKept s (ordered u id now o)
  ordered_kept now None = tt
  ordered_kept now (Some b) = begin_kept now (to_other_executors u id (body.Order b)) b (λ P. to_executors P id (member_count u) (body.Order b) (λ to. tt))

  cut_kept : (moment : ℕ) → RepliesKept s (on_cut u id s moment)
  cut_kept moment = cond_both (may_cut u id s) (ordered u id (after_cut s) (cut_batch s moment)) (unchanged s) (RepliesKept s) (λ _. ordered_kept (after_cut s) (cut_batch s moment)) (λ _. tt)

  order_kept : (b : Batch) → RepliesKept s (on_order u id s b)
  order_kept b = cond_both (may_obey_order s b) (begin u id s [] b) (unchanged s) (RepliesKept s) (λ _. begin_kept s [] b (λ P. tt)) (λ _. tt)

  stepped_kept : (o : Option WorkView) → RepliesKept s (stepped s o)
  stepped_kept None = tt
  stepped_kept (Some w) = tt

  finished_kept : (o : Option WorkView) → RepliesKept s (finished u id s o)
  finished_kept None = tt
  finished_kept (Some w) = cond_both (is_group_done w.progress) (went_on u id s [] (finish_of w)) (unchanged s) (RepliesKept s) (λ _. went_on_kept s [] (finish_of w) (λ P. tt)) (λ _. tt)

  adopt_kept : (t : TentativeView) → RepliesKept s (on_adopt u id s t)
  adopt_kept t = cond_both (may_adopt s t) (completed u id s [] t) (unchanged s) (RepliesKept s) (λ _. tells (KeepsBeforeOrAfter s (completed u id s [] t).state) u id t) (λ _. tt)

  obey_kept : (d : Decree) → RepliesKept s (obey u id s d)
  obey_kept d = cond_both (commits_first d s.chain.members) (commit_first id s d) (roll_back u id s d) (RepliesKept s)
      (λ _. replies_more (KeepsReply (without_first s.chain.have s.chain.members).have) (KeepsBeforeOrAfter s (commit_first id s d).state) (λ c number reply k. inr (inl k)) (to_clients id (first_replies s.chain.members)) (first_kept id s.chain.have s.chain.members linked))
      (λ _. asks_others (KeepsBeforeOrAfter s (rolled_back s d)) u id (rolled_back s d))

  decree_kept : (v place : ℕ) (d : Decree) → RepliesKept s (on_decree u id s v place d)
  decree_kept v place d = cond_both (decree_is_due s place d) (obey u id s d) (if nat_lt (s.known + 1) place then one_letter id s (Verifier v) (body.Ballot (Ask (s.known + 1))) else unchanged s) (RepliesKept s)
      (λ _. obey_kept d)
      (λ _. cond_both (nat_lt (s.known + 1) place) (one_letter id s (Verifier v) (body.Ballot (Ask (s.known + 1)))) (unchanged s) (RepliesKept s) (λ _. (tt, tt)) (λ _. tt))

  stood_kept : (place : ℕ) (st : Standing) (o : Option ChainView) → chain_from st s.chain.have s.chain.members ≡ o → RepliesKept s (stood u id s place st o)
  stood_kept place st None is = asks_others (KeepsBeforeOrAfter s (stood_without s place st)) u id (stood_without s place st)
  stood_kept place st (Some c) is =
      replies_more (KeepsUnder st s.chain.have s.chain.members) (KeepsBeforeOrAfter s (stood_over s place st c)) (λ client number reply k. inr (inr (record { chain = c; is_found = is; under = k })))
      (to_clients id (replies_on_commit st s.chain.have s.chain.members)) (under_kept id st s.chain.have s.chain.members linked)

  stands_kept : (place : ℕ) (st : Standing) → RepliesKept s (on_stands u id s place st)
  stands_kept place st = cond_both (is_told s place st) (stood u id s place st (chain_from st s.chain.have s.chain.members)) (unchanged s) (RepliesKept s)
      (λ _. stood_kept place st (chain_from st s.chain.have s.chain.members) refl) (λ _. tt)

  need_kept : (e : ℕ) (q : Need) → RepliesKept s (on_need id s e q)
  need_kept e q = cond_both (has_more s q) (one_letter id s (Executor e) (body.Parcel (answer_of s.chain.have q))) (unchanged s) (RepliesKept s) (λ _. (tt, tt)) (λ _. tt)

  came_kept : (o : Option StateView) → RepliesKept s (came s o)
  came_kept None = tt
  came_kept (Some state) = tt

  parcel_kept : (p : ParcelView) → RepliesKept s (on_parcel s p)
  parcel_kept p = cond_both (is_behind s) (came s (take_of s.chain.have.items p s.standing.n s.standing.token)) (unchanged s) (RepliesKept s) (λ _. came_kept (take_of s.chain.have.items p s.standing.n s.standing.token)) (λ _. tt)

  from_client_kept : (b : Body) → RepliesKept s (from_client id s b)
  from_client_kept (body.Want r) = wants_kept r (get s.chain.have.sessions r.client) refl
  from_client_kept (body.Order b) = tt
  from_client_kept (body.Reply number reply) = tt
  from_client_kept (body.Need q) = tt
  from_client_kept (body.Parcel p) = tt
  from_client_kept (body.Ballot b) = tt

  from_executor_kept : (e : ℕ) (b : Body) → RepliesKept s (from_executor u id s e b)
  from_executor_kept e (body.Want r) = tt
  from_executor_kept e (body.Order b) = order_kept b
  from_executor_kept e (body.Reply number reply) = tt
  from_executor_kept e (body.Need q) = need_kept e q
  from_executor_kept e (body.Parcel p) = parcel_kept p
  from_executor_kept e (body.Ballot b) = tt

  on_ballot_kept : (v : ℕ) (b : Ballot) → RepliesKept s (on_ballot u id s v b)
  on_ballot_kept v (Token epoch n previous token) = tt
  on_ballot_kept v (Accept view place d) = tt
  on_ballot_kept v (Accepted view place d) = tt
  on_ballot_kept v (Decided place d) = decree_kept v place d
  on_ballot_kept v (Ask place) = tt
  on_ballot_kept v (Change view) = tt
  on_ballot_kept v (Promise view count accepted) = tt
  on_ballot_kept v (Stands place st) = stands_kept place st

  from_verifier_kept : (v : ℕ) (b : Body) → RepliesKept s (from_verifier u id s v b)
  from_verifier_kept v (body.Want r) = tt
  from_verifier_kept v (body.Order b) = tt
  from_verifier_kept v (body.Reply number reply) = tt
  from_verifier_kept v (body.Need q) = tt
  from_verifier_kept v (body.Parcel p) = tt
  from_verifier_kept v (body.Ballot b) = on_ballot_kept v b

  on_letter_kept : (from : Node) (b : Body) → RepliesKept s (on_letter u id s from b)
  on_letter_kept (Client c) b = from_client_kept b
  on_letter_kept (Executor e) b = from_executor_kept e b
  on_letter_kept (Verifier v) b = from_verifier_kept v b

  -- whatever the input
  pub step_replies : (x : Input) → AllReplies (KeepsBeforeOrAfter s (executor_step u id s x).state) (executor_step u id s x).letters
  step_replies (input.Letter l) = on_letter_kept l.from l.body
  step_replies (input.Cut moment) = cut_kept moment
  step_replies (input.Step place) = stepped_kept (work_after s.work place)
  step_replies input.Finish = finished_kept s.work
  step_replies (input.Adopt t) = adopt_kept t
