-- A decree that is obeyed, and a parcel that is taken.
use Rattle.std.proofs.Common.{◌≡◌, ℕ, suc, ◌+◌, ◌<◌, Bool, true, false, List, [], ◌∷◌, Option, Some, None, refl, sym, ◌∙◌, ap, subst, arith, slice_get}
use Rattle.std.specs.Prelude.{◌==◌, ◌&&◌, if◌then◌else◌}
use Rattle.std.proofs.lemmas.Bool.{cond_both, and_parts, eqb-true, ltb-true}
use Rattle.token.specs.declared.Token as token
use Rattle.decrees.specs.declared.decree.Decree.{Decree}
use Rattle.decrees.specs.declared.decree.Decree.TheVariants.{Commit, Rollback}
use Rattle.decrees.specs.declared.ballot.Ballot.TheVariants.{Token}
use Rattle.decrees.specs.Count.{member_count}
use Rattle.decrees.specs.Standing.{standing_after}
use Rattle.decrees.specs.Votes.{token_eq}
use Rattle.decrees.proofs.TokenLemmas.{token_eq-true}
use Rattle.states.specs.State.{StateView}
use Rattle.executor.specs.Work.{TentativeView, WorkView}
use Rattle.rollback.specs.Chain.{commits_first, first_replies}
use Rattle.transfer.specs.Need.{need_of}
use Rattle.transfer.specs.Parcel.{ParcelView, makes_state, parcel_state, take_of}
use Rattle.exec_lines.specs.declared.body.Body.TheVariants as body
use Rattle.exec_lines.specs.State.{ExecutorState, ExecutorOutcome, is_behind, to_other_executors, token_told}
use Rattle.exec_lines.specs.Lines.{needs, rolled_back, roll_back, commit_first, obey}
use Rattle.custody_laws.specs.Durable.{Durable, durable_after, obeyed, IsMember}
use Rattle.custody_laws.specs.Machine.{ExecutorMachine, said_of}
use Rattle.custody_laws.proofs.Kept.{member_previous, member_epoch}
use Rattle.world_laws.specs.Ballots.{ballots}
use Rattle.one_server_laws.specs.Saved.{saved_of}
use Rattle.one_server_laws.specs.Machines.{HasWork}
use Rattle.one_server_laws.proofs.Steps.{said_below}
use Rattle.one_server_laws.proofs.Moves.{no_ballots, no_replies, ballots_are, Moves, taken_moves}

-- what is told of a member is what the machine's executors say
said_is : (epoch : ℕ) (base : StateView) (t : TentativeView) → IsMember epoch base t → Token t.batch.epoch t.after.number t.before.token t.after.token ≡ said_of t
said_is epoch base t member =
    let of_epoch : t.batch.epoch ≡ t.after.epoch = member.of_epoch ∙ sym (member_epoch member) in
    let previous : t.before.token ≡ t.after.previous = ap (λ (s : StateView). s.token) member.over ∙ sym (member_previous member) in
    λ i. Token (of_epoch i) t.after.number (previous i) t.after.token

pub told_is : (u id epoch : ℕ) (base : StateView) (t : TentativeView) → IsMember epoch base t → ballots (token_told u id t) ≡ said_below id (member_count u) (said_of t)
told_is u id epoch base t member = ballots_are id (member_count u) (Token t.batch.epoch t.after.number t.before.token t.after.token) ∙ ap (said_below id (member_count u)) (said_is epoch base t member)

-- what is asked of other executors is no ballot
pub needs_none : (u id : ℕ) (s : ExecutorState) → ballots (needs u id s) ≡ []
needs_none u id s = cond_both (is_behind s) (to_other_executors u id (body.Need (need_of s.chain.have))) [] (λ ls. ballots ls ≡ [])
    (λ _. no_ballots id (member_count u) (body.Need (need_of s.chain.have)) (λ to. refl)) (λ _. refl)

pub obey_none : (u id : ℕ) (s : ExecutorState) (d : Decree) → ballots (obey u id s d).letters ≡ []
obey_none u id s d = cond_both (commits_first d s.chain.members) (commit_first id s d) (roll_back u id s d) (λ (o : ExecutorOutcome). ballots o.letters ≡ [])
    (λ _. no_replies id (first_replies s.chain.members)) (λ _. needs_none u id (rolled_back s d))

-- ---- a decree: what is saved obeys it, and work over a tip that is committed goes on

abbrev pub IsObeyed : ExecutorOutcome → Durable → Type 0
IsObeyed o x = (saved_of o.state ≡ x) × HasWork (saved_of o.state) o.state.work

both_cond : (b : Bool) (A B : ExecutorOutcome) (C D : Durable) → (b ≡ true → IsObeyed A C) → (b ≡ false → IsObeyed B D) → IsObeyed (if b then A else B) (if b then C else D)
both_cond true A B C D h k = h refl
both_cond false A B C D h k = k refl

-- the state with these members in its chain
abbrev with_members : ExecutorState → List TentativeView → ExecutorState
with_members s ms = record s { chain = record { have = s.chain.have; members = ms } }

one_more : (n : ℕ) → n + 1 ≡ suc n
one_more n = omega arith

undone_is : (s : ExecutorState) (ms : List TentativeView) (d : Decree) → saved_of (rolled_back (with_members s ms) d) ≡ durable_after (saved_of (with_members s ms)) d s.chain.have []
undone_is s ms d = λ i. record { known = one_more s.known i; standing = standing_after s.standing d; have = s.chain.have; chain = [] }

work_moves : (s : ExecutorState) (n : ℕ) (t : token.Token) (m : TentativeView) (ms : List TentativeView) (work : Option WorkView) → m.after.number ≡ n → HasWork (saved_of (with_members s (m ∷ ms))) work
    → HasWork (saved_of (commit_first 0 (with_members s (m ∷ ms)) (Commit n t)).state) work
work_moves s n t m ms None number ok = tt
work_moves s n t m ms (Some w) number ok = record { over = ok.over; worked = ok.worked; next = ok.next; of_epoch = ok.of_epoch; level = number }

obeyed_with : (u id : ℕ) (s : ExecutorState) (d : Decree) (ms : List TentativeView) → HasWork (saved_of (with_members s ms)) s.work → IsObeyed (obey u id (with_members s ms) d) (obeyed (saved_of (with_members s ms)) d)
obeyed_with u id s Rollback [] ok = (undone_is s [] Rollback, tt)
obeyed_with u id s Rollback (m ∷ ms) ok = (undone_is s (m ∷ ms) Rollback, tt)
obeyed_with u id s (Commit n t) [] ok = (undone_is s [] (Commit n t), tt)
obeyed_with u id s (Commit n t) (m ∷ ms) ok =
    both_cond ((m.after.number == n) && token_eq m.after.token t) (commit_first id (with_members s (m ∷ ms)) (Commit n t)) (roll_back u id (with_members s (m ∷ ms)) (Commit n t))
    (durable_after (saved_of (with_members s (m ∷ ms))) (Commit n t) m.after ms) (durable_after (saved_of (with_members s (m ∷ ms))) (Commit n t) s.chain.have [])
    (λ yes. (
      (λ i. record { known = one_more s.known i; standing = standing_after s.standing (Commit n t); have = m.after; chain = ms }),
      work_moves s n t m ms s.work (eqb-true m.after.number n (and_parts (m.after.number == n) (token_eq m.after.token t) yes).0) ok,
    ))
    (λ _. (undone_is s (m ∷ ms) (Commit n t), tt))

pub obey_is : (u id : ℕ) (s : ExecutorState) (d : Decree) → HasWork (saved_of s) s.work → IsObeyed (obey u id s d) (obeyed (saved_of s) d)
obey_is u id s d ok = obeyed_with u id s d s.chain.members ok

-- ---- a parcel that is taken has the standing number and token, and the token of its parts

pub parcel_moves : (u id : ℕ) (m : ExecutorMachine) (s : ExecutorState) → slice_get m.executors id ≡ Some (saved_of s) → (p : ParcelView) (state : StateView) → is_behind s ≡ true → take_of s.chain.have.items p s.standing.n s.standing.token ≡ Some state
    → Moves false u id m (record (saved_of s) { have = state; chain = [] }) []
parcel_moves u id m s at p state behind took = by ((p.origin.number == s.standing.n) && (makes_state s.chain.have.items p && token_eq (parcel_state s.chain.have.items p).token s.standing.token)) refl
  where
    low : s.chain.have.number < s.standing.n
    low = ltb-true s.chain.have.number s.standing.n behind

    by : (b : Bool) → ((p.origin.number == s.standing.n) && (makes_state s.chain.have.items p && token_eq (parcel_state s.chain.have.items p).token s.standing.token)) ≡ b → Moves false u id m (record (saved_of s) { have = state; chain = [] }) []
    by false unfit =
        let clash : ◌≡◌ {A = Option StateView} None (Some state) = sym (ap (λ (b : Bool). if b then Some (parcel_state s.chain.have.items p) else None) unfit) ∙ took in
        absurd (cc clash)
    by true fit =
        let parts = and_parts (p.origin.number == s.standing.n) _ fit in
        let number = eqb-true p.origin.number s.standing.n parts.0 in
        let of_token = token_eq-true (parcel_state s.chain.have.items p).token s.standing.token (and_parts (makes_state s.chain.have.items p) _ parts.1).1 in
        let some : ◌≡◌ {A = Option StateView} (Some (parcel_state s.chain.have.items p)) (Some state) = sym (ap (λ (b : Bool). if b then Some (parcel_state s.chain.have.items p) else None) fit) ∙ took in
        let same : parcel_state s.chain.have.items p ≡ state = cc some in
        subst (λ (y : StateView). Moves false u id m (record (saved_of s) { have = y; chain = [] }) []) same
        (taken_moves u id m (saved_of s) at (parcel_state s.chain.have.items p) low number of_token (record { first = λ z. absurd (omega (arith, z, number, low)); token = λ l. refl }))
