-- A record spells one saved state.
use Rattle.std.proofs.Common.{◌≡◌, ℕ, List, [], ◌∷◌, ◌++◌, length, Option, Some, refl, sym, ◌∙◌, ap, subst, append_assoc, arith}
use Rattle.std.specs.Prelude.{flat_map}
use Rattle.std.specs.Int.{w8}
use Rattle.std.proofs.lemmas.List.Concat.{flat_map-cons}
use Rattle.wire.specs.Number.{num}
use Rattle.wire.specs.NumberLaws.{num_prefix_free, wide8}
use Rattle.wire.specs.Batch.{batch_text}
use Rattle.wire.specs.BatchLaws.{batch_prefix_free}
use Rattle.batches.specs.declared.batch.Batch.{Batch}
use Rattle.states.specs.declared.version.Version.{Version}
use Rattle.states.specs.declared.version.Version.TheVariants as version
use Rattle.states.specs.State.{StateView}
use Rattle.states.specs.StateRecord.{after_text}
use Rattle.states.proofs.RecordLemmas.{state_free, after_free}
use Rattle.executor.specs.Kept.{AreKept}
use Rattle.executor.specs.MemberRecord.{member_text}
use Rattle.executor.specs.Round.{runners}
use Rattle.executor.specs.Work.{TentativeView}
use Rattle.executor.proofs.ReplyLemmas.{one_list, round_kept}
use Rattle.rollback.specs.Chain.{AreOver, chain_text}
use Rattle.exec_lines.specs.State.{ExecutorState}
use Rattle.exec_lines.specs.Record.{executor_text, executor_text_in}
use Rattle.exec_node.proofs.RecordLemmas.{fields_free}
use Rattle.exec_node.specs.Record.{ExecutorHead, IsExecutorRecordIn}
use Rattle.run_laws.specs.Run.{Executed}
use Rattle.custody_laws.specs.Durable.{Durable}
use Rattle.custody_laws.proofs.Kept.{Chain}
use Rattle.one_server_laws.specs.Saved.{saved_of, up_again, AreLinked, IsSpelled}
use Rattle.one_server_laws.specs.HeldLaws.{OneTextIsSpelled, OneIsRead}

-- ---- members

-- over one state no record of a member begins another's
members_apart : (t u : TentativeView) (r s : List ℕ) → t.before ≡ u.before → member_text t ++ r ≡ member_text u ++ s → (t.batch ≡ u.batch) × (t.after ≡ u.after) × (r ≡ s)
members_apart t u r s over same =
    let both = batch_prefix_free.apart t.batch u.batch (after_text t.before.items t.after ++ r) (after_text u.before.items u.after ++ s)
    (sym (append_assoc (batch_text t.batch) (after_text t.before.items t.after) r) ∙ (same ∙ append_assoc (batch_text u.batch) (after_text u.before.items u.after) s)) in
    let rest = (after_free t.before.items).apart t.after u.after r s (both.1 ∙ ap (λ (b : StateView). after_text b.items u.after ++ s) (sym over)) in
    (both.0, rest.0, rest.1)

same_member : (t u : TentativeView) → t.before ≡ u.before → t.batch ≡ u.batch → t.after ≡ u.after → AreKept t.after.sessions (runners t.before t.batch) t.replies → AreKept u.after.sessions (runners u.before u.batch) u.replies → t ≡ u
same_member t u before batch after kept other =
    let moved : AreKept u.after.sessions (runners u.before u.batch) t.replies = subst (λ (x : StateView × Batch × StateView). AreKept x.2.sessions (runners x.0 x.1) t.replies) (λ i. (before i, batch i, after i)) kept in
    let replies = one_list t.replies u.replies (sym moved ∙ other) in
    (λ i. record { before = before i; batch = batch i; after = after i; replies = replies i })

chains_apart : (base other : StateView) (ts us : List TentativeView) → base ≡ other → AreLinked base ts → AreLinked other us → length ts ≡ length us → flat_map member_text ts ≡ flat_map member_text us → ts ≡ us
chains_apart base other [] [] e l k n same = refl
chains_apart base other [] (u ∷ us) e l k n same = absurd (omega (arith, n))
chains_apart base other (t ∷ ts) [] e l k n same = absurd (omega (arith, n))
chains_apart base other (t ∷ ts) (u ∷ us) e l k n same =
    let over : t.before ≡ u.before = l.0 ∙ (e ∙ sym k.0) in
    let parts = members_apart t u (flat_map member_text ts) (flat_map member_text us) over (sym (flat_map-cons member_text t ts) ∙ (same ∙ flat_map-cons member_text u us)) in
    let head = same_member t u over parts.0 parts.1 l.1 k.1 in
    let tail = chains_apart t.after u.after ts us parts.1 l.2 k.2 (omega (arith, n)) parts.2 in
    (λ i. head i ∷ tail i)

-- ---- the fields before the chain

abbrev head_of : ℕ → ℕ → Durable → ExecutorHead
head_of u id x = (((id, u), x.known), (((x.standing.n, x.standing.token), x.standing.epoch), x.standing.start))

abbrev chain_of : Durable → List ℕ
chain_of x = chain_text (up_again x).chain

drop_two : (a b : ℕ) (xs ys : List ℕ) → ◌≡◌ {A = List ℕ} (a ∷ b ∷ xs) (a ∷ b ∷ ys) → xs ≡ ys
drop_two a b xs ys e = cc e

-- what was saved, of its head and its chain
abbrev of_parts : ExecutorHead → StateView → List TentativeView → Durable
of_parts h have chain = record { known = h.0.1; standing = record { n = h.1.0.0.0; token = h.1.0.0.1; epoch = h.1.0.1; start = h.1.1 }; have = have; chain = chain }

-- one text, one saved state
texts_apart : (u id : ℕ) (x y : Durable) → AreLinked x.have x.chain → AreLinked y.have y.chain → executor_text u id (up_again x) ≡ executor_text u id (up_again y) → x ≡ y
texts_apart u id x y linked other same =
    let parts = fields_free.apart (head_of u id x) (head_of u id y) (chain_of x) (chain_of y) (drop_two 2 69 _ _ same) in
    let have = state_free.apart x.have y.have _ _ parts.1 in
    let count = (num_prefix_free w8 wide8).apart (length x.chain) (length y.chain) (flat_map member_text x.chain) (flat_map member_text y.chain) have.1 in
    let chain = chains_apart x.have y.have x.chain y.chain have.0 linked other count.0 count.1 in
    (λ i. of_parts (parts.0 i) (have.0 i) (chain i))

some_text : (a b : List ℕ) → ◌≡◌ {A = Option (List ℕ)} (Some a) (Some b) → a ≡ b
some_text a b e = cc e

pub one_is_spelled : OneTextIsSpelled
one_is_spelled u id record_is x y one other =
    texts_apart u id x y one.linked other.linked (some_text (executor_text u id (up_again x)) (executor_text u id (up_again y)) (sym one.text ∙ other.text))

-- ---- what is read

over_is_linked : (base : StateView) (ts : List TentativeView) → AreOver base ts → AreLinked base ts
over_is_linked base [] over = tt
over_is_linked base (t ∷ ts) over = (over.0.over, over.0.is.kept, over_is_linked t.after ts over.1)

-- a record of today is not one of version 1
read_is_spelled : (u id : ℕ) (bytes : List ℕ) (x : Durable) (v : Version) (s : ExecutorState) → bytes ≡ executor_text u id (up_again x) → IsExecutorRecordIn v u id bytes s → IsSpelled u id (Some bytes) (saved_of s)
read_is_spelled u id bytes x version.Second s text r = record { text = ap (λ (b : List ℕ). Some b) r.spelled; linked = over_is_linked s.chain.have s.chain.members r.recorded.over }
read_is_spelled u id bytes x version.First s text r =
    let clash : executor_text_in version.First u id s ≡ executor_text u id (up_again x) = sym r.spelled ∙ text in
    absurd (cc clash)

pub one_is_read : OneIsRead
one_is_read u id bytes x s spelled r =
    let text = some_text bytes (executor_text u id (up_again x)) spelled.text in
    let same = one_is_spelled u id (Some bytes) (saved_of s) x (read_is_spelled u id bytes x r.0 s text r.1) spelled in
    r.1.fresh ∙ ap up_again same

-- ---- what the machine's executors save

pub chain_is_linked : (met : StateView → Type 0) (rounds : Executed → Type 0) (epoch : ℕ) (base : StateView) (ts : List TentativeView) → Chain met rounds epoch base ts → AreLinked base ts
chain_is_linked met rounds epoch base [] chain = tt
chain_is_linked met rounds epoch base (t ∷ ts) chain = (
  chain.0.over,
  subst (λ (b : StateView). AreKept t.after.sessions (runners b t.batch) t.replies) (sym chain.0.over) (round_kept base t.batch chain.0.ordered t.after t.replies chain.0.is_round.round),
  chain_is_linked met rounds epoch t.after ts chain.3,
)
