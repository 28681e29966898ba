-- No bytes are the records of two states.
use Rattle.std.proofs.Common.{◌≡◌, ℕ, List, None, [], ◌∷◌, ◌++◌, length, refl, sym, ap, ◌∙◌, subst, arith, append_assoc}
use Rattle.std.specs.Prelude.{flat_map}
use Rattle.std.specs.Int.{w8, w64}
use Rattle.std.proofs.lemmas.List.Concat.{flat_map-cons}
use Rattle.std.proofs.lemmas.List.{append-nil}
use Rattle.base.specs.declared.fault.Fault.{Fault}
use Rattle.wire.specs.Record.{Always, IsPrefixFree, NoPrefix, Refused}
use Rattle.wire.specs.Number.{num}
use Rattle.wire.specs.FrontLaws.{tail_of}
use Rattle.wire.specs.FieldLaws.{pair_prefix_free}
use Rattle.wire.specs.RowLaws.{followed}
use Rattle.wire.specs.NumberLaws.{num_prefix_free, wide8, wide64}
use Rattle.wire.proofs.Values.{Refused-weaker}
use Rattle.token.specs.declared.Token.{Token}
use Rattle.token.specs.Token.{token_bytes}
use Rattle.token.specs.TokenLaws.{token_prefix_free}
use Rattle.states.specs.declared.version.Version.{Version}
use Rattle.states.specs.State.{StateView}
use Rattle.states.specs.Version.{state_text_in}
use Rattle.states.specs.VersionProofs.{version_prefix_free}
use Rattle.states.proofs.VersionLemmas.{one_state_in, state_in as state_in_today}
use Rattle.executor.specs.Work.{TentativeView}
use Rattle.executor.specs.MemberRecord.{member_text_in}
use Rattle.executor.proofs.MemberLemmas.{over_of, one_over_in}
use Rattle.rollback.proofs.RecordLemmas.{chain_apart}
use Rattle.rollback.specs.Chain.{ChainView, AreOver, AreOverIn, IsRecorded, IsRecordedIn, chain_text, chain_text_in}
use Rattle.states.specs.declared.version.Version.TheVariants.{Second}
use Rattle.exec_lines.specs.State.{ExecutorState}
use Rattle.exec_lines.specs.Kept.{saved_record}
use Rattle.exec_lines.specs.declared.record.Saved.{Saved}
use Rattle.exec_node.specs.Record.{ExecutorHead, head_fields, executor_head_text, IsExecutorRecordIn, IsReadRecord}
use Rattle.exec_node.specs.Laws.{SavedIsExecutorRecord, OneExecutorState, OldRecordsAreRenewed}

numbers_free : IsPrefixFree {X = (ℕ × ℕ) × ℕ} (λ p. (num w8 p.0.0 ++ num w8 p.0.1) ++ num w64 p.1)
numbers_free =
    pair_prefix_free (λ p. num w8 p.0 ++ num w8 p.1) (num w64)
    (pair_prefix_free (num w8) (num w8) (num_prefix_free w8 wide8) (num_prefix_free w8 wide8)) (num_prefix_free w64 wide64)

named_free : IsPrefixFree {X = ℕ × Token} (λ p. num w64 p.0 ++ token_bytes p.1)
named_free = pair_prefix_free (num w64) token_bytes (num_prefix_free w64 wide64) token_prefix_free

standing_free : IsPrefixFree {X = ((ℕ × Token) × ℕ) × ℕ} (λ p. ((num w64 p.0.0.0 ++ token_bytes p.0.0.1) ++ num w64 p.0.1) ++ num w64 p.1)
standing_free =
    pair_prefix_free (λ p. (num w64 p.0.0 ++ token_bytes p.0.1) ++ num w64 p.1) (num w64)
    (pair_prefix_free (λ p. num w64 p.0 ++ token_bytes p.1) (num w64) named_free (num_prefix_free w64 wide64)) (num_prefix_free w64 wide64)

pub fields_free : IsPrefixFree head_fields
fields_free =
    pair_prefix_free (λ p. (num w8 p.0.0 ++ num w8 p.0.1) ++ num w64 p.1)
    (λ p. ((num w64 p.0.0.0 ++ token_bytes p.0.0.1) ++ num w64 p.0.1) ++ num w64 p.1) numbers_free standing_free

-- the head of a record
abbrev pub head_in : ℕ → ℕ → ExecutorState → ExecutorHead
head_in u id s = (((id, u), s.known), (((s.standing.n, s.standing.token), s.standing.epoch), s.standing.start))

abbrev pub headed : Version → ExecutorHead → Version × ExecutorHead
headed version h = (version, h)

-- behind the version and the mark of an executor
heads_free : IsPrefixFree executor_head_text
heads_free = followed version_prefix_free (record { apart = λ h k r q e. fields_free.apart h k r q (tail_of 69 69 _ _ e) })

-- the state of a head and a chain
abbrev state_in : ExecutorHead → ChainView → ExecutorState
state_in h c = record { known = h.0.1; standing = record { n = h.1.0.0.0; token = h.1.0.0.1; epoch = h.1.0.1; start = h.1.1 }; chain = c; gather = []; work = None }

pub saved_is_record : SavedIsExecutorRecord
saved_is_record u id s begun recorded = record { fresh = refl; spelled = refl; begun = begun; recorded = recorded }

-- a record is read as one version, and as one state
pub one_read : (u id : ℕ) (bytes : List ℕ) (version other : Version) (s t : ExecutorState) → IsExecutorRecordIn version u id bytes s → IsExecutorRecordIn other u id bytes t → s ≡ t
one_read u id bytes version other s t r q =
    let parts = heads_free.apart (headed version (head_in u id s)) (headed other (head_in u id t)) (chain_text_in version s.chain) (chain_text_in other t.chain) (sym r.spelled ∙ q.spelled) in
    let again = subst (λ (v : Version). IsRecordedIn v t.chain × (chain_text_in version s.chain ≡ chain_text_in v t.chain)) (sym (ap (λ (p : Version × ExecutorHead). p.0) parts.0)) (q.recorded, parts.1) in
    let chain = (chain_apart version s.chain t.chain [] [] r.recorded again.0 (ap (λ (x : List ℕ). x ++ []) again.1)).0 in
    r.fresh ∙ ((λ i. state_in (parts.0 i).1 (chain i)) ∙ sym q.fresh)

pub one_state : OneExecutorState
one_state u id bytes s t r q = one_read u id bytes r.0 q.0 s t r.1 q.1

-- if no head is there, there is no record
pub no_head : (u id : ℕ) (bytes : List ℕ) → NoPrefix Always executor_head_text bytes → (s : ExecutorState) → IsReadRecord u id bytes s → ⊥
no_head u id bytes none s r = none.none (r.0, head_in u id s) (chain_text_in r.0 s.chain) tt r.1.spelled

module _ (u id : ℕ) (bytes : List ℕ) (version : Version) (h : ExecutorHead) (rest : List ℕ) (got : bytes ≡ executor_head_text (headed version h) ++ rest) where
  -- the head that was read is that of the record
  pub head_is : (s : ExecutorState) (r : IsReadRecord u id bytes s) → (headed version h ≡ headed r.0 (head_in u id s)) × (rest ≡ chain_text_in r.0 s.chain)
  head_is s r = heads_free.apart (headed version h) (headed r.0 (head_in u id s)) rest (chain_text_in r.0 s.chain) (sym got ∙ r.1.spelled)

  pub no_chain : (e : Fault) → Refused e ((c : ChainView) → IsRecordedIn version c → rest ≡ chain_text_in version c → ⊥) → Refused e ((s : ExecutorState) → IsReadRecord u id bytes s → ⊥)
  no_chain e = Refused-weaker e (λ (none : (c : ChainView) → IsRecordedIn version c → rest ≡ chain_text_in version c → ⊥) s r.
      let same = head_is s r in
      let again = subst (λ (v : Version). IsRecordedIn v s.chain × (rest ≡ chain_text_in v s.chain)) (sym (ap (λ (p : Version × ExecutorHead). p.0) same.0)) (r.1.recorded, same.1) in
      none s.chain again.0 again.1)

-- ---- what was saved of a state

abbrev pub saved_head : Saved → ExecutorHead
saved_head s = (((s.id, s.u), s.known), (((s.standing.n, s.standing.token), s.standing.epoch), s.standing.start))

saved_spelled : (s : Saved) → saved_record s ≡ executor_head_text (headed Second (saved_head s)) ++ s.chain
saved_spelled s = refl

pub saved_head_is : (u id : ℕ) (s : Saved) (t : ExecutorState) (r : IsReadRecord u id (saved_record s) t) → headed Second (saved_head s) ≡ headed r.0 (head_in u id t)
saved_head_is u id s t r = (head_is u id (saved_record s) Second (saved_head s) s.chain (saved_spelled s) t r).0

pub no_saved_chain : (u id : ℕ) (s : Saved) (e : Fault) → Refused e ((c : ChainView) → IsRecorded c → s.chain ≡ chain_text c → ⊥) → Refused e ((t : ExecutorState) → IsReadRecord u id (saved_record s) t → ⊥)
no_saved_chain u id s = no_chain u id (saved_record s) Second (saved_head s) s.chain (saved_spelled s)

-- a record of version 1 leads to a state whose record can be read
recorded_today : (version : Version) (c : ChainView) → IsRecordedIn version c → IsRecorded c
recorded_today version c r = record { state = state_in_today version c.have r.state; few = r.few; over = over version c.have c.members r.over }
  where
    over : (version : Version) (s : StateView) (ts : List TentativeView) → AreOverIn version s ts → AreOver s ts
    over version s [] h = tt
    over version s (t ∷ ts) h = (over_of version s t h.0, over version t.after ts h.1)

pub renewed_is_record : OldRecordsAreRenewed
renewed_is_record u id bytes s r = record { fresh = r.1.fresh; spelled = refl; begun = r.1.begun; recorded = recorded_today r.0 s.chain r.1.recorded }
