-- The record of a tentative state over a base.
use Rattle.std.proofs.Common.{◌≡◌, ℕ, true, arith, length, ◌∷◌, ◌+◌, List, [], ◌++◌, map, refl, sym, ap, ◌∙◌, subst, append_assoc}
use Rattle.std.specs.Prelude.{◌==◌}
use Rattle.std.proofs.lemmas.Bool.Decides.{nat_tests}
use Rattle.base.specs.declared.fault.Fault.{Fault}
use Rattle.items.specs.Map.{Items}
use Rattle.sessions.specs.declared.request.Request.{Request}
use Rattle.sessions.specs.Fresh.{Replies}
use Rattle.batches.specs.declared.batch.Batch.{Batch}
use Rattle.wire.specs.Record.{Always, NoPrefix, Refused}
use Rattle.wire.specs.Batch.{batch_text}
use Rattle.wire.specs.BatchLaws.{batch_prefix_free}
use Rattle.wire.specs.Session.{sessions_text}
use Rattle.wire.proofs.Values.{Refused-weaker}
use Rattle.executor.specs.declared.answered.Answered.{Answered}
use Rattle.states.specs.State.{StateView}
use Rattle.executor.specs.Fresh.{runners_among}
use Rattle.executor.specs.Work.{TentativeView}
use Rattle.states.specs.Followed.{IsSuccessor}
use Rattle.executor.specs.Kept.{kept_for, AreKept, LackOne, IsTentativeOver, IsTentativeOverIn}
use Rattle.states.specs.declared.head.Head.{Head}
use Rattle.states.specs.declared.version.Version.{Version}
use Rattle.states.specs.declared.version.Version.TheVariants.{First, Second}
use Rattle.pages.specs.Form.{layout_of}
use Rattle.states.specs.StateRecord.{head_of_state, head_text, changes_text, after_text}
use Rattle.states.specs.Version.{after_text_in, IsSuccessorIn}
use Rattle.executor.specs.MemberRecord.{member_text, member_text_in, OneMember, WholeMember, BaseIsTold}
use Rattle.states.specs.HeadProofs.{head_prefix_free}
use Rattle.states.proofs.RecordLemmas.{after_free}
use Rattle.states.proofs.VersionLemmas.{successor_in, one_after_in}
use Rattle.executor.proofs.ReplyLemmas.{one_list}

pub empty_is : (xs : List ℕ) → (length xs == 0) ≡ true → xs ≡ []
empty_is [] e = refl
empty_is (x ∷ xs) e =
    absurd (grind (arith, nat_tests, e))

pub over_of : (version : Version) (base : StateView) (t : TentativeView) → IsTentativeOverIn version base t → IsTentativeOver base t
over_of First base t is = is.0
over_of Second base t is = is

follows_of : (version : Version) (base : StateView) (t : TentativeView) → IsTentativeOverIn version base t → IsSuccessorIn version t.before t.batch t.after
follows_of First base t is = is.1
follows_of Second base t is = is.is.after

over_in : (version : Version) (base : StateView) (t : TentativeView) → IsTentativeOver base t → IsSuccessorIn version t.before t.batch t.after → IsTentativeOverIn version base t
over_in First base t over follows = (over, follows)
over_in Second base t over follows = over

-- no tentative state over the base has a record that is a prefix of these bytes
abbrev pub NoMember : Version → StateView → List ℕ → Type 0
NoMember version base bytes = NoPrefix (IsTentativeOverIn version base) (member_text_in version) bytes

pub no_batch : (version : Version) (base : StateView) (bytes : List ℕ) (e : Fault) → Refused e (NoPrefix Always batch_text bytes) → Refused e (NoMember version base bytes)
no_batch version base bytes e = Refused-weaker e (λ (none : NoPrefix Always batch_text bytes). record {
  none = λ t others over same. none.none t.batch (after_text_in version t.before.items t.after ++ others) tt (same ∙ append_assoc (batch_text t.batch) (after_text_in version t.before.items t.after) others);
})

-- the same of what was lent
pub same_lack : {s s' before before' : Replies} {rs rs' : List Request} (e : Fault) → s ≡ s' → before ≡ before' → rs ≡ rs' → Refused e (LackOne s (runners_among before rs)) → Refused e (LackOne s' (runners_among before' rs'))
same_lack {s} {s'} {before} {before'} {rs} {rs'} e a b c = subst (λ (p : (Replies × Replies) × List Request). Refused e (LackOne p.0.0 (runners_among p.0.1 p.1))) {x = ((s, before), rs)} {y = ((s', before'), rs')} (λ i. ((a i, b i), c i))

pub same_kept : {s s' before before' : Replies} {rs rs' : List Request} (replies : List Answered) → s ≡ s' → before ≡ before' → rs ≡ rs' → AreKept s (runners_among before rs) replies → AreKept s' (runners_among before' rs') replies
same_kept {s} {s'} {before} {before'} {rs} {rs'} replies a b c = subst (λ (p : (Replies × Replies) × List Request). AreKept p.0.0 (runners_among p.0.1 p.1) replies) {x = ((s, before), rs)} {y = ((s', before'), rs')} (λ i. ((a i, b i), c i))

module _ (version : Version) (base : StateView) (bytes : List ℕ) (batch : Batch) (rest : List ℕ) (got : bytes ≡ batch_text batch ++ rest) where
  same_batch : (t : TentativeView) (others : List ℕ) → IsTentativeOverIn version base t → bytes ≡ member_text_in version t ++ others → (batch ≡ t.batch) × (rest ≡ after_text_in version base.items t.after ++ others)
  same_batch t others over same =
      let both = batch_prefix_free.apart batch t.batch rest (after_text_in version t.before.items t.after ++ others) (sym got ∙ (same ∙ append_assoc (batch_text t.batch) (after_text_in version t.before.items t.after) others)) in
      (both.0, both.1 ∙ ap (λ (b : StateView). after_text_in version b.items t.after ++ others) (over_of version base t over).over)

  pub other_number : (batch.n ≡ base.number + 1 → ⊥) → NoMember version base bytes
  other_number wrong = record {
    none = λ t others over same.
        let is = over_of version base t over in
        wrong (ap (λ (b : Batch). b.n) (same_batch t others over same).0 ∙ (is.is.next ∙ ap (λ (b : StateView). b.number + 1) is.over));
  }

  -- what a tentative state of this batch follows
  follows_base : (t : TentativeView) (others : List ℕ) → IsTentativeOverIn version base t → bytes ≡ member_text_in version t ++ others → IsSuccessorIn version base batch t.after
  follows_base t others over same =
      subst (λ (b : StateView). IsSuccessorIn version b batch t.after) (over_of version base t over).over
      (subst (λ (b : Batch). IsSuccessorIn version t.before b t.after) (sym (same_batch t others over same).0) (follows_of version base t over))

  pub no_after : (e : Fault) → Refused e (NoPrefix (IsSuccessorIn version base batch) (after_text_in version base.items) rest) → Refused e (NoMember version base bytes)
  no_after e = Refused-weaker e (λ (none : NoPrefix (IsSuccessorIn version base batch) (after_text_in version base.items) rest). record {
    none = λ t others over same. none.none t.after others (follows_base t others over same) (same_batch t others over same).1;
  })

  module _ (after : StateView) (left : List ℕ) (more : rest ≡ after_text_in version base.items after ++ left) (follows : IsSuccessorIn version base batch after) where
    -- what a tentative state's sessions keep
    kept_again : (t : TentativeView) (others : List ℕ) → IsTentativeOverIn version base t → bytes ≡ member_text_in version t ++ others → AreKept after.sessions (runners_among base.sessions batch.requests) t.replies
    kept_again t others over same =
        let both = same_batch t others over same in
        let is = (one_after_in version base base batch batch base.items after t.after left others follows (follows_base t others over same) (sym more ∙ both.1)).0 in
        (λ i. map (kept_for (is i).sessions) (runners_among (sym (over_of version base t over).over i).sessions (both.0 i).requests)) ∙ (over_of version base t over).is.kept

    pub no_reply : (e : Fault) → Refused e (LackOne after.sessions (runners_among base.sessions batch.requests)) → Refused e (NoMember version base bytes)
    no_reply e = Refused-weaker e (λ (none : LackOne after.sessions (runners_among base.sessions batch.requests)). record {
      none = λ t others over same. none t.replies (kept_again t others over same);
    })

    module _ (before : StateView) (shared : before ≡ base) (replies : List Answered) (kept : AreKept after.sessions (runners_among base.sessions batch.requests) replies) where
      abbrev found : TentativeView
      found = record { before = before; batch = batch; after = after; replies = replies }

      pub is_over : batch.n ≡ base.number + 1 → IsTentativeOver base found
      is_over next = record {
        is = record {
          next = next ∙ ap (λ (b : StateView). b.number + 1) (sym shared);
          after = subst (λ (b : StateView). IsSuccessor b batch after) (sym shared) (successor_in version base batch after follows);
          kept = subst (λ (b : StateView). AreKept after.sessions (runners_among b.sessions batch.requests) replies) (sym shared) kept;
        };
        over = shared;
      }

      pub is_over_in : batch.n ≡ base.number + 1 → IsTentativeOverIn version base found
      is_over_in next = over_in version base found (is_over next) (subst (λ (b : StateView). IsSuccessorIn version b batch after) (sym shared) follows)

      pub its_record : bytes ≡ member_text_in version found ++ left
      its_record =
          got ∙ (ap (λ (t : List ℕ). batch_text batch ++ t) (more ∙ ap (λ (b : StateView). after_text_in version b.items after ++ left) (sym shared))
          ∙ sym (append_assoc (batch_text batch) (after_text_in version before.items after) left))

pub whole_member : WholeMember
whole_member t u rest others over same =
    let both = batch_prefix_free.apart t.batch u.batch (after_text t.before.items t.after ++ rest) (after_text u.before.items u.after ++ others)
    (sym (append_assoc (batch_text t.batch) (after_text t.before.items t.after) rest) ∙ (same ∙ append_assoc (batch_text u.batch) (after_text u.before.items u.after) others)) in
    let after = (after_free t.before.items).apart t.after u.after rest others (both.1 ∙ ap (λ (b : StateView). after_text b.items u.after ++ others) (sym over)) in
    ((λ i. batch_text (both.0 i) ++ after_text (over i).items (after.0 i)), after.1)

-- over one state, a record that is at the front of bytes is that of one tentative state
pub one_over_in : (version : Version) (base : StateView) (t u : TentativeView) (rest others : List ℕ) → IsTentativeOverIn version base t → IsTentativeOverIn version base u
    → member_text_in version t ++ rest ≡ member_text_in version u ++ others → (t ≡ u) × (rest ≡ others)
one_over_in version base t u rest others is it same =
    let over = over_of version base t is in
    let other = over_of version base u it in
    let before : t.before ≡ u.before = over.over ∙ sym other.over in
    let both = batch_prefix_free.apart t.batch u.batch (after_text_in version t.before.items t.after ++ rest) (after_text_in version u.before.items u.after ++ others)
    (sym (append_assoc (batch_text t.batch) (after_text_in version t.before.items t.after) rest) ∙ (same ∙ append_assoc (batch_text u.batch) (after_text_in version u.before.items u.after) others)) in
    let after = one_after_in version t.before u.before t.batch u.batch t.before.items t.after u.after rest others (follows_of version base t is) (follows_of version base u it) (both.1 ∙ ap (λ (b : StateView). after_text_in version b.items u.after ++ others) (sym before)) in
    let kept : AreKept t.after.sessions (runners_among t.before.sessions t.batch.requests) u.replies =
    (λ i. map (kept_for (after.0 i).sessions) (runners_among (before i).sessions (both.0 i).requests)) ∙ other.is.kept in
    let listed = one_list t.replies u.replies (sym over.is.kept ∙ kept) in
    ((λ i. record { before = before i; batch = both.0 i; after = after.0 i; replies = listed i }), after.1)

pub one_over : {base : StateView} (t u : TentativeView) (rest others : List ℕ) → IsTentativeOver base t → IsTentativeOver base u → member_text t ++ rest ≡ member_text u ++ others → (t ≡ u) × (rest ≡ others)
one_over {base} t u rest others over other same = one_over_in Second base t u rest others over other same

pub one_member : OneMember
one_member t u over same =
    let both = batch_prefix_free.apart t.batch u.batch (after_text t.before.items t.after) (after_text u.before.items u.after) same in
    let after = (after_free t.before.items).apart t.after u.after [] [] (ap (λ (x : List ℕ). x ++ []) (both.1 ∙ ap (λ (b : StateView). after_text b.items u.after) (sym over))) in
    (both.0, after.0)

-- a head is first
head_first : (before : Items) (s : StateView) → after_text before s ≡ head_text (head_of_state s) ++ (sessions_text s.sessions ++ changes_text (layout_of s.form) before s.items)
unfolding after_text
head_first before s = append_assoc (head_text (head_of_state s)) (sessions_text s.sessions) (changes_text (layout_of s.form) before s.items)

pub base_is_told : BaseIsTold
base_is_told t u is other same =
    let both = batch_prefix_free.apart t.batch u.batch (after_text t.before.items t.after) (after_text u.before.items u.after) same in
    let heads = head_prefix_free.apart (head_of_state t.after) (head_of_state u.after)
    (sessions_text t.after.sessions ++ changes_text (layout_of t.after.form) t.before.items t.after.items) (sessions_text u.after.sessions ++ changes_text (layout_of u.after.form) u.before.items u.after.items)
    (sym (head_first t.before.items t.after) ∙ (both.1 ∙ head_first u.before.items u.after)) in
    let number : t.batch.n ≡ u.batch.n = ap (λ (b : Batch). b.n) both.0 in (
      omega (arith, is.next, other.next, number),
      ap (λ (s : StateView). s.previous) (sym is.after.is) ∙ (ap (λ (h : Head). h.origin.previous) heads.0 ∙ ap (λ (s : StateView). s.previous) other.after.is),
    )
