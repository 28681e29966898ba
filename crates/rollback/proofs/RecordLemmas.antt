-- A chain that is read back from its record.
use Rattle.std.proofs.Common.{◌≡◌, Bool, Result, Ok, Err, ℕ, ◌+◌, ◌<◌, ◌≤◌, true, List, [], ◌∷◌, ◌++◌, length, refl, sym, ap, ◌∙◌, subst, arith, append_assoc}
use Rattle.std.specs.Prelude.{flat_map, IsTrue, ◌&&◌, ◌==◌}
use Rattle.std.specs.Borrow.{Bor}
use Rattle.std.specs.Int.{w8}
use Rattle.std.proofs.lemmas.List.{length-append, append-nil}
use Rattle.std.proofs.lemmas.List.Concat.{flat_map-cons}
use Rattle.std.proofs.lemmas.Bool.Decides.{Decides-eqb}
use Rattle.std.proofs.lemmas.Slice.Eq.{bytes_eq-Decides}
use Rattle.base.specs.declared.fault.Fault.{Fault}
use Rattle.wire.specs.Record.{NoPrefix, Refused, Takes}
use Rattle.wire.specs.Number.{num}
use Rattle.wire.specs.NumberLaws.{num_prefix_free, wide8}
use Rattle.wire.proofs.Values.{Refused-weaker}
use Rattle.decrees.specs.Votes.{token_eq}
use Rattle.states.specs.declared.version.Version.{Version}
use Rattle.states.specs.State.{StateView}
use Rattle.states.specs.Version.{state_text_in, IsStateIn}
use Rattle.states.proofs.VersionLemmas.{one_state_in}
use Rattle.executor.specs.Work.{TentativeView, CommittedView}
use Rattle.executor.specs.Kept.{IsTentativeOver, IsTentativeOverIn, IsQuietIn}
use Rattle.executor.specs.MemberRecord.{member_text_in}
use Rattle.executor.proofs.MemberLemmas.{one_over_in}
use Rattle.rollback.specs.declared.chain.TheConstants.{MOST_MEMBERS}
use Rattle.rollback.specs.Chain.{ChainView, tip, is_over, AreOverIn, AreMembers, IsFilled, IsRecordedIn, members_text, chain_text_in}

both_true : (b c : Bool) → b ≡ true → c ≡ true → (b && c) ≡ true
both_true b c e f = (λ i. e i && c) ∙ f

-- what is over just this state is over it by number and token
pub over_is : (s : StateView) (t : TentativeView) → IsTentativeOver s t → IsTrue (is_over s t)
over_is s t h =
    both_true (t.before.number == s.number) (token_eq t.before.token s.token) ((Decides-eqb t.before.number s.number).1 (ap (λ (x : StateView). x.number) h.over))
    ((bytes_eq-Decides t.before.token.0 s.token.0).1 (ap (λ (x : StateView). x.token.0) h.over))

-- so many members were read, and the rest is still to be read
pub record HasMembers (version : Version) (s : StateView) (front : List TentativeView) (count : ℕ) (bytes rest : List ℕ) : Type 0 where
  pub are : AreMembers version s count front
  pub parts : bytes ≡ flat_map (member_text_in version) front ++ rest

-- of a version
module _ (version : Version) where
  over_push : (s : StateView) (ts : List TentativeView) (t : TentativeView) → AreOverIn version s ts → IsTentativeOverIn version (tip s ts) t → AreOverIn version s (ts ++ t ∷ [])
  over_push s [] t h over = (over, tt)
  over_push s (x ∷ ts) t h over = (h.0, over_push x.after ts t h.1 over)

  two_parts : (x : TentativeView) (xs : List TentativeView) (rest : List ℕ) → flat_map (member_text_in version) (x ∷ xs) ++ rest ≡ member_text_in version x ++ (flat_map (member_text_in version) xs ++ rest)
  two_parts x xs rest = ap (λ (t : List ℕ). t ++ rest) (flat_map-cons (member_text_in version) x xs) ∙ append_assoc (member_text_in version x) (flat_map (member_text_in version) xs) rest

  one_more : (front : List TentativeView) (x : TentativeView) (after : List ℕ) → flat_map (member_text_in version) front ++ (member_text_in version x ++ after) ≡ flat_map (member_text_in version) (front ++ x ∷ []) ++ after
  one_more [] x after = sym (two_parts x [] after)
  one_more (y ∷ front) x after =
      two_parts y front (member_text_in version x ++ after)
      ∙ (ap (λ (t : List ℕ). member_text_in version y ++ t) (one_more front x after)
      ∙ sym (two_parts y (front ++ x ∷ []) after))

  pub members_begin : (s : StateView) (ts : List TentativeView) (bytes : List ℕ) → ts ≡ [] → HasMembers version s ts 0 bytes bytes
  members_begin s [] bytes e = record { are = record { counted = refl; over = tt }; parts = refl }
  members_begin s (t ∷ ts) bytes e = absurd (cc e)

  pub members_go_on : {s : StateView} {front : List TentativeView} {count : ℕ} {bytes rest : List ℕ} (x : TentativeView) (after : List ℕ) → HasMembers version s front count bytes rest
      → IsTentativeOverIn version (tip s front) x → rest ≡ member_text_in version x ++ after → HasMembers version s (front ++ x ∷ []) (count + 1) bytes after
  members_go_on {s} {front} {count} {bytes} {rest} x after so_far over e = record {
    are = record {
      counted = length-append front (x ∷ []) ∙ ap (λ (n : ℕ). n + 1) so_far.are.counted;
      over = over_push s front x so_far.are.over over;
    };
    parts = so_far.parts ∙ (ap (λ (t : List ℕ). flat_map (member_text_in version) front ++ t) e ∙ one_more front x after);
  }

  no_more : (s : StateView) (front xs : List TentativeView) (rest after : List ℕ) → length front < length xs → AreOverIn version s front → AreOverIn version s xs
      → flat_map (member_text_in version) front ++ rest ≡ flat_map (member_text_in version) xs ++ after → NoPrefix (IsTentativeOverIn version (tip s front)) (member_text_in version) rest → ⊥
  no_more s front [] rest after lt are others e none = omega arith
  no_more s [] (x ∷ xs) rest after lt are others e none = none.none x _ others.0 (e ∙ two_parts x xs after)
  no_more s (y ∷ front) (x ∷ xs) rest after lt are others e none =
      let both = one_over_in version s y x (flat_map (member_text_in version) front ++ rest) (flat_map (member_text_in version) xs ++ after) are.0 others.0 (sym (two_parts y front rest) ∙ (e ∙ two_parts x xs after)) in
      no_more y.after front xs rest after (omega (arith, lt)) are.1 (subst (λ (t : TentativeView). AreOverIn version t.after xs) (sym both.0) others.1) both.1 none

  pub members_end : {s : StateView} {front : List TentativeView} {i : ℕ} {bytes rest : List ℕ} (e : Fault) (count : ℕ) → HasMembers version s front i bytes rest
      → i < count → Refused e (NoPrefix (IsTentativeOverIn version (tip s front)) (member_text_in version) rest) → Refused e (NoPrefix (AreMembers version s count) (flat_map (member_text_in version)) bytes)
  members_end {s} {front} {i} {bytes} {rest} e count so_far lt = Refused-weaker e (λ (none : NoPrefix (IsTentativeOverIn version (tip s front)) (member_text_in version) rest). record {
    none = λ xs after f same. no_more s front xs rest after (omega (arith, lt, so_far.are.counted, f.counted)) so_far.are.over f.over (sym so_far.parts ∙ same) none;
  })

  -- if no members are there, no chain is filled with them
  pub not_filled : (s : StateView) (count : ℕ) (bytes : List ℕ) (e : Fault) → Refused e (NoPrefix (AreMembers version s count) (flat_map (member_text_in version)) bytes) → Refused e (NoPrefix (IsFilled version s count) (members_text version) bytes)
  not_filled s count bytes e = Refused-weaker e (λ (none : NoPrefix (AreMembers version s count) (flat_map (member_text_in version)) bytes). record { none = λ c after f same. none.none c.members after f.members same })

  -- the parts of a chain's record
  abbrev body : ChainView → List ℕ → List ℕ
  body c after = num w8 (length c.members) ++ (flat_map (member_text_in version) c.members ++ after)

  in_parts : (c : ChainView) (after : List ℕ) → chain_text_in version c ++ after ≡ state_text_in version c.have ++ body c after
  in_parts c after =
      append_assoc (state_text_in version c.have) (num w8 (length c.members) ++ flat_map (member_text_in version) c.members) after
      ∙ ap (λ (t : List ℕ). state_text_in version c.have ++ t) (append_assoc (num w8 (length c.members)) (flat_map (member_text_in version) c.members) after)

  -- so many members over one state are identified by their texts
  members_apart : (s : StateView) (ts us : List TentativeView) (r q : List ℕ) → length ts ≡ length us → AreOverIn version s ts → AreOverIn version s us
      → flat_map (member_text_in version) ts ++ r ≡ flat_map (member_text_in version) us ++ q → (ts ≡ us) × (r ≡ q)
  members_apart s [] [] r q l over other e = (refl, e)
  members_apart s [] (u ∷ us) r q l over other e = absurd (omega (arith, l))
  members_apart s (t ∷ ts) [] r q l over other e = absurd (omega (arith, l))
  members_apart s (t ∷ ts) (u ∷ us) r q l over other e =
      let first = one_over_in version s t u (flat_map (member_text_in version) ts ++ r) (flat_map (member_text_in version) us ++ q) over.0 other.0 (sym (two_parts t ts r) ∙ (e ∙ two_parts u us q)) in
      let others = members_apart t.after ts us r q (omega (arith, l)) over.1 (subst (λ (x : TentativeView). AreOverIn version x.after us) (sym first.0) other.1) first.1 in
      ((λ i. first.0 i ∷ others.0 i), others.1)

  -- and so are chains, each member over just the state before it
  pub chain_apart : (c d : ChainView) (r q : List ℕ) → IsRecordedIn version c → IsRecordedIn version d → chain_text_in version c ++ r ≡ chain_text_in version d ++ q → (c ≡ d) × (r ≡ q)
  chain_apart c d r q one other e =
      let state = one_state_in version c.have d.have _ _ one.state other.state (sym (in_parts c r) ∙ (e ∙ in_parts d q)) in
      let count = (num_prefix_free w8 wide8).apart (length c.members) (length d.members) _ _ state.1 in
      let members = members_apart c.have c.members d.members r q count.0 one.over (subst (λ (s : StateView). AreOverIn version s d.members) (sym state.0) other.over) count.1 in
      ((λ i. record { have = state.0 i; members = members.0 i }), members.1)

  -- if something is left, the whole is no chain
  pub chain_left_over : (bytes : List ℕ) (c : ChainView) (rest : List ℕ) → IsRecordedIn version c → bytes ≡ chain_text_in version c ++ rest → (rest ≡ [] → ⊥) → (d : ChainView) → IsRecordedIn version d → bytes ≡ chain_text_in version d → ⊥
  chain_left_over bytes c rest one got more d other e = more (chain_apart c d rest [] one other (sym got ∙ (e ∙ sym (append-nil (chain_text_in version d))))).1

  abbrev quiet_text : CommittedView → List ℕ
  quiet_text c = state_text_in version c.state

  pub no_state : (bytes : List ℕ) (e : Fault) → Refused e (NoPrefix (IsQuietIn version) quiet_text bytes) → Refused e (NoPrefix (IsRecordedIn version) (chain_text_in version) bytes)
  no_state bytes e = Refused-weaker e (λ (none : NoPrefix (IsQuietIn version) quiet_text bytes). record {
    none = λ c after f same. none.none (record { state = c.have; replies = [] }) (body c after) (record { state = f.state; none = refl }) (same ∙ in_parts c after);
  })

  module _ (bytes : List ℕ) (have : StateView) (rest : List ℕ) (is : IsStateIn version have) (got : bytes ≡ state_text_in version have ++ rest) where
    same_state : (c : ChainView) (after : List ℕ) → IsRecordedIn version c → bytes ≡ chain_text_in version c ++ after → (have ≡ c.have) × (rest ≡ body c after)
    same_state c after f same = one_state_in version have c.have rest (body c after) is f.state (sym got ∙ (same ∙ in_parts c after))

    pub no_count : (e : Fault) → Refused e (NoPrefix (λ (n : ℕ). Unit {0}) (num w8) rest) → Refused e (NoPrefix (IsRecordedIn version) (chain_text_in version) bytes)
    no_count e = Refused-weaker e (λ (none : NoPrefix (λ (n : ℕ). Unit {0}) (num w8) rest). record {
      none = λ c after f same. none.none (length c.members) (flat_map (member_text_in version) c.members ++ after) tt (same_state c after f same).1;
    })

    module _ (count : ℕ) (left : List ℕ) (more : rest ≡ num w8 count ++ left) where
      same_count : (c : ChainView) (after : List ℕ) → IsRecordedIn version c → bytes ≡ chain_text_in version c ++ after → (count ≡ length c.members) × (left ≡ flat_map (member_text_in version) c.members ++ after)
      same_count c after f same =
          (num_prefix_free w8 wide8).apart count (length c.members) left (flat_map (member_text_in version) c.members ++ after) (sym more ∙ (same_state c after f same).1)

      pub too_many : MOST_MEMBERS < count → NoPrefix (IsRecordedIn version) (chain_text_in version) bytes
      too_many lt = record { none = λ c after f same. omega (arith, lt, f.few, (same_count c after f same).0) }

      -- the chain that was filled, or none
      pub chain_taken : count ≤ MOST_MEMBERS → (r : Result (ChainView × Bor (List ℕ)) Fault) → Takes (IsFilled version have count) (members_text version) left r → Takes (IsRecordedIn version) (chain_text_in version) bytes r
      chain_taken few (Ok p) h = (
        record {
          state = subst (IsStateIn version) (sym h.0.have) is;
          few = omega (arith, few, h.0.members.counted);
          over = subst (λ (s : StateView). AreOverIn version s p.0.members) (sym h.0.have) h.0.members.over;
        },
        got ∙ ((λ i. state_text_in version (sym h.0.have i) ++ (more ∙ (λ j. num w8 (sym h.0.members.counted j) ++ h.1 j)) i) ∙ sym (in_parts p.0 p.1.now)),
      )
      chain_taken few (Err e) h = Refused-weaker e (λ (none : NoPrefix (IsFilled version have count) (members_text version) left). record {
        none = λ c after f same.
            let counted = same_count c after f same in
            none.none (record { have = have; members = c.members }) after
            (record { have = refl; members = record { counted = sym counted.0; over = subst (λ (s : StateView). AreOverIn version s c.members) (sym (same_state c after f same).0) f.over } }) counted.1;
      }) h
