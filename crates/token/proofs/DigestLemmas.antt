-- The digests of clients in their list, and the sessions that they are of.
use Rattle.std.proofs.Common.{◌≡◌, ℕ, ◌+◌, ◌<◌, Bool, true, false, cond, not, List, [], ◌∷◌, ◌++◌, length, take, get_or, All, Option, Some, None, IsTrue, Result, Ok, Err, OnOk, OnErr, refl, sym, ap, ◌∙◌, arith, subst}
use Rattle.std.specs.Borrow.{Bor}
use Rattle.std.specs.Option.{option_and_then, option_copied}
use Rattle.std.specs.Prelude.{is_some, IfSome}
use Rattle.std.specs.Ordering.{nat_cmp, eq_by_cmp, is_eq}
use Rattle.std.specs.declared.cmp.Ordering.TheVariants.{Less, Equal}
use Rattle.std.specs.Cmp.{nat_cmp_total, alike_right, eq_by_cmp_equiv, tied_itself}
use Rattle.std.specs.FinMap.{find, is_sorted, from_sorted, from_entries, entries, insert, get, empty, get-entries, get-insert, get-empty, get-from_sorted, get-from_entries, from_entries_push, nat_cmp-IsAntisymmetric}
use Rattle.std.specs.FinMap.Entries.{find-put, find-where_key}
use Rattle.std.proofs.lemmas.List.{take_more, get_or-take, get_or_default, length-take}
use Rattle.base.proofs.MapLemmas.{as_t, sorted_put, sorted_without}
use Rattle.base.proofs.Sorted.{rises, below_at, find_at, find_gap}
use Rattle.sessions.specs.declared.sessions.LastReply.{LastReply}
use Rattle.sessions.specs.Fresh.{Replies}
use Rattle.token.specs.Told.{AreDigestsOf, DigestsOfClients, long_digest}
use Rattle.token.specs.ListedDigests.{without, with_digest}

-- ---- the list

turned : {A : Type 0} (b : Bool) (x y : A) → cond (not b) x y ≡ cond b y x
turned true x y = refl
turned false x y = refl

-- what is looked up after a digest was set
pub find_set : (q k : ℕ) (digest : Option (List ℕ)) (es : List (ℕ × List ℕ)) → find nat_cmp q (with_digest k digest es) ≡ cond (eq_by_cmp nat_cmp q k) digest (find nat_cmp q es)
find_set q k (Some d) es = find-put nat_cmp nat_cmp_total q k d es
find_set q k None es =
    find-where_key nat_cmp (λ x. not (eq_by_cmp nat_cmp k x)) q (λ x t. ap (λ r. not (is_eq r)) (sym (alike_right nat_cmp_total q x k t))) es
    ∙ turned (eq_by_cmp nat_cmp k q) _ _ ∙ ap (λ b. cond b None (find nat_cmp q es)) ((eq_by_cmp_equiv nat_cmp_total).symm k q)

pub sorted_set : (k : ℕ) (digest : Option (List ℕ)) (es : List (ℕ × List ℕ)) → IsTrue (is_sorted nat_cmp es) → IsTrue (is_sorted nat_cmp (with_digest k digest es))
sorted_set k (Some d) es h = sorted_put nat_cmp_total k d es h
sorted_set k None es h = sorted_without nat_cmp_total _ es h

pub none_found : {X : Type 0} (r : Option (Bor X)) (found : Option X) → is_some r ≡ false → option_copied r ≡ found → found ≡ None
none_found None found h e = sym e
none_found (Some x) found h e = absurd (cc h)

-- without the digest of a client that has none
pub without_none : (k : ℕ) (es : List (ℕ × List ℕ)) → find nat_cmp k es ≡ None → without k es ≡ es
without_none k [] h = refl
without_none k (e ∷ es) h =
    elim (eq_by_cmp nat_cmp k e.0) as (λ b. cond b (Some e.1) (find nat_cmp k es) ≡ None → cond (not b) (e ∷ without k es) (without k es) ≡ e ∷ es) [
      | true ↦ λ none. absurd (cc none)
      | false ↦ λ none. ap (λ xs. e ∷ xs) (without_none k es none)
    ] h

-- ---- the sessions

pub none_of_none : AreDigestsOf empty empty
none_of_none = record { each = λ q. get-empty nat_cmp q ∙ sym (ap (option_and_then (λ (kept : LastReply). long_digest kept.reply)) (get-empty nat_cmp q)) }

chosen : (b : Bool) (kept : LastReply) (digest : Option (List ℕ)) (was : Option LastReply) → digest ≡ option_and_then (λ (k : LastReply). long_digest k.reply) was
    → cond b (long_digest kept.reply) digest ≡ option_and_then (λ (k : LastReply). long_digest k.reply) (cond b (Some kept) was)
chosen true kept digest was h = refl
chosen false kept digest was h = h

set_one : (es new : List (ℕ × List ℕ)) (k : ℕ) (kept : LastReply) (m : Replies) → IsTrue (is_sorted nat_cmp es) → new ≡ with_digest k (long_digest kept.reply) es
    → AreDigestsOf m (from_sorted es) → AreDigestsOf (insert m k kept) (from_sorted new)
set_one es new k kept m h e are = record {
  each = λ q.
      let sorted : IsTrue (is_sorted nat_cmp new) = rw e (sorted_set k (long_digest kept.reply) es h) in
      let old : find nat_cmp q es ≡ option_and_then (λ (k : LastReply). long_digest k.reply) (get m q) = sym (get-from_sorted nat_cmp es q (as_t _ h)) ∙ are.each q in
      get-from_sorted nat_cmp new q (as_t _ sorted) ∙ ap (find nat_cmp q) e ∙ find_set q k (long_digest kept.reply) es
      ∙ chosen (eq_by_cmp nat_cmp q k) kept (find nat_cmp q es) (get m q) old
      ∙ ap (option_and_then (λ (k : LastReply). long_digest k.reply)) (sym (get-insert nat_cmp_total m k kept q));
}

module _ {E : Type 0} (r : Result (Unit {0}) E) (es new : List (ℕ × List ℕ)) (k : ℕ) where
  -- after a set that may fail
  pub set_sorted : (digest : Option (List ℕ)) → IsTrue (is_sorted nat_cmp es) → OnOk r (new ≡ with_digest k digest es) → OnErr r (new ≡ es) → IsTrue (is_sorted nat_cmp new)
  set_sorted digest h ok err = elim r as (λ (r : Result (Unit {0}) E). OnOk r (new ≡ with_digest k digest es) → OnErr r (new ≡ es) → IsTrue (is_sorted nat_cmp new)) [
    | Ok x ↦ λ ok err. rw ok (sorted_set k digest es h)
    | Err x ↦ λ ok err. rw err h
  ] ok err

  pub set_digests : (kept : LastReply) (old : DigestsOfClients) → from_sorted es ≡ old → IsTrue (is_sorted nat_cmp es) → OnOk r (new ≡ with_digest k (long_digest kept.reply) es)
      → OnOk r ((m : Replies) → AreDigestsOf m old → AreDigestsOf (insert m k kept) (from_sorted new))
  set_digests kept old is h ok = elim r as (λ (r : Result (Unit {0}) E). OnOk r (new ≡ with_digest k (long_digest kept.reply) es) → OnOk r ((m : Replies) → AreDigestsOf m old → AreDigestsOf (insert m k kept) (from_sorted new))) [
    | Ok x ↦ λ ok m are. set_one es new k kept m h ok (subst (AreDigestsOf m) (sym is) are)
    | Err x ↦ λ ok. tt
  ] ok

-- ---- one session after the other

abbrev Listed : Type 0
Listed = List (ℕ × LastReply)

-- the entry at place i is none of those before it
none_before : (es : Listed) (i : ℕ) (d : ℕ × LastReply) → IsTrue (is_sorted nat_cmp es) → i < length es → find nat_cmp (get_or es i d).0 (take i es) ≡ None
none_before es i d h l = find_gap nat_cmp_total (take i es) (get_or es i d).0 i
    (λ j f g. rw (get_or-take i es j f g) (subst (λ (x : ℕ × LastReply). nat_cmp (get_or es j f).0 x.0 ≡ Less) (get_or_default es i f d l) (rises nat_cmp_total es h j i f g l)))
    (λ j f a b. absurd (omega (arith, length-take i es)))
    (omega (arith, length-take i es))

-- the sessions of one more entry
pub one_more : (es : Listed) (i : ℕ) (e : ℕ × LastReply) → IsTrue (is_sorted nat_cmp es) → i < length es → e ≡ get_or es i e
    → from_entries {R = nat_cmp} (take (i + 1) es) ≡ insert (from_entries (take i es)) e.0 e.1
one_more es i e h l is =
    ap from_entries (take_more es i e l ∙ ap (λ (x : ℕ × LastReply). take i es ++ x ∷ []) (sym is))
    ∙ from_entries_push nat_cmp_total nat_cmp-IsAntisymmetric (take i es) e.0 e.1 (subst (λ (x : ℕ × LastReply). find nat_cmp x.0 (take i es) ≡ None) (sym is) (none_before es i e h l))

-- all entries of sessions
pub of_entries : (m : Replies) (es : Listed) (digests : DigestsOfClients) → es ≡ entries m → AreDigestsOf (from_entries es) digests → AreDigestsOf m digests
of_entries m es digests e are = record {
  each = λ q. are.each q ∙ ap (option_and_then (λ (k : LastReply). long_digest k.reply)) (get-from_entries nat_cmp_total es q ∙ ap (find nat_cmp q) e ∙ sym (get-entries m q));
}

-- each session has its digest, if it is long
pub each_digest : (m : Replies) (digests : DigestsOfClients) (es : Listed) → es ≡ entries m → IsTrue (is_sorted nat_cmp es) → AreDigestsOf m digests
    → All (λ s. get digests s.0 ≡ long_digest s.1.reply) es
each_digest m digests es e h are i d l =
    let tie : (f : ℕ × LastReply) → nat_cmp (get_or es i f).0 (get_or es i d).0 ≡ Equal = λ f. subst (λ (x : ℕ × LastReply). nat_cmp x.0 (get_or es i d).0 ≡ Equal) (get_or_default es i d f l) (tied_itself nat_cmp_total (get_or es i d).0) in
    let here : find nat_cmp (get_or es i d).0 es ≡ Some (get_or es i d).1 = find_at nat_cmp_total es (get_or es i d).0 i l (below_at nat_cmp_total es h (get_or es i d).0 i l tie) tie d in
    are.each (get_or es i d).0 ∙ ap (option_and_then (λ (k : LastReply). long_digest k.reply)) (get-entries m (get_or es i d).0 ∙ sym (ap (find nat_cmp (get_or es i d).0) e) ∙ here)

pub each_if : (m : Replies) (digests : Option (Bor DigestsOfClients)) (es : Listed) → es ≡ entries m → IsTrue (is_sorted nat_cmp es) → IfSome digests (λ d. AreDigestsOf m d.now)
    → IfSome digests (λ d. All (λ s. get d.now s.0 ≡ long_digest s.1.reply) es)
each_if m None es e h are = tt
each_if m (Some d) es e h are = each_digest m d.now es e h are
