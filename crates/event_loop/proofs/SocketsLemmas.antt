-- What a change of one socket does to the table.
use Rattle.std.proofs.Common.{◌≡◌, ◌≢◌, ℕ, Bool, false, List, [], ◌∷◌, ◌++◌, refl, ap, sym, ◌∙◌, subst, rules, ◌<◌, ◌+◌, length, arith, inl, inr}
use Rattle.std.specs.Prelude.{Option, Some, None, IsSome, Contains}
use Rattle.std.proofs.lemmas.Bool.{cases_eq}
use Rattle.slab.specs.Slab.{Slab, get, with_value, Updates}
use Rattle.slab.proofs.SlabLemmas.{Updates-with_value, Contains-cons_cases}
use Rattle.loop_messages.specs.declared.message.Heard.{Heard}
use Rattle.loop_messages.specs.declared.message.Said.{Said}
use Rattle.event_loop.specs.Traffic.{Traffic}
use Rattle.event_loop.specs.Socket.{SocketView, SocketRests, SocketVisits, IsSocketOver, Tells, Leaves, new_socket}
use Rattle.event_loop.specs.Sockets.{VisitsView, SocketsView, IsEntry, Lists, IsSameButListed, SocketHears, HearsListed, IsGiven, AreAllGiven, IsVisited, IsVisitOfListed, IsVisitOfFirst}
use Rattle.event_loop.proofs.SocketLemmas.{visit_listed}

module _ (all : Slab SocketView) (key : ℕ) (s : SocketView) (e : get all key ≡ Some s) where
  same : (s' : SocketView) → get all key ≡ Some s' → s ≡ s'
  same s' e' = cc (sym e ∙ e')

  there : IsSome (get all key)
  there = subst (λ (o : Option SocketView). IsSome o) (sym e) (search rules)

  pub put : (t : SocketView) → Updates all (with_value all key t) key (Some t)
  put t = Updates-with_value all key t there

  -- what holds of the socket that is here and of the one that replaces it
  pub put_here : (R : SocketView → SocketView → Type 0) (t : SocketView) → R s t → (s' : SocketView) → get all key ≡ Some s' → (x : SocketView) × (get (with_value all key t) key ≡ Some x) × R s' x
  put_here R t r s' e' = (t, (put t).changed, subst (λ (z : SocketView). R z t) (same s' e') r)

  -- the socket that replaces it is removed
  module _ (t : SocketView) (all' : Slab SocketView) (u : Updates (with_value all key t) all' key None) where
    pub others_gone : (other : ℕ) → other ≢ key → get all' other ≡ get all other
    others_gone other differs = u.others other differs ∙ (put t).others other differs

-- what holds of each socket holds after a change of one
pub entry_after : (all all' : Slab SocketView) (key : ℕ) (slot : Option SocketView) (visits visits' : VisitsView) (next next' : ℕ) → Updates all all' key slot → ((k : ℕ) (x : SocketView) → get all k ≡ Some x → IsEntry k visits next x) → ((k : ℕ) (x : SocketView) → k ≢ key → IsEntry k visits next x → IsEntry k visits' next' x) → ((x : SocketView) → slot ≡ Some x → IsEntry key visits' next' x) → (k : ℕ) (x : SocketView) → get all' k ≡ Some x → IsEntry k visits' next' x
entry_after all all' key slot visits visits' next next' u was moves here k x found =
    elim (cases_eq k key) [
      | inl at ↦ subst (λ (i : ℕ). IsEntry i visits' next' x) (sym at) (here x (sym u.changed ∙ ap (get all') (sym at) ∙ found))
      | inr differs ↦ moves k x differs (was k x (sym (u.others k differs) ∙ found))
    ]

-- room for more changes nothing
pub entry_roomy : (all all' : Slab SocketView) (capacity : ℕ) (visits : VisitsView) (next : ℕ) → all' ≡ record all { capacity = capacity } → ((k : ℕ) (x : SocketView) → get all k ≡ Some x → IsEntry k visits next x) → (k : ℕ) (x : SocketView) → get all' k ≡ Some x → IsEntry k visits next x
entry_roomy all all' capacity visits next same was k x found = was k x (sym (ap (λ (a : Slab SocketView). get a k) same) ∙ found)

-- one more, of which nothing is known
pub entry_new : (all all' : Slab SocketView) (key : ℕ) (visits : VisitsView) (next : ℕ) (traffic : Traffic) → traffic.waits ≡ [] → Updates all all' key (Some (new_socket next traffic)) → ((k : ℕ) (x : SocketView) → get all k ≡ Some x → IsEntry k visits next x) → (k : ℕ) (x : SocketView) → get all' k ≡ Some x → IsEntry k visits (next + 1) x
entry_new all all' key visits next traffic none u was =
    entry_after all all' key (Some (new_socket next traffic)) visits visits next (next + 1) u was
    (λ k x differs q. record { number = omega (arith, q.number); listed = q.listed; rests = q.rests })
    (λ x same. let is : new_socket next traffic ≡ x = cc same in subst (λ (z : SocketView). IsEntry key visits (next + 1) z) is (record {
      number = omega arith;
      listed = λ i. absurd (cc i);
      rests = λ kept i. record { is_here = λ over. elim over [ inl e ↦ absurd (cc e) | inr e ↦ absurd (cc e.0) ]; writes = λ w. absurd (omega (arith, w.waits, ap (λ (l : List ℕ). length l) none)); reads = λ r. absurd (cc r.is_readable); is_told = λ e. omega arith };
    }))

-- a socket that changed was listed
pub entry_listed : (all : Slab SocketView) (key : ℕ) (s h t : SocketView) (visits visits' : VisitsView) (next : ℕ) → get all key ≡ Some s → ((k : ℕ) (x : SocketView) → get all k ≡ Some x → IsEntry k visits next x) → h.number ≡ s.number → h.is_listed ≡ s.is_listed → Lists key visits h visits' t → (k : ℕ) (x : SocketView) → get (with_value all key t) k ≡ Some x → IsEntry k visits' next x
entry_listed all key s h t visits visits' next e was n l p =
    entry_after all (with_value all key t) key (Some t) visits visits' next next (put all key s e t) was
    (λ k x differs q. record { number = q.number; listed = λ i. p.kept k (q.listed i); rests = λ none i. q.rests (p.before none) i })
    (λ x same. let is : t ≡ x = cc same in subst (λ (z : SocketView). IsEntry key visits' next z) is (record {
      number = subst (λ (m : ℕ). m < next) (sym (ap (λ (z : SocketView). z.number) p.others ∙ n)) (was key s e).number;
      listed = λ i. p.here (λ j. (was key s e).listed (sym l ∙ j)) i;
      rests = λ none i. absurd (cc (sym none ∙ p.lost i));
    }))

-- a socket was looked at
pub entry_same : (all : Slab SocketView) (key : ℕ) (s : SocketView) (visits : VisitsView) (next : ℕ) → get all key ≡ Some s → ((k : ℕ) (x : SocketView) → get all k ≡ Some x → IsEntry k visits next x) → (k : ℕ) (x : SocketView) → get (with_value all key s) k ≡ Some x → IsEntry k visits next x
entry_same all key s visits next e was =
    entry_after all (with_value all key s) key (Some s) visits visits next next (put all key s e s) was (λ k x differs q. q) (λ x same. was key x (e ∙ same))

-- the first key was taken out of the visits
module _ (visits popped : VisitsView) (key : ℕ) (first : visits ≡ record popped { keys = key ∷ popped.keys }) (next : ℕ) where
  entry_other : (k : ℕ) (x : SocketView) → k ≢ key → IsEntry k visits next x → IsEntry k popped next x
  entry_other k x differs q =
      record {
        number = q.number;
        listed = λ i. elim (Contains-cons_cases key k popped.keys (subst (λ (t : VisitsView). Contains t.keys k) first (q.listed i))) [ inl same ↦ absurd (differs (sym same)) | inr later ↦ later ];
        rests = λ none i. q.rests (ap (λ (t : VisitsView). t.has_lost) first ∙ none) i;
      }

  module _ (all : Slab SocketView) (was : (k : ℕ) (x : SocketView) → get all k ≡ Some x → IsEntry k visits next x) where
    -- no socket has it
    pub entry_none : get all key ≡ None → (k : ℕ) (x : SocketView) → get all k ≡ Some x → IsEntry k popped next x
    entry_none none k x found =
        elim (cases_eq k key) [
          | inl at ↦ let clash : ◌≡◌ {A = Option SocketView} None (Some x) = sym none ∙ ap (get all) (sym at) ∙ found in absurd (cc clash)
          | inr differs ↦ entry_other k x differs (was k x found)
        ]

    module _ (s t : SocketView) (e : get all key ≡ Some s) where
      -- its socket is gone
      pub entry_gone : (all' : Slab SocketView) → Updates (with_value all key t) all' key None → (k : ℕ) (x : SocketView) → get all' k ≡ Some x → IsEntry k popped next x
      entry_gone all' u = entry_after all all' key None visits popped next next (record { changed = u.changed; others = others_gone all key s e t all' u }) was entry_other (λ x same. absurd (cc same))

      -- its socket rests
      pub entry_resting : t.number ≡ s.number → t.is_listed ≡ false → SocketRests t → (k : ℕ) (x : SocketView) → get (with_value all key t) k ≡ Some x → IsEntry k popped next x
      entry_resting n l r =
          entry_after all (with_value all key t) key (Some t) visits popped next next (put all key s e t) was entry_other
          (λ x same. let is : t ≡ x = cc same in subst (λ (z : SocketView). IsEntry key popped next z) is (record {
            number = subst (λ (m : ℕ). m < next) (sym n) (was key s e).number;
            listed = λ i. absurd (cc (sym l ∙ i));
            rests = λ none i. r;
          }))

      -- its socket is visited once more
      pub entry_again : (h : SocketView) (more : VisitsView) → h.number ≡ s.number → h.is_listed ≡ false → Lists key popped h more t → (k : ℕ) (x : SocketView) → get (with_value all key t) k ≡ Some x → IsEntry k more next x
      entry_again h more n l p =
          entry_after all (with_value all key t) key (Some t) visits more next next (put all key s e t) was
          (λ k x differs q. let o = entry_other k x differs q in record { number = o.number; listed = λ i. p.kept k (o.listed i); rests = λ none i. o.rests (p.before none) i })
          (λ x same. let is : t ≡ x = cc same in subst (λ (z : SocketView). IsEntry key more next z) is (record {
            number = subst (λ (m : ℕ). m < next) (sym (ap (λ (z : SocketView). z.number) p.others ∙ n)) (was key s e).number;
            listed = λ i. p.here (λ j. absurd (cc (sym l ∙ j))) i;
            rests = λ none i. absurd (cc (sym none ∙ p.lost i));
          }))

pub given_here : (old : SocketsView) (said : Said) (s h t : SocketView) (visits : VisitsView) → get old.all said.key ≡ Some s → s.number ≡ said.number → SocketHears s said h → IsSameButListed h t → IsGiven old said (record { all = with_value old.all said.key t; visits = visits; next = old.next })
given_here old said s h t visits e n hears listed =
    let u = put old.all said.key s e t in
    record {
      others = u.others;
      unknown = λ none. absurd (none s e n);
      joins = λ s' e' n'. put_here old.all said.key s e (λ a b. HearsListed a said b) t (h, hears, listed) s' e';
      next = refl;
    }

-- one more was given
pub given_more : (all : List Said) (said : Said) (a b c : SocketsView) → AreAllGiven a all b → IsGiven b said c → AreAllGiven a (all ++ said ∷ []) c
given_more [] said a b c p q = (c, subst (λ (v : SocketsView). IsGiven v said c) p q, refl)
given_more (first ∷ rest) said a b c p q = (p.0, p.1, given_more rest said p.0 b c p.2 q)

-- whether it is listed is no part of what it tells
tells_listed : (key : ℕ) (s t x : SocketView) (i : Bool) (before after : List Heard) → Tells key (record s { is_listed = i }) t before after → x ≡ record t { is_listed = x.is_listed } → Tells key s x before after
tells_listed key s t x i before after h same =
    subst (λ (v : SocketView). Tells key s v before after) (sym same)
    (record { more = h.more; heard = h.heard; about = h.about; told = h.told; untold = h.untold; said = h.said; number = h.number; closes = h.closes; ended = h.ended })

-- the first that was listed was visited
module _ (may_read : Bool) (old now : SocketsView) (popped : VisitsView) (key : ℕ) (first : old.visits ≡ record popped { keys = key ∷ popped.keys }) (s a t : SocketView) (e : get old.all key ≡ Some s) (unlisted : a ≡ record s { is_listed = false }) (visit : SocketVisits may_read a t) (next : now.next ≡ old.next) (before after : List Heard) where
  visits_on : (x : SocketView) → x ≡ record t { is_listed = x.is_listed } → SocketVisits may_read s x
  visits_on x same = visit_listed may_read s t x false (subst (λ (z : SocketView). SocketVisits may_read z t) unlisted visit) same

  tells_on : (between : List Heard) (x : SocketView) → Tells key a t before between → x ≡ record t { is_listed = x.is_listed } → Tells key s x before between
  tells_on between x tells same = tells_listed key s t x false before between (subst (λ (z : SocketView). Tells key z t before between) unlisted tells) same

  is_visit : ((other : ℕ) → other ≢ key → get now.all other ≡ get old.all other) → IsVisited may_read key s (get now.all key) before after → IsVisitOfFirst may_read old now before after
  is_visit others visited =
      subst (λ (listed : VisitsView). IsVisitOfListed may_read listed.keys old now before after) (sym first) (record {
        absent = λ none. let clash : ◌≡◌ {A = Option SocketView} None (Some s) = sym none ∙ e in absurd (cc clash);
        visited = λ s' e'. subst (λ (z : SocketView). IsVisited may_read key z (get now.all key) before after) (cc (sym e ∙ e')) visited;
        others = others;
        next = next;
      })

  -- and is here
  pub visit_stays : (x : SocketView) → now.all ≡ with_value old.all key x → x ≡ record t { is_listed = x.is_listed } → Tells key a t before after → IsVisitOfFirst may_read old now before after
  visit_stays x is same tells =
      let u = put old.all key s e x in
      let here : get now.all key ≡ Some x = ap (λ (all : Slab SocketView). get all key) is ∙ u.changed in
      is_visit (λ other differs. ap (λ (all : Slab SocketView). get all other) is ∙ u.others other differs)
      (subst (λ (o : Option SocketView). IsVisited may_read key s o before after) (sym here) (tells_on after x tells same, visits_on x same))

  -- and is gone
  pub visit_gone : (x : SocketView) → Updates (with_value old.all key x) now.all key None → Leaves key a t before after → IsSocketOver t → IsVisitOfFirst may_read old now before after
  visit_gone x u leaves over =
      is_visit (others_gone old.all key s e x now.all u)
      (subst (λ (o : Option SocketView). IsVisited may_read key s o before after) (sym u.changed) (t, record { between = leaves.between; tells = tells_on leaves.between t leaves.tells refl; left = leaves.left }, over, visits_on t refl))
