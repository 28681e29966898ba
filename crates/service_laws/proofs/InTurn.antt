-- Each command of a connection was asked after the earlier ones were answered.
use Rattle.std.proofs.Common.{◌≡◌, ℕ, zero, suc, ◌<◌, List, [], ◌∷◌, ◌++◌, map, Some, refl, sym, ap, ◌∙◌, arith}
use Rattle.std.specs.Prelude.{Contains, slice_get}
use Rattle.executor.proofs.RoundLemmas.{get_map}
use Rattle.connections.specs.Connections.{IsConnections}
use Rattle.ensemble.specs.declared.noted.Noted.{Noted}
use Rattle.ensemble.specs.declared.noted.Noted.TheVariants as noted
use Rattle.service.specs.Service.{ServiceView, IsService, HasEnsemble, asked_keys, before_ask, assigned_as}
use Rattle.service_laws.specs.Orders.{AreAskedInTurn}
use Rattle.service_laws.proofs.AskedLemmas.{place_of}
use Rattle.service_laws.proofs.ServingLemmas.{for_one}

abbrev Order : Type 0
Order = List ((ℕ × ℕ) × Noted)

-- what was before a request is a beginning of the order
before_begins : (i : ℕ) (order : Order) → (late : Order) × (order ≡ before_ask i order ++ late)
before_begins i [] = ([], refl)
before_begins i ((key, noted.Answered) ∷ order) = (let rest = before_begins i order in (rest.0, ap (λ (o : Order). (key, noted.Answered) ∷ o) rest.1))
before_begins i ((key, noted.Moment) ∷ order) = (let rest = before_begins i order in (rest.0, ap (λ (o : Order). (key, noted.Moment) ∷ o) rest.1))
before_begins zero ((key, noted.Asked) ∷ order) = ((key, noted.Asked) ∷ order, refl)
before_begins (suc i) ((key, noted.Asked) ∷ order) = (let rest = before_begins i order in (rest.0, ap (λ (o : Order). (key, noted.Asked) ∷ o) rest.1))

-- a request that was asked before this one has an earlier place
asked_before : (i : ℕ) (order : Order) (key : ℕ × ℕ) → Contains (before_ask i order) (key, noted.Asked) → (j : ℕ) × (j < i) × (slice_get (asked_keys order) j ≡ Some key)
asked_before i [] key c = let lt = c.1 in absurd (omega (arith, lt))
asked_before i ((k, noted.Answered) ∷ order) key (zero, lt, e) = absurd (let kinds : noted.Answered ≡ noted.Asked = ap (λ (x : (ℕ × ℕ) × Noted). x.1) e in cc kinds)
asked_before i ((k, noted.Answered) ∷ order) key (suc n, lt, e) = asked_before i order key (n, omega (arith, lt), e)
asked_before i ((k, noted.Moment) ∷ order) key (zero, lt, e) = absurd (let kinds : noted.Moment ≡ noted.Asked = ap (λ (x : (ℕ × ℕ) × Noted). x.1) e in cc kinds)
asked_before i ((k, noted.Moment) ∷ order) key (suc n, lt, e) = asked_before i order key (n, omega (arith, lt), e)
asked_before zero ((k, noted.Asked) ∷ order) key c = let lt = c.1 in absurd (omega (arith, lt))
asked_before (suc i) ((k, noted.Asked) ∷ order) key (zero, lt, e) = (0, omega arith, ap (λ (x : (ℕ × ℕ) × Noted). Some x.0) e)
asked_before (suc i) ((k, noted.Asked) ∷ order) key (suc n, lt, e) =
    let r = asked_before i order key (n, omega (arith, lt), e) in
    let below = r.1 in
    (suc r.0, omega (arith, below), r.2)

module _ (v : ServiceView) (talks : IsConnections v.connections) (ok : IsService v) (over : HasEnsemble v) where
  pub are_in_turn : AreAskedInTurn over.world.events over.world.through.worlds v.assignments
  are_in_turn b turn inside from_one below =
      let at = place_of v.assignments b inside in
      let was = ok.in_turn at.0 b at.1 turn from_one below in
      let early = before_ask at.0 v.order in
      let late = before_begins at.0 v.order in
      let past = over.world.past early late.0 (over.same_order ∙ late.1) in
      let reply = past.sent was.assignment.proxy was.assignment.number was.answered in (
        was.assignment,
        was.assigned,
        was.of_connection,
        was.of_turn,
        record {
          before = past.before;
          after = past.after;
          split = past.split;
          now = past.now;
          there = past.there;
          reply = reply.0;
          sent = reply.1;
          not_asked = λ command is.
              let earlier = asked_before at.0 v.order (b.proxy, b.number) (past.asked b.proxy b.number command is) in
              let there : slice_get (map assigned_as v.assignments) earlier.0 ≡ Some (b.proxy, b.number) = sym (ap (λ (keys : List (ℕ × ℕ)). slice_get keys earlier.0) ok.ordered) ∙ earlier.2 in
              let d = get_map assigned_as v.assignments earlier.0 (b.proxy, b.number) there in
              let same = for_one v talks ok over earlier.0 at.0 d.0 b d.1 at.1 (sym (ap (λ (k : ℕ × ℕ). k.0) d.2)) (sym (ap (λ (k : ℕ × ℕ). k.1) d.2)) in
              let less = earlier.1 in
              absurd (omega (arith, same, less));
        },
      )
