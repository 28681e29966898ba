-- What is kept of clients along a run.
use Rattle.std.proofs.Common.{◌≡◌, ℕ, zero, suc, ◌+◌, ◌≤◌, ◌⊎◌, inl, inr, ⊎_elim, Bool, true, false, cond, List, [], ◌∷◌, ◌++◌, length, Some, None, refl, sym, ap, ◌∙◌, subst, arith}
use Rattle.std.specs.Prelude.{Contains, slice_get, ◌==◌, not, if◌then◌else◌}
use Rattle.std.specs.List.{list_any}
use Rattle.std.specs.Option.{option_map_or}
use Rattle.std.specs.Ordering.{nat_cmp, eq_by_cmp}
use Rattle.std.specs.Cmp.{nat_cmp_total}
use Rattle.std.specs.FinMap.{get, insert, get-insert, get-empty}
use Rattle.std.proofs.lemmas.Bool.{cases_Bool, and_parts, eqb-true, eq-eqb, not-true}
use Rattle.std.proofs.lemmas.Bool.Decides.{nat_tests}
use Rattle.std.proofs.lemmas.List.Elements.{Contains-append_left, Contains-append_cases, Contains-push}
use Rattle.std.proofs.lemmas.List.Folds.{list_any_at}
use Rattle.sessions.specs.declared.request.Request.{Request}
use Rattle.sessions.specs.declared.sessions.LastReply.{LastReply}
use Rattle.sessions.specs.Fresh.{Replies, next_number, is_next}
use Rattle.batches.specs.declared.batch.Batch.{Batch}
use Rattle.executor.specs.declared.answered.Answered.{Answered}
use Rattle.states.specs.State.{StateView, initial_state}
use Rattle.executor.specs.Fresh.{Runner, runs, fresh_after}
use Rattle.executor.specs.Round.{Round, runners, answered, kept_after}
use Rattle.run_laws.specs.Run.{Executed, IsOver, IsRunFrom, made_in}
use Rattle.run_laws.specs.Replied.{GivenIn, WasGiven, KeptWasGiven, AnsweredOnce}
use Rattle.run_laws.proofs.Elements.{in_head, in_tail, in_none, first_or_other, in_map}

-- ---- one round

same_key : (q k : ℕ) → eq_by_cmp nat_cmp q k ≡ true → q ≡ k
same_key q k e = grind (arith, nat_tests)

-- a request that runs is the first of these, or one of the later ones
pub first_or_later : (s : Replies) (earlier later : List Request) (q : Request) (r : Runner) → Contains (fresh_after s earlier (q ∷ later)) r
    → ((runs s earlier q ≡ true) × ((length earlier, q) ≡ r)) ⊎ Contains (fresh_after s (earlier ++ q ∷ []) later) r
first_or_later s earlier later q r c =
    ⊎_elim (λ h. inl (here (runs s earlier q) h)) inr
    (Contains-append_cases (if runs s earlier q then (length earlier, q) ∷ [] else []) (fresh_after s (earlier ++ q ∷ []) later) r c)
  where
    here : (b : Bool) → Contains (if b then (length earlier, q) ∷ [] else []) r → (b ≡ true) × ((length earlier, q) ≡ r)
    here false h = absurd (in_none r h)
    here true h = (refl, ⊎_elim (λ (e : (length earlier, q) ≡ r). e) (λ none. absurd (in_none r none)) (first_or_other (length earlier, q) r [] h))

-- what runs is its client's next
pub runs_next : (s : Replies) (earlier later : List Request) (r : Runner) → Contains (fresh_after s earlier later) r → r.1.number ≡ next_number s r.1.client
runs_next s earlier [] r c = absurd (in_none r c)
runs_next s earlier (q ∷ later) r c = elim (first_or_later s earlier later q r c) [
  | inl (is_run, same) ↦
      let next : q.number ≡ next_number s q.client = eqb-true _ _ (and_parts (is_next s q) (not (list_any (λ e. e.client == q.client) earlier)) is_run).0 in
      subst (λ (x : Runner). x.1.number ≡ next_number s x.1.client) same next
  | inr there ↦ runs_next s (earlier ++ q ∷ []) later r there
]

-- no earlier request is of its client
none_earlier : (s : Replies) (earlier later : List Request) (r : Runner) → Contains (fresh_after s earlier later) r → (x : Request) → Contains earlier x → x.client ≡ r.1.client → ⊥
none_earlier s earlier [] r c x before client = in_none r c
none_earlier s earlier (q ∷ later) r c x before client = elim (first_or_later s earlier later q r c) [
  | inl (is_run, same) ↦
      let test : Request → Bool = λ e. e.client == q.client in
      let none : list_any test earlier ≡ false = not-true _ (and_parts (is_next s q) (not (list_any (λ e. e.client == q.client) earlier)) is_run).1 in
      let own : x.client ≡ q.client = client ∙ sym (ap (λ (y : Runner). y.1.client) same) in
      let found : list_any test earlier ≡ true = list_any_at test earlier before.0 x before.1 (ap test before.2 ∙ eq-eqb _ _ own) in
      let both = sym none ∙ found in
      cc both
  | inr there ↦ none_earlier s (earlier ++ q ∷ []) later r there x (Contains-append_left earlier (q ∷ []) x before) client
]

-- of a client one request runs
pub one_runs : (s : Replies) (earlier later : List Request) (r t : Runner) → Contains (fresh_after s earlier later) r → Contains (fresh_after s earlier later) t → r.1.client ≡ t.1.client → r ≡ t
one_runs s earlier [] r t c d client = absurd (in_none r c)
one_runs s earlier (q ∷ later) r t c d client = elim (first_or_later s earlier later q r c) [
  | inl (is_run, same) ↦ elim (first_or_later s earlier later q t d) [
    | inl (is_run', same') ↦ sym same ∙ same'
    | inr there' ↦ absurd (none_earlier s (earlier ++ q ∷ []) later t there' q (Contains-push earlier q) (ap (λ (y : Runner). y.1.client) same ∙ client))
  ]
  | inr there ↦ elim (first_or_later s earlier later q t d) [
    | inl (is_run', same') ↦ absurd (none_earlier s (earlier ++ q ∷ []) later r there q (Contains-push earlier q) (ap (λ (y : Runner). y.1.client) same' ∙ sym client))
    | inr there' ↦ one_runs s (earlier ++ q ∷ []) later r t there there' client
  ]
]

-- each answer is of the number that its client has here
abbrev pub HaveNumbers : (ℕ → ℕ) → List Answered → Type 0
HaveNumbers f replies = (a : Answered) → Contains replies a → a.number ≡ f a.client

-- of its client's next one
abbrev pub AreNext : Replies → List Answered → Type 0
AreNext s replies = HaveNumbers (next_number s) replies

-- of a client there is one
abbrev pub AreOne : List Answered → Type 0
AreOne replies = (a b : Answered) → Contains replies a → Contains replies b → a.client ≡ b.client → a ≡ b

module _ (old new : StateView) (batch : Batch) (ordered : Bool) (replies : List Answered) (round : Round old batch ordered new replies) where
  round_next : AreNext old.sessions replies
  round_next = subst (AreNext old.sessions) (sym round.replied) (λ a c.
      let w = in_map (answered round.answers) (runners old batch) a c in
      subst (λ (x : Answered). x.number ≡ next_number old.sessions x.client) w.2 (runs_next old.sessions [] batch.requests w.0 w.1))

  pub round_one : AreOne replies
  round_one = subst AreOne (sym round.replied) (λ a b c d client.
      let w = in_map (answered round.answers) (runners old batch) a c in
      let v = in_map (answered round.answers) (runners old batch) b d in
      let same = one_runs old.sessions [] batch.requests w.0 v.0 w.1 v.1 (ap (λ (x : Answered). x.client) w.2 ∙ (client ∙ sym (ap (λ (x : Answered). x.client) v.2))) in
      sym w.2 ∙ (ap (answered round.answers) same ∙ v.2))

-- what is kept of an answer
abbrev pub kept_of : Answered → LastReply
kept_of a = record { number = a.number; reply = a.reply }

-- the number after one answer is kept
pub number_step : (s : Replies) (a : Answered) (c : ℕ) → ((c ≡ a.client) × (next_number (insert s a.client (kept_of a)) c ≡ a.number + 1)) ⊎ (next_number (insert s a.client (kept_of a)) c ≡ next_number s c)
number_step s a c =
    let got = get-insert nat_cmp_total s a.client (kept_of a) c in
    let step : (b : Bool) → eq_by_cmp nat_cmp c a.client ≡ b → next_number (insert s a.client (kept_of a)) c ≡ option_map_or (λ (k : LastReply). k.number + 1) (cond b (Some (kept_of a)) (get s c)) 1 =
    λ b e. ap (λ o. option_map_or (λ (k : LastReply). k.number + 1) o 1) (got ∙ ap (λ x. cond x (Some (kept_of a)) (get s c)) e) in
    elim (cases_Bool (eq_by_cmp nat_cmp c a.client)) [
      | inl e ↦ inl (same_key c a.client e, step true e)
      | inr e ↦ inr (step false e)
    ]

module _ (f : ℕ → ℕ) where
  stays : (s : Replies) (replies : List Answered) (c : ℕ) → HaveNumbers f replies → next_number s c ≡ f c + 1 → next_number (kept_after s replies) c ≡ f c + 1
  stays s [] c h e = e
  stays s (a ∷ replies) c h e =
      let rest : HaveNumbers f replies = λ x d. h x (in_tail a x replies d) in
      stays (insert s a.client (kept_of a)) replies c rest
      (⊎_elim
      (λ (p : (c ≡ a.client) × (next_number (insert s a.client (kept_of a)) c ≡ a.number + 1)). p.1 ∙ ap (λ n. n + 1) (h a (in_head a replies) ∙ ap f (sym p.0)))
      (λ (p : next_number (insert s a.client (kept_of a)) c ≡ next_number s c). p ∙ e)
      (number_step s a c))

  raised : (s : Replies) (replies : List Answered) (a : Answered) → HaveNumbers f replies → Contains replies a → next_number (kept_after s replies) a.client ≡ f a.client + 1
  raised s [] a h c = absurd (in_none a c)
  raised s (x ∷ replies) a h c =
      let rest : HaveNumbers f replies = λ y d. h y (in_tail x y replies d) in
      elim (first_or_other x a replies c) [
        | inr there ↦ raised (insert s x.client (kept_of x)) replies a rest there
        | inl same ↦
            let got = get-insert nat_cmp_total s x.client (kept_of x) x.client in
            let own : eq_by_cmp nat_cmp x.client x.client ≡ true = grind (arith, nat_tests) in
            let now : next_number (insert s x.client (kept_of x)) x.client ≡ f x.client + 1 =
            ap (λ o. option_map_or (λ (k : LastReply). k.number + 1) o 1) (got ∙ ap (λ b. cond b (Some (kept_of x)) (get s x.client)) own) ∙ ap (λ n. n + 1) (h x (in_head x replies)) in
            subst (λ (y : Answered). next_number (kept_after (insert s x.client (kept_of x)) replies) y.client ≡ f y.client + 1) same
            (stays (insert s x.client (kept_of x)) replies x.client rest now)
      ]

  not_lower : (s : Replies) (replies : List Answered) (c : ℕ) → HaveNumbers f replies → f c ≤ next_number s c → f c ≤ next_number (kept_after s replies) c
  not_lower s [] c h l = l
  not_lower s (a ∷ replies) c h l =
      let rest : HaveNumbers f replies = λ x d. h x (in_tail a x replies d) in
      not_lower (insert s a.client (kept_of a)) replies c rest
      (⊎_elim
      (λ (p : (c ≡ a.client) × (next_number (insert s a.client (kept_of a)) c ≡ a.number + 1)).
      let number = h a (in_head a replies) ∙ ap f (sym p.0) in omega (arith, p.1, number))
      (λ (p : next_number (insert s a.client (kept_of a)) c ≡ next_number s c). omega (arith, p, l))
      (number_step s a c))

-- what is kept after a round was kept before it, or was answered in it
kept_from : (s : Replies) (replies : List Answered) (c : ℕ) (k : LastReply) → get (kept_after s replies) c ≡ Some k → (get s c ≡ Some k) ⊎ ((a : Answered) × Contains replies a × (a.client ≡ c) × (kept_of a ≡ k))
kept_from s [] c k e = inl e
kept_from s (a ∷ replies) c k e = elim (kept_from (insert s a.client (kept_of a)) replies c k e) [
  | inr (x, there, client, kept) ↦ inr (x, in_tail a x replies there, client, kept)
  | inl before ↦
      let got = sym (get-insert nat_cmp_total s a.client (kept_of a) c) ∙ before in
      elim (cases_Bool (eq_by_cmp nat_cmp c a.client)) [
        | inl here ↦
            let own : Some (kept_of a) ≡ Some k = sym (ap (λ b. cond b (Some (kept_of a)) (get s c)) here) ∙ got in
            inr (a, in_head a replies, sym (same_key c a.client here), cc own)
        | inr other ↦ inl (sym (ap (λ b. cond b (Some (kept_of a)) (get s c)) other) ∙ got)
      ]
]

-- ---- a run

-- the number that comes after a round
module _ (old : StateView) (e : Executed) (h : IsOver old e) where
  next_in : AreNext old.sessions e.replies
  next_in = round_next old e.new e.batch e.ordered e.replies h.round

  pub after_answer : (a : Answered) → Contains e.replies a → next_number e.new.sessions a.client ≡ a.number + 1
  after_answer a c =
      ap (λ (s : Replies). next_number s a.client) h.round.sessions
      ∙ (raised (next_number old.sessions) old.sessions e.replies a next_in c ∙ ap (λ n. n + 1) (sym (next_in a c)))

  never_lower : (c : ℕ) → next_number old.sessions c ≤ next_number e.new.sessions c
  never_lower c =
      let same = ap (λ (s : Replies). next_number s c) h.round.sessions in
      let low = not_lower (next_number old.sessions) old.sessions e.replies c next_in (omega arith) in
      omega (arith, same, low)

the_same : {X : Type 0} (x y : X) → Some x ≡ Some y → x ≡ y
the_same x y e = cc e

not_below : (old : StateView) (run : List Executed) (i : ℕ) (a : Answered) → IsRunFrom old run → GivenIn run i a → next_number old.sessions a.client ≤ a.number
not_below old [] i a h g = let none = g.there in absurd (cc none)
not_below old (e ∷ es) zero a h g =
    let c = subst (λ (x : Executed). Contains x.replies a) (sym (the_same e g.executed g.there)) g.given in
    let next = next_in old e h.0 a c in
    omega (arith, next)
not_below old (e ∷ es) (suc i) a h g =
    let later = not_below e.new es i a h.1 (record { executed = g.executed; there = g.there; given = g.given }) in
    let low = never_lower old e h.0 a.client in
    omega (arith, later, low)

-- an answer of the first round and one of a later round are not to the same request
first_and_later : (old : StateView) (e : Executed) (es : List Executed) (j : ℕ) (a b : Answered) → IsRunFrom old (e ∷ es) → GivenIn (e ∷ es) 0 a → GivenIn (e ∷ es) (suc j) b → a.client ≡ b.client → a.number ≡ b.number → ⊥
first_and_later old e es j a b h g k client number =
    let c = subst (λ (x : Executed). Contains x.replies a) (sym (the_same e g.executed g.there)) g.given in
    let after = after_answer old e h.0 a c in
    let later = not_below e.new es j b h.1 (record { executed = k.executed; there = k.there; given = k.given }) in
    let same = ap (next_number e.new.sessions) client in
    omega (arith, after, later, same, number)

once : (old : StateView) (run : List Executed) (i j : ℕ) (a b : Answered) → IsRunFrom old run → GivenIn run i a → GivenIn run j b → a.client ≡ b.client → a.number ≡ b.number → (i ≡ j) × (a ≡ b)
once old [] i j a b h g k client number = let none = g.there in absurd (cc none)
once old (e ∷ es) zero zero a b h g k client number =
    let c = subst (λ (x : Executed). Contains x.replies a) (sym (the_same e g.executed g.there)) g.given in
    let d = subst (λ (x : Executed). Contains x.replies b) (sym (the_same e k.executed k.there)) k.given in
    (refl, round_one old e.new e.batch e.ordered e.replies h.0.round a b c d client)
once old (e ∷ es) zero (suc j) a b h g k client number = absurd (first_and_later old e es j a b h g k client number)
once old (e ∷ es) (suc i) zero a b h g k client number = absurd (first_and_later old e es i b a h k g (sym client) (sym number))
once old (e ∷ es) (suc i) (suc j) a b h g k client number =
    let later = once e.new es i j a b h.1 (record { executed = g.executed; there = g.there; given = g.given }) (record { executed = k.executed; there = k.there; given = k.given }) client number in
    (ap suc later.0, later.1)

pub answered_once : AnsweredOnce
answered_once run i j a b h g k client number = once initial_state run i j a b h g k client number

was_given : (old : StateView) (run : List Executed) (n : ℕ) (s : StateView) (c : ℕ) (kept : LastReply) → IsRunFrom old run → slice_get (old ∷ made_in run) n ≡ Some s → get s.sessions c ≡ Some kept
    → (get old.sessions c ≡ Some kept) ⊎ WasGiven run n c kept
was_given old run zero s c kept h at e = inl (ap (λ (x : StateView). get x.sessions c) (the_same old s at) ∙ e)
was_given old [] (suc n) s c kept h at e = absurd (cc at)
was_given old (x ∷ run) (suc n) s c kept h at e = elim (was_given x.new run n s c kept h.1 at e) [
  | inr w ↦
      let lt = w.before in
      inr (record {
        place = suc w.place;
        before = omega (arith, lt);
        answered = w.answered;
        given = record { executed = w.given.executed; there = w.given.there; given = w.given.given };
        client_is = w.client_is;
        kept_is = w.kept_is;
      })
  | inl before ↦
      elim (kept_from old.sessions x.replies c kept (ap (λ (m : Replies). get m c) (sym h.0.round.sessions) ∙ before)) [
        | inl old_one ↦ inl old_one
        | inr (a, there, client, same) ↦ inr (record {
          place = 0;
          before = omega arith;
          answered = a;
          given = record { executed = x; there = refl; given = there };
          client_is = client;
          kept_is = same;
        })
      ]
]

pub kept_was_given : KeptWasGiven
kept_was_given run n s c kept h at e = elim (was_given initial_state run n s c kept h at e) [
  | inl first ↦ absurd (let none : get initial_state.sessions c ≡ None = get-empty nat_cmp c in let some = sym none ∙ first in cc some)
  | inr w ↦ w
]
