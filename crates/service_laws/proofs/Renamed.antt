-- Lines of which another client is said.
use Rattle.std.proofs.Common.{◌≡◌, ℕ, inl, inr, Bool, true, false, List, [], ◌∷◌, ◌++◌, map, refl, sym, ap, ◌∙◌, subst}
use Rattle.std.specs.Prelude.{Contains, ◌==◌, if◌then◌else◌}
use Rattle.std.proofs.lemmas.Bool.{eq-eqb}
use Rattle.item_steps.specs.declared.step.Step.{Step}
use Rattle.run_laws.proofs.Elements.{in_head, in_tail, in_none, first_or_other}
use Rattle.memcached_spec.specs.Server.{Server, Made, Line, Tick, Do, Leads, ticked, server_stepped, uniques, unique_of, made_for}
use Rattle.linear_laws.proofs.Rounds.{steps_made}

abbrev pub renamed_line : (ℕ → ℕ) → Line → Line
renamed_line f (Tick m) = Tick m
renamed_line f (Do d) = Do (record d { client = f d.client })

module _ (f : ℕ → ℕ) where
  pub leads_renamed : (lines : List Line) (a b : Server) → Leads a lines b → Leads a (map (renamed_line f) lines) b
  leads_renamed [] a b h = h
  leads_renamed (Tick m ∷ lines) a b h = (h.0, leads_renamed lines (ticked a m) b h.1)
  leads_renamed (Do d ∷ lines) a b h = (h.0, leads_renamed lines (server_stepped a d) b h.1)

  pub uniques_renamed : (lines : List Line) → uniques (map (renamed_line f) lines) ≡ uniques lines
  uniques_renamed [] = refl
  uniques_renamed (Tick m ∷ lines) = uniques_renamed lines
  uniques_renamed (Do d ∷ lines) = ap (λ (us : List ℕ). unique_of d.step d.unique ++ us) (uniques_renamed lines)

-- a client that made a line made a step
pub did_run : (c : ℕ) (lines : List Line) (d : Made) → Contains lines (Do d) → d.client ≡ c → steps_made c lines ≡ [] → ⊥
did_run c [] d i own e = in_none (Do d) i
did_run c (Tick m ∷ lines) d i own e = elim (first_or_other (Tick m) (Do d) lines i) [
  | inl same ↦ absurd (cc same)
  | inr later ↦ did_run c lines d later own e
]
did_run c (Do x ∷ lines) d i own e = by (x.client == c) refl (did_run c lines d)
  where
    by : (b : Bool) → (x.client == c) ≡ b → (Contains lines (Do d) → d.client ≡ c → steps_made c lines ≡ [] → ⊥) → ⊥
    by true is later = let some : ◌≡◌ {A = List Step} (x.step ∷ steps_made c lines) [] = subst (λ (b : Bool). map (λ (y : Made). y.step) (if b then x ∷ made_for c lines else made_for c lines) ≡ []) is e in cc some
    by false is later = elim (first_or_other (Do x) (Do d) lines i) [
      | inl same ↦ let here : x ≡ d = cc same in let yes_own : (x.client == c) ≡ true = eq-eqb x.client c (ap (λ (y : Made). y.client) here ∙ own) in let no_own : true ≡ false = sym yes_own ∙ is in cc no_own
      | inr there ↦ later there own (subst (λ (b : Bool). map (λ (y : Made). y.step) (if b then x ∷ made_for c lines else made_for c lines) ≡ []) is e)
    ]

module _ (f : ℕ → ℕ) (c : ℕ) where
  -- the lines of client q, and no others, become those of c
  abbrev pub IsOnly : ℕ → List Line → Type 0
  IsOnly q lines = (d : Made) → Contains lines (Do d) → (f d.client == c) ≡ (d.client == q)

  abbrev pub IsNone : List Line → Type 0
  IsNone lines = (d : Made) → Contains lines (Do d) → (f d.client == c) ≡ false

  module _ {Y : Type 0} (g : Made → Y) (same : (d : Made) (k : ℕ) → g (record d { client = k }) ≡ g d) where
    pub one_renamed : (q : ℕ) (lines : List Line) → IsOnly q lines → map g (made_for c (map (renamed_line f) lines)) ≡ map g (made_for q lines)
    one_renamed q [] only = refl
    one_renamed q (Tick m ∷ lines) only = one_renamed q lines (λ d i. only d (in_tail (Tick m) (Do d) lines i))
    one_renamed q (Do x ∷ lines) only =
        let y : Made = record x { client = f x.client } in
        let rest = one_renamed q lines (λ d i. only d (in_tail (Do x) (Do d) lines i)) in
        ap (λ (b : Bool). map g (if b then y ∷ made_for c (map (renamed_line f) lines) else made_for c (map (renamed_line f) lines))) (only x (in_head (Do x) lines)) ∙ both (x.client == q) rest
      where
        both : (b : Bool) → map g (made_for c (map (renamed_line f) lines)) ≡ map g (made_for q lines)
            → map g (if b then record x { client = f x.client } ∷ made_for c (map (renamed_line f) lines) else made_for c (map (renamed_line f) lines)) ≡ map g (if b then x ∷ made_for q lines else made_for q lines)
        both true rest = λ i. same x (f x.client) i ∷ rest i
        both false rest = rest

    pub none_renamed : (lines : List Line) → IsNone lines → map g (made_for c (map (renamed_line f) lines)) ≡ []
    none_renamed [] none = refl
    none_renamed (Tick m ∷ lines) none = none_renamed lines (λ d i. none d (in_tail (Tick m) (Do d) lines i))
    none_renamed (Do x ∷ lines) none =
        ap (λ (b : Bool). map g (if b then record x { client = f x.client } ∷ made_for c (map (renamed_line f) lines) else made_for c (map (renamed_line f) lines))) (none x (in_head (Do x) lines))
        ∙ none_renamed lines (λ d i. none d (in_tail (Do x) (Do d) lines i))

-- no moment is renamed
pub tick_renamed : (f : ℕ → ℕ) (lines : List Line) (m : ℕ) → Contains (map (renamed_line f) lines) (Tick m) → Contains lines (Tick m)
tick_renamed f [] m c = absurd (in_none (Tick m) c)
tick_renamed f (Tick n ∷ lines) m c = elim (first_or_other (Tick n) (Tick m) (map (renamed_line f) lines) c) [
  | inl same ↦ subst (λ (l : Line). Contains (Tick n ∷ lines) l) same (in_head (Tick n) lines)
  | inr later ↦ in_tail (Tick n) (Tick m) lines (tick_renamed f lines m later)
]
tick_renamed f (Do d ∷ lines) m c = elim (first_or_other (Do (record d { client = f d.client })) (Tick m) (map (renamed_line f) lines) c) [
  | inl same ↦ absurd (cc same)
  | inr later ↦ in_tail (Do d) (Tick m) lines (tick_renamed f lines m later)
]
