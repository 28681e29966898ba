-- What several members did, each in its own order, in one order.
use Rattle.std.specs.Prelude.{◌≡◌, ℕ, ◌==◌, Bool, List, [], ◌∷◌, ◌++◌, Option, None, Some, if◌then◌else◌}

module _ {D : Type 0} where
  abbrev pub deed_if : Bool → D → List D → List D
  deed_if here d rest = if here then d ∷ rest else rest

  -- what this member did, in its own order
  abbrev pub deeds_of : ℕ → List (ℕ × D) → List D
  deeds_of m [] = []
  deeds_of m (x ∷ order) = deed_if (x.0 == m) x.1 (deeds_of m order)

  -- these, each with the number of this member
  abbrev pub tagged : ℕ → List D → List (ℕ × D)
  tagged m [] = []
  tagged m (d ∷ ds) = (m, d) ∷ tagged m ds

  -- each may follow what was done before
  abbrev pub AreAllowed : (List (ℕ × D) → ℕ × D → Type 0) → List (ℕ × D) → List (ℕ × D) → Type 0
  AreAllowed May before [] = Unit {0}
  AreAllowed May before (x ∷ order) = May before x × AreAllowed May (before ++ x ∷ []) order

module _ {N D : Type 0} (Does : ℕ → N → D → N → Type 0) where
  -- these deeds lead a member from one state to another
  abbrev pub DoesAll : ℕ → N → List D → N → Type 0
  DoesAll m n [] now = now ≡ n
  DoesAll m n (d ∷ ds) now = (mid : N) × Does m n d mid × DoesAll m mid ds now

module _ {N : Type 0} where
  -- one member is somewhere else
  abbrev pub put_at : (ℕ → N) → ℕ → N → ℕ → N
  put_at parts m n k = if m == k then n else parts k

-- ---- what deeds show

module _ {D V : Type 0} (shown : D → Option V) where
  abbrev pub entry_of : Option V → List V
  entry_of None = []
  entry_of (Some v) = v ∷ []

  -- what a member's deeds show, in order
  abbrev pub shows : List D → List V
  shows [] = []
  shows (d ∷ ds) = entry_of (shown d) ++ shows ds

  -- what the deeds of all members show, in one order
  abbrev pub all_shown : List (ℕ × D) → List (ℕ × V)
  all_shown [] = []
  all_shown (x ∷ order) = tagged x.0 (entry_of (shown x.1)) ++ all_shown order

  -- the deeds of all members can be put into an order in which they show this
  pub record AreOrdered (order : List (ℕ × V)) (deeds : ℕ → List D) : Type 0 where
    pub full : List (ℕ × D)
    pub own : (m : ℕ) → deeds_of m full ≡ deeds m
    pub same : all_shown full ≡ order
