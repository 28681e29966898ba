-- What went into a link and came out of it.
use Rattle.std.specs.Prelude.{◌≡◌, ℕ, ◌+◌, ◌<◌, ◌≤◌, ◌==◌, cond, List, [], ◌∷◌, ◌++◌, length}
use mathlib.Core.Option.{some}
use lib.ListN.{get_elem?}
use Rattle.crossbeam_channel.specs.Claims.{Pass, view}
use Rattle.link.specs.declared.line.View.{View}
use Rattle.link.specs.declared.line.TheConstants.{MOST_ITEMS}

-- these begin with those
abbrev pub StartsWith : {A : Type 0} → List A → List A → Type 0
StartsWith {A} all front = (rest : List A) × (all ≡ front ++ rest)

module _ {T : Type 0} where
  -- an end that has put and taken nothing, and knows of these puts and takes
  abbrev pub fresh : List (ℕ × T) → List (ℕ × T) → View T
  fresh puts takes = record { put = []; got = []; puts = puts; takes = takes }

  -- the items, without the ends that put or took them
  abbrev pub only_items : List (ℕ × T) → List T
  only_items [] = []
  only_items (p ∷ ps) = p.1 ∷ only_items ps

  -- the items of one end
  abbrev pub by : ℕ → List (ℕ × T) → List T
  by end [] = []
  by end (p ∷ ps) = cond (p.0 == end) (p.1 ∷ by end ps) (by end ps)

  -- what was taken is a beginning of what was put
  abbrev pub IsLine : List (ℕ × T) → List (ℕ × T) → Type 0
  IsLine puts takes = StartsWith (only_items puts) (only_items takes)

  -- what an end knows is so: its own puts and takes are all of its, and those of all ends begin with what it knows of them
  abbrev pub Knows : List (ℕ × T) → List (ℕ × T) → ℕ → View T → Type 0
  Knows puts takes end v = (by end puts ≡ v.put) × (by end takes ≡ v.got) × StartsWith puts v.puts × StartsWith takes v.takes

  -- The rule of a link: what was put is what was taken and then what the link holds, which is never more than its most.
  pub record LinkHolds (items : List T) (views : List (View T)) : Type 0 where
    pub puts : List (ℕ × T)
    pub takes : List (ℕ × T)
    pub line : only_items puts ≡ only_items takes ++ items
    pub few : length items ≤ MOST_ITEMS
    pub knows : (end : ℕ) (v : View T) → get_elem? views end ≡ some v → Knows puts takes end v
    pub none : (end : ℕ) → length views ≤ end → (by end puts ≡ []) × (by end takes ≡ [])

  -- the item is the newest put of this end
  abbrev pub IsPutIn : View T → T → View T → Type 0
  IsPutIn v x w = w ≡ record v { put = v.put ++ x ∷ [] }

  -- The end took the item, and knows more: what was taken is a beginning of what was put, the item is the last that was
  -- taken, and of all that was put and taken its own is what it knew before, and now this item. Before it left, the link
  -- held no more than its most.
  pub record IsTakenOut (v : View T) (x : T) (w : View T) : Type 0 where
    pub same_puts : w.put ≡ v.put
    pub newest : w.got ≡ v.got ++ x ∷ []
    pub puts_grow : StartsWith w.puts v.puts
    pub in_line : IsLine w.puts w.takes
    pub few : length w.puts < length w.takes + MOST_ITEMS
    pub end : ℕ
    pub between : List (ℕ × T)
    pub last : w.takes ≡ (v.takes ++ between) ++ (end, x) ∷ []
    pub own_puts : by end w.puts ≡ w.put
    pub own_takes : by end w.takes ≡ w.got

  -- what the end with this pass knows
  abbrev pub known_to : Pass T (View T) → View T
  known_to p = view p
