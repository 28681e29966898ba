-- The promises that a leader has, and what they leave to it.
use Rattle.std.specs.Prelude.{ℕ, zero, suc, ◌==◌, ◌&&◌, Bool, List, [], ◌∷◌, ◌++◌, Option, None, Some, if◌then◌else◌, nat_le, find, is_some}
use Rattle.std.specs.List.{list_all}
use Rattle.std.specs.Option.{option_map_or, option_and_then}
use Rattle.decrees.specs.declared.decree.Decree.{Decree}
use Rattle.decrees.specs.Count.{member_count, is_quorum}
use Rattle.view_change.specs.declared.promises.Promise.{Promise}
use Rattle.view_change.specs.declared.promises.Choice.{Choice}
use Rattle.view_change.specs.declared.promises.Choice.TheVariants.{Wait, Must, Free}

-- the first promise of the sender
abbrev pub promise_of : List Promise → ℕ → Option Promise
promise_of promises sender = find (λ p. p.from == sender) promises

abbrev pub has_promised : List Promise → ℕ → Bool
has_promised promises sender = is_some (promise_of promises sender)

-- one promise more, if there is none of its sender
abbrev pub promises_with : List Promise → Promise → List Promise
promises_with promises p = if has_promised promises p.from then promises else promises ++ p ∷ []

-- what the promise says was accepted for the place after this many decrees
abbrev pub accepted_at : ℕ → Promise → Option (ℕ × Decree)
accepted_at known p = if p.known == known then p.accepted else None

-- the one of the higher view, of two of one view the first
abbrev pub higher : Option (ℕ × Decree) → Option (ℕ × Decree) → Option (ℕ × Decree)
higher None b = b
higher (Some a) None = Some a
higher (Some a) (Some b) = if nat_le b.0 a.0 then Some a else Some b

-- of what senders below the bound have accepted for that place, the one of the highest view, of several that of the lowest sender
abbrev pub best_below : ℕ → List Promise → ℕ → Option (ℕ × Decree)
best_below known promises zero = None
best_below known promises (suc v) = higher (best_below known promises v) (option_and_then (accepted_at known) (promise_of promises v))

-- enough have promised, and none of them knows more decrees
abbrev pub is_enough : ℕ → ℕ → List Promise → Bool
is_enough u known promises = is_quorum u (has_promised promises) && list_all (λ p. nat_le p.known known) promises

abbrev pub choice : ℕ → ℕ → List Promise → Choice
choice u known promises =
    if is_enough u known promises
    then option_map_or (λ best. Must best.1) (best_below known promises (member_count u)) Free
    else Wait
