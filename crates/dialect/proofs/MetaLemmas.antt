-- What all lines of meta commands have in common.
use Rattle.std.proofs.Common.{◌≡◌, ℕ, ◌+◌, Bool, true, false, List, [], ◌∷◌, ◌++◌, Option, Some, None, Result, Ok, Err, refl, ap, ◌∙◌, if◌then◌else◌}
use Rattle.std.specs.Prelude.{nat_lt}
use Rattle.std.specs.Option.{option_map_or}
use Rattle.std.proofs.lemmas.List.{append_assoc}
use Rattle.proto.specs.Growth.{Grows}
use Rattle.proto.specs.declared.block.TheConstants.{MOST_BLOCK_BYTES}
use Rattle.proto.specs.declared.command.Command.TheVariants as command
use Rattle.proto.specs.declared.command.Update.TheVariants as update
use Rattle.proto.specs.declared.line.Kind.{Kind}
use Rattle.dialect.specs.Number.{block_size_of}
use Rattle.dialect.specs.Meta.{checked, says_one, on_checked, asks_meta, get_command, delete_update, count_update, kind_in, opening, opening_of, sized_set, set_line, key_line, meta_line}
use Rattle.dialect.specs.declared.meta.Meta.{Meta}
use Rattle.dialect.specs.declared.meta.Meta.TheVariants as meta
use Rattle.dialect.specs.declared.turn.Notice.{Notice}
use Rattle.dialect.specs.declared.turn.Notice.TheVariants as notice
use Rattle.dialect.specs.declared.turn.Show.TheVariants as show
use Rattle.dialect.specs.declared.turn.Turn.{Turn}
use Rattle.dialect.specs.declared.turn.Turn.TheVariants.{Ask, Say}
use Rattle.dialect.specs.declared.line.Line.{Line}
use Rattle.dialect.specs.declared.line.Line.TheVariants.{Gives, Opens, Skips}

pub grows_twice : (xs ys zs : List ℕ) → Grows xs ys → Grows ys zs → Grows xs zs
grows_twice xs ys zs g h = record { more = g.more ++ h.more; is = h.is ∙ ap (λ l. l ++ h.more) g.is ∙ append_assoc xs g.more h.more }

-- What holds of one turn by itself, and of a block that is passed over or kept, holds of each line.
module _ (P : Line → Type 0)
    (gives : (turn : Turn) → P (Gives (Some turn)))
    (refused : (size : ℕ) (n : Notice) → P (Skips (size + 2) (Some (Say n))))
    (removed : (size : ℕ) (key : List ℕ) → P (Skips (size + 2) (Some (Ask (command.Update (update.Delete key)) (show.Instead notice.TooLarge)))))
    (opens : (size : ℕ) (key : List ℕ) (ws : List (List ℕ)) (k : Kind) → nat_lt MOST_BLOCK_BYTES size ≡ false → P (Opens (opening size key ws k))) where
  kind_by : (size : ℕ) (key : List ℕ) (ws : List (List ℕ)) (k : Option Kind) → P (sized_set size (option_map_or (λ k. Ok (opening size key ws k)) k (Err notice.UnknownFlag)))
  kind_by size key ws None = refused size notice.UnknownFlag
  kind_by size key ws (Some k) = by (nat_lt MOST_BLOCK_BYTES size) refl
    where
      by : (b : Bool) → nat_lt MOST_BLOCK_BYTES size ≡ b → P (if b then Skips (size + 2) (Some (Ask (command.Update (update.Delete key)) (show.Instead notice.TooLarge))) else Opens (opening size key ws k))
      by true e = removed size key
      by false e = opens size key ws k e

  opening_by : (size : ℕ) (ws : List (List ℕ)) (r : Result (List ℕ) Notice) → P (sized_set size (opening_of size ws r))
  opening_by size ws (Err n) = refused size n
  opening_by size ws (Ok key) = kind_by size key ws (kind_in ws)

  set_by : (k : List ℕ) (ws : List (List ℕ)) → P (set_line k ws)
  set_by k [] = gives (Say notice.BadFormat)
  set_by k (n ∷ ws) = by (block_size_of n)
    where
      by : (o : Option ℕ) → P (option_map_or (λ size. sized_set size (opening_of size ws (checked meta.Set k ws))) o (says_one notice.BadFormat))
      by None = gives (Say notice.BadFormat)
      by (Some size) = opening_by size ws (checked meta.Set k ws)

  checked_by : (r : Result (List ℕ) Notice) (line : List ℕ → Line) → ((key : List ℕ) → P (line key)) → P (on_checked r line)
  checked_by (Ok key) line p = p key
  checked_by (Err n) line p = gives (Say n)

  pub meta_by : (m : Meta) (ws : List (List ℕ)) → P (meta_line m ws)
  unfolding key_line
  meta_by m [] = gives (Say notice.UnknownName)
  meta_by meta.Get (k ∷ ws) = checked_by (checked meta.Get k ws) (λ key. asks_meta meta.Get (get_command key ws) key ws) (λ key. gives _)
  meta_by meta.Set (k ∷ ws) = set_by k ws
  meta_by meta.Delete (k ∷ ws) = checked_by (checked meta.Delete k ws) (λ key. asks_meta meta.Delete (command.Update (delete_update key ws)) key ws) (λ key. gives _)
  meta_by meta.Count (k ∷ ws) = checked_by (checked meta.Count k ws) (λ key. asks_meta meta.Count (command.Update (count_update key ws)) key ws) (λ key. gives _)
