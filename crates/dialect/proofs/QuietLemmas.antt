-- A meta line with the flag q does not show what is expected.
use Rattle.std.proofs.Common.{◌≡◌, ℕ, ◌+◌, Bool, true, false, List, [], ◌∷◌, Option, Some, None, IfSome, Result, Ok, Err, inl, inr, refl, sym, subst, if◌then◌else◌}
use Rattle.std.specs.Prelude.{nat_lt, codes, drop, take, bytes_eq}
use Rattle.std.specs.Option.{option_map_or}
use Rattle.proto.specs.Grammar.{filled}
use Rattle.proto.specs.declared.block.TheConstants.{MOST_BLOCK_BYTES}
use Rattle.proto.specs.declared.command.Command.{Command}
use Rattle.proto.specs.declared.command.Command.TheVariants as command
use Rattle.proto.specs.declared.command.Update.TheVariants as update
use Rattle.proto.specs.declared.line.Kind.{Kind}
use Rattle.proto.specs.declared.reply.Reply.{Reply}
use Rattle.proto.specs.declared.reply.Reply.TheVariants as reply
use Rattle.dialect.specs.Number.{block_size_of}
use Rattle.dialect.specs.Meta.{has, meta_show, checked, says_one, on_checked, asks_meta, get_command, delete_update, count_update, kind_in, opening, opening_of, sized_set, set_line, key_line, meta_line}
use Rattle.dialect.specs.MetaText.{meta_text}
use Rattle.dialect.specs.Line.{says_noreply, said, line_of}
use Rattle.dialect.specs.Meaning.{Meaning, meaning, meaning_of_words, meaning_of_line, unknown, block_turn}
use Rattle.dialect.specs.Laws.{flags_behind, IsQuietMeta, IsExpected, HidesExpected, AllHideExpected, PartHidesExpected}
use Rattle.dialect.specs.declared.meta.Meta.{Meta}
use Rattle.dialect.specs.declared.meta.Meta.TheVariants as meta
use Rattle.dialect.specs.declared.meta.MetaShow.{MetaShow}
use Rattle.dialect.specs.declared.turn.Notice.{Notice}
use Rattle.dialect.specs.declared.turn.Notice.TheVariants as notice
use Rattle.dialect.specs.declared.turn.Show.{Show}
use Rattle.dialect.specs.declared.turn.Show.TheVariants as show
use Rattle.dialect.specs.declared.turn.Turn.TheVariants.{Ask}
use Rattle.dialect.specs.declared.line.Opening.{Opening}
use Rattle.dialect.specs.declared.line.Name.{Name}
use Rattle.dialect.specs.declared.line.Name.TheVariants as name
use Rattle.dialect.specs.declared.line.Line.{Line}
use Rattle.dialect.specs.declared.line.Line.TheVariants.{Gives, Closes, Reads, Opens, Skips}
use Rattle.dialect.proofs.RunLemmas.{taken}

-- the line hides what is expected
abbrev Hides : Line → Type 0
Hides (Gives turn) = IfSome turn HidesExpected
Hides (Closes n) = Unit {0}
Hides (Reads r) = ⊥
Hides (Opens o) = (m : MetaShow) × (o.show ≡ show.Meta m) × (m.quiet ≡ true)
Hides (Skips n turn) = IfSome turn HidesExpected

expected_hidden : (m : MetaShow) → m.quiet ≡ true → (r : Reply) → IsExpected r → meta_text r m ≡ []
expected_hidden m e reply.Stored x = taken m.quiet _ _ e
expected_hidden m e reply.NotStored x = absurd x
expected_hidden m e reply.Exists x = absurd x
expected_hidden m e reply.NotFound x = absurd x
expected_hidden m e reply.Deleted x = taken m.quiet _ _ e
expected_hidden m e reply.Touched x = absurd x
expected_hidden m e (reply.Number n) x = taken m.quiet _ _ e
expected_hidden m e (reply.Values []) x = taken m.quiet _ _ e
expected_hidden m e (reply.Values (f ∷ found)) x = absurd (cc)
expected_hidden m e reply.TooLarge x = absurd x
expected_hidden m e reply.NotNumber x = absurd x

checked_hides : (m : Meta) (ws : List (List ℕ)) (c : List ℕ → Command) → has (codes "q") ws ≡ true → (r : Result (List ℕ) Notice) → Hides (on_checked r (λ key. asks_meta m (c key) key ws))
checked_hides m ws c e (Ok key) = inr (expected_hidden (meta_show m key ws) e)
checked_hides m ws c e (Err n) = tt

module _ (size : ℕ) (ws : List (List ℕ)) (quiet : has (codes "q") ws ≡ true) where
  kind_hides : (key : List ℕ) (k : Option Kind) → Hides (sized_set size (option_map_or (λ k. Ok (opening size key ws k)) k (Err notice.UnknownFlag)))
  kind_hides key None = tt
  kind_hides key (Some k) = by (nat_lt MOST_BLOCK_BYTES size)
    where
      by : (b : Bool) → Hides (if b then Skips (size + 2) (Some (Ask (command.Update (update.Delete key)) (show.Instead notice.TooLarge))) else Opens (opening size key ws k))
      by true = inl (notice.TooLarge, refl)
      by false = (meta_show meta.Set key ws, refl, quiet)

  opening_hides : (r : Result (List ℕ) Notice) → Hides (sized_set size (opening_of size ws r))
  opening_hides (Ok key) = kind_hides key (kind_in ws)
  opening_hides (Err n) = tt

set_hides : (k : List ℕ) (ws : List (List ℕ)) → has (codes "q") (drop 1 ws) ≡ true → Hides (set_line k ws)
set_hides k [] e = tt
set_hides k (n ∷ ws) e = by (block_size_of n)
  where
    by : (o : Option ℕ) → Hides (option_map_or (λ size. sized_set size (opening_of size ws (checked meta.Set k ws))) o (says_one notice.BadFormat))
    by None = tt
    by (Some size) = opening_hides size ws e (checked meta.Set k ws)

line_hides : (m : Meta) (ws : List (List ℕ)) → has (codes "q") (flags_behind m ws) ≡ true → Hides (meta_line m ws)
unfolding key_line
line_hides m [] e = tt
line_hides meta.Get (k ∷ ws) e = checked_hides meta.Get ws (λ key. get_command key ws) e (checked meta.Get k ws)
line_hides meta.Set (k ∷ ws) e = set_hides k ws e
line_hides meta.Delete (k ∷ ws) e = checked_hides meta.Delete ws (λ key. command.Update (delete_update key ws)) e (checked meta.Delete k ws)
line_hides meta.Count (k ∷ ws) e = checked_hides meta.Count ws (λ key. command.Update (count_update key ws)) e (checked meta.Count k ws)

block_hides : (o : Opening) (m : MetaShow) → o.show ≡ show.Meta m → m.quiet ≡ true → (block : List ℕ) → IfSome (block_turn o block) HidesExpected
block_hides o m is e block = by (bytes_eq (drop o.header.size block) (13 ∷ 10 ∷ []))
  where
    said_hides : (q : Bool) → IfSome (said q notice.BadChunk) HidesExpected
    said_hides true = tt
    said_hides false = tt

    by : (b : Bool) → IfSome (if b then Some (Ask (filled o.header (take o.header.size block)) o.show) else said o.header.quiet notice.BadChunk) HidesExpected
    by true = subst (λ (s : Show). HidesExpected (Ask (filled o.header (take o.header.size block)) s)) (sym is) (inr (expected_hidden m e))
    by false = said_hides o.header.quiet

abbrev HidesAll : Meaning → Type 0
HidesAll m = AllHideExpected m.turns × PartHidesExpected m.part

given_hides : (l : Line) (ws : List (List ℕ)) → Hides l → HidesAll (meaning_of_line l ws)
given_hides (Gives None) ws h = (tt, tt)
given_hides (Gives (Some turn)) ws h = ((h, tt), tt)
given_hides (Closes n) ws h = ((tt, tt), tt)
given_hides (Reads r) ws h = absurd h
given_hides (Opens o) ws h = (tt, block_hides o h.0 h.1 h.2)
given_hides (Skips n turn) ws h = (tt, h)

pub quiet_hides : (line : List ℕ) → IsQuietMeta line → AllHideExpected (meaning line).turns × PartHidesExpected (meaning line).part
unfolding meaning
quiet_hides bytes i =
    let line : HidesAll (meaning_of_line (line_of (name.Meta i.called) (says_noreply i.others) i.others) i.others) =
    given_hides (meta_line i.called i.others) i.others (line_hides i.called i.others i.quiet) in
    let named : HidesAll (meaning_of_words (i.first ∷ i.others)) =
    subst (λ (n : Option Name). HidesAll (option_map_or (λ (m : Name). meaning_of_line (line_of m (says_noreply i.others) i.others) i.others) n unknown)) (sym i.named) line in
    subst (λ (ws : List (List ℕ)). HidesAll (meaning_of_words ws)) (sym i.splits) named
