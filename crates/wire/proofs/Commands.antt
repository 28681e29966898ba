-- If the fields of a gat are not there, no command is behind its mark.
use Rattle.std.proofs.Common.{◌≡◌, ℕ, List, ◌∷◌, ◌++◌, ℤ, sym, ◌∙◌}
use Rattle.std.specs.Prelude.{nat_eq}
use Rattle.base.specs.declared.fault.Fault.{Fault}
use Rattle.proto.specs.declared.command.Command.{Command}
use Rattle.proto.specs.declared.command.Command.TheVariants as command
use Rattle.wire.specs.Record.{Always, NoPrefix, Refused}
use Rattle.wire.specs.Command.{command_text}
use Rattle.wire.specs.FrontLaws.{tail_of, Passes, same_numbers}
use Rattle.wire.specs.CommandLaws.{timed_keys_row, command_kind, command_kind_behind, command_kind-12, command_kind-13}
use Rattle.wire.proofs.Values.{Refused-weaker}

abbrev TimedKeysFit : ℤ × List (List ℕ) → Type 0
TimedKeysFit p = Unit {0} × Unit {0}

gat_here : (bytes : List ℕ) → NoPrefix TimedKeysFit timed_keys_row bytes → (c : Command) (rest : List ℕ) → Passes (nat_eq (command_kind c) 12) → 12 ∷ bytes ≡ command_text c ++ rest → ⊥
gat_here bytes none (command.Gat exptime keys) rest h e = none.none (exptime, keys) rest (tt, tt) (tail_of 12 12 _ _ e)
gat_here bytes none _ rest h e = absurd h

pub no_gat : (bytes : List ℕ) (e : Fault) → Refused e (NoPrefix TimedKeysFit timed_keys_row bytes) → Refused e (NoPrefix Always command_text (12 ∷ bytes))
no_gat bytes e = Refused-weaker e (λ (none : NoPrefix TimedKeysFit timed_keys_row bytes). record {
  none = λ c rest f here. gat_here bytes none c rest (same_numbers (command_kind c) 12 (sym (command_kind_behind 12 bytes c rest here) ∙ command_kind-12)) here;
})

gats_here : (bytes : List ℕ) → NoPrefix TimedKeysFit timed_keys_row bytes → (c : Command) (rest : List ℕ) → Passes (nat_eq (command_kind c) 13) → 13 ∷ bytes ≡ command_text c ++ rest → ⊥
gats_here bytes none (command.Gats exptime keys) rest h e = none.none (exptime, keys) rest (tt, tt) (tail_of 13 13 _ _ e)
gats_here bytes none _ rest h e = absurd h

pub no_gats : (bytes : List ℕ) (e : Fault) → Refused e (NoPrefix TimedKeysFit timed_keys_row bytes) → Refused e (NoPrefix Always command_text (13 ∷ bytes))
no_gats bytes e = Refused-weaker e (λ (none : NoPrefix TimedKeysFit timed_keys_row bytes). record {
  none = λ c rest f here. gats_here bytes none c rest (same_numbers (command_kind c) 13 (sym (command_kind_behind 13 bytes c rest here) ∙ command_kind-13)) here;
})
