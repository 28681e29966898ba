-- What bytes ask, and which bytes answer it.
use Rattle.std.specs.Prelude.{◌≡◌, ℕ, Bool, ◌+◌, ◌-◌, ◌≤◌, List, [], ◌∷◌, ◌++◌, Some, slice_get}
use Rattle.proto.specs.declared.command.Command.{Command}
use Rattle.proto.specs.declared.reply.Reply as replies
use Rattle.proto.specs.declared.turn.Turn.{Turn}
use Rattle.proto.specs.declared.turn.Turn.TheVariants.{Ask, Say, Close}
use Rattle.proto.specs.Grammar.{Spells, IsTurnText}
use Rattle.proto.specs.Text.{notice_text, given_text}

-- the commands that turns ask, in order: the first one is request 1
abbrev pub asked : List Turn → List Command
asked [] = []
asked (Ask command quiet ∷ turns) = command ∷ asked turns
asked (Say notice ∷ turns) = asked turns
asked (Close notice ∷ turns) = asked turns

-- The bytes are the texts of these turns, of which request q is the first: each reply is one of which P holds at the number of its request.
abbrev pub TextsBy : (ℕ → replies.Reply → Type 0) → ℕ → List Turn → List ℕ → Type 0
TextsBy P q [] bytes = bytes ≡ []
TextsBy P q (Say notice ∷ turns) bytes = (more : List ℕ) × (bytes ≡ notice_text notice ++ more) × TextsBy P q turns more
TextsBy P q (Close notice ∷ turns) bytes = (more : List ℕ) × (bytes ≡ notice_text notice ++ more) × TextsBy P q turns more
TextsBy P q (Ask command quiet ∷ turns) bytes = (reply : replies.Reply) × (more : List ℕ) × P q reply × (bytes ≡ given_text reply quiet ++ more) × TextsBy P (q + 1) turns more

-- these turns are a beginning of what the bytes spell
pub record Front (all : List ℕ) (taken : List Turn) : Type 0 where
  pub turns : List Turn
  pub rest : List ℕ
  pub more : List Turn
  pub spells : Spells all turns rest
  pub is : turns ≡ taken ++ more

-- the bytes spell turns of which this command is the one asked at this number; the first command has number 1
pub record IsAsked (bytes : List ℕ) (number : ℕ) (command : Command) : Type 0 where
  pub turns : List Turn
  pub rest : List ℕ
  pub spells : Spells bytes turns rest
  pub from_one : 1 ≤ number
  pub is : slice_get (asked turns) (number - 1) ≡ Some command

-- bytes spell this command, and nothing else
abbrev pub HasText : Command → Bool → Type 0
HasText command quiet = (bytes : List ℕ) × IsTurnText bytes (Ask command quiet)
