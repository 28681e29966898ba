-- Of a connection's commands, those that were executed, and what answers them.
use Rattle.std.specs.Prelude.{◌≡◌, ℕ, ◌-◌, List, ◌++◌, map, take, flat_map, Some, slice_get}
use Rattle.item_steps.specs.Steps.{steps}
use Rattle.memcached_spec.specs.Server.{Line, made_for}
use Rattle.memcached_spec.specs.Order.{replies_from}
use Rattle.grammar.specs.declared.reader.Dialect.{Dialect}
use Rattle.grammar.specs.declared.turn.Turn.{Turn}
use Rattle.grammar.specs.Asks.{SpellsIn, commands_in, TextsShown}

-- Of the commands that the bytes ask in the grammar, in their order, the first ones were executed for this client, each once and whole.
pub record IsExecutedFrom (d : Dialect) (lines : List Line) (client : ℕ) (all : List ℕ) : Type 0 where
  pub turns : List Turn
  pub spells : SpellsIn d all turns
  pub count : ℕ
  pub made : map (λ m. m.step) (made_for client lines) ≡ flat_map steps (take count (commands_in turns))

-- The client was given the texts of its first turns, with replies that these lines made.
pub record IsAnsweredFrom (d : Dialect) (lines : List Line) (client : ℕ) (all given : List ℕ) : Type 0 where
  pub executed : IsExecutedFrom d lines client all
  pub taken : List Turn
  pub more : List Turn
  pub first : executed.turns ≡ taken ++ more
  pub texts : TextsShown (λ number r. slice_get (replies_from (take executed.count (commands_in executed.turns)) (map (λ m. m.answer) (made_for client lines))) (number - 1) ≡ Some r) 1 taken given
