use Rattle.pages.specs.Page.{page_items}
use Rattle.pages.specs.Joined.{items_of}
use Rattle.states.specs.StateRecord.{change_text}
use Rattle.states.proofs.PageTextLemmas.{HasPages}
use Rattle.states.proofs.changes.take_changes.Given as goal

abbrev pub invariant-loop-number : goal.invariant-loop-number
invariant-loop-number l = HasPages (λ p m. change_text l.layout (page_items l.before.items p) m) (items_of l.pages.items) l.number l.bytes l.rest
