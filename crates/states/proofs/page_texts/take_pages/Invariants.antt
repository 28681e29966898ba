use Rattle.pages.specs.Layout.{text_in}
use Rattle.pages.specs.Joined.{items_of}
use Rattle.states.proofs.PageTextLemmas.{HasPages}
use Rattle.states.proofs.page_texts.take_pages.Given as goal

abbrev pub invariant-loop-number : goal.invariant-loop-number
invariant-loop-number l = HasPages (λ p m. text_in l.layout m) (items_of l.pages.items) l.number l.bytes l.rest
