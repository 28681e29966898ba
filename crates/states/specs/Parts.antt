-- A state of its parts.
use Rattle.states.specs.declared.state.Parts.{Parts}
use Rattle.states.specs.State.{StateView}
use Rattle.states.specs.Origin.{state_from}

-- the state of these parts; its token is still to be computed
abbrev pub parts_of : Parts → StateView
parts_of p = state_from p.origin p.origin.previous p.sessions p.pages.items
