-- What is always true of an ensemble whose process began with what was kept of another one.
use Rattle.std.specs.Prelude.{◌≡◌, ◌++◌, [], Option, None, Some}
use Rattle.ensemble.specs.Kept.{ProcessView, process_of, NoneIsLost, begun_with}
use Rattle.ensemble.specs.Ensemble.{EnsembleView, IsEnsemble}

-- the ensemble of a process that begins with this: nothing was asked of it
abbrev pub reopened_ensemble : ProcessView → EnsembleView
reopened_ensemble p = record { nodes = begun_with p; asked = []; answered = []; order = []; refused = 0; found = Some p }

-- ---- processes one after the other

-- what was asked and answered in the one before, and then in this one
abbrev pub ensemble_after : EnsembleView → EnsembleView → EnsembleView
ensemble_after before e = record { nodes = e.nodes; asked = before.asked ++ e.asked; answered = before.answered ++ e.answered; order = before.order ++ e.order; refused = e.refused; found = before.found }

-- What is always true of an ensemble whose process began with this: whatever ensemble it was kept of, that one and this one are one ensemble.
abbrev pub IsEnsembleAfter : Option ProcessView → EnsembleView → Type 0
IsEnsembleAfter None e = IsEnsemble e
IsEnsembleAfter (Some found) e = (before : EnsembleView) → IsEnsemble before → NoneIsLost before.nodes → process_of before.nodes ≡ found → IsEnsemble (ensemble_after before e)
