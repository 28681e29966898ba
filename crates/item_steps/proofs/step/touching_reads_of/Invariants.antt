use Rattle.std.proofs.Common.{◌≡◌, ◌++◌, drop}
use Rattle.item_steps.specs.Steps.{touching_reads}
use Rattle.item_steps.proofs.step.touching_reads_of.Given as goal

-- the steps so far and those of the other keys are those of all
abbrev pub invariant-loop-key : goal.invariant-loop-key
invariant-loop-key l = l.list.items ++ touching_reads l.exptime (drop l.key-index l.keys) ≡ touching_reads l.exptime l.keys
