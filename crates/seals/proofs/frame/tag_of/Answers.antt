use Rattle.std.proofs.Common.{take, ap, ◌∙◌}
use Rattle.seals.specs.declared.frame.TheConstants.{TAG_BYTES}
use Rattle.seals.specs.Frame.{tag_behind}
use Rattle.seals.proofs.frame.tag_of.Goals as goal

pub returns : goal.returns
unfolding tag_behind
returns c = c.copy_from_slice.ensures.after ∙ (c.split_at.ensures.front ∙ ap (take TAG_BYTES) c.mac_of-mac.ensures)
