use Rattle.std.proofs.Common.{map, take}
use Rattle.std.specs.List.{AllZip}
use Rattle.toml.specs.View.{view}
use Rattle.site_file.specs.Form.{IsAddress}
use Rattle.site_file.proofs.form.addresses_in.Given as goal

abbrev pub invariant-loop-value : goal.invariant-loop-value
invariant-loop-value l = AllZip IsAddress (map view (take l.value-index l.values)) l.addresses.items
