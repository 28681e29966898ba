use Rattle.std.proofs.Common.{List, map, subst, sym}
use Rattle.std.specs.List.{AllZip}
use Rattle.std.proofs.lemmas.List.{take_all}
use Rattle.toml.specs.declared.value.Value.{Value}
use Rattle.toml.specs.View.{view}
use Rattle.site_file.specs.Form.{IsAddress}
use Rattle.site_file.proofs.FormLemmas.{zip_more, zip_at}
use Rattle.site_file.proofs.form.addresses_in.Goals as goal

pub loop-value-preserved : goal.loop-value-preserved
loop-value-preserved c =
    rw (c.in_ok-push-in-Some.ensures.items)
    (zip_more c.args.values.now c.loop-value.value-index c.value-item.result c.loop-value.addresses.items c.in-Some.address c.loop-value-test.true (sym c.value-item.is) c.loop-value.invariant c.in-Some.ensures.some)

pub returns-in-None-clause-none : goal.returns-in-None-clause-none
returns-in-None-clause-none c = λ bs h.
    let p = zip_at c.args.values.now bs c.loop-value.value-index c.value-item.result c.loop-value-test.true (sym c.value-item.is) h in
    c.in-None.ensures.none p.0 p.1

pub returns-clause-some : goal.returns-clause-some
returns-clause-some c =
    subst (λ (vs : List Value). AllZip IsAddress (map view vs) c.loop-value.addresses.items) (take_all c.loop-value.value-index c.args.values.now c.loop-value-test.false) c.loop-value.invariant
