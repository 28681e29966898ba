use Rattle.std.proofs.Common.{sym, ◌∙◌, arith}
use Rattle.toml.specs.View.{view}
use Rattle.site_file.proofs.FormLemmas.{no_list, empty_list, some_listed, none_listed, empty_is, filled_is}
use Rattle.site_file.proofs.member.listed.Goals as goal

pub returns-in_default-clause-none : goal.returns-in_default-clause-none
returns-in_default-clause-none c = λ bs. no_list (view c.args.value.now) bs c.in_default.ensures

pub returns-then-is_empty-clause-none : goal.returns-then-is_empty-clause-none
returns-then-is_empty-clause-none c = λ bs.
    empty_list (view c.args.value.now) c.in-Some.values.now.items bs c.in-Some.ensures (sym c.in-Some.values.now.ok.0 ∙ empty_is c.in-Some.values.now.len c.if-is_empty.ensures)

pub returns-clause-some : goal.returns-clause-some
returns-clause-some c =
    let some_values = filled_is c.in-Some.values.now.len c.if-is_empty.ensures in
    some_listed (view c.args.value.now) c.in-Some.values.now.items c.as_slice.result.now c.addresses_in.result c.in-Some.ensures (omega (arith, some_values, c.in-Some.values.now.ok.0)) c.as_slice.ensures.value c.addresses_in.ensures.some

pub returns-clause-none : goal.returns-clause-none
returns-clause-none c =
    none_listed (view c.args.value.now) c.in-Some.values.now.items c.as_slice.result.now c.addresses_in.result c.in-Some.ensures c.as_slice.ensures.value c.addresses_in.ensures.none
