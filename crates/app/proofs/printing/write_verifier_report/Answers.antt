use Rattle.std.proofs.Common.{rules, decimal, codes}
use Rattle.app.proofs.PrintedLemmas.{wrote_fields}
use Rattle.app.proofs.printing.write_verifier_report.Goals as goal

pub returns : goal.returns
returns c =
    wrote_fields c.write_field-2.result c.write_field-2.new.out.items c.write_field.new.out.items c.args.out.now.items
    c.as_slice.result.now (decimal c.args.report.now.decrees) c.as_slice-2.result.now (decimal c.args.report.now.view) (codes " up decrees ") (codes " view ")
    (search rules) (search rules) c.in_ok-write_field.ensures c.write_field-2.ensures
