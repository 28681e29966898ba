-- Which lines are due, and what the log has reported then.
use Rattle.std.specs.Prelude.{ℕ}
use Rattle.daemon.specs.declared.report.Due.{Due}
use Rattle.daemon.specs.declared.report.Report.{Report}
use Rattle.daemon.specs.declared.report.Totals.{Totals}
use Rattle.daemon.specs.Told.{told_since, due_number, told_after}

-- a log that has reported nothing, and of which these are the beginning
abbrev pub report_from : Totals → Report
report_from totals = record {
  stops = told_since totals.stops;
  returns = told_since totals.returns;
  suspicions = told_since totals.suspicions;
  rollbacks = told_since totals.rollbacks;
  refused = told_since totals.refused;
  failed = told_since totals.failed;
  idle = told_since totals.idle;
  lines = told_since totals.lines;
  memory = told_since totals.memory;
}

abbrev pub due_lines : Report → Totals → ℕ → Due
due_lines report totals second = record {
  stops = due_number report.stops totals.stops second;
  returns = due_number report.returns totals.returns second;
  suspicions = due_number report.suspicions totals.suspicions second;
  rollbacks = due_number report.rollbacks totals.rollbacks second;
  refused = due_number report.refused totals.refused second;
  failed = due_number report.failed totals.failed second;
  idle = due_number report.idle totals.idle second;
  lines = due_number report.lines totals.lines second;
  memory = due_number report.memory totals.memory second;
}

abbrev pub report_after : Report → Totals → ℕ → Report
report_after report totals second = record {
  stops = told_after report.stops totals.stops second;
  returns = told_after report.returns totals.returns second;
  suspicions = told_after report.suspicions totals.suspicions second;
  rollbacks = told_after report.rollbacks totals.rollbacks second;
  refused = told_after report.refused totals.refused second;
  failed = told_after report.failed totals.failed second;
  idle = told_after report.idle totals.idle second;
  lines = told_after report.lines totals.lines second;
  memory = told_after report.memory totals.memory second;
}
