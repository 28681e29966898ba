use Rattle.exec_lines.proofs.CutLemmas.{told_by_text}
use Rattle.exec_lines.proofs.working.is_of_batch.Goals as goal

pub returns : goal.returns
returns c = told_by_text c.batch.result.now c.batch-2.result.now c.args.tentative.now.batch c.args.work.now.batch c.is_same.result c.is_same.ensures c.batch.ensures c.batch-2.ensures
