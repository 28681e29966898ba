use Rattle.std.proofs.Common.{ℕ, ◌+◌, ◌*◌, sym, ap, ◌∙◌}
use Rattle.site_file.proofs.members.read_members.Goals as goal

pub returns-then-count-from-clause-err : goal.returns-then-count-from-clause-err
returns-then-count-from-clause-err c = record {
  u_is = c.requires;
  count = c.in_ok-count.ensures.ok;
  other = λ e. c.if-count-from.true (e ∙ ap (λ (n : ℕ). 2 * n + 1) (sym c.from.ensures));
}
