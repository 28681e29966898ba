use Rattle.std.proofs.Common.{sym, subst, ◌∙◌}
use Rattle.site_file.specs.Form.{HasLength}
use Rattle.toml.specs.View.{view}
use Rattle.site_file.proofs.FormLemmas.{has_length, no_length}
use Rattle.site_file.proofs.values.member_count_of.Goals as goal

pub returns-in-Some-clause-ok : goal.returns-in-Some-clause-ok
returns-in-Some-clause-ok c = record { value = view c.in_ok-value.value.now; there = c.in_ok-value.ensures.ok; says = subst (HasLength (view c.in_ok-value.value.now)) (sym (c.len.ensures ∙ c.in-Some.members.now.ok.0)) (has_length (view c.in_ok-value.value.now) c.in-Some.members.now.items c.in-Some.ensures) }

pub returns-in-None-clause-err : goal.returns-in-None-clause-err
returns-in-None-clause-err c = record { member = tt; value = view c.in_ok-value.value.now; there = c.in_ok-value.ensures.ok; unfit = λ h. no_length (view c.in_ok-value.value.now) h.0 c.in-None.ensures h.1 }
