use Rattle.std.proofs.Common.{subst, sym, List, ℕ}
use Rattle.toml.specs.View.{view}
use Rattle.site_file.specs.Form.{IsPath}
use Rattle.site_file.proofs.values.key_of.Goals as goal

pub returns-in_ok-from_str-in-Some-clause-ok : goal.returns-in_ok-from_str-in-Some-clause-ok
returns-in_ok-from_str-in-Some-clause-ok c = record {
  value = view c.in_ok-value.value.now;
  there = c.in_ok-value.ensures.ok;
  says = subst (λ (path : List ℕ). IsPath (view c.in_ok-value.value.now) path) (sym c.in_ok-from_str-in-Some.ensures.ok) c.in-Some.ensures.some;
}

pub returns-in-None-clause-err : goal.returns-in-None-clause-err
returns-in-None-clause-err c = record { member = tt; value = view c.in_ok-value.value.now; there = c.in_ok-value.ensures.ok; unfit = λ h. c.in-None.ensures.none h.0 h.1 }
