use Rattle.std.proofs.Common.{◌≡◌, ℕ, ◌+◌, ◌*◌, subst, rules}
use Rattle.std.specs.Prelude.{◌/◌}
use Rattle.toml.specs.View.{view}
use Rattle.site_file.specs.Form.{IsNumber, most_proxies}
use Rattle.site_file.proofs.values.proxies_of.Goals as goal

pub returns-in-None-clause-err : goal.returns-in-None-clause-err
returns-in-None-clause-err c =
    let same : c.from.result / (2 * c.from-2.result + 1) ≡ most_proxies c.args.u = search rules in
    let value = view c.in_ok-value.value.now in
    record { u_is = c.requires; value = value; there = c.in_ok-value.ensures.ok; unfit = λ n. subst (λ (most : ℕ). IsNumber 1 most value n → ⊥) same (c.in-None.ensures.none n) }
