use Rattle.std.proofs.Common.{◌≡◌, ◌∙◌, map, ap}
use Rattle.process_parts.specs.Parts.{proxy_of_row, verifier_of_row, executor_of_row, restored_process}
use Rattle.process_parts.proofs.RowLemmas.{numbered_proxies}
use Rattle.process_parts.proofs.LawLemmas.{same_is_stored}
use Rattle.process_parts.proofs.restoring.record_of.Goals as goal

pub of-requires-clause-numbered : goal.of-requires-clause-numbered
of-requires-clause-numbered c = numbered_proxies c.args.text.now.proxies c.in_ok-proxies.proxies.items c.requires.numbered (c.in_ok-proxies.ensures ∙ ap (map proxy_of_row) c.as_slice.ensures)

pub returns-clause-stored : goal.returns-clause-stored
returns-clause-stored c =
    let t = c.args.text.now in
    let s = c.args.state.now in
    let proxies : c.in_ok-proxies.proxies.items ≡ map proxy_of_row t.proxies = c.in_ok-proxies.ensures ∙ ap (map proxy_of_row) c.as_slice.ensures in
    let executors : c.in_ok-executors.executors.items ≡ map (executor_of_row s) t.executors = c.in_ok-executors.ensures ∙ ap (map (executor_of_row s)) c.as_slice-2.ensures in
    let verifiers : c.in_ok-verifiers.verifiers.items ≡ map verifier_of_row t.verifiers = c.in_ok-verifiers.ensures ∙ ap (map verifier_of_row) c.as_slice-3.ensures in
    let same : c.of.result ≡ restored_process t s = c.of.ensures ∙ (λ i. record { u = t.u; proxies = proxies i; executors = executors i; verifiers = verifiers i }) in
    same_is_stored t s c.of.result c.requires same
