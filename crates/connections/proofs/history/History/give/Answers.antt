use Rattle.std.proofs.Common.{◌≡◌, ℕ, List, [], ◌∷◌, ◌++◌, sym, ap, ◌∙◌}
use Rattle.connections.specs.History.{Passed, given_as, heard_among, given_among}
use Rattle.connections.specs.declared.history.PassedAs.{PassedAs}
use Rattle.connections.specs.Logs.{logged, passed_one, passed_logged}
use Rattle.connections.proofs.HistoryLemmas.{logged_more, passed_logged_more, given_more, nothing_heard}
use Rattle.connections.proofs.history.History.give.Goals as goal

pub invariant_of-self : goal.invariant_of-self
invariant_of-self c =
    let s = c.self.inside in
    let old : List Passed = passed_logged s.passed.items in
    let given = ap logged c.and-self-inside.ensures ∙ logged_more s.given.items _ in
    let passed : passed_logged c.and-self-inside-2.result.items ≡ old ++ given_as c.args.number c.args.bytes.now.items ∷ [] =
    ap passed_logged c.and-self-inside-2.ensures ∙ (passed_logged_more s.passed.items _ ∙ ap (λ (k : PassedAs). old ++ passed_one (k, c.args.bytes.now) ∷ []) c.plain-passed.ensures) in
    record {
      heard = ap heard_among passed ∙ (nothing_heard c.args.number c.args.bytes.now.items old ∙ c.self.invariant.heard);
      given = ap given_among passed ∙ (given_more c.args.number c.args.bytes.now.items old ∙ (ap (λ (log : List (ℕ × List ℕ)). log ++ (c.args.number, c.args.bytes.now.items) ∷ []) c.self.invariant.given ∙ sym given));
    }
