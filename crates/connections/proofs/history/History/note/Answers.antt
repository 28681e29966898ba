use Rattle.std.proofs.Common.{◌≡◌, ℕ, List, [], ◌∷◌, ◌++◌, ap, ◌∙◌}
use Rattle.connections.specs.History.{Passed, heard_among, given_among, moment_as}
use Rattle.connections.specs.declared.history.Passing.TheVariants as passing
use Rattle.connections.specs.declared.history.PassedAs.{PassedAs}
use Rattle.connections.specs.Logs.{passed_one, passed_logged}
use Rattle.connections.proofs.HistoryLemmas.{passed_logged_more, moment_unheard, moment_not_given}
use Rattle.connections.proofs.history.History.note.Goals as goal

pub invariant_of-self : goal.invariant_of-self
invariant_of-self c =
    let s = c.self.inside in
    let old : List Passed = passed_logged s.passed.items in
    let passed : passed_logged c.and-self-inside.result.items ≡ old ++ moment_as c.args.moment ∷ [] = ap passed_logged c.and-self-inside.ensures ∙ (passed_logged_more s.passed.items _ ∙ (ap (λ (k : PassedAs). old ++ passed_one (k, c.new-nothing.result) ∷ []) c.plain-passed.ensures ∙ ap (λ (bytes : List ℕ). old ++ (passing.Moment c.args.moment, bytes) ∷ []) c.new-nothing.ensures.items)) in
    record {
      heard = ap heard_among passed ∙ (moment_unheard c.args.moment old ∙ c.self.invariant.heard);
      given = ap given_among passed ∙ (moment_not_given c.args.moment old ∙ c.self.invariant.given);
    }
