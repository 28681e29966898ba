use Rattle.std.proofs.Common.{ℕ, List, [], ◌∷◌, ◌++◌, sym, ap, ◌∙◌}
use Rattle.grammar.specs.Reads.{with_mark}
use Rattle.connections.specs.History.{Passed, heard_among, given_among}
use Rattle.connections.specs.Logs.{heard_logged, passed_logged}
use Rattle.connections.proofs.HistoryLemmas.{heard_logged_more, passed_logged_more, heard_more, nothing_given}
use Rattle.connections.proofs.history.History.hear.Goals as goal

pub invariant_of-self : goal.invariant_of-self
invariant_of-self c =
    let s = c.self.inside in
    let old : List Passed = passed_logged s.passed.items in
    let comes : List ℕ = with_mark c.args.dialect c.args.is_full c.args.piece.now.items in
    let heard = ap heard_logged c.and-self-inside.ensures ∙ heard_logged_more s.heard.items _ in
    let passed = ap passed_logged c.and-self-inside-2.ensures ∙ passed_logged_more s.passed.items _ in
    record {
      heard = ap heard_among passed ∙ (heard_more c.args.number comes old ∙ (ap (λ (log : List (ℕ × List ℕ)). log ++ (c.args.number, comes) ∷ []) c.self.invariant.heard ∙ sym heard));
      given = ap given_among passed ∙ (nothing_given c.args.number comes old ∙ c.self.invariant.given);
    }
