use Rattle.std.proofs.Common.{◌≡◌, ℕ, List, length, sym, ap, ◌∙◌, arith, subst}
use Rattle.std.specs.Prelude.{All}
use Rattle.std.specs.FinMap.{entries}
use Rattle.sessions.specs.declared.sessions.LastReply.{LastReply}
use Rattle.sessions.specs.Limits.{SessionFits}
use Rattle.wire.specs.Token.{token_text}
use Rattle.token.specs.Digest.{digest}
use Rattle.states.specs.State.{token_of}
use Rattle.states.specs.Parts.{parts_of}
use Rattle.states.proofs.state.State.of_digested.Goals as goal

pub invariant_of-result : goal.invariant_of-result
invariant_of-result c =
    let all = c.entries-entries.ensures.entries ∙ ap entries c.sessions.ensures in
    let count = ap length (sym all) in
    let sessions = c.digest.ensures ∙ c.requires.digested.digest in
    let token : c.new-token.result.0 ≡ token_of (parts_of c.args.parts) =
    c.new-token.ensures ∙ (λ i. digest (token_text (record {
      previous = c.args.parts.origin.previous.0;
      n = c.args.parts.origin.number;
      epoch = c.args.parts.origin.epoch;
      moment = c.args.parts.origin.moment;
      batch = c.args.parts.origin.batch;
      root = c.root_of_form.ensures i;
      sessions = sessions i;
    }))) in (
      record {
        state = record {
          sessions_fit = record { count = omega (arith, count, c.entries-entries.ensures.few); each = subst (λ (kept : List (ℕ × LastReply)). All SessionFits kept) all c.entries-entries.ensures.fit };
          form_fit = c.requires.form;
          few = c.requires.number.1;
          first = λ none. absurd (omega (arith, c.requires.number.0, none));
          token = λ later i. record (parts_of c.args.parts) { token = record { 0 = token i } };
        };
        sessions = c.requires.digested;
      },
      c.requires.laid,
    )
