use Rattle.std.proofs.Common.{rules, ◌≡◌, ◌∙◌, ap, ◌∷◌, ◌++◌, List, ℕ, sym, false, true}
use Rattle.std.specs.Prelude.{nat_le}
use Rattle.std.specs.List.{list_all}
use Rattle.std.specs.Ordering.{nat_cmp}
use Rattle.std.specs.FinMap.{is_sorted, entries}
use Rattle.std.proofs.lemmas.Result.{err_from_is_err_and}
use Rattle.sessions.specs.declared.sessions.LastReply.{LastReply}
use Rattle.wire.specs.Field.{list_text}
use Rattle.wire.specs.Session.{session_text, sessions_text}
use Rattle.wire.proofs.SessionLemmas.{no_sessions, not_rising, not_clients, are_sessions}
use Rattle.wire.proofs.session.SessionsRecord.take.Goals as goal

pub returns-in_err-listed : goal.returns-in_err-listed
returns-in_err-listed c =
    let p = err_from_is_err_and c.from_residual-in_err-listed.result c.from_residual-in_err-listed.ensures.1 in
    rw (p.1, p.2) (no_sessions c.args.bytes.now c.in_ok-rest.rest.now c.in_ok-rest.ensures.ok c.in_err-listed.field-0.0 c.in_err-listed.ensures)

pub returns-then-not-is_rising : goal.returns-then-not-is_rising
returns-then-not-is_rising c =
    let not : is_sorted nat_cmp c.in_ok-listed.listed ≡ false = search rules in
    not_rising c.args.bytes.now c.in_ok-rest.rest.now c.in_ok-listed.listed c.in_ok-listed.rest.now c.in_ok-rest.ensures.ok c.in_ok-listed.ensures.1 not

pub returns-then-not-are_clients : goal.returns-then-not-are_clients
returns-then-not-are_clients c =
    let not : list_all (λ (e : ℕ × LastReply). nat_le 1 e.0) c.in_ok-listed.listed ≡ false = search rules in
    not_clients c.args.bytes.now c.in_ok-rest.rest.now c.in_ok-listed.listed c.in_ok-listed.rest.now c.in_ok-rest.ensures.ok c.in_ok-listed.ensures.1 not

pub returns : goal.returns
unfolding sessions_text
returns c =
    let clients : list_all (λ (e : ℕ × LastReply). nat_le 1 e.0) c.in_ok-listed.listed ≡ true = search rules in
    let listed : entries c.in_ok-from_sorted.field-0 ≡ c.in_ok-listed.listed = search rules in (
      rw listed (are_sessions c.in_ok-listed.listed c.in_ok-listed.ensures.0 clients),
      c.in_ok-rest.ensures.ok ∙ ap (λ (t : List ℕ). 3 ∷ t) (c.in_ok-listed.ensures.1 ∙ ap (λ (es : List (ℕ × LastReply)). list_text session_text es ++ c.in_ok-listed.rest.now) (sym listed)),
    )
