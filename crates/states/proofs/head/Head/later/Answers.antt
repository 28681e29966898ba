use Rattle.std.proofs.Common.{◌≡◌, ℕ, List, sym, ap, ◌∙◌, arith}
use Rattle.states.specs.State.{with_token}
use Rattle.states.specs.StateRecord.{state_of}
use Rattle.states.proofs.RecordLemmas.{its_token, same_unless}
use Rattle.states.proofs.head.Head.later.Goals as goal

pub returns : goal.returns
returns c =
    let same : c.token.result ≡ c.args.self.now.token = ap (λ (bytes : List ℕ). record { 0 = bytes }) (same_unless c.token.result.0 c.args.self.now.token.0 (sym c.ne.ensures ∙ c.if-ne.false)) in
    let computed : c.of_parts-state.result ≡ with_token (state_of c.args.self.now c.args.sessions c.args.pages.items) = c.of_parts-state.ensures ∙ ap (λ sessions. with_token (state_of c.args.self.now sessions c.args.pages.items)) c.new.ensures in
    let token : c.args.self.now.token ≡ (with_token (state_of c.args.self.now c.args.sessions c.args.pages.items)).token = sym same ∙ (c.token.ensures ∙ ap (λ s. s.token) computed) in
    let number : c.of_parts-state.result.number ≡ c.args.self.now.origin.number = ap (λ s. s.number) computed in
    (record { state = c.is_state.ensures; later = omega (arith, number, c.if-self-eq0.false) }, computed ∙ sym (its_token c.args.self.now c.args.sessions c.args.pages.items token))
