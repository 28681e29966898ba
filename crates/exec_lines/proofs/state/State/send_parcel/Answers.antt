use Rattle.std.proofs.Common.{◌≡◌, [], ◌∷◌, ap, ◌∙◌}
use Rattle.decrees.specs.declared.node.Node.TheVariants.{Executor}
use Rattle.states.specs.State.{StateView}
use Rattle.transfer.specs.Parcel.{ParcelView, answer_of}
use Rattle.exec_lines.specs.declared.body.Body.TheVariants.{Parcel}
use Rattle.exec_lines.specs.State.{ExecutorState, executor_letter}
use Rattle.exec_lines.proofs.LineLemmas.{no_answer}
use Rattle.exec_lines.proofs.state.State.send_parcel.Goals as goal

pub returns-in_err-letters : goal.returns-in_err-letters
returns-in_err-letters c = no_answer _ c.from_residual-in_err-letters.result c.from_residual-in_err-letters.ensures.0

pub returns : goal.returns
returns c =
    let have : c.committed.result.now ≡ c.args.self.now.chain.have = c.committed.ensures ∙ ap (λ (s : ExecutorState). s.chain.have) c.self.view_is in
    let parcel : c.in_ok-parcel.parcel ≡ answer_of c.args.self.now.chain.have c.args.need.now = c.in_ok-parcel.ensures ∙ ap (λ (s : StateView). answer_of s c.args.need.now) have in
    let letters = ap (λ ls. ls.items) c.said.ensures.letters ∙ c.in_ok-letters.ensures ∙ ap (λ (p : ParcelView). executor_letter c.args.id (Executor c.args.from) (Parcel p) ∷ []) parcel in
    λ i. record { state = c.args.self.now; saves = c.said.ensures.saves i; letters = letters i }
