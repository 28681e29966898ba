-- A proxy does what a client's part of a world does.
use Rattle.std.proofs.Common.{◌≡◌, ℕ, ◌+◌, Bool, true, false, List, [], ◌∷◌, Option, None, Some, refl, sym, ap, ◌∙◌, subst}
use Rattle.std.specs.Prelude.{◌==◌, if◌then◌else◌}
use Rattle.std.proofs.lemmas.Bool.{eq-eqb}
use Rattle.proto.specs.declared.command.Command.{Command}
use Rattle.proto.specs.declared.reply.Reply as replies
use Rattle.proto.specs.declared.turn.Turn.{Turn}
use Rattle.proto.specs.declared.turn.Turn.TheVariants.{Ask}
use Rattle.proto.specs.Text.{given_text}
use Rattle.proto.proofs.SpellsLemmas.{alone_reads}
use Rattle.client.specs.declared.asked.Asked.{Asked}
use Rattle.client.specs.Talk.{next_request, wants}
use Rattle.client.specs.Step.{IsFed, on_again, answered_to}
use Rattle.proxies.specs.Proxy.{ProxyView, asks, left_of, talk_of, AskIsFed, AnswerIsReplied, AgainIsAsked}

pub ask_is_fed : AskIsFed
ask_is_fed u p bytes command quiet free read =
    let P : Option Asked → Type 0 = λ o. IsFed u p.client (talk_of (record { client = p.client; last = p.last; asked = o })) bytes (record { talk = talk_of (asks p command quiet); letters = wants u p.client (next_request p.client p.last command); bytes = [] }) in
    subst P (sym free) (Ask command quiet ∷ [], record { kept = []; closed = false; held = 0 }, alone_reads bytes command quiet read, refl)

pub answer_is_replied : AnswerIsReplied
answer_is_replied u p a reply out =
    let P : Option Asked → Type 0 = λ o. answered_to u p.client (talk_of (record { client = p.client; last = p.last; asked = o })) a.request.number reply o ≡ record { talk = talk_of (record { client = p.client; last = p.last; asked = left_of o a.request.number }); letters = []; bytes = given_text reply a.quiet } in
    subst P (sym out) (rw (eq-eqb a.request.number a.request.number refl) refl)

pub again_is_asked : AgainIsAsked
again_is_asked u p a out =
    let P : Option Asked → Type 0 = λ o. on_again u p.client (talk_of (record { client = p.client; last = p.last; asked = o })) ≡ record { talk = talk_of (record { client = p.client; last = p.last; asked = o }); letters = wants u p.client a.request; bytes = [] } in
    subst P (sym out) refl
