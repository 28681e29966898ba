use Rattle.std.proofs.Common.{◌≡◌, drop, sym, ap, ◌∙◌, length, arith}
use Rattle.links.specs.declared.message.TheConstants.{HEADER_BYTES}
use Rattle.links.specs.Message.{message_text}
use Rattle.links.proofs.MessageLemmas.{whole_is, text_of_whole}
use Rattle.links.proofs.message.message_in.Goals as goal

pub returns-clause-text : goal.returns-clause-text
returns-clause-text c =
    let text : c.in_ok-text.text.items ≡ drop HEADER_BYTES c.args.bytes.now = c.in_ok-text.ensures.items ∙ c.split_at.ensures.back in
    whole_is c.args.bytes.now (λ i. omega (arith, c.type_inv.bytes i)) c.requires
    ∙ (ap (λ n. message_text (n, drop HEADER_BYTES c.args.bytes.now)) (sym c.number_of.ensures) ∙ ap (λ xs. message_text (c.number_of.result, xs)) (sym text))

pub returns-clause-size : goal.returns-clause-size
returns-clause-size c = ap length (c.in_ok-text.ensures.items ∙ c.split_at.ensures.back) ∙ text_of_whole c.args.bytes.now (λ i. omega (arith, c.type_inv.bytes i)) c.requires
