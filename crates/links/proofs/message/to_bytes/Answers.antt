use Rattle.std.proofs.Common.{◌≡◌, ◌++◌, length, ap, ◌∙◌, append_assoc, rules}
use Rattle.std.specs.Int.{w32, w64, to_be_bytes}
use Rattle.links.specs.Message.{message_text}
use Rattle.links.proofs.message.to_bytes.Goals as goal

pub returns-clause-ok : goal.returns-clause-ok
unfolding message_text
returns-clause-ok c =
    let header : c.put_two.new.self ≡ to_be_bytes w64 c.args.number ++ to_be_bytes w32 (length c.args.text.now) = search rules in
    c.in_ok-joined.ensures
    ∙ (c.in_ok-append.ensures.ok
    ∙ (ap (λ xs. xs ++ c.args.text.now) header ∙ append_assoc (to_be_bytes w64 c.args.number) (to_be_bytes w32 (length c.args.text.now)) c.args.text.now))
