use Rattle.std.proofs.Common.{◌≡◌, ◌+◌, ◌≤◌, ◌<◌, ◌++◌, ℕ, List, length, take, drop, sym, ap, ◌∙◌, subst, arith}
use Rattle.std.proofs.lemmas.List.{append_assoc, take-append-drop, length-take}
use Rattle.std.proofs.lemmas.Result.{err_from_is_err_and}
use Rattle.links.specs.declared.message_fault.MessageFault.{MessageFault}
use Rattle.links.specs.declared.message_fault.MessageFault.TheVariants.{TooLong}
use Rattle.links.specs.declared.message.TheConstants.{HEADER_BYTES}
use Rattle.links.specs.Message.{said_size, HasLongText, EndsReading}
use Rattle.links.proofs.MessageLemmas.{EndsReading-append, no_more}
use Rattle.links.proofs.ReadingLemmas.{some_missing, message_comes}
use Rattle.links.proofs.message_reader.step.Goals as goal

-- what was taken and what was not are all
all_of : (kept unread now : List ℕ) (n : ℕ) → now ≡ kept ++ take n unread → kept ++ unread ≡ now ++ drop n unread
all_of kept unread now n e =
    ap (λ xs. kept ++ xs) (sym (take-append-drop n unread)) ∙ (sym (append_assoc kept (take n unread) (drop n unread)) ∙ ap (λ xs. xs ++ drop n unread) (sym e))

ends_all : (fault : MessageFault) (most : ℕ) (kept unread now : List ℕ) (n : ℕ) → now ≡ kept ++ take n unread → EndsReading fault most now → EndsReading fault most (kept ++ unread)
ends_all fault most kept unread now n e h = subst (EndsReading fault most) (sym (all_of kept unread now n e)) (EndsReading-append fault most now (drop n unread) h)

pub returns-in_err-size-clause-err : goal.returns-in_err-size-clause-err
returns-in_err-size-clause-err c =
    let kept : List ℕ = c.args.coming.now.items in
    let now : c.extend_from_slice.new.self.items ≡ kept ++ take c.min-n.result c.args.unread.now = c.in_ok-extend_from_slice.ensures.items ∙ ap (λ xs. kept ++ xs) c.split_at.ensures.front in
    let p = err_from_is_err_and c.from_residual-in_err-size.result c.from_residual-in_err-size.ensures.1 in
    let err = c.in_err-size.ensures.err in
    let long = subst (HasLongText c.args.most) c.as_slice-2.ensures.value err.1 in
    rw (p.1, p.2, err.0) (ends_all TooLong c.args.most kept c.args.unread.now c.extend_from_slice.new.self.items c.min-n.result now long)

-- no more bytes were taken than the message has
pub message_in-requires : goal.message_in-requires
message_in-requires c =
    let kept : List ℕ = c.args.coming.now.items in
    let taken : List ℕ = take c.min-n.result c.args.unread.now in
    let now : c.extend_from_slice.new.self.items ≡ kept ++ taken = c.in_ok-extend_from_slice.ensures.items ∙ ap (λ xs. kept ++ xs) c.split_at.ensures.front in
    let missing = rw c.as_slice.ensures.value at c.missing_in.ensures in
    let few : length taken ≤ c.missing_in.result = omega (arith, length-take c.min-n.result c.args.unread.now, c.min-n.ensures) in
    let most = no_more kept taken c.missing_in.result missing.to_header missing.to_end (λ there. (c.requires.part there).1) few in
    let short : length c.extend_from_slice.new.self.items ≤ HEADER_BYTES + said_size c.extend_from_slice.new.self.items = subst (λ xs. length xs ≤ HEADER_BYTES + said_size xs) (sym now) most in
    let size : c.in_ok-size.size ≡ said_size c.extend_from_slice.new.self.items = c.in_ok-size.ensures.ok.0 ∙ ap said_size c.as_slice-2.ensures.value in
    let whole : length c.extend_from_slice.new.self.items ≡ HEADER_BYTES + said_size c.extend_from_slice.new.self.items = omega (arith, short, size, c.if-len-size.false, c.len-2.ensures, c.extend_from_slice.new.self.ok.0) in
    subst (λ xs. length xs ≡ HEADER_BYTES + said_size xs) (sym c.as_slice-3.ensures.value) whole

pub returns-clause-ok : goal.returns-clause-ok
returns-clause-ok c =
    let kept : List ℕ = c.args.coming.now.items in
    let now : c.extend_from_slice.new.self.items ≡ kept ++ take c.min-n.result c.args.unread.now = c.in_ok-extend_from_slice.ensures.items ∙ ap (λ xs. kept ++ xs) c.split_at.ensures.front in
    let missing = rw c.as_slice.ensures.value at c.missing_in.ensures in
    let some : 0 < c.min-n.result = omega (arith, c.min-n.ensures, c.requires.some, some_missing c.args.most kept c.missing_in.result c.requires.part missing.to_header missing.to_end) in
    let size : c.in_ok-size.size ≡ said_size c.extend_from_slice.new.self.items = c.in_ok-size.ensures.ok.0 ∙ ap said_size c.as_slice-2.ensures.value in
    let long : length c.in_ok-message.message.1 ≡ said_size c.extend_from_slice.new.self.items = c.in_ok-message.ensures.size ∙ ap said_size c.as_slice-3.ensures.value in
    message_comes c.args.most kept c.args.unread.now c.extend_from_slice.new.self.items c.min-n.result some (omega (arith, c.min-n.ensures)) now c.in_ok-message.message c.clear.new.self.items
    (sym c.as_slice-3.ensures.value ∙ c.in_ok-message.ensures.text) (record {
      number = c.in_ok-message.ensures.number;
      within = omega (arith, long, size, c.in_ok-size.ensures.ok.1);
      sized = omega (arith, long, size, c.in_ok-size.ensures.ok.2);
    }) c.clear.ensures.items
