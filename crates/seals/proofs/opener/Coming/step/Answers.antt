use Rattle.std.proofs.Common.{◌≡◌, ◌<◌, ◌++◌, ℕ, List, length, take, drop, refl, sym, ap, ◌∙◌, subst, arith}
use Rattle.std.proofs.lemmas.List.{append_assoc, take-append-drop, length-take}
use Rattle.std.proofs.lemmas.Result.{err_from_is_err_and}
use Rattle.seals.specs.declared.fault.SealFault.{SealFault}
use Rattle.seals.specs.declared.fault.SealFault.TheVariants.{TooLong}
use Rattle.seals.specs.Frame.{IsPartOfFrame, HasWholeFrame, HasLongPiece, IsEndFor}
use Rattle.seals.proofs.FrameLemmas.{IsEndFor-append, part_more, whole_more}
use Rattle.seals.proofs.opener.Coming.step.Goals as goal

-- what was taken and what was not are all
all_of : (kept unread now : List ℕ) (n : ℕ) → now ≡ kept ++ take n unread → kept ++ unread ≡ now ++ drop n unread
all_of kept unread now n e =
    ap (λ xs. kept ++ xs) (sym (take-append-drop n unread)) ∙ (sym (append_assoc kept (take n unread) (drop n unread)) ∙ ap (λ xs. xs ++ drop n unread) (sym e))

ends_all : (fault : SealFault) (key : List ℕ) (number : ℕ) (kept unread now : List ℕ) (n : ℕ) → now ≡ kept ++ take n unread → IsEndFor fault key number now → IsEndFor fault key number (kept ++ unread)
ends_all fault key number kept unread now n e h = subst (IsEndFor fault key number) (sym (all_of kept unread now n e)) (IsEndFor-append fault key number now (drop n unread) h)

pub returns-then-n-missing-clause-ok : goal.returns-then-n-missing-clause-ok
returns-then-n-missing-clause-ok c =
    let kept : List ℕ = c.args.self.now.bytes.items in
    let taken : List ℕ = take c.min-n.result c.args.unread.now in
    let now : c.extend_from_slice.new.self.items ≡ kept ++ taken = c.in_ok-extend_from_slice.ensures.items ∙ ap (λ xs. kept ++ xs) c.split_at.ensures.front in
    let few : length taken < c.missing_in-missing.result = omega (arith, length-take c.min-n.result c.args.unread.now) in
    let missing = rw c.as_slice.ensures.value at c.missing_in-missing.ensures in
    record {
      some = omega (arith, c.missing_in-missing.ensures.some, c.requires.some, c.min-n.ensures);
      there = omega (arith, c.min-n.ensures);
      next_is = refl;
      now_is = now;
      part = subst IsPartOfFrame (sym now) (part_more kept taken c.missing_in-missing.result c.requires.part missing.to_length missing.to_end few);
    }

pub returns-in_err-check_length-clause-err : goal.returns-in_err-check_length-clause-err
returns-in_err-check_length-clause-err c =
    let kept : List ℕ = c.args.self.now.bytes.items in
    let taken : List ℕ = take c.min-n.result c.args.unread.now in
    let now : c.extend_from_slice.new.self.items ≡ kept ++ taken = c.in_ok-extend_from_slice.ensures.items ∙ ap (λ xs. kept ++ xs) c.split_at.ensures.front in
    let p = err_from_is_err_and c.from_residual-in_err-check_length.result c.from_residual-in_err-check_length.ensures.1 in
    let err = c.in_err-check_length.ensures.err in
    let long = subst HasLongPiece c.as_slice-then-len-eq-LENGTH_BYTES.ensures.value err.1 in
    rw (p.1, p.2, err.0) (ends_all TooLong c.args.key.now c.args.self.now.number kept c.args.unread.now c.extend_from_slice.new.self.items c.min-n.result now long)

pub end_frame-requires : goal.end_frame-requires
end_frame-requires c =
    let kept : List ℕ = c.args.self.now.bytes.items in
    let taken : List ℕ = take c.min-n.result c.args.unread.now in
    let now : c.extend_from_slice.new.self.items ≡ kept ++ taken = c.in_ok-extend_from_slice.ensures.items ∙ ap (λ xs. kept ++ xs) c.split_at.ensures.front in
    let all : length taken ≡ c.missing_in-missing.result = omega (arith, length-take c.min-n.result c.args.unread.now, c.min-n.ensures) in
    let missing = rw c.as_slice.ensures.value at c.missing_in-missing.ensures in
    subst HasWholeFrame (sym now) (whole_more kept taken c.missing_in-missing.result c.requires.part missing.to_length missing.to_end all
    (λ e. absurd (omega (arith, e, ap length now, c.extend_from_slice.new.self.ok.0, c.len.ensures))))

pub returns-in_err-piece-clause-err : goal.returns-in_err-piece-clause-err
returns-in_err-piece-clause-err c =
    let kept : List ℕ = c.args.self.now.bytes.items in
    let taken : List ℕ = take c.min-n.result c.args.unread.now in
    let now : c.extend_from_slice.new.self.items ≡ kept ++ taken = c.in_ok-extend_from_slice.ensures.items ∙ ap (λ xs. kept ++ xs) c.split_at.ensures.front in
    let p = err_from_is_err_and c.from_residual-in_err-piece.result c.from_residual-in_err-piece.ensures.1 in
    rw (p.1, p.2) (ends_all c.in_err-piece.field-0.0 c.args.key.now c.args.self.now.number kept c.args.unread.now c.extend_from_slice.new.self.items c.min-n.result now c.in_err-piece.ensures.err)
