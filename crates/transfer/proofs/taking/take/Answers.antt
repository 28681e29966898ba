use Rattle.std.proofs.Common.{◌≡◌, true, false, not, Some, sym, ap, ◌∙◌, rules, arith}
use Rattle.std.proofs.lemmas.Result.{err_from_is_err_and}
use Rattle.std.specs.Str.{bytes_eq}
use Rattle.states.specs.State.{with_token}
use Rattle.states.specs.Parts.{parts_of}
use Rattle.states.proofs.RecordLemmas.{same_not_true}
use Rattle.items.specs.Map.{Items}
use Rattle.sessions.specs.Fresh.{Replies}
use Rattle.pages.specs.Form.{fits_form, layout_of}
use Rattle.states.specs.declared.origin.Origin.{Origin}
use Rattle.states.specs.declared.state.Parts.{Parts}
use Rattle.transfer.specs.Parcel.{IsParcel, parcel_state, makes_state}
use Rattle.transfer.proofs.TakeLemmas.{taken, of_other_number, of_other_form, of_other_token, same_token}
use Rattle.transfer.proofs.taking.take.Goals as goal

-- parts whose pages are in the layout of their form
laid_so : (parts : Parts) (origin : Origin) (sessions : Replies) (items : Items) → parts ≡ record { origin = origin; sessions = sessions; pages = record { items = items; layout = layout_of origin.form } }
    → parts.pages.layout ≡ layout_of parts.origin.form
laid_so parts origin sessions items same = ap (λ (p : Parts). p.pages.layout) same ∙ sym (ap (λ (p : Parts). layout_of p.origin.form) same)

pub fits_form-requires : goal.fits_form-requires
fits_form-requires c = laid_so c.in_ok-parts.parts _ _ _ c.in_ok-parts.ensures

pub returns-then-not-fits_form-clause-refused : goal.returns-then-not-fits_form-clause-refused
returns-then-not-fits_form-clause-refused c =
    let same : fits_form c.in_ok-parts.parts.origin.form c.in_ok-parts.parts.pages.items ≡ makes_state c.args.own.now.items c.args.parcel = ap (λ (p : Parts). fits_form p.origin.form p.pages.items) c.in_ok-parts.ensures in
    of_other_form c.args.own.now.items c.args.parcel c.args.n c.args.token.now (λ does.
    let clash : true ≡ false = sym does ∙ (sym same ∙ (sym c.fits_form.ensures ∙ c.if-not-fits_form.true)) in
    cc clash)

pub of_parts-committed-requires : goal.of_parts-committed-requires
of_parts-committed-requires c =
    let number : c.in_ok-parts.parts.origin.number ≡ c.args.parcel.origin.number = ap (λ (p : Parts). p.origin.number) c.in_ok-parts.ensures in
    let is : IsParcel c.args.parcel = c.is_parcel.ensures in
    record { number = (omega (arith, number, is.later), omega (arith, number, is.few)); form = sym c.fits_form.ensures ∙ c.if-not-fits_form.false; laid = laid_so c.in_ok-parts.parts _ _ _ c.in_ok-parts.ensures }

pub returns-then-ne-clause-refused : goal.returns-then-ne-clause-refused
returns-then-ne-clause-refused c =
    let made : c.of_parts-committed.result.state ≡ parcel_state c.args.own.now.items c.args.parcel = ap (λ x. x.state) c.of_parts-committed.ensures ∙ ap (λ p. with_token (parts_of p)) c.in_ok-parts.ensures in
    let token : c.token.result ≡ (parcel_state c.args.own.now.items c.args.parcel).token = c.token.ensures ∙ ap (λ s. s.token) (c.state.ensures ∙ made) in
    let other : not (bytes_eq c.token.result.0 c.args.token.now.0) ≡ true = sym c.ne.ensures ∙ c.if-ne.true in
    of_other_token c.args.own.now.items c.args.parcel c.args.n c.args.token.now (λ e. same_not_true c.token.result.0 c.args.token.now.0 (ap (λ t. t.0) (token ∙ e)) other)

pub returns-clause-taken : goal.returns-clause-taken
returns-clause-taken c =
    let made : c.of_parts-committed.result.state ≡ parcel_state c.args.own.now.items c.args.parcel = ap (λ x. x.state) c.of_parts-committed.ensures ∙ ap (λ p. with_token (parts_of p)) c.in_ok-parts.ensures in
    let token : c.token.result ≡ (parcel_state c.args.own.now.items c.args.parcel).token = c.token.ensures ∙ ap (λ s. s.token) (c.state.ensures ∙ made) in
    let fits : makes_state c.args.own.now.items c.args.parcel ≡ true = sym (ap (λ (p : Parts). fits_form p.origin.form p.pages.items) c.in_ok-parts.ensures) ∙ (sym c.fits_form.ensures ∙ c.if-not-fits_form.false) in
    let number : c.args.parcel.origin.number ≡ c.args.n = search rules in (
      taken c.args.own.now.items c.args.parcel c.args.n c.args.token.now number fits (sym token ∙ same_token c.token.result c.args.token.now (sym c.ne.ensures ∙ c.if-ne.false)) ∙ ap (λ s. Some s) (sym made),
      ap (λ x. x.replies) c.of_parts-committed.ensures,
    )

pub returns-then-number-n-clause-refused : goal.returns-then-number-n-clause-refused
returns-then-number-n-clause-refused c = of_other_number c.args.own.now.items c.args.parcel c.args.n c.args.token.now (λ e. c.if-number-n.true (c.number.ensures ∙ e))

pub returns-in_err-parts-clause-refused : goal.returns-in_err-parts-clause-refused
returns-in_err-parts-clause-refused c =
    let p = err_from_is_err_and c.from_residual.result c.from_residual.ensures.1 in
    rw (p.1, p.2) tt
