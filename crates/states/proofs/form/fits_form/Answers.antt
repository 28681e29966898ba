use Rattle.std.proofs.Common.{Bool, sym, ap, ◌∙◌, inl, inr}
use Rattle.std.specs.Prelude.{◌&&◌}
use Rattle.std.proofs.lemmas.Bool.{cases_Bool, false≢true}
use Rattle.token.specs.declared.form.Form.TheVariants.{Old}
use Rattle.token.specs.declared.form.Form.{Form}
use Rattle.pages.specs.Form.{fits_form}
use Rattle.pages.proofs.FormLemmas.{tests_old, old_texts}
use Rattle.states.proofs.form.fits_form.Goals as goal

pub returns-then-has_old_texts : goal.returns-then-has_old_texts
returns-then-has_old_texts c =
    ap (λ (b : Bool). b && c.has_data_within.result) (sym c.if-has_old_texts.true)
    ∙ tests_old c.args.pages.now.items c.has_old_texts.result c.has_data_within.result c.has_old_texts.ensures c.has_data_within.ensures
    ∙ ap (λ (f : Form). fits_form f c.args.pages.now.items) (sym c.in-Old.is)

pub returns-else-has_old_texts : goal.returns-else-has_old_texts
returns-else-has_old_texts c =
    elim (cases_Bool (fits_form Old c.args.pages.now.items)) [
      | inl fits ↦ absurd (false≢true (sym c.if-has_old_texts.false ∙ c.has_old_texts.ensures.1 (old_texts c.args.pages.now.items fits)))
      | inr unfit ↦ c.if-has_old_texts.false ∙ sym unfit ∙ ap (λ (f : Form). fits_form f c.args.pages.now.items) (sym c.in-Old.is)
    ]
