-- The state that a batch makes of another.
use Rattle.std.proofs.Common.{◌≡◌, Bool, true, false, length, refl, sym, ap, ◌∙◌, subst}
use Rattle.std.specs.Prelude.{nat_le, if◌then◌else◌}
use Rattle.std.specs.FinMap.{entries}
use Rattle.items.specs.Map.{Items}
use Rattle.sessions.specs.Fresh.{Replies}
use Rattle.batches.specs.declared.batch.Batch.{Batch}
use Rattle.wire.specs.Session.{SessionsFit}
use Rattle.token.specs.declared.form.Form.{Form}
use Rattle.token.specs.declared.form.Form.TheVariants.{Current, Tree}
use Rattle.pages.specs.Form.{FitForm}
use Rattle.states.specs.State.{StateView}
use Rattle.states.specs.Followed.{state_after_in, form_over, IsSuccessor}
use Rattle.states.specs.declared.form.TheConstants.{FEW_ITEMS}

-- a form that is chosen by the number of items suits all items
pub fit_over : (m n : Items) → FitForm (form_over m) n
fit_over m n = by (nat_le (length (entries m)) FEW_ITEMS)
  where
    by : (b : Bool) → FitForm (if b then Current else Tree) n
    by true = refl
    by false = refl

-- the state of a form that a batch makes of another
pub follows_of : (form : Form) (old : StateView) (batch : Batch) (s : StateView) (sessions : Replies) (items : Items) → s ≡ state_after_in form old batch sessions items → SessionsFit s.sessions → FitForm form items → IsSuccessor old batch s
follows_of form old batch s sessions items e fit form_fit =
    let kind : s.form ≡ form = ap (λ (x : StateView). x.form) e in
    let same : s.sessions ≡ sessions = ap (λ (x : StateView). x.sessions) e in
    let all : s.items ≡ items = ap (λ (x : StateView). x.items) e in
    record {
      is = e ∙ (λ i. state_after_in (sym kind i) old batch (sym same i) (sym all i));
      sessions_fit = fit;
      form_fit = transp_fit kind all form_fit;
    }
  where
    transp_fit : {f g : Form} {m n : Items} → f ≡ g → m ≡ n → FitForm g n → FitForm f m
    transp_fit {g = g} {m = m} k a x = subst (λ (h : Form). FitForm h m) (sym k) (subst (λ (o : Items). FitForm g o) (sym a) x)
