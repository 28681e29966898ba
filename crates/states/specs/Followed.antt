-- The state that a batch makes of another.
use Rattle.std.specs.Prelude.{◌≡◌, ℕ, max, length, nat_le, if◌then◌else◌}
use Rattle.std.specs.FinMap.{entries}
use Rattle.items.specs.Map.{Items, alive}
use Rattle.sessions.specs.Fresh.{Replies}
use Rattle.batches.specs.declared.batch.Batch.{Batch}
use Rattle.wire.specs.Batch.{batch_text}
use Rattle.wire.specs.Session.{SessionsFit}
use Rattle.token.specs.declared.form.Form.{Form}
use Rattle.token.specs.declared.form.Form.TheVariants.{Current, Tree}
use Rattle.token.specs.Digest.{digest}
use Rattle.pages.specs.Form.{FitForm}
use Rattle.states.specs.declared.form.TheConstants.{FEW_ITEMS}
use Rattle.states.specs.State.{StateView, with_token}

-- the greater of the two moments
abbrev pub moment_of : StateView → Batch → ℕ
moment_of old batch = max batch.moment old.moment

-- the state of a form that a batch makes of another, with its token
abbrev pub state_after_in : Form → StateView → Batch → Replies → Items → StateView
state_after_in form old batch sessions items = with_token (record {
  form = form;
  number = batch.n;
  previous = old.token;
  epoch = batch.epoch;
  batch = digest (batch_text batch);
  moment = moment_of old batch;
  token = old.token;
  sessions = sessions;
  items = items;
})

-- the form of a state that a batch makes over these items: their number decides, when what is due is gone
abbrev pub form_over : Items → Form
form_over m = if nat_le (length (entries m)) FEW_ITEMS then Current else Tree

abbrev pub form_after : StateView → Batch → Form
form_after old batch = form_over (alive old.items (moment_of old batch))

-- the state that a batch makes of another today
abbrev pub state_after : StateView → Batch → Replies → Items → StateView
state_after old batch sessions items = state_after_in (form_after old batch) old batch sessions items

-- A state that the batch makes of another, today or in an older program, whose sessions have a text.
pub record IsSuccessor (old : StateView) (batch : Batch) (s : StateView) : Type 0 where
  pub is : s ≡ state_after_in s.form old batch s.sessions s.items
  pub sessions_fit : SessionsFit s.sessions
  pub form_fit : FitForm s.form s.items
