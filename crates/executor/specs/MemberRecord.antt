-- The record of a tentative state, as a member of a chain.
use Rattle.std.specs.Prelude.{ℕ, List, ◌≡◌, ◌++◌}
use Rattle.wire.specs.Batch.{batch_text}
use Rattle.states.specs.declared.version.Version.{Version}
use Rattle.states.specs.declared.version.Version.TheVariants.{Second}
use Rattle.states.specs.Version.{after_text_in}
use Rattle.executor.specs.Work.{TentativeView}
use Rattle.executor.specs.Kept.{IsTentative}

-- the batch, and the state that it led to
abbrev pub member_text_in : Version → TentativeView → List ℕ
member_text_in version t = batch_text t.batch ++ after_text_in version t.before.items t.after

-- what is written
abbrev pub member_text : TentativeView → List ℕ
member_text t = member_text_in Second t

-- over one state, records tell batches apart, and what they led to
abbrev pub OneMember : Type 0
OneMember = (t u : TentativeView) → t.before ≡ u.before → member_text t ≡ member_text u → (t.batch ≡ u.batch) × (t.after ≡ u.after)

-- over one state, no record begins another's
abbrev pub WholeMember : Type 0
WholeMember = (t u : TentativeView) (rest others : List ℕ) → t.before ≡ u.before → member_text t ++ rest ≡ member_text u ++ others → (member_text t ≡ member_text u) × (rest ≡ others)

-- a record tells the number and the token of the state that it is over
abbrev pub BaseIsTold : Type 0
BaseIsTold = (t u : TentativeView) → IsTentative t → IsTentative u → member_text t ≡ member_text u → (t.before.number ≡ u.before.number) × (t.before.token ≡ u.before.token)
