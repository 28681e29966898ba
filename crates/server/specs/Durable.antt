-- What is saved of a service, and what leaves it: nothing before a record of that moment, or of a later one, is saved.
use Rattle.std.specs.Prelude.{◌≡◌, ◌⊎◌, ℕ, List, [], ◌++◌, Option, None, Some}
use Rattle.loop_messages.specs.declared.message.Said.{Said}
use Rattle.service.specs.Service.{ServiceView}
use Rattle.service.specs.Record.{RecordView, kept_in}
use Rattle.service.specs.Process.{kept_service}
use Rattle.server.specs.Answering.{AnsweringView, DoesWhatIsDue}

-- ---- what another process finds

-- what it finds is a text of this record
abbrev pub IsFoundOf : (RecordView → List ℕ → Type 0) → RecordView → Option (List ℕ) → Type 0
IsFoundOf is_text kept None = ⊥
IsFoundOf is_text kept (Some text) = is_text kept text

-- What it finds is a text of what is kept of the service if its process ends now.
pub record IsOfMoment (is_text : RecordView → List ℕ → Type 0) (v : ServiceView) (found : Option (List ℕ)) : Type 0 where
  pub kept : RecordView
  pub of_moment : kept_in v.connections.dialect kept ≡ kept_service v
  pub is_found : IsFoundOf is_text kept found

-- whatever it may find is of this moment
abbrev pub IsSavedNow : (RecordView → List ℕ → Type 0) → (Option (List ℕ) → Type 0) → ServiceView → Type 0
IsSavedNow is_text may_find v = (found : Option (List ℕ)) → may_find found → IsOfMoment is_text v found

-- whatever it may find now it might find before, or it is of this moment
abbrev pub MayBeSavedNow : (RecordView → List ℕ → Type 0) → (Option (List ℕ) → Type 0) → (Option (List ℕ) → Type 0) → ServiceView → Type 0
MayBeSavedNow is_text before now v = (found : Option (List ℕ)) → now found → before found ⊎ IsOfMoment is_text v found

-- ---- what leaves

-- Nothing leaves. What another process may find it might find before, or it is of the moment before or after this work.
pub record LeavesNothing (is_text : RecordView → List ℕ → Type 0) (before may_find : Option (List ℕ) → Type 0) (v now : ServiceView) (out : List Said) : Type 0 where
  pub nothing : out ≡ []
  pub found : (found : Option (List ℕ)) → may_find found → before found ⊎ (IsOfMoment is_text v found ⊎ IsOfMoment is_text now found)

-- What was held before this work leaves, and whatever another process may find is of that moment.
pub record LeavesHeld (is_text : RecordView → List ℕ → Type 0) (may_find : Option (List ℕ) → Type 0) (v : ServiceView) (held out : List Said) : Type 0 where
  pub all : out ≡ held
  pub saved : IsSavedNow is_text may_find v

-- All that is held leaves, and whatever another process may find then is of this moment; or nothing leaves.
pub record LeavesSaved (is_text : RecordView → List ℕ → Type 0) (may_find : Option (List ℕ) → Type 0) (v : ServiceView) (held out rest : List Said) : Type 0 where
  pub all : out ≡ held
  pub none : rest ≡ []
  pub saved : IsSavedNow is_text may_find v

pub record KeepsAll (is_text : RecordView → List ℕ → Type 0) (before may_find : Option (List ℕ) → Type 0) (v : ServiceView) (held out rest : List Said) : Type 0 where
  pub nothing : out ≡ []
  pub all : rest ≡ held
  pub saved : MayBeSavedNow is_text before may_find v

abbrev pub ReleasesHeld : (RecordView → List ℕ → Type 0) → (Option (List ℕ) → Type 0) → (Option (List ℕ) → Type 0) → ServiceView → List Said → List Said → List Said → Type 0
ReleasesHeld is_text before may_find v held out rest = LeavesSaved is_text may_find v held out rest ⊎ KeepsAll is_text before may_find v held out rest

-- Nothing leaves; or what was held before, and whatever another process may find is of that moment; or more, and whatever it
-- may find is of the moment after this work.
abbrev pub Releases : (RecordView → List ℕ → Type 0) → (Option (List ℕ) → Type 0) → (Option (List ℕ) → Type 0) → ServiceView → List Said → List Said → ServiceView → Type 0
Releases is_text before may_find v held out now =
    LeavesNothing is_text before may_find v now out ⊎ (LeavesHeld is_text may_find v held out ⊎ IsSavedNow is_text may_find now)

-- The service works at this moment, or it is as it was. What leaves, what is held then and what is said behind it is what was
-- held and said, in order.
pub record HandsOutSaved (is_text : RecordView → List ℕ → Type 0) (before may_find : Option (List ℕ) → Type 0) (moment : ℕ) (v : AnsweringView) (held out : List Said) (now : AnsweringView) (rest : List Said) : Type 0 where
  pub ran : AnsweringView
  pub works : DoesWhatIsDue moment v ran ⊎ (ran ≡ v)
  pub service : now.service ≡ ran.service
  pub in_order : out ++ (rest ++ now.said) ≡ held ++ ran.said
  pub releases : Releases is_text before may_find v.service held out now.service
