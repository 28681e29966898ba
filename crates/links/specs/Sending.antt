-- The letters of a lane to one peer.
use Rattle.std.specs.Prelude.{◌≡◌, ℕ, ◌+◌, ◌-◌, ◌^◌, ◌<◌, ◌≤◌, max, List, [], ◌∷◌, ◌++◌, length, drop, Option, Some, None, All, slice_get, sum_by}
use Rattle.links.specs.declared.bounds.LaneBounds.{LaneBounds}
use Rattle.links.specs.Numbered.{Numbered}

pub record SendingView : Type 0 where
  pub bounds : LaneBounds
  -- the life of the peer that the numbers are for
  pub peer_life : ℕ
  -- the number of the last letter that was acknowledged
  pub acknowledged : ℕ
  -- the number of the last letter that was handed out on this connection, or acknowledged
  pub said : ℕ
  -- the highest number under which a letter was handed out on any connection, or acknowledged
  pub reached : ℕ
  -- the letters that are not acknowledged, in order: the first one has the number after `acknowledged`
  pub held : List (List ℕ)
  -- how many letters were refused
  pub lost : ℕ

-- how many bytes letters have together
abbrev pub bytes_held : List (List ℕ) → ℕ
bytes_held letters = sum_by (λ (letter : List ℕ). length letter) letters

-- the number of the last letter that is held
abbrev pub last_number : SendingView → ℕ
last_number s = s.acknowledged + length s.held

-- what always holds: the numbers are in order, and what is held is within the bounds
pub record IsSending (s : SendingView) : Type 0 where
  pub acknowledged : s.acknowledged ≤ s.said
  pub said : s.said ≤ s.reached
  pub reached : s.reached ≤ last_number s
  pub numbered : last_number s < 2 ^ 64
  pub letters : length s.held ≤ s.bounds.most_letters
  pub bytes : bytes_held s.held ≤ s.bounds.most_bytes
  pub each : All (λ (letter : List ℕ). length letter ≤ s.bounds.most_letter_bytes) s.held

-- one more letter of so many bytes may be held
pub record HasRoomFor (s : SendingView) (size : ℕ) : Type 0 where
  pub letters : length s.held < s.bounds.most_letters
  pub bytes : bytes_held s.held + size ≤ s.bounds.most_bytes

-- no letter was pushed, and no life of the peer was seen
abbrev pub new_sending : LaneBounds → SendingView
new_sending bounds = record { bounds = bounds; peer_life = 0; acknowledged = 0; said = 0; reached = 0; held = []; lost = 0 }

-- one more letter is held
abbrev pub with_letter : List ℕ → SendingView → SendingView
with_letter letter s = record s { held = s.held ++ letter ∷ [] }

-- the first letter that was neither handed out on this connection nor acknowledged, with its number
abbrev pub IsNextToHandOut : SendingView → Numbered → Type 0
IsNextToHandOut s x = (x.0 ≡ s.said + 1) × (slice_get s.held (s.said - s.acknowledged) ≡ Some x.1)

-- the letter of this number was handed out
abbrev pub with_said : ℕ → SendingView → SendingView
with_said n s = record s { said = n; reached = max s.reached n }

-- the next letter is handed out, or there is none
abbrev pub HandsOutNext : SendingView → Option Numbered → SendingView → Type 0
HandsOutNext old None new = (new ≡ old) × (old.said ≡ last_number old)
HandsOutNext old (Some x) new = IsNextToHandOut old x × (new ≡ with_said x.0 old)

-- the letters up to this number were acknowledged, and are let go
abbrev pub with_acknowledged : ℕ → SendingView → SendingView
with_acknowledged n s = record s { acknowledged = max s.acknowledged n; said = max s.said n; held = drop (n - s.acknowledged) s.held }

-- nothing was handed out on this connection
abbrev pub on_new_connection : SendingView → SendingView
on_new_connection s = record s { said = s.acknowledged }

-- what is held is numbered from 1, and nothing was handed out in this life of the peer
abbrev pub for_new_life : ℕ → SendingView → SendingView
for_new_life peer_life s = record s { peer_life = peer_life; acknowledged = 0; said = 0; reached = 0 }
