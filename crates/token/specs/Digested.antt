-- A digest beside the text that it is of.
use Rattle.std.specs.Prelude.{◌≡◌, ℕ, List, Option, IfSome}
use Rattle.sessions.specs.Fresh.{Replies}
use Rattle.wire.specs.Session.{sessions_text}
use Rattle.token.specs.declared.form.Form.{Form}
use Rattle.token.specs.declared.form.Form.TheVariants.{Old, Current, Tree}
use Rattle.token.specs.Digest.{digest}
use Rattle.token.specs.Told.{told_sessions_text}

-- a digest, and a text if one is kept
abbrev pub DigestedView : Type 0
DigestedView = List ℕ × Option (List ℕ)

-- The digest is that of the text, and what is kept is the text.
pub record IsDigested (text : List ℕ) (digested : DigestedView) : Type 0 where
  pub digest : digested.0 ≡ digest text
  pub kept : IfSome digested.1 (λ bytes. bytes ≡ text)

-- the digest of what is kept of all clients, in a state of this form
abbrev pub sessions_digest : Form → Replies → List ℕ
sessions_digest Old sessions = digest (sessions_text sessions)
sessions_digest Current sessions = digest (sessions_text sessions)
sessions_digest Tree sessions = digest (told_sessions_text sessions)

-- The digest is that of the sessions in such a state, and what is kept is their text.
pub record AreDigested (form : Form) (sessions : Replies) (digested : DigestedView) : Type 0 where
  pub digest : digested.0 ≡ sessions_digest form sessions
  pub kept : IfSome digested.1 (λ bytes. bytes ≡ sessions_text sessions)
