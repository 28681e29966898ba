-- No text of what a letter says is the start of another one's. If number and reply are not there, no reply is behind its
-- mark.
use Rattle.std.proofs.Common.{◌≡◌, ℕ, List, ◌∷◌, ◌++◌, refl, ap}
use Rattle.std.specs.Prelude.{nat_eq}
use Rattle.std.specs.Int.{w64}
use Rattle.base.specs.declared.fault.Fault.{Fault}
use Rattle.proto.specs.declared.reply.Reply.{Reply}
use Rattle.wire.specs.Record.{IsPrefixFree, NoPrefix, Refused}
use Rattle.wire.specs.Number.{num}
use Rattle.wire.specs.CommandLaws.{request_prefix_free}
use Rattle.wire.specs.BatchLaws.{batch_prefix_free}
use Rattle.wire.specs.Reply.{reply_record}
use Rattle.wire.specs.ReplyLaws.{reply_prefix_free}
use Rattle.wire.specs.FrontLaws.{tail_of, head_of, Passes}
use Rattle.wire.specs.RowLaws.{u64_free, followed}
use Rattle.transfer.specs.NeedProofs.{need_prefix_free}
use Rattle.transfer.specs.ParcelProofs.{parcel_prefix_free}
use Rattle.exec_lines.specs.declared.body.Body.{Body}
use Rattle.exec_lines.specs.declared.body.Body.TheVariants as body
use Rattle.letters.specs.Letter.{letter_body_text, BodyFits}
use Rattle.letters.proofs.Marks.{none_behind, marks_apart}
use Rattle.letters.proofs.BallotLemmas.{ballot_prefix_free}

abbrev body_mark : Body → ℕ
body_mark (body.Want _) = 0
body_mark (body.Order _) = 1
body_mark (body.Reply _ _) = 2
body_mark (body.Need _) = 3
body_mark (body.Parcel _) = 4
body_mark (body.Ballot _) = 5

body_begins : (b : Body) (rest : List ℕ) → head_of (letter_body_text b ++ rest) ≡ body_mark b
body_begins (body.Want _) rest = refl
body_begins (body.Order _) rest = refl
body_begins (body.Reply _ _) rest = refl
body_begins (body.Need _) rest = refl
body_begins (body.Parcel _) rest = refl
body_begins (body.Ballot _) rest = refl

-- number and reply
abbrev answer_row : ℕ × Reply → List ℕ
answer_row p = num w64 p.0 ++ reply_record p.1

answer_row_free : IsPrefixFree answer_row
answer_row_free = followed u64_free reply_prefix_free

body_alike : (v w : Body) (r s : List ℕ) → Passes (nat_eq (body_mark v) (body_mark w)) → letter_body_text v ++ r ≡ letter_body_text w ++ s → (v ≡ w) × (r ≡ s)
body_alike (body.Want x) (body.Want y) r s h e =
    let both = request_prefix_free.apart x y r s (tail_of 0 0 _ _ e) in
    (ap body.Want both.0, both.1)
body_alike (body.Order x) (body.Order y) r s h e =
    let both = batch_prefix_free.apart x y r s (tail_of 1 1 _ _ e) in
    (ap body.Order both.0, both.1)
body_alike (body.Reply number reply) (body.Reply number' reply') r s h e =
    let both = answer_row_free.apart (number, reply) (number', reply') r s (tail_of 2 2 _ _ e) in
    ((λ i. body.Reply (both.0 i).0 (both.0 i).1), both.1)
body_alike (body.Need x) (body.Need y) r s h e =
    let both = need_prefix_free.apart x y r s (tail_of 3 3 _ _ e) in
    (ap body.Need both.0, both.1)
body_alike (body.Parcel x) (body.Parcel y) r s h e =
    let both = parcel_prefix_free.apart x y r s (tail_of 4 4 _ _ e) in
    (ap body.Parcel both.0, both.1)
body_alike (body.Ballot x) (body.Ballot y) r s h e =
    let both = ballot_prefix_free.apart x y r s (tail_of 5 5 _ _ e) in
    (ap body.Ballot both.0, both.1)
body_alike _ _ r s h e = absurd h

pub body_prefix_free : IsPrefixFree letter_body_text
body_prefix_free = marks_apart letter_body_text body_mark body_begins body_alike

abbrev AnswerFits : ℕ × Reply → Type 0
AnswerFits p = Unit {0} × Unit {0}

reply_here : (bytes : List ℕ) (b : Body) (rest : List ℕ) → BodyFits b → Passes (nat_eq (body_mark b) 2) → 2 ∷ bytes ≡ letter_body_text b ++ rest → NoPrefix AnswerFits answer_row bytes → ⊥
reply_here bytes (body.Reply number reply) rest f h e none = none.none (number, reply) rest (tt, tt) (tail_of 2 2 _ _ e)
reply_here bytes _ rest f h e none = absurd h

pub no_reply : (bytes : List ℕ) (e : Fault) → Refused e (NoPrefix AnswerFits answer_row bytes) → Refused e (NoPrefix BodyFits letter_body_text (2 ∷ bytes))
no_reply bytes = none_behind letter_body_text body_mark body_begins BodyFits AnswerFits answer_row 2 bytes (reply_here bytes)
