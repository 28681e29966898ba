-- One more write of a text, and the last one.
use Rattle.std.proofs.Common.{◌≡◌, ◌≢◌, refl, ℕ, ◌+◌, ◌-◌, ◌^◌, ◌<◌, ◌≤◌, List, [], ◌∷◌, ◌++◌, length, take, drop, All, Option, Ok, Err, sym, ap, ◌∙◌, subst, inl, inr, arith}
use Rattle.std.specs.List.{FoldsTo}
use Rattle.std.proofs.lemmas.List.{append-nil, take-append-drop, take-take, drop-take}
use Rattle.std.proofs.lemmas.Fn.{FoldsTo-push}
use Rattle.std.specs.Io.KnownBytes.{Appends, Keeps}
use Rattle.std.proofs.KnownBytes.{Appends-trans, Appends-kept}
use Rattle.std.specs.declared.io.ErrorKind.{ErrorKind}
use Rattle.std.specs.declared.io.ErrorKind.TheVariants.{Interrupted}
use Rattle.streams.specs.Writes.{Taken, WritesOn, WritesRest, IsWrittenOut, out}
use Rattle.streams.proofs.Passing.{all_more, length_more}

-- n more bytes are written, which are the next ones
pub take_more : (sent n : ℕ) (text : List ℕ) → take (sent + n) text ≡ take sent text ++ take n (drop sent text)
take_more sent n text = sym (take-append-drop sent (take (sent + n) text))
    ∙ ap (λ xs. xs ++ drop sent (take (sent + n) text)) (take-take sent (sent + n) text (omega arith))
    ∙ ap (λ xs. take sent text ++ xs) (drop-take sent n text)

-- the text so far, of which no write was the last one
pub record IsSoFar {S : Type 0} (takes : S → List ℕ → Taken → S → Type 0) (contents : S → Option (List ℕ)) (text : List ℕ) (before now : S) (sent count : ℕ) : Type 0 where
  pub writes : List Taken
  pub counted : length writes ≡ count
  pub few : sent ≤ length text
  pub made : FoldsTo (WritesRest takes text) (before, 0) writes (now, sent)
  pub went_on : All WritesOn writes
  pub held : Appends (contents before) (contents now) (take sent text)

module _ {S : Type 0} {takes : S → List ℕ → Taken → S → Type 0} {contents : S → Option (List ℕ)} {text : List ℕ} {before now : S} {sent count : ℕ} (far : IsSoFar takes contents text before now sent count) where
  made_more : {after : S} (took : Taken) (next : ℕ) → next ≡ sent + out took → sent < length text → takes now (drop sent text) took after → FoldsTo (WritesRest takes text) (before, 0) (far.writes ++ took ∷ []) (after, next)
  made_more {after} took next one some step = FoldsTo-push (WritesRest takes text) (before, 0) far.writes (now, sent) took (after, next) far.made (some, step, one)

  -- some bytes went out
  pub one_write : {after : S} (n : ℕ) → 0 < n → sent + n ≤ length text → sent < length text → takes now (drop sent text) (Ok n) after → Appends (contents now) (contents after) (take n (drop sent text)) → IsSoFar takes contents text before after (sent + n) (count + 1)
  one_write {after} n any few some step held = record {
    writes = far.writes ++ Ok n ∷ [];
    counted = length_more far.writes (Ok n) count far.counted;
    few = few;
    made = made_more (Ok n) (sent + n) refl some step;
    went_on = all_more WritesOn far.writes (Ok n) far.went_on any;
    held = subst (Appends (contents before) (contents after)) (sym (take_more sent n text)) (Appends-trans (contents before) (contents now) (contents after) (take sent text) (take n (drop sent text)) far.held held);
  }

  -- a write was interrupted
  pub one_interrupted : {after : S} (kind : ErrorKind) → WritesOn (Err kind) → sent < length text → takes now (drop sent text) (Err kind) after → Keeps (contents now) (contents after) → IsSoFar takes contents text before after sent (count + 1)
  one_interrupted {after} kind goes_on some step kept = record {
    writes = far.writes ++ Err kind ∷ [];
    counted = length_more far.writes (Err kind) count far.counted;
    few = far.few;
    made = made_more (Err kind) sent (omega arith) some step;
    went_on = all_more WritesOn far.writes (Err kind) far.went_on goes_on;
    held = Appends-kept (contents before) (contents now) (contents after) (take sent text) far.held kept;
  }

  -- all went out
  pub all_out : sent ≡ length text → IsWrittenOut takes before now text (Ok tt)
  all_out all = record {
    writes = far.writes;
    last = [];
    sent = sent;
    made = subst (λ writes. FoldsTo (WritesRest takes text) (before, 0) writes (now, sent)) (sym (append-nil far.writes)) far.made;
    went_on = far.went_on;
    ended = (refl, all);
  }

  -- a write took nothing
  pub none_taken : {after : S} → sent < length text → takes now (drop sent text) (Ok 0) after → IsWrittenOut takes before after text (Err sent)
  none_taken some step = record {
    writes = far.writes;
    last = Ok 0 ∷ [];
    sent = sent;
    made = made_more (Ok 0) sent (omega arith) some step;
    went_on = far.went_on;
    ended = (inl refl, refl);
  }

  -- a write failed
  pub failed : {after : S} (kind : ErrorKind) → kind ≢ Interrupted → sent < length text → takes now (drop sent text) (Err kind) after → IsWrittenOut takes before after text (Err sent)
  failed kind other some step = record {
    writes = far.writes;
    last = Err kind ∷ [];
    sent = sent;
    made = made_more (Err kind) sent (omega arith) some step;
    went_on = far.went_on;
    ended = (inr (inl (kind, refl, other)), refl);
  }

  -- there were too many writes
  pub too_many : count ≡ 2 ^ 64 - 1 → IsWrittenOut takes before now text (Err sent)
  too_many all = record {
    writes = far.writes;
    last = [];
    sent = sent;
    made = subst (λ writes. FoldsTo (WritesRest takes text) (before, 0) writes (now, sent)) (sym (append-nil far.writes)) far.made;
    went_on = far.went_on;
    ended = (inr (inr (refl, far.counted ∙ all)), refl);
  }
