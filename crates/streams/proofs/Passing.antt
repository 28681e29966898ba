-- One more read of a session, and the last one.
use Rattle.std.proofs.Common.{◌≡◌, ◌≢◌, refl, ℕ, zero, suc, ◌+◌, ◌-◌, ◌^◌, Bool, true, false, List, [], ◌∷◌, ◌++◌, length, All, Option, Ok, Err, sym, ap, ◌∙◌, subst, inl, inr, arith}
use Rattle.std.specs.List.{FoldsTo, concat}
use Rattle.std.proofs.lemmas.List.{append-nil, length-append}
use Rattle.std.proofs.lemmas.List.Elements.{All-append, filter_map-append}
use Rattle.std.proofs.lemmas.List.Folds.{concat-append}
use Rattle.std.proofs.lemmas.Fn.{FoldsTo-push}
use Rattle.std.specs.Result.{result_ok}
use Rattle.std.specs.Io.KnownBytes.{Consumes, Keeps, IsAtEnd}
use Rattle.std.proofs.KnownBytes.{Consumes-trans, Consumes-kept}
use Rattle.std.specs.declared.io.ErrorKind.{ErrorKind}
use Rattle.std.specs.declared.io.ErrorKind.TheVariants.{Interrupted}
use Rattle.streams.specs.Session.{Read, ReadsOn, pieces, IsSession}
use Rattle.streams.specs.declared.reading.Ending.TheVariants.{AtEnd, Failed, Enough}

pieces_piece : (reads : List Read) (piece : List ℕ) → pieces (reads ++ Ok piece ∷ []) ≡ pieces reads ++ piece ∷ []
pieces_piece reads piece = filter_map-append result_ok reads (Ok piece ∷ [])

pieces_fault : (reads : List Read) (kind : ErrorKind) → pieces (reads ++ Err kind ∷ []) ≡ pieces reads
pieces_fault reads kind = filter_map-append result_ok reads (Err kind ∷ []) ∙ append-nil (pieces reads)

concat_piece : (reads : List Read) (piece : List ℕ) → concat (pieces (reads ++ Ok piece ∷ [])) ≡ concat (pieces reads) ++ piece
concat_piece reads piece = ap concat (pieces_piece reads piece) ∙ concat-append (pieces reads) (piece ∷ []) ∙ ap (λ xs. concat (pieces reads) ++ xs) (append-nil piece)

-- P holds of one more
pub all_more : {X : Type 0} (P : X → Type 0) (xs : List X) (x : X) → All P xs → P x → All P (xs ++ x ∷ [])
all_more {X} P xs x all p = All-append P xs (x ∷ []) all one where
  one : All P (x ∷ [])
  one zero d l = p
  one (suc k) d l = absurd (omega (arith, l))

pub length_more : {X : Type 0} (xs : List X) (x : X) (count : ℕ) → length xs ≡ count → length (xs ++ x ∷ []) ≡ count + 1
length_more xs x count counted = length-append xs (x ∷ []) ∙ ap (λ n. n + 1) counted

lost_piece : (a b c : Option (List ℕ)) (reads : List Read) (piece : List ℕ) → Consumes a b (concat (pieces reads)) → Consumes b c piece → Consumes a c (concat (pieces (reads ++ Ok piece ∷ [])))
lost_piece a b c reads piece first then = subst (Consumes a c) (sym (concat_piece reads piece)) (Consumes-trans a b c (concat (pieces reads)) piece first then)

lost_none : (a b c : Option (List ℕ)) (reads : List Read) (kind : ErrorKind) → Consumes a b (concat (pieces reads)) → Keeps b c → Consumes a c (concat (pieces (reads ++ Err kind ∷ [])))
lost_none a b c reads kind first kept = subst (λ ps. Consumes a c (concat ps)) (sym (pieces_fault reads kind)) (Consumes-kept a b c (concat (pieces reads)) first kept)

-- the session so far, in which no read was the last one
pub record IsSoFar {S T : Type 0} (gives : S → Read → S → Type 0) (remaining : S → Option (List ℕ)) (hears : T → List ℕ → Bool → T → Type 0) (before now : S) (s t : T) (count : ℕ) : Type 0 where
  pub reads : List Read
  pub counted : length reads ≡ count
  pub made : FoldsTo gives before reads now
  pub went_on : All ReadsOn reads
  pub heard : FoldsTo (λ s piece t. hears s piece true t) s (pieces reads) t
  pub lost : Consumes (remaining before) (remaining now) (concat (pieces reads))

module _ {S T : Type 0} {gives : S → Read → S → Type 0} {remaining : S → Option (List ℕ)} {hears : T → List ℕ → Bool → T → Type 0} {before now : S} {s t : T} {count : ℕ} (far : IsSoFar gives remaining hears before now s t count) where
  -- a piece was read, and the listener wants more
  pub one_piece : {after : S} {u : T} (piece : List ℕ) → gives now (Ok piece) after → ReadsOn (Ok piece) → Consumes (remaining now) (remaining after) piece → hears t piece true u → IsSoFar gives remaining hears before after s u (count + 1)
  one_piece {after} {u} piece step goes_on lost heard = record {
    reads = far.reads ++ Ok piece ∷ [];
    counted = length_more far.reads (Ok piece) count far.counted;
    made = FoldsTo-push gives before far.reads now (Ok piece) after far.made step;
    went_on = all_more ReadsOn far.reads (Ok piece) far.went_on goes_on;
    heard = subst (λ ps. FoldsTo (λ s piece t. hears s piece true t) s ps u) (sym (pieces_piece far.reads piece)) (FoldsTo-push (λ s piece t. hears s piece true t) s (pieces far.reads) t piece u far.heard heard);
    lost = lost_piece (remaining before) (remaining now) (remaining after) far.reads piece far.lost lost;
  }

  -- a read was interrupted
  pub one_interrupted : {after : S} (kind : ErrorKind) → gives now (Err kind) after → ReadsOn (Err kind) → Keeps (remaining now) (remaining after) → IsSoFar gives remaining hears before after s t (count + 1)
  one_interrupted {after} kind step goes_on kept = record {
    reads = far.reads ++ Err kind ∷ [];
    counted = length_more far.reads (Err kind) count far.counted;
    made = FoldsTo-push gives before far.reads now (Err kind) after far.made step;
    went_on = all_more ReadsOn far.reads (Err kind) far.went_on goes_on;
    heard = subst (λ ps. FoldsTo (λ s piece t. hears s piece true t) s ps t) (sym (pieces_fault far.reads kind)) far.heard;
    lost = lost_none (remaining before) (remaining now) (remaining after) far.reads kind far.lost kept;
  }

  -- the end was read
  pub at_end : {leaves : T → T → Type 0} {after : S} {u : T} → gives now (Ok []) after → Consumes (remaining now) (remaining after) [] → IsAtEnd (remaining after) → leaves t u → IsSession gives remaining hears leaves before after s u AtEnd
  at_end {after = after} step lost end left = record {
    reads = far.reads;
    last = Ok [] ∷ [];
    then = t;
    made = FoldsTo-push gives before far.reads now (Ok []) after far.made step;
    went_on = far.went_on;
    heard = far.heard;
    ended = (refl, end, left);
    lost = lost_piece (remaining before) (remaining now) (remaining after) far.reads [] far.lost lost;
  }

  -- a read failed
  pub failed : {leaves : T → T → Type 0} {after : S} {u : T} (kind : ErrorKind) → kind ≢ Interrupted → gives now (Err kind) after → Keeps (remaining now) (remaining after) → leaves t u → IsSession gives remaining hears leaves before after s u Failed
  failed {after = after} kind other step kept left = record {
    reads = far.reads;
    last = Err kind ∷ [];
    then = t;
    made = FoldsTo-push gives before far.reads now (Err kind) after far.made step;
    went_on = far.went_on;
    heard = far.heard;
    ended = (inl (kind, refl, other), left);
    lost = lost_none (remaining before) (remaining now) (remaining after) far.reads kind far.lost kept;
  }

  -- the listener wants no more
  pub enough : {leaves : T → T → Type 0} {after : S} {u : T} (piece : List ℕ) → gives now (Ok piece) after → ReadsOn (Ok piece) → Consumes (remaining now) (remaining after) piece → hears t piece false u → IsSession gives remaining hears leaves before after s u Enough
  enough {after = after} piece step goes_on lost heard = record {
    reads = far.reads;
    last = Ok piece ∷ [];
    then = t;
    made = FoldsTo-push gives before far.reads now (Ok piece) after far.made step;
    went_on = far.went_on;
    heard = far.heard;
    ended = (piece, refl, goes_on, heard);
    lost = lost_piece (remaining before) (remaining now) (remaining after) far.reads piece far.lost lost;
  }

  -- there were too many reads
  pub too_many : {leaves : T → T → Type 0} {u : T} → count ≡ 2 ^ 64 - 1 → leaves t u → IsSession gives remaining hears leaves before now s u Failed
  too_many all left = record {
    reads = far.reads;
    last = [];
    then = t;
    made = subst (λ reads. FoldsTo gives before reads now) (sym (append-nil far.reads)) far.made;
    went_on = far.went_on;
    heard = far.heard;
    ended = (inr (refl, far.counted ∙ all), left);
    lost = subst (λ reads. Consumes (remaining before) (remaining now) (concat (pieces reads))) (sym (append-nil far.reads)) far.lost;
  }
