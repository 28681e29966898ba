-- The batch that is cut is the one of the definition, and batches are distinguished by their texts.
use Rattle.std.proofs.Common.{◌≡◌, ℕ, ◌≤◌, Bool, true, false, List, [], ◌∷◌, ◌++◌, length, Option, Some, None, refl, sym, ap, ◌∙◌, arith}
use Rattle.std.specs.Prelude.{IsTrue}
use Rattle.std.specs.Str.{bytes_eq}
use Rattle.std.proofs.lemmas.Slice.Eq.{bytes_eq-Decides}
use Rattle.std.specs.Int.{w32, w64}
use Rattle.sessions.specs.declared.request.Request.{Request}
use Rattle.batches.specs.declared.batch.Batch.{Batch}
use Rattle.batches.specs.declared.batch.TheConstants.{MOST_REQUESTS, GREATEST_NUMBER}
use Rattle.batches.specs.Cut.{IsCut}
use Rattle.wire.specs.Number.{num}
use Rattle.wire.specs.Field.{list_text}
use Rattle.wire.specs.Command.{request_text}
use Rattle.wire.specs.Batch.{batch_text}
use Rattle.wire.specs.BatchLaws.{batch_prefix_free}
use Rattle.exec_lines.specs.State.{ExecutorState, next_batch_number}
use Rattle.exec_lines.specs.Lines.{batch_of, cut_where, cut_batch, has_number, requests_taken}

one_text : (a b : Batch) → a.epoch ≡ b.epoch → a.n ≡ b.n → a.moment ≡ b.moment → a.requests ≡ b.requests → batch_text a ≡ batch_text b
unfolding batch_text
one_text a b e n m r = λ i. 4 ∷ (num w64 (e i) ++ num w64 (n i) ++ num w32 (m i) ++ list_text request_text (r i))

-- a batch is identified by its fields
same_batch : (a b : Batch) → a.epoch ≡ b.epoch → a.n ≡ b.n → a.moment ≡ b.moment → a.requests ≡ b.requests → a ≡ b
same_batch a b e n m r = (batch_prefix_free.apart a b [] [] (ap (λ (t : List ℕ). t ++ []) (one_text a b e n m r))).0

of_requests : (epoch n moment : ℕ) (requests : List Request) (first : 1 ≤ n) (last : n ≤ GREATEST_NUMBER) (few : length requests ≤ MOST_REQUESTS) (batch : Option Batch)
    → IsCut epoch n moment requests batch → batch ≡ batch_of epoch n moment requests first last few
of_requests epoch n moment [] first last few None c = refl
of_requests epoch n moment [] first last few (Some b) c = absurd (let some = c.some in omega (arith, some))
of_requests epoch n moment (r ∷ rs) first last few None c = absurd (cc c)
of_requests epoch n moment (r ∷ rs) first last few (Some b) c =
    ap (λ (x : Batch). Some x) (same_batch b (record { epoch = epoch; n = n; moment = moment; requests = r ∷ rs; first = first; last = last; few = few }) c.epoch_is c.n_is c.moment_is c.requests_are)

-- if there is a number for it
pub cut_is : (s : ExecutorState) (moment : ℕ) (batch : Option Batch) → has_number s ≡ true → IsCut s.standing.epoch (next_batch_number s) moment (requests_taken s) batch → batch ≡ cut_batch s moment
cut_is s moment batch h c = by (has_number s) refl h
  where
    by : (has : Bool) (e : has_number s ≡ has) → has ≡ true → batch ≡ cut_where s moment has e
    by true e t = of_requests s.standing.epoch (next_batch_number s) moment (requests_taken s) _ _ _ batch c
    by false e t = absurd (cc t)

-- and if there is none
pub cut_none : (s : ExecutorState) (moment : ℕ) → has_number s ≡ false → cut_batch s moment ≡ None
cut_none s moment h = by (has_number s) refl h
  where
    by : (has : Bool) (e : has_number s ≡ has) → has ≡ false → cut_where s moment has e ≡ None
    by true e t = absurd (cc t)
    by false e t = refl

-- whether two batches are the same is decided by their texts
pub told_by_text : (a b one other : Batch) (same : Bool) → (IsTrue same → a ≡ b) × (a ≡ b → IsTrue same) → a ≡ one → b ≡ other → same ≡ bytes_eq (batch_text one) (batch_text other)
told_by_text a b one other same h ea eb = by same (bytes_eq (batch_text a) (batch_text b)) h refl ∙ (λ i. bytes_eq (batch_text (ea i)) (batch_text (eb i)))
  where
    by : (same texts : Bool) → (IsTrue same → a ≡ b) × (a ≡ b → IsTrue same) → bytes_eq (batch_text a) (batch_text b) ≡ texts → same ≡ texts
    by true texts h e = sym ((bytes_eq-Decides (batch_text a) (batch_text b)).1 (ap batch_text (h.0 refl))) ∙ e
    by false true h e = h.1 ((batch_prefix_free.apart a b [] [] (ap (λ (t : List ℕ). t ++ []) ((bytes_eq-Decides (batch_text a) (batch_text b)).0 e))).0)
    by false false h e = refl
