-- What work leaves as it is: the pages in which nothing is due, and that no request of the batch updates.
use Rattle.std.proofs.Common.{◌≡◌, ℕ, ◌+◌, ◌<◌, Bool, List, [], ◌∷◌, ◌++◌, length, take, get_or, sym, ap, ◌∙◌, subst}
use Rattle.std.specs.Prelude.{slice_get, All}
use Rattle.std.proofs.lemmas.List.{take_more}
use Rattle.std.proofs.lemmas.List.Elements.{All-push}
use Rattle.items.specs.Map.{alive}
use Rattle.item_steps.specs.Steps.{steps}
use Rattle.item_steps.specs.Schedule.{stamped}
use Rattle.item_steps.specs.declared.step.Step.{Step}
use Rattle.item_steps.specs.declared.step.Step.TheVariants.{Read, ReadAndTouch, Update}
use Rattle.sessions.specs.declared.request.Request.{Request}
use Rattle.batches.specs.declared.batch.Batch.{Batch}
use Rattle.pages.specs.Others.{AreSameBeside, AreWithin, Covers}
use Rattle.pages.proofs.OtherLemmas.{step-elsewhere}
use Rattle.states.specs.State.{StateView}
use Rattle.states.specs.Followed.{moment_of}
use Rattle.executor.specs.BatchRequest.{BatchRequest}
use Rattle.executor.specs.Round.{runners, first_place}
use Rattle.executor.specs.Work.{Progress, begun, Worked, began, stepped, moved}
use Rattle.round.proofs.Lists.{map_at}
use Rattle.executor.proofs.PartialLemmas.{Each, each-of-all, forget}
use Rattle.executor.proofs.RoundLemmas.{get_map}
use Rattle.executor.proofs.WorkedLemmas.{worked-partial}
use Rattle.executor.proofs.DoneLemmas.{fresh_at}

-- the set covers the steps of each request
abbrev pub CoversRequests : List Bool → List Request → Type 0
CoversRequests pages requests = All (λ r. All (Covers pages) (steps r.command)) requests

-- a set of more pages covers more
covers-more : (less more : List Bool) → AreWithin less more → (s : Step) → Covers less s → Covers more s
covers-more less more within (Read key) covers = covers
covers-more less more within (ReadAndTouch key exptime) covers = within _ covers
covers-more less more within (Update u) covers = within _ covers

pub all-covers-more : (less more : List Bool) → AreWithin less more → (ss : List Step) → All (Covers less) ss → All (Covers more) ss
all-covers-more less more within ss covers k d l = covers-more less more within (get_or ss k d) (covers k d l)

pub within-both : (a b c : List Bool) → AreWithin a b → AreWithin b c → AreWithin a c
within-both a b c first second p there = second p (first p there)

-- the set covers one request more
pub covers-next : (old new : List Bool) (requests : List Request) (i : ℕ) (q : Request) → i < length requests → q ≡ get_or requests i q
    → CoversRequests old (take i requests) → AreWithin old new → All (Covers new) (steps q.command) → CoversRequests new (take (i + 1) requests)
covers-next old new requests i q within is so_far more own =
    subst (CoversRequests new) (sym (take_more requests i q within ∙ ap (λ (x : Request). take i requests ++ x ∷ []) (sym is)))
    (All-push (λ (r : Request). All (Covers new) (steps r.command)) (take i requests) q (λ k d l. all-covers-more old new more (steps (get_or (take i requests) k d).command) (so_far k d l)) own)

module _ (pages : List Bool) (base : StateView) (batch : Batch) (ordered : Bool)
    (due : AreSameBeside pages base.items (alive base.items (moment_of base batch))) (covers : CoversRequests pages batch.requests) where
  -- the steps of a request that runs are those of a request of the batch
  covers-running : (w : Progress) → Worked base batch ordered w → Each (λ x. All (Covers pages) x.steps) w.running
  covers-running w worked i x at =
      let p = worked-partial base batch ordered w worked in
      let r = get_map (begun batch ordered) (runners base batch) i (forget x) (ap (λ xs. slice_get xs i) (sym p.same) ∙ map_at forget w.running i x at) in
      let its : x.steps ≡ steps r.0.1.command = ap (λ (y : BatchRequest). y.steps) r.2 in
      subst (All (Covers pages)) (sym its)
      (each-of-all (λ (q : Request). All (Covers pages) (steps q.command)) batch.requests covers r.0.0 r.0.1 (fresh_at base.sessions [] batch.requests i r.0 r.1))

  pub others-stay : (w : Progress) → Worked base batch ordered w → AreSameBeside pages base.items w.items
  others-stay w (began group least) = due
  others-stay w (stepped old now place worked m) =
      let covered = each-of-all (Covers pages) m.request.steps (covers-running old worked m.index m.request m.there) (length m.request.answers) m.step m.next in
      subst (λ (n : Progress). AreSameBeside pages base.items n.items) (sym m.now_is)
      (λ p l out. others-stay old worked p l out ∙ step-elsewhere pages old.items m.step (stamped (first_place base batch) place) covered p l out)
  others-stay w (moved old group worked done next) = others-stay old worked
