-- Messages that are handed in one after the other.
use Rattle.std.proofs.Common.{◌≡◌, ℕ, ◌+◌, ◌<◌, ◌≤◌, List, [], ◌∷◌, ◌++◌, length, refl, ap, sym, ◌∙◌, ◌⊎◌, subst, append_assoc, arith, inl, inr}
use Rattle.std.specs.Prelude.{false, Result, Ok, Err, IfOk, OnErr}
use Rattle.std.specs.List.{AllZip}
use Rattle.std.proofs.lemmas.List.{append-nil, length-append, nil_from_length}
use Rattle.base.specs.declared.fault.Fault.{Fault}
use Rattle.connections.specs.Connections.{HasSameLogs}
use Rattle.connections.specs.Slots.{left_at, is_here}
use Rattle.connections.specs.Told.{IsToldAt}
use Rattle.service.specs.Service.{ServiceView, HasSameRequests}
use Rattle.server.specs.declared.answering.Lost.{Lost}
use Rattle.loop_messages.specs.declared.message.Heard.{Heard}
use Rattle.loop_messages.specs.declared.message.Said.{Said}
use Rattle.server.specs.Answering.{AnsweringView, Says, SaysNothing, IsSameBut, SaysEach, Closings, IsLastMessage, IsSaidOf, SaysWhat, IsToldAfter, HandsIn, HandsInAll}

-- one more
pub in_more : (heard : List Heard) (one : Heard) (v between now : AnsweringView) → HandsInAll heard v between → HandsIn one between now → HandsInAll (heard ++ one ∷ []) v now
in_more [] one v between now all is = (now, subst (λ (x : AnsweringView). HandsIn one x now) all is, refl)
in_more (first ∷ heard) one v between now all is = (all.0, all.1, in_more heard one all.0 between now all.2 is)

-- the service changed, and nothing is said of it
pub says_nothing : (v : AnsweringView) (old now : ServiceView) (said : List Said) (lost left : List Lost) → record { service = old; said = said; lost = lost } ≡ v → HasSameLogs old.connections now.connections → HasSameRequests old now → SaysNothing v (record { service = now; said = said; lost = left })
says_nothing v old now said lost left is logs requests =
    record {
      said_is = ap (λ (a : AnsweringView). a.said) is;
      logs = subst (λ (a : AnsweringView). HasSameLogs a.service.connections now.connections) is logs;
      requests = subst (λ (a : AnsweringView). HasSameRequests a.service now) is requests;
    }

pub says_what : (v now : AnsweringView) (key number : ℕ) (result : Result Said Fault) (told : Said) → IsSaidOf key number result told → Says v told now → SaysWhat v key number result now
says_what v now key number (Ok said) told is says = subst (λ (x : Said). Says v x now) is says
says_what v now key number (Err fault) told is says = (told, is, says)

-- what the connection is told is how it is then
pub told_after : (key number : ℕ) (v now : ServiceView) (result : Result Said Fault) → IfOk result (λ said. IsToldAt (record { key = key; number = number }) v.connections.table now.connections.table said) → OnErr result (is_here number now.connections.table key ≡ false) → IsToldAfter key number v now result
told_after key number v now (Ok said) told leaves = told
told_after key number v now (Err fault) told leaves = leaves

-- what was said and done does not depend on who is lost
pub same_says : (v between now : AnsweringView) (one : Said) → IsSameBut v between → Says between one now → Says v one now
same_says v between now one same says =
    let service = same.service in
    record {
      logs = subst (λ (s : ServiceView). HasSameLogs s.connections now.service.connections) service says.logs;
      requests = subst (λ (s : ServiceView). HasSameRequests s now.service) service says.requests;
      becomes = elim says.becomes [
        | inl joins ↦ inl (record { said_is = joins.said_is ∙ ap (λ (l : List Said). l ++ one ∷ []) same.said_is; table = joins.table ∙ ap (λ (s : ServiceView). s.connections.table) service })
        | inr dropped ↦ inr (record { said_is = dropped.said_is ∙ same.said_is; table = dropped.table ∙ ap (λ (s : ServiceView). left_at (record { key = one.key; number = one.number }) s.connections.table) service })
      ];
    }

-- one more is said
pub each_more : (v between now : AnsweringView) (all : List Said) (one : Said) → SaysEach v all between → Says between one now → SaysEach v (all ++ one ∷ []) now
each_more v between now [] one same says = (now, same_says v between now one same says, record { service = refl; said_is = refl })
each_more v between now (first ∷ all) one each says = (each.0, each.1, each_more each.0 between now all one each.2 says)

-- nor does what was said in order
pub each_same : (v between now : AnsweringView) (all : List Said) → SaysEach v all between → IsSameBut between now → SaysEach v all now
each_same v between now [] a b = record { service = b.service ∙ a.service; said_is = b.said_is ∙ a.said_is }
each_same v between now (first ∷ all) each b = (each.0, each.1, each_same each.0 between now all each.2 b)

-- Of those that were lost so many were told so, in order. The rest are lost still, and some again.
pub record ClosesSoMany (count : ℕ) (v now : AnsweringView) : Type 0 where
  pub told : List Lost
  pub rest : List Lost
  pub again : List Lost
  pub before : v.lost ≡ told ++ rest
  pub after : now.lost ≡ rest ++ again
  pub counted : length told ≡ count
  pub closings : List Said
  pub last : AllZip (λ of said. IsLastMessage of.key of.number said) told closings
  pub says : SaysEach v closings now

-- they are told so, and one more
last_more : (told : List Lost) (closings : List Said) (lost : Lost) (one : Said) → AllZip (λ of said. IsLastMessage of.key of.number said) told closings → IsLastMessage lost.key lost.number one → AllZip (λ of said. IsLastMessage of.key of.number said) (told ++ lost ∷ []) (closings ++ one ∷ [])
last_more [] [] lost one all last = (last, tt)
last_more [] (said ∷ closings) lost one all last = absurd all
last_more (of ∷ told) [] lost one all last = absurd all
last_more (of ∷ told) (said ∷ closings) lost one all last = (all.0, last_more told closings lost one all.1 last)

-- none so far
pub closes_none : (v : AnsweringView) → ClosesSoMany 0 v v
closes_none v = record { told = []; rest = v.lost; again = []; before = refl; after = sym (append-nil v.lost); counted = refl; closings = []; last = tt; says = record { service = refl; said_is = refl } }

-- one more
module _ (count : ℕ) (v between popped now : AnsweringView) (lost : Lost) (one : Said) (so_far : ClosesSoMany count v between) (same : IsSameBut between popped) (last : IsLastMessage lost.key lost.number one) (says : Says popped one now) where
  closes_first : (rest added : List Lost) → v.lost ≡ so_far.told ++ lost ∷ rest → now.lost ≡ rest ++ added → ClosesSoMany (count + 1) v now
  closes_first rest added before after = record {
    told = so_far.told ++ lost ∷ [];
    rest = rest;
    again = added;
    before = before ∙ sym (append_assoc so_far.told (lost ∷ []) rest);
    after = after;
    counted = length-append so_far.told (lost ∷ []) ∙ ap (λ n. n + 1) so_far.counted;
    closings = so_far.closings ++ one ∷ [];
    last = last_more so_far.told so_far.closings lost one so_far.last last;
    says = each_more v popped now so_far.closings one (each_same v between popped so_far.closings so_far.says same) says;
  }

  closes_next : (rest : List Lost) → v.lost ≡ so_far.told ++ rest → rest ++ so_far.again ≡ lost ∷ popped.lost → count < length v.lost → (now.lost ≡ popped.lost) ⊎ ((x : Lost) × (now.lost ≡ popped.lost ++ x ∷ [])) → ClosesSoMany (count + 1) v now
  closes_next [] before first more becomes = absurd (omega (arith, more, so_far.counted, ap (λ (l : List Lost). length l) before, length-append so_far.told []))
  closes_next (x ∷ rest) before first more becomes =
      let same_lost : x ≡ lost = cc first in
      let left : popped.lost ≡ rest ++ so_far.again = cc first in
      let is : v.lost ≡ so_far.told ++ lost ∷ rest = before ∙ ap (λ (z : Lost). so_far.told ++ z ∷ rest) same_lost in
      elim becomes [
        | inl kept ↦ closes_first rest so_far.again is (kept ∙ left)
        | inr more ↦ closes_first rest (so_far.again ++ more.0 ∷ []) is (more.1 ∙ ap (λ (l : List Lost). l ++ more.0 ∷ []) left ∙ append_assoc rest so_far.again (more.0 ∷ []))
      ]

  pub closes_more : between.lost ≡ lost ∷ popped.lost → count < length v.lost → (now.lost ≡ popped.lost) ⊎ (now.lost ≡ popped.lost ++ record { key = one.key; number = one.number } ∷ []) → ClosesSoMany (count + 1) v now
  closes_more first more becomes =
      closes_next so_far.rest so_far.before (sym so_far.after ∙ first) more
      (elim becomes [ inl kept ↦ inl kept | inr again ↦ inr (record { key = one.key; number = one.number }, again) ])

-- who is lost is there to be told
pub closes_some : (count : ℕ) (v now : AnsweringView) → ClosesSoMany count v now → count < length v.lost → 0 < length now.lost
closes_some count v now c more = omega (arith, more, c.counted, ap (λ (l : List Lost). length l) c.before, length-append c.told c.rest, ap (λ (l : List Lost). length l) c.after, length-append c.rest c.again)

-- all were told
pub closes_all : (count : ℕ) (v now : AnsweringView) → ClosesSoMany count v now → length v.lost ≤ count → Closings v now
closes_all count v now c all =
    let none : c.rest ≡ [] = nil_from_length c.rest (omega (arith, all, c.counted, ap (λ (l : List Lost). length l) c.before, length-append c.told c.rest)) in
    let each : c.told ≡ v.lost = sym (append-nil c.told) ∙ ap (λ (l : List Lost). c.told ++ l) (sym none) ∙ sym c.before in
    (c.closings, subst (λ (l : List Lost). AllZip (λ of said. IsLastMessage of.key of.number said) l c.closings) each c.last, c.says)
