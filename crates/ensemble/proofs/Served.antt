-- What calls do if nothing is refused.
use Rattle.std.proofs.Common.{◌≡◌, ⊎_elim, ℕ, zero, suc, ◌+◌, ◌-◌, ◌*◌, ◌<◌, Bool, true, false, List, [], ◌∷◌, ◌++◌, length, map, Option, None, Some, slice_get, refl, sym, ap, ◌∙◌, subst, arith}
use Rattle.std.specs.Prelude.{◌==◌, ◌&&◌, not, if◌then◌else◌}
use Rattle.std.specs.List.{list_any}
use Rattle.std.proofs.lemmas.Bool.{eqb-true, eqb-false, not-true, not-false, and_parts}
use Rattle.proto.specs.declared.command.Command.{Command}
use Rattle.sessions.specs.declared.request.Request.{Request}
use Rattle.decrees.specs.declared.ballot.Ballot.{Ballot}
use Rattle.decrees.specs.declared.node.Letter.{Letter}
use Rattle.exec_lines.specs.declared.body.Body.{Body}
use Rattle.exec_lines.specs.declared.input.Input.TheVariants.{Cut}
use Rattle.verifier.specs.Verifier.{VerifierView}
use Rattle.slots.specs.Slot.{Slot}
use Rattle.slots.specs.Sending.{as_sent}
use Rattle.proxies.specs.Proxy.{ProxyView}
use Rattle.hosts.specs.Host.{HostView, HostSettles}
use Rattle.hosts.specs.Orders.{has_due}
use Rattle.ensemble.specs.Nodes.{NodesView, AtHostIn, AtHost, AtVerifier, IsAskedBy, IsOutstanding}
use Rattle.ensemble.specs.Shown.{outstanding_in, outstanding_at, has_letters, has_job, is_quiet, would_cut}
use Rattle.ensemble.specs.Calls.{HostPosts}
use Rattle.ensemble.specs.Served.{letters_asked, IsUnderWay, VerifierPosts, NoBatchAt, NoBatchBelow, IsAtRest}
use Rattle.ensemble.specs.Kept.{ProcessView}
use Rattle.ensemble.specs.Ensemble.{EnsembleView, IsEnsemble}
use Rattle.ensemble.proofs.Cutting.{cut_gave_nothing}
use Rattle.ensemble.proofs.Lists.{set_get, get_other}
use Rattle.ensemble.proofs.Sending.{below_or_last}

-- what is always true of an ensemble depends neither on the count nor on what was found
pub any_besides : (e : EnsembleView) (refused : ℕ) (found : Option ProcessView) → IsEnsemble e → IsEnsemble (record e { refused = refused; found = found })
any_besides e refused found h = record {
  config = h.config;
  events = h.events;
  now = h.now;
  same_u = h.same_u;
  clients = h.clients;
  through = h.through;
  like = h.like;
  numbered = h.numbered;
  in_order = h.in_order;
  fed = h.fed;
  answers = h.answers;
  ordered_asks = h.ordered_asks;
  ordered_answers = h.ordered_answers;
  cuts = h.cuts;
  past = h.past;
}

-- a request that was asked and sent is under way
pub asked_under_way : (old mid now : NodesView) (proxy : ℕ) (command : Command) (quiet : Bool) (r : Request) → IsAskedBy old.proxies proxy command quiet mid.proxies r → mid ≡ record old { proxies = mid.proxies }
    → now.mail ≡ mid.mail ++ letters_asked mid proxy r → IsUnderWay old now proxy r.number command
asked_under_way old mid now proxy command quiet r a is sent = record {
  request = r;
  numbered = refl;
  asks = ap (λ (x : Request). x.command) a.is;
  sent = subst (λ (n : NodesView). now.mail ≡ n.mail ++ letters_asked n proxy r) is sent;
}

pub ballots_posted : (Does : Slot VerifierView → Slot VerifierView → List (Letter Ballot) → Type 0) (id : ℕ) (n : NodesView) (verifiers : List (Slot VerifierView)) (sent ballots : List (Letter Ballot)) (mail : List (Letter Body))
    → AtVerifier Does id n.verifiers verifiers sent → ballots ≡ sent → mail ≡ n.mail ++ map as_sent ballots → VerifierPosts Does id n (record n { verifiers = verifiers; mail = mail })
ballots_posted Does id n verifiers sent ballots mail did same posted =
    (verifiers, sent, did, ap (λ (ls : List (Letter Body)). record n { verifiers = verifiers; mail = ls }) (posted ∙ ap (λ (bs : List (Letter Ballot)). n.mail ++ map as_sent bs) same))

pub letters_posted : (Does : HostView → HostView → List (Letter Body) → Type 0) (id : ℕ) (n : NodesView) (executors : List HostView) (sent mail : List (Letter Body))
    → AtHost Does id n.executors executors sent → mail ≡ n.mail ++ sent → HostPosts Does id n (record n { executors = executors; mail = mail })
letters_posted Does id n executors sent mail did posted = (executors, sent, did, ap (λ (ls : List (Letter Body)). record n { executors = executors; mail = ls }) posted)

-- ---- what is outstanding

one_above : (n : ℕ) → (n ≡ 0 → ⊥) → n ≡ suc (n - 1)
one_above zero off = absurd (off refl)
one_above (suc n) off = omega arith

pub outstanding_is : (proxies : List ProxyView) (number : ℕ) (r : Request) → outstanding_at proxies number ≡ Some r → IsOutstanding proxies number r
outstanding_is proxies number r e = by (number == 0) refl e
  where
    there : number ≡ suc (number - 1) → (o : Option ProxyView) → slice_get proxies (number - 1) ≡ o → outstanding_in o ≡ Some r → IsOutstanding proxies number r
    there at None is e = absurd (cc e)
    there at (Some p) is e = record { index = number - 1; at = at; proxy = p; there = is; is = e }

    by : (none : Bool) → (number == 0) ≡ none → (if none then None else outstanding_in (slice_get proxies (number - 1))) ≡ Some r → IsOutstanding proxies number r
    by true is e = absurd (cc e)
    by false is e = there (one_above number (eqb-false number 0 is)) (slice_get proxies (number - 1)) refl e

-- ---- cuts that gave nothing

pub cut_nothing : (moment id : ℕ) (n now : NodesView) (sent : List (Letter Body)) → AtHost (λ h left ls. HostSettles h (Cut moment) left ls) id n.executors now.executors sent → sent ≡ [] → NoBatchAt id n now
cut_nothing moment id n now sent at none = by (slice_get n.executors id) refl at
  where
    by : (o : Option HostView) → slice_get n.executors id ≡ o → AtHostIn (λ h left ls. HostSettles h (Cut moment) left ls) id n.executors now.executors sent o → NoBatchAt id n now
    by None is did = record {
      here = λ h there.
          let both : None ≡ Some h = sym (ap (λ (hs : List HostView). slice_get hs id) did.0 ∙ is) ∙ there in
          absurd (cc both);
      others = λ i other. ap (λ (hs : List HostView). slice_get hs i) did.0;
    }
    by (Some b) is did = record {
      here = λ h there.
          let both : Some did.0 ≡ Some h = sym (ap (λ (hs : List HostView). slice_get hs id) did.2 ∙ set_get n.executors id b did.0 is) ∙ there in
          let same : did.0 ≡ h = cc both in
          let settles : HostSettles b (Cut moment) h [] = subst (λ (p : HostView × List (Letter Body)). HostSettles b (Cut moment) p.0 p.1) (λ i. (same i, none i)) did.1 in
          subst (λ (x : HostView). would_cut x.slot ≡ false) (sym settles.2) (cut_gave_nothing moment b.slot settles.0 settles.1);
      others = λ i other. ap (λ (hs : List HostView). slice_get hs i) did.2 ∙ get_other n.executors id i did.0 other;
    }

pub cut_more : (id : ℕ) (n now : NodesView) → NoBatchBelow id n → NoBatchAt id n now → NoBatchBelow (id + 1) now
cut_more id n now below has i h lt at = ⊎_elim
    (λ (less : i < id). below i h less (sym (has.others i (λ e. omega (arith, e, less))) ∙ at))
    (λ (same : i ≡ id). has.here h (subst (λ (k : ℕ). slice_get now.executors k ≡ Some h) same at))
    (below_or_last i id (omega (arith, lt)))

-- ---- at rest

pub nothing_in : {X : Type 0} (xs : List X) → (length xs == 0) ≡ true → xs ≡ []
nothing_in [] e = refl
nothing_in (x ∷ xs) e = (let none = eqb-true (length (x ∷ xs)) 0 e in absurd (omega (arith, none)))

pub quiet_rests : (n : NodesView) → is_quiet n ≡ true → (has_letters n ≡ false → NoBatchBelow (2 * n.u + 1) n) → IsAtRest n
quiet_rests n quiet cut =
    let first = and_parts (not (has_letters n)) (not (list_any has_job n.executors) && not (list_any has_due n.executors)) quiet in
    let rest = and_parts (not (list_any has_job n.executors)) (not (list_any has_due n.executors)) first.1 in
    record {
      none_comes = nothing_in n.mail (not-false (length n.mail == 0) (not-true (has_letters n) first.0));
      none_runs = not-true (list_any has_job n.executors) rest.0;
      none_is_due = not-true (list_any has_due n.executors) rest.1;
      none_is_cut = cut (not-true (has_letters n) first.0);
    }
