-- One deed of a member leads the whole on.
use Rattle.std.proofs.Common.{◌≡◌, ⊎_elim, inl, ℕ, Bool, true, false, List, [], ◌∷◌, ◌++◌, Option, None, refl, sym, ap, ◌∙◌, subst}
use Rattle.std.specs.Prelude.{Contains, ◌==◌}
use Rattle.std.specs.declared.alloc.Global.{Global}
use Rattle.std.proofs.lemmas.List.{append-nil, flat_map_more}
use Rattle.std.proofs.lemmas.List.Elements.{Contains-append_cases, Contains-push_cases}
use Rattle.std.proofs.lemmas.Bool.{eqb-true}
use Rattle.proto.specs.declared.reply.Reply as replies
use Rattle.sessions.specs.declared.request.Request.{Request}
use Rattle.decrees.specs.declared.ballot.Ballot.{Ballot}
use Rattle.decrees.specs.declared.node.Letter.{Letter}
use Rattle.exec_lines.specs.declared.body.Body.{Body}
use Rattle.exec_lines.specs.declared.input.Input.TheVariants as executor_input
use Rattle.verifier.specs.declared.input.Input.TheVariants as verifier_input
use Rattle.verifier.specs.Verifier.{VerifierView}
use Rattle.slots.specs.Slot.{Slot}
use Rattle.slots.specs.Runs.{RunIsSteps}
use Rattle.proxies.proofs.ProxyLemmas.{ask_is_fed, answer_is_replied, again_is_asked}
use Rattle.hosts.specs.Host.{HostView, LettersAreAmong, HostSettles, HostReopens, HostCollects}
use Rattle.ensemble.specs.declared.answer.Answer.{Answer}
use Rattle.ensemble.specs.Nodes.{NodesView, HostMoves, HostAdvances, VerifierMoves, VerifierGets, VerifierOpens, VerifierTrims, NodesReached, IsPosted, AsksAgain}
use Rattle.ensemble.specs.Moments.{now_from}
use Rattle.ensemble.specs.Calls.{VerifierCrashes}
use Rattle.ensemble.specs.Ensemble.{EnsembleView, IsEnsemble, moment_entry}
use Rattle.ensemble.proofs.Lists.{in_none}
use Rattle.ensemble.proofs.Moments.{Order, now_noted}
use Rattle.ensemble.proofs.Goes.{Goes, stays, same_proxies, ensemble_stays, ensemble_noted}
use Rattle.ensemble.proofs.Hosts.{host_goes, acts_runs}
use Rattle.ensemble.proofs.Going.{deliver_goes, take_held_goes, cut_goes, collect_goes, open_executor_goes, open_verifier_at_goes, suspect_at_goes, trim_at_goes, again_at_goes, asks_goes}
use Rattle.ensemble.proofs.StopLemmas.{stop_verifier_goes}
use Rattle.site_laws.specs.Orders.{put_at}
use Rattle.site_laws.specs.Site.{Deed, RunsOnly, HostEnds, Does, left_by, asked_by, replies_by, noted_by, all_by, HadLeft, IsPart, IsSite}
use Rattle.site_laws.specs.Site as deed
use Rattle.site_laws.proofs.OrderLemmas.{put_same, put_other}
use Rattle.site_laws.proofs.Parts.{Lifted, Asks, lift_host, lift_verifier, lift_reached, lift_asks, lift_again}
use Rattle.site_laws.proofs.Ends.{executor_ends}

all_more : {X : Type 0} (f : Deed → List X) (done : List (ℕ × Deed)) (x : ℕ × Deed) → all_by f (done ++ x ∷ []) ≡ all_by f done ++ f x.1
all_more f done x = sym (flat_map_more (λ (y : ℕ × Deed). f y.1) [] done x)

module _ (home : ℕ → ℕ) (parts : ℕ → NodesView) (done : List (ℕ × Deed)) (s : IsSite home parts done) (m : ℕ) where
  abbrev After : Deed → NodesView → Type 0
  After d next = IsSite home (put_at parts m next) (done ++ (m, d) ∷ [])

  -- the whole is still an ensemble after its nodes went on
  abbrev Stays : NodesView → Type 0
  Stays now = IsEnsemble (record s.whole { nodes = now })

  others_stay : (R : NodesView → NodesView → Type 0) (next : NodesView) (f : Lifted home R s.whole.nodes m next) (k : ℕ) → IsPart home f.after k (put_at parts m next k)
  others_stay R next f k = by (m == k) refl
    where
      by : (here : Bool) → (m == k) ≡ here → IsPart home f.after k (put_at parts m next k)
      by true e = subst (λ (x : NodesView). IsPart home f.after k x) (sym (put_same parts m next k e)) (subst (λ (j : ℕ). IsPart home f.after j next) (eqb-true m k e) f.part)
      by false e = subst (λ (x : NodesView). IsPart home f.after k x) (sym (put_other parts m next k e)) (f.others k e (parts k) (s.parts k))

  -- the whole is this ensemble now
  on : (d : Deed) (next : NodesView) (R : NodesView → NodesView → Type 0) (f : Lifted home R s.whole.nodes m next) (asked : List (Request × Bool)) (answered : List ((ℕ × ℕ) × replies.Reply)) (order : Order)
      → IsEnsemble (record { nodes = f.after; asked = asked; answered = answered; order = order; refused = s.whole.refused; found = s.whole.found }) → LettersAreAmong (left_by d) s.whole.nodes.mail
      → asked ≡ s.whole.asked ++ asked_by d → answered ≡ s.whole.answered ++ replies_by d → order ≡ s.whole.order ++ noted_by d → After d next
  on d next R f asked answered order is left asks answers orders = record {
    whole = record { nodes = f.after; asked = asked; answered = answered; order = order; refused = s.whole.refused; found = s.whole.found };
    ensemble = is;
    parts = λ k. others_stay R next f k;
    left = λ l c. f.grows l (⊎_elim
        (λ (old : Contains (all_by left_by done) l). s.left l old)
        (λ (new : Contains (left_by d) l). left l new)
        (Contains-append_cases (all_by left_by done) (left_by d) l (subst (λ (ls : List (Letter Body)). Contains ls l) (all_more left_by done (m, d)) c)));
    asked = asks ∙ (ap (λ (xs : List (Request × Bool)). xs ++ asked_by d) s.asked ∙ sym (all_more asked_by done (m, d)));
    answered = answers ∙ (ap (λ (xs : List ((ℕ × ℕ) × replies.Reply)). xs ++ replies_by d) s.answered ∙ sym (all_more replies_by done (m, d)));
    ordered = orders ∙ (ap (λ (xs : Order). xs ++ noted_by d) s.ordered ∙ sym (all_more noted_by done (m, d)));
  }

  -- nothing was asked, answered or noted
  silent : (d : Deed) (next : NodesView) (R : NodesView → NodesView → Type 0) (f : Lifted home R s.whole.nodes m next) → Stays f.after → LettersAreAmong (left_by d) s.whole.nodes.mail
      → asked_by d ≡ [] → replies_by d ≡ [] → noted_by d ≡ [] → After d next
  silent d next R f is left no_ask no_answer no_note =
      on d next R f s.whole.asked s.whole.answered s.whole.order is left
      (sym (ap (λ (xs : List (Request × Bool)). s.whole.asked ++ xs) no_ask ∙ append-nil s.whole.asked))
      (sym (ap (λ (xs : List ((ℕ × ℕ) × replies.Reply)). s.whole.answered ++ xs) no_answer ∙ append-nil s.whole.answered))
      (sym (ap (λ (xs : Order). s.whole.order ++ xs) no_note ∙ append-nil s.whole.order))

  none_left : LettersAreAmong [] s.whole.nodes.mail
  none_left l c = absurd (in_none l c)

  -- the whole stays, and the member has other mail that was sent
  other_mail : (d : Deed) (mail : List (Letter Body)) → LettersAreAmong mail s.whole.nodes.mail → LettersAreAmong (left_by d) s.whole.nodes.mail → asked_by d ≡ [] → replies_by d ≡ [] → noted_by d ≡ [] → After d (record (parts m) { mail = mail })
  other_mail d mail among left no_ask no_answer no_note =
      let p = s.parts m in
      silent d (record (parts m) { mail = mail }) (λ a b. b ≡ a)
      (record { after = s.whole.nodes; does = refl; part = record { same_u = p.same_u; executor = p.executor; verifier = p.verifier; proxies = p.proxies; mail = among }; others = λ k other x q. q; grows = λ l c. c })
      s.ensemble left no_ask no_answer no_note

  -- a letter came
  came : (l : Letter Body) → LettersAreAmong (l ∷ []) (all_by left_by done) → After (deed.Came l) (record (parts m) { mail = (parts m).mail ++ l ∷ [] })
  came l had = other_mail (deed.Came l) ((parts m).mail ++ l ∷ []) (λ x c. ⊎_elim
      (λ (old : Contains (parts m).mail x). (s.parts m).mail x old)
      (λ (new : Contains (l ∷ []) x). s.left x (had x new))
      (Contains-append_cases (parts m).mail (l ∷ []) x c)) none_left refl refl refl

  left : (l : Letter Body) → Contains (parts m).mail l → After (deed.Left l) (parts m)
  left l c = other_mail (deed.Left l) (parts m).mail (s.parts m).mail (λ x one. ⊎_elim
      (λ (none : Contains [] x). absurd (in_none x none))
      (λ (same : l ≡ x). (s.parts m).mail x (subst (Contains (parts m).mail) same c))
      (Contains-push_cases [] l x one)) refl refl refl

  forgot : (rest : List (Letter Body)) → LettersAreAmong rest (parts m).mail → After deed.Forgot (record (parts m) { mail = rest })
  forgot rest among = other_mail deed.Forgot rest (λ l c. (s.parts m).mail l (among l c)) none_left refl refl refl

  -- a letter that is under way anywhere may be the first one of the whole
  first_again : (l : Letter Body) → Contains s.whole.nodes.mail l → Goes (now_from None s.whole.order) s.whole.nodes (record s.whole.nodes { mail = l ∷ s.whole.nodes.mail }) s.ensemble.now
  first_again l inside =
      let nodes = s.whole.nodes in
      let h = s.ensemble in
      record {
        world = h.now;
        moves = stays h.now h.now refl;
        like = record {
          same_u = h.like.same_u;
          executors = h.like.executors;
          verifiers = h.like.verifiers;
          clients = h.like.clients;
          mail = λ x c. ⊎_elim
              (λ (one : Contains (l ∷ []) x). ⊎_elim (λ (none : Contains [] x). absurd (in_none x none)) (λ (same : l ≡ x). h.like.mail x (subst (Contains nodes.mail) same inside)) (Contains-push_cases [] l x one))
              (λ (old : Contains nodes.mail x). h.like.mail x old)
              (Contains-append_cases (l ∷ []) nodes.mail x c);
          hosts = h.like.hosts;
        };
        same_u = refl;
        proxies = same_proxies nodes.proxies nodes.proxies refl;
      }

  -- a letter came to a node
  took : (l : Letter Body) (answer : Option Answer) (next : NodesView) → Does home m (parts m) (deed.Took l answer) next → After (deed.Took l answer) next
  took l answer next (rest, among, inside, here, reached) =
      let p = s.parts m in
      let nodes = s.whole.nodes in
      let f = lift_reached home nodes (record (parts m) { mail = rest }) next l m answer
      (record { same_u = p.same_u; executor = p.executor; verifier = p.verifier; proxies = p.proxies; mail = λ x c. p.mail x (among x c) }) l.to here reached in
      let again : NodesView = record nodes { mail = l ∷ nodes.mail } in
      let e : EnsembleView = record s.whole { nodes = again } in
      on (deed.Took l answer) next (λ x y. NodesReached x l l.to y answer) f s.whole.asked (s.whole.answered ++ replies_by (deed.Took l answer)) (s.whole.order ++ noted_by (deed.Took l answer))
      (deliver_goes answer_is_replied e (ensemble_stays s.whole again s.ensemble (first_again l (p.mail l inside))) f.after answer f.does) none_left (sym (append-nil s.whole.asked)) refl refl

  -- a proxy asked
  asked : Global → (r : Request) (quiet : Bool) (next : NodesView) → Does home m (parts m) (deed.Asked r quiet) next → After (deed.Asked r quiet) next
  asked alloc r quiet next (mid, here, text, by_proxy, is, posted) =
      let f = lift_asks home s.whole.nodes (parts m) mid next m r.client r.command quiet r here (s.parts m) (by_proxy, is) posted in
      on (deed.Asked r quiet) next (λ a b. (c : NodesView) × Asks home r.client r.command quiet r a c × IsPosted c r.client r b) f (s.whole.asked ++ asked_by (deed.Asked r quiet)) s.whole.answered (s.whole.order ++ noted_by (deed.Asked r quiet))
      (asks_goes ask_is_fed alloc s.whole s.ensemble f.does.0 f.after r.client r.command quiet r text f.does.1.0 f.does.1.1 f.does.2) none_left refl (sym (append-nil s.whole.answered)) refl

  again : (number : ℕ) (next : NodesView) → home number ≡ m → AsksAgain (parts m) number next → After (deed.Again number) next
  again number next here did =
      let f = lift_again home s.whole.nodes (parts m) next m number here (s.parts m) did in
      silent (deed.Again number) next (λ a b. AsksAgain a number b) f (again_at_goes s.whole f.after s.ensemble again_is_asked number f.does) none_left refl refl refl

  -- an executor was to cut a batch: the moment is the last one that was handed in to the whole
  cut_at : (moment : ℕ) (next : NodesView) → Does home m (parts m) (deed.CutAt moment) next → After (deed.CutAt moment) next
  cut_at moment next did =
      let f = lift_host home (λ h left sent. HostSettles h (executor_input.Cut moment) left sent) s.whole.nodes (parts m) next m (s.parts m) did in
      let order : Order = s.whole.order ++ moment_entry moment ∷ [] in
      let e : EnsembleView = record s.whole { order = order } in
      let h : IsEnsemble e = ensemble_noted s.whole moment order refl s.ensemble in
      on (deed.CutAt moment) next (HostMoves (λ h left sent. HostSettles h (executor_input.Cut moment) left sent) m) f s.whole.asked s.whole.answered order
      (cut_goes e f.after h m moment (now_noted s.whole.order order moment refl) f.does) none_left (sym (append-nil s.whole.asked)) (sym (append-nil s.whole.answered)) refl

  -- an executor did something else
  of_host : (d : Deed) (next : NodesView) (Host : HostView → HostView → List (Letter Body) → Type 0)
      → ((now : NodesView) → HostMoves Host m s.whole.nodes now → Stays now) → HostMoves Host m (parts m) next → LettersAreAmong (left_by d) s.whole.nodes.mail → asked_by d ≡ [] → replies_by d ≡ [] → noted_by d ≡ [] → After d next
  of_host d next Host goes did left no_ask no_answer no_note =
      let f = lift_host home Host s.whole.nodes (parts m) next m (s.parts m) did in
      silent d next (HostMoves Host m) f (goes f.after f.does) left no_ask no_answer no_note

  -- a verifier did something
  of_verifier : (d : Deed) (next : NodesView) (DoesSo : Slot VerifierView → Slot VerifierView → List (Letter Ballot) → Type 0)
      → ((now : NodesView) → VerifierMoves DoesSo m s.whole.nodes now → Stays now) → VerifierMoves DoesSo m (parts m) next → LettersAreAmong (left_by d) s.whole.nodes.mail → asked_by d ≡ [] → replies_by d ≡ [] → noted_by d ≡ [] → After d next
  of_verifier d next DoesSo goes did left no_ask no_answer no_note =
      let f = lift_verifier home DoesSo s.whole.nodes (parts m) next m (s.parts m) did in
      silent d next (VerifierMoves DoesSo m) f (goes f.after f.does) left no_ask no_answer no_note

  opened_executor : (next : NodesView) → Does home m (parts m) deed.OpenedExecutor next → After deed.OpenedExecutor next
  opened_executor next did =
      let u = (parts m).u in
      of_host deed.OpenedExecutor next (λ h left sent. HostReopens u m h left sent)
      (λ now moves. open_executor_goes s.whole now s.ensemble m (inl (subst (λ (v : ℕ). HostMoves (λ h left sent. HostReopens v m h left sent) m s.whole.nodes now) (s.parts m).same_u moves))) did none_left refl refl refl

  opened_verifier : (next : NodesView) → Does home m (parts m) deed.OpenedVerifier next → After deed.OpenedVerifier next
  opened_verifier next did =
      let u = (parts m).u in
      of_verifier deed.OpenedVerifier next (VerifierOpens u m)
      (λ now moves. open_verifier_at_goes s.whole now s.ensemble m (inl (subst (λ (v : ℕ). VerifierMoves (VerifierOpens v m) m s.whole.nodes now) (s.parts m).same_u moves))) did none_left refl refl refl

  ran : RunIsSteps → (next : NodesView) → Does home m (parts m) deed.Ran next → After deed.Ran next
  ran steps next did = of_host deed.Ran next RunsOnly
      (λ now moves. ensemble_stays s.whole now s.ensemble (host_goes RunsOnly s.whole.nodes now s.ensemble.now m s.ensemble.like (acts_runs steps s.ensemble.now m) moves)) did none_left refl refl refl

  pub one_deed : RunIsSteps → Global → (d : Deed) (next : NodesView) → HadLeft done (m, d) → Does home m (parts m) d next → After d next
  one_deed steps alloc (deed.Came l) next had did = subst (λ (x : NodesView). After (deed.Came l) x) (sym did) (came l had)
  one_deed steps alloc (deed.Left l) next had did = subst (λ (x : NodesView). After (deed.Left l) x) (sym did.1) (left l did.0)
  one_deed steps alloc (deed.Took l answer) next had did = took l answer next did
  one_deed steps alloc (deed.Asked r quiet) next had did = asked alloc r quiet next did
  one_deed steps alloc (deed.Again number) next had did = again number next did.0 did.1
  one_deed steps alloc (deed.CutAt moment) next had did = cut_at moment next did
  one_deed steps alloc deed.Advanced next had did =
      of_host deed.Advanced next HostAdvances (λ now moves. take_held_goes s.whole now s.ensemble m moves) did none_left refl refl refl
  one_deed steps alloc deed.Ran next had did = ran steps next did
  one_deed steps alloc deed.Collected next had did =
      of_host deed.Collected next HostCollects (λ now moves. collect_goes s.whole now s.ensemble m moves) did none_left refl refl refl
  one_deed steps alloc deed.OpenedExecutor next had did = opened_executor next did
  one_deed steps alloc deed.OpenedVerifier next had did = opened_verifier next did
  one_deed steps alloc deed.Suspected next had did =
      of_verifier deed.Suspected next (VerifierGets verifier_input.Suspect) (λ now moves. suspect_at_goes s.whole now s.ensemble m moves) did none_left refl refl refl
  one_deed steps alloc deed.Trimmed next had did =
      of_verifier deed.Trimmed next VerifierTrims (λ now moves. trim_at_goes s.whole now s.ensemble m moves) did none_left refl refl refl
  one_deed steps alloc deed.Forgot next had did = subst (λ (x : NodesView). After deed.Forgot x) (sym did.2) (forgot did.0 did.1)
  one_deed steps alloc deed.ExecutorEnded next had did =
      of_host deed.ExecutorEnded next HostEnds (λ now moves. ensemble_stays s.whole now s.ensemble (executor_ends s.whole.nodes now s.ensemble.now m s.ensemble.like moves)) did none_left refl refl refl
  one_deed steps alloc deed.VerifierEnded next had did =
      of_verifier deed.VerifierEnded next VerifierCrashes (λ now moves. stop_verifier_goes s.whole now s.ensemble m moves) did none_left refl refl refl
