-- The members of one site in one order.
use Rattle.std.proofs.Common.{◌≡◌, ⊎_elim, ℕ, ◌<◌, ◌≤◌, List, [], ◌∷◌, ◌++◌, Option, None, Some, refl, sym, ap, ◌∙◌, subst, arith}
use Rattle.std.proofs.lemmas.List.{append-nil}
use Rattle.std.proofs.lemmas.Bool.{cases_lt}
use Rattle.std.proofs.lemmas.Grind.{flat_map-append}
use Rattle.std.proofs.lemmas.List.Elements.{Contains-append_right}
use Rattle.std.specs.Prelude.{flat_map}
use Rattle.decrees.specs.Count.{member_count}
use Rattle.decrees.specs.declared.node.Letter.{Letter}
use Rattle.exec_lines.specs.declared.body.Body.{Body}
use Rattle.events.specs.Config.{ConfigView}
use Rattle.ensemble.specs.Nodes.{NodesView}
use Rattle.site_laws.specs.Orders.{DoesAll, deeds_of, tagged, entry_of, shows, all_shown}
use Rattle.site_laws.specs.Site.{Deed, Does, Shown, shown_by, unopened_nodes, IsPart, ShowsSite, SiteIsShown, all_by, asked_by, replies_by, noted_by}
use Rattle.site_laws.specs.Site as site
use Rattle.site_laws.specs.Lives.{MemberKept, IsKeptOf, nodes_with, begun_nodes, ending, LifeLeadsToNext}
use Rattle.site_laws.proofs.Merge.{one_after}
use Rattle.site_laws.proofs.LifeLemmas.{shows_both}
use Rattle.member.specs.Member.{MemberView, home_of, with_leaving, HasDone}
use Rattle.member.specs.Laws.{asked_in, answered_in, noted_in, AreOneSite, AreOneEnsemble, IsProcessOf, AreProcesses, shown_by_all, AreOneSiteOfLives}

-- ---- what deeds come to is what they show

module _ {X : Type 0} (of_deed : Deed → List X) (of_shown : ℕ × Shown → List X) where
  -- each deed comes to what it shows
  abbrev Agree : Type 0
  Agree = (m : ℕ) (d : Deed) → of_deed d ≡ flat_map of_shown (tagged m (entry_of shown_by (shown_by d)))

  all_agree : Agree → (order : List (ℕ × Deed)) → all_by of_deed order ≡ flat_map of_shown (all_shown shown_by order)
  all_agree agree [] = refl
  all_agree agree (x ∷ order) =
      (λ i. agree x.0 x.1 i ++ all_agree agree order i)
      ∙ sym (flat_map-append of_shown (tagged x.0 (entry_of shown_by (shown_by x.1))) (all_shown shown_by order))

asked_agree : Agree asked_by asked_in
asked_agree m (site.Asked r quiet) = refl
asked_agree m (site.Took l None) = refl
asked_agree m (site.Took l (Some a)) = refl
asked_agree m (site.Came l) = refl
asked_agree m (site.Left l) = refl
asked_agree m (site.Again n) = refl
asked_agree m (site.CutAt moment) = refl
asked_agree m site.Advanced = refl
asked_agree m site.Ran = refl
asked_agree m site.Collected = refl
asked_agree m site.OpenedExecutor = refl
asked_agree m site.OpenedVerifier = refl
asked_agree m site.Suspected = refl
asked_agree m site.Trimmed = refl
asked_agree m site.Forgot = refl
asked_agree m site.ExecutorEnded = refl
asked_agree m site.VerifierEnded = refl

answered_agree : Agree replies_by answered_in
answered_agree m (site.Asked r quiet) = refl
answered_agree m (site.Took l None) = refl
answered_agree m (site.Took l (Some a)) = refl
answered_agree m (site.Came l) = refl
answered_agree m (site.Left l) = refl
answered_agree m (site.Again n) = refl
answered_agree m (site.CutAt moment) = refl
answered_agree m site.Advanced = refl
answered_agree m site.Ran = refl
answered_agree m site.Collected = refl
answered_agree m site.OpenedExecutor = refl
answered_agree m site.OpenedVerifier = refl
answered_agree m site.Suspected = refl
answered_agree m site.Trimmed = refl
answered_agree m site.Forgot = refl
answered_agree m site.ExecutorEnded = refl
answered_agree m site.VerifierEnded = refl

noted_agree : Agree noted_by noted_in
noted_agree m (site.Asked r quiet) = refl
noted_agree m (site.Took l None) = refl
noted_agree m (site.Took l (Some a)) = refl
noted_agree m (site.Came l) = refl
noted_agree m (site.Left l) = refl
noted_agree m (site.Again n) = refl
noted_agree m (site.CutAt moment) = refl
noted_agree m site.Advanced = refl
noted_agree m site.Ran = refl
noted_agree m site.Collected = refl
noted_agree m site.OpenedExecutor = refl
noted_agree m site.OpenedVerifier = refl
noted_agree m site.Suspected = refl
noted_agree m site.Trimmed = refl
noted_agree m site.Forgot = refl
noted_agree m site.ExecutorEnded = refl
noted_agree m site.VerifierEnded = refl

-- ---- processes one after the other

-- what was kept does not depend on letters
kept_besides : (m : ℕ) (leaving : List (Letter Body)) (n : NodesView) (kept : MemberKept) → IsKeptOf m n kept → IsKeptOf m (with_leaving leaving n) kept
kept_besides m leaving n kept k = record { id = k.id; same_u = k.same_u; executor = k.executor; verifier = k.verifier; proxies = k.proxies }

done_by : (c : ConfigView) (m : ℕ) (found : Option MemberKept) (v : MemberView) → IsProcessOf c m found v → HasDone m c found (with_leaving v.leaving v.nodes) v.shown
done_by c m found v p = subst (λ (w : ℕ × ConfigView × Option MemberKept). HasDone w.0 w.1 w.2 (with_leaving v.leaving v.nodes) v.shown) p.whose p.is

-- what they did, with the ends of those that ended
done_by_all : LifeLeadsToNext → (c : ConfigView) (m : ℕ) (found : Option MemberKept) (ended : List MemberView) (last : MemberView) → AreProcesses c m found ended last → HasDone m c found (with_leaving last.leaving last.nodes) (shown_by_all ended last)
done_by_all law c m found [] last p = done_by c m found last p
done_by_all law c m found (v ∷ ended) last (kept, here, is_kept, rest) =
    let first = done_by c m found v here in
    let later = done_by_all law c m (Some kept) ended last rest in
    record {
      deeds = (first.deeds ++ ending) ++ later.deeds;
      leads = one_after (Does (home_of c)) m (begun_nodes c m found) (nodes_with c m kept) (with_leaving last.leaving last.nodes) (first.deeds ++ ending) later.deeds
          (law c (home_of c) m found first.deeds (with_leaving v.leaving v.nodes) kept first.leads (kept_besides m v.leaving v.nodes kept is_kept)) later.leads;
      show =
          shows_both (first.deeds ++ ending) later.deeds
          ∙ (λ i. ((shows_both first.deeds ending ∙ append-nil (shows shown_by first.deeds)) ∙ first.show) i ++ later.show i);
    }

-- ---- members, and numbers of no member

-- what was done under this number, whether there is a member of it or not
record IsAt (c : ConfigView) (members : ℕ → MemberView) (order : List (ℕ × Shown)) (m : ℕ) : Type 0 where
  pub deeds : List Deed
  pub now : NodesView
  pub leads : DoesAll (Does (home_of c)) m (unopened_nodes c) deeds now
  pub show : shows shown_by deeds ≡ deeds_of m order
  pub few : member_count c.u ≤ m → deeds ≡ []
  pub here : m < member_count c.u → now ≡ with_leaving (members m).leaving (members m).nodes

module _ (lives : LifeLeadsToNext) (c : ConfigView) (ended : ℕ → List MemberView) (members : ℕ → MemberView) (order : List (ℕ × Shown)) (given : AreOneSiteOfLives c ended members order) where
  is_at : (m : ℕ) → IsAt c members order m
  is_at m = ⊎_elim
      (λ (below : m < member_count c.u).
      let h = done_by_all lives c m None (ended m) (members m) (given.each m below) in
      record {
        deeds = h.deeds;
        now = with_leaving (members m).leaving (members m).nodes;
        leads = h.leads;
        show = h.show ∙ given.show m below;
        few = λ from. absurd (let no : ⊥ = omega (arith, below, from) in no);
        here = λ less. refl;
      })
      (λ (from : member_count c.u ≤ m). record {
        deeds = [];
        now = unopened_nodes c;
        leads = refl;
        show = sym (given.no_others m from);
        few = λ at. refl;
        here = λ less. absurd (let no : ⊥ = omega (arith, less, from) in no);
      })
      (cases_lt m (member_count c.u))

  part_of : (whole n : NodesView) (leaving : List (Letter Body)) (m : ℕ) → IsPart (home_of c) whole m (with_leaving leaving n) → IsPart (home_of c) whole m n
  part_of whole n leaving m p = record {
    same_u = p.same_u;
    executor = p.executor;
    verifier = p.verifier;
    proxies = p.proxies;
    mail = λ l at. p.mail l (Contains-append_right leaving n.mail l at);
  }

  pub lives_joined : SiteIsShown → AreOneEnsemble c members order
  lives_joined law =
      let s = law c (home_of c) (member_count c.u) order (λ m. (is_at m).deeds) (λ m. (is_at m).now) (λ m. (is_at m).leads) (λ m. (is_at m).show) (λ m. (is_at m).few) given.allowed in
      record {
        whole = s.site.whole;
        ensemble = s.site.ensemble;
        parts = λ m below. part_of s.site.whole.nodes (members m).nodes (members m).leaving m
            (subst (λ (n : NodesView). IsPart (home_of c) s.site.whole.nodes m n) ((is_at m).here below) (s.site.parts m));
        asked = s.site.asked ∙ (all_agree asked_by asked_in asked_agree s.deeds ∙ ap (λ (o : List (ℕ × Shown)). flat_map asked_in o) s.same);
        answered = s.site.answered ∙ (all_agree replies_by answered_in answered_agree s.deeds ∙ ap (λ (o : List (ℕ × Shown)). flat_map answered_in o) s.same);
        ordered = s.site.ordered ∙ (all_agree noted_by noted_in noted_agree s.deeds ∙ ap (λ (o : List (ℕ × Shown)). flat_map noted_in o) s.same);
      }

-- no process ended
pub joined : LifeLeadsToNext → (c : ConfigView) (members : ℕ → MemberView) (order : List (ℕ × Shown)) → AreOneSite c members order → SiteIsShown → AreOneEnsemble c members order
joined lives c members order given = lives_joined lives c (λ m. []) members order (record {
  each = λ m below. record { is = given.each m below; whose = given.of_site m below };
  show = given.show;
  no_others = given.no_others;
  allowed = given.allowed;
})
