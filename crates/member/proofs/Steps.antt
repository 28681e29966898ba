-- A member that did one thing more.
use Rattle.std.proofs.Common.{◌≡◌, ⊎_elim, ℕ, List, [], ◌∷◌, ◌++◌, map, Option, None, Some, slice_get, refl, sym, ap, ◌∙◌, subst, append_assoc}
use Rattle.std.proofs.lemmas.List.{append-nil}
use Rattle.std.proofs.lemmas.List.Elements.{Contains-append_left, Contains-append_right, Contains-append_cases}
use Rattle.std.specs.Prelude.{Bool, Contains}
use Rattle.proto.specs.declared.command.Command.{Command}
use Rattle.sessions.specs.declared.request.Request.{Request}
use Rattle.decrees.specs.declared.ballot.Ballot.{Ballot}
use Rattle.decrees.specs.declared.node.Letter.{Letter}
use Rattle.decrees.specs.declared.node.Node.{Node}
use Rattle.exec_lines.specs.declared.body.Body.{Body}
use Rattle.events.specs.Config.{ConfigView}
use Rattle.memcached_spec.specs.Asked.{HasText}
use Rattle.verifier.specs.Verifier.{VerifierView}
use Rattle.slots.specs.Slot.{Slot}
use Rattle.exec_lines.specs.declared.input.Input.TheVariants.{Cut}
use Rattle.hosts.specs.Host.{HostView, LettersAreAmong, HostSettles}
use Rattle.ensemble.specs.declared.answer.Answer.{Answer}
use Rattle.ensemble.specs.Nodes.{NodesView, MayGrow, HostMoves, VerifierMoves, IsAskedBy, IsPosted, AsksAgain, DeliversOf, Delivers}
use Rattle.ensemble.proofs.Lists.{in_head, in_tail}
use Rattle.site_laws.specs.Orders.{shows, entry_of}
use Rattle.site_laws.specs.Site.{Deed, Does, Shown, IsNodeOf, shown_by}
use Rattle.site_laws.specs.Site as site
use Rattle.site_laws.specs.Lives.{MemberKept, begun_nodes}
use Rattle.site_laws.proofs.Merge.{one_more}
use Rattle.member.specs.Member.{MemberView, home_of, with_leaving, HasDone}
use Rattle.member.specs.Asking.{IsAskShown}
use Rattle.member.specs.Passing.{IsFirstTo, IsFirstHere}
use Rattle.member.specs.Working.{answer_shown}
use Rattle.member.proofs.Behind.{host_behind, verifier_behind, posted_behind, again_behind, reached_behind}

shown_more : (ds : List Deed) (d : Deed) → shows shown_by (ds ++ d ∷ []) ≡ shows shown_by ds ++ entry_of shown_by (shown_by d)
shown_more [] d = append-nil (entry_of shown_by (shown_by d))
shown_more (e ∷ ds) d = ap (λ (vs : List Shown). entry_of shown_by (shown_by e) ++ vs) (shown_more ds d) ∙ sym (append_assoc (entry_of shown_by (shown_by e)) (shows shown_by ds) (entry_of shown_by (shown_by d)))

module _ (id : ℕ) (c : ConfigView) {found : Option MemberKept} where
  -- it did this, too, and shows what that shows
  pub goes_on : (n now : NodesView) (shown shown_now : List Shown) (d : Deed) → HasDone id c found n shown → Does (home_of c) id n d now → shown_now ≡ shown ++ entry_of shown_by (shown_by d) → HasDone id c found now shown_now
  goes_on n now shown shown_now d h did is = record {
    deeds = h.deeds ++ d ∷ [];
    leads = one_more (Does (home_of c)) id _ n now h.deeds d h.leads did;
    show = shown_more h.deeds d ∙ (ap (λ (vs : List Shown). vs ++ entry_of shown_by (shown_by d)) h.show ∙ sym is);
  }

  -- that shows nothing
  pub goes_silently : (n now : NodesView) (shown : List Shown) (d : Deed) → HasDone id c found n shown → Does (home_of c) id n d now → entry_of shown_by (shown_by d) ≡ [] → HasDone id c found now shown
  goes_silently n now shown d h did none = goes_on n now shown shown d h did (sym (append-nil shown) ∙ ap (λ (vs : List Shown). shown ++ vs) (sym none))

  -- letters were let go
  pub forgets : (n : NodesView) (mail : List (Letter Body)) (shown : List Shown) → HasDone id c found n shown → LettersAreAmong mail n.mail → HasDone id c found (record n { mail = mail }) shown
  forgets n mail shown h among = goes_silently n (record n { mail = mail }) shown site.Forgot h (mail, among, refl) refl

  module _ (leaving : List (Letter Body)) (n now : NodesView) (shown : List Shown) (h : HasDone id c found (with_leaving leaving n) shown) where
    -- its executor did something that shows nothing
    pub host_goes_on : (d : Deed) (Do : HostView → HostView → List (Letter Body) → Type 0)
        → (HostMoves Do id (with_leaving leaving n) (with_leaving leaving now) → Does (home_of c) id (with_leaving leaving n) d (with_leaving leaving now)) → entry_of shown_by (shown_by d) ≡ [] → HostMoves Do id n now
        → HasDone id c found (with_leaving leaving now) shown
    host_goes_on d Do is none moves = goes_silently (with_leaving leaving n) (with_leaving leaving now) shown d h (is (host_behind leaving Do id n now moves)) none

    pub verifier_goes_on : (d : Deed) (Do : Slot VerifierView → Slot VerifierView → List (Letter Ballot) → Type 0)
        → (VerifierMoves Do id (with_leaving leaving n) (with_leaving leaving now) → Does (home_of c) id (with_leaving leaving n) d (with_leaving leaving now)) → entry_of shown_by (shown_by d) ≡ [] → VerifierMoves Do id n now
        → HasDone id c found (with_leaving leaving now) shown
    verifier_goes_on d Do is none moves = goes_silently (with_leaving leaving n) (with_leaving leaving now) shown d h (is (verifier_behind leaving Do id n now moves)) none

    -- its executor was to cut a batch
    pub cuts : (moment : ℕ) (shown_now : List Shown) → HostMoves (λ h left sent. HostSettles h (Cut moment) left sent) id n now → shown_now ≡ shown ++ site.Notes moment ∷ [] → HasDone id c found (with_leaving leaving now) shown_now
    cuts moment shown_now moves is =
        goes_on (with_leaving leaving n) (with_leaving leaving now) shown shown_now (site.CutAt moment) h
        (host_behind leaving (λ h left sent. HostSettles h (Cut moment) left sent) id n now moves) is

    -- or nothing was done
    pub stays : now ≡ n → HasDone id c found (with_leaving leaving now) shown
    stays same = subst (λ (x : NodesView). HasDone id c found (with_leaving leaving x) shown) (sym same) h

    -- a proxy of its own asked again
    pub asks_again : (number : ℕ) → home_of c number ≡ id → AsksAgain n number now → HasDone id c found (with_leaving leaving now) shown
    asks_again number here again = goes_silently (with_leaving leaving n) (with_leaving leaving now) shown (site.Again number) h (here, again_behind leaving n now number again) refl

    -- a proxy of its own asked
    pub asks : (mid : NodesView) (client : ℕ) (command : Command) (quiet : Bool) (r : Request) (shown_now : List Shown) → r.client ≡ client → home_of c client ≡ id → HasText command quiet → r.command ≡ command
        → IsAskedBy n.proxies client command quiet mid.proxies r → mid ≡ record n { proxies = mid.proxies } → IsPosted mid client r now → shown_now ≡ shown ++ site.Asks r quiet ∷ [] → HasDone id c found (with_leaving leaving now) shown_now
    asks mid client command quiet r shown_now of here text same asked only posted is =
        goes_on (with_leaving leaving n) (with_leaving leaving now) shown shown_now (site.Asked r quiet) h (
          with_leaving leaving mid,
          subst (λ (k : ℕ). home_of c k ≡ id) (sym of) here,
          subst (λ (x : Command). HasText x quiet) (sym same) text,
          subst (λ (p : ℕ × Command). IsAskedBy n.proxies p.0 p.1 quiet mid.proxies r) (λ i. (sym of i, sym same i)) asked,
          ap (with_leaving leaving) only,
          subst (λ (k : ℕ). IsPosted (with_leaving leaving mid) k r (with_leaving leaving now)) (sym of) (posted_behind leaving mid now client r posted),
        )
        is

    -- the first letter came to one of its own nodes
    pub took : (l : Letter Body) (answer : Option Answer) (shown_now : List Shown) → slice_get n.mail 0 ≡ Some l → IsNodeOf (home_of c) id l.to → Delivers n now answer → shown_now ≡ shown ++ answer_shown answer → HasDone id c found (with_leaving leaving now) shown_now
    took l answer shown_now first here delivers is = by n.mail refl first delivers
      where
        same_shown : (x : Letter Body) (a : Option Answer) → answer_shown a ≡ entry_of shown_by (shown_by (site.Took x a))
        same_shown x None = refl
        same_shown x (Some a) = refl

        by : (mail : List (Letter Body)) → n.mail ≡ mail → slice_get mail 0 ≡ Some l → DeliversOf n mail now answer → HasDone id c found (with_leaving leaving now) shown_now
        by [] at got d = absurd (cc got)
        by (x ∷ rest) at got d =
            let same : x ≡ l = cc got in
            let all : leaving ++ (x ∷ rest) ≡ leaving ++ n.mail = ap (λ (ls : List (Letter Body)). leaving ++ ls) (sym at) in
            goes_on (with_leaving leaving n) (with_leaving leaving now) shown shown_now (site.Took x answer) h (
              leaving ++ rest,
              (λ y c. subst (λ (ls : List (Letter Body)). Contains ls y) all (tail y rest c)),
              subst (λ (ls : List (Letter Body)). Contains ls x) all (Contains-append_right leaving (x ∷ rest) x (in_head x rest)),
              subst (λ (y : Letter Body). IsNodeOf (home_of c) id y.to) (sym same) here,
              reached_behind leaving (record n { mail = rest }) now x x.to answer d,
            )
            (is ∙ ap (λ (vs : List Shown). shown ++ vs) (same_shown x answer))
          where
            tail : (y : Letter Body) (more : List (Letter Body)) → Contains (leaving ++ more) y → Contains (leaving ++ (x ∷ more)) y
            tail y more c = ⊎_elim
                (λ (in_front : Contains leaving y). Contains-append_left leaving (x ∷ more) y in_front)
                (λ (behind : Contains more y). Contains-append_right leaving (x ∷ more) y (in_tail x y more behind))
                (Contains-append_cases leaving more y c)

  -- ---- letters from other members, and to them

  -- a letter came in
  pub came_in : (leaving : List (Letter Body)) (n : NodesView) (l : Letter Body) (shown shown_now : List Shown) → HasDone id c found (with_leaving leaving n) shown → shown_now ≡ shown ++ site.CameIn l ∷ [] → HasDone id c found (with_leaving leaving (record n { mail = n.mail ++ l ∷ [] })) shown_now
  came_in leaving n l shown shown_now h is =
      goes_on (with_leaving leaving n) (with_leaving leaving (record n { mail = n.mail ++ l ∷ [] })) shown shown_now (site.Came l) h
      (ap (λ (ls : List (Letter Body)). record n { mail = ls }) (sym (append_assoc leaving n.mail (l ∷ [])))) is

  -- a letter came in, and was lost
  pub came_and_went : (leaving : List (Letter Body)) (n : NodesView) (l : Letter Body) (shown shown_now : List Shown) → HasDone id c found (with_leaving leaving n) shown → shown_now ≡ shown ++ site.CameIn l ∷ [] → HasDone id c found (with_leaving leaving n) shown_now
  came_and_went leaving n l shown shown_now h is =
      forgets (record n { mail = (leaving ++ n.mail) ++ l ∷ [] }) (leaving ++ n.mail) shown_now
      (goes_on (with_leaving leaving n) (record n { mail = (leaving ++ n.mail) ++ l ∷ [] }) shown shown_now (site.Came l) h refl is)
      (λ x at. Contains-append_left (leaving ++ n.mail) (l ∷ []) x at)

  -- a letter came in, and may be lost
  pub may_come_in : (leaving : List (Letter Body)) (n now : NodesView) (l : Letter Body) (shown shown_now : List Shown) → HasDone id c found (with_leaving leaving n) shown → shown_now ≡ shown ++ site.CameIn l ∷ [] → MayGrow n.mail (l ∷ []) now.mail → now ≡ record n { mail = now.mail }
      → HasDone id c found (with_leaving leaving now) shown_now
  may_come_in leaving n now l shown shown_now h is grows others =
      ⊎_elim
      (λ (more : now.mail ≡ n.mail ++ l ∷ []).
      subst (λ (x : NodesView). HasDone id c found (with_leaving leaving x) shown_now) (sym (others ∙ ap (λ (ls : List (Letter Body)). record n { mail = ls }) more)) (came_in leaving n l shown shown_now h is))
      (λ (same : now.mail ≡ n.mail).
      subst (λ (x : NodesView). HasDone id c found (with_leaving leaving x) shown_now) (sym (others ∙ ap (λ (ls : List (Letter Body)). record n { mail = ls }) same)) (came_and_went leaving n l shown shown_now h is))
      grows

  -- the first letter of its mail is to leave
  pub is_aside : (leaving : List (Letter Body)) (n : NodesView) (l : Letter Body) (rest : List (Letter Body)) (shown : List Shown) → n.mail ≡ l ∷ rest → HasDone id c found (with_leaving leaving n) shown → HasDone id c found (with_leaving (leaving ++ l ∷ []) (record n { mail = rest })) shown
  is_aside leaving n l rest shown is h =
      let same : leaving ++ n.mail ≡ (leaving ++ l ∷ []) ++ rest = ap (λ (ls : List (Letter Body)). leaving ++ ls) is ∙ sym (append_assoc leaving (l ∷ []) rest) in
      subst (λ (ls : List (Letter Body)). HasDone id c found (record n { mail = ls }) shown) same h

  pub set_aside : (leaving leaving_now : List (Letter Body)) (n now : NodesView) (l : Letter Body) (shown : List Shown) → HasDone id c found (with_leaving leaving n) shown → n.mail ≡ l ∷ now.mail → now ≡ record n { mail = now.mail } → leaving_now ≡ leaving ++ l ∷ []
      → HasDone id c found (with_leaving leaving_now now) shown
  set_aside leaving leaving_now n now l shown h first others is =
      subst (λ (p : List (Letter Body) × NodesView). HasDone id c found (with_leaving p.0 p.1) shown) (λ i. (sym is i, sym others i)) (is_aside leaving n l now.mail shown first h)

  -- the first letter that was to leave went out
  pub went_out : (l : Letter Body) (rest : List (Letter Body)) (n : NodesView) (shown shown_now : List Shown) → HasDone id c found (with_leaving (l ∷ rest) n) shown → shown_now ≡ shown ++ site.WentOut l ∷ [] → HasDone id c found (with_leaving rest n) shown_now
  went_out l rest n shown shown_now h is =
      forgets (with_leaving (l ∷ rest) n) (rest ++ n.mail) shown_now
      (goes_on (with_leaving (l ∷ rest) n) (with_leaving (l ∷ rest) n) shown shown_now (site.Left l) h (in_head l (rest ++ n.mail), refl) is)
      (λ x at. in_tail l x (rest ++ n.mail) at)

-- what a request adds to what is shown
pub is_shown : (shown shown_now : List Shown) (client : ℕ) (command : Command) (quiet : Bool) (r given : Request) → given ≡ r → r.client ≡ client → r.command ≡ command → shown_now ≡ shown ++ site.Asks r quiet ∷ [] → IsAskShown shown client given.number command quiet shown_now
is_shown shown shown_now client command quiet r given same of command_is is = record {
  request = r;
  of_proxy = of;
  numbered = sym (ap (λ (x : Request). x.number) same);
  asks = command_is;
  after = is;
}

-- the first letter is for this node, which is its own
pub first_here : (v : MemberView) (to : Node) → IsFirstTo v.nodes.mail to → IsNodeOf (home_of v.config) v.id to → IsFirstHere v
first_here v to first own = record { letter = first.letter; first = first.first; here = subst (λ (n : Node). IsNodeOf (home_of v.config) v.id n) (sym first.is_to) own }

-- a process that just began, and found this
pub begins : (id : ℕ) (c : ConfigView) (kept found : Option MemberKept) (n : NodesView) (leaving : List (Letter Body)) (shown : List Shown) → found ≡ kept → n ≡ begun_nodes c id kept → leaving ≡ [] → shown ≡ [] → HasDone id c found (with_leaving leaving n) shown
begins id c kept found n leaving shown is same none silent = record {
  deeds = [];
  leads = λ i. with_leaving (none i) ((same ∙ ap (begun_nodes c id) (sym is)) i);
  show = sym silent;
}

-- what is done of a replica leaves the proxies
pub host_leaves_proxies : (DoesSo : HostView → HostView → List (Letter Body) → Type 0) (id : ℕ) (n now : NodesView) → HostMoves DoesSo id n now → now.proxies ≡ n.proxies
host_leaves_proxies DoesSo id n now moves = ap (λ (x : NodesView). x.proxies) moves.5

pub verifier_leaves_proxies : (DoesSo : Slot VerifierView → Slot VerifierView → List (Letter Ballot) → Type 0) (id : ℕ) (n now : NodesView) → VerifierMoves DoesSo id n now → now.proxies ≡ n.proxies
verifier_leaves_proxies DoesSo id n now moves = ap (λ (x : NodesView). x.proxies) moves.5

-- one more letter was handed out
pub out_more : (all letters leaving letters_now leaving_now : List (Letter Body)) (l : Letter Body) → all ≡ letters ++ leaving → leaving ≡ l ∷ leaving_now → letters_now ≡ letters ++ l ∷ [] → all ≡ letters_now ++ leaving_now
out_more all letters leaving letters_now leaving_now l is first more =
    is
    ∙ (ap (λ (ls : List (Letter Body)). letters ++ ls) first
    ∙ (sym (append_assoc letters (l ∷ []) leaving_now) ∙ ap (λ (ls : List (Letter Body)). ls ++ leaving_now) (sym more)))

pub out_shown : (first shown shown_now : List Shown) (letters letters_now : List (Letter Body)) (l : Letter Body) → shown ≡ first ++ map site.WentOut letters → shown_now ≡ shown ++ site.WentOut l ∷ [] → letters_now ≡ letters ++ l ∷ [] → shown_now ≡ first ++ map site.WentOut letters_now
out_shown first shown shown_now letters letters_now l is more handed =
    more
    ∙ (ap (λ (vs : List Shown). vs ++ site.WentOut l ∷ []) is
    ∙ (append_assoc first (map site.WentOut letters) (site.WentOut l ∷ [])
    ∙ ap (λ (vs : List Shown). first ++ vs) (one_more_of letters ∙ ap (λ (ls : List (Letter Body)). map site.WentOut ls) (sym handed))))
  where
    one_more_of : (ls : List (Letter Body)) → map site.WentOut ls ++ site.WentOut l ∷ [] ≡ map site.WentOut (ls ++ l ∷ [])
    one_more_of [] = refl
    one_more_of (x ∷ ls) = ap (λ (vs : List Shown). site.WentOut x ∷ vs) (one_more_of ls)
