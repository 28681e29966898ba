-- Work that goes on.
use Rattle.std.proofs.Common.{◌≡◌, ⊎_elim, ℕ, true, false, List, [], ◌∷◌, ◌++◌, length, Some, refl, sym, ap, ◌∙◌, subst, append_assoc}
use Rattle.std.specs.Prelude.{◌==◌, ◌&&◌, not}
use Rattle.std.specs.List.{list_any}
use Rattle.std.proofs.lemmas.Bool.{not-true, not-false, and_parts}
use Rattle.std.proofs.lemmas.List.{append-nil}
use Rattle.std.proofs.lemmas.List.Elements.{Contains-append_cases}
use Rattle.std.proofs.lemmas.Grind.{flat_map-append}
use Rattle.std.specs.Prelude.{Contains, flat_map}
use Rattle.decrees.specs.declared.node.Letter.{Letter}
use Rattle.exec_lines.specs.declared.body.Body.{Body}
use Rattle.hosts.specs.Orders.{has_due}
use Rattle.ensemble.specs.declared.answer.Answer.{Answer}
use Rattle.ensemble.specs.Nodes.{NodesView}
use Rattle.ensemble.specs.Shown.{has_letters, has_job, is_quiet}
use Rattle.ensemble.proofs.Lists.{in_none, first_or_other}
use Rattle.ensemble.proofs.Served.{nothing_in}
use Rattle.site_laws.specs.Site.{Shown, Answers, Notes}
use Rattle.member.specs.Member.{MemberView}
use Rattle.member.specs.Working.{answers_by, answer_shown, IsOfWork, HasWorked, LeaveToo, NoBatchHere, IsMemberAtRest}

module _ (moment : ℕ) where
  -- nothing was shown
  pub none_worked : (shown shown_now : List Shown) (answers answers_now : List Answer) → shown_now ≡ shown → answers_now ≡ answers → HasWorked moment shown answers shown_now answers_now
  none_worked shown shown_now answers answers_now s a = record {
    added = [];
    after = s ∙ sym (append-nil shown);
    answered = a ∙ sym (append-nil answers);
    only = λ x at. absurd (in_none x at);
  }

  -- one entry of work is shown
  only_one : (x y : Shown) → IsOfWork moment x → Contains (x ∷ []) y → IsOfWork moment y
  only_one x y is at = ⊎_elim (λ (same : x ≡ y). subst (IsOfWork moment) same is) (λ (none : Contains [] y). absurd (in_none y none)) (first_or_other x y [] at)

  -- the moment was noted
  pub noted_worked : (shown shown_now : List Shown) (answers answers_now : List Answer) → shown_now ≡ shown ++ Notes moment ∷ [] → answers_now ≡ answers → HasWorked moment shown answers shown_now answers_now
  noted_worked shown shown_now answers answers_now s a = record {
    added = Notes moment ∷ [];
    after = s;
    answered = a ∙ sym (append-nil answers);
    only = λ x at. only_one (Notes moment) x refl at;
  }

  -- an answer was given
  pub answer_worked : (shown shown_now : List Shown) (answers answers_now : List Answer) (a : Answer) → shown_now ≡ shown ++ answer_shown (Some a) → answers_now ≡ answers ++ a ∷ [] → HasWorked moment shown answers shown_now answers_now
  answer_worked shown shown_now answers answers_now a s is = record {
    added = Answers a ∷ [];
    after = s;
    answered = is;
    only = λ x at. only_one (Answers a) x tt at;
  }

  pub more_worked : (s t u : List Shown) (x y z : List Answer) → HasWorked moment s x t y → HasWorked moment t y u z → HasWorked moment s x u z
  more_worked s t u x y z f g = record {
    added = f.added ++ g.added;
    after = g.after ∙ (ap (λ (es : List Shown). es ++ g.added) f.after ∙ append_assoc s f.added g.added);
    answered =
        g.answered
        ∙ (ap (λ (es : List Answer). es ++ flat_map answers_by g.added) f.answered
        ∙ (append_assoc x (flat_map answers_by f.added) (flat_map answers_by g.added)
        ∙ ap (λ (es : List Answer). x ++ es) (sym (flat_map-append answers_by f.added g.added))));
    only = λ e at. ⊎_elim (f.only e) (g.only e) (Contains-append_cases f.added g.added e at);
  }

  -- then nothing was shown
  pub then_none : (s t u : List Shown) (x y z : List Answer) → HasWorked moment s x t y → u ≡ t → z ≡ y → HasWorked moment s x u z
  then_none s t u x y z f same same_answers = more_worked s t u x y z f (none_worked t u y z same same_answers)

  -- then the moment was noted
  pub then_noted : (s t u : List Shown) (x y z : List Answer) → HasWorked moment s x t y → u ≡ t ++ Notes moment ∷ [] → z ≡ y → HasWorked moment s x u z
  then_noted s t u x y z f noted same_answers = more_worked s t u x y z f (noted_worked t u y z noted same_answers)

  -- the same, from where it began
  pub from_same : (s t u : List Shown) (x y z : List Answer) → t ≡ s → y ≡ x → HasWorked moment t y u z → HasWorked moment s x u z
  from_same s t u x y z same same_answers f = subst (λ (p : List Shown × List Answer). HasWorked moment p.0 p.1 u z) (λ i. (same i, same_answers i)) f

-- ---- letters that are to leave

pub none_leave : (leaving now : List (Letter Body)) → now ≡ leaving → LeaveToo leaving now
none_leave leaving now same = record { more = []; behind = same ∙ sym (append-nil leaving) }

pub one_leaves : (leaving now : List (Letter Body)) (l : Letter Body) → now ≡ leaving ++ l ∷ [] → LeaveToo leaving now
one_leaves leaving now l is = record { more = l ∷ []; behind = is }

pub more_leave : (a b c : List (Letter Body)) → LeaveToo a b → LeaveToo b c → LeaveToo a c
more_leave a b c f g = record {
  more = f.more ++ g.more;
  behind = g.behind ∙ (ap (λ (ls : List (Letter Body)). ls ++ g.more) f.behind ∙ append_assoc a f.more g.more);
}

-- ---- at rest

-- a letter is under way still
pub still_letters : (n now : NodesView) → has_letters n ≡ true → now ≡ n → has_letters now ≡ false → ⊥
still_letters n now some same none = (let both : true ≡ false = sym some ∙ (sym (ap has_letters same) ∙ none) in absurd (cc both))

pub rests : (v : MemberView) → is_quiet v.nodes ≡ true → (has_letters v.nodes ≡ false → NoBatchHere v) → IsMemberAtRest v
rests v quiet cut =
    let n = v.nodes in
    let first = and_parts (not (has_letters n)) (not (list_any has_job n.executors) && not (list_any has_due n.executors)) quiet in
    let rest = and_parts (not (list_any has_job n.executors)) (not (list_any has_due n.executors)) first.1 in
    record {
      none_comes = nothing_in n.mail (not-false (length n.mail == 0) (not-true (has_letters n) first.0));
      none_runs = not-true (list_any has_job n.executors) rest.0;
      none_is_due = not-true (list_any has_due n.executors) rest.1;
      none_is_cut = cut (not-true (has_letters n) first.0);
    }
