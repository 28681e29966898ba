-- The end of a chain over the state that stands.
use Rattle.std.proofs.Common.{◌≡◌, ◌<◌, ◌≤◌, true, false, List, [], ◌∷◌, ◌++◌, length, Option, None, Some, refl, sym, ap, arith}
use Rattle.std.specs.Prelude.{IfSome, IsTrue, is_some, ◌||◌}
use Rattle.std.specs.List.{list_any}
use Rattle.std.proofs.lemmas.Bool.{cond_both, cond-true, cond-false}
use Rattle.decrees.specs.declared.standing.Standing.{Standing}
use Rattle.states.specs.State.{StateView}
use Rattle.executor.specs.Work.{TentativeView}
use Rattle.rollback.specs.Chain.{ChainView, tip, chain_tip, AreOver, without_first, first_replies, is_standing, chain_from, replies_on_commit}

-- It begins with the state that stands, and its members are the last ones, so its tip is the same.
pub record IsEndOf (st : Standing) (have : StateView) (ts : List TentativeView) (c : ChainView) : Type 0 where
  pub stands : is_standing st c.have ≡ true
  pub fewer : length c.members ≤ length ts
  pub same : tip have ts ≡ chain_tip c
  pub over : AreOver have ts → AreOver c.have c.members

end_of_more : (st : Standing) (have : StateView) (t : TentativeView) (ts : List TentativeView) (c : Option ChainView) → IfSome c (IsEndOf st t.after ts) → IfSome c (IsEndOf st have (t ∷ ts))
end_of_more st have t ts None e = tt
end_of_more st have t ts (Some c) e = record {
  stands = e.stands;
  fewer = omega (arith, e.fewer);
  same = e.same;
  over = λ over. e.over over.1;
}

pub end_is : (st : Standing) (have : StateView) (ts : List TentativeView) → IfSome (chain_from st have ts) (IsEndOf st have ts)
end_is st have [] =
    cond_both (is_standing st have) _ _ (λ (c : Option ChainView). IfSome c (IsEndOf st have []))
    (λ e. record { stands = e; fewer = omega arith; same = refl; over = λ over. over }) (λ _. tt)
end_is st have (t ∷ ts) =
    cond_both (is_standing st have) _ _ (λ (c : Option ChainView). IfSome c (IsEndOf st have (t ∷ ts)))
    (λ e. record { stands = e; fewer = omega arith; same = refl; over = λ over. over })
    (λ _. end_of_more st have t ts (chain_from st t.after ts) (end_is st t.after ts))

-- it has the state that stands
pub has_is : (st : Standing) (have : StateView) (ts : List TentativeView) → (is_standing st have || list_any (λ (t : TentativeView). is_standing st t.after) ts) ≡ is_some (chain_from st have ts)
has_is st have [] =
    cond_both (is_standing st have) _ _ (λ (c : Option ChainView). (is_standing st have || false) ≡ is_some c) (λ e. rw e refl) (λ e. rw e refl)
has_is st have (t ∷ ts) =
    cond_both (is_standing st have) _ _ (λ (c : Option ChainView). (is_standing st have || list_any (λ (x : TentativeView). is_standing st x.after) (t ∷ ts)) ≡ is_some c)
    (λ e. rw e refl) (λ e. rw e (has_is st t.after ts))

-- if the committed state is another one, the end is the same without the first member
pub end_goes_on : (st : Standing) (have : StateView) (ts : List TentativeView) → is_standing st have ≡ false
    → chain_from st (without_first have ts).have (without_first have ts).members ≡ chain_from st have ts
end_goes_on st have [] e = refl
end_goes_on st have (t ∷ ts) e = sym (cond-false (is_standing st have) _ _ e)

pub replies_go_on : (st : Standing) (have : StateView) (ts : List TentativeView) → is_standing st have ≡ false
    → replies_on_commit st have ts ≡ first_replies ts ++ replies_on_commit st (without_first have ts).have (without_first have ts).members
replies_go_on st have [] e = refl
replies_go_on st have (t ∷ ts) e = cond-false (is_standing st have) _ _ e

-- and there is one
pub has_first : (st : Standing) (have : StateView) (ts : List TentativeView) → is_standing st have ≡ false → IsTrue (is_some (chain_from st have ts)) → 0 < length ts
has_first st have [] e has = absurd (cc (ap (λ (c : Option ChainView). is_some c) (cond-false (is_standing st have) (Some (record { have = have; members = [] })) None e), has))
has_first st have (t ∷ ts) e has = omega arith

-- if it is the one, this is the end
pub end_here : (st : Standing) (have : StateView) (ts : List TentativeView) → is_standing st have ≡ true → chain_from st have ts ≡ Some (record { have = have; members = ts })
end_here st have [] e = cond-true (is_standing st have) _ _ e
end_here st have (t ∷ ts) e = cond-true (is_standing st have) _ _ e

pub no_reply_here : (st : Standing) (have : StateView) (ts : List TentativeView) → is_standing st have ≡ true → replies_on_commit st have ts ≡ []
no_reply_here st have [] e = refl
no_reply_here st have (t ∷ ts) e = cond-true (is_standing st have) _ _ e
