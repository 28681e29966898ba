-- What may follow in an order of what is shown may follow in the order of all deeds.
use Rattle.std.proofs.Common.{◌≡◌, ℕ, List, [], ◌∷◌, ◌++◌, Option, sym, ap, ◌∙◌, subst, append_assoc}
use Rattle.std.proofs.lemmas.List.{append-nil}
use Rattle.site_laws.specs.Orders.{AreAllowed, entry_of, tagged, all_shown}
use Rattle.site_laws.proofs.Filled.{shown_both}

module _ {D V : Type 0} (shown : D → Option V) (May : List (ℕ × V) → ℕ × V → Type 0) where
  -- what the deed shows may follow
  abbrev pub MayShow : List (ℕ × D) → ℕ × D → Type 0
  MayShow before x = AreAllowed May (all_shown shown before) (tagged x.0 (entry_of shown (shown x.1)))

  split_allowed : (before xs ys : List (ℕ × V)) → AreAllowed May before (xs ++ ys) → AreAllowed May before xs × AreAllowed May (before ++ xs) ys
  split_allowed before [] ys all = (tt, subst (λ (b : List (ℕ × V)). AreAllowed May b ys) (sym (append-nil before)) all)
  split_allowed before (x ∷ xs) ys all =
      let rest = split_allowed (before ++ x ∷ []) xs ys all.1 in
      ((all.0, rest.0), subst (λ (b : List (ℕ × V)). AreAllowed May b ys) (append_assoc before (x ∷ []) xs) rest.1)

  one_shown : (before : List (ℕ × D)) (x : ℕ × D) → all_shown shown (before ++ x ∷ []) ≡ all_shown shown before ++ tagged x.0 (entry_of shown (shown x.1))
  one_shown before x = shown_both shown before (x ∷ []) ∙ ap (λ (vs : List (ℕ × V)). all_shown shown before ++ vs) (append-nil (tagged x.0 (entry_of shown (shown x.1))))

  pub allowed : (before full : List (ℕ × D)) → AreAllowed May (all_shown shown before) (all_shown shown full) → AreAllowed MayShow before full
  allowed before [] all = tt
  allowed before (x ∷ full) all =
      let parts = split_allowed (all_shown shown before) (tagged x.0 (entry_of shown (shown x.1))) (all_shown shown full) all in
      (parts.0, allowed (before ++ x ∷ []) full (subst (λ (b : List (ℕ × V)). AreAllowed May b (all_shown shown full)) (sym (one_shown before x)) parts.1))
