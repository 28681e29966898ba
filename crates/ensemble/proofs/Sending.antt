-- A request that is sent to one executor is one of those to all.
use Rattle.std.proofs.Common.{◌≡◌, ◌⊎◌, inl, inr, ⊎_elim, ℕ, zero, suc, ◌<◌, ◌+◌, ◌*◌, List, [], ◌∷◌, ◌++◌, refl, sym, subst, arith}
use Rattle.std.specs.Prelude.{Contains}
use Rattle.std.proofs.lemmas.List.Elements.{Contains-append_left, Contains-push, Contains-push_cases}
use Rattle.sessions.specs.declared.request.Request.{Request}
use Rattle.decrees.specs.declared.node.Letter.{Letter}
use Rattle.decrees.specs.declared.node.Node.TheVariants.{Executor}
use Rattle.exec_lines.specs.declared.body.Body.{Body}
use Rattle.exec_lines.specs.declared.body.Body.TheVariants.{Want}
use Rattle.client.specs.Talk.{client_letter, wants, wants_below}
use Rattle.ensemble.specs.Nodes.{NodesView, MayGrow, IsPosted}
use Rattle.ensemble.proofs.Lists.{in_none}

pub below_or_last : (n m : ℕ) → n < suc m → (n < m) ⊎ (n ≡ m)
below_or_last zero zero below = inr refl
below_or_last zero (suc m) below = inl (omega arith)
below_or_last (suc n) zero below = absurd (omega (arith, below))
below_or_last (suc n) (suc m) below = ⊎_elim (λ (less : n < m). inl (omega (arith, less))) (λ (same : n ≡ m). inr (omega (arith, same))) (below_or_last n m (omega (arith, below)))

want_among : (client n m : ℕ) (r : Request) → n < m → Contains (wants_below client m r) (client_letter client (Executor n) (Want r))
want_among client n zero r below = absurd (omega (arith, below))
want_among client n (suc m) r below =
    ⊎_elim (λ (less : n < m). Contains-append_left (wants_below client m r) _ _ (want_among client n m r less)) (λ (same : n ≡ m). subst (λ (k : ℕ). Contains (wants_below client m r ++ client_letter client (Executor m) (Want r) ∷ []) (client_letter client (Executor k) (Want r))) (sym same) (Contains-push (wants_below client m r) _)) (below_or_last n m below)

-- it was sent to one
pub posted_to_one : (n : NodesView) (client to : ℕ) (r : Request) (letters mail : List (Letter Body)) → to < 2 * n.u + 1 → letters ≡ client_letter client (Executor to) (Want r) ∷ [] → MayGrow n.mail letters mail → IsPosted n client r (record n { mail = mail })
posted_to_one n client to r letters mail below is grows =
    let letter : Letter Body = client_letter client (Executor to) (Want r) in
    record {
      sent = letter ∷ [];
      among = λ l c. ⊎_elim (λ (none : Contains [] l). absurd (in_none l none)) (λ (same : letter ≡ l). subst (λ (x : Letter Body). Contains (wants n.u client r) x) same (want_among client to (2 * n.u + 1) r below)) (Contains-push_cases [] letter l c);
      grows = subst (λ (ls : List (Letter Body)). MayGrow n.mail ls mail) is grows;
      after = refl;
    }

-- it was sent to all
pub posted_to_all : (n : NodesView) (client : ℕ) (r : Request) (letters mail : List (Letter Body)) → letters ≡ wants n.u client r → MayGrow n.mail letters mail → IsPosted n client r (record n { mail = mail })
posted_to_all n client r letters mail is grows = record { sent = wants n.u client r; among = λ l c. c; grows = subst (λ (ls : List (Letter Body)). MayGrow n.mail ls mail) is grows; after = refl }

-- it was sent to none
pub posted_to_none : (n : NodesView) (client : ℕ) (r : Request) → IsPosted n client r n
posted_to_none n client r = record { sent = []; among = λ l c. absurd (in_none l c); grows = inr refl; after = refl }
