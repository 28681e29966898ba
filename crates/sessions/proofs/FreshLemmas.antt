-- The number that comes after what is kept.
use Rattle.std.proofs.Common.{◌≡◌, ℕ, ◌+◌, ◌-◌, ◌≤◌, true, false, cond, Option, Some, None, nat_eq, ap, ◌∙◌, arith}
use Rattle.std.proofs.lemmas.Bool.Decides.{nat_tests}
use Rattle.std.specs.Option.{option_map_or, option_eq, SomeIff}
use Rattle.std.specs.Ordering.{nat_cmp, eq_by_cmp}
use Rattle.std.specs.Cmp.{nat_cmp_total}
use Rattle.std.specs.FinMap as map
use Rattle.sessions.specs.declared.request.Request.{Request}
use Rattle.sessions.specs.declared.sessions.LastReply.{LastReply}
use Rattle.sessions.specs.Fresh.{Replies, is_next}

above : (n : ℕ) → nat_eq n (n + 1) ≡ false
above n = grind (arith, nat_tests)

same : (n : ℕ) → eq_by_cmp nat_cmp n n ≡ true
same n = grind (arith, nat_tests)

pub is_next-insert : (sessions : Replies) (r : Request) (kept : LastReply) → kept.number ≡ r.number → is_next (map.insert sessions r.client kept) r ≡ false
is_next-insert sessions r kept e =
    let got = map.get-insert nat_cmp_total sessions r.client kept r.client in
    ap (λ o. nat_eq r.number (option_map_or (λ (k : LastReply). k.number + 1) o 1)) (got ∙ ap (λ b. cond b (Some kept) (map.get sessions r.client)) (same r.client))
    ∙ ap (λ n. nat_eq r.number (n + 1)) e ∙ above r.number

-- to take 1 away and compare is to compare with 1 more
pub checked_is : (o : Option ℕ) (k n : ℕ) → SomeIff o (1 ≤ n) (n - 1) → option_eq nat_eq o (Some k) ≡ nat_eq n (k + 1)
checked_is None k n h = grind (arith, nat_tests)
checked_is (Some x) k n h = grind (arith, nat_tests)
