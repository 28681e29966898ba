-- The ballots among all letters.
use Rattle.std.proofs.Common.{◌≡◌, ℕ, zero, suc, List, [], ◌∷◌, ◌++◌, map, Some, refl, sym, ap, ◌∙◌, append_assoc, slice_get}
use Rattle.std.specs.List.{AllByRecursion}
use Rattle.decrees.specs.declared.ballot.Ballot.{Ballot}
use Rattle.decrees.specs.declared.node.Letter.{Letter}
use Rattle.decrees.specs.declared.node.Node.{Node}
use Rattle.exec_lines.specs.declared.body.Body.{Body}
use Rattle.exec_lines.specs.declared.body.Body.TheVariants as body
use Rattle.slots.specs.Sending.{as_sent}
use Rattle.world_laws.specs.Ballots.{ballot_of, ballots}
use Rattle.world_laws.proofs.OwnLetters.{AllFrom}

pub ballots-append : (ls more : List (Letter Body)) → ballots (ls ++ more) ≡ ballots ls ++ ballots more
ballots-append [] more = refl
ballots-append (l ∷ ls) more = ap (λ (z : List (Letter Ballot)). ballot_of l l.body ++ z) (ballots-append ls more) ∙ sym (append_assoc (ballot_of l l.body) (ballots ls) (ballots more))

pub ballots-sent : (ls : List (Letter Ballot)) → ballots (map as_sent ls) ≡ ls
ballots-sent [] = refl
ballots-sent (l ∷ ls) = ap (λ (z : List (Letter Ballot)). l ∷ z) (ballots-sent ls)

-- a letter with a ballot, as a letter of ballots
abbrev pub cast_ballot : Letter Body → Ballot → Letter Ballot
cast_ballot l b = record { from = l.from; to = l.to; body = b }

-- where a ballot is among the ballots
pub place_among : (ls : List (Letter Body)) (k : ℕ) (l : Letter Body) (b : Ballot) → slice_get ls k ≡ Some l → l.body ≡ body.Ballot b → (i : ℕ) × (slice_get (ballots ls) i ≡ Some (cast_ballot l b))
place_among [] k l b at is = absurd (cc)
place_among (x ∷ ls) zero l b at is =
    let same : x ≡ l = cc in
    let says : x.body ≡ body.Ballot b = ap (λ (y : Letter Body). y.body) same ∙ is in
    (0, ap (λ (z : Body). slice_get (ballot_of x z ++ ballots ls) 0) says ∙ ap (λ (y : Letter Body). Some (cast_ballot y b)) same)
place_among (x ∷ ls) (suc k) l b at is = by x.body (place_among ls k l b at is)
  where
    by : (says : Body) → ((i : ℕ) × (slice_get (ballots ls) i ≡ Some (cast_ballot l b))) → (i : ℕ) × (slice_get (ballot_of x says ++ ballots ls) i ≡ Some (cast_ballot l b))
    by (body.Ballot v) later = (suc later.0, later.1)
    by (body.Want r) later = later
    by (body.Order o) later = later
    by (body.Reply number reply) later = later
    by (body.Need q) later = later
    by (body.Parcel p) later = later

-- ballots among letters of one node are from it
pub ballots-from : (n : Node) (ls : List (Letter Body)) → AllFrom n ls → AllByRecursion (λ (l : Letter Ballot). l.from ≡ n) (ballots ls)
ballots-from n [] h = tt
ballots-from n (x ∷ ls) h = by x.body (ballots-from n ls h.1)
  where
    by : (says : Body) → AllByRecursion (λ (l : Letter Ballot). l.from ≡ n) (ballots ls) → AllByRecursion (λ (l : Letter Ballot). l.from ≡ n) (ballot_of x says ++ ballots ls)
    by (body.Ballot v) rest = (h.0, rest)
    by (body.Want r) rest = rest
    by (body.Order o) rest = rest
    by (body.Reply number reply) rest = rest
    by (body.Need q) rest = rest
    by (body.Parcel p) rest = rest
