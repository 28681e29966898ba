-- A tree in branches: its root is that over all leaves, and how it is made and renewed.
use Rattle.std.proofs.Common.{◌≡◌, ◌≢◌, ℕ, zero, suc, ◌+◌, ◌*◌, ◌<◌, ◌/◌, ◌%◌, Bool, false, List, [], ◌∷◌, ◌++◌, map, length, take, drop, get_or, set, refl, sym, ap, ◌∙◌, arith}
use Rattle.std.specs.Prelude.{◌^◌}
use Rattle.std.proofs.Math.Nat.{pow-succ'}
use Rattle.std.proofs.lemmas.List.{ext_get_or, length-set, get_or-set_same, get_or-set_other, length-take-le, length-drop, take-take, drop-take, take-append-drop, get_or-take, get_or-drop, flat_map_more, length_push}
use Rattle.token.specs.declared.tree.TheConstants.{HEIGHT}
use Rattle.token.specs.Digest.{level, levels, only, root_of}
use Rattle.token.proofs.Levels.{length-level, levels-append}
use Rattle.pages.specs.Page.{page_count}
use Rattle.pages.specs.Group.{page_in_group, AreLong}
use Rattle.pages.specs.Tree.{leaves_of, branch_height, branch_root, AreBranches}
use Rattle.pages.specs.declared.group.TheConstants.{GROUPS, GROUP_PAGES}
use Rattle.pages.proofs.LongLemmas.{place-of, member-in, long-set, long-push, long-all}

-- ---- the root

length-levels : (n : ℕ) (xs : List (List ℕ)) → length xs ≡ 2 ^ n → length (levels n xs) ≡ 1
length-levels zero xs e = e
length-levels (suc n) xs e =
    let twice : length xs ≡ 2 * 2 ^ n = e ∙ pow-succ' 2 n in
    length-levels n (level xs) (length-level (2 ^ n) xs twice)

the_only : (xs : List (List ℕ)) → length xs ≡ 1 → xs ≡ only xs ∷ []
the_only [] e = absurd (omega arith)
the_only (x ∷ []) e = refl
the_only (x ∷ y ∷ xs) e = absurd (omega arith)

-- what is left of all leaves so many levels up are the roots of the branches
levels-of_branches : (branches : List (List (List ℕ))) → AreLong branches → levels branch_height (leaves_of branches) ≡ map branch_root branches
unfolding root_of
levels-of_branches [] long = refl
levels-of_branches (branch ∷ branches) long =
    levels-append 4 branch (leaves_of branches) long.0
    ∙ (λ i. the_only (levels 4 branch) (length-levels 4 branch long.0) i ++ levels-of_branches branches long.1 i)

-- so the root over all leaves is the one over those roots
pub root-of_branches : (branches : List (List (List ℕ))) → AreLong branches → root_of HEIGHT (leaves_of branches) ≡ branch_root (map branch_root branches)
unfolding root_of
root-of_branches branches long = ap (λ (roots : List (List ℕ)). only (levels 4 roots)) (levels-of_branches branches long)

-- ---- making

-- the digests of one group more
take-add : (a b : ℕ) (xs : List (List ℕ)) → take a xs ++ take b (drop a xs) ≡ take (a + b) xs
take-add a b xs = (λ i. sym (take-take a (a + b) xs (omega arith)) i ++ sym (drop-take a b xs) i) ∙ take-append-drop a (take (a + b) xs)

-- The branches of the first groups are made.
pub record AreMade (digests : List (List ℕ)) (branches : List (List (List ℕ))) (n : ℕ) : Type 0 where
  pub so_far : leaves_of branches ≡ take (GROUP_PAGES * n) digests
  pub count : length branches ≡ n
  pub long : AreLong branches

pub made-none : (digests : List (List ℕ)) → AreMade digests [] 0
made-none digests = record { so_far = refl; count = refl; long = tt }

pub made-next : (digests : List (List ℕ)) (branches : List (List (List ℕ))) (n : ℕ) (branch : List (List ℕ)) → AreMade digests branches n → n < GROUPS → length digests ≡ page_count
    → branch ≡ take GROUP_PAGES (drop (GROUP_PAGES * n) digests) → AreMade digests (branches ++ branch ∷ []) (n + 1)
made-next digests branches n branch made few many is = record {
  so_far = sym (flat_map_more (λ (b : List (List ℕ)). b) [] branches branch) ∙ (λ i. made.so_far i ++ is i) ∙ take-add (GROUP_PAGES * n) GROUP_PAGES digests ∙ ap (λ (k : ℕ). take k digests) next;
  count = length_push branches branch ∙ ap (λ (k : ℕ). k + 1) made.count;
  long = long-push branches branch made.long (ap length is ∙ length-take-le GROUP_PAGES (drop (GROUP_PAGES * n) digests) (omega (arith, few, many, length-drop (GROUP_PAGES * n) digests)));
}
  where
    next : GROUP_PAGES * n + GROUP_PAGES ≡ GROUP_PAGES * (n + 1)
    next = omega arith

-- ---- other digests of one group

module _ (branches : List (List (List ℕ))) (top digests : List (List ℕ)) (group : ℕ) (right : Bool) (are : AreBranches branches top right) (long : length digests ≡ GROUP_PAGES) where
  -- then the top is not right any more
  pub renewed-are : AreBranches (set branches group digests) top false
  renewed-are = record {
    count = length-set branches group digests ∙ are.count;
    each = long-set branches group digests are.each long;
    over = λ is. absurd (cc is);
  }

  pub renewed-count : length (leaves_of (set branches group digests)) ≡ page_count
  renewed-count = omega (arith, long-all (set branches group digests) (long-set branches group digests are.each long), length-set branches group digests, are.count)

  pub renewed-own : (i : ℕ) → group < GROUPS → i < GROUP_PAGES → get_or (leaves_of (set branches group digests)) (page_in_group group i) [] ≡ get_or digests i []
  renewed-own i few l =
      member-in (set branches group digests) group i [] (long-set branches group digests are.each long) l
      ∙ ap (λ (ds : List (List ℕ)). get_or ds i []) (get_or-set_same branches group digests [] (omega (arith, few, are.count)))

  pub renewed-others : (g i : ℕ) → g ≢ group → i < GROUP_PAGES → get_or (leaves_of (set branches group digests)) (page_in_group g i) [] ≡ get_or (leaves_of branches) (page_in_group g i) []
  renewed-others g i other l =
      member-in (set branches group digests) g i [] (long-set branches group digests are.each long) l
      ∙ ap (λ (ds : List (List ℕ)). get_or ds i []) (get_or-set_other branches group g digests [] other) ∙ sym (member-in branches g i [] are.each l)

-- a digest of one group, as one of all
pub digest-in : (digests own : List (List ℕ)) (group i : ℕ) → own ≡ take GROUP_PAGES (drop (GROUP_PAGES * group) digests) → i < GROUP_PAGES
    → get_or own i [] ≡ get_or digests (page_in_group group i) []
digest-in digests own group i is l =
    ap (λ (ds : List (List ℕ)). get_or ds i []) is ∙ get_or-take GROUP_PAGES (drop (GROUP_PAGES * group) digests) i [] l ∙ get_or-drop (GROUP_PAGES * group) digests i []

-- digests that are the same in each group are the same
pub same-each : (digests others : List (List ℕ)) → length digests ≡ page_count → length others ≡ page_count
    → ((g i : ℕ) → g < GROUPS → i < GROUP_PAGES → get_or digests (page_in_group g i) [] ≡ get_or others (page_in_group g i) []) → digests ≡ others
same-each digests others many count same = ext_get_or [] digests others (many ∙ sym count) (λ k within.
    let at = place-of k (omega (arith, within, many)) in
    ap (λ (n : ℕ). get_or digests n []) (sym at.0) ∙ same (k / GROUP_PAGES) (k % GROUP_PAGES) at.1 at.2 ∙ ap (λ (n : ℕ). get_or others n []) at.0)
