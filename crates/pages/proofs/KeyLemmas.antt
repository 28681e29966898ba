-- Keys that are identified by their bytes, and maps by what is at their keys.
use Rattle.std.proofs.Common.{◌≡◌, ◌≢◌, ℕ, Bool, true, false, List, refl, ap}
use Rattle.std.specs.Ordering.{eq_by_cmp, is_eq}
use Rattle.std.specs.declared.cmp.Ordering.{Ordering}
use Rattle.std.specs.declared.cmp.Ordering.TheVariants.{Less, Equal, Greater}
use Rattle.std.specs.Cmp.Lexicographic.{nat_list_cmp_total}
use Rattle.std.specs.FinMap.{get, same_map, nat_cmp-IsAntisymmetric, slice_cmp-IsAntisymmetric}
use Rattle.items.specs.Map.{Items, by_bytes}
use Rattle.pages.specs.Page.{page_number}

-- keys that tie are one
pub same_key : (q k : List ℕ) → eq_by_cmp by_bytes q k ≡ true → q ≡ k
same_key q k h = slice_cmp-IsAntisymmetric nat_cmp-IsAntisymmetric q k (tied (by_bytes q k) h)
  where
    tied : (r : Ordering) → is_eq r ≡ true → r ≡ Equal
    tied Less h = absurd (let e : false ≡ true = h in cc)
    tied Equal h = refl
    tied Greater h = absurd (let e : false ≡ true = h in cc)

-- keys of different pages do not tie
pub other_key : (q k : List ℕ) → page_number q ≢ page_number k → eq_by_cmp by_bytes q k ≡ false
other_key q k apart = by (eq_by_cmp by_bytes q k) refl
  where
    by : (b : Bool) → eq_by_cmp by_bytes q k ≡ b → eq_by_cmp by_bytes q k ≡ false
    by true e = absurd (apart (ap page_number (same_key q k e)))
    by false e = e

-- maps with the same items at each key are one
pub all_keys : (m n : Items) → ((q : List ℕ) → get m q ≡ get n q) → m ≡ n
all_keys m n is = same_map nat_list_cmp_total (slice_cmp-IsAntisymmetric nat_cmp-IsAntisymmetric) m n is
