use Rattle.std.proofs.Common.{◌≡◌, ℕ, zero, suc, false, replicate, get_or, refl}
use Rattle.pages.specs.Page.{page_count}
use Rattle.pages.proofs.page_set.PageSet.new.Goals as goal

none_of : (n p : ℕ) → get_or (replicate n false) p false ≡ false
none_of zero p = refl
none_of (suc n) zero = refl
none_of (suc n) (suc p) = none_of n p

pub returns : goal.returns
returns c = none_of page_count
