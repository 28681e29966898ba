use Rattle.std.proofs.Common.{◌≡◌, true, All, take}
use Rattle.pages.specs.Page.{page_number}
use Rattle.pages.specs.Others.{has_page, AreWithin}
use Rattle.pages.proofs.page_set.PageSet.add_keys.Given as goal

-- the set has the pages of the keys so far
abbrev pub invariant-loop-key : goal.invariant-loop-key
invariant-loop-key l = record {
  has : All (λ key. has_page l.self (page_number key) ≡ true) (take l.key-index l.keys);
  within : AreWithin l.fn.self l.self;
}
