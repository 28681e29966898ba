use Rattle.std.specs.Prelude.{take}
use Rattle.pages.specs.Others.{AreWithin}
use Rattle.executor.proofs.OtherPageLemmas.{CoversRequests}
use Rattle.executor.proofs.may_differ.add_requests.Given as goal

-- the set covers the requests so far
abbrev pub invariant-loop-request : goal.invariant-loop-request
invariant-loop-request l = record {
  covers : CoversRequests l.pages (take l.request-index l.requests);
  within : AreWithin l.fn.pages l.pages;
}
