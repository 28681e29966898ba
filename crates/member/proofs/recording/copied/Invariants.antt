use Rattle.std.proofs.Common.{◌≡◌, take}
use Rattle.member.proofs.recording.copied.Given as goal

abbrev pub invariant-loop-proxy : goal.invariant-loop-proxy
invariant-loop-proxy l = l.copies.items ≡ take l.proxy-index l.proxies
