-- Proxies keep their numbers.
use Rattle.std.proofs.Common.{◌≡◌, inl, inr, ⊎_elim, ℕ, suc, List, Some, slice_get, slice_set, sym, ap, ◌∙◌, subst}
use Rattle.std.specs.Prelude.{◌≢◌, Bool, Option, Result, Ok, Err, IfOk, OnErr}
use Rattle.base.specs.declared.fault.Fault.{Fault}
use Rattle.proto.specs.declared.command.Command.{Command}
use Rattle.proto.specs.declared.reply.Reply as replies
use Rattle.sessions.specs.declared.request.Request.{Request}
use Rattle.client.specs.RequestProofs.{client_number}
use Rattle.proxies.specs.Proxy.{ProxyView, asks, answers}
use Rattle.ensemble.specs.declared.answer.Answer.{Answer}
use Rattle.ensemble.specs.Nodes.{AreNumbered, IsAskedBy, ProxyGets}
use Rattle.ensemble.proofs.Lists.{set_split}

-- one that is where another one of its number was
set_numbered : (proxies : List ProxyView) (index : ℕ) (was p : ProxyView) → AreNumbered proxies → slice_get proxies index ≡ Some was → p.client ≡ was.client → AreNumbered (slice_set proxies index p)
set_numbered proxies index was p are there same i q at = ⊎_elim
    (λ (here : (i ≡ index) × (q ≡ p)). ap (λ (x : ProxyView). x.client) here.1 ∙ (same ∙ (are index was there ∙ ap suc (sym here.0))))
    (λ (other : (i ≢ index) × (slice_get proxies i ≡ Some q)). are i q other.1)
    (set_split proxies index i p q at)

pub asked_numbered : (old now : List ProxyView) (number : ℕ) (command : Command) (quiet : Bool) (r : Request) → AreNumbered old → IsAskedBy old number command quiet now r → AreNumbered now
asked_numbered old now number command quiet r are a = subst AreNumbered (sym a.after) (set_numbered old a.index a.proxy (asks a.proxy command quiet) are a.there (ap (λ (x : ProxyView). x.client) (λ i. a.proxy)))

-- a request is of the proxy that asked it
pub request_numbered : (old now : List ProxyView) (number : ℕ) (command : Command) (quiet : Bool) (r : Request) → AreNumbered old → IsAskedBy old number command quiet now r → r.client ≡ number
request_numbered old now number command quiet r are a = ap (λ (x : Request). x.client) a.is ∙ (ap client_number (are a.index a.proxy a.there) ∙ sym a.at)

pub got_numbered : (old : List ProxyView) (client number : ℕ) (reply : replies.Reply) (now : List ProxyView) (answer : Option Answer) → AreNumbered old → ProxyGets old client number reply now answer → AreNumbered now
got_numbered old client number reply now answer are (inl a) = subst AreNumbered (sym a.after) (set_numbered old a.index a.proxy (answers a.proxy number) are a.there (ap (λ (x : ProxyView). x.client) (λ i. a.proxy)))
got_numbered old client number reply now answer are (inr same) = subst AreNumbered (sym same.0) are

-- so they do if one asks or fails to
pub ask_numbered : (old now : List ProxyView) (number : ℕ) (command : Command) (quiet : Bool) (result : Result Request Fault) → AreNumbered old → IfOk result (λ r. IsAskedBy old number command quiet now r) → OnErr result (now ≡ old) → AreNumbered now
ask_numbered old now number command quiet (Ok r) are asked same = asked_numbered old now number command quiet r are asked
ask_numbered old now number command quiet (Err fault) are asked same = subst AreNumbered (sym same) are

pub ask_of : (old now : List ProxyView) (number : ℕ) (command : Command) (quiet : Bool) (result : Result Request Fault) → AreNumbered old → IfOk result (λ r. IsAskedBy old number command quiet now r) → IfOk result (λ r. r.client ≡ number)
ask_of old now number command quiet (Ok r) are asked = request_numbered old now number command quiet r are asked
ask_of old now number command quiet (Err fault) are asked = tt
