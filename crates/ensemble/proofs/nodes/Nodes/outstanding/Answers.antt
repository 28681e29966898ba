use Rattle.std.proofs.Common.{rules, ◌≡◌, ◌<◌, ◌≤◌, ◌-◌, ℕ, List, length, None, Some, slice_get, sym, ap, ◌∙◌, subst}
use Rattle.std.specs.Prelude.{Option, IfOk, slice_index_or}
use Rattle.std.proofs.lemmas.Bool.{ne_eqb}
use Rattle.std.proofs.lemmas.Option.{slice_get-get_or}
use Rattle.sessions.specs.declared.request.Request.{Request}
use Rattle.proxies.specs.Proxy.{ProxyView, request_of}
use Rattle.ensemble.specs.Shown.{outstanding_in, outstanding_at}
use Rattle.ensemble.proofs.Lists.{none_past}
use Rattle.ensemble.proofs.nodes.Nodes.outstanding.Goals as goal

pub returns-in-Some : goal.returns-in-Some
returns-in-Some c =
    let list = c.deref.result.now in
    let place = c.from-place.result in
    let proxy = c.in-Some.proxy.now in
    let same_list : c.deref.result.now ≡ c.args.self.now.proxies = search rules in
    let same_place : c.from-place.result ≡ c.args.number - 1 = search rules in
    let below : c.from-place.result < length c.deref.result.now = search rules in
    let is : slice_index_or c.deref.result.now c.from-place.result c.in-Some.proxy.now ≡ c.in-Some.proxy.now = search rules in
    let got : slice_get list place ≡ Some proxy = slice_get-get_or list place proxy below ∙ ap Some is in
    let there : slice_get c.args.self.now.proxies (c.args.number - 1) ≡ Some proxy = subst (λ (p : List ProxyView × ℕ). slice_get p.0 p.1 ≡ Some proxy) (λ i. (same_list i, same_place i)) got in
    let same : request_of proxy.asked ≡ outstanding_at c.args.self.now.proxies c.args.number = rw (ne_eqb c.args.number 0 c.if-number-eq0.false) (sym (ap outstanding_in there)) in
    subst (λ (o : Option Request). IfOk c.again.result (λ (request : Option Request). request ≡ o)) same c.again.ensures

pub returns-in-None : goal.returns-in-None
returns-in-None c =
    let same_list : c.deref.result.now ≡ c.args.self.now.proxies = search rules in
    let same_place : c.from-place.result ≡ c.args.number - 1 = search rules in
    let past : length c.deref.result.now ≤ c.from-place.result = search rules in
    let got : slice_get c.deref.result.now c.from-place.result ≡ None = none_past c.deref.result.now c.from-place.result past in
    let there : slice_get c.args.self.now.proxies (c.args.number - 1) ≡ None = subst (λ (p : List ProxyView × ℕ). slice_get p.0 p.1 ≡ None) (λ i. (same_list i, same_place i)) got in
    rw (ne_eqb c.args.number 0 c.if-number-eq0.false) (sym (ap outstanding_in there))
