use Rattle.std.proofs.Common.{◌≡◌, Some, arith, ◌∙◌, sym, ap, refl}
use Rattle.std.specs.Prelude.{slice_get}
use Rattle.std.proofs.lemmas.Option.{slice_get_read}
use Rattle.process_text.specs.declared.proxy_row.ProxyRow.{ProxyRow}
use Rattle.process_text.proofs.TextLemmas.{one_more_numbered, all_numbered}
use Rattle.process_text.proofs.process_text.are_numbered.Goals as goal

pub loop-number-init : goal.loop-number-init
loop-number-init c = λ i row low e. absurd (omega (arith, low))

pub returns-then-from-number : goal.returns-then-from-number
returns-then-from-number c =
    let row = c.index-rows-number.result in
    let found : slice_get c.args.rows.now c.loop-number.number ≡ Some row = slice_get_read c.args.rows.now _ c.loop-number.number row refl c.loop-number-test.true c.index-rows-number.is in
    let client : row.client ≡ c.from.result = ap (λ (r : ProxyRow). r.client) c.index-rows-number.is ∙ sym c.from.ensures in
    (λ no. absurd (cc no), λ numbered. absurd (c.if-from-number.true (omega (arith, client, numbered c.loop-number.number row found))))

pub loop-number-preserved : goal.loop-number-preserved
loop-number-preserved c =
    let row = c.index-rows-number.result in
    let found : slice_get c.args.rows.now c.loop-number.number ≡ Some row = slice_get_read c.args.rows.now _ c.loop-number.number row refl c.loop-number-test.true c.index-rows-number.is in
    let client : row.client ≡ c.from.result = ap (λ (r : ProxyRow). r.client) c.index-rows-number.is ∙ sym c.from.ensures in
    one_more_numbered c.args.rows.now c.loop-number.number row c.loop-number.invariant found (client ∙ c.if-from-number.false)

pub returns : goal.returns
returns c = (λ yes. all_numbered c.args.rows.now c.loop-number.number (omega (arith, c.loop-number-test.false)) c.loop-number.invariant, λ numbered. refl)
