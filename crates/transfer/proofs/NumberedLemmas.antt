-- A page with its number at the front of bytes.
use Rattle.std.proofs.Common.{◌≡◌, ℕ, false, List, ◌++◌, sym, ap, ◌∙◌, append_assoc}
use Rattle.std.specs.Int.{w8}
use Rattle.base.specs.declared.fault.Fault.{Fault}
use Rattle.wire.specs.Record.{Always, NoPrefix, Refused}
use Rattle.wire.specs.Number.{num}
use Rattle.wire.specs.NumberLaws.{num_prefix_free, wide8}
use Rattle.wire.proofs.Rows.{unfit}
use Rattle.wire.proofs.Values.{Refused-weaker}
use Rattle.pages.specs.Page.{PageState, Laid}
use Rattle.pages.specs.Joined.{IsOwn}
use Rattle.pages.specs.Record.{page_record, laid_record}
use Rattle.transfer.specs.Parcel.{PageOf, numbered_text}
use Rattle.transfer.specs.ParcelProofs.{numbered_prefix_free}

module _ (bytes : List ℕ) where
  -- if there is no number, there is no page with its number
  pub no_number : (e : Fault) → Refused e (NoPrefix {X = ℕ} (λ n. Unit {0}) (num w8) bytes) → Refused e (NoPrefix PageOf numbered_text bytes)
  no_number e = Refused-weaker e (λ missing. record {
    none = λ v after own same. missing.none v.0 (laid_record v.1 ++ after) tt (same ∙ append_assoc (num w8 v.0) (laid_record v.1) after);
  })

  module _ (n : ℕ) (rest : List ℕ) (got : bytes ≡ num w8 n ++ rest) where
    -- if no page comes after the number, there is no page with its number
    pub no_page : (e : Fault) → Refused e (NoPrefix {X = PageState} Always page_record rest) → Refused e (NoPrefix PageOf numbered_text bytes)
    no_page e = Refused-weaker e (λ missing. record {
      none = λ v after own same.
          let both = (num_prefix_free w8 wide8).apart v.0 n (laid_record v.1 ++ after) rest (sym (append_assoc (num w8 v.0) (laid_record v.1) after) ∙ (sym same ∙ got)) in
          missing.none (record { items = v.1.items; layout = v.1.layout; sealed = false }) after tt (sym both.1);
    })

    -- nor if the page that is there has keys of another number
    pub not_own : (page : PageState) (after : List ℕ) → rest ≡ page_record page ++ after → (IsOwn n page.items → ⊥) → NoPrefix PageOf numbered_text bytes
    not_own page after here wrong =
        let laid : Laid = record { items = page.items; layout = page.layout } in
        unfit PageOf numbered_prefix_free bytes (n, laid) after
        (got ∙ (ap (λ (t : List ℕ). num w8 n ++ t) here ∙ sym (append_assoc (num w8 n) (laid_record laid) after)))
        (λ own. wrong own.1)
