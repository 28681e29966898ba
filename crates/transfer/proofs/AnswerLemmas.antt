-- What answers a need is a parcel.
use Rattle.std.proofs.Common.{◌≡◌, ℕ, ◌<◌, Bool, [], refl, arith}
use Rattle.std.specs.Prelude.{slice_index_or}
use Rattle.std.specs.Str.{bytes_eq}
use Rattle.pages.specs.Page.{page_count, page_digest_in}
use Rattle.pages.specs.Form.{layout_of}
use Rattle.states.specs.State.{StateView, IsState}
use Rattle.states.proofs.PageTextLemmas.{own_page_items}
use Rattle.transfer.specs.declared.need.Need.{Need}
use Rattle.transfer.specs.Parcel.{PageOf, IsParcel, answer_of, own_page}
use Rattle.transfer.proofs.PickLemmas.{rising, few, each}

pub answer_is_parcel : (s : StateView) (q : Need) → IsState s → 0 < s.number → IsParcel (answer_of s q)
answer_is_parcel s q is later =
    let same : ℕ → Bool = λ k. bytes_eq (page_digest_in (layout_of s.form) s.items k) (slice_index_or q.digests k []) in
    record {
      later = later;
      few = omega (arith, is.few);
      sessions_fit = is.sessions_fit;
      pages_fit = record {
        count = omega (arith, few same (own_page s) 0 page_count);
        each = each same (own_page s) PageOf 0 page_count (λ k low high. (omega (arith, high), own_page_items s.items k));
      };
      rising = rising same (own_page s) 0 page_count;
      laid = each same (own_page s) (λ page. page.1.layout ≡ layout_of s.form) 0 page_count (λ k low high. refl);
    }
