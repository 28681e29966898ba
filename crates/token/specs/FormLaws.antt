-- No form is a prefix of another.
use Rattle.std.proofs.Common.{◌≡◌, ℕ, List, ◌++◌, refl, ap}
use Rattle.wire.specs.Record.{IsPrefixFree}
use Rattle.wire.specs.FrontLaws.{tail_of, head_of}
use Rattle.token.specs.declared.form.Form.{Form}
use Rattle.token.specs.declared.form.Form.TheVariants.{Old, Current, Tree}
use Rattle.token.specs.Form.{form_text}

pub form_prefix_free : IsPrefixFree form_text
unfolding form_text
form_prefix_free = record { apart = apart }
  where
    apart : (v w : Form) (r s : List ℕ) → form_text v ++ r ≡ form_text w ++ s → (v ≡ w) × (r ≡ s)
    apart Old Old r s e = (refl, tail_of 1 1 r s e)
    apart Current Current r s e = (refl, tail_of 2 2 r s e)
    apart Tree Tree r s e = (refl, tail_of 3 3 r s e)
    apart Old Current r s e = absurd (let marks : 1 ≡ 2 = ap head_of e in cc)
    apart Current Old r s e = absurd (let marks : 2 ≡ 1 = ap head_of e in cc)
    apart Old Tree r s e = absurd (let marks : 1 ≡ 3 = ap head_of e in cc)
    apart Tree Old r s e = absurd (let marks : 3 ≡ 1 = ap head_of e in cc)
    apart Current Tree r s e = absurd (let marks : 2 ≡ 3 = ap head_of e in cc)
    apart Tree Current r s e = absurd (let marks : 3 ≡ 2 = ap head_of e in cc)
