-- The form of what follows a state without items.
use Rattle.std.proofs.Common.{◌≡◌, ℕ, List, [], ◌∷◌, filter, length, refl, sym, ap, ◌∙◌, arith}
use Rattle.std.specs.Prelude.{nat_le, if◌then◌else◌}
use Rattle.std.specs.FinMap.{entries, empty, len-entries, len-empty}
use Rattle.items.specs.declared.item.Item.{Item}
use Rattle.items.specs.Map.{Items, by_bytes, is_alive, alive}
use Rattle.token.specs.declared.form.Form.TheVariants.{Current, Tree}
use Rattle.pages.proofs.PageLemmas.{entries-alive}
use Rattle.states.specs.declared.form.TheConstants.{FEW_ITEMS}
use Rattle.states.specs.Followed.{form_over}

abbrev pub no_items : Items
no_items = empty

none : (es : List (List ℕ × Item)) → length es ≡ 0 → es ≡ []
none [] e = refl
none (x ∷ es) e = absurd (omega (arith, e))

count_none : (moment : ℕ) → length (entries (alive no_items moment)) ≡ 0
count_none moment =
    ap length (entries-alive no_items moment ∙ ap (filter (λ e. is_alive moment e.1)) (none (entries no_items) (sym (len-entries no_items) ∙ len-empty by_bytes Item)))

pub form_over_none : (moment : ℕ) → form_over (alive no_items moment) ≡ Current
form_over_none moment = ap (λ n. if nat_le n FEW_ITEMS then Current else Tree) (count_none moment)
