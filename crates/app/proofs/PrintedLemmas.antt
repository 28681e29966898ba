-- Lines, one for each node.
use Rattle.std.proofs.Common.{◌≡◌, ℕ, ◌+◌, ◌<◌, ◌≤◌, List, ◌++◌, length, drop, get_or, Result, Ok, Err, OnOk, sym, ap, ◌∙◌}
use Rattle.std.proofs.lemmas.List.{append_assoc, append-nil, drop_more, drop_all}
use Rattle.app.specs.Printed.{lines_from}

-- the line that comes next, and then the others
pub lines_next : {N : Type 0} (line : ℕ → N → List ℕ) (number i : ℕ) (xs : List N) (x : N) → i < length xs → x ≡ get_or xs i x
    → lines_from line number (drop i xs) ≡ line number x ++ lines_from line (number + 1) (drop (i + 1) xs)
lines_next {N} line number i xs x l is =
    ap (lines_from line number) (drop_more xs i x l) ∙ ap (λ (y : N). line number y ++ lines_from line (number + 1) (drop (i + 1) xs)) (sym is)

-- one line more was written
pub wrote_line : {N : Type 0} (line : ℕ → N → List ℕ) (number i : ℕ) (xs : List N) (x : N) (out new whole : List ℕ) → i < length xs → x ≡ get_or xs i x
    → out ++ lines_from line number (drop i xs) ≡ whole → new ≡ out ++ line number x → new ++ lines_from line (number + 1) (drop (i + 1) xs) ≡ whole
wrote_line line number i xs x out new whole l is so_far wrote =
    let rest = lines_from line (number + 1) (drop (i + 1) xs) in
    ap (λ t. t ++ rest) wrote ∙ append_assoc out (line number x) rest ∙ ap (λ t. out ++ t) (sym (lines_next line number i xs x l is)) ∙ so_far

-- all were
pub wrote_lines : {N : Type 0} (line : ℕ → N → List ℕ) (number i : ℕ) (xs : List N) (out whole : List ℕ) → length xs ≤ i → out ++ lines_from line number (drop i xs) ≡ whole → out ≡ whole
wrote_lines line number i xs out whole l so_far = sym (append-nil out) ∙ ap (λ ys. out ++ lines_from line number ys) (sym (drop_all i xs l)) ∙ so_far

-- two fields of a line
pub wrote_fields : {T E : Type 0} (r : Result T E) (new middle out a b c d a' c' : List ℕ) → a ≡ a' → c ≡ c' → middle ≡ out ++ (a ++ b) → OnOk r (new ≡ middle ++ (c ++ d)) → OnOk r (new ≡ out ++ (((a' ++ b) ++ c') ++ d))
wrote_fields (Ok t) new middle out a b c d a' c' ea ec m e =
    e ∙ ap (λ t. t ++ (c ++ d)) m ∙ append_assoc out (a ++ b) (c ++ d) ∙ ap (λ t. out ++ t) (sym (append_assoc (a ++ b) c d))
    ∙ (λ i. out ++ (((ea i ++ b) ++ ec i) ++ d))
wrote_fields (Err f) new middle out a b c d a' c' ea ec m e = tt
