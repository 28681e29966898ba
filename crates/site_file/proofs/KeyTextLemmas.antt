-- The text of a key file.
use Rattle.std.proofs.Common.{◌≡◌, inl, inr, ℕ, ◌<◌, List, [], ◌∷◌, ◌++◌, length, take, drop, Option, Some, None, Result, Ok, Err, refl, sym, ap, ◌∙◌, subst, arith}
use Rattle.std.proofs.lemmas.List.{take_at, drop_at, length-append, take-append-drop, nil_from_length}
use Rattle.hex.specs.declared.error.FromHexError.{FromHexError}
use Rattle.hex.specs.Hex.{decode_sized}
use Rattle.hex.proofs.HexLemmas.{decode_sized-ok}
use Rattle.site_file.specs.declared.limits.TheConstants.{KEY_BYTES}
use Rattle.site_file.specs.declared.key_file.KeyFault.TheVariants as fault
use Rattle.site_file.specs.KeyText.{EndsLine, BeginsWithKey, BeginsWithLine, HasKeys}
use Rattle.site_file.specs.Laws.{RefusedHasNoKeys, KeysAreOne}

ok_same : (a b : List ℕ) → ◌≡◌ {A = Result (List ℕ) FromHexError} (Ok a) (Ok b) → a ≡ b
ok_same a b e = cc e

ok_no_err : (a : List ℕ) (e : FromHexError) → ◌≡◌ {A = Result (List ℕ) FromHexError} (Ok a) (Err e) → ⊥
ok_no_err a e h = cc h

digits_long : (text key rest : List ℕ) (h : BeginsWithKey text key rest) → length h.digits ≡ 64
digits_long text key rest h = decode_sized-ok h.digits KEY_BYTES key h.key_is

pub digits_are : (text key rest : List ℕ) (h : BeginsWithKey text key rest) → take 64 text ≡ h.digits
digits_are text key rest h = ap (take 64) h.spelled ∙ take_at h.digits rest 64 (digits_long text key rest h)

pub rest_is : (text key rest : List ℕ) → BeginsWithKey text key rest → drop 64 text ≡ rest
rest_is text key rest h = ap (drop 64) h.spelled ∙ drop_at h.digits rest 64 (digits_long text key rest h)

-- a key takes 64 bytes
pub has_room : (text key rest : List ℕ) → BeginsWithKey text key rest → length text < 64 → ⊥
has_room text key rest h short =
    let long = digits_long text key rest h in
    let all : length text ≡ length (h.digits ++ rest) = ap length h.spelled in
    let sum = length-append h.digits rest in
    absurd (omega (arith, long, all, sum, short))

pub not_hex : (text key rest : List ℕ) (e : FromHexError) → BeginsWithKey text key rest → decode_sized (take 64 text) KEY_BYTES ≡ Err e → ⊥
not_hex text key rest e h bad = ok_no_err key e (sym h.key_is ∙ (ap (λ d. decode_sized d KEY_BYTES) (sym (digits_are text key rest h)) ∙ bad))

key_same : (text a b r s : List ℕ) → BeginsWithKey text a r → BeginsWithKey text b s → (a ≡ b) × (r ≡ s)
key_same text a b r s h k = (
  ok_same a b (sym h.key_is ∙ (ap (λ d. decode_sized d KEY_BYTES) (sym (digits_are text a r h) ∙ digits_are text b s k) ∙ k.key_is)),
  sym (rest_is text a r h) ∙ rest_is text b s k,
)

cons_no_nil : (x : ℕ) (xs : List ℕ) → x ∷ xs ≡ [] → ⊥
cons_no_nil x xs e = cc e

cons_same : (x : ℕ) (xs ys : List ℕ) → x ∷ xs ≡ x ∷ ys → xs ≡ ys
cons_same x xs ys e = ap (drop 1) e

end_same : (text r s : List ℕ) → EndsLine text r → EndsLine text s → r ≡ s
end_same text r s (inl a) (inl b) = a.1 ∙ sym b.1
end_same text r s (inl a) (inr b) = absurd (cons_no_nil 10 s (sym b ∙ a.0))
end_same text r s (inr a) (inl b) = absurd (cons_no_nil 10 r (sym a ∙ b.0))
end_same text r s (inr a) (inr b) = cons_same 10 r s (sym a ∙ b)

-- a text begins with one line
pub line_same : (text a b r s : List ℕ) → BeginsWithLine text a r → BeginsWithLine text b s → (a ≡ b) × (r ≡ s)
line_same text a b r s h k =
    let same = key_same text a b h.behind k.behind h.begins k.begins in
    (same.0, end_same k.behind r s (subst (λ t. EndsLine t r) same.1 h.ends) k.ends)

nothing_is_short : (xs : List ℕ) → [] ≡ xs → 0 < length xs → ⊥
nothing_is_short xs e long = let none : 0 ≡ length xs = ap length e in omega (arith, none, long)

no_first : (text first : List ℕ) (second : Option (List ℕ)) → ((key rest : List ℕ) → ¬ BeginsWithLine text key rest) → HasKeys text first second → ⊥
no_first text first None none h = none first [] h
no_first text first (Some second) none h = none first h.0 h.1

no_second : (text first : List ℕ) (second : Option (List ℕ)) (key rest : List ℕ) → BeginsWithLine text key rest → 0 < length rest
    → ((other more : List ℕ) → ¬ BeginsWithLine rest other more) → HasKeys text first second → ⊥
no_second text first None key rest line long none h = nothing_is_short rest (line_same text first key [] rest h line).1 long
no_second text first (Some second) key rest line long none h =
    none second [] (subst (λ t. BeginsWithLine t second []) (line_same text first key h.0 rest h.1 line).1 h.2)

no_more : (text first : List ℕ) (second : Option (List ℕ)) (key rest other more : List ℕ) → BeginsWithLine text key rest → BeginsWithLine rest other more → 0 < length more
    → HasKeys text first second → ⊥
no_more text first None key rest other more line next long h =
    let same : [] ≡ rest = (line_same text first key [] rest h line).1 in
    has_room [] other next.behind (subst (λ t. BeginsWithKey t other next.behind) (sym same) next.begins) (omega arith)
no_more text first (Some second) key rest other more line next long h =
    let same : h.0 ≡ rest = (line_same text first key h.0 rest h.1 line).1 in
    nothing_is_short more (line_same rest second other [] more (subst (λ t. BeginsWithLine t second []) same h.2) next).1 long

pub refused_has_none : RefusedHasNoKeys
refused_has_none text fault.First keys why has = no_first text keys.first keys.second why has
refused_has_none text fault.Second keys why has = no_second text keys.first keys.second why.0 why.1 why.2 why.3 why.4 has
refused_has_none text fault.More keys why has = no_more text keys.first keys.second why.0 why.1 why.2 why.3 why.4 why.5 why.6 has

keys_same : (text a b : List ℕ) (p q : Option (List ℕ)) → HasKeys text a p → HasKeys text b q → (a ≡ b) × (p ≡ q)
keys_same text a b None None h k = ((line_same text a b [] [] h k).0, refl)
keys_same text a b None (Some q) h k =
    let same : [] ≡ k.0 = (line_same text a b [] k.0 h k.1).1 in
    absurd (has_room [] q k.2.behind (subst (λ t. BeginsWithKey t q k.2.behind) (sym same) k.2.begins) (omega arith))
keys_same text a b (Some p) None h k =
    let same : h.0 ≡ [] = (line_same text a b h.0 [] h.1 k).1 in
    absurd (has_room [] p h.2.behind (subst (λ t. BeginsWithKey t p h.2.behind) same h.2.begins) (omega arith))
keys_same text a b (Some p) (Some q) h k =
    let same = line_same text a b h.0 k.0 h.1 k.1 in
    let next = line_same k.0 p q [] [] (subst (λ t. BeginsWithLine t p []) same.1 h.2) k.2 in
    (same.0, ap Some next.0)

pub has_one : KeysAreOne
has_one text one other h k = keys_same text one.first other.first one.second other.second h k

-- ---- what the reader has shown

joined : (a b c d : List ℕ) → a ≡ b → c ≡ d → a ++ c ≡ b ++ d
joined a b c d p q = λ i. p i ++ q i

pub begins_with : (text digits key rest : List ℕ) → digits ≡ take 64 text → rest ≡ drop 64 text → Ok key ≡ decode_sized digits KEY_BYTES → BeginsWithKey text key rest
begins_with text digits key rest front back is = record {
  digits = digits;
  key_is = sym is;
  spelled = sym (take-append-drop 64 text) ∙ joined (take 64 text) digits (drop 64 text) rest (sym front) (sym back);
}

pub wrong_digits : (text digits key rest : List ℕ) (e : FromHexError) → digits ≡ take 64 text → Err e ≡ decode_sized digits KEY_BYTES → BeginsWithKey text key rest → ⊥
wrong_digits text digits key rest e front bad h = not_hex text key rest e h (ap (λ d. decode_sized d KEY_BYTES) (sym front) ∙ sym bad)

-- the end of a line
pub ended : (text : List ℕ) → length text ≡ 0 → EndsLine text text
ended text empty = let same = nil_from_length text empty in inl (same, same)

pub newline : (text rest : List ℕ) (byte : ℕ) → text ≡ byte ∷ rest → byte ≡ 10 → EndsLine text rest
newline text rest byte e is = inr (e ∙ ap (λ b. b ∷ rest) is)

head_same : (x y : ℕ) (xs ys : List ℕ) → x ∷ xs ≡ y ∷ ys → x ≡ y
head_same x y xs ys e = cc e

pub no_newline : (text rest other : List ℕ) (byte : ℕ) → text ≡ byte ∷ rest → (byte ≡ 10 → ⊥) → EndsLine text other → ⊥
no_newline text rest other byte e not_ten (inl h) = cons_no_nil byte rest (sym e ∙ h.0)
no_newline text rest other byte e not_ten (inr h) = not_ten (head_same byte 10 rest other (sym e ∙ h))

-- a line with a key
pub line_with : (text key behind rest : List ℕ) → BeginsWithKey text key behind → EndsLine behind rest → BeginsWithLine text key rest
line_with text key behind rest begins ends = record { behind = behind; begins = begins; ends = ends }

pub no_key_no_line : (text key rest : List ℕ) → ((k r : List ℕ) → BeginsWithKey text k r → ⊥) → BeginsWithLine text key rest → ⊥
no_key_no_line text key rest none h = none key h.behind h.begins

pub no_end_no_line : (text key behind other rest : List ℕ) → BeginsWithKey text key behind → ((r : List ℕ) → EndsLine behind r → ⊥) → BeginsWithLine text other rest → ⊥
no_end_no_line text key behind other rest begins none h =
    none rest (subst (λ t. EndsLine t rest) (key_same text other key h.behind behind h.begins begins).1 h.ends)

pub one_line : (text key rest : List ℕ) → BeginsWithLine text key rest → length rest ≡ 0 → BeginsWithLine text key []
one_line text key rest h empty = subst (BeginsWithLine text key) (nil_from_length rest empty) h
