-- Numbers, and lists of addresses.
use Rattle.std.proofs.Common.{◌≡◌, ℕ, zero, suc, ◌+◌, ◌<◌, ◌≤◌, ◌^◌, ℤ, pos, negsuc, List, [], ◌∷◌, ◌++◌, length, get_or, take, map, Option, Some, None, Global, Result, Ok, Err, refl, sym, ap, ◌∙◌, subst, arith}
use Rattle.std.specs.Prelude.{unsigned_abs, true, false, ◌==◌, Vec, IfOk, IfSome, IfNone}
use Rattle.std.proofs.lemmas.Bool.Decides.{nat_tests}
use Rattle.std.specs.List.{AllZip}
use Rattle.std.specs.Int.{FitsUnsignedBits}
use Rattle.std.specs.Net.Grammar.{IsSocketText}
use Rattle.std.specs.declared.net.socket_addr.SocketAddr.{SocketAddr}
use Rattle.std.proofs.lemmas.List.{map_more, length-map}
use Rattle.std.proofs.lemmas.Option.{same_Some, none-some}
use Rattle.hex.specs.declared.error.FromHexError.{FromHexError}
use Rattle.hex.specs.Hex.{decode_sized}
use Rattle.toml.specs.declared.value.Value.{Value}
use Rattle.toml.specs.Data.{Data, as_str, as_integer, as_array}
use Rattle.toml.specs.View.{view, items_view}
use Rattle.site_file.specs.Form.{IsHex, IsNumber, IsPath, IsAddress, AreAddresses, HasLength, list_of}

-- the number that `try_from` gives
pub number_is : (z : ℤ) (n : ℕ) → FitsUnsignedBits 32 z → n ≡ unsigned_abs z → z ≡ pos n
number_is (pos k) n fits e = ap pos (sym e)
number_is (negsuc k) n fits e = absurd fits

-- what does not fit 32 bits is no number up to a limit that does
pub too_large : (least most n : ℕ) (value : Data) (z : ℤ) → most < 2 ^ 32 → Some z ≡ as_integer value → ¬ FitsUnsignedBits 32 z → ¬ IsNumber least most value n
too_large least most n value z small is unfit h =
    let same : z ≡ pos n = same_Some z (pos n) (is ∙ h.is) in
    let fits : n < 2 ^ 32 = omega (arith, h.not_more, small) in
    unfit (subst (FitsUnsignedBits 32) (sym same) fits)

pos_same : (m n : ℕ) → pos m ≡ pos n → m ≡ n
pos_same m n e = cc e

-- the number of a value is one
pub same_number : (least most n k : ℕ) (value : Data) → Some (pos k) ≡ as_integer value → IsNumber least most value n → n ≡ k
same_number least most n k value is h = pos_same n k (same_Some (pos n) (pos k) (sym h.is ∙ sym is))

pub list_of-view : (vs : List Value) → list_of (items_view vs) ≡ map view vs
list_of-view [] = refl
list_of-view (v ∷ vs) = ap (λ ds. view v ∷ ds) (list_of-view vs)

pub length-list_of : (vs : List Value) → length (list_of (items_view vs)) ≡ length vs
length-list_of vs = ap length (list_of-view vs) ∙ length-map vs view

zip_push : (ds : List Data) (bs : List SocketAddr) (d : Data) (b : SocketAddr) → AllZip IsAddress ds bs → IsAddress d b → AllZip IsAddress (ds ++ d ∷ []) (bs ++ b ∷ [])
zip_push [] [] d b h k = (k, tt)
zip_push [] (x ∷ bs) d b h k = absurd h
zip_push (x ∷ ds) [] d b h k = absurd h
zip_push (x ∷ ds) (y ∷ bs) d b h k = (h.0, zip_push ds bs d b h.1 k)

-- one address more is read
pub zip_more : (vs : List Value) (i : ℕ) (v : Value) (bs : List SocketAddr) (b : SocketAddr) → i < length vs → get_or vs i v ≡ v → AllZip IsAddress (map view (take i vs)) bs → IsAddress (view v) b
    → AllZip IsAddress (map view (take (i + 1) vs)) (bs ++ b ∷ [])
zip_more vs i v bs b less is h k =
    let same : map view (take (i + 1) vs) ≡ map view (take i vs) ++ view v ∷ [] = map_more view vs i v less ∙ ap (λ (x : Value). map view (take i vs) ++ view x ∷ []) is in
    subst (λ ds. AllZip IsAddress ds (bs ++ b ∷ [])) (sym same) (zip_push (map view (take i vs)) bs (view v) b h k)

-- each value is an address
pub zip_at : (vs : List Value) (bs : List SocketAddr) (i : ℕ) (v : Value) → i < length vs → get_or vs i v ≡ v → AllZip IsAddress (map view vs) bs → (b : SocketAddr) × IsAddress (view v) b
zip_at [] bs i v less is h = absurd (omega (arith, less))
zip_at (x ∷ vs) [] i v less is h = absurd h
zip_at (x ∷ vs) (b ∷ bs) zero v less is h = (b, subst (λ (y : Value). IsAddress (view y) b) is h.0)
zip_at (x ∷ vs) (b ∷ bs) (suc i) v less is h = zip_at vs bs i v (omega (arith, less)) is h.1

pub zip_length : (ds : List Data) (bs : List SocketAddr) → AllZip IsAddress ds bs → length ds ≡ length bs
zip_length [] [] h = refl
zip_length [] (b ∷ bs) h = absurd h
zip_length (d ∷ ds) [] h = absurd h
zip_length (d ∷ ds) (b ∷ bs) h = ap suc (zip_length ds bs h.1)

-- ---- values that do not fit

pub no_hex : (n : ℕ) (value : Data) (bytes : List ℕ) → None ≡ as_str value → IsHex n value bytes → ⊥
no_hex n value bytes none h = none-some h.0 (none ∙ h.1)

err_no_ok : (e : FromHexError) (bytes : List ℕ) → ◌≡◌ {A = Result (List ℕ) FromHexError} (Err e) (Ok bytes) → ⊥
err_no_ok e bytes h = cc h

pub other_hex : (n : ℕ) (value : Data) (text bytes : List ℕ) (e : FromHexError) → Some text ≡ as_str value → Err e ≡ decode_sized text n → IsHex n value bytes → ⊥
other_hex n value text bytes e is bad h =
    let same : h.0 ≡ text = same_Some h.0 text (sym h.1 ∙ sym is) in
    err_no_ok e bytes (bad ∙ subst (λ (t : List ℕ). decode_sized t n ≡ Ok bytes) same h.2)

pub no_number : (least most n : ℕ) (value : Data) → None ≡ as_integer value → IsNumber least most value n → ⊥
no_number least most n value none h = none-some (pos n) (none ∙ h.is)

pub out_of_range : (least most n k : ℕ) (value : Data) → Some (pos k) ≡ as_integer value → (least ≤ k → most < k) → IsNumber least most value n → ⊥
out_of_range least most n k value is out h =
    let same = same_number least most n k value is h in
    let more : most < k = out (omega (arith, same, h.not_less)) in
    omega (arith, same, more, h.not_more)

pub no_path : (value : Data) (path : List ℕ) → None ≡ as_str value → IsPath value path → ⊥
no_path value path none h = none-some path (none ∙ h.0)

pub empty_path : (value : Data) (text path : List ℕ) → Some text ≡ as_str value → length text ≡ 0 → IsPath value path → ⊥
empty_path value text path is empty h =
    let same : length path ≡ length text = ap length (same_Some path text (sym h.0 ∙ sym is)) in
    omega (arith, same, empty, h.1)

pub no_address : (value : Data) (address : SocketAddr) → None ≡ as_str value → IsAddress value address → ⊥
no_address value address none h = none-some h.0 (none ∙ h.1)

pub other_address : (value : Data) (text : List ℕ) (address : SocketAddr) → Some text ≡ as_str value → ((a : SocketAddr) → ¬ IsSocketText text a) → IsAddress value address → ⊥
other_address value text address is none h =
    none address (subst (λ (t : List ℕ). IsSocketText t address) (same_Some h.0 text (sym h.1 ∙ sym is)) h.2)

pub no_list : (value : Data) (bs : List SocketAddr) → None ≡ as_array value → AreAddresses value bs → ⊥
no_list value bs none h = none-some h.items (none ∙ h.is)

-- a list of values is what it is
listed_are : (value : Data) (vs : List Value) (bs : List SocketAddr) → Some (items_view vs) ≡ as_array value → AreAddresses value bs → AllZip IsAddress (map view vs) bs
listed_are value vs bs is h =
    subst (λ (ds : List Data). AllZip IsAddress ds bs) (ap list_of (same_Some h.items (items_view vs) (sym h.is ∙ sym is)) ∙ list_of-view vs) h.each

pub empty_list : (value : Data) (vs : List Value) (bs : List SocketAddr) → Some (items_view vs) ≡ as_array value → length vs ≡ 0 → AreAddresses value bs → ⊥
empty_list value vs bs is empty h =
    let same : length (map view vs) ≡ length bs = zip_length (map view vs) bs (listed_are value vs bs is h) in
    let long = length-map vs view in
    omega (arith, same, long, empty, h.some_addresses)

pub other_list : (value : Data) (vs : List Value) (bs : List SocketAddr) → Some (items_view vs) ≡ as_array value
    → ((cs : List SocketAddr) → ¬ AllZip IsAddress (map view vs) cs) → AreAddresses value bs → ⊥
other_list value vs bs is none h = none bs (listed_are value vs bs is h)

pub full_list : (value : Data) (vs : List Value) (bs : List SocketAddr) → Some (items_view vs) ≡ as_array value → 0 < length vs → AllZip IsAddress (map view vs) bs → AreAddresses value bs
full_list value vs bs is long h = record {
  items = items_view vs;
  is = sym is;
  each = subst (λ (ds : List Data). AllZip IsAddress ds bs) (sym (list_of-view vs)) h;
  some_addresses = (let same = zip_length (map view vs) bs h in let all = length-map vs view in omega (arith, same, all, long));
}

pub has_length : (value : Data) (vs : List Value) → Some (items_view vs) ≡ as_array value → HasLength value (length vs)
has_length value vs is = record { items = items_view vs; is = sym is; long = length-list_of vs }

pub no_length : (value : Data) (n : ℕ) → None ≡ as_array value → HasLength value n → ⊥
no_length value n none h = none-some h.items (none ∙ h.is)

-- ---- what `addresses_in` gives, as `listed` does

pub some_listed : {E : Type 0} (value : Data) (vs us : List Value) (r : Result (Option (Vec SocketAddr Global)) E) → Some (items_view vs) ≡ as_array value → 0 < length vs → us ≡ vs
    → IfOk r (λ found. IfSome found (λ bs. AllZip IsAddress (map view us) bs.items)) → IfOk r (λ found. IfSome found (λ bs. AreAddresses value bs.items))
some_listed value vs us (Ok (Some bs)) is long same h = full_list value vs bs.items is long (subst (λ (xs : List Value). AllZip IsAddress (map view xs) bs.items) same h)
some_listed value vs us (Ok None) is long same h = tt
some_listed value vs us (Err e) is long same h = tt

pub none_listed : {E : Type 0} (value : Data) (vs us : List Value) (r : Result (Option (Vec SocketAddr Global)) E) → Some (items_view vs) ≡ as_array value → us ≡ vs
    → IfOk r (λ found. IfNone found ((bs : List SocketAddr) → AllZip IsAddress (map view us) bs → ⊥)) → IfOk r (λ found. IfNone found ((bs : List SocketAddr) → AreAddresses value bs → ⊥))
none_listed value vs us (Ok (Some bs)) is same h = tt
none_listed value vs us (Ok None) is same h = λ bs are. other_list value vs bs is (λ cs k. h cs (subst (λ (xs : List Value). AllZip IsAddress (map view xs) cs) (sym same) k)) are
none_listed value vs us (Err e) is same h = tt

pub empty_is : (n : ℕ) → true ≡ (n == 0) → n ≡ 0
empty_is n e = grind (arith, nat_tests)

pub filled_is : (n : ℕ) → false ≡ (n == 0) → 0 < n
filled_is n e = grind (arith, nat_tests)
