-- The blocks of a padded text, and the hash value after them.
use Rattle.std.proofs.Common.{◌≡◌, ℕ, zero, suc, ◌+◌, ◌-◌, ◌*◌, ◌/◌, ◌%◌, ◌^◌, ◌<◌, ◌≤◌, List, ◌∷◌, ◌++◌, length, take, drop, replicate, slice_set, refl, sym, ap, ◌∙◌, arith, length-append, length-drop, add-one, add-zero}
use Rattle.std.proofs.lemmas.List.{append_assoc, drop-append-le, drop-drop, drop-replicate, drop-take, length-replicate, take-replicate, take-take}
use Rattle.std.proofs.Math.Seq.{set-append_seam, take-append-add}
use Rattle.std.proofs.lemmas.Slice.{take-put_mid}
use Rattle.std.specs.Int.{w64, to_be_bytes}
use Rattle.sha2.specs.Sha256.{compress, digest_bytes, hash_after, initial_hash_256, padded_message, padding, sha256}
use Rattle.sha2.proofs.Absorbing256.{hash_after-append, hash_after_next}
use Rattle.sha_lanes.specs.Lanes.{block_count}
use borrow.Rule.Slice.PartMut.{put_mid}

-- e more blocks, read from t in place of the message p after its first q blocks
pub hash_after_parts : (h p t : List ℕ) (q e : ℕ)
    → ((k : ℕ) → k < e → take 64 (drop (k * 64) t) ≡ take 64 (drop ((q + k) * 64) p))
    → hash_after (hash_after h p q) t e ≡ hash_after h p (q + e)
unfolding hash_after
hash_after_parts h p t q zero same = rw add-zero refl
hash_after_parts h p t q (suc e) same =
    let before = hash_after_parts h p t q e (λ k lt. same k (omega arith)) in
    let at : q + suc e ≡ (q + e) + 1 = omega arith in
    rw (at, hash_after_next h p (q + e), before, same e (omega arith)) refl

-- the blocks of t, if t begins with what p has after its first q blocks
pub block_of_rest : (p t : List ℕ) (q e k : ℕ) → take (64 * e) t ≡ drop (64 * q) p → k < e
    → take 64 (drop (k * 64) t) ≡ take 64 (drop ((q + k) * 64) p)
block_of_rest p t q e k same lt =
    let room : 64 * e ≡ k * 64 + (64 * e - k * 64) = omega arith in
    let place : 64 * q + k * 64 ≡ (q + k) * 64 = omega arith in
    let cut : drop (k * 64) (take (64 * e) t) ≡ take (64 * e - k * 64) (drop (k * 64) t) =
    ap (λ n. drop (k * 64) (take n t)) room ∙ drop-take (k * 64) (64 * e - k * 64) t in
    sym (take-take 64 (64 * e - k * 64) (drop (k * 64) t) (omega arith))
    ∙ ap (take 64) (sym cut ∙ ap (drop (k * 64)) same ∙ drop-drop (k * 64) (64 * q) p ∙ ap (λ n. drop n p) place)

-- a padded message has whole blocks
pub length-padded : (m : List ℕ) → length (padded_message m) ≡ 64 * block_count (length m)
length-padded m =
    let n = length m in
    let zeros : List ℕ = replicate ((119 - n % 64) % 64) 0 in
    let bits : length (to_be_bytes w64 (n * 8 % 2 ^ 64)) ≡ 8 = refl in
    let count : length zeros ≡ (119 - n % 64) % 64 = length-replicate {A = ℕ} ((119 - n % 64) % 64) 0 in
    omega (arith, length-append m (padding n), length-append (0x80 ∷ zeros) (to_be_bytes w64 (n * 8 % 2 ^ 64)), count, bits)

-- the last blocks: what the text has after its first blocks, the bit 1 and zeros up to the length
pub tail_filled : (text rest t bits : List ℕ) (whole r start k end : ℕ) → 64 * whole ≤ length text → length text < 64 * whole + 120
    → rest ≡ drop (64 * whole) text → r ≡ length rest → t ≡ rest ++ drop r (replicate {A = ℕ} 128 0)
    → end ≡ 64 * (block_count (length text) - whole) → start ≡ end - 8 → bits ≡ to_be_bytes w64 (length text * 8 % 2 ^ 64)
    → take end (put_mid start k (slice_set t r 0x80) bits) ≡ drop (64 * whole) (padded_message text)
tail_filled text rest t bits whole r start k end low high er en et ee es eb =
    let n = length text in
    let z = start - (r + 1) in
    let len : r ≡ n - 64 * whole = en ∙ ap length er ∙ length-drop (64 * whole) text in
    let fits : start ≡ r + (z + 1) = omega arith in
    let zeros : z ≡ (119 - n % 64) % 64 = omega arith in
    let more : List ℕ = replicate (127 - r) 0 in
    let left : 128 - r ≡ suc (127 - r) = omega arith in
    let clear : drop r (replicate {A = ℕ} 128 0) ≡ 0 ∷ more = drop-replicate {X = ℕ} r 128 0 ∙ ap (λ i. replicate {A = ℕ} i 0) left in
    let marked : slice_set t r 0x80 ≡ rest ++ 0x80 ∷ more =
    ap (λ l. slice_set l r 0x80) (et ∙ ap (λ l. rest ++ l) clear) ∙ ap (λ i. slice_set (rest ++ 0 ∷ more) i 0x80) en ∙ set-append_seam rest 0 more 0x80 in
    let ending : take (z + 1) (0x80 ∷ more) ≡ 0x80 ∷ replicate z 0 = rw (add-one z, take-replicate {X = ℕ} z (127 - r) 0 (omega arith)) refl in
    let front : take start (slice_set t r 0x80) ≡ rest ++ 0x80 ∷ replicate z 0 =
    ap (take start) marked ∙ ap (λ i. take i (rest ++ 0x80 ∷ more)) (fits ∙ ap (λ i. i + (z + 1)) en)
    ∙ take-append-add rest (0x80 ∷ more) (z + 1) ∙ ap (λ l. rest ++ l) ending in
    let eight : length bits ≡ 8 = rw eb refl in
    let count : length more ≡ 127 - r = length-replicate {A = ℕ} (127 - r) 0 in
    let room : start ≤ length (slice_set t r 0x80) = omega (arith, ap length marked, length-append rest (0x80 ∷ more), count) in
    take-put_mid start k (slice_set t r 0x80) bits end (omega arith) room
    ∙ rw (front, eb, zeros, er, append_assoc) (sym (drop-append-le (64 * whole) text (padding n) low))

-- one more block
pub hash_after_more : (h x s b : List ℕ) (i : ℕ) → s ≡ hash_after h x i → b ≡ take 64 (drop (i * 64) x) → compress s b ≡ hash_after h x (i + 1)
hash_after_more h x s b i es eb = rw (hash_after_next h x i, es, eb) refl

-- the digest of a text, from the hash value before it, after its first q blocks and after the last two
pub digest_in_parts : (m t start before after : List ℕ) (q count : ℕ) → block_count (length m) ≡ count → q ≡ count - 2
    → take (64 * (block_count (length m) - q)) t ≡ drop (64 * q) (padded_message m)
    → start ≡ initial_hash_256 → before ≡ hash_after start m q → after ≡ hash_after before t (count - q)
    → digest_bytes after 8 ≡ sha256 m
unfolding sha256
digest_in_parts m t start before after q count blocks at rest es eb ea =
    let p = padded_message m in
    let e : ℕ = count - q in
    let same : block_count (length m) - q ≡ e = omega arith in
    let whole : length p / 64 ≡ q + e = omega (arith, length-padded m) in
    let first : before ≡ hash_after initial_hash_256 p q =
    eb ∙ ap (λ h. hash_after h m q) es ∙ sym (hash_after-append initial_hash_256 m (padding (length m)) q (omega arith)) in
    let joined = hash_after_parts initial_hash_256 p t q e (λ k lt. block_of_rest p t q e k (rw same at rest) lt) in
    let last : after ≡ hash_after initial_hash_256 p (length p / 64) =
    ea ∙ ap (λ h. hash_after h t e) first ∙ joined ∙ ap (hash_after initial_hash_256 p) (sym whole) in
    ap (λ h. digest_bytes h 8) last
