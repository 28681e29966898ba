-- What steps and the drop of what is due leave as it is.
use Rattle.std.proofs.Common.{◌≡◌, ◌≢◌, ℕ, ℤ, zero, suc, ◌+◌, ◌<◌, Bool, true, false, cond, List, [], ◌∷◌, ◌++◌, length, take, get_or, set, Some, None, true≢false, refl, sym, ap, ◌∙◌, arith, subst, slice_get}
use Rattle.std.specs.Prelude.{◌==◌, All}
use Rattle.std.specs.Cmp.Lexicographic.{nat_list_cmp_total}
use Rattle.std.specs.FinMap.{entries, insert, remove, get, get-insert, get-remove}
use Rattle.std.proofs.lemmas.Bool.Decides.{nat_tests}
use Rattle.std.proofs.lemmas.List.{get_or-set_same, get_or-set_other, length-set, take_more}
use Rattle.std.proofs.lemmas.List.Elements.{All-push}
use Rattle.std.proofs.lemmas.Map.Entries.{option_filter}
use Rattle.std.proofs.lemmas.Option.{get_or_from_slice_get, slice_get_within}
use Rattle.proto.specs.Update.{key_of_update}
use Rattle.items.specs.Map.{Items, alive, is_alive}
use Rattle.items.proofs.AliveLemmas.{get-alive}
use Rattle.item_steps.specs.Effect.{effect, changed, touched, updated}
use Rattle.item_steps.specs.Steps.{reads, touching_reads}
use Rattle.item_steps.specs.Schedule.{Placed, IsInterleaving, items_after, stamped}
use Rattle.item_steps.specs.declared.step.Stamp.{Stamp}
use Rattle.item_steps.specs.declared.step.Step.{Step}
use Rattle.item_steps.specs.declared.step.Step.TheVariants.{Read, ReadAndTouch, Update}
use Rattle.item_steps.specs.declared.effect.Change.{Change}
use Rattle.item_steps.specs.declared.effect.Change.TheVariants.{Leave, Put, Remove}
use Rattle.pages.specs.Page.{page_number, page_entries, page_items}
use Rattle.pages.specs.Others.{has_page, AreSameBeside, AreWithin, Covers, CoversAll}
use Rattle.pages.proofs.KeyLemmas.{other_key, all_keys}
use Rattle.pages.proofs.PartLemmas.{entries-page_items, get-page_items}

-- maps with the same items at the keys of a page have the same entries there
same_page : (m n : Items) (p : ℕ) → ((q : List ℕ) → page_number q ≡ p → get m q ≡ get n q) → page_entries m p ≡ page_entries n p
same_page m n p same = sym (entries-page_items m p) ∙ ap entries (all_keys (page_items m p) (page_items n p) at) ∙ entries-page_items n p
  where
    at : (q : List ℕ) → get (page_items m p) q ≡ get (page_items n p) q
    at q = get-page_items m p q ∙ by (page_number q == p) refl ∙ sym (get-page_items n p q)
      where
        by : (b : Bool) → (page_number q == p) ≡ b → cond (page_number q == p) (get m q) None ≡ cond (page_number q == p) (get n q) None
        by true e = let here : page_number q ≡ p = grind (arith, nat_tests) in rw (e, same q here) refl
        by false e = rw e refl

-- a change at a key of another page
changed-elsewhere : (m : Items) (p : ℕ) (k : List ℕ) (c : Change) → page_number k ≢ p → page_entries m p ≡ page_entries (changed m k c) p
changed-elsewhere m p k Leave other = refl
changed-elsewhere m p k (Put item) other = same_page m (insert m k item) p (λ q here.
    sym (get-insert nat_list_cmp_total m k item q ∙ ap (λ b. cond b (Some item) (get m q)) (other_key q k (λ e. other (sym e ∙ here)))))
changed-elsewhere m p k Remove other = same_page m (remove m k) p (λ q here.
    sym (get-remove nat_list_cmp_total m k q ∙ ap (λ b. cond b None (get m q)) (other_key q k (λ e. other (sym e ∙ here)))))

-- a page that is not in the set is not the one at this number, which is
not_there : (pages : List Bool) (k p : ℕ) → has_page pages k ≡ true → has_page pages p ≡ false → k ≢ p
not_there pages k p there out same = true≢false (sym there ∙ ap (has_page pages) same ∙ out)

pub step-elsewhere : (pages : List Bool) (m : Items) (s : Step) (place : Stamp) → Covers pages s → AreSameBeside pages m (effect m s place).0
step-elsewhere pages m (Read key) place covers p l out = refl
step-elsewhere pages m (ReadAndTouch key exptime) place covers p l out =
    changed-elsewhere m p key (touched exptime place (get m key)).0 (not_there pages (page_number key) p covers out)
step-elsewhere pages m (Update u) place covers p l out =
    changed-elsewhere m p (key_of_update u) (updated u place (get m (key_of_update u))).0 (not_there pages (page_number (key_of_update u)) p covers out)

-- reads change no page
pub reads-covered : (pages : List Bool) (keys : List (List ℕ)) → All (Covers pages) (reads keys)
reads-covered pages [] k d lt = absurd (omega arith)
reads-covered pages (key ∷ keys) zero d lt = tt
reads-covered pages (key ∷ keys) (suc k) d lt = reads-covered pages keys k d (omega arith)

-- reads that touch change the pages of their keys
pub touching-covered : (pages : List Bool) (exptime : ℤ) (keys : List (List ℕ)) → All (λ key. has_page pages (page_number key) ≡ true) keys → All (Covers pages) (touching_reads exptime keys)
touching-covered pages exptime [] has k d lt = absurd (omega arith)
touching-covered pages exptime (key ∷ keys) has zero d lt = has 0 key (omega arith)
touching-covered pages exptime (key ∷ keys) has (suc k) d lt = touching-covered pages exptime keys (λ j f l. has (suc j) f (omega arith)) k d (omega arith)

-- a set to which a page was added
pub added-within : (old new : List Bool) (n : ℕ) → has_page new n ≡ true → ((p : ℕ) → p ≢ n → has_page new p ≡ has_page old p) → AreWithin old new
added-within old new n has others p there = by (p == n) refl
  where
    by : (b : Bool) → (p == n) ≡ b → has_page new p ≡ true
    by true e =
        let same : n ≡ p = grind (arith, nat_tests) in
        ap (has_page new) (sym same) ∙ has
    by false e =
        let other : p ≢ n = grind (arith, nat_tests) in
        others p other ∙ there

-- the set has the pages of one key more
pub keys-next : (old new : List Bool) (keys : List (List ℕ)) (i : ℕ) (key : List ℕ) → i < length keys → key ≡ get_or keys i key
    → All (λ k. has_page old (page_number k) ≡ true) (take i keys) → AreWithin old new → has_page new (page_number key) ≡ true → All (λ k. has_page new (page_number k) ≡ true) (take (i + 1) keys)
keys-next old new keys i key within is so_far more own =
    subst (All (λ k. has_page new (page_number k) ≡ true)) (sym (take_more keys i key within ∙ ap (λ x. take i keys ++ x ∷ []) (sym is)))
    (All-push (λ k. has_page new (page_number k) ≡ true) (take i keys) key (λ k d l. more _ (so_far k d l)) own)

pub order-elsewhere : (pages : List Bool) (base : Stamp) (m : Items) (order : List Placed) → CoversAll pages order → AreSameBeside pages m (items_after base m order)
order-elsewhere pages base m [] covers p l out = refl
order-elsewhere pages base m (s ∷ order) covers p l out =
    step-elsewhere pages m s.1 (stamped base s.0) (covers 0 s (omega arith)) p l out
    ∙ order-elsewhere pages base (effect m s.1 (stamped base s.0)).0 order (λ k d lt. covers (suc k) d (omega arith)) p l out

-- a set that covers each list covers what is at an index
covered-at : (pages : List Bool) (lists : List (List Placed)) (i : ℕ) (list : List Placed) → All (CoversAll pages) lists → slice_get lists i ≡ Some list → CoversAll pages list
covered-at pages lists i list covers there =
    subst (CoversAll pages) (get_or_from_slice_get lists i list [] there) (covers i [] (slice_get_within lists i list there))

-- what is left of a list after its first step is covered still
left-covered : (pages : List Bool) (lists : List (List Placed)) (i : ℕ) (s : Placed) (rest : List Placed) → All (CoversAll pages) lists → slice_get lists i ≡ Some (s ∷ rest)
    → All (CoversAll pages) (set lists i rest)
left-covered pages lists i s rest covers there k d lt = elsewhere (k == i) refl
  where
    within : k < length lists
    within = omega (arith, lt, length-set lists i rest)

    elsewhere : (b : Bool) → (k == i) ≡ b → CoversAll pages (get_or (set lists i rest) k d)
    elsewhere true e =
        let here : k ≡ i = grind (arith, nat_tests) in
        subst (CoversAll pages) (sym (ap (λ n. get_or (set lists i rest) n d) here ∙ get_or-set_same lists i rest d (slice_get_within lists i (s ∷ rest) there)))
        (λ j f l. covered-at pages lists i (s ∷ rest) covers there (suc j) f (omega arith))
    elsewhere false e =
        let other : k ≢ i = grind (arith, nat_tests) in
        subst (CoversAll pages) (sym (get_or-set_other lists i k rest d other)) (covers k d within)

pub interleaved-covers : (pages : List Bool) (lists : List (List Placed)) (order : List Placed) → All (CoversAll pages) lists → IsInterleaving lists order → CoversAll pages order
interleaved-covers pages lists [] covers interleaves k d lt = absurd (omega arith)
interleaved-covers pages lists (s ∷ order) covers interleaves zero d lt =
    covered-at pages lists interleaves.0 (s ∷ interleaves.1) covers interleaves.2 0 d (omega arith)
interleaved-covers pages lists (s ∷ order) covers interleaves (suc k) d lt =
    interleaved-covers pages (set lists interleaves.0 interleaves.1) order
    (left-covered pages lists interleaves.0 s interleaves.1 covers interleaves.2) interleaves.3 k d (omega arith)

pub more-beside : (less more : List Bool) (m n : Items) → AreWithin less more → AreSameBeside less m n → AreSameBeside more m n
more-beside less more m n within same p l out = same p l (by (has_page less p) refl)
  where
    by : (b : Bool) → has_page less p ≡ b → has_page less p ≡ false
    by true e = absurd (true≢false (sym (within p e) ∙ out))
    by false e = e

-- a page of which nothing is due
pub alive-elsewhere : (m : Items) (p moment : ℕ) (page : Items) → page ≡ page_items m p → alive page moment ≡ page → page_entries m p ≡ page_entries (alive m moment) p
alive-elsewhere m p moment page is none = same_page m (alive m moment) p at
  where
    at : (q : List ℕ) → page_number q ≡ p → get m q ≡ get (alive m moment) q
    at q here =
        let own : (page_number q == p) ≡ true = grind (arith, nat_tests) in
        let stands : get page q ≡ get m q = ap (λ (x : Items). get x q) is ∙ get-page_items m p q ∙ ap (λ b. cond b (get m q) None) own in
        sym stands ∙ ap (λ (x : Items). get x q) (sym none) ∙ get-alive page moment q ∙ ap (option_filter (is_alive moment)) stands ∙ sym (get-alive m moment q)
