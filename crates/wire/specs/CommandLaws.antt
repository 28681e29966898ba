-- No command is a prefix of another, nor a request.
use Rattle.std.proofs.Common.{◌≡◌, ℕ, ◌≤◌, ℤ, List, ◌∷◌, ◌++◌, refl, sym, ◌∙◌, ap, arith}
use Rattle.std.specs.Prelude.{nat_eq, nat_lt, if◌then◌else◌}
use Rattle.std.proofs.Props.{props}
use Rattle.std.specs.Int.{w16, w32, w64}
use Rattle.proto.specs.declared.command.StoreVerb.{StoreVerb}
use Rattle.proto.specs.declared.command.StoreVerb.TheVariants.{Set, Add, Replace, Append, Prepend}
use Rattle.proto.specs.declared.command.Update.{Update}
use Rattle.proto.specs.declared.command.Update.TheVariants.{Store, Cas, Delete, Touch, Incr, Decr}
use Rattle.proto.specs.declared.command.Command.{Command}
use Rattle.proto.specs.declared.command.Command.TheVariants as command
use Rattle.wire.specs.Record.{IsPrefixFree}
use Rattle.wire.specs.Number.{num, num_signed}
use Rattle.wire.specs.Block.{block_text}
use Rattle.wire.specs.Key.{key_text, keys_text}
use Rattle.wire.specs.Command.{verb_mark, update_text, command_text, request_text}
use Rattle.wire.specs.FrontLaws.{tail_of, head_of, Passes, same_numbers}
use Rattle.wire.specs.NumberLaws.{num_signed_prefix_free}
use Rattle.wire.specs.BlockLaws.{block_prefix_free}
use Rattle.wire.specs.KeyLaws.{key_prefix_free, keys_prefix_free}
use Rattle.wire.specs.RowLaws.{u16_free, u32_free, u64_free, followed, made_within}

-- the fields of a storage line
abbrev pub store_row : ((List ℕ × ℕ) × ℤ) × List ℕ → List ℕ
store_row p = key_text p.0.0.0 ++ num w32 p.0.0.1 ++ num_signed p.0.1 ++ block_text p.1

store_free : IsPrefixFree store_row
store_free = followed (followed (followed key_prefix_free u32_free) num_signed_prefix_free) block_prefix_free

abbrev pub cas_row : (((List ℕ × ℕ) × ℤ) × List ℕ) × ℕ → List ℕ
cas_row p = store_row p.0 ++ num w64 p.1

cas_free : IsPrefixFree cas_row
cas_free = followed store_free u64_free

abbrev pub touch_row : List ℕ × ℤ → List ℕ
touch_row p = key_text p.0 ++ num_signed p.1

touch_free : IsPrefixFree touch_row
touch_free = followed key_prefix_free num_signed_prefix_free

abbrev pub count_row : List ℕ × ℕ → List ℕ
count_row p = key_text p.0 ++ num w64 p.1

count_free : IsPrefixFree count_row
count_free = followed key_prefix_free u64_free

-- the mark of an update
abbrev pub update_mark : Update → ℕ
update_mark (Store verb _ _ _ _) = verb_mark verb
update_mark (Cas _ _ _ _ _) = 7
update_mark (Delete _) = 8
update_mark (Touch _ _) = 9
update_mark (Incr _ _) = 10
update_mark (Decr _ _) = 11

pub update_head_is : (u : Update) (rest : List ℕ) → head_of (update_text u ++ rest) ≡ update_mark u
update_head_is (Store _ _ _ _ _) rest = refl
update_head_is (Cas _ _ _ _ _) rest = refl
update_head_is (Delete _) rest = refl
update_head_is (Touch _ _) rest = refl
update_head_is (Incr _ _) rest = refl
update_head_is (Decr _ _) rest = refl

pub verb_low : (v : StoreVerb) → 2 ≤ verb_mark v
verb_low Set = omega arith
verb_low Add = omega arith
verb_low Replace = omega arith
verb_low Append = omega arith
verb_low Prepend = omega arith

pub verb_high : (v : StoreVerb) → verb_mark v ≤ 6
verb_high Set = omega arith
verb_high Add = omega arith
verb_high Replace = omega arith
verb_high Append = omega arith
verb_high Prepend = omega arith

pub mark_low : (u : Update) → 2 ≤ update_mark u
mark_low (Store verb _ _ _ _) = verb_low verb
mark_low (Cas _ _ _ _ _) = omega arith
mark_low (Delete _) = omega arith
mark_low (Touch _ _) = omega arith
mark_low (Incr _ _) = omega arith
mark_low (Decr _ _) = omega arith

verb_alike : (v w : StoreVerb) → Passes (nat_eq (verb_mark v) (verb_mark w)) → v ≡ w
verb_alike Set Set h = refl
verb_alike Add Add h = refl
verb_alike Replace Replace h = refl
verb_alike Append Append h = refl
verb_alike Prepend Prepend h = refl
verb_alike _ _ h = absurd h

-- which kind of update it is, by its mark
pub kind_at : ℕ → ℕ
kind_at mark = if nat_lt mark 7 then 6 else mark

abbrev pub kind_of : Update → ℕ
kind_of (Store _ _ _ _ _) = 6
kind_of (Cas _ _ _ _ _) = 7
kind_of (Delete _) = 8
kind_of (Touch _ _) = 9
kind_of (Incr _ _) = 10
kind_of (Decr _ _) = 11

pub verb_kind : (v : StoreVerb) → kind_at (verb_mark v) ≡ 6
unfolding kind_at
verb_kind Set = refl
verb_kind Add = refl
verb_kind Replace = refl
verb_kind Append = refl
verb_kind Prepend = refl

pub kind_is : (u : Update) → kind_at (update_mark u) ≡ kind_of u
unfolding kind_at
kind_is (Store verb _ _ _ _) = verb_kind verb
kind_is (Cas _ _ _ _ _) = refl
kind_is (Delete _) = refl
kind_is (Touch _ _) = refl
kind_is (Incr _ _) = refl
kind_is (Decr _ _) = refl

update_alike : (v w : Update) (r s : List ℕ) → Passes (nat_eq (kind_of v) (kind_of w)) → update_mark v ≡ update_mark w → update_text v ++ r ≡ update_text w ++ s → (v ≡ w) × (r ≡ s)
update_alike (Store verb key flags exptime block) (Store verb' key' flags' exptime' block') r s h m e =
    let verbs = verb_alike verb verb' (same_numbers (verb_mark verb) (verb_mark verb') m) in
    let both = store_free.apart (((key, flags), exptime), block) (((key', flags'), exptime'), block') r s (tail_of (verb_mark verb) (verb_mark verb') _ _ e) in
    ((λ i. Store (verbs i) (both.0 i).0.0.0 (both.0 i).0.0.1 (both.0 i).0.1 (both.0 i).1), both.1)
update_alike (Cas key flags exptime block unique) (Cas key' flags' exptime' block' unique') r s h m e =
    let both = cas_free.apart ((((key, flags), exptime), block), unique) ((((key', flags'), exptime'), block'), unique') r s (tail_of 7 7 _ _ e) in
    ((λ i. Cas (both.0 i).0.0.0.0 (both.0 i).0.0.0.1 (both.0 i).0.0.1 (both.0 i).0.1 (both.0 i).1), both.1)
update_alike (Delete key) (Delete key') r s h m e =
    let both = key_prefix_free.apart key key' r s (tail_of 8 8 _ _ e) in
    (ap Delete both.0, both.1)
update_alike (Touch key exptime) (Touch key' exptime') r s h m e =
    let both = touch_free.apart (key, exptime) (key', exptime') r s (tail_of 9 9 _ _ e) in
    ((λ i. Touch (both.0 i).0 (both.0 i).1), both.1)
update_alike (Incr key delta) (Incr key' delta') r s h m e =
    let both = count_free.apart (key, delta) (key', delta') r s (tail_of 10 10 _ _ e) in
    ((λ i. Incr (both.0 i).0 (both.0 i).1), both.1)
update_alike (Decr key delta) (Decr key' delta') r s h m e =
    let both = count_free.apart (key, delta) (key', delta') r s (tail_of 11 11 _ _ e) in
    ((λ i. Decr (both.0 i).0 (both.0 i).1), both.1)
update_alike _ _ r s h m e = absurd h

pub update_prefix_free : IsPrefixFree update_text
update_prefix_free = record {
  apart = λ v w r s e.
      let marks = sym (update_head_is v r) ∙ (ap head_of e ∙ update_head_is w s) in
      let kinds = sym (kind_is v) ∙ (ap kind_at marks ∙ kind_is w) in
      update_alike v w r s (same_numbers (kind_of v) (kind_of w) kinds) marks e;
}

-- the fields of a gat
abbrev pub timed_keys_row : ℤ × List (List ℕ) → List ℕ
timed_keys_row p = num_signed p.0 ++ keys_text p.1

timed_keys_free : IsPrefixFree timed_keys_row
timed_keys_free = followed num_signed_prefix_free keys_prefix_free

-- the mark of a command
abbrev pub command_mark : Command → ℕ
command_mark (command.Get _) = 0
command_mark (command.Gets _) = 1
command_mark (command.Gat _ _) = 12
command_mark (command.Gats _ _) = 13
command_mark (command.Update u) = update_mark u

pub command_head : (c : Command) (rest : List ℕ) → head_of (command_text c ++ rest) ≡ command_mark c
command_head (command.Get _) rest = refl
command_head (command.Gets _) rest = refl
command_head (command.Gat _ _) rest = refl
command_head (command.Gats _ _) rest = refl
command_head (command.Update u) rest = update_head_is u rest

-- which kind of command it is, by its mark: all updates are one kind
pub command_kind_at : ℕ → ℕ
command_kind_at mark = if nat_lt mark 2 then mark else if nat_lt mark 12 then 2 else mark

abbrev pub command_kind : Command → ℕ
command_kind (command.Get _) = 0
command_kind (command.Gets _) = 1
command_kind (command.Gat _ _) = 12
command_kind (command.Gats _ _) = 13
command_kind (command.Update _) = 2

store_command : (v : StoreVerb) → command_kind_at (verb_mark v) ≡ 2
unfolding command_kind_at
store_command Set = refl
store_command Add = refl
store_command Replace = refl
store_command Append = refl
store_command Prepend = refl

update_command : (u : Update) → command_kind_at (update_mark u) ≡ 2
unfolding command_kind_at
update_command (Store verb _ _ _ _) = store_command verb
update_command (Cas _ _ _ _ _) = refl
update_command (Delete _) = refl
update_command (Touch _ _) = refl
update_command (Incr _ _) = refl
update_command (Decr _ _) = refl

command_kind_is : (c : Command) → command_kind_at (command_mark c) ≡ command_kind c
unfolding command_kind_at
command_kind_is (command.Get _) = refl
command_kind_is (command.Gets _) = refl
command_kind_is (command.Gat _ _) = refl
command_kind_is (command.Gats _ _) = refl
command_kind_is (command.Update u) = update_command u

command_alike : (v w : Command) (r s : List ℕ) → Passes (nat_eq (command_kind v) (command_kind w)) → command_text v ++ r ≡ command_text w ++ s → (v ≡ w) × (r ≡ s)
command_alike (command.Get x) (command.Get y) r s h e =
    let both = keys_prefix_free.apart x y r s (tail_of 0 0 _ _ e) in
    (ap command.Get both.0, both.1)
command_alike (command.Gets x) (command.Gets y) r s h e =
    let both = keys_prefix_free.apart x y r s (tail_of 1 1 _ _ e) in
    (ap command.Gets both.0, both.1)
command_alike (command.Gat t x) (command.Gat t' y) r s h e =
    let both = timed_keys_free.apart (t, x) (t', y) r s (tail_of 12 12 _ _ e) in
    ((λ i. command.Gat (both.0 i).0 (both.0 i).1), both.1)
command_alike (command.Gats t x) (command.Gats t' y) r s h e =
    let both = timed_keys_free.apart (t, x) (t', y) r s (tail_of 13 13 _ _ e) in
    ((λ i. command.Gats (both.0 i).0 (both.0 i).1), both.1)
command_alike (command.Update u) (command.Update v) r s h e =
    let both = update_prefix_free.apart u v r s e in
    (ap command.Update both.0, both.1)
command_alike _ _ r s h e = absurd h

pub command_prefix_free : IsPrefixFree command_text
command_prefix_free = record {
  apart = λ v w r s e.
      let kinds = sym (command_kind_is v) ∙ (ap command_kind_at (sym (command_head v r) ∙ (ap head_of e ∙ command_head w s)) ∙ command_kind_is w) in
      command_alike v w r s (same_numbers (command_kind v) (command_kind w) kinds) e;
}

-- the fields of a request
abbrev pub request_row : (ℕ × ℕ) × Command → List ℕ
request_row p = num w16 p.0.0 ++ num w64 p.0.1 ++ command_text p.1

pub request_row_free : IsPrefixFree request_row
request_row_free = followed (followed u16_free u64_free) command_prefix_free

abbrev AreFirst : (ℕ × ℕ) × Command → Type 0
AreFirst p = (1 ≤ p.0.0) × (1 ≤ p.0.1)

pub request_prefix_free : IsPrefixFree request_text
request_prefix_free = made_within {limits = AreFirst}
    request_row_free
    (λ (p : (ℕ × ℕ) × Command). hlevel props)
    request_text
    (λ r. ((r.client, r.number), r.command))
    (λ r. (r.is_client, r.is_numbered))
    (λ p limits. record { client = p.0.0; number = p.0.1; command = p.1; is_client = limits.0; is_numbered = limits.1 })
    (λ r. refl)
    (λ r. refl)

-- an update whose text begins with this mark is of its kind
pub kind_behind : (mark : ℕ) (bytes : List ℕ) (u : Update) (rest : List ℕ) → mark ∷ bytes ≡ update_text u ++ rest → kind_at mark ≡ kind_of u
kind_behind mark bytes u rest e = ap kind_at (ap head_of e ∙ update_head_is u rest) ∙ kind_is u

pub kind-7 : kind_at 7 ≡ 7
unfolding kind_at
kind-7 = refl

pub kind-9 : kind_at 9 ≡ 9
unfolding kind_at
kind-9 = refl

pub kind-10 : kind_at 10 ≡ 10
unfolding kind_at
kind-10 = refl

pub kind-11 : kind_at 11 ≡ 11
unfolding kind_at
kind-11 = refl

-- a command whose text begins with this mark is of its kind
pub command_kind_behind : (mark : ℕ) (bytes : List ℕ) (c : Command) (rest : List ℕ) → mark ∷ bytes ≡ command_text c ++ rest → command_kind_at mark ≡ command_kind c
command_kind_behind mark bytes c rest e = ap command_kind_at (ap head_of e ∙ command_head c rest) ∙ command_kind_is c

pub command_kind-12 : command_kind_at 12 ≡ 12
unfolding command_kind_at
command_kind-12 = refl

pub command_kind-13 : command_kind_at 13 ≡ 13
unfolding command_kind_at
command_kind-13 = refl
