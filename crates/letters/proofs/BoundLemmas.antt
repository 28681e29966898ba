-- How long the texts of what nodes say are at most.
use Rattle.std.proofs.Common.{◌≡◌, ℕ, ◌+◌, ◌<◌, ◌≤◌, Bool, true, false, List, ◌∷◌, ◌++◌, length, get_or, Option, refl, sym, ◌∙◌, ap, arith}
use Rattle.std.specs.Prelude.{nat_le}
use Rattle.std.specs.List.{list_all}
use Rattle.std.specs.Int.{w8, w16, w32, w64}
use Rattle.std.proofs.lemmas.Bool.{leb-true, le-ltb}
use Rattle.std.proofs.lemmas.List.{length-append}
use Rattle.proto.specs.Key.{is_key}
use Rattle.proto.specs.declared.block.TheConstants.{MOST_BLOCK_BYTES}
use Rattle.proto.specs.declared.key.TheConstants.{MOST_KEYS}
use Rattle.proto.specs.declared.command.Update.{Update}
use Rattle.proto.specs.declared.command.Update.TheVariants.{Store, Cas, Delete, Touch, Incr, Decr}
use Rattle.proto.specs.declared.command.Command.{Command}
use Rattle.proto.specs.declared.command.Command.TheVariants as command
use Rattle.proto.specs.declared.reply.Reply.{Reply}
use Rattle.proto.specs.declared.reply.Reply.TheVariants as reply
use Rattle.wire.specs.Number.{only_if, num, num_signed, fixed, as_unsigned, is_byte}
use Rattle.wire.specs.NumberLaws.{num-byte}
use Rattle.wire.specs.Field.{option_text, list_text}
use Rattle.wire.specs.FrontLaws.{both_true}
use Rattle.wire.specs.Block.{block_text}
use Rattle.wire.specs.Key.{key_text, keys_text, are_few_keys}
use Rattle.wire.specs.KeyLaws.{key_length}
use Rattle.wire.specs.Command.{verb_mark, update_text, command_text, request_text}
use Rattle.wire.specs.CommandLaws.{store_row, cas_row, touch_row, count_row, timed_keys_row, request_row}
use Rattle.wire.specs.Reply.{found_text, values_text, are_few, reply_record}
use Rattle.wire.specs.Batch.{batch_text}
use Rattle.token.specs.declared.Token.{Token}
use Rattle.token.specs.Token.{token_bytes}
use Rattle.decrees.specs.declared.node.Node.{Node}
use Rattle.decrees.specs.declared.node.Node.TheVariants as node
use Rattle.decrees.specs.declared.node.Letter.{Letter}
use Rattle.decrees.specs.declared.decree.Decree.{Decree}
use Rattle.decrees.specs.declared.decree.Decree.TheVariants.{Commit, Rollback}
use Rattle.decrees.specs.declared.start.Start.{Start}
use Rattle.decrees.specs.declared.standing.Standing.{Standing}
use Rattle.decrees.specs.declared.ballot.Ballot.{Ballot}
use Rattle.decrees.specs.declared.ballot.Ballot.TheVariants as ballot
use Rattle.decrees.specs.Record.{commit_text, decree_text, standing_text, start_text}
use Rattle.transfer.specs.declared.need.Need.{Need}
use Rattle.transfer.specs.Need.{IsNeed, need_text}
use Rattle.exec_lines.specs.declared.body.Body.{Body}
use Rattle.exec_lines.specs.declared.body.Body.TheVariants as body
use Rattle.letters.specs.Letter.{node_text, ballot_text, letter_body_text, letter_text, BodyFits, LetterFits}
use Rattle.letters.specs.Size.{has_parcel}
use Rattle.letters.specs.Laws.{IsOfBytes, is_short_kind, LettersAreBounded, ShortKindsAreQuick}
use Rattle.letters.proofs.BallotLemmas.{token_row, vote_row, decided_row, promise_row}
use Rattle.letters.proofs.Lengths.{HasAtMost, both_bytes, bytes_behind, list_of_bytes, has_bytes, u8_short, u16_short, u32_short, u64_short, count_long, fixed_short, followed_short, option_short, list_short}

-- data, keys and numbers

block_short : HasAtMost block_text 1048580
unfolding block_text
block_short = record {
  short = λ text h.
      let has = has_bytes (nat_le (length text) MOST_BLOCK_BYTES) (num w32 (length text) ++ text) (length text ∷ text) h in
      let few = leb-true (length text) MOST_BLOCK_BYTES has in
      rw has (omega (arith, few, count_long (length text) (omega (arith, few)), length-append (num w32 (length text)) text));
}

key_short : HasAtMost key_text 251
unfolding key_text
key_short = record {
  short = λ key h.
      let has = has_bytes (is_key key) (num w8 (length key) ++ key) (length key ∷ key) h in
      let few = key_length key has in
      let one : length (num w8 (length key)) ≡ 1 = ap length (num-byte (length key) (omega (arith, few))) in
      rw has (omega (arith, few, one, length-append (num w8 (length key)) key));
}

keys_short : HasAtMost keys_text 16068
unfolding keys_text
keys_short = record {
  short = λ keys h.
      let has = has_bytes (are_few_keys keys) (list_text key_text keys) (list_text key_text keys) h in
      let few = leb-true (length keys) MOST_KEYS (both_true (nat_le 1 (length keys)) (nat_le (length keys) MOST_KEYS) has).1 in
      let list : IsOfBytes (list_text key_text keys) = sym (ap (λ (b : Bool). list_all is_byte (only_if b (list_text key_text keys) (list_text key_text keys))) has) ∙ h in
      rw has (list_short key_short 64 keys few list);
}

signed_short : HasAtMost num_signed 4
unfolding num_signed
signed_short = record { short = λ z h. u32_short.short (as_unsigned z) h }

-- requests and batches

store_short : HasAtMost store_row 1048839
store_short = followed_short (followed_short (followed_short key_short u32_short) signed_short) block_short

cas_short : HasAtMost cas_row 1048847
cas_short = followed_short store_short u64_short

touch_short : HasAtMost touch_row 255
touch_short = followed_short key_short signed_short

delta_short : HasAtMost count_row 259
delta_short = followed_short key_short u64_short

update_short : HasAtMost update_text 1048848
update_short = record { short = by }
  where
    by : (u : Update) → IsOfBytes (update_text u) → length (update_text u) ≤ 1048848
    by (Store verb key flags exptime block) h = omega (arith, store_short.short (((key, flags), exptime), block) (bytes_behind (verb_mark verb) (store_row (((key, flags), exptime), block)) h))
    by (Cas key flags exptime block unique) h = omega (arith, cas_short.short ((((key, flags), exptime), block), unique) (bytes_behind 7 (cas_row ((((key, flags), exptime), block), unique)) h))
    by (Delete key) h = omega (arith, key_short.short key (bytes_behind 8 (key_text key) h))
    by (Touch key exptime) h = omega (arith, touch_short.short (key, exptime) (bytes_behind 9 (touch_row (key, exptime)) h))
    by (Incr key delta) h = omega (arith, delta_short.short (key, delta) (bytes_behind 10 (count_row (key, delta)) h))
    by (Decr key delta) h = omega (arith, delta_short.short (key, delta) (bytes_behind 11 (count_row (key, delta)) h))

timed_short : HasAtMost timed_keys_row 16072
timed_short = followed_short signed_short keys_short

command_short : HasAtMost command_text 1048848
command_short = record { short = by }
  where
    by : (c : Command) → IsOfBytes (command_text c) → length (command_text c) ≤ 1048848
    by (command.Get keys) h = omega (arith, keys_short.short keys (bytes_behind 0 (keys_text keys) h))
    by (command.Gets keys) h = omega (arith, keys_short.short keys (bytes_behind 1 (keys_text keys) h))
    by (command.Gat exptime keys) h = omega (arith, timed_short.short (exptime, keys) (bytes_behind 12 (timed_keys_row (exptime, keys)) h))
    by (command.Gats exptime keys) h = omega (arith, timed_short.short (exptime, keys) (bytes_behind 13 (timed_keys_row (exptime, keys)) h))
    by (command.Update update) h = update_short.short update h

request_row_short : HasAtMost request_row 1048858
request_row_short = followed_short (followed_short u16_short u64_short) command_short

request_short : HasAtMost request_text 1048858
request_short = record { short = λ request h. request_row_short.short ((request.client, request.number), request.command) h }

stamp_short : HasAtMost {X = (ℕ × ℕ) × ℕ} (λ p. num w64 p.0.0 ++ num w64 p.0.1 ++ num w32 p.1) 20
stamp_short = followed_short (followed_short u64_short u64_short) u32_short

batch_short : HasAtMost batch_text 67126937
unfolding batch_text
batch_short = record {
  short = λ batch h.
      let stamp = num w64 batch.epoch ++ num w64 batch.n ++ num w32 batch.moment in
      let both = both_bytes stamp (list_text request_text batch.requests) (bytes_behind 4 (stamp ++ list_text request_text batch.requests) h) in
      omega (
        arith,
        stamp_short.short ((batch.epoch, batch.n), batch.moment) both.0,
        list_short request_short 64 batch.requests batch.few both.1,
        length-append stamp (list_text request_text batch.requests),
      );
}

-- replies

found_row_short : HasAtMost {X = ((List ℕ × ℕ) × List ℕ) × Option ℕ} (λ p. key_text p.0.0.0 ++ num w32 p.0.0.1 ++ block_text p.0.1 ++ option_text (num w64) p.1) 1048844
found_row_short = followed_short (followed_short (followed_short key_short u32_short) block_short) (option_short u64_short)

found_short : HasAtMost found_text 1048844
found_short = record { short = λ found h. found_row_short.short (((found.key, found.flags), found.block), found.unique) h }

items_short : HasAtMost values_text 67126020
unfolding values_text
items_short = record {
  short = λ found h.
      let has = has_bytes (are_few found) (list_text found_text found) (list_text found_text found) h in
      let list : IsOfBytes (list_text found_text found) = sym (ap (λ (b : Bool). list_all is_byte (only_if b (list_text found_text found) (list_text found_text found))) has) ∙ h in
      rw has (list_short found_short 64 found (leb-true (length found) MOST_KEYS has) list);
}

reply_short : HasAtMost reply_record 67126021
reply_short = record { short = by }
  where
    by : (r : Reply) → IsOfBytes (reply_record r) → length (reply_record r) ≤ 67126021
    by reply.Stored h = omega arith
    by reply.NotStored h = omega arith
    by reply.Exists h = omega arith
    by reply.NotFound h = omega arith
    by reply.Deleted h = omega arith
    by reply.Touched h = omega arith
    by (reply.Number n) h = omega (arith, u64_short.short n (bytes_behind 6 (num w64 n) h))
    by (reply.Values found) h = omega (arith, items_short.short found (bytes_behind 7 (values_text found) h))
    by reply.TooLarge h = omega arith
    by reply.NotNumber h = omega arith

answer_short : HasAtMost {X = ℕ × Reply} (λ p. num w64 p.0 ++ reply_record p.1) 67126029
answer_short = followed_short u64_short reply_short

-- needs

need_short : (need : Need) → IsNeed need → IsOfBytes (need_text need) → length (need_text need) ≤ 8204
need_short need fits h =
    let digests = list_text (fixed 32) need.digests in
    let both = both_bytes (num w64 need.number) digests h in
    omega (arith, u64_short.short need.number both.0, list_short (fixed_short 32) 256 need.digests fits.few both.1, length-append (num w64 need.number) digests)

-- ballots

token_short : HasAtMost token_bytes 32
token_short = record { short = λ token h. (fixed_short 32).short token.0 h }

commit_short : HasAtMost commit_text 40
commit_short = followed_short u64_short (fixed_short 32)

decree_short : HasAtMost decree_text 41
decree_short = record { short = by }
  where
    by : (d : Decree) → IsOfBytes (decree_text d) → length (decree_text d) ≤ 41
    by Rollback h = omega arith
    by (Commit n token) h = omega (arith, commit_short.short (n, token.0) (bytes_behind 1 (commit_text (n, token.0)) h))

standing_row_short : HasAtMost {X = ((ℕ × Token) × ℕ) × ℕ} (λ p. num w64 p.0.0.0 ++ token_bytes p.0.0.1 ++ num w64 p.0.1 ++ num w64 p.1) 56
standing_row_short = followed_short (followed_short (followed_short u64_short token_short) u64_short) u64_short

standing_short : HasAtMost standing_text 56
standing_short = record { short = λ st h. standing_row_short.short (((st.n, st.token), st.epoch), st.start) h }

start_row_short : HasAtMost {X = ℕ × Standing} (λ p. num w64 p.0 ++ standing_text p.1) 64
start_row_short = followed_short u64_short standing_short

start_short : HasAtMost start_text 64
start_short = record { short = λ start h. start_row_short.short (start.place, start.standing) h }

token_row_short : HasAtMost token_row 80
token_row_short = followed_short (followed_short (followed_short u64_short u64_short) token_short) token_short

vote_short : HasAtMost vote_row 57
vote_short = followed_short (followed_short u64_short u64_short) decree_short

decided_short : HasAtMost decided_row 49
decided_short = followed_short u64_short decree_short

promise_short : HasAtMost promise_row 66
promise_short = followed_short (followed_short u64_short u64_short) (option_short decided_short)

ballot_short : HasAtMost ballot_text 81
ballot_short = record { short = by }
  where
    by : (b : Ballot) → IsOfBytes (ballot_text b) → length (ballot_text b) ≤ 81
    by (ballot.Token epoch n previous token) h = omega (arith, token_row_short.short (((epoch, n), previous), token) (bytes_behind 0 (token_row (((epoch, n), previous), token)) h))
    by (ballot.Accept view place decree) h = omega (arith, vote_short.short ((view, place), decree) (bytes_behind 1 (vote_row ((view, place), decree)) h))
    by (ballot.Accepted view place decree) h = omega (arith, vote_short.short ((view, place), decree) (bytes_behind 2 (vote_row ((view, place), decree)) h))
    by (ballot.Decided place decree) h = omega (arith, decided_short.short (place, decree) (bytes_behind 3 (decided_row (place, decree)) h))
    by (ballot.Ask place) h = omega (arith, u64_short.short place (bytes_behind 4 (num w64 place) h))
    by (ballot.Change view) h = omega (arith, u64_short.short view (bytes_behind 5 (num w64 view) h))
    by (ballot.Promise view known accepted) h = omega (arith, promise_short.short ((view, known), accepted) (bytes_behind 6 (promise_row ((view, known), accepted)) h))
    by (ballot.Stands place standing) h =
        let start : Start = record { place = place; standing = standing } in
        omega (arith, start_short.short start (bytes_behind 7 (start_text start) h))

-- letters

node_short : HasAtMost node_text 3
node_short = record { short = by }
  where
    by : (n : Node) → IsOfBytes (node_text n) → length (node_text n) ≤ 3
    by (node.Client client) h = omega (arith, u16_short.short client (bytes_behind 0 (num w16 client) h))
    by (node.Executor executor) h = omega (arith, u8_short.short executor (bytes_behind 1 (num w8 executor) h))
    by (node.Verifier verifier) h = omega (arith, u8_short.short verifier (bytes_behind 2 (num w8 verifier) h))

body_short : (b : Body) → has_parcel b ≡ false → BodyFits b → IsOfBytes (letter_body_text b) → length (letter_body_text b) ≤ 67126938
body_short (body.Want request) p f h = omega (arith, request_short.short request (bytes_behind 0 (request_text request) h))
body_short (body.Order batch) p f h = omega (arith, batch_short.short batch (bytes_behind 1 (batch_text batch) h))
body_short (body.Reply number reply) p f h = omega (arith, answer_short.short (number, reply) (bytes_behind 2 (num w64 number ++ reply_record reply) h))
body_short (body.Need need) p f h = omega (arith, need_short need f (bytes_behind 3 (need_text need) h))
body_short (body.Parcel parcel) p f h = absurd (cc p)
body_short (body.Ballot said) p f h = omega (arith, ballot_short.short said (bytes_behind 5 (ballot_text said) h))

kind_short : (b : Body) → is_short_kind b ≡ true → BodyFits b → IsOfBytes (letter_body_text b) → length (letter_body_text b) ≤ 8205
kind_short (body.Need need) k f h = omega (arith, need_short need f (bytes_behind 3 (need_text need) h))
kind_short (body.Ballot said) k f h = omega (arith, ballot_short.short said (bytes_behind 5 (ballot_text said) h))
kind_short (body.Want request) k f h = absurd (cc k)
kind_short (body.Order batch) k f h = absurd (cc k)
kind_short (body.Reply number reply) k f h = absurd (cc k)
kind_short (body.Parcel parcel) k f h = absurd (cc k)

-- what a letter says is all of it but six bytes at most
of_body : (letter : Letter Body) → IsOfBytes (letter_text letter) → IsOfBytes (letter_body_text letter.body) × (length (letter_text letter) ≤ 6 + length (letter_body_text letter.body))
of_body letter h =
    let nodes = node_text letter.from ++ node_text letter.to in
    let said = letter_body_text letter.body in
    let both = both_bytes nodes said h in
    let two = both_bytes (node_text letter.from) (node_text letter.to) both.0 in
    (both.1, omega (arith, node_short.short letter.from two.0, node_short.short letter.to two.1, length-append (node_text letter.from) (node_text letter.to), length-append nodes said))

pub letters_bounded : LettersAreBounded
letters_bounded letter fits h p =
    let of = of_body letter h in
    omega (arith, of.1, body_short letter.body p fits of.0)

-- bytes that are the text of a letter which has no parcel
pub bytes_bounded : (bytes : List ℕ) (letter : Letter Body) → ((i : ℕ) → get_or bytes i 0 < 256) → bytes ≡ letter_text letter → LetterFits letter → has_parcel letter.body ≡ false → length bytes ≤ 71303168
bytes_bounded bytes letter are_bytes whole fits p =
    let bound = letters_bounded letter fits (ap (list_all is_byte) (sym whole) ∙ list_of_bytes bytes are_bytes) p in
    omega (arith, bound, ap length whole)

short_length : (letter : Letter Body) → LetterFits letter → IsOfBytes (letter_text letter) → is_short_kind letter.body ≡ true → length (letter_text letter) ≤ 65536
short_length letter fits h k =
    let of = of_body letter h in
    omega (arith, of.1, kind_short letter.body k fits of.0)

no_parcel_there : (b : Body) → is_short_kind b ≡ true → has_parcel b ≡ false
no_parcel_there (body.Need need) k = refl
no_parcel_there (body.Ballot said) k = refl
no_parcel_there (body.Want request) k = refl
no_parcel_there (body.Order batch) k = refl
no_parcel_there (body.Reply number reply) k = refl
no_parcel_there (body.Parcel parcel) k = absurd (cc k)

pub short_kinds_quick : ShortKindsAreQuick
short_kinds_quick letter fits h k =
    let few = short_length letter fits h k in
    rw (no_parcel_there letter.body k) (le-ltb 65536 (length (letter_text letter)) few)
