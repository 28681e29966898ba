-- No ballot's text is the start of another one's. If the fields of a kind are not there, no ballot is behind its mark.
use Rattle.std.proofs.Common.{◌≡◌, ℕ, List, ◌∷◌, ◌++◌, Option, refl, ap}
use Rattle.std.specs.Prelude.{nat_eq, IfSome}
use Rattle.std.specs.Int.{w64}
use Rattle.base.specs.declared.fault.Fault.{Fault}
use Rattle.wire.specs.Record.{Always, IsPrefixFree, NoPrefix, Refused}
use Rattle.wire.specs.Number.{num}
use Rattle.wire.specs.Field.{option_text}
use Rattle.wire.specs.FrontLaws.{tail_of, head_of, Passes}
use Rattle.wire.specs.FieldLaws.{option_prefix_free}
use Rattle.wire.specs.RowLaws.{u64_free, followed}
use Rattle.wire.proofs.Rows.{some_fits}
use Rattle.token.specs.declared.Token.{Token}
use Rattle.token.specs.Token.{token_bytes}
use Rattle.token.specs.TokenLaws.{token_prefix_free}
use Rattle.decrees.specs.declared.decree.Decree.{Decree}
use Rattle.decrees.specs.declared.ballot.Ballot.{Ballot}
use Rattle.decrees.specs.declared.ballot.Ballot.TheVariants as ballot
use Rattle.decrees.specs.Record.{decree_text, start_text}
use Rattle.decrees.specs.RecordProofs.{decree_prefix_free, start_prefix_free}
use Rattle.verifier.specs.Record.{accepted_text}
use Rattle.letters.specs.Letter.{ballot_text}
use Rattle.letters.proofs.Marks.{none_behind, marks_apart}

abbrev ballot_mark : Ballot → ℕ
ballot_mark (ballot.Token _ _ _ _) = 0
ballot_mark (ballot.Accept _ _ _) = 1
ballot_mark (ballot.Accepted _ _ _) = 2
ballot_mark (ballot.Decided _ _) = 3
ballot_mark (ballot.Ask _) = 4
ballot_mark (ballot.Change _) = 5
ballot_mark (ballot.Promise _ _ _) = 6
ballot_mark (ballot.Stands _ _) = 7

ballot_begins : (b : Ballot) (rest : List ℕ) → head_of (ballot_text b ++ rest) ≡ ballot_mark b
ballot_begins (ballot.Token _ _ _ _) rest = refl
ballot_begins (ballot.Accept _ _ _) rest = refl
ballot_begins (ballot.Accepted _ _ _) rest = refl
ballot_begins (ballot.Decided _ _) rest = refl
ballot_begins (ballot.Ask _) rest = refl
ballot_begins (ballot.Change _) rest = refl
ballot_begins (ballot.Promise _ _ _) rest = refl
ballot_begins (ballot.Stands _ _) rest = refl

-- the fields of a told token
abbrev pub token_row : ((ℕ × ℕ) × Token) × Token → List ℕ
token_row p = num w64 p.0.0.0 ++ num w64 p.0.0.1 ++ token_bytes p.0.1 ++ token_bytes p.1

-- view, place and decree
abbrev pub vote_row : (ℕ × ℕ) × Decree → List ℕ
vote_row p = num w64 p.0.0 ++ num w64 p.0.1 ++ decree_text p.1

-- place and decree
abbrev pub decided_row : ℕ × Decree → List ℕ
decided_row p = num w64 p.0 ++ decree_text p.1

-- view, how many decrees are known, and what was accepted
abbrev pub promise_row : (ℕ × ℕ) × Option (ℕ × Decree) → List ℕ
promise_row p = num w64 p.0.0 ++ num w64 p.0.1 ++ option_text accepted_text p.1

token_row_free : IsPrefixFree token_row
token_row_free = followed (followed (followed u64_free u64_free) token_prefix_free) token_prefix_free

vote_row_free : IsPrefixFree vote_row
vote_row_free = followed (followed u64_free u64_free) decree_prefix_free

decided_row_free : IsPrefixFree decided_row
decided_row_free = followed u64_free decree_prefix_free

promise_row_free : IsPrefixFree promise_row
promise_row_free = followed (followed u64_free u64_free) (option_prefix_free accepted_text decided_row_free)

ballot_alike : (v w : Ballot) (r s : List ℕ) → Passes (nat_eq (ballot_mark v) (ballot_mark w)) → ballot_text v ++ r ≡ ballot_text w ++ s → (v ≡ w) × (r ≡ s)
ballot_alike (ballot.Token epoch n previous token) (ballot.Token epoch' n' previous' token') r s h e =
    let both = token_row_free.apart (((epoch, n), previous), token) (((epoch', n'), previous'), token') r s (tail_of 0 0 _ _ e) in
    ((λ i. ballot.Token (both.0 i).0.0.0 (both.0 i).0.0.1 (both.0 i).0.1 (both.0 i).1), both.1)
ballot_alike (ballot.Accept view place decree) (ballot.Accept view' place' decree') r s h e =
    let both = vote_row_free.apart ((view, place), decree) ((view', place'), decree') r s (tail_of 1 1 _ _ e) in
    ((λ i. ballot.Accept (both.0 i).0.0 (both.0 i).0.1 (both.0 i).1), both.1)
ballot_alike (ballot.Accepted view place decree) (ballot.Accepted view' place' decree') r s h e =
    let both = vote_row_free.apart ((view, place), decree) ((view', place'), decree') r s (tail_of 2 2 _ _ e) in
    ((λ i. ballot.Accepted (both.0 i).0.0 (both.0 i).0.1 (both.0 i).1), both.1)
ballot_alike (ballot.Decided place decree) (ballot.Decided place' decree') r s h e =
    let both = decided_row_free.apart (place, decree) (place', decree') r s (tail_of 3 3 _ _ e) in
    ((λ i. ballot.Decided (both.0 i).0 (both.0 i).1), both.1)
ballot_alike (ballot.Ask place) (ballot.Ask place') r s h e =
    let both = u64_free.apart place place' r s (tail_of 4 4 _ _ e) in
    (ap ballot.Ask both.0, both.1)
ballot_alike (ballot.Change view) (ballot.Change view') r s h e =
    let both = u64_free.apart view view' r s (tail_of 5 5 _ _ e) in
    (ap ballot.Change both.0, both.1)
ballot_alike (ballot.Promise view known accepted) (ballot.Promise view' known' accepted') r s h e =
    let both = promise_row_free.apart ((view, known), accepted) ((view', known'), accepted') r s (tail_of 6 6 _ _ e) in
    ((λ i. ballot.Promise (both.0 i).0.0 (both.0 i).0.1 (both.0 i).1), both.1)
ballot_alike (ballot.Stands place standing) (ballot.Stands place' standing') r s h e =
    let both = start_prefix_free.apart (record { place = place; standing = standing }) (record { place = place'; standing = standing' }) r s (tail_of 7 7 _ _ e) in
    ((λ i. ballot.Stands (both.0 i).place (both.0 i).standing), both.1)
ballot_alike _ _ r s h e = absurd h

pub ballot_prefix_free : IsPrefixFree ballot_text
ballot_prefix_free = marks_apart ballot_text ballot_mark ballot_begins ballot_alike

-- what the fields of these rows have to fit, which is nothing
abbrev TokenFits : ((ℕ × ℕ) × Token) × Token → Type 0
TokenFits p = ((Unit {0} × Unit {0}) × Unit {0}) × Unit {0}

abbrev VoteFits : (ℕ × ℕ) × Decree → Type 0
VoteFits p = (Unit {0} × Unit {0}) × Unit {0}

abbrev DecidedFits : ℕ × Decree → Type 0
DecidedFits p = Unit {0} × Unit {0}

abbrev PromiseFits : (ℕ × ℕ) × Option (ℕ × Decree) → Type 0
PromiseFits p = (Unit {0} × Unit {0}) × IfSome p.1 DecidedFits

token_here : (bytes : List ℕ) (b : Ballot) (rest : List ℕ) → Always b → Passes (nat_eq (ballot_mark b) 0) → 0 ∷ bytes ≡ ballot_text b ++ rest → NoPrefix TokenFits token_row bytes → ⊥
token_here bytes (ballot.Token epoch n previous token) rest f h e none = none.none (((epoch, n), previous), token) rest (((tt, tt), tt), tt) (tail_of 0 0 _ _ e)
token_here bytes _ rest f h e none = absurd h

pub no_token : (bytes : List ℕ) (e : Fault) → Refused e (NoPrefix TokenFits token_row bytes) → Refused e (NoPrefix Always ballot_text (0 ∷ bytes))
no_token bytes = none_behind ballot_text ballot_mark ballot_begins Always TokenFits token_row 0 bytes (token_here bytes)

accept_here : (bytes : List ℕ) (b : Ballot) (rest : List ℕ) → Always b → Passes (nat_eq (ballot_mark b) 1) → 1 ∷ bytes ≡ ballot_text b ++ rest → NoPrefix VoteFits vote_row bytes → ⊥
accept_here bytes (ballot.Accept view place decree) rest f h e none = none.none ((view, place), decree) rest ((tt, tt), tt) (tail_of 1 1 _ _ e)
accept_here bytes _ rest f h e none = absurd h

pub no_accept : (bytes : List ℕ) (e : Fault) → Refused e (NoPrefix VoteFits vote_row bytes) → Refused e (NoPrefix Always ballot_text (1 ∷ bytes))
no_accept bytes = none_behind ballot_text ballot_mark ballot_begins Always VoteFits vote_row 1 bytes (accept_here bytes)

accepted_here : (bytes : List ℕ) (b : Ballot) (rest : List ℕ) → Always b → Passes (nat_eq (ballot_mark b) 2) → 2 ∷ bytes ≡ ballot_text b ++ rest → NoPrefix VoteFits vote_row bytes → ⊥
accepted_here bytes (ballot.Accepted view place decree) rest f h e none = none.none ((view, place), decree) rest ((tt, tt), tt) (tail_of 2 2 _ _ e)
accepted_here bytes _ rest f h e none = absurd h

pub no_accepted : (bytes : List ℕ) (e : Fault) → Refused e (NoPrefix VoteFits vote_row bytes) → Refused e (NoPrefix Always ballot_text (2 ∷ bytes))
no_accepted bytes = none_behind ballot_text ballot_mark ballot_begins Always VoteFits vote_row 2 bytes (accepted_here bytes)

decided_here : (bytes : List ℕ) (b : Ballot) (rest : List ℕ) → Always b → Passes (nat_eq (ballot_mark b) 3) → 3 ∷ bytes ≡ ballot_text b ++ rest → NoPrefix DecidedFits decided_row bytes → ⊥
decided_here bytes (ballot.Decided place decree) rest f h e none = none.none (place, decree) rest (tt, tt) (tail_of 3 3 _ _ e)
decided_here bytes _ rest f h e none = absurd h

pub no_decided : (bytes : List ℕ) (e : Fault) → Refused e (NoPrefix DecidedFits decided_row bytes) → Refused e (NoPrefix Always ballot_text (3 ∷ bytes))
no_decided bytes = none_behind ballot_text ballot_mark ballot_begins Always DecidedFits decided_row 3 bytes (decided_here bytes)

promise_here : (bytes : List ℕ) (b : Ballot) (rest : List ℕ) → Always b → Passes (nat_eq (ballot_mark b) 6) → 6 ∷ bytes ≡ ballot_text b ++ rest → NoPrefix PromiseFits promise_row bytes → ⊥
promise_here bytes (ballot.Promise view known accepted) rest f h e none = none.none ((view, known), accepted) rest ((tt, tt), some_fits (λ p. (tt, tt)) accepted) (tail_of 6 6 _ _ e)
promise_here bytes _ rest f h e none = absurd h

pub no_promise : (bytes : List ℕ) (e : Fault) → Refused e (NoPrefix PromiseFits promise_row bytes) → Refused e (NoPrefix Always ballot_text (6 ∷ bytes))
no_promise bytes = none_behind ballot_text ballot_mark ballot_begins Always PromiseFits promise_row 6 bytes (promise_here bytes)

stands_here : (bytes : List ℕ) (b : Ballot) (rest : List ℕ) → Always b → Passes (nat_eq (ballot_mark b) 7) → 7 ∷ bytes ≡ ballot_text b ++ rest → NoPrefix Always start_text bytes → ⊥
stands_here bytes (ballot.Stands place standing) rest f h e none = none.none (record { place = place; standing = standing }) rest tt (tail_of 7 7 _ _ e)
stands_here bytes _ rest f h e none = absurd h

pub no_stands : (bytes : List ℕ) (e : Fault) → Refused e (NoPrefix Always start_text bytes) → Refused e (NoPrefix Always ballot_text (7 ∷ bytes))
no_stands bytes = none_behind ballot_text ballot_mark ballot_begins Always Always start_text 7 bytes (stands_here bytes)
