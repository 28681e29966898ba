-- What a request asks for, by the grammar of HTTP/1.
use Rattle.std.specs.Prelude.{◌≡◌, false, true, ℕ, List, length, ◌≤◌, ◌⊎◌, ◌==◌, codes, bytes_eq, take, position, Option, Some, None, if◌then◌else◌}
use Rattle.httparse.specs.Grammar.{RequestHead, ReadsRequest, NeverHasRequest, print_request}
use Rattle.httparse.specs.Spans.{RequestExceeds}
use Rattle.status.specs.declared.wanted.Asked.{Asked}
use Rattle.status.specs.declared.wanted.Wanted.{Wanted}
use Rattle.status.specs.declared.wanted.Wanted.TheVariants.{Page, Data, History, Metrics, Health, NotFound, BadMethod, BadRequest, TooLong}
use Rattle.status.specs.declared.wanted.TheConstants.{MOST_HEAD_BYTES, MOST_FIELDS}

abbrev pub front_of : Option ℕ → List ℕ → List ℕ
front_of (Some end) target = take end target
front_of None target = target

-- the target before its query, which a question mark begins
abbrev pub path_of : List ℕ → List ℕ
path_of target = front_of (position (λ b. b == 63) target) target

abbrev pub of_path : List ℕ → Wanted
of_path path =
    if bytes_eq path (codes "/metrics") then Metrics
    else if bytes_eq path (codes "/data.json") then Data
    else if bytes_eq path (codes "/history.json") then History
    else if bytes_eq path (codes "/healthz") then Health
    else if bytes_eq path (codes "/") then Page
    else NotFound

abbrev pub of_target : List ℕ → Wanted
of_target target = of_path (path_of target)

-- GET asks for a response, HEAD for its head alone
abbrev pub of_parts : List ℕ → List ℕ → Asked
of_parts method target =
    if bytes_eq method (codes "GET") then record { wanted = of_target target; is_head = false }
    else if bytes_eq method (codes "HEAD") then record { wanted = of_target target; is_head = true }
    else record { wanted = BadMethod; is_head = false }

-- a head of at most 8,192 bytes is at the front, and its method and path ask for it
pub record WantsByHead (request : List ℕ) (asked : Asked) : Type 0 where
  pub head : RequestHead
  pub rest : List ℕ
  pub reads : ReadsRequest request head rest
  pub short : length (print_request head) ≤ MOST_HEAD_BYTES
  pub asks : asked ≡ of_parts head.method head.target

-- the head is too long, or has too many fields
abbrev pub IsTooLong : List ℕ → Type 0
IsTooLong request = (MOST_HEAD_BYTES ≤ length request) ⊎ RequestExceeds MOST_FIELDS request

abbrev pub WantsAs : List ℕ → Asked → Wanted → Type 0
WantsAs request asked TooLong = IsTooLong request × (asked.is_head ≡ false)
WantsAs request asked BadRequest = NeverHasRequest request × (asked.is_head ≡ false)
WantsAs request asked wanted = WantsByHead request asked

-- what the bytes of a request ask for
abbrev pub Wants : List ℕ → Asked → Type 0
Wants request asked = WantsAs request asked asked.wanted
