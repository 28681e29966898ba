-- The bytes of a response.
use Rattle.std.specs.Prelude.{ℕ, List, [], ◌++◌, length, codes, decimal, if◌then◌else◌}
use Rattle.status.specs.declared.wanted.Asked.{Asked}
use Rattle.status.specs.declared.wanted.Wanted.{Wanted}
use Rattle.status.specs.declared.wanted.Wanted.TheVariants.{Page, Data, History, Metrics, Health, TooFew, Unsaved, NotFound, BadMethod, BadRequest, TooLong}

unfoldable pub status_text : Wanted → List ℕ
status_text Page = codes "HTTP/1.1 200 OK"
status_text Data = codes "HTTP/1.1 200 OK"
status_text History = codes "HTTP/1.1 200 OK"
status_text Metrics = codes "HTTP/1.1 200 OK"
status_text Health = codes "HTTP/1.1 200 OK"
status_text TooFew = codes "HTTP/1.1 503 Service Unavailable"
status_text Unsaved = codes "HTTP/1.1 503 Service Unavailable"
status_text NotFound = codes "HTTP/1.1 404 Not Found"
status_text BadMethod = codes "HTTP/1.1 405 Method Not Allowed"
status_text BadRequest = codes "HTTP/1.1 400 Bad Request"
status_text TooLong = codes "HTTP/1.1 431 Request Header Fields Too Large"

unfoldable pub type_text : Wanted → List ℕ
type_text Page = codes "text/html; charset=utf-8"
type_text Data = codes "application/json"
type_text History = codes "application/json"
type_text Metrics = codes "text/plain; version=0.0.4; charset=utf-8"
type_text _ = codes "text/plain; charset=utf-8"

unfoldable pub extra_text : Wanted → List ℕ
extra_text Page = codes "content-security-policy: default-src 'none'; script-src 'unsafe-inline'; style-src 'unsafe-inline'; connect-src 'self'\r\n"
extra_text BadMethod = codes "allow: GET, HEAD\r\n"
extra_text _ = []

abbrev pub note_text : Wanted → List ℕ
note_text Health = codes "ok\n"
note_text TooFew = codes "Too few replicas are up.\n"
note_text Unsaved = codes "The last save failed: nothing is answered.\n"
note_text NotFound = codes "There are /, /metrics, /data.json, /history.json and /healthz.\n"
note_text BadMethod = codes "Only GET and HEAD are answered.\n"
note_text BadRequest = codes "This is no request of HTTP/1.\n"
note_text TooLong = codes "The head of the request is too long.\n"
note_text _ = []

unfoldable pub length_text : ℕ → List ℕ
length_text n = codes "\r\ncontent-length: " ++ decimal n ++ codes "\r\n"

-- the field with the type of the body
unfoldable pub type_field : Wanted → List ℕ
type_field wanted = codes "\r\ncontent-type: " ++ type_text wanted

-- the fields that each response has
unfoldable pub response_fields : List ℕ
response_fields = codes "cache-control: no-store\r\nx-content-type-options: nosniff\r\nconnection: close\r\n\r\n"

-- the status line and the fields, up to the empty line
abbrev pub response_head : Wanted → ℕ → List ℕ
response_head wanted n =
    status_text wanted ++ type_field wanted ++ length_text n ++ extra_text wanted ++ response_fields

abbrev pub response_text : Wanted → List ℕ → List ℕ
response_text wanted body = response_head wanted (length body) ++ body

-- the response to HEAD is the head of the response to GET
abbrev pub asked_text : Asked → List ℕ → List ℕ
asked_text asked body =
    if asked.is_head then response_head asked.wanted (length body) else response_text asked.wanted body
