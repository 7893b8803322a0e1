-- To be believed: the statuses of answers, each with its reason phrase (RFC 9110,
-- section 15; RFC 6585, section 5).
use Rattle.std.specs.Prelude.{ℕ, ◌==◌, List, [], ◌∷◌, map, IsTrue, codes, if◌then◌else◌}
use Rattle.std.specs.List.{list_any}

-- the request was answered
abbrev pub ok : ℕ
ok = 200

-- the folder is found after its path with `/` at the end
abbrev pub moved_permanently : ℕ
moved_permanently = 301

-- the request breaks the grammar or a rule of its lines
abbrev pub bad_request : ℕ
bad_request = 400

-- nothing is served at the target's path
abbrev pub not_found : ℕ
not_found = 404

-- the method is known and isn't served
abbrev pub method_not_allowed : ℕ
method_not_allowed = 405

-- the content is longer than the server takes
abbrev pub content_too_large : ℕ
content_too_large = 413

-- the first line isn't whole within the bytes that a head may have
abbrev pub uri_too_long : ℕ
uri_too_long = 414

-- the request expects something other than `100-continue`
abbrev pub expectation_failed : ℕ
expectation_failed = 417

-- the head or the trailer section is too long, or has too many fields
abbrev pub header_fields_too_large : ℕ
header_fields_too_large = 431

-- the method or a transfer coding isn't known
abbrev pub not_implemented : ℕ
not_implemented = 501

-- the statuses that are sent, each with its reason phrase
abbrev pub phrases : List (ℕ × List ℕ)
phrases =
    (ok, codes "OK")
    ∷ (moved_permanently, codes "Moved Permanently")
    ∷ (bad_request, codes "Bad Request")
    ∷ (not_found, codes "Not Found")
    ∷ (method_not_allowed, codes "Method Not Allowed")
    ∷ (content_too_large, codes "Content Too Large")
    ∷ (uri_too_long, codes "URI Too Long")
    ∷ (expectation_failed, codes "Expectation Failed")
    ∷ (header_fields_too_large, codes "Request Header Fields Too Large")
    ∷ (not_implemented, codes "Not Implemented")
    ∷ []

-- the statuses that are sent, in order
abbrev pub statuses : List ℕ
statuses = map (λ row. row.0) phrases

-- the phrase that a table has for a status, and nothing where it has none
abbrev pub phrase_in : List (ℕ × List ℕ) → ℕ → List ℕ
phrase_in [] status = []
phrase_in (row ∷ rows) status = if status == row.0 then row.1 else phrase_in rows status

-- the reason phrase of a status
abbrev pub phrase_of : ℕ → List ℕ
phrase_of status = phrase_in phrases status

-- this status has a reason phrase
unfoldable pub HasPhrase : ℕ → Type 0
HasPhrase status = IsTrue (list_any (λ row. status == row.0) phrases)
