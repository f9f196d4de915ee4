-- The bytes of a request (RFC 9112, sections 2 to 6; the choice and order of fields is this project's own).
use Rattle.std.specs.Prelude.{ℕ, List, [], ◌++◌, length, Option, Some, None, codes, if◌then◌else◌, ◌==◌}
use Rattle.std.specs.List.{flat_map}
use Rattle.std.specs.Fmt.{decimal}
use Rattle.httparse.specs.Ascii.{crlf_bytes}
use Rattle.base64.specs.Engines.{standard}
use Rattle.base64.specs.GeneralPurpose.{encode_of}
use Rattle.http_client.specs.declared.request.Method.{Method}
use Rattle.http_client.specs.declared.request.Method.TheVariants.{Propfind, Proppatch, Report, Put, Delete, Mkcol}
use Rattle.http_client.specs.declared.request.Request.{Request}

abbrev pub method_name : Method → List ℕ
method_name (Propfind body) = codes "PROPFIND"
method_name (Proppatch body) = codes "PROPPATCH"
method_name (Report body) = codes "REPORT"
method_name (Put body) = codes "PUT"
method_name Delete = codes "DELETE"
method_name (Mkcol body) = codes "MKCOL"

-- the body that is sent; a DELETE has none (RFC 9110, section 9.3.5)
abbrev pub sent_body : Method → Option (List ℕ)
sent_body (Propfind body) = Some body
sent_body (Proppatch body) = Some body
sent_body (Report body) = Some body
sent_body (Put body) = Some body
sent_body Delete = None
sent_body (Mkcol body) = Some body

-- the request line: METHOD SP PATH SP HTTP/1.1 CR LF (RFC 9112, section 3)
abbrev pub start_line : Method → List ℕ → List ℕ
start_line method path = method_name method ++ codes " " ++ path ++ codes " HTTP/1.1" ++ crlf_bytes

-- NAME: VALUE CR LF (RFC 9112, section 5)
abbrev pub field_line : List ℕ → List ℕ → List ℕ
field_line name value = name ++ codes ": " ++ value ++ crlf_bytes

-- the host, with its port unless that is the default one of http (RFC 9110, section 7.2)
abbrev pub host_of : List ℕ → ℕ → List ℕ
host_of host port = if port == 80 then host else host ++ codes ":" ++ decimal port

-- base64 with the standard alphabet, and padding (RFC 4648, section 4)
unfoldable pub base64_of : List ℕ → List ℕ
base64_of text = encode_of standard text

-- USER:PASSWORD in base64 (RFC 7617, section 2)
unfoldable pub credentials : List ℕ → List ℕ → List ℕ
credentials user password = codes "Basic " ++ base64_of (user ++ codes ":" ++ password)

abbrev pub login_lines : Option (List ℕ × List ℕ) → List ℕ
login_lines None = []
login_lines (Some login) = field_line (codes "Authorization") (credentials login.0 login.1)

abbrev pub extra_lines : List (List ℕ × List ℕ) → List ℕ
extra_lines fields = flat_map (λ field. field_line field.0 field.1) fields

-- the length of a body that is sent (RFC 9110, section 8.6)
abbrev pub length_lines : Option (List ℕ) → List ℕ
length_lines None = []
length_lines (Some body) = field_line (codes "Content-Length") (decimal (length body))

abbrev pub body_bytes : Option (List ℕ) → List ℕ
body_bytes None = []
body_bytes (Some body) = body

-- the request line and the fields
unfoldable pub head_bytes : Request → List ℕ
head_bytes r =
    start_line r.method r.path
    ++ field_line (codes "Host") (host_of r.host r.port)
    ++ field_line (codes "User-Agent") r.agent
    ++ field_line (codes "Accept-Encoding") (codes "identity")
    ++ field_line (codes "Connection") (codes "close")
    ++ login_lines r.login
    ++ extra_lines r.extra
    ++ length_lines (sent_body r.method)

-- the head, an empty line and the body
abbrev pub request_bytes : Request → List ℕ
request_bytes r = head_bytes r ++ crlf_bytes ++ body_bytes (sent_body r.method)
