-- Lemmas on specs/Request.antt
use Rattle.std.proofs.Common.{◌≡◌, ℕ, List, ◌∷◌, ◌++◌, codes, ap, sym, ◌∙◌, append_assoc}
use Rattle.http_client.specs.declared.request.Request.{Request}
use Rattle.http_client.specs.Request.{sent_body, start_line, field_line, host_of, base64_of, credentials, login_lines, extra_lines, length_lines, head_bytes}

-- eight texts behind one another
eight_parts : (o a b c d e f g h o1 o2 o3 o4 o5 o6 o7 o8 : List ℕ)
    → o1 ≡ o ++ a → o2 ≡ o1 ++ b → o3 ≡ o2 ++ c → o4 ≡ o3 ++ d → o5 ≡ o4 ++ e → o6 ≡ o5 ++ f → o7 ≡ o6 ++ g
    → o8 ≡ o7 ++ h → o8 ≡ o ++ (a ++ b ++ c ++ d ++ e ++ f ++ g ++ h)
eight_parts o a b c d e f g h o1 o2 o3 o4 o5 o6 o7 o8 p1 p2 p3 p4 p5 p6 p7 p8 =
    let all : o8 ≡ (((((((o ++ a) ++ b) ++ c) ++ d) ++ e) ++ f) ++ g) ++ h = cc in
    all ∙ simp append_assoc

-- the parts of a head, written one after another
pub head_written : (r : Request) (o o1 o2 o3 o4 o5 o6 o7 o8 : List ℕ)
    → o1 ≡ o ++ start_line r.method r.path
    → o2 ≡ o1 ++ field_line (codes "Host") (host_of r.host r.port)
    → o3 ≡ o2 ++ field_line (codes "User-Agent") r.agent
    → o4 ≡ o3 ++ field_line (codes "Accept-Encoding") (codes "identity")
    → o5 ≡ o4 ++ field_line (codes "Connection") (codes "close")
    → o6 ≡ o5 ++ login_lines r.login
    → o7 ≡ o6 ++ extra_lines r.extra
    → o8 ≡ o7 ++ length_lines (sent_body r.method)
    → o8 ≡ o ++ head_bytes r
unfolding head_bytes
head_written r o o1 o2 o3 o4 o5 o6 o7 o8 p1 p2 p3 p4 p5 p6 p7 p8 =
    eight_parts o _ _ _ _ _ _ _ _ o1 o2 o3 o4 o5 o6 o7 o8 p1 p2 p3 p4 p5 p6 p7 p8

pub credentials_are : (pair encoded value user password : List ℕ) → pair ≡ user ++ 58 ∷ password
    → encoded ≡ base64_of pair → value ≡ codes "Basic " ++ encoded → value ≡ credentials user password
unfolding credentials
credentials_are pair encoded value user password p e v =
    v ∙ ap (λ text. codes "Basic " ++ text) (e ∙ ap base64_of (p ∙ sym (append_assoc user (codes ":") password)))
