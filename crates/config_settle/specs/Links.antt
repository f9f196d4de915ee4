-- The URL of a storage (the URL Standard of the WHATWG).
use Rattle.std.specs.Prelude.{ℕ, Bool, not, ◌&&◌, if◌then◌else◌, List, [], codes, None, is_some, unwrap_or, option_map, Result, Ok, Err}
use Rattle.std.specs.Str.{bytes_eq}
use Rattle.url.specs.Input.{is_empty}
use Rattle.url.specs.Host.{host_text}
use Rattle.url.specs.Parts.{Parts, nonempty_host}
use Rattle.url.specs.Parser.{Parsed, parse_url}
use Rattle.url_paths.specs.Paths.{folder_path}
use Rattle.config_ini.specs.declared.error.ConfigError.{ConfigError}
use Rattle.config_ini.specs.declared.error.ConfigError.TheVariants.{BadUrl, NeedsTls}
use Rattle.config_model.specs.Meanings.{has_control}
use Rattle.config_settle.specs.declared.links.Link.{Link}
use Rattle.config_settle.specs.Texts.{bad_text}

-- neither user, password, query nor fragment
abbrev pub is_bare : Parts → Bool
is_bare url = is_empty url.username && (is_empty url.password && (not (is_some url.query) && not (is_some url.fragment)))

abbrev pub port_of : Parts → ℕ
port_of url = unwrap_or url.port 80

abbrev pub host_of : Parts → List ℕ
host_of url = unwrap_or (option_map host_text (nonempty_host url)) []

abbrev pub link_to : Parts → Link
link_to url = record { host = host_of url; port = port_of url; path = folder_path url.path }

abbrev pub link_by : List ℕ → Parts → Result Link ConfigError
link_by section url =
    if bytes_eq url.scheme (codes "https") then Err (NeedsTls section)
    else if bytes_eq url.scheme (codes "http") && is_bare url then Ok (link_to url)
    else Err (BadUrl section)

abbrev pub link_in : List ℕ → Parsed Parts → Result Link ConfigError
link_in section (Ok url) = link_by section url
link_in section (Err e) = Err (BadUrl section)

unfoldable pub link_of : List ℕ → List ℕ → Result Link ConfigError
link_of section text = if has_control text then Err (bad_text section (codes "url")) else link_in section (parse_url None text)
