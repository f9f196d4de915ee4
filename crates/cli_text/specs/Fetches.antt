-- What is printed where a text can't be fetched (this project's own).
use Rattle.std.specs.Prelude.{ℕ, List, ◌++◌, codes}
use Rattle.std.specs.Fmt.{signed_decimal}
use Rattle.child_cmd.specs.declared.fetch_error.FetchError.{FetchError}
use Rattle.child_cmd.specs.declared.fetch_error.FetchError.TheVariants as error

-- fetch of KEY for SECTION: REASON, ended by a line feed
unfoldable pub fetch_line : List ℕ → List ℕ → List ℕ → List ℕ
fetch_line key section reason = codes "fetch of " ++ key ++ codes " for " ++ section ++ codes ": " ++ reason ++ codes "\n"

-- one line for each reason
abbrev pub fetch_text : List ℕ → List ℕ → FetchError → List ℕ
fetch_text key section error.Fault = fetch_line key section (codes "fault")
fetch_text key section (error.Status status) = fetch_line key section (codes "status " ++ signed_decimal status)
fetch_text key section error.TooLong = fetch_line key section (codes "too long")
fetch_text key section error.Text = fetch_line key section (codes "not UTF-8")
fetch_text key section error.Ended = fetch_line key section (codes "end of input")
fetch_text key section error.Input = fetch_line key section (codes "input fault")
fetch_text key section error.Output = fetch_line key section (codes "output fault")
fetch_text key section error.NoMemory = codes "out of memory\n"
