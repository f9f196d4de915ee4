-- The file of a configuration: its folder and name, and what is printed where it can't be read (this project's own).
use Rattle.std.specs.Prelude.{◌==◌, ℕ, Bool, List, [], ◌∷◌, ◌++◌, if◌then◌else◌, codes}
use Rattle.std.specs.List.{list_any, before_last, after_last}
use Rattle.cli_text.specs.Configs.{config_line}
use Rattle.vdirsyncer_cli.specs.declared.file_error.FileError.{FileError}
use Rattle.vdirsyncer_cli.specs.declared.file_error.FileError.TheVariants.{IsNotThere, Fault, TooLong, NoMemory}

abbrev pub is_slash : ℕ → Bool
is_slash b = b == 47

-- a folder's path, where nothing stands for the root
abbrev pub or_root : List ℕ → List ℕ
or_root [] = codes "/"
or_root (b ∷ bs) = b ∷ bs

-- the folder of a file: what stands before the last slash, and `.` where there is no slash
unfoldable pub folder_of : List ℕ → List ℕ
folder_of file = if list_any is_slash file then or_root (before_last is_slash file) else codes "."

-- the name of a file in its folder: what stands behind the last slash, and all of it where there is none
unfoldable pub name_of : List ℕ → List ℕ
name_of file = after_last is_slash file

-- why the file of the configuration can't be read
abbrev pub file_text : List ℕ → FileError → List ℕ
file_text file IsNotThere = config_line (file ++ codes " is not there")
file_text file Fault = config_line (codes "fault")
file_text file TooLong = config_line (codes "too long")
file_text file NoMemory = codes "out of memory\n"
