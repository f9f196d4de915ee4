-- The usage text (this project's own).
use Rattle.std.specs.Prelude.{ℕ, List, ◌++◌, codes}

abbrev pub usage : List ℕ
usage = codes "usage: vdirsyncer [-c FILE] [-v LEVEL] COMMAND\n" ++ codes "  sync [--force-delete] [--max-workers N] [PAIR[/COLLECTION]]...\n" ++ codes "  metasync [PAIR[/COLLECTION]]...\n" ++ codes "  discover [--no-list] [PAIR]...\n" ++ codes "  repair [--repair-unsafe-uid] STORAGE[/COLLECTION]\n"
