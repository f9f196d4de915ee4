use Rattle.file_text.proofs.Borders.{fitting_is, some_fit}
use Rattle.file_text.proofs.folds.fitting.Goals as goal

pub returns-clause-count : goal.returns-clause-count
returns-clause-count c =
    let found = c.floor_char_boundary.ensures in
    fitting_is c.args.most c.args.text.now c.floor_char_boundary.result found.bound found.boundary (record { none = found.nearest })

pub returns-clause-some : goal.returns-clause-some
returns-clause-some c = some_fit c.args.text.now c.floor_char_boundary.result c.args.most c.utf8.text (record { none = c.floor_char_boundary.ensures.nearest })
