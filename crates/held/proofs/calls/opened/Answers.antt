-- Each part is copied, and the words are those of every run.
use Rattle.exact.proofs.Rooms.{into-blank}
use Rattle.rules.specs.Plan.{plan, runs, most_columns, most_entries}
use Rattle.held.specs.Held.{held_of}
use Rattle.held.proofs.Standing.{all-stand}
use Rattle.held.proofs.calls.opened.Goals as goal

pub returns : goal.returns
unfolding held_of
returns c =
    let levels = c.args.levels.now in
    let table = c.args.table.now in
    rw (
      c.all_marked.ensures,
      c.copy-2.ensures,
      into-blank table most_entries 0,
      c.copy.ensures,
      into-blank levels most_columns 0,
      c.words_of_plan-words.ensures,
      all-stand (runs (plan levels table)),
    )
