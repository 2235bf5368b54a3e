-- A question that is not refused hands over a column and others, whose cells can be numbered.
use Rattle.rules.specs.Plan.{plan}
use Rattle.tell_lines.proofs.Asked.{given-asked, given-projection, given-answered}
use Rattle.tell_lines.proofs.routines.write_tell.Goals as goal

pub words_figure-words-requires-clause-asked : goal.words_figure-words-requires-clause-asked
words_figure-words-requires-clause-asked c =
    let a = c.args in
    let p = plan a.levels.now a.table.now in
    let S = c.requires.sound.0 in
    (given-asked p a.runs.now a.column a.others.now S c.in-Ok.ensures, given-projection p a.runs.now a.column a.others.now S c.in-Ok.ensures)

pub write_answer-bytes-requires-clause-fact : goal.write_answer-bytes-requires-clause-fact
write_answer-bytes-requires-clause-fact c =
    let a = c.args in
    given-answered (plan a.levels.now a.table.now) a.runs.now a.column a.others.now c.requires.sound.0 c.in-Ok.ensures c.words_figure-words.ensures
