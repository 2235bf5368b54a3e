-- No table has more lines than its rooms have places.
use Rattle.std.proofs.Common.{false}
use Rattle.rules.specs.Plan.{plan}
use Rattle.published.proofs.InRooms.{in-rooms}
use Rattle.published.proofs.tables.absolute.Goals as goal

pub table_lines-requires : goal.table_lines-requires
table_lines-requires g c =
    let a = c.args in in-rooms (plan a.levels.now a.table.now) false a.f c.absolute-answer.result c.absolute-answer.ensures.answer
