-- T of the smaller sets, and the walk from no column taken and no line.
use Rattle.exact.proofs.Ground.{◌∙◌, ap, refl, ◌-◌, arith, length}
use Rattle.rules.specs.Plan.{plan}
use Rattle.part_sums.proofs.Kept.{no-numbers}
use Rattle.part_sums.proofs.Filling.{counting-again}
use Rattle.projection_tables.specs.Tables.{rooms, rooms_filled}
use Rattle.projection_tables.proofs.SetWalk.{entries-front, every-column, lent-zeros, lent-counting, lent-kept, walking_start, tallied-start}
use Rattle.projection_tables.proofs.SetWalk.{counted-table}
use Rattle.projection_tables.proofs.routines.tabulate_in.Goals as goal

pub entries-digits-requires-clause-columns : goal.entries-digits-requires-clause-columns
entries-digits-requires-clause-columns g c =
    let a = c.args in
    every-column (plan a.levels.now a.table.now) a.runs.now c.requires.tabled.0 c.as_slice-columns.result.now
    (c.as_slice-columns.ensures ∙ c.first-every.ensures)

pub whole_as_slice-fill_room : goal.whole_as_slice-fill_room
whole_as_slice-fill_room g c = omega (arith, c.requires.enough.few)

pub fill_room-requires-clause-counting : goal.fill_room-requires-clause-counting
fill_room-requires-clause-counting g c =
    let a = c.args in
    let p = plan a.levels.now a.table.now in
    let rs = a.runs.now in
    let G = c.requires.tabled.0 in
    let e = c.as_slice-columns.ensures ∙ c.first-every.ensures in
    lent-counting p rs a.f G c.requires.tabled.1.0 _ _ (lent-zeros p a.f g.row.PARTS g.row.COUNTERS c.requires.enough) (a.f - 1) (omega arith) _ _
    (entries-front p rs G c.as_slice-columns.result.now c.entries-digits.result e c.entries-digits.ensures).0 c.every_number-all.ensures

pub shared_whole_as_slice-walk : goal.shared_whole_as_slice-walk
shared_whole_as_slice-walk g c = omega (arith, c.requires.enough.few)

pub walk-requires-clause-counting : goal.walk-requires-clause-counting
walk-requires-clause-counting g c =
    let a = c.args in
    let p = plan a.levels.now a.table.now in
    let rs = a.runs.now in
    let G = c.requires.tabled.0 in
    let e = c.as_slice-columns.ensures ∙ c.first-every.ensures in
    counting-again p rs a.f _ _ _ _
    (lent-counting p rs a.f G c.requires.tabled.1.0 _ _ (lent-zeros p a.f g.row.PARTS g.row.COUNTERS c.requires.enough) a.f (omega arith) _ _
    (entries-front p rs G c.as_slice-columns.result.now c.entries-digits.result e c.entries-digits.ensures).0 c.every_number-all.ensures)
    c.fill_room.ensures.counters

pub walk-requires-clause-walking : goal.walk-requires-clause-walking
walk-requires-clause-walking g c =
    let a = c.args in
    let p = plan a.levels.now a.table.now in
    let rs = a.runs.now in
    let G = c.requires.tabled.0 in
    let L = lent-zeros p a.f g.row.PARTS g.row.COUNTERS c.requires.enough in
    let cs = c.as_slice-columns.result.now in
    let e = c.as_slice-columns.ensures ∙ c.first-every.ensures in (
      walking_start p rs a.f G c.requires.tabled.1.0 _ _ L cs _ c.fill_room.new.room e (no-numbers p rs 256 G.sound.few)
          (lent-kept p rs a.f G c.requires.tabled.1.0 _ _ L cs c.fill_room.new.room e c.fill_room.ensures.room),
      omega arith,
      refl,
    )

pub walk-requires-clause-tallied : goal.walk-requires-clause-tallied
walk-requires-clause-tallied g c =
    let a = c.args in
    let p = plan a.levels.now a.table.now in
    let L = lent-zeros p a.f g.row.PARTS g.row.COUNTERS c.requires.enough in
    tallied-start p a.runs.now a.f c.requires.tabled.0 c.requires.tabled.1.0 _ _ L c.as_slice-columns.result.now
    (rooms a.nums.now a.dens.now a.counts.now) (c.as_slice-columns.ensures ∙ c.first-every.ensures) c.requires.tabled.1.1

pub returns-clause-lines : goal.returns-clause-lines
returns-clause-lines g c =
    let a = c.args in
    let p = plan a.levels.now a.table.now in
    let L = lent-zeros p a.f g.row.PARTS g.row.COUNTERS c.requires.enough in
    c.walk.ensures.lines
    ∙ ap length (counted-table p a.runs.now a.f c.requires.tabled.0 c.requires.tabled.1.0 _ _ L a.relative c.as_slice-columns.result.now
    (c.as_slice-columns.ensures ∙ c.first-every.ensures))

pub returns-clause-table : goal.returns-clause-table
returns-clause-table g c =
    let a = c.args in
    let p = plan a.levels.now a.table.now in
    let L = lent-zeros p a.f g.row.PARTS g.row.COUNTERS c.requires.enough in
    c.walk.ensures.table
    ∙ ap (λ ls. rooms_filled ls (rooms a.nums.now a.dens.now a.counts.now))
    (counted-table p a.runs.now a.f c.requires.tabled.0 c.requires.tabled.1.0 _ _ L a.relative c.as_slice-columns.result.now
    (c.as_slice-columns.ensures ∙ c.first-every.ensures))
