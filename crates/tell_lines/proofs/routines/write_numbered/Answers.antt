-- The first run with the number is one of the cell.
use Rattle.exact.proofs.Ground.{◌≡◌, ◌∙◌, ap, ap₂, ℕ, arith, get_or, mem-head, refl}
use Rattle.rules.specs.Plan.{plan, entry}
use Rattle.text.proofs.Puts.{put_as}
use Rattle.tell.specs.Evidence.{group_of}
use Rattle.tell_lines.specs.Parts.{numbers_of, place_of, cell_line_of}
use Rattle.tell_lines.proofs.Cells.{numbered-place, numbered-sound, numbered_asked}
use Rattle.tell_lines.proofs.routines.write_numbered.Goals as goal

pub offset_bounds-runs-place_of : goal.offset_bounds-runs-place_of
offset_bounds-runs-place_of c =
    omega (arith, numbered-place c.requires.numbered c.args.number c.requires.numbers_value.0 c.place_of.ensures, c.requires.numbered.asked.sound.few)

pub bounds-runs-place_of : goal.bounds-runs-place_of
bounds-runs-place_of c = numbered-place c.requires.numbered c.args.number c.requires.numbers_value.0 c.place_of.ensures

pub entry_at-level-requires : goal.entry_at-level-requires
entry_at-level-requires c = numbered_asked c.requires.numbered c.args.number c.requires.numbers_value.0 c.place_of.ensures

pub bounds-groups-level : goal.bounds-groups-level
bounds-groups-level c =
    let A = numbered_asked c.requires.numbered c.args.number c.requires.numbers_value.0 c.place_of.ensures in
    let i = c.args.column in
    let f : ℕ = get_or c.args.runs.now c.place_of.result 0 in
    omega (arith, c.entry_at-level.ensures, A.sound.below f (mem-head refl) i A.column, A.sound.level-high i A.column)

pub write_cell-requires : goal.write_cell-requires
write_cell-requires c =
    (numbered-sound c.requires.numbered c.args.number c.requires.numbers_value.0 c.place_of.ensures, (c.requires.numbered.shown, c.requires.numbers_value.1))

pub returns : goal.returns
returns c =
    let a = c.args in
    let p = plan a.levels.now a.table.now in
    let run : ℕ = get_or a.runs.now c.place_of.result 0 in
    let e : run ≡ get_or a.runs.now (place_of (numbers_of p a.runs.now a.others.now) a.number) 0 =
    ap (λ i. get_or a.runs.now i 0) (c.place_of.ensures ∙ ap (λ ns. place_of ns a.number) c.requires.numbered.are) in
    put_as (ap₂ (cell_line_of p a.others.now) (c.from-group.ensures
    ∙ ap (group_of a.groups.now) (c.entry_at-level.ensures ∙ ap (λ f. entry p f a.column) e)) e) (omega arith) c.write_cell.ensures
