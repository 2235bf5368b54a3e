-- The levels of the column are looked up in what the runs have in it.
use Rattle.exact.proofs.Ground.{◌++◌, ◌∙◌, ap₂, arith}
use Rattle.text.proofs.Puts.{put_as, put_both}
use Rattle.tell_lines.specs.Parts.{absent_lines_of, group_lines_of}
use Rattle.tell_lines.proofs.routines.write_levels.Goals as goal

pub returns : goal.returns
returns c =
    let s = c.from-s.ensures in
    let e = c.column_of-entries.ensures in
    put_as (ap₂ (λ xs ys. xs ++ ys) (ap₂ absent_lines_of (c.as_slice.ensures ∙ e) s) (ap₂ (group_lines_of c.args.groups.now) (c.as_slice-2.ensures ∙ e) s))
    (omega (arith, s, c.requires.0.sound.level-high c.args.column c.requires.0.column)) (put_both c.write_absent-absent.ensures c.write_groups.ensures)
