-- A cell that is not marked yet gets the row of the pair x.
use Rattle.exact.proofs.Ground.{◌≡◌, ◌∙◌, sym, ap, ap₂, subst, ◌+◌, ◌-◌, ◌*◌, ◌/◌, ◌%◌, arith, take, drop, set}
use lib.Seq.{get_or-set_same}
use Rattle.std.proofs.lemmas.Slice.{put_mid-paste}
use Rattle.rules.specs.Plan.{plan}
use Rattle.pairs.specs.Lists.{pair_list}
use Rattle.cells.specs.Cells.{pair_row}
use Rattle.tally.proofs.Turns.{pair-row, pair-longer}
use Rattle.row_tally.specs.Kept.{KeptOn}
use Rattle.row_tally.proofs.Rows.{keep_row}
use Rattle.row_tally.proofs.routines.keep.Goals as goal

pub returns : goal.returns
returns c =
    let p = plan c.args.levels.now c.args.table.now in let known = c.args.known.now in let kept = c.args.kept.now in
    let cell = c.args.c in let f = c.args.x / 256 in let g = c.args.x % 256 in
    let long = (pair-row p f g c.requires.2.first c.requires.2.second).long in
    let row : take 24 (drop 1 c.pair-sums.result) ≡ pair_row p f g
    = ap (λ r. take 24 (drop 1 r)) (c.pair-sums.ensures ∙ ap₂ (pair_list p) c.from.ensures c.from-2.ensures) ∙ pair-longer p f g in (
      subst (λ room. KeptOn p known (set known cell 1) room)
          (sym (put_mid-paste (cell * 24) (cell * 24 + 24 - cell * 24) kept c.copy_from_slice.new.self (pair_row p f g) 24
          (c.copy_from_slice.ensures.after ∙ row) (omega arith) (sym long)))
          (keep_row p known kept c.requires.0 c.requires.2.first.level-high cell f g c.requires.1 c.requires.3 long),
      rw (get_or-set_same known cell 1 0 c.requires.1) (omega arith),
    )
