-- Each of the columns is one of the plan's, of which there are 24 at most.
use Rattle.exact.proofs.Ground.{mem-not_nil, arith, get_or}
use Rattle.exact.proofs.Members.{get_or-mem}
use Rattle.tell_lines.proofs.routines.cell_of.Goals as goal

pub entry_at-requires : goal.entry_at-requires
entry_at-requires c =
    let J = c.args.others.now in
    let k = c.loop-column.column-index in
    record {
      sound = c.requires.0;
      column = c.requires.1.inside (get_or J k 0) (get_or-mem J k 0 (omega arith));
      others = λ i m. absurd (mem-not_nil m);
    }
