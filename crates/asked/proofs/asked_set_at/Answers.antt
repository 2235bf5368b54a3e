use Rattle.exact.proofs.Ground.{rules}
use Rattle.asked.proofs.Rows.{columns-few}
use Rattle.asked.proofs.asked_set_at.Goals as goal

pub in_row-requires : goal.in_row-requires
in_row-requires c = rw c.set_at-answer.ensures (search rules, (search rules, columns-few c.args.m c.args.f c.args.place))
