-- The three lines stand one behind the other.
use Rattle.text.proofs.Puts.{put_both}
use Rattle.listing_lines.proofs.routines.write_resolution.Goals as goal

pub returns : goal.returns
returns c = rw c.in-Ok.is (put_both (put_both c.write_line-above.ensures c.write_line-between.ensures) c.write_line-2.ensures)
