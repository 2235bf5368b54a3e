-- With one run there is no advice; else the line shows what `advice` answers of every run.
use Rattle.exact.proofs.Ground.{[], ◌∷◌, ◌∙◌, ap, refl, subst, arith, le-ltb, lt-ltb}
use Rattle.rules.specs.Plan.{plan, runs}
use Rattle.advice.specs.Advice.{advice}
use Rattle.text.specs.Bytes.{bytes, Put}
use Rattle.text.proofs.Puts.{put_as}
use Rattle.lines.specs.Lines.{line_of}
use Rattle.listing_lines.proofs.Every.{every-many, every-standing}
use Rattle.listing_lines.proofs.routines.write_advice.Goals as goal

pub returns-then-runs-lt2 : goal.returns-then-runs-lt2
returns-then-runs-lt2 c =
    let p = plan c.args.levels.now c.args.table.now in
    rw (lt-ltb (runs p) 2 (omega (arith, every-many c.requires.0))) (put_as refl (omega arith) c.write_line.ensures)

pub advice-requires : goal.advice-requires
advice-requires c = (every-standing c.requires.0, omega arith)

pub returns : goal.returns
returns c =
    let p = plan c.args.levels.now c.args.table.now in
    let e = c.advice.ensures ∙ ap (advice p) c.requires.0.all in
    rw (le-ltb (runs p) 2 (omega (arith, every-many c.requires.0)))
    (subst (λ f. Put (line_of (bytes "lose") (f ∷ [])) 26 c.args.at c.args.room.now c.write_line-2.result c.write_line-2.new.room) e
    c.write_line-2.ensures)
