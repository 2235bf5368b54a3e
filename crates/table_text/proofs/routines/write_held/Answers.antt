-- What is written is the table of the standing runs.
use Rattle.exact.proofs.Ground.{◌≡◌, ◌∙◌, sym, ap, ap₂, arith}
use Rattle.rules.specs.Plan.{plan}
use Rattle.rules.specs.Refusals.{refusal, answered, refusal_in}
use Rattle.held.specs.Held.{plan_in, standing_in}
use Rattle.held.proofs.History.{words-standing}
use Rattle.held.proofs.Lent.{stops, runs-are, some-run, goes-on}
use Rattle.held.proofs.Sizes.{sized}
use Rattle.text.proofs.Puts.{put_as}
use Rattle.table_lines.specs.TableLines.{print_checks, lines_beside}
use Rattle.table_text.proofs.routines.write_held.Goals as goal

pub write_table-requires-clause-ranked : goal.write_table-requires-clause-ranked
write_table-requires-clause-ranked c =
    let h = c.args.held.now in
    let H = c.requires.held in
    rw (ap₂ plan c.levels.ensures c.table.ensures, c.as_slice.ensures, runs-are h c.in-Ok.ensures) (record {
      tabled = record { sound = (sized H).sound; some = some-run h c.in-Ok.ensures };
      of-runs = λ _. words-standing H;
    })

pub returns-in-Err-clause-answer : goal.returns-in-Err-clause-answer
returns-in-Err-clause-answer c =
    let h = c.args.held.now in
    c.write_refused.ensures.answer
    ∙ stops h c.in-Err.ensures (print_checks (plan_in h) (standing_in h) c.args.relative c.args.f) (tt {0})

pub returns-clause-answer : goal.returns-clause-answer
returns-clause-answer c =
    let h = c.args.held.now in
    let a = c.args in
    let e = ap₂ plan c.levels.ensures c.table.ensures in
    let d = c.as_slice.ensures ∙ runs-are h c.in-Ok.ensures in
    c.write_table.ensures.answer
    ∙ ap₂ (λ p rs. answered (refusal (print_checks p rs a.relative a.f)) (tt {0})) e d
    ∙ sym (goes-on h c.in-Ok.ensures (print_checks (plan_in h) (standing_in h) a.relative a.f) (tt {0}))

pub returns-clause-bytes : goal.returns-clause-bytes
returns-clause-bytes c =
    let h = c.args.held.now in
    let a = c.args in
    let e = ap₂ plan c.levels.ensures c.table.ensures in
    let d = c.as_slice.ensures ∙ runs-are h c.in-Ok.ensures in
    put_as (ap₂ (λ p rs. lines_beside p rs a.relative a.f (refusal_in c.write_table.result.answer)) e d) (omega arith) c.write_table.ensures.bytes
