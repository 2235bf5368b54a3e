-- First the check of the size, then that of the resolution, then that of the rooms.
use Rattle.exact.proofs.Ground.{[], ◌∷◌, ◌∙◌, sym, ap, refl, length}
use Rattle.rules.specs.Plan.{plan, columns}
use Rattle.rules.specs.Refusals.{refusal, answered, bad_size, past_resolution}
use Rattle.rules.proofs.Answered.{left-early, err-first, ok-accepted}
use Rattle.rules.proofs.Order.{passed-by-first}
use Rattle.set_words.proofs.Answers.{size-given}
use Rattle.resolution.specs.Resolution.{resolution_in}
use Rattle.projection_tables.specs.Tables.{rooms, bad_rooms, rooms_beside, table_in, table_checks}
use Rattle.projection_tables.proofs.Answers.{past_words, left-alone}
use Rattle.projection_tables.proofs.routines.table_answer.Goals as goal

pub returns-in_err-check_size : goal.returns-in_err-check_size
returns-in_err-check_size c =
    let a = c.args in
    let p = plan a.levels.now a.table.now in
    let R = rooms a.nums.now a.dens.now a.counts.now in
    let ls = table_in a.relative p a.runs.now a.f in
    let rest = past_resolution a.relative (resolution_in p a.runs.now) a.f ∷ bad_rooms ls R ∷ [] in
    let w = err-first (bad_size (columns p) a.f ∷ []) rest tt tt (length ls) c.in_err-check_size.ensures in
    record {
      answer = left-early _ c.from_residual.ensures.1 w;
      rooms = left-alone ls R (refusal (table_checks p a.runs.now a.relative a.f R)) (length ls) w;
    }

pub check_relative-requires : goal.check_relative-requires
check_relative-requires c = c.requires.tabled.sound.columns-high

pub returns-in_err-check_relative : goal.returns-in_err-check_relative
returns-in_err-check_relative c =
    let a = c.args in
    let p = plan a.levels.now a.table.now in
    let R = rooms a.nums.now a.dens.now a.counts.now in
    let ls = table_in a.relative p a.runs.now a.f in
    let past = past_resolution a.relative (resolution_in p a.runs.now) a.f in
    let size = bad_size (columns p) a.f ∷ [] in
    let q = past_words p a.runs.now a.words.now a.relative a.f c.requires.tabled.sound.columns-high c.requires.of-runs in
    let d = passed-by-first size (past ∷ bad_rooms ls R ∷ []) tt refl (ok-accepted (refusal size) tt c.in_ok-check_size.ensures) in
    let w = err-first (past ∷ []) (bad_rooms ls R ∷ []) tt tt (length ls) (c.in_err-check_relative.ensures ∙ ap (λ r. answered r tt) q)
    ∙ ap (λ r. answered r (length ls)) (sym d) in
    record {
      answer = left-early _ c.from_residual-in_err-check_relative.ensures.1 w;
      rooms = left-alone ls R (refusal (table_checks p a.runs.now a.relative a.f R)) (length ls) w;
    }

pub frequencies-requires : goal.frequencies-requires
frequencies-requires c =
    let p = plan c.args.levels.now c.args.table.now in
    (c.requires.tabled, size-given (columns p) c.args.f refl (ok-accepted _ tt c.in_ok-check_size.ensures))

pub returns : goal.returns
returns c =
    let a = c.args in
    let p = plan a.levels.now a.table.now in
    let R = rooms a.nums.now a.dens.now a.counts.now in
    let ls = table_in a.relative p a.runs.now a.f in
    let past = past_resolution a.relative (resolution_in p a.runs.now) a.f in
    let size = bad_size (columns p) a.f ∷ [] in
    let q = past_words p a.runs.now a.words.now a.relative a.f c.requires.tabled.sound.columns-high c.requires.of-runs in
    let d = passed-by-first size (past ∷ bad_rooms ls R ∷ []) tt refl (ok-accepted (refusal size) tt c.in_ok-check_size.ensures) in
    let z = ap (λ r. r.number) (sym q) ∙ ok-accepted _ tt c.in_ok-check_relative.ensures in
    let e = sym (d ∙ passed-by-first (past ∷ []) (bad_rooms ls R ∷ []) tt refl z) in
    record {
      answer = c.frequencies.ensures.answer ∙ ap (λ r. answered r (length ls)) e;
      rooms = c.frequencies.ensures.rooms ∙ ap (rooms_beside ls R) e;
    }
