-- `projection_tables::routines::count_set` meets its contract: the word, its value, and one set more of it.
use Rattle.exact.proofs.Ground.{◌∙◌, ap, length, rules}
use Rattle.exact.proofs.Bits.{of}
use Rattle.rules.specs.Plan.{Plan, plan}
use Rattle.set_words.proofs.Values.{value-short}
use Rattle.projection_tables.specs.Tables.{one_more, rooms, lines_in, rooms_filled}
use Rattle.projection_tables.proofs.SetWalk.{worded-projection}
use Rattle.projection_tables.proofs.routines.count_set.Statement.{statement}
use Rattle.projection_tables.proofs.routines.count_set.Tie as tie

abbrev given : tie.Start → Plan
given s = plan s.args.levels.now s.args.table.now

value-requires : tie.Need-value-value-requires
value-requires c κs =
    let w = c in
    let s = w.before.before.before.before.before.before.before.before.before.before.before.before.before.before.before in
    let a = s.args in (
      (s.requires.0.1, worded-projection (given s) a.runs.now a.f a.columns.now a.product a.numbers.now a.parts.now s.requires.0.1 s.requires.1.0),
      of w.word-word.result w.word-word.type_inv ∙ w.word-word.ensures.0,
    )

count-value-requires : tie.Need-count_value-requires
count-value-requires c κs =
    let v = c in
    let s = v.before.before.before.before.before.before.before.before.before.before.before.before.before.before.before.before.before.before.before in
    let a = s.args in
    let (K, some) = worded-projection (given s) a.runs.now a.f a.columns.now a.product a.numbers.now a.parts.now s.requires.0.1 s.requires.1.0 in
    (s.requires.1.1, rw v.value-value.ensures (value-short (given s) a.runs.now a.columns.now s.requires.0.1 K some a.relative))

returns : tie.Need-returns
returns c =
    let q = c in
    let v = q in
    let a = v.args in
    let R = rooms a.nums.now a.dens.now a.counts.now in
    let more = ap (λ v. one_more v (lines_in R a.used)) v.value-value.ensures in
    (q.count_value.ensures.0 ∙ ap length more, (q.count_value.ensures.1 ∙ ap (λ ls. rooms_filled ls R) more, v.word-word.ensures.1))

pub count_set_spec : {M : Type 1} → statement M
count_set_spec =
    tie.close
    (tie.spec
    (λ c κs. search rules)
    value-requires
    count-value-requires
    (λ c. search rules)
    (λ c. search rules)
    (λ c. search rules)
    (λ c. search rules)
    returns)
