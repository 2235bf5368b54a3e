-- At the place that the search finds, the value's line, or where it is to stand.
use Rattle.exact.proofs.Ground.{◌≡◌, ◌∙◌, sym, ◌<◌, arith, rules}
use denote.Enum.Bare.{same_true, same_false}
use Rattle.exact.specs.contracts.fractions.Verdict.{the_type}
use Rattle.exact.specs.Fractions.{smaller_fraction}
use Rattle.exact.specs.declared.fractions.Verdict.TheVariants.{Equal}
use Rattle.projection_tables.specs.Tables.{rooms, fraction_at}
use Rattle.projection_tables.proofs.Lines.{at-within, found-lines, found-rooms, new-lines, new-rooms}
use Rattle.projection_tables.proofs.routines.count_value.Goals.{then-at-used+else-eq, else-at-used}
use Rattle.projection_tables.proofs.routines.count_value.Goals as goal

pub returns-then-eq-clause-lines : goal.returns-then-eq-clause-lines
returns-then-eq-clause-lines c =
    let a = c.args in
    found-lines (rooms a.nums.now a.dens.now a.counts.now) a.used a.value c.requires.0 c.place_of-at.result c.place_of-at.ensures c.if-at-used.true
    (sym c.smaller_fraction.ensures ∙ same_true the_type (search rules) _ _ (sym c.eq.ensures ∙ c.if-eq.true))

pub returns-then-eq-clause-table : goal.returns-then-eq-clause-table
returns-then-eq-clause-table c =
    let a = c.args in
    found-rooms (rooms a.nums.now a.dens.now a.counts.now) a.used a.value c.requires.0 c.place_of-at.result c.place_of-at.ensures c.if-at-used.true
    (sym c.smaller_fraction.ensures ∙ same_true the_type (search rules) _ _ (sym c.eq.ensures ∙ c.if-eq.true))

pub put_before-requires : goal.put_before-requires
put_before-requires c =
    let a = c.args in
    (at-within (rooms a.nums.now a.dens.now a.counts.now) a.used a.value c.requires.0 c.place_of-at.result c.place_of-at.ensures, c.requires.0.nums-free)

pub put_before-requires-2 : goal.put_before-requires-2
put_before-requires-2 c =
    let a = c.args in
    (at-within (rooms a.nums.now a.dens.now a.counts.now) a.used a.value c.requires.0 c.place_of-at.result c.place_of-at.ensures, c.requires.0.dens-free)

pub put_before-requires-3 : goal.put_before-requires-3
put_before-requires-3 c =
    let a = c.args in
    (at-within (rooms a.nums.now a.dens.now a.counts.now) a.used a.value c.requires.0 c.place_of-at.result c.place_of-at.ensures, c.requires.0.counts-free)

pub returns-clause-lines : goal.returns-clause-lines
returns-clause-lines c =
    let a = c.args in
    let at = c.place_of-at.result in
    let other : at < a.used → ¬ (smaller_fraction (fraction_at a.nums.now a.dens.now at) a.value ≡ Equal) = λ l q.
    elim c.if-at-used.branch [
      | then-at-used+else-eq w ↦ same_false the_type _ _ (sym w.eq.ensures ∙ w.if-eq.false) (w.smaller_fraction.ensures ∙ q)
      | else-at-used w ↦ absurd (omega arith)
    ] in
    new-lines (rooms a.nums.now a.dens.now a.counts.now) a.used a.value c.requires.0 at c.place_of-at.ensures other

pub returns-clause-table : goal.returns-clause-table
returns-clause-table c =
    let a = c.args in
    let at = c.place_of-at.result in
    let other : at < a.used → ¬ (smaller_fraction (fraction_at a.nums.now a.dens.now at) a.value ≡ Equal) = λ l q.
    elim c.if-at-used.branch [
      | then-at-used+else-eq w ↦ same_false the_type _ _ (sym w.eq.ensures ∙ w.if-eq.false) (w.smaller_fraction.ensures ∙ q)
      | else-at-used w ↦ absurd (omega arith)
    ] in
    rw (c.put_before.ensures, c.put_before-2.ensures, c.put_before-3.ensures)
    (new-rooms (rooms a.nums.now a.dens.now a.counts.now) a.used a.value c.requires.0 at c.place_of-at.ensures other)
