-- The total is that of the sets before place k.
use Rattle.exact.proofs.Ground.{◌≡◌, ◌∙◌, ap, refl, ◌<◌, ◌+◌, arith}
use Rattle.exact.proofs.Bits.{of}
use Rattle.rules.specs.Plan.{plan, columns, level, entry}
use Rattle.sets.specs.Sets.{binom}
use Rattle.words.specs.Words.{word_of}
use Rattle.parts.proofs.Squared.{counted_none}
use Rattle.bench.proofs.Added.{place-projection, place-few, added-next, added-small, added-all}
use Rattle.bench.proofs.words_added.Goals as goal

pub loop-k-init : goal.loop-k-init
loop-k-init c = record { sets = c.binomial-k-end.ensures; counters = counted_none; total = refl }

pub word_by-word-requires-clause-sound : goal.word_by-word-requires-clause-sound
word_by-word-requires-clause-sound c =
    let a = c.args in
    let p = plan a.levels.now a.table.now in
    let k = c.loop-k.k in
    let (S, z) = c.requires in
    let inside : k < binom (columns p) a.f = omega (arith, c.loop-k.invariant.sets, c.loop-k-test.true) in
    rw (c.as_slice.ensures, c.set_at-set.ensures)
    (S, (place-projection p a.runs.now a.f S z k inside, place-few p a.runs.now a.f S z k inside))

pub add-total-requires : goal.add-total-requires
add-total-requires c =
    let a = c.args in
    let p = plan a.levels.now a.table.now in
    let rs = a.runs.now in
    let k = c.loop-k.k in
    let (S, z) = c.requires in
    rw (added-next p rs a.f S z k c.loop-k.invariant.total
    (of c.word_by-word.result c.word_by-word.type_inv ∙ c.word_by-word.ensures.word
    ∙ ap (word_of (level p) (entry p) rs) (c.as_slice.ensures ∙ c.set_at-set.ensures)))
    (omega (arith, added-small p rs a.f S z (k + 1) (omega (arith, c.loop-k.invariant.sets, c.loop-k-test.true))))

pub loop-k-preserved : goal.loop-k-preserved
loop-k-preserved c =
    let a = c.args in
    let p = plan a.levels.now a.table.now in
    let rs = a.runs.now in
    let (S, z) = c.requires in
    record {
      sets = c.loop-k.invariant.sets;
      counters = c.word_by-word.ensures.counters;
      total =
          of c.add-total.result c.add-total.type_inv ∙ c.add-total.ensures
          ∙ added-next p rs a.f S z c.loop-k.k c.loop-k.invariant.total
          (of c.word_by-word.result c.word_by-word.type_inv ∙ c.word_by-word.ensures.word
          ∙ ap (word_of (level p) (entry p) rs) (c.as_slice.ensures ∙ c.set_at-set.ensures));
    }

pub returns : goal.returns
returns c =
    let a = c.args in
    let p = plan a.levels.now a.table.now in
    let (S, z) = c.requires in
    let all : c.loop-k.k ≡ binom (columns p) a.f = omega (arith, c.loop-k.auto.k-end, c.loop-k-test.false, c.loop-k.invariant.sets) in
    (rw all at c.loop-k.invariant.total) ∙ added-all p a.runs.now a.f S z
