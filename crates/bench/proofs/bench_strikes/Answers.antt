-- The calls are those of the definition, one after the other.
use Rattle.exact.proofs.Ground.{◌∙◌, ap, refl}
use Rattle.exact.proofs.Bits.{of}
use Rattle.rules.specs.Plan.{plan}
use Rattle.rules.specs.Refusals.{number_or}
use Rattle.held.proofs.Opened.{open-held}
use Rattle.held.proofs.History.{call-held}
use Rattle.bench.specs.Exports.{strikes_number}
use Rattle.bench.proofs.Answers.{rounds-held, strikes-number}
use Rattle.bench.proofs.bench_strikes.Goals as goal

pub rounds-requires : goal.rounds-requires
rounds-requires c = rw c.open-opened.ensures (open-held (plan c.args.levels.now c.args.table.now))

pub strike-requires : goal.strike-requires
strike-requires c =
    rw (c.rounds.ensures, c.open-opened.ensures) (rounds-held (open-held (plan c.args.levels.now c.args.table.now)) c.args.times)

pub word-asked-requires : goal.word-asked-requires
word-asked-requires c =
    rw (c.strike.ensures, c.rounds.ensures, c.open-opened.ensures)
    (call-held (rounds-held (open-held (plan c.args.levels.now c.args.table.now)) c.args.times) _)

pub number_or-requires : goal.number_or-requires
number_or-requires c =
    rw (c.and.ensures, c.word-asked.ensures, c.open-opened.ensures)
    (strikes-number (plan c.args.levels.now c.args.table.now) c.strike.result.held c.args.length)

pub returns : goal.returns
unfolding strikes_number
returns c =
    of c.number_or.result c.number_or.type_inv ∙ c.number_or.ensures
    ∙ rw (c.and.ensures, c.word-asked.ensures, c.strike.ensures, c.rounds.ensures, c.open-opened.ensures) refl
