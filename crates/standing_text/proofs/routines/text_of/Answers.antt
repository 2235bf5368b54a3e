-- The runs that stand, and what the writer makes of them.
use Rattle.exact.proofs.Ground.{◌≡◌, ◌∙◌, ap, ap₂, length, arith}
use Rattle.std.specs.Prelude.{Ok}
use Rattle.rules.specs.Plan.{plan}
use Rattle.rules.proofs.Answered.{left-early}
use Rattle.held.specs.Held.{standing_in}
use Rattle.held.proofs.Lent.{stops, runs-are, some-run, asks-on, some_runs}
use Rattle.writer.specs.Writer.{write_answer}
use Rattle.standing_text.specs.StandingText.{text_in, sizes, text_answer, text_refusal}
use Rattle.standing_text.proofs.Answers.{stays, standing-runs, rooms_of, small-numbers, text-unwritten, unwritten-refuses, text-written}
use Rattle.standing_text.proofs.routines.text_of.Goals as goal

pub returns-in_err-standing-clause-answer : goal.returns-in_err-standing-clause-answer
unfolding text_answer text_refusal
returns-in_err-standing-clause-answer c =
    let h = c.args.held.now in
    left-early c.from_residual.result c.from_residual.ensures.1
    (stops h c.in_err-standing.ensures (rooms_of h (length c.args.room.now) (length c.args.numbers.now)) (sizes (text_in h) (standing_in h)))

pub returns-then-numbers-runs-clause-answer : goal.returns-then-numbers-runs-clause-answer
unfolding text_refusal
returns-then-numbers-runs-clause-answer c =
    let h = c.args.held.now in
    let a = length c.args.room.now in
    let b = length c.args.numbers.now in
    let s = c.in_ok-standing.ensures in
    let n : c.len-runs.result ≡ length (standing_in h) = c.len-runs.ensures ∙ ap length (runs-are h s) in
    rw c.plain.ensures (small-numbers h a b (asks-on h s (rooms_of h a b)) (omega arith))

pub write_runs-requires : goal.write_runs-requires
write_runs-requires c =
    let h = c.args.held.now in
    let s = c.in_ok-standing.ensures in
    rw (c.levels.ensures, c.table.ensures, c.as_slice-originals.ensures, runs-are h s) (standing-runs c.requires (some_runs c.requires (some-run h s)))

pub returns-in_err-bytes-clause-answer : goal.returns-in_err-bytes-clause-answer
unfolding text_refusal
returns-in_err-bytes-clause-answer c =
    let h = c.args.held.now in
    let a = length c.args.room.now in
    let b = length c.args.numbers.now in
    let s = c.in_ok-standing.ensures in
    let n : c.len-runs.result ≡ length (standing_in h) = c.len-runs.ensures ∙ ap length (runs-are h s) in
    left-early c.from_residual-in_err-bytes.result c.from_residual-in_err-bytes.ensures.1
    (text-unwritten h a b (asks-on h s (rooms_of h a b)) (omega arith)
    (c.in_err-bytes.ensures.answer
    ∙ ap₂ (λ p rs. write_answer p rs (λ checks. checks) a) (ap₂ plan c.levels.ensures c.table.ensures) (c.as_slice-originals.ensures ∙ runs-are h s)))

pub returns-in_err-bytes-clause-numbers : goal.returns-in_err-bytes-clause-numbers
unfolding text_refusal
returns-in_err-bytes-clause-numbers c =
    let h = c.args.held.now in
    let a = length c.args.room.now in
    let b = length c.args.numbers.now in
    let s = c.in_ok-standing.ensures in
    let n : c.len-runs.result ≡ length (standing_in h) = c.len-runs.ensures ∙ ap length (runs-are h s) in
    stays (standing_in h) c.args.numbers.now c.in_err-bytes.field-0.0 c.from_residual-in_err-bytes.result c.from_residual-in_err-bytes.ensures.1
    (unwritten-refuses h a b (asks-on h s (rooms_of h a b)) (omega arith)
    (c.in_err-bytes.ensures.answer
    ∙ ap₂ (λ p rs. write_answer p rs (λ checks. checks) a) (ap₂ plan c.levels.ensures c.table.ensures) (c.as_slice-originals.ensures ∙ runs-are h s)))

pub returns-clause-answer : goal.returns-clause-answer
unfolding text_refusal
returns-clause-answer c =
    let h = c.args.held.now in
    let a = length c.args.room.now in
    let b = length c.args.numbers.now in
    let s = c.in_ok-standing.ensures in
    let n : c.len-runs.result ≡ length (standing_in h) = c.len-runs.ensures ∙ ap length (runs-are h s) in
    ap (λ m. Ok (record { bytes = c.in_ok-bytes.bytes; runs = m })) n
    ∙ text-written h a b (asks-on h s (rooms_of h a b)) (omega arith)
    (c.in_ok-bytes.ensures.answer
    ∙ ap₂ (λ p rs. write_answer p rs (λ checks. checks) a) (ap₂ plan c.levels.ensures c.table.ensures) (c.as_slice-originals.ensures ∙ runs-are h s))
