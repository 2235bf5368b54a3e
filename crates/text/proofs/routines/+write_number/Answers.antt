-- The digits of a tenth of the number are written by the call, the last one after it.
use Rattle.exact.proofs.Ground.{◌∙◌, sym, ap, ◌+◌, arith, set}
use Rattle.text.proofs.Writing.{one-long, one_written, one-longer, last_written}
use Rattle.text.proofs.routines.+write_number.Goals as goal

pub bounds-room-at : goal.bounds-room-at
bounds-room-at t c = omega (arith, one-long c.args.n (omega arith))

pub overflow_add-result : goal.overflow_add-result
overflow_add-result t c = omega (arith, one-long c.args.n (omega arith))

pub returns-then-n-lt10-clause-next : goal.returns-then-n-lt10-clause-next
returns-then-n-lt10-clause-next t c = ap (λ k. c.args.at + k) (sym (one-long c.args.n (omega arith)))

pub returns-then-n-lt10-clause-room : goal.returns-then-n-lt10-clause-room
returns-then-n-lt10-clause-room t c =
    let a = c.args in
    ap (set a.room.now a.at) c.digit.ensures ∙ one_written a.room.now a.at a.n (omega arith) (omega (arith, one-long a.n (omega arith)))

pub write_number-end-requires : goal.write_number-end-requires
write_number-end-requires t c = (omega arith, omega (arith, one-longer c.args.n (omega arith)))

pub bounds-room-end : goal.bounds-room-end
bounds-room-end t c = omega (arith, one-longer c.args.n (omega arith))

pub overflow_add-result-2 : goal.overflow_add-result-2
overflow_add-result-2 t c = omega (arith, one-longer c.args.n (omega arith))

pub returns-clause-next : goal.returns-clause-next
returns-clause-next t c = omega (arith, one-longer c.args.n (omega arith))

pub returns-clause-room : goal.returns-clause-room
returns-clause-room t c =
    let w = c.write_number-end in
    ap (set w.new.room w.result) c.digit-2.ensures
    ∙ last_written c.args.room.now w.new.room c.args.at c.args.n w.result (omega arith) c.requires w.ensures.room w.ensures.next
