-- The space, then the digits, of which a number of 64 bits has 20 at most.
use Rattle.exact.proofs.Ground.{arith, length-set, rules}
use Rattle.lines.proofs.Puts.{few-digits, put-field}
use Rattle.lines.proofs.write_field.Goals as goal

pub write_number-requires : goal.write_number-requires
write_number-requires c =
    let a = c.args in
    omega (arith, few-digits a.number (search rules), length-set a.room.now a.at 32)

pub returns : goal.returns
returns c =
    let a = c.args in
    let w = c.write_number in
    put-field a.number a.at w.result a.room.now w.new.room (search rules) (search rules) w.ensures.next w.ensures.room
