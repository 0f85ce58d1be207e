use native.Mathlib.Omega.{arith}
use Rattle.numerals.proofs.Decimals.{decimal_digit, decimal_more}
use Rattle.lines.proofs.Buffers.{puts_then, room_first, room_then}
use Rattle.lines.proofs.Text.+put_number.Goals as goal

pub put_byte-requires : goal.put_byte-requires
put_byte-requires t c = rw (decimal_digit c.args.n (omega arith)) at c.requires

pub returns-then-n-lt-BASE : goal.returns-then-n-lt-BASE
returns-then-n-lt-BASE t c = rw (decimal_digit c.args.n (omega arith)) c.put_byte.ensures

pub put_number-requires : goal.put_number-requires
put_number-requires t c = (omega (arith, c.decreases), room_first _ (rw (decimal_more c.args.n (omega arith)) at c.requires))

pub put_byte-requires-2 : goal.put_byte-requires-2
put_byte-requires-2 t c = room_then (rw (decimal_more c.args.n (omega arith)) at c.requires) c.put_number.ensures

pub returns : goal.returns
returns t c = rw (decimal_more c.args.n (omega arith)) (puts_then c.put_number.ensures c.put_byte-2.ensures)
