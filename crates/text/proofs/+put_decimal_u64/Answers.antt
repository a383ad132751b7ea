use mathlib.Core.List.{[], ◌∷◌}
use mathlib.Core.Path.{ap}
use native.Mathlib.Omega.{arith}
use lib.ListN.{length}
use Prim.Native.Nat.{◌+◌, ◌%◌, ◌≤◌}
use Rattle.text.proofs.Written.{wrote_then, wrote_room}
use Rattle.text.proofs.Decimal.{decimal_digit, decimal_more, decimal_count}
use Rattle.text.proofs.+put_decimal_u64.Goals as goal

pub put_byte-requires : goal.put_byte-requires
put_byte-requires t c = omega (arith, c.requires, ap length (decimal_digit c.args.n c.if-n-lt10.true))

pub returns-then-n-lt10 : goal.returns-then-n-lt10
returns-then-n-lt10 t c = rw (decimal_digit c.args.n c.if-n-lt10.true) c.put_byte.ensures

pub put_decimal_u64-end-requires : goal.put_decimal_u64-end-requires
put_decimal_u64-end-requires t c = (omega (arith, c.decreases), omega (arith, c.requires, decimal_count c.args.n c.if-n-lt10.false))

pub put_byte-requires-2 : goal.put_byte-requires-2
put_byte-requires-2 t c =
    let h : 10 ≤ c.args.n = c.if-n-lt10.false in
    wrote_room ((48 + c.args.n % 10) ∷ []) c.put_decimal_u64-end.ensures (omega (arith, c.requires, decimal_count c.args.n h))

pub returns : goal.returns
returns t c =
    rw (decimal_more c.args.n c.if-n-lt10.false)
    (wrote_then c.put_decimal_u64-end.ensures c.put_byte-2.ensures (omega (arith, c.requires)))
