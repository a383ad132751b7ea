-- `put_decimal_u64` meets its contract. It calls itself with a tenth of the number.
use Rattle.text.proofs.+put_decimal_u64.Given as goal

abbrev pub decreases-put_decimal_u64 : goal.decreases-put_decimal_u64
decreases-put_decimal_u64 l = l.n
