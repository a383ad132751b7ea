-- `in_horizon` takes the smaller time and holds it to the horizon.
use mathlib.Core.Path.{◌≡◌}
use Prim.Native.Nat.{min}
use native.Mathlib.Omega.{arith}
use borrow.Author.Tests.{le-leb, lt-leb}
use Rattle.plain.proofs.change.in_horizon.Goals as goal

pub returns-then-first-most : goal.returns-then-first-most
returns-then-first-most c =
    let a = c.args in
    let e : min a.pending a.at.0 ≡ a.pending = omega arith in
    rw (e, le-leb a.pending a.last.0 (omega arith))

pub returns-then-first-then : goal.returns-then-first-then
returns-then-first-then c =
    let a = c.args in
    let e : min a.pending a.at.0 ≡ a.pending = omega arith in
    rw (e, lt-leb a.pending a.last.0 (omega arith))

pub returns-then-then-most : goal.returns-then-then-most
returns-then-then-most c =
    let a = c.args in
    let e : min a.pending a.at.0 ≡ a.at.0 = omega arith in
    rw (e, le-leb a.at.0 a.last.0 (omega arith))

pub returns : goal.returns
returns c =
    let a = c.args in
    let e : min a.pending a.at.0 ≡ a.at.0 = omega arith in
    rw (e, lt-leb a.at.0 a.last.0 (omega arith))
