-- `ghash::few::placed` meets its contract.
use mathlib.Core.Path.{sym}
use Prim.Native.Nat.{◌+◌, ◌-◌}
use native.Mathlib.Omega.{arith}
use lib.ListN.{length}
use lib.Seq.{length-take-le}
use Rattle.bits.specs.BigEndian.{from_bytes}
use Rattle.ghash.proofs.Places.{in-high, in-low, in_both}
use Rattle.ghash.proofs.few.placed.Goals as goal

pub returns-then-end-le8 : goal.returns-then-end-le8
returns-then-end-le8 c =
    in-high (from_bytes c.args.part.now) c.moved.result (c.args.k + length c.args.part.now) c.if-end-le8.true c.moved.ensures

pub returns-then-k-ge8 : goal.returns-then-k-ge8
returns-then-k-ge8 c = in-low _ c.moved-then-k-ge8.result c.moved-then-k-ge8.ensures

pub slice_bounds-number-end : goal.slice_bounds-number-end
slice_bounds-number-end c = sym (length-take-le (8 - c.args.k) c.args.part.now (omega (arith, c.if-end-le8.false, c.if-k-ge8.false)))

pub number-requires : goal.number-requires
number-requires c =
    let n = length-take-le (8 - c.args.k) c.args.part.now (omega (arith, c.if-end-le8.false, c.if-k-ge8.false)) in
    omega arith

pub returns : goal.returns
returns c =
    in_both c.args.part.now c.args.k c.number.result c.moved-2.result (omega (arith, c.if-k-ge8.false)) (omega (arith, c.if-end-le8.false)) c.requires.1 c.number.ensures c.moved-2.ensures
