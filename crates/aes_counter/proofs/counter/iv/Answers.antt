-- `aes_counter::counter::iv` meets its contract.
use mathlib.Core.Path.{◌≡◌}
use Prim.Native.Nat.{ℕ}
use mir.Syntax.{w8}
use mir.Val.{Fits}
use lib.ListN.{length, get_or}
use Rattle.bits.proofs.Bytes.{are-bytes}
use Rattle.aes_counter.proofs.Counters.{iv-is}
use borrow.Author.Rules.{rules}
use Rattle.aes_counter.proofs.counter.iv.Goals as goal

pub returns : goal.returns
returns c =
    let a = c.args in
    let fourteen : length a.salt ≡ 14 = search rules in
    let byte : (k : ℕ) → Fits w8 (get_or a.salt k 0) = λ k. search rules in
    iv-is a.salt c.write32-q.result c.write64-i.result a.ssrc a.index fourteen (are-bytes a.salt (λ k. (byte k).fits))
    c.ranges.ssrc.fits c.ranges.index.fits c.write32-q.ensures c.write64-i.ensures
