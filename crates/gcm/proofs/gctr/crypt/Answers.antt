-- `gcm::gctr::crypt` meets its contract.
use Rattle.std.proofs.Common.{◌≡◌, length, ap, arith, rules}
use Rattle.bits.specs.Portion.{Bounds}
use Rattle.gcm.proofs.Counters.{sealed-is}
use Rattle.gcm.proofs.gctr.crypt.Goals as goal

pub returns : goal.returns
returns c =
    let a = c.args in
    let p = a.portion in
    let n : length a.iv ≡ 12 = search rules in
    let first : c.portion.inside.first ≡ p.first = ap (λ (b : Bounds). b.first) c.portion.view_is in
    let stop : c.portion.inside.stop ≡ p.stop = ap (λ (b : Bounds). b.stop) c.portion.view_is in
    let rest : c.portion.inside.rest ≡ p.rest = ap (λ (b : Bounds). b.rest) c.portion.view_is in
    let v = c.portion.invariant in
    sealed-is a.key a.iv n a.buf.now _ p.first p.stop p.rest (omega (arith, v.0)) (omega (arith, v.1)) c.requires.1 c.crypt_from.ensures
