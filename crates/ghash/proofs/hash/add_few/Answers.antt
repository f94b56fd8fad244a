-- `ghash::hash::add_few` meets its contract.
use Rattle.std.proofs.Common.{◌≡◌, ℕ, ◌+◌, ◌-◌, ◌*◌, ◌%◌, ◌^◌, length, ap, ◌∙◌, arith}
use Rattle.bits.specs.BigEndian.{from_bytes}
use Rattle.bits.proofs.Bytes.{are-bytes}
use Rattle.gf128.specs.Steps.{value_of}
use Rattle.ghash.proofs.Places.{fed-none, fed-inside, fed-last}
use Rattle.ghash.proofs.hash.add_few.Goals as goal

pub returns-then-n-eq0 : goal.returns-then-n-eq0
returns-then-n-eq0 c =
    let g = c.args in
    record {
      begun_value = omega (arith, c.if-n-eq0.true);
      by_index = λ h t. fed-none h (value_of g.s.value) g.s.begun g.part.now c.if-n-eq0.true;
    }

pub returns-then-whole : goal.returns-then-whole
returns-then-whole c =
    let g = c.args in
    let l = g.part.now in
    let e : g.s.begun ≡ g.s.begun % 16 = omega arith in
    record {
      begun_value = omega (arith, c.if-whole.true);
      by_index =
          λ h t.
          fed-last h (value_of g.s.value) g.s.begun (value_of c.xor-x.result) (value_of c.placed.result) l (are-bytes l (λ i. (c.type_inv.part i).fits))
          (c.placed.ensures ∙ ap (λ (k : ℕ). from_bytes l * 2 ^ (8 * (16 - (k + length l)))) e) c.xor-x.ensures (value_of c.multiplied-u.result) (omega (arith, c.if-whole.true)) (c.multiplied-u.ensures h t);
    }

pub returns : goal.returns
returns c =
    let g = c.args in
    let l = g.part.now in
    let e : g.s.begun ≡ g.s.begun % 16 = omega arith in
    record {
      begun_value = omega (arith, c.if-whole.false, c.requires);
      by_index =
          λ h t.
          fed-inside h (value_of g.s.value) g.s.begun (value_of c.xor-x.result) (value_of c.placed.result) l (are-bytes l (λ i. (c.type_inv.part i).fits))
          (c.placed.ensures ∙ ap (λ (k : ℕ). from_bytes l * 2 ^ (8 * (16 - (k + length l)))) e) c.xor-x.ensures (omega (arith, c.if-whole.false, c.requires));
    }
