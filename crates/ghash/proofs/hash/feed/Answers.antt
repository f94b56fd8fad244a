-- `ghash::hash::feed` meets its contract.
use mathlib.Core.Path.{◌≡◌, sym}
use mathlib.Core.List.{List}
use Prim.Native.Nat.{ℕ, ◌+◌, ◌-◌, ◌*◌, ◌/◌, ◌%◌, ◌≤◌}
use native.Mathlib.Decide.{dec_lt}
use native.Mathlib.Omega.{arith}
use lib.ListN.{length, take, drop}
use lib.Seq.{length-take-le}
use Rattle.bits.proofs.Bytes.{are-bytes}
use Rattle.gf128.specs.Steps.{value_of}
use Rattle.ghash.proofs.Feeding.{part_length, three-parts, fed-parts, fed-more}
use Rattle.ghash.proofs.hash.feed.Goals as goal

-- where the whole blocks end, which begin at byte n
abbrev middle : List ℕ → ℕ → ℕ
middle l n = n + (length l - n) / 16 * 16

first-length : (l : List ℕ) (n : ℕ) → n ≤ length l → length (take n l) ≡ n
first-length l n h = length-take-le n l h

second-length : (l : List ℕ) (n : ℕ) → n ≤ length l → length (take (middle l n - n) (drop n l)) ≡ middle l n - n
second-length l n h = part_length l n (middle l n) (omega arith) (omega arith)

third-length : (l : List ℕ) (n : ℕ) → n ≤ length l → length (take (length l - middle l n) (drop (middle l n) l)) ≡ length l - middle l n
third-length l n h = part_length l (middle l n) (length l) (omega arith) (omega arith)

pub slice_bounds-add_few-end : goal.slice_bounds-add_few-end
slice_bounds-add_few-end c = sym (first-length c.args.part.now c.room-n.result c.room-n.ensures.upper_bound.0)

pub add_few-t-requires : goal.add_few-t-requires
add_few-t-requires c =
    let within = c.room-n.ensures.upper_bound in
    let first = first-length c.args.part.now c.room-n.result within.0 in
    omega (arith, within.1)

pub add_blocks-u-requires : goal.add_blocks-u-requires
add_blocks-u-requires c =
    let within = c.room-n.ensures.upper_bound in
    let second = second-length c.args.part.now c.room-n.result within.0 in
    omega arith

pub add_few-requires : goal.add_few-requires
add_few-requires c =
    let bytes : List ℕ = c.args.part.now in
    let n = c.room-n.result in
    let within = c.room-n.ensures.upper_bound in
    let first = first-length bytes n within.0 in
    let third = third-length bytes n within.0 in
    -- bytes are left after the whole blocks only where the block begun was filled
    elim (dec_lt n (length bytes)) [
      | yes z ↦ let y = c.room-n.ensures.result_value z in omega (arith, c.add_few-t.ensures.begun_value, c.add_blocks-u.ensures.begun_value)
      | no z ↦ omega (arith, c.add_few-t.ensures.begun_value, c.add_blocks-u.ensures.begun_value)
    ]

pub returns : goal.returns
returns c =
    let g = c.args in
    let l : List ℕ = g.part.now in
    let n = c.room-n.result in
    let m = middle l n in
    let within = c.room-n.ensures.upper_bound in
    let first = first-length l n within.0 in
    let second = second-length l n within.0 in
    let third = third-length l n within.0 in
    let t = c.add_few-t in
    let u = c.add_blocks-u in
    let e : c.add_few.result.begun ≡ (g.s.begun + length l) % 16 = omega (arith, within.0, t.ensures.begun_value, u.ensures.begun_value, c.add_few.ensures.begun_value) in
    record {
      begun_value = e;
      by_index =
          λ h k q f.
          fed-more h k l g.s c.add_few.result f (are-bytes l (λ i. (c.type_inv.part i).fits)) e
          (fed-parts h (value_of g.s.value) g.s.begun (take n l) (take (m - n) (drop n l)) (take (length l - m) (drop m l)) l
          (value_of t.result.value) (value_of u.result.value) (value_of c.add_few.result.value) t.result.begun u.result.begun
          (three-parts l n m (omega arith) (omega (arith, within.0)))
          (omega (arith, t.ensures.begun_value)) (omega (arith, u.ensures.begun_value)) (t.ensures.by_index h q)
          (u.ensures.by_index h q (λ z. let y = c.room-n.ensures.result_value (omega arith) in omega (arith, t.ensures.begun_value)))
          (c.add_few.ensures.by_index h q));
    }
