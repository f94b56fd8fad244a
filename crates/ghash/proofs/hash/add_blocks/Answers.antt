-- `ghash::hash::add_blocks` meets its contract.
use Rattle.std.proofs.Common.{◌≡◌, ℕ, ◌+◌, ◌*◌, ◌/◌, ◌<◌, ◌≤◌, List, [], length, take, drop, get_or, refl, sym, ap, ◌∙◌, add-zero, arith}
use Rattle.bits.specs.BigEndian.{from_bytes}
use Rattle.bits.specs.Xor.{◌⊕◌}
use Rattle.bits.proofs.Bytes.{are-bytes}
use Rattle.gf128.specs.Product.{◌•◌}
use Rattle.gf128.specs.Steps.{value_of}
use Rattle.ghash.specs.Steps.{feed_of}
use Rattle.ghash.proofs.Feeding.{chunk-at, block-next, feed-end}
use Rattle.ghash.proofs.hash.add_blocks.Goals as goal

pub loop-block-init : goal.loop-block-init
loop-block-init c = λ h k z. ap (λ (n : ℕ). feed_of h (value_of c.args.s.value) n c.args.part.now) (add-zero c.args.s.begun)

pub loop-block-preserved : goal.loop-block-preserved
loop-block-preserved c =
    let g = c.args in
    let p = c.loop-block in
    let i = p.block-index in
    let l = g.part.now in
    let below : i < length l / 16 = omega (arith, c.loop-block-test.true, c.as_chunks.ensures.front_len) in
    let more : 16 * i + 16 ≡ 16 * (i + 1) = omega arith in
    -- block i, read
    let block : value_of c.from_be_bytes.result ≡ from_bytes (take 16 (drop (16 * i) l)) =
    c.from_be_bytes.ensures ∙ ap from_bytes (ap (λ (b : List (List ℕ)). get_or b i []) c.as_chunks.ensures.front ∙ chunk-at (length l / 16) i l below) in
    λ h k z.
    ap (λ (n : ℕ). feed_of h (value_of c.product-u.result) (g.s.begun + n) (drop n l)) (sym more)
    ∙ block-next h g.s.begun (16 * i) (value_of p.value) (value_of c.product-u.result) l (omega arith) (are-bytes l (λ n. (c.type_inv.part n).fits))
    (let y = z (omega arith) in omega arith)
    (c.product-u.ensures h k ∙ ap (λ (x : ℕ). x • h) (c.xor.ensures ∙ ap (λ (x : ℕ). value_of p.value ⊕ x) block))
    ∙ p.invariant h k z

pub returns : goal.returns
returns c =
    let g = c.args in
    let p = c.loop-block in
    let end : length g.part.now ≤ 16 * p.block-index = omega (arith, c.loop-block-test.false, c.as_chunks.ensures.front_len, c.requires) in
    record {
      begun_value = refl;
      by_index = λ h k z. sym (feed-end h g.s.begun (16 * p.block-index) (value_of p.value) g.part.now end) ∙ p.invariant h k z;
    }
