-- `ghash::hash::add_blocks`: what is still to feed, from the present value, gives what the whole part does.
use Rattle.std.proofs.Common.{◌≡◌, ℕ, ◌+◌, ◌*◌, ◌<◌, length, drop}
use Rattle.gf128.specs.Steps.{value_of}
use Rattle.gf128_product.specs.Steps.{KeyTable}
use Rattle.ghash.specs.Steps.{feed_of}
use Rattle.ghash.proofs.hash.add_blocks.Given as goal

abbrev pub invariant-loop-block : goal.invariant-loop-block
invariant-loop-block l =
    (h : ℕ) → KeyTable h l.table → (0 < length l.part → l.fn.s.begun ≡ 0)
    → feed_of h (value_of l.value) (l.fn.s.begun + 16 * l.block-index) (drop (16 * l.block-index) l.part)
    ≡ feed_of h (value_of l.fn.s.value) l.fn.s.begun l.part
