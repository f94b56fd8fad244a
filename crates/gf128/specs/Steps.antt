-- What the code's own steps mean. Nothing here is the standard's.
use Rattle.std.specs.Prelude.{ℕ, ◌+◌, ◌*◌, ◌^◌}
use Rattle.gf128.specs.declared.block.Block.{Block}

-- the number that a block kept as two halves is
abbrev pub value_of : Block → ℕ
value_of b = b.high * 2 ^ 64 + b.low
