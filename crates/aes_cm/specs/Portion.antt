-- RFC 9335, section 6.2: an encrypted portion of a packet, with a gap. RFC 3711, section 4.1.1, has none.
use Rattle.std.specs.Prelude.{ℕ, ◌+◌, ◌-◌, ltb}
use Rattle.bits.specs.Pick.{pick}

-- The bytes from `first` up to but not including `stop`, and from `rest` on, continue one keystream; those between use none of it. For
-- first ≤ stop ≤ rest.
unfoldable pub portion_pad : ℕ → ℕ → ℕ → (ℕ → ℕ) → ℕ → ℕ
portion_pad first stop rest stream i =
    pick (ltb i first) 0
    (pick (ltb i stop) (stream (i - first))
    (pick (ltb i rest) 0
    (stream (stop - first + (i - rest)))))
