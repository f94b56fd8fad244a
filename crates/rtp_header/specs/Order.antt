-- What the code's own steps mean: the parts of a header in order, for whoever cuts a packet by its layout (RFC 3550, sections 5.1 and 5.3.1).
use Rattle.rtp_header.specs.declared.header.Layout.{Layout}
use Rattle.bits.specs.declared.refusal.Refusal.{Refusal}
use Rattle.std.specs.Prelude.{ℕ, ◌≤◌, Result, Ok, Err}

-- the parts of a header that was read stand in order, before the end
abbrev pub Ordered : ℕ → Result Layout Refusal → Type 0
Ordered end (Ok h) = (12 ≤ h.extension) × ((h.extension ≤ h.block) × ((h.block ≤ h.payload) × (h.payload ≤ end)))
Ordered end (Err r) = Unit {0}
