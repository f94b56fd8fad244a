-- Finding for a caller that cannot be lent a part of its packet: it is told where the part lies.
use Rattle.std.specs.Prelude.{List, ℕ, ltb}
use Rattle.bits.specs.Pick.{pick}
use Rattle.rtp.specs.Finding.{find_of}
use Rattle.srtp.specs.declared.find.Part.{Part}

-- Finding asks for any 32-bit id. Elements have ids from 1 to 255, so any other is absent, once the packet's own refusals are tested.
abbrev pub find_call : List ℕ → ℕ → Part
find_call packet id = record { number = (find_of packet id).number; begin = (find_of packet id).begin; length = (find_of packet id).length }

-- the byte that is sought for an id: no element has id 0
abbrev pub asked_id : ℕ → ℕ
asked_id id = pick (ltb 255 id) 0 id
