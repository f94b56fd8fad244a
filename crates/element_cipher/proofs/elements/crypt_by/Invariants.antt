-- `element_cipher::elements::crypt_by` meets its contract.
use Prim.Native.Nat.{◌-◌, ◌≤◌}
use lib.ListN.{length}
use Rattle.aes.specs.Blocks.{byte_from}
use Rattle.aes_keystream.specs.Steps.{Holds}
use Rattle.rtp_elements.specs.Mask.{listed_in}
use Rattle.element_cipher.proofs.Masking.{Masking}
use Rattle.element_cipher.proofs.elements.crypt_by.Given as goal

abbrev pub invariant-loop-element : goal.invariant-loop-element
invariant-loop-element l =
    Masking (listed_in l.listed) l.tag (byte_from l.blocks.cipher.key l.blocks.block) l.initial.block l.block l.i × ((l.s.at ≤ l.i) × Holds l.blocks.cipher.key l.blocks.block l.s)

abbrev pub decreases-loop-element : goal.decreases-loop-element
decreases-loop-element l = length l.initial.block - l.i
