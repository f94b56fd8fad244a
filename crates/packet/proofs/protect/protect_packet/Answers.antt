-- `packet::protect::protect_packet` meets its contract.
use mathlib.Core.Path.{ap, ◌∙◌}
use lib.ListN.{take}
use Prim.Native.Nat.{ℕ, ◌+◌}
use native.Mathlib.Omega.{arith}
use Rattle.rtp_elements.specs.Mask.{listed_in}
use Rattle.packet.proofs.Sending.{part-front, sent}
use Rattle.packet.proofs.protect.protect_packet.Goals as goal

pub seal-code-requires : goal.seal-code-requires
seal-code-requires c =
    let a = c.args in
    let w = c.to_wire-formed.ensures.shaped in
    let f = part-front a.context.now.suite a.context.now.keys a.context.now.policy (listed_in a.context.now.ids) a.context.now.ssrc a.context.now.index a.buf.now a.n _ w.long _ c.to_wire-formed.ensures.buf_after in
    rw (f, w.long) w

pub returns : goal.returns
returns c =
    let a = c.args in
    let m = c.to_wire-formed.result.length in
    record {
      value = omega (arith, c.to_wire-formed.ensures.length_value, c.tag_length-t.ensures.0);
      buf_after =
          sent a.context.now.suite a.context.now.keys a.context.now.policy (listed_in a.context.now.ids) a.context.now.ssrc a.context.now.index a.buf.now a.n m c.to_wire-formed.ensures.shaped.long _ c.to_wire-formed.ensures.buf_after _ c.seal-code.ensures.packet_after (m + c.tag_length-t.result) (ap (λ (x : ℕ). m + x) c.tag_length-t.ensures.0)
          (omega (arith, c.to_wire-formed.ensures.length_value, c.tag_length-t.ensures.0, c.requires.h_in_bounds)) _ _ c.seal-code.ensures.result_value (c.copy_from_slice.ensures.after ∙ ap (λ (j : ℕ). take j c.seal-code.result) c.tag_length-t.ensures.0);
    }
