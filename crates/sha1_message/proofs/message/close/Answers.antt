-- `sha1_message::message::close` meets its contract.
use mathlib.Core.Path.{◌≡◌, sym, ap, ◌∙◌}
use mathlib.Core.List.{◌++◌}
use Prim.Native.Nat.{ℕ, ◌+◌, ◌*◌, ◌≤◌}
use native.Mathlib.Omega.{arith}
use lib.ListN.{length, length-append}
use Rattle.sha1_compress.specs.Message.{zeros_of}
use Rattle.sha1_compress.proofs.Padding.{one_block, two_blocks, closed, closed-length}
use Rattle.sha1_message.proofs.message.close.Goals as goal
use Rattle.sha1_message.proofs.message.close.Goals.{then-fits, else-fits}

pub returns : goal.returns
returns c =
    let g = c.args in
    let held : ℕ = length g.left.now + length g.tail.now in
    -- the blocks counted have just room for what is held and its padding
    let counted : (64 * c.if-fits.n ≡ held + 9 + zeros_of held) × (c.if-fits.n ≤ 2) =
    elim c.if-fits.branch [
      | then-fits w ↦ (ap (λ (n : ℕ). 64 * n) w.n-is ∙ one_block held w.if-fits.true, omega arith)
      | else-fits w ↦ (ap (λ (n : ℕ). 64 * n) w.n-is ∙ two_blocks held w.if-fits.false c.requires.1, omega arith)
    ] in
    let e = length-append g.left.now g.tail.now in
    record {
      count = counted.0 ∙ ap (λ (k : ℕ). k + 9 + zeros_of k) (sym e) ∙ sym (closed-length (g.left.now ++ g.tail.now) g.bits);
      bytes =
          closed g.left.now g.tail.now c.write64-number.result g.end.now c.put.new.buf c.put-2.new.buf c.put-3.new.buf c.if-fits.n g.bits
          counted.0 (omega (arith, counted.1)) c.requires.0 c.put.ensures c.put-2.ensures c.write64-number.ensures c.put-3.ensures;
    }
