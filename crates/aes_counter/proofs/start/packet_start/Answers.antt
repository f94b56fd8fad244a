-- `aes_counter::start::packet_start` meets its contract: the blocks from the first counter block on.
use mathlib.Core.Path.{◌≡◌, ap₂, ◌∙◌}
use mathlib.Core.List.{List}
use Prim.Native.Nat.{ℕ}
use mir.Syntax.{w8}
use mir.Val.{Fits}
use lib.ListN.{length, get_or}
use borrow.Author.Rules.{rules}
use Rattle.bits.proofs.Bytes.{are-bytes}
use Rattle.aes.specs.Blocks.{byte_from}
use Rattle.aes_counter.proofs.Counters.{byte-is}
use Rattle.aes_counter.proofs.start.packet_start.Goals as goal

pub returns : goal.returns
returns c =
    let a = c.args in
    let fourteen : length a.salt ≡ 14 = search rules in
    let byte : (k : ℕ) → Fits w8 (get_or a.salt k 0) = λ k. search rules in
    let e = c.start_at.ensures in record {
      key_value = e.0;
      by_index = λ k h. ap₂ (λ (x y : List ℕ). byte_from x y k) e.0 (e.1 ∙ c.iv.ensures)
          ∙ byte-is a.cipher.key a.salt a.ssrc a.index fourteen (are-bytes a.salt (λ n. (byte n).fits)) c.ranges.ssrc.fits c.ranges.index.fits k h;
    }
