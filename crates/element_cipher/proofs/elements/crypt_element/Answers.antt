-- `element_cipher::elements::crypt_element` meets its contract: what the block that is held still has, and then one stretch.
use mathlib.Core.Path.{◌≡◌, ap, ap₂, ◌∙◌}
use mathlib.Core.List.{List, ◌++◌}
use Prim.Native.Nat.{ℕ, ◌+◌, ◌-◌, ◌≤◌}
use native.Mathlib.Omega.{arith}
use lib.ListN.{length, take, drop}
use Rattle.bits.specs.Xor.{xor_pad}
use Rattle.bits.proofs.Xor.{length-pad}
use Rattle.stretches.specs.Stretch.{keystream_end, stretch_pad}
use Rattle.stretches.proofs.Stretches.{stretch-front, stretch-join}
use Rattle.stretches.proofs.Parts.{not-large, part_length, stretch-back}
use Rattle.aes.specs.Blocks.{byte_from}
use Rattle.aes_keystream.specs.Steps.{Holds}
use Rattle.element_cipher.proofs.elements.crypt_element.Goals as goal

pub skip-t-requires : goal.skip-t-requires
skip-t-requires c =
    let bounds : (c.args.begin ≤ c.args.end) × ((c.args.end ≤ length c.args.block.now) × (length c.args.block.now ≤ keystream_end)) = c.requires.at_le_begin.1 in
    let p = c.requires in let b = bounds in record { at_le_to = (p.at_le_begin.0, omega (arith, b.0, b.1.0, b.1.1)); holds = p.holds }

pub xor_held-u-requires : goal.xor_held-u-requires
xor_held-u-requires c =
    let bounds : (c.args.begin ≤ c.args.end) × ((c.args.end ≤ length c.args.block.now) × (length c.args.block.now ≤ keystream_end)) = c.requires.at_le_begin.1 in
    let a = c.args in
    let b = bounds in
    not-large c.skip-t.result.at (length (take (a.end - a.begin) (drop a.begin a.block.now)))
    (omega (arith, part_length a.begin a.end a.block.now b.1.0, c.skip-t.ensures.0, b.0, b.1.0, b.1.1))

pub xor_stretch-requires : goal.xor_stretch-requires
xor_stretch-requires c =
    let reach : ℕ = c.xor_held-u.result.at in
    let stream : ℕ → ℕ = byte_from c.args.blocks.now.cipher.key c.args.blocks.now.block in
    let after : List ℕ =
    let a = c.args in
    take a.begin a.block.now ++ (c.xor_held-u.new.buf ++ drop (a.end - a.begin) (drop a.begin a.block.now)) in
    let bounds : (c.args.begin ≤ c.args.end) × ((c.args.end ≤ length c.args.block.now) × (length c.args.block.now ≤ keystream_end)) = c.requires.at_le_begin.1 in
    let within : reach ≤ c.args.end =
    let a = c.args in
    let b = bounds in
    omega (arith, c.xor_held-u.ensures.used.within, part_length a.begin a.end a.block.now b.1.0, c.skip-t.ensures.0, b.0) in
    let held : Holds c.args.blocks.now.cipher.key c.args.blocks.now.block c.xor_held-u.result
    × (after ≡ xor_pad (stretch_pad c.args.begin reach c.args.begin stream) c.args.block.now) =
    let a = c.args in
    let b = bounds in
    let t = c.skip-t in
    let u = c.xor_held-u.ensures.used in
    let y = c.xor_held-u.ensures.by_index a.blocks.now.cipher.key a.blocks.now.block t.ensures.1 in
    let n = reach - t.result.at in
    let r : a.begin + n ≡ reach = omega (arith, t.ensures.0, u.forward) in (
      y.0,
      stretch-front a.begin a.end n t.result.at stream a.block.now c.xor_held-u.new.buf b.0 b.1.0 (omega (arith, r, within)) y.1
          ∙ ap₂ (λ (e o : ℕ). xor_pad (stretch_pad a.begin e o stream) a.block.now) r t.ensures.0,
    ) in
    let size_of : length after ≡ length c.args.block.now = ap length held.1 ∙ length-pad _ c.args.block.now in
    let p = c.requires in
    let b = bounds in
    let e = c.args.end in
    let n = part_length reach e after (omega (arith, size_of, b.1.0)) in
    record { buf_value = not-large reach (length (take (e - reach) (drop reach after))) (omega (arith, n, within, b.1.0, b.1.1)); holds = held.0 }

pub returns-then-a-end : goal.returns-then-a-end
returns-then-a-end c =
    let reach : ℕ = c.xor_held-u.result.at in
    let stream : ℕ → ℕ = byte_from c.args.blocks.now.cipher.key c.args.blocks.now.block in
    let after : List ℕ =
    let a = c.args in
    take a.begin a.block.now ++ (c.xor_held-u.new.buf ++ drop (a.end - a.begin) (drop a.begin a.block.now)) in
    let bounds : (c.args.begin ≤ c.args.end) × ((c.args.end ≤ length c.args.block.now) × (length c.args.block.now ≤ keystream_end)) = c.requires.at_le_begin.1 in
    let within : reach ≤ c.args.end =
    let a = c.args in
    let b = bounds in
    omega (arith, c.xor_held-u.ensures.used.within, part_length a.begin a.end a.block.now b.1.0, c.skip-t.ensures.0, b.0) in
    let held : Holds c.args.blocks.now.cipher.key c.args.blocks.now.block c.xor_held-u.result
    × (after ≡ xor_pad (stretch_pad c.args.begin reach c.args.begin stream) c.args.block.now) =
    let a = c.args in
    let b = bounds in
    let t = c.skip-t in
    let u = c.xor_held-u.ensures.used in
    let y = c.xor_held-u.ensures.by_index a.blocks.now.cipher.key a.blocks.now.block t.ensures.1 in
    let n = reach - t.result.at in
    let r : a.begin + n ≡ reach = omega (arith, t.ensures.0, u.forward) in (
      y.0,
      stretch-front a.begin a.end n t.result.at stream a.block.now c.xor_held-u.new.buf b.0 b.1.0 (omega (arith, r, within)) y.1
          ∙ ap₂ (λ (e o : ℕ). xor_pad (stretch_pad a.begin e o stream) a.block.now) r t.ensures.0,
    ) in
    let size_of : length after ≡ length c.args.block.now = ap length held.1 ∙ length-pad _ c.args.block.now in
    let a = c.args in
    let b = bounds in
    let o = reach in
    let u = c.xor_held-u.ensures.used in
    let w = within in
    let from = c.skip-t.ensures.0 in
    let n = part_length o a.end after (omega (arith, size_of, b.1.0)) in
    let y = c.xor_stretch.ensures in record {
      at_value = (omega (arith, y.at_value.0, n, w), y.at_value.1);
      block_after = stretch-back stream o a.end o after c.xor_stretch.new.buf w (omega (arith, size_of, b.1.0)) (omega (arith, b.1.0, b.1.1)) y.buf_after
          ∙ ap (xor_pad (stretch_pad o a.end o stream)) held.1
          ∙ stretch-join a.begin o a.end a.begin o stream a.block.now (omega (arith, u.forward, from)) w (omega arith);
    }

pub returns : goal.returns
returns c =
    let reach : ℕ = c.xor_held-u.result.at in
    let stream : ℕ → ℕ = byte_from c.args.blocks.now.cipher.key c.args.blocks.now.block in
    let after : List ℕ =
    let a = c.args in
    take a.begin a.block.now ++ (c.xor_held-u.new.buf ++ drop (a.end - a.begin) (drop a.begin a.block.now)) in
    let bounds : (c.args.begin ≤ c.args.end) × ((c.args.end ≤ length c.args.block.now) × (length c.args.block.now ≤ keystream_end)) = c.requires.at_le_begin.1 in
    let within : reach ≤ c.args.end =
    let a = c.args in
    let b = bounds in
    omega (arith, c.xor_held-u.ensures.used.within, part_length a.begin a.end a.block.now b.1.0, c.skip-t.ensures.0, b.0) in
    let held : Holds c.args.blocks.now.cipher.key c.args.blocks.now.block c.xor_held-u.result
    × (after ≡ xor_pad (stretch_pad c.args.begin reach c.args.begin stream) c.args.block.now) =
    let a = c.args in
    let b = bounds in
    let t = c.skip-t in
    let u = c.xor_held-u.ensures.used in
    let y = c.xor_held-u.ensures.by_index a.blocks.now.cipher.key a.blocks.now.block t.ensures.1 in
    let n = reach - t.result.at in
    let r : a.begin + n ≡ reach = omega (arith, t.ensures.0, u.forward) in (
      y.0,
      stretch-front a.begin a.end n t.result.at stream a.block.now c.xor_held-u.new.buf b.0 b.1.0 (omega (arith, r, within)) y.1
          ∙ ap₂ (λ (e o : ℕ). xor_pad (stretch_pad a.begin e o stream) a.block.now) r t.ensures.0,
    ) in
    let a = c.args in
    let e : reach ≡ a.end = omega (arith, within) in
    record { at_value = (e, held.0); block_after = held.1 ∙ ap (λ (z : ℕ). xor_pad (stretch_pad a.begin z a.begin stream) a.block.now) e }
