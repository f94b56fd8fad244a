-- `packet_cipher::cipher::crypt` meets its contract: the packet's keystream, and then, under the mask, the header keystream on the block.
use mathlib.Core.Path.{◌≡◌, sym, ◌∙◌}
use mathlib.Core.Bool.{true, false}
use mathlib.Core.List.{List}
use Prim.Native.Nat.{ℕ}
use native.Mathlib.Omega.{arith}
use Rattle.bits.specs.Xor.{xor_pad}
use Rattle.rtp_elements.specs.Mask.{listed_in}
use Rattle.suites.specs.declared.suite.Suite.TheVariants.{CmHmac}
use Rattle.policies.specs.Policies.{uses_mask}
use Rattle.packet_cipher.specs.Cipher.{portion_of, portion_pad_of, stream_of, header_stream_of}
use Rattle.packet_cipher.proofs.Passes.{sound-read, whole-block, portion-order, whole-stays, size-stays, payload-only, crypted-plain, crypted-masked, under-mask}
use Rattle.packet_cipher.proofs.cipher.crypt.Goals as goal

pub portion-r-requires : goal.portion-r-requires
portion-r-requires c = let s = sound-read _ _ c.requires.h_value.0 in omega (arith, s.contributors, s.count, s.block)

pub xor_portion-requires : goal.xor_portion-requires
xor_portion-requires c =
    let o = portion-order c.is_cryptex.result c.args.h _ (sound-read _ _ c.requires.h_value.0) c.requires.h_value.1.0 in
    record { rest_le_length = rw c.portion-r.ensures (o.1.1, omega arith) }

pub slice_bounds-crypt_elements-count : goal.slice_bounds-crypt_elements-count
slice_bounds-crypt_elements-count c = (sound-read _ _ c.requires.h_value.0).payload

pub slice_bounds-crypt_elements-start : goal.slice_bounds-crypt_elements-start
slice_bounds-crypt_elements-start c = omega (arith, (sound-read _ _ c.requires.h_value.0).payload)

pub crypt_elements-requires : goal.crypt_elements-requires
crypt_elements-requires c =
    let stream : ℕ → ℕ = stream_of CmHmac c.args.keys.now c.args.ssrc c.args.index in
    let passed : List ℕ = c.xor_portion.new.buf in
    let payload-passed : uses_mask c.args.policy ≡ true
    → passed ≡ xor_pad (portion_pad_of (portion_of false c.args.h) stream) c.args.packet.now = λ m.
    let a = c.args in
    payload-only a.policy a.h stream a.packet.now m _ _ _ c.is_cryptex.ensures c.portion-r.ensures c.xor_portion.ensures in
    let masks : c.uses_mask.result ≡ true → uses_mask c.args.policy ≡ true = λ e. sym c.uses_mask.ensures ∙ e in
    let a = c.args in
    let h = a.h in
    let p = c.requires.h_value in
    let m = masks c.if-uses_mask.true in
    let e = payload-passed m in
    let w = whole-block a.policy h a.packet.now m c.requires.packet_value in
    let n = size-stays h stream a.packet.now _ e (sound-read _ _ p.0) p.1.0 in
    record { block_value = (whole-stays h stream a.packet.now _ e w, omega (arith, n, p.1.0, p.1.1)) }

pub returns-then-uses_mask : goal.returns-then-uses_mask
returns-then-uses_mask c =
    let stream : ℕ → ℕ = stream_of CmHmac c.args.keys.now c.args.ssrc c.args.index in
    let header-stream : ℕ → ℕ = header_stream_of CmHmac c.args.keys.now c.args.ssrc c.args.index in
    let passed : List ℕ = c.xor_portion.new.buf in
    let payload-passed : uses_mask c.args.policy ≡ true
    → passed ≡ xor_pad (portion_pad_of (portion_of false c.args.h) stream) c.args.packet.now = λ m.
    let a = c.args in
    payload-only a.policy a.h stream a.packet.now m _ _ _ c.is_cryptex.ensures c.portion-r.ensures c.xor_portion.ensures in
    let masks : c.uses_mask.result ≡ true → uses_mask c.args.policy ≡ true = λ e. sym c.uses_mask.ensures ∙ e in
    let a = c.args in
    let p = c.requires.h_value in
    let m = masks c.if-uses_mask.true in
    crypted-masked (listed_in a.ids.now) stream header-stream a.packet.now a.h p.0 p.1.0 _ _ (payload-passed m) c.crypt_elements.ensures
    ∙ under-mask _ _ _ _ _ m

pub returns-else-uses_mask : goal.returns-else-uses_mask
returns-else-uses_mask c =
    let stream : ℕ → ℕ = stream_of CmHmac c.args.keys.now c.args.ssrc c.args.index in
    let header-stream : ℕ → ℕ = header_stream_of CmHmac c.args.keys.now c.args.ssrc c.args.index in
    let a = c.args in
    crypted-plain (listed_in a.ids.now) stream header-stream a.packet.now a.h c.requires.h_value.0 a.policy (sym c.uses_mask.ensures ∙ c.if-uses_mask.false)
    _ _ _ c.is_cryptex.ensures c.portion-r.ensures c.xor_portion.ensures
