-- What goes under the cipher, of a packet that is not refused with 2 to 7: its header lies inside it, and it has at most 2,048 bytes.
use mathlib.Core.Path.{◌≡◌, ap}
use mathlib.Core.List.{List}
use Prim.Native.Nat.{ℕ, ◌-◌, ◌≤◌, ◌<◌}
use native.Mathlib.Omega.{arith}
use lib.ListN.{length, get_or, take}
use lib.Seq.{length-take-le, get_or-take}
use Rattle.rtp_header.specs.declared.header.Layout.{Layout}
use Rattle.rtp_header.specs.Header.{layout_of}
use Rattle.policies.specs.declared.policy.Policy.{Policy}
use Rattle.policies.specs.declared.policy.Way.TheVariants.{Sending, Receiving}
use Rattle.policies.specs.Cryptex.{tagged_of}
use Rattle.policies.proofs.Layouts.{sound, layout-same}
use Rattle.wire.specs.Wire.{given_back_of}
use Rattle.wire.proofs.Forms.{Ready, tagged, given_back}
use Rattle.wire.proofs.RoundTrips.{Passed, sent-tag}

-- ---- sending: the form on the wire, without the tag

module _ (t : ℕ) (policy : Policy) (p : List ℕ) (bytes : (i : ℕ) → get_or p i 0 < 256) (d : Passed Sending policy t p) where
  ready : Ready policy p
  ready =
      record { long = omega (arith, d.long); version = d.version; fits = omega (arith, d.fits); profile = sent-tag policy (layout_of p) d.profile; bytes = bytes }

  pub sent-fits : ((layout_of (tagged_of policy (given_back_of policy p))).payload ≤ length (tagged_of policy (given_back_of policy p)))
      × (length (tagged_of policy (given_back_of policy p)) ≤ 2048)
  sent-fits =
      let g = given_back policy p ready in
      let f = tagged policy (given_back_of policy p) g.ready in
      (omega (arith, f.payload, f.size, g.ready.fits), omega (arith, f.size, g.size, d.size))

-- ---- receiving: the bytes before the tag

module _ (t : ℕ) (policy : Policy) (w : List ℕ) (d : Passed Receiving policy t w) where
  pub received-length : length (take (length w - t) w) ≡ length w - t
  received-length = length-take-le (length w - t) w (omega arith)

  pub received-at : (i : ℕ) → i < length w - t → get_or (take (length w - t) w) i 0 ≡ get_or w i 0
  received-at i b = get_or-take (length w - t) w i 0 b

  pub received-layout : layout_of (take (length w - t) w) ≡ layout_of w
  received-layout =
      let s = sound w in
      layout-same w (take (length w - t) w) (received-at 0 (omega (arith, d.long))) (λ x i a b. received-at i (omega (arith, s.four x, s.payload, d.fits)))

  pub received-fits : ((layout_of (take (length w - t) w)).payload ≤ length (take (length w - t) w)) × (length (take (length w - t) w) ≤ 2048)
  received-fits =
      let e = ap (λ (h : Layout). h.payload) received-layout in
      (omega (arith, e, received-length, d.fits), omega (arith, received-length, d.size))
