-- A packet of n bytes at the start of a buffer, with its tag in the last t.
use Rattle.std.specs.Prelude.{Ok}
use mathlib.Core.Path.{◌≡◌, sym, ap, ap₂, ◌∙◌}
use mathlib.Core.Bool.{Bool, true, not, ◌||◌}
use mathlib.Core.List.{List, ◌++◌}
use Prim.Native.Nat.{ℕ, ◌+◌, ◌-◌, ◌≤◌, ◌<◌}
use native.Mathlib.Omega.{arith}
use lib.ListN.{length, get_or, take, drop, take-append-drop}
use lib.Seq.{get_or-take, length-take-le, take-take}
use Rattle.tags.specs.Tag.{same_of}
use Rattle.rtp_header.specs.declared.header.Layout.{Layout}
use Rattle.rtp_elements.specs.Elements.{whole_of}
use Rattle.rtp_header.specs.Header.{layout_of, block_of}
use Rattle.packet_cipher.specs.declared.keys.Keys.{Keys}
use Rattle.policies.specs.declared.policy.Policy.{Policy}
use Rattle.policies.specs.declared.policy.Way.TheVariants.{Receiving}
use Rattle.policies.specs.Judging.{elements_fit, judged_of}
use Rattle.policies.specs.Policies.{uses_mask}
use Rattle.suites.specs.declared.suite.Suite.{Suite}
use Rattle.suites.specs.Suites.{tag_length_of}
use Rattle.wire.specs.Wire.{tag_fits}
use Rattle.packet_cipher.specs.Cipher.{cipher_of}
use Rattle.packet_cipher.specs.Tag.{tag_of}
use Rattle.policies.proofs.Layouts.{sound, layout-same}
use Rattle.cryptex.proofs.Raising.{drop-take}
use Rattle.wire.proofs.RoundTrips.{Passed, append-block}
use Rattle.wire.proofs.Wires.{tag-compared}
use Rattle.wire.proofs.Tagging.{judged-layout, judged-passed}
use Rattle.wire.specs.Steps.{opened_of}

module _ (policy : Policy) (t : ℕ) (l : List ℕ) (n : ℕ) (h : Layout) (inside : n ≤ length l) (e : judged_of Receiving policy t (take n l) ≡ Ok h) where
  whole-layout : h ≡ layout_of (take n l)
  whole-layout = judged-layout Receiving policy t (take n l) h e

  d : Passed Receiving policy t (take n l)
  d = judged-passed Receiving policy t (take n l) h e

  count : length (take n l) ≡ n
  count = length-take-le n l inside

  pub long : 12 + t ≤ n
  long = omega (arith, d.long, count)

  body-count : length (take (n - t) l) ≡ n - t
  body-count = length-take-le (n - t) l (omega arith)

  -- the bytes before the tag
  body_is : take (length (take n l) - t) (take n l) ≡ take (n - t) l
  body_is = ap (λ (k : ℕ). take (k - t) (take n l)) count ∙ take-take (n - t) n l (omega arith)

  same_byte : (i : ℕ) → i < n - t → get_or (take (n - t) l) i 0 ≡ get_or (take n l) i 0
  same_byte i b = get_or-take (n - t) l i 0 b ∙ sym (get_or-take n l i 0 (omega arith))

  body-layout : layout_of (take (n - t) l) ≡ layout_of (take n l)
  body-layout =
      let s = sound (take n l) in
      layout-same (take n l) (take (n - t) l) (same_byte 0 (omega (arith, long)))
      (λ x i a b. same_byte i (omega (arith, s.four x, s.payload, d.fits, count)))

  pub read : h ≡ layout_of (take (n - t) l)
  read = whole-layout ∙ sym body-layout

  pub fits : h.payload ≤ length (take (n - t) l)
  fits = omega (arith, ap (λ (g : Layout). g.payload) whole-layout, d.fits, count, body-count)

  pub small : length (take (n - t) l) ≤ 2048
  small = omega (arith, d.size, count, body-count)

  whole_is : take (n - t) l ++ drop (n - t) (take n l) ≡ take n l
  whole_is = ap (λ (b : List ℕ). b ++ drop (n - t) (take n l)) (sym (take-take (n - t) n l (omega arith))) ∙ take-append-drop (n - t) (take n l)

  body-block : block_of h (take (n - t) l) ≡ block_of h (take n l)
  body-block =
      let g : block_of (layout_of (take (n - t) l)) (take (n - t) l ++ drop (n - t) (take n l)) ≡ block_of (layout_of (take (n - t) l)) (take (n - t) l)
      = append-block (take (n - t) l) (drop (n - t) (take n l)) (omega (arith, long, body-count)) (rw read at fits) in
      sym (rw (← read, whole_is) at g)

  pub elements : elements_fit policy h (take (n - t) l) ≡ true
  elements =
      ap (λ (b : List ℕ). not (uses_mask policy) || whole_of h.tag b) body-block ∙ rw whole-layout d.elements

  -- as the code has it: the tag of the body beside the packet's last bytes
  pub tag-fits : (suite : Suite) → tag_length_of suite ≡ t → (keys : Keys) (ssrc index : ℕ) (made : List ℕ)
      → made ≡ tag_of suite keys policy ssrc index (take (n - t - 0) (drop 0 l))
      → same_of made (take (n - (n - t)) (drop (n - t) l)) ≡ tag_fits suite keys policy ssrc index (take n l)
  tag-fits suite k keys ssrc index made c =
      let y : n - t - 0 ≡ n - t = omega arith in
      let w : drop (length (take n l) - t) (take n l) ≡ take (n - (n - t)) (drop (n - t) l)
      = ap (λ (j : ℕ). drop (j - t) (take n l)) count ∙ drop-take (n - t) n l in
      tag-compared suite keys policy ssrc index (take n l) made (take (n - (n - t)) (drop (n - t) l)) (rw k (rw (y, ← body_is) at c)) (rw k (sym w))

  -- the buffer once the body is decrypted
  pub opened : (suite : Suite) → tag_length_of suite ≡ t → (keys : Keys) (listed : ℕ → Bool) (ssrc index : ℕ) (ys : List ℕ)
      → ys ≡ cipher_of suite keys policy listed ssrc index (take (n - t - 0) (drop 0 l))
      → ys ++ drop (n - t - 0) (drop 0 l) ≡ opened_of suite keys policy listed ssrc index n l
  opened suite k keys listed ssrc index ys q =
      let y : n - t - 0 ≡ n - t = omega arith in
      rw k (ap₂ (λ (u v : List ℕ). u ++ v) (q ∙ ap (λ (j : ℕ). cipher_of suite keys policy listed ssrc index (take j l)) y) (ap (λ (j : ℕ). drop j l) y))
