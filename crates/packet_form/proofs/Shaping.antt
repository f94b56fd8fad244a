-- A packet put into its wire form: one law for each step.
use mathlib.Core.Path.{◌≡◌, sym, ap, ◌∙◌}
use mathlib.Core.Bool.{true, false, ◌&&◌}
use mathlib.Core.List.{List, ◌++◌}
use Prim.Native.Nat.{ℕ, ◌+◌, ◌-◌, ◌≤◌}
use native.Mathlib.Omega.{arith}
use lib.ListN.{length, take, drop}
use lib.Seq.{take_at, drop_at}
use Rattle.rtp_header.specs.declared.header.Layout.{Layout}
use Rattle.policies.specs.declared.policy.Policy.{Policy}
use Rattle.policies.specs.Cryptex.{adds_block, cryptex_tag, with_block, written16, tagged_of}
use Rattle.policies.specs.Policies.{uses_cryptex}
use Rattle.packet_cipher.proofs.Crypting.{and_left, and_right}
use Rattle.wire.specs.Wire.{given_back_of}
use Rattle.wire.proofs.Forms.{written-length}
use Rattle.wire.proofs.Tagging.{cryptex-elements, retagged, is-tagged, not-tagged, adds-cryptex, read, count, fits, elements, small, not-added, places, is-added, grown, grown-layout}
use Rattle.policies.specs.Shapes.{Sendable, Shaped}

-- ---- the empty block

module _ (policy : Policy) (l : List ℕ) (n : ℕ) (h : Layout) (inside : n ≤ length l) (d : Sendable policy (take n l) h) where
  pub raised : adds_block policy h ≡ true
      → Shaped policy (given_back_of policy (take n l)) (n + 4)
      (record { cc = h.cc; x = true; tag = 0xBEDE; contributors = 12; extension = h.extension; block = h.extension + 4; payload = h.extension + 4 })
  raised a =
      let g : Layout = record { cc = h.cc; x = true; tag = 0xBEDE; contributors = 12; extension = h.extension; block = h.extension + 4; payload = h.extension + 4 } in
      rw (sym (is-added d.t policy l n h inside d.judged a))
      (record {
        long = grown d.t policy l n h inside d.judged a;
        small = omega (arith, rw a at (small d.t policy l n h inside d.judged));
        layout = grown-layout d.t policy l n h inside d.judged a;
        inside = omega (arith, places d.t policy l n h inside d.judged a);
        elements = cryptex-elements policy g (with_block (take n l) h.extension) (adds-cryptex policy h a);
      })

  pub not-raised : adds_block policy h ≡ false → Shaped policy (given_back_of policy (take n l)) n h
  not-raised a =
      rw (sym (not-added d.t policy l n h inside d.judged a))
      (record {
        long = count d.t policy l n h inside d.judged;
        small = omega (arith, small d.t policy l n h inside d.judged);
        layout = read d.t policy l n h inside d.judged;
        inside = omega (arith, fits d.t policy l n h inside d.judged, count d.t policy l n h inside d.judged);
        elements = elements d.t policy l n h inside d.judged;
      })

-- ---- the tag

module _ (policy : Policy) (p : List ℕ) (h : Layout) (s : Shaped policy p (length p) h) where
  pub says : (v : ℕ) → (uses_cryptex policy && h.x) ≡ true → v ≡ cryptex_tag h.tag
      → Shaped policy (tagged_of policy p) (length p)
      (record { cc = h.cc; x = true; tag = v; contributors = h.contributors; extension = h.extension; block = h.block; payload = h.payload })
  says v u t =
      let g : Layout = record { cc = h.cc; x = true; tag = v; contributors = h.contributors; extension = h.extension; block = h.block; payload = h.payload } in
      rw (sym (is-tagged p h s.layout policy v u t))
      (record {
        long = written-length p h.extension v;
        small = s.small;
        layout = retagged p h s.layout v (and_right (uses_cryptex policy) h.x u) s.inside;
        inside = s.inside;
        elements = cryptex-elements policy g (written16 p h.extension v) (and_left (uses_cryptex policy) h.x u);
      })

  pub says-not : (uses_cryptex policy && h.x) ≡ false → Shaped policy (tagged_of policy p) (length p) h
  says-not u = rw (sym (not-tagged p h s.layout policy u)) s

-- ---- the part of the buffer that is the packet

module _ (b g l : List ℕ) (m : ℕ) (eb : b ≡ g ++ drop m l) (long : length g ≡ m) where
  pub part-front : take (m - 0) (drop 0 b) ≡ g
  part-front = ap (λ (k : List ℕ). take (m - 0) k) eb ∙ take_at g (drop m l) (m - 0) (omega arith)

  pub part-back : drop (m - 0) (drop 0 b) ≡ drop m l
  part-back = ap (λ (k : List ℕ). drop (m - 0) k) eb ∙ drop_at g (drop m l) (m - 0) (omega arith)
