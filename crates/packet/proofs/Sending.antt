-- The packet that is sent, as the code puts it together: the form, encrypted, and the tag behind it.
use mathlib.Core.Path.{◌≡◌, sym, ap, ap₂, ◌∙◌}
use mathlib.Core.Bool.{Bool}
use mathlib.Core.List.{List, ◌++◌, append_assoc}
use Prim.Native.Nat.{ℕ, ◌+◌, ◌-◌, ◌≤◌}
use native.Mathlib.Omega.{arith}
use lib.ListN.{length, take, drop}
use lib.Seq.{take_at, drop_at, drop-drop}
use Rattle.suites.specs.declared.suite.Suite.{Suite}
use Rattle.suites.specs.Suites.{tag_length_of}
use Rattle.packet_cipher.specs.declared.keys.Keys.{Keys}
use Rattle.packet_cipher.specs.Cipher.{stream_of, header_stream_of, cipher_of}
use Rattle.packet_cipher.specs.Tag.{tag_of}
use Rattle.packet_cipher.proofs.Crypting.{crypted-length}
use Rattle.policies.specs.declared.policy.Policy.{Policy}
use Rattle.policies.specs.Cryptex.{tagged_of}
use Rattle.wire.specs.Wire.{given_back_of, body_by, wire_of}
use Rattle.wire.proofs.Wires.{body_is, wire-is}

module _ (suite : Suite) (keys : Keys) (policy : Policy) (listed : ℕ → Bool) (ssrc index : ℕ) (l : List ℕ) (n : ℕ) where
  abbrev form : List ℕ
  form = tagged_of policy (given_back_of policy (take n l))

  abbrev cipher : List ℕ → List ℕ
  cipher = cipher_of suite keys policy listed ssrc index

  -- the buffer b once the packet has its form, of m bytes
  module _ (m : ℕ) (long : length form ≡ m) (b : List ℕ) (eb : b ≡ form ++ drop m l) where
    pub part-front : take (m - 0) (drop 0 b) ≡ form
    part-front = ap (λ (k : List ℕ). take (m - 0) k) eb ∙ take_at form (drop m l) (m - 0) (omega arith)

    part-back : drop (m - 0) (drop 0 b) ≡ drop m l
    part-back = ap (λ (k : List ℕ). drop (m - 0) k) eb ∙ drop_at form (drop m l) (m - 0) (omega arith)

    -- and once it is encrypted
    module _ (ys : List ℕ) (ey : ys ≡ cipher (take (m - 0) (drop 0 b))) where
      is_body : ys ≡ body_by policy cipher (take n l)
      is_body = ey ∙ ap cipher part-front ∙ sym (body_is policy cipher (take n l))

      ys-long : length ys ≡ m
      ys-long = ap length (ey ∙ ap cipher part-front) ∙ crypted-length policy listed (stream_of suite keys ssrc index) (header_stream_of suite keys ssrc index) form ∙ long

      abbrev c : List ℕ
      c = ys ++ drop (m - 0) (drop 0 b)

      front-is : take m c ≡ ys
      front-is = take_at ys (drop (m - 0) (drop 0 b)) m ys-long

      back_is : drop m c ≡ drop m l
      back_is = drop_at ys (drop (m - 0) (drop 0 b)) m ys-long ∙ part-back

      -- the first bytes of the code, in their place
      pub sent : (end : ℕ) → end ≡ m + tag_length_of suite → end ≤ length l → (code place : List ℕ) → take (tag_length_of suite) code ≡ tag_of suite keys policy ssrc index ys
          → place ≡ take (tag_length_of suite) code
          → take m c ++ (place ++ drop (end - m) (drop m c)) ≡ wire_of suite keys policy listed ssrc index (take n l) ++ drop end l
      sent end e fits code place t q =
          let z : end - m ≡ tag_length_of suite = omega arith in
          let y : m + tag_length_of suite ≡ end = sym e in
          let p : place ≡ tag_of suite keys policy ssrc index ys = q ∙ t in
          let g : drop (end - m) (drop m c) ≡ drop end l = ap₂ (λ (i : ℕ) (v : List ℕ). drop i v) z back_is ∙ drop-drop (tag_length_of suite) m l ∙ ap (λ (j : ℕ). drop j l) y in
          ap₂ (λ (u v : List ℕ). u ++ v) front-is (ap₂ (λ (u v : List ℕ). u ++ v) p g)
          ∙ sym (append_assoc ys (tag_of suite keys policy ssrc index ys) (drop end l))
          ∙ ap (λ (w : List ℕ). w ++ drop end l)
          (ap (λ (u : List ℕ). u ++ tag_of suite keys policy ssrc index u) is_body ∙ sym (wire-is suite keys policy ssrc index listed (take n l)))
