-- The packet that is given back, as the code puts it together: decrypted, and out of its form.
use Rattle.std.specs.Prelude.{Ok}
use mathlib.Core.Path.{◌≡◌, sym, ap, ap₂, ◌∙◌}
use mathlib.Core.Bool.{Bool}
use mathlib.Core.List.{List, ◌++◌}
use Prim.Native.Nat.{ℕ, ◌-◌, ◌≤◌}
use native.Mathlib.Omega.{arith}
use lib.ListN.{length, take, drop}
use lib.Seq.{take_at, drop_at, take-take, length-take-le}
use Rattle.rtp_header.specs.declared.header.Layout.{Layout}
use Rattle.rtp_header.specs.Header.{layout_of}
use Rattle.suites.specs.declared.suite.Suite.{Suite}
use Rattle.suites.specs.Suites.{tag_length_of}
use Rattle.packet_cipher.specs.declared.keys.Keys.{Keys}
use Rattle.packet_cipher.specs.Cipher.{stream_of, header_stream_of, cipher_of}
use Rattle.packet_cipher.proofs.Crypting.{crypted-length, crypted-layout}
use Rattle.policies.specs.declared.policy.Policy.{Policy}
use Rattle.policies.specs.declared.policy.Way.TheVariants.{Receiving}
use Rattle.policies.specs.Cryptex.{untagged_of}
use Rattle.policies.specs.Judging.{judged_of}
use Rattle.wire.specs.Wire.{restore_of}
use Rattle.wire.proofs.Wires.{restore-is}
use Rattle.wire.specs.Steps.{opened_of}
use Rattle.wire.proofs.Arriving.{long, read, fits}

module _ (suite : Suite) (keys : Keys) (policy : Policy) (listed : ℕ → Bool) (ssrc index : ℕ) (l : List ℕ) (n : ℕ) (h : Layout) (inside : n ≤ length l)
    (e : judged_of Receiving policy (tag_length_of suite) (take n l) ≡ Ok h) where
  abbrev t : ℕ
  t = tag_length_of suite

  pub tagged-long : t ≤ n
  tagged-long = omega (arith, long policy t l n h inside e)

  body : List ℕ
  body = take (n - t) l

  plain : List ℕ
  plain = cipher_of suite keys policy listed ssrc index body

  plain-length : length plain ≡ n - t
  unfolding plain body
  plain-length = crypted-length policy listed (stream_of suite keys ssrc index) (header_stream_of suite keys ssrc index) body ∙ length-take-le (n - t) l (omega arith)

  -- the buffer b once the packet is decrypted
  module _ (b : List ℕ) (eb : b ≡ opened_of suite keys policy listed ssrc index n l) where
    part-front : take (n - t - 0) (drop 0 b) ≡ plain
    unfolding plain body
    part-front = ap (λ (k : List ℕ). take (n - t - 0) k) eb ∙ take_at plain (drop (n - t) l) (n - t - 0) (omega (arith, plain-length))

    part-back : drop (n - t - 0) (drop 0 b) ≡ drop (n - t) l
    unfolding plain body
    part-back = ap (λ (k : List ℕ). drop (n - t - 0) k) eb ∙ drop_at plain (drop (n - t) l) (n - t - 0) (omega (arith, plain-length))

    -- its layout is the one that was read
    pub plain-read : h ≡ layout_of (take (n - t - 0) (drop 0 b))
    unfolding plain body
    plain-read =
        read policy t l n h inside e
        ∙ sym (ap layout_of part-front ∙ crypted-layout policy listed (stream_of suite keys ssrc index) (header_stream_of suite keys ssrc index) body)

    pub plain_fits : h.payload ≤ length (take (n - t - 0) (drop 0 b))
    unfolding plain body
    plain_fits = omega (arith, ap length part-front, plain-length, fits policy t l n h inside e, length-take-le (n - t) l (omega arith))

    pub restored : (ys : List ℕ) → ys ≡ untagged_of policy (take (n - t - 0) (drop 0 b))
        → ys ++ drop (n - t - 0) (drop 0 b) ≡ restore_of suite keys policy listed ssrc index (take n l) ++ drop (n - t) l
    unfolding plain body
    restored ys q =
        let count : length (take n l) ≡ n = length-take-le n l inside in
        let same : take (length (take n l) - t) (take n l) ≡ body = ap (λ (k : ℕ). take (k - t) (take n l)) count ∙ take-take (n - t) n l (omega arith) in
        ap₂ (λ (u v : List ℕ). u ++ v)
        (q ∙ ap (untagged_of policy) part-front ∙ ap (λ (x : List ℕ). untagged_of policy (cipher_of suite keys policy listed ssrc index x)) (sym same)
        ∙ sym (restore-is suite keys policy ssrc index listed (take n l)))
        part-back
