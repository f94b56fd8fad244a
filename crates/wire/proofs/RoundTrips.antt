-- What is sent is given back.
use Rattle.bits.specs.declared.refusal.Refusal.{Refusal}
use Rattle.std.specs.Prelude.{Result, Ok, Err}
use mathlib.Core.Path.{◌≡◌, refl, sym, ap, ap₂, ◌∙◌}
use mathlib.Core.Bool.{Bool, true, false, not, ◌&&◌, ◌||◌}
use mathlib.Core.Logic.{◌⊎◌, inl, inr}
use mathlib.Core.List.{List, ◌++◌}
use Prim.Native.Nat.{ℕ, ◌+◌, ◌-◌, ◌/◌, ◌%◌, ◌≤◌, ◌<◌}
use native.Mathlib.Omega.{arith}
use borrow.Author.Tests.{le-ltb, ltb-false, eqb-true, eq-eqb, not-false}
use lib.Dec.{ltb, eqb}
use lib.ListN.{length, get_or, take, drop, length-append, length-drop, get_or-append}
use lib.Seq.{take_at, take-append-le, drop-append-le}
use Rattle.bits.specs.Pick.{pick}
use Rattle.bits.specs.declared.refusal.Refusal.TheVariants as refusal
use Rattle.rtp_header.specs.declared.header.Layout.{Layout}
use Rattle.rtp_elements.specs.Elements.{whole_of}
use Rattle.rtp_header.specs.Header.{version_of, layout_of, block_of, bounded_of, header_of, header_number}
use Rattle.packet_cipher.specs.declared.keys.Keys.{Keys}
use Rattle.policies.specs.declared.policy.Policy.{Policy}
use Rattle.policies.specs.declared.policy.Policy.TheVariants.{Plain, Cryptex, CryptexRequired, Mask}
use Rattle.policies.specs.declared.policy.Way.{Way}
use Rattle.policies.specs.declared.policy.Way.TheVariants.{Sending, Receiving}
use Rattle.packet_cipher.specs.Cipher.{stream_of, header_stream_of, cipher_of}
use Rattle.packet_cipher.specs.Tag.{tag_of}
use Rattle.suites.specs.declared.suite.Suite.{Suite}
use Rattle.suites.specs.Suites.{tag_length_of}
use Rattle.wire.specs.Claims.{Cipher, RoundTrip, AnyCipher, SentIsGivenBack, SendingAlike, CryptexLooksAtNone}
use Rattle.policies.specs.Cryptex.{is_cryptex_tag, tagged_of, untagged_of}
use Rattle.wire.specs.Wire.{given_back_of, body_by, wire_by, restore_by, wire_of, restore_of}
use Rattle.policies.specs.Judging.{tail_of, profile_fits, elements_fit, added_of, size_fits, judged_after, judged_of}
use Rattle.policies.specs.Policies.{uses_cryptex, uses_mask}
use Rattle.packet_cipher.proofs.Crypting.{crypted-stays, crypted-length, crypted-twice, crypted-alike, whole_by}
use Rattle.wire.proofs.Forms.{Ready, Tagged, tagged, GivenBack, given_back}
use Rattle.packet_cipher.proofs.Tagging.{tag-length, tag-alike}
use Rattle.wire.proofs.Wires.{ends-fit, wire-ends}
use Rattle.policies.proofs.Layouts.{apart, sound, layout-x, layout-count, layout-same}

-- ---- a packet that is not refused with 2 to 7

pub record Passed (way : Way) (policy : Policy) (t : ℕ) (p : List ℕ) : Type 0 where
  pub long : 12 + tail_of way t ≤ length p
  pub version : version_of p ≡ 2
  pub fits : (layout_of p).payload ≤ length p - tail_of way t
  pub profile : profile_fits way policy (layout_of p) ≡ true
  pub elements : elements_fit policy (layout_of p) p ≡ true
  pub size : length p + added_of way policy t (layout_of p) ≤ 2048

module _ (way : Way) (policy : Policy) (t : ℕ) (p : List ℕ) where
  header-passed : (a b c : Bool) (h : Layout)
      → header_number (judged_after way policy t p (pick a (Err refusal.Short) (pick b (Err refusal.Version) (pick c (Err refusal.Header) (Ok h))))) ≡ 0
      → (a ≡ false) × (b ≡ false) × (c ≡ false) × (header_number (judged_after way policy t p (Ok h)) ≡ 0)
  header-passed true b c h e = absurd (omega arith)
  header-passed false true c h e = absurd (omega arith)
  header-passed false false true h e = absurd (omega arith)
  header-passed false false false h e = (refl, refl, refl, e)

  rest-passed : (a b c : Bool) (h : Layout)
      → header_number (pick a (Err refusal.Profile) (pick b (Err refusal.Element) (pick c (Err refusal.Large) (Ok h)))) ≡ 0
      → (a ≡ false) × (b ≡ false) × (c ≡ false)
  rest-passed true b c h e = absurd (omega arith)
  rest-passed false true c h e = absurd (omega arith)
  rest-passed false false true h e = absurd (omega arith)
  rest-passed false false false h e = (refl, refl, refl)

  pub passed : header_number (judged_of way policy t p) ≡ 0 → Passed way policy t p
  unfolding judged_of header_of bounded_of
  passed e =
      let h = header-passed (ltb (length p) (12 + tail_of way t)) (not (eqb (version_of p) 2)) (ltb (length p - tail_of way t) (layout_of p).payload) (layout_of p) e in
      let r = rest-passed (not (profile_fits way policy (layout_of p))) (not (elements_fit policy (layout_of p) p)) (not (size_fits way policy t (layout_of p) p)) (layout_of p) h.3 in
      record {
        long = ltb-false (length p) (12 + tail_of way t) h.0;
        version = eqb-true (version_of p) 2 (not-false (eqb (version_of p) 2) h.1);
        fits = ltb-false (length p - tail_of way t) (layout_of p).payload h.2;
        profile = not-false (profile_fits way policy (layout_of p)) r.0;
        elements = not-false (elements_fit policy (layout_of p) p) r.1;
        size = ltb-false 2048 (length p + added_of way policy t (layout_of p)) (not-not (ltb 2048 (length p + added_of way policy t (layout_of p))) r.2);
      }
    where
      not-not : (b : Bool) → not (not b) ≡ false → b ≡ false
      not-not true e = e
      not-not false e = refl

  pub judged : Passed way policy t p → judged_of way policy t p ≡ Ok (layout_of p)
  unfolding judged_of header_of bounded_of
  judged d =
      simp (le-ltb (length p) (12 + tail_of way t) d.long, eq-eqb (version_of p) 2 d.version, le-ltb (length p - tail_of way t) (layout_of p).payload d.fits, d.profile, d.elements, le-ltb 2048 (length p + added_of way policy t (layout_of p)) d.size)

-- ---- a tag behind a packet changes nothing of it

module _ (b tag : List ℕ) (long : 12 ≤ length b) (fits : (layout_of b).payload ≤ length b) where
  append-layout : layout_of (b ++ tag) ≡ layout_of b
  append-layout =
      let s = sound b in
      layout-same b (b ++ tag) (get_or-append b tag 0 0 (omega arith)) (λ x i h k. get_or-append b tag 0 i (omega (arith, s.four x, s.payload)))

  pub append-block : block_of (layout_of b) (b ++ tag) ≡ block_of (layout_of b) b
  append-block =
      let s = sound b in
      let o : (layout_of b).block ≤ length b = omega (arith, s.payload) in
      let l : length (drop (layout_of b).block b) ≡ length b - (layout_of b).block = length-drop (layout_of b).block b in
      ap (take ((layout_of b).payload - (layout_of b).block)) (drop-append-le (layout_of b).block b tag o)
      ∙ take-append-le ((layout_of b).payload - (layout_of b).block) (drop (layout_of b).block b) tag (omega arith)

-- ---- PROFILE and ELEMENT, on the wire

pub or-equal : (a u v : ℕ) → (eqb a u || eqb a v) ≡ true → (a ≡ u) ⊎ (a ≡ v)
or-equal a u v e = go (eqb a u) refl e
  where
    go : (t : Bool) → eqb a u ≡ t → (t || eqb a v) ≡ true → (a ≡ u) ⊎ (a ≡ v)
    go true h k = inl (eqb-true a u h)
    go false h k = inr (eqb-true a v k)

pub sent-tag : (policy : Policy) (h : Layout) → profile_fits Sending policy h ≡ true → (uses_cryptex policy && h.x) ≡ true → (h.tag ≡ 0xBEDE) ⊎ (h.tag ≡ 0x1000)
sent-tag policy h e u = or-equal h.tag 0xBEDE 0x1000 (rw u at e)

got-tag : (policy : Policy) (h : Layout) → ((uses_cryptex policy && h.x) ≡ true → is_cryptex_tag h.tag ≡ true)
    → (uses_cryptex policy ≡ true → h.x ≡ false → h.cc ≡ 0)
    → profile_fits Receiving policy h ≡ true
got-tag Plain h k c = refl
got-tag Cryptex h k c = refl
got-tag CryptexRequired h k c = go h.x k (c refl)
  where
    go : (x : Bool) → (x ≡ true → is_cryptex_tag h.tag ≡ true) → (x ≡ false → h.cc ≡ 0) → pick x (is_cryptex_tag h.tag) (eqb h.cc 0) ≡ true
    go true k c = k refl
    go false k c = eq-eqb h.cc 0 (c refl)
got-tag Mask h k c = refl

keep-elements : (policy : Policy) (encrypt : List ℕ → List ℕ) (p : List ℕ)
    → (uses_mask policy ≡ true → (q : List ℕ) → whole_of (layout_of q).tag (block_of (layout_of q) (encrypt q)) ≡ whole_of (layout_of q).tag (block_of (layout_of q) q))
    → elements_fit policy (layout_of p) p ≡ true
    → elements_fit policy (layout_of (tagged_of policy (given_back_of policy p))) (encrypt (tagged_of policy (given_back_of policy p))) ≡ true
unfolding tagged_of given_back_of
keep-elements Plain encrypt p k e = refl
keep-elements Cryptex encrypt p k e = refl
keep-elements CryptexRequired encrypt p k e = refl
keep-elements Mask encrypt p k e = k refl p ∙ e

-- ---- there and back

module _ (policy : Policy) (encrypt decrypt : List ℕ → List ℕ) (law : Cipher policy encrypt decrypt) where
  encrypted-layout : (q : List ℕ) → layout_of (encrypt q) ≡ layout_of q
  encrypted-layout q =
      let s = sound q in
      layout-same q (encrypt q) (law.stays q 0 (omega (arith, s.count, s.block)) (inl (omega arith)))
      (λ x i a b. law.stays q i (omega (arith, s.four x)) (inr a))

  module _ (t : ℕ) (tag : List ℕ → List ℕ) (p : List ℕ) (tags : (m : List ℕ) → length (tag m) ≡ t) (bytes : (i : ℕ) → get_or p i 0 < 256) (s : Passed Sending policy t p) where
    ready : Ready policy p
    ready =
        record { long = omega (arith, s.long); version = s.version; fits = omega (arith, s.fits); profile = sent-tag policy (layout_of p) s.profile; bytes = bytes }

    q : List ℕ
    q = given_back_of policy p

    r : List ℕ
    r = tagged_of policy q

    b : List ℕ
    b = encrypt r

    given : GivenBack policy p q
    unfolding q
    given = given_back policy p ready

    form : Tagged policy q r
    unfolding r
    form = tagged policy q given.ready

    body-length : length b ≡ length q
    unfolding b
    body-length = law.same_length r ∙ form.size

    body-layout : layout_of b ≡ layout_of r
    unfolding b
    body-layout = encrypted-layout r

    body-payload : (layout_of b).payload ≡ (layout_of q).payload
    body-payload = ap (λ (h : Layout). h.payload) body-layout ∙ form.payload

    long : 12 ≤ length b
    long = omega (arith, body-length, given.ready.long)

    fits : (layout_of b).payload ≤ length b
    fits = omega (arith, body-length, body-payload, given.ready.fits)

    wire-layout : layout_of (b ++ tag b) ≡ layout_of r
    wire-layout = append-layout b (tag b) long fits ∙ body-layout

    wire-length : length (b ++ tag b) ≡ length b + t
    wire-length = length-append b (tag b) ∙ ap (λ (k : ℕ). length b + k) (tags b)

    wire-size : length (b ++ tag b) ≡ length p + added_of Sending policy t (layout_of p)
    wire-size = omega (arith, wire-length, body-length, given.size)

    wire-fixed : (i : ℕ) → i < 12 → get_or (b ++ tag b) i 0 ≡ get_or q i 0
    unfolding b
    wire-fixed i h =
        let o = sound r in
        get_or-append b (tag b) 0 i (omega (arith, long)) ∙ law.stays r i (omega (arith, o.count, o.block)) (inl h) ∙ form.fixed i h

    wire-elements : elements_fit policy (layout_of (b ++ tag b)) (b ++ tag b) ≡ true
    unfolding b r q
    wire-elements =
        ap (λ (h : Layout). elements_fit policy h (b ++ tag b)) (append-layout b (tag b) long fits)
        ∙ ap (λ (l : List ℕ). not (uses_mask policy) || whole_of (layout_of b).tag l) (append-block b (tag b) long fits)
        ∙ ap (λ (h : Layout). elements_fit policy h b) body-layout
        ∙ keep-elements policy encrypt p law.elements s.elements

    -- the tag changes neither X nor CC
    covered : uses_cryptex policy ≡ true → (layout_of r).x ≡ false → (layout_of r).cc ≡ 0
    covered u e =
        let z : get_or r 0 0 ≡ get_or q 0 0 = form.fixed 0 (omega arith) in
        layout-count r ∙ ap (λ (k : ℕ). k % 16) z ∙ sym (layout-count q)
        ∙ given.covered u (layout-x q ∙ ap (λ (k : ℕ). eqb (k / 16 % 2) 1) (sym z) ∙ sym (layout-x r) ∙ e)

    arrived : Passed Receiving policy t (b ++ tag b)
    arrived =
        record {
          long = omega (arith, wire-length, long);
          version = ap (λ (x : ℕ). x / 64) (wire-fixed 0 (omega arith)) ∙ given.ready.version;
          fits = omega (arith, ap (λ (h : Layout). h.payload) wire-layout, ap (λ (h : Layout). h.payload) body-layout, fits, wire-length);
          profile = got-tag policy (layout_of (b ++ tag b)) (rw wire-layout form.profile) (rw wire-layout covered);
          elements = wire-elements;
          size = omega (arith, wire-size, s.size);
        }

    pub round_trip : RoundTrip policy t p (wire_by policy encrypt tag p) (restore_by policy decrypt t (wire_by policy encrypt tag p))
    unfolding wire_by body_by restore_by b r q
    round_trip =
        let body : take (length (b ++ tag b) - t) (b ++ tag b) ≡ b = take_at b (tag b) (length (b ++ tag b) - t) (omega (arith, wire-length)) in
        let back : untagged_of policy (decrypt (take (length (b ++ tag b) - t) (b ++ tag b))) ≡ q
        = ap (λ (l : List ℕ). untagged_of policy (decrypt l)) body ∙ ap (untagged_of policy) (law.undone r) ∙ form.undone in
        record {
          accepted = ap header_number (judged Receiving policy t (b ++ tag b) arrived);
          restored = back;
          shorter = omega (arith, ap length back, wire-length, body-length);
          size = wire-size;
          long = arrived.long;
          small = omega (arith, wire-size, s.size);
          header = λ i z h. wire-fixed i h ∙ given.fixed i z h;
        }

pub any-cipher : AnyCipher
any-cipher =
    record {
      back = λ policy encrypt decrypt law t tag p tags bytes sent. round_trip policy encrypt decrypt law t tag p tags bytes (passed Sending policy t p sent);
    }

-- ---- every suite

lawful : (suite : Suite) (keys : Keys) (policy : Policy) (listed : ℕ → Bool) (ssrc index : ℕ)
    → Cipher policy (cipher_of suite keys policy listed ssrc index) (cipher_of suite keys policy listed ssrc index)
lawful suite keys policy listed ssrc index =
    record {
      same_length = crypted-length policy listed (stream_of suite keys ssrc index) (header_stream_of suite keys ssrc index);
      stays = crypted-stays policy listed (stream_of suite keys ssrc index) (header_stream_of suite keys ssrc index);
      undone = crypted-twice policy listed (stream_of suite keys ssrc index) (header_stream_of suite keys ssrc index);
      elements = whole_by policy listed (stream_of suite keys ssrc index) (header_stream_of suite keys ssrc index);
    }

pub sent-is-given-back : SentIsGivenBack
unfolding wire_of restore_of
sent-is-given-back =
    record {
      lawful = lawful;
      back =
          λ suite keys policy listed ssrc index p bytes sent.
          round_trip policy (cipher_of suite keys policy listed ssrc index) (cipher_of suite keys policy listed ssrc index) (lawful suite keys policy listed ssrc index)
          (tag_length_of suite) (tag_of suite keys policy ssrc index) p (tag-length suite keys policy ssrc index) bytes (passed Sending policy (tag_length_of suite) p sent);
      fits =
          λ suite keys policy listed ssrc index p.
          ends-fit suite keys policy ssrc index (wire_of suite keys policy listed ssrc index p) (wire-ends suite keys policy ssrc index listed p);
    }

-- ---- policies 1 and 2

pub sending-alike : SendingAlike
unfolding judged_of wire_of wire_by body_by given_back_of tagged_of
sending-alike =
    record {
      judged = λ t p. judged-alike t p (header_of p 0);
      wire =
          λ suite keys listed ssrc index p.
          ap₂ (λ (u v : List ℕ). u ++ v)
          (crypted-alike listed (stream_of suite keys ssrc index) (header_stream_of suite keys ssrc index) (tagged_of Cryptex (given_back_of Cryptex p)))
          (tag-alike suite keys ssrc index _ _
          (crypted-alike listed (stream_of suite keys ssrc index) (header_stream_of suite keys ssrc index) (tagged_of Cryptex (given_back_of Cryptex p))));
    }
  where
    judged-alike : (t : ℕ) (p : List ℕ) (h : Result Layout Refusal) → judged_after Sending CryptexRequired t p h ≡ judged_after Sending Cryptex t p h
    judged-alike t p (Err r) = refl
    judged-alike t p (Ok h) = refl

pub not-both : (policy : Policy) → uses_cryptex policy ≡ true → uses_mask policy ≡ false
not-both Plain e = apart cc
not-both Cryptex e = refl
not-both CryptexRequired e = refl
not-both Mask e = apart cc

after_same : (way : Way) (policy : Policy) (t : ℕ) (p q : List ℕ) → uses_mask policy ≡ false → length q ≡ length p → (h : Result Layout Refusal)
    → judged_after way policy t q h ≡ judged_after way policy t p h
after_same way policy t p q m n (Err r) = refl
after_same way policy t p q m n (Ok h) = rw (m, n)

header-same : (k : ℕ) (p q : List ℕ) → length q ≡ length p → get_or q 0 0 ≡ get_or p 0 0 → layout_of q ≡ layout_of p → header_of q k ≡ header_of p k
unfolding header_of bounded_of
header-same k p q n f l = rw (n, f, l)

pub cryptex-looks-at-none : CryptexLooksAtNone
unfolding judged_of
cryptex-looks-at-none =
    record {
      judged =
          λ way policy t p q uses n f x.
          ap (judged_after way policy t q) (header-same (tail_of way t) p q n f (layout-same p q f x))
          ∙ after_same way policy t p q (not-both policy uses) n (header_of p (tail_of way t));
    }
