-- The tag and the added block as the code writes them: h is the layout that was read.
use Rattle.std.specs.Prelude.{Ok}
use mathlib.Core.Path.{◌≡◌, sym, ap, ◌∙◌}
use mathlib.Core.Bool.{true, false, not, ◌&&◌}
use mathlib.Core.List.{List, ◌++◌}
use Prim.Native.Nat.{ℕ, ◌+◌, ◌-◌, ◌*◌, ◌≤◌, ◌<◌}
use native.Mathlib.Omega.{arith}
use borrow.Author.Tests.{not-true}
use lib.Dec.{ltb}
use lib.ListN.{length, get_or, take, drop}
use lib.Seq.{get_or-take, length-take-le, take_at, drop_at}
use Rattle.bits.specs.Pick.{pick}
use Rattle.rtp_header.specs.declared.header.Layout.{Layout}
use Rattle.rtp_header.specs.Header.{has_extension, past_contributors, layout_by, layout_of, header_number}
use Rattle.policies.specs.declared.policy.Policy.{Policy}
use Rattle.policies.specs.declared.policy.Way.{Way}
use Rattle.policies.specs.declared.policy.Way.TheVariants.{Sending}
use Rattle.policies.specs.Cryptex.{adds_block, with_block, cryptex_tag, plain_tag, written16, tagged_of, is_cryptex, untagged_of}
use Rattle.wire.specs.Wire.{given_back_of}
use Rattle.policies.specs.Judging.{elements_fit, judged_of}
use Rattle.policies.specs.Policies.{uses_cryptex}
use Rattle.packet_cipher.proofs.Crypting.{and_left, and_right}
use Rattle.wire.proofs.Forms.{retagged-layout, added-length, added-layout}
use Rattle.policies.proofs.Layouts.{Sound, sound, layout-x, layout-extension, with-x, without-x}
use Rattle.wire.proofs.RoundTrips.{Passed, passed, judged, not-both}

-- ---- the tag

pub cryptex-elements : (policy : Policy) (h : Layout) (p : List ℕ) → uses_cryptex policy ≡ true → elements_fit policy h p ≡ true
cryptex-elements policy h p u = rw (not-both policy u)

module _ (p : List ℕ) (h : Layout) (read : h ≡ layout_of p) where
  extended : h.x ≡ true → h ≡ layout_by true p
  extended x = read ∙ with-x p (sym (layout-x p) ∙ sym (ap (λ (g : Layout). g.x) read) ∙ x)

  pub tag-inside : h.x ≡ true → h.payload ≤ length p → h.extension + 1 < length p
  tag-inside x f = let s : Sound h = rw read (sound p) in omega (arith, s.four x, s.payload)

  pub retagged : (v : ℕ) → h.x ≡ true → h.payload ≤ length p
      → record { cc = h.cc; x = true; tag = v; contributors = h.contributors; extension = h.extension; block = h.block; payload = h.payload }
      ≡ layout_of (written16 p h.extension v)
  retagged v x f =
      let y : has_extension p ≡ true = sym (layout-x p) ∙ sym (ap (λ (g : Layout). g.x) read) ∙ x in
      let e : h ≡ layout_by true p = extended x in
      let s : Sound h = rw read (sound p) in
      let n : past_contributors p + 4 ≤ length p = let m : (layout_by true p).payload ≤ length p = rw e at f in omega arith in
      rw e (sym (retagged-layout p v y n))

  module _ (policy : Policy) where
    pub is-tagged : (v : ℕ) → (uses_cryptex policy && h.x) ≡ true → v ≡ cryptex_tag h.tag → written16 p h.extension v ≡ tagged_of policy p
    unfolding tagged_of
    is-tagged v u e = rw (← read, u, e)

    pub not-tagged : (uses_cryptex policy && h.x) ≡ false → p ≡ tagged_of policy p
    unfolding tagged_of
    not-tagged u = rw (← read, u)

    pub is-untagged : (v : ℕ) → is_cryptex policy h ≡ true → v ≡ plain_tag h.tag → written16 p h.extension v ≡ untagged_of policy p
    unfolding untagged_of
    is-untagged v u e = rw (← read, u, e)

    pub not-untagged : is_cryptex policy h ≡ false → p ≡ untagged_of policy p
    unfolding untagged_of
    not-untagged u = rw (← read, u)

pub adds-cryptex : (policy : Policy) (h : Layout) → adds_block policy h ≡ true → uses_cryptex policy ≡ true
adds-cryptex policy h a = and_left (uses_cryptex policy) (not h.x && ltb 0 h.cc) a

-- ---- a packet that was judged

pub judged-layout : (way : Way) (policy : Policy) (t : ℕ) (p : List ℕ) (h : Layout) → judged_of way policy t p ≡ Ok h → h ≡ layout_of p
judged-layout way policy t p h e =
    let q : Ok h ≡ Ok (layout_of p) = sym e ∙ judged way policy t p (passed way policy t p (ap header_number e)) in
    cc

pub judged-passed : (way : Way) (policy : Policy) (t : ℕ) (p : List ℕ) (h : Layout) → judged_of way policy t p ≡ Ok h → Passed way policy t p
judged-passed way policy t p h e = passed way policy t p (ap header_number e)

-- ---- the packet of n bytes at the start of a buffer

pub front-is : (n : ℕ) (l : List ℕ) → take (n - 0) (drop 0 l) ≡ take n l
front-is n l = let z : n - 0 ≡ n = omega arith in ap (λ (k : ℕ). take k l) z

pub back_is : (n : ℕ) (l : List ℕ) → drop (n - 0) (drop 0 l) ≡ drop n l
back_is n l = let z : n - 0 ≡ n = omega arith in ap (λ (k : ℕ). drop k l) z

module _ (t : ℕ) (policy : Policy) (l : List ℕ) (n : ℕ) (h : Layout) (inside : n ≤ length l) (e : judged_of Sending policy t (take n l) ≡ Ok h) where
  pub read : h ≡ layout_of (take n l)
  read = judged-layout Sending policy t (take n l) h e

  pub count : length (take n l) ≡ n
  count = length-take-le n l inside

  pub fits : h.payload ≤ length (take n l)
  fits = let d = judged-passed Sending policy t (take n l) h e in rw read (omega (arith, d.fits))

  pub elements : elements_fit policy h (take n l) ≡ true
  elements = let d = judged-passed Sending policy t (take n l) h e in rw read d.elements

  pub small : n + pick (adds_block policy h) 4 0 + t ≤ 2048
  small = let d = judged-passed Sending policy t (take n l) h e in rw read (omega (arith, d.size, count))

  pub not-added : adds_block policy h ≡ false → take n l ≡ given_back_of policy (take n l)
  unfolding given_back_of
  not-added a = rw (← read, a)

  module _ (a : adds_block policy h ≡ true) where
    no-x : h.x ≡ false
    no-x = not-true h.x (and_left (not h.x) (ltb 0 h.cc) (and_right (uses_cryptex policy) (not h.x && ltb 0 h.cc) a))

    plain : has_extension (take n l) ≡ false
    plain = sym (layout-x (take n l)) ∙ sym (ap (λ (g : Layout). g.x) read) ∙ no-x

    at : h.extension ≡ past_contributors (take n l)
    at = ap (λ (g : Layout). g.extension) read ∙ layout-extension (take n l)

    reach : past_contributors (take n l) ≤ length (take n l)
    reach = let s : Sound h = rw read (sound (take n l)) in omega (arith, s.none no-x, fits, at)

    -- what adding the block asks for
    pub places : (0 < h.extension) × (h.extension ≤ n)
    places = let s : Sound h = rw read (sound (take n l)) in omega (arith, s.count, at, reach, count)

    pub first_below : get_or l 0 0 < 240
    first_below =
        let d = judged-passed Sending policy t (take n l) h e in
        let g : get_or (take n l) 0 0 ≡ get_or l 0 0 = get_or-take n l 0 0 (omega (arith, d.long, count)) in
        omega (arith, d.version)

    pub is-added : with_block (take n l) h.extension ≡ given_back_of policy (take n l)
    unfolding given_back_of
    is-added = rw (← read, a)

    pub grown : length (with_block (take n l) h.extension) ≡ n + 4
    grown = rw at (added-length (take n l) plain reach) ∙ ap (λ (k : ℕ). k + 4) count

    pub grown-layout : record { cc = h.cc; x = true; tag = 0xBEDE; contributors = 12; extension = h.extension; block = h.extension + 4; payload = h.extension + 4 }
        ≡ layout_of (with_block (take n l) h.extension)
    grown-layout =
        let z : past_contributors (take n l) + 4 + 4 * 0 ≡ past_contributors (take n l) + 4 = omega arith in
        let c : h.cc ≡ (layout_by false (take n l)).cc = ap (λ (g : Layout). g.cc) (read ∙ without-x (take n l) plain) in
        rw (at, c) (rw z at (sym (added-layout (take n l) plain reach)))

    -- the buffer once the block is added
    module _ (b : List ℕ) (eb : b ≡ with_block (take n l) h.extension ++ drop (n + 4) l) where
      pub grown-front : take (n + 4 - 0) (drop 0 b) ≡ with_block (take n l) h.extension
      grown-front = ap (λ (k : List ℕ). take (n + 4 - 0) k) eb ∙ take_at (with_block (take n l) h.extension) (drop (n + 4) l) (n + 4 - 0) (omega (arith, grown))

      pub grown-back : drop (n + 4 - 0) (drop 0 b) ≡ drop (n + 4) l
      grown-back = ap (λ (k : List ℕ). drop (n + 4 - 0) k) eb ∙ drop_at (with_block (take n l) h.extension) (drop (n + 4) l) (n + 4 - 0) (omega (arith, grown))
