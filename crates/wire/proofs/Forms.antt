-- The form on the wire before the cipher: the added block, and the tag that says Cryptex.
use mathlib.Core.Path.{◌≡◌, refl, sym, ap, ap₂, ◌∙◌}
use mathlib.Core.Bool.{Bool, true, false, not, ◌&&◌}
use mathlib.Core.Logic.{◌⊎◌, inl, inr, ⊎_elim}
use mathlib.Core.List.{List, [], ◌∷◌}
use Prim.Native.Nat.{ℕ, zero, suc, ◌+◌, ◌-◌, ◌*◌, ◌/◌, ◌%◌, ◌≤◌, ◌<◌}
use native.Mathlib.Decide.{dec_lt}
use native.Mathlib.Omega.{arith}
use borrow.Author.Tests.{eqb-false, eq-eqb, ltb-false, not-true}
use lib.Dec.{eqb, ltb}
use lib.ListN.{length, get_or, take, drop, set, length-drop, length-set, length-append, get_or-append}
use lib.Seq.{get_or-set_same, get_or-set_other, set-set, set_comm, set-get_or, get_or-take, get_or-append-add, get_or-drop, length-take-le}
use Rattle.bits.specs.BigEndian.{from_bytes}
use Rattle.bits.specs.Pick.{pick}
use Rattle.rtp_header.specs.declared.header.Layout.{Layout}
use Rattle.rtp_header.specs.Header.{version_of, has_extension, count_of, past_contributors, field16, layout_by, layout_of}
use Rattle.policies.specs.declared.policy.Policy.{Policy}
use Rattle.policies.specs.Cryptex.{adds_block, with_block, plain_tag, is_cryptex_tag, written16, tagged_of, untagged_of}
use Rattle.wire.specs.Wire.{given_back_of}
use Rattle.policies.specs.Policies.{uses_cryptex}
use Rattle.policies.proofs.Layouts.{apart, layout-x, layout-extension, with-x, without-x}
use Rattle.packet_cipher.proofs.Crypting.{and_left, and_right}

-- ---- a number of 16 bits, written

module _ (l : List ℕ) (i v : ℕ) where
  pub written-length : length (written16 l i v) ≡ length l
  unfolding written16
  written-length = simp length-set

  pub written-other : (j : ℕ) → (j < i) ⊎ (i + 1 < j) → get_or (written16 l i v) j 0 ≡ get_or l j 0
  unfolding written16
  written-other j h =
      let a : j ≡ i + 1 → ⊥ = λ e. ⊎_elim (λ u. omega arith) (λ u. omega arith) h in
      let b : j ≡ i → ⊥ = λ e. ⊎_elim (λ u. omega arith) (λ u. omega arith) h in
      get_or-set_other (set l i (v / 256)) (i + 1) j (v % 256) 0 a ∙ get_or-set_other l i j (v / 256) 0 b

  pub written_read : i + 1 < length l → field16 (written16 l i v) i ≡ v
  unfolding written16
  written_read h =
      let a : get_or (set (set l i (v / 256)) (i + 1) (v % 256)) i 0 ≡ v / 256
      = get_or-set_other (set l i (v / 256)) (i + 1) i (v % 256) 0 (λ e. omega arith) ∙ get_or-set_same l i (v / 256) 0 (omega arith) in
      let b : get_or (set (set l i (v / 256)) (i + 1) (v % 256)) (i + 1) 0 ≡ v % 256
      = get_or-set_same (set l i (v / 256)) (i + 1) (v % 256) 0 (simp length-set h) in
      omega (arith, a, b)

-- written over, and back
pub written_back : (l : List ℕ) (i v w : ℕ) → get_or l i 0 < 256 → get_or l (i + 1) 0 < 256 → field16 l i ≡ w → written16 (written16 l i v) i w ≡ l
unfolding written16
written_back l i v w a b e =
    let hi : w / 256 ≡ get_or l i 0 = omega arith in
    let lo : w % 256 ≡ get_or l (i + 1) 0 = omega arith in
    rw (hi, lo, set_comm (set l i (v / 256)) (i + 1) i (v % 256) (get_or l i 0) (λ q. omega arith), set-set l i (v / 256) (get_or l i 0), set-get_or l i 0, set-set l (i + 1) (v % 256) (get_or l (i + 1) 0), set-get_or l (i + 1) 0)

field-same : (p q : List ℕ) (i : ℕ) → get_or q i 0 ≡ get_or p i 0 → get_or q (i + 1) 0 ≡ get_or p (i + 1) 0 → field16 q i ≡ field16 p i
field-same p q i a b = ap₂ (λ (u v : ℕ). from_bytes (u ∷ v ∷ [])) a b

-- ---- the tag

-- the layout once the tag is written over
abbrev pub retagged : List ℕ → ℕ → Layout
retagged p v =
    record {
      cc = count_of p;
      x = true;
      tag = v;
      contributors = 12;
      extension = past_contributors p;
      block = past_contributors p + 4;
      payload = past_contributors p + 4 + 4 * field16 p (past_contributors p + 2);
    }

pub retagged-layout : (p : List ℕ) (v : ℕ) → has_extension p ≡ true → past_contributors p + 4 ≤ length p
    → layout_of (written16 p (past_contributors p) v) ≡ retagged p v
retagged-layout p v x fits =
    let q : List ℕ = written16 p (past_contributors p) v in
    let z : get_or q 0 0 ≡ get_or p 0 0 = written-other p (past_contributors p) v 0 (inl (omega arith)) in
    let y : has_extension q ≡ true = ap (λ (b : ℕ). eqb (b / 16 % 2) 1) z ∙ x in
    let c : count_of q ≡ count_of p = ap (λ (b : ℕ). b % 16) z in
    let w : field16 q (past_contributors p + 2) ≡ field16 p (past_contributors p + 2)
    = field-same p q (past_contributors p + 2) (written-other p (past_contributors p) v (past_contributors p + 2) (inr (omega arith)))
    (written-other p (past_contributors p) v (past_contributors p + 2 + 1) (inr (omega arith))) in
    let t : field16 q (past_contributors p) ≡ v = written_read p (past_contributors p) v (omega arith) in
    with-x q y ∙ rw (c, t, w)

-- a tag that says Cryptex, and the plain one again
back : (policy : Policy) (p : List ℕ) (v w : ℕ) → has_extension p ≡ true → past_contributors p + 4 ≤ length p → uses_cryptex policy ≡ true → is_cryptex_tag v ≡ true
    → plain_tag v ≡ w → field16 p (past_contributors p) ≡ w → ((i : ℕ) → get_or p i 0 < 256)
    → untagged_of policy (written16 p (past_contributors p) v) ≡ p
unfolding untagged_of
back policy p v w x fits uses says plain e bytes =
    rw (retagged-layout p v x fits, uses, says, plain) (written_back p (past_contributors p) v w (bytes (past_contributors p)) (bytes (past_contributors p + 1)) e)

-- what protecting has made sure of
pub record Ready (policy : Policy) (p : List ℕ) : Type 0 where
  pub long : 12 ≤ length p
  pub version : version_of p ≡ 2
  pub fits : (layout_of p).payload ≤ length p
  pub profile : (uses_cryptex policy && (layout_of p).x) ≡ true → ((layout_of p).tag ≡ 0xBEDE) ⊎ ((layout_of p).tag ≡ 0x1000)
  pub bytes : (i : ℕ) → get_or p i 0 < 256

-- the form on the wire: its layout is that of p but for the tag
pub record Tagged (policy : Policy) (p q : List ℕ) : Type 0 where
  pub size : length q ≡ length p
  pub fixed : (i : ℕ) → i < 12 → get_or q i 0 ≡ get_or p i 0
  pub payload : (layout_of q).payload ≡ (layout_of p).payload
  pub profile : (uses_cryptex policy && (layout_of q).x) ≡ true → is_cryptex_tag (layout_of q).tag ≡ true
  pub undone : untagged_of policy q ≡ p

tagged-to : (policy : Policy) (p : List ℕ) (v w : ℕ) → has_extension p ≡ true → past_contributors p + 4 ≤ length p → uses_cryptex policy ≡ true → is_cryptex_tag v ≡ true
    → plain_tag v ≡ w → field16 p (past_contributors p) ≡ w → ((i : ℕ) → get_or p i 0 < 256)
    → Tagged policy p (written16 p (past_contributors p) v)
tagged-to policy p v w x fits uses says plain e bytes =
    record {
      size = written-length p (past_contributors p) v;
      fixed = λ i h. written-other p (past_contributors p) v i (inl (omega arith));
      payload = rw (retagged-layout p v x fits, with-x p x);
      profile = λ u. rw (retagged-layout p v x fits) says;
      undone = back policy p v w x fits uses says plain e bytes;
    }

and_assoc : (a b c : Bool) → (a && (b && c)) ≡ ((a && b) && c)
and_assoc true b c = refl
and_assoc false b c = refl

tag-by : (policy : Policy) (p : List ℕ) → Ready policy p → (t : Bool) → (uses_cryptex policy && (layout_of p).x) ≡ t → Tagged policy p (tagged_of policy p)
unfolding tagged_of
tag-by policy p d true e =
    let x : has_extension p ≡ true = sym (layout-x p) ∙ and_right (uses_cryptex policy) (layout_of p).x e in
    let uses : uses_cryptex policy ≡ true = and_left (uses_cryptex policy) (layout_of p).x e in
    let g : layout_of p ≡ layout_by true p = with-x p x in
    let f : past_contributors p + 4 + 4 * field16 p (past_contributors p + 2) ≤ length p = rw g at d.fits in
    let c : (field16 p (past_contributors p) ≡ 0xBEDE) ⊎ (field16 p (past_contributors p) ≡ 0x1000) = rw g at (d.profile e) in
    rw (e, g)
    (⊎_elim (λ u. rw u (tagged-to policy p 0xC0DE 0xBEDE x (omega arith) uses refl refl u d.bytes))
    (λ u. rw u (tagged-to policy p 0xC2DE 0x1000 x (omega arith) uses refl refl u d.bytes)) c)
tag-by policy p d false e =
    rw e
    (record {
      size = refl;
      fixed = λ i h. refl;
      payload = refl;
      profile = λ u. let z : ◌≡◌ {A = Bool} true false = sym u ∙ e in apart cc;
      undone = unfold untagged_of in rw (and_assoc (uses_cryptex policy) (layout_of p).x (is_cryptex_tag (layout_of p).tag), e);
    })

pub tagged : (policy : Policy) (p : List ℕ) → Ready policy p → Tagged policy p (tagged_of policy p)
tagged policy p d = tag-by policy p d (uses_cryptex policy && (layout_of p).x) refl

-- ---- the added block

count-raised : (p q : List ℕ) → get_or q 0 0 ≡ get_or p 0 0 + 16 → count_of q ≡ count_of p
count-raised p q e = omega arith

field-from : (l : List ℕ) (i a b : ℕ) → get_or l i 0 ≡ a → get_or l (i + 1) 0 ≡ b → field16 l i ≡ from_bytes (a ∷ b ∷ [])
field-from l i a b e f = ap₂ (λ (u v : ℕ). from_bytes (u ∷ v ∷ [])) e f

module _ (p : List ℕ) (x : has_extension p ≡ false) (fits : past_contributors p ≤ length p) where
  raised : List ℕ
  raised = set p 0 (get_or p 0 0 + 16)

  front : List ℕ
  front = take (past_contributors p) raised

  front_length : length front ≡ past_contributors p
  unfolding front raised
  front_length = length-take-le (past_contributors p) raised (simp length-set fits)

  -- a place before the block, and one from the block on
  before : (i : ℕ) → i < past_contributors p → get_or (with_block p (past_contributors p)) i 0 ≡ get_or raised i 0
  unfolding front raised
  before i h =
      get_or-append front (0xBE ∷ 0xDE ∷ 0x00 ∷ 0x00 ∷ drop (past_contributors p) p) 0 i (omega (arith, front_length)) ∙ get_or-take (past_contributors p) raised i 0 h

  after : (i k : ℕ) → i ≡ past_contributors p + k → get_or (with_block p (past_contributors p)) i 0 ≡ get_or (0xBE ∷ 0xDE ∷ 0x00 ∷ 0x00 ∷ drop (past_contributors p) p) k 0
  unfolding front raised
  after i k e =
      let m : i ≡ length front + k = omega (arith, front_length) in
      rw m (get_or-append-add front (0xBE ∷ 0xDE ∷ 0x00 ∷ 0x00 ∷ drop (past_contributors p) p) k 0)

  pub added-length : length (with_block p (past_contributors p)) ≡ length p + 4
  unfolding front raised
  added-length =
      let d : length (drop (past_contributors p) p) ≡ length p - past_contributors p = length-drop (past_contributors p) p in
      let n : length (with_block p (past_contributors p)) ≡ length front + length (0xBE ∷ 0xDE ∷ 0x00 ∷ 0x00 ∷ drop (past_contributors p) p)
      = length-append front (0xBE ∷ 0xDE ∷ 0x00 ∷ 0x00 ∷ drop (past_contributors p) p) in
      omega (arith, front_length)

  added-first : get_or (with_block p (past_contributors p)) 0 0 ≡ get_or p 0 0 + 16
  unfolding raised
  added-first = before 0 (omega arith) ∙ get_or-set_same p 0 (get_or p 0 0 + 16) 0 (omega arith)

  added-fixed : (i : ℕ) → 0 < i → i < 12 → get_or (with_block p (past_contributors p)) i 0 ≡ get_or p i 0
  unfolding raised
  added-fixed i z h = before i (omega arith) ∙ get_or-set_other p 0 i (get_or p 0 0 + 16) 0 (λ e. omega arith)

  even : get_or p 0 0 / 16 % 2 ≡ 0
  even = let e : get_or p 0 0 / 16 % 2 ≡ 1 → ⊥ = eqb-false (get_or p 0 0 / 16 % 2) 1 x in omega arith

  added-x : has_extension (with_block p (past_contributors p)) ≡ true
  added-x = eq-eqb (get_or (with_block p (past_contributors p)) 0 0 / 16 % 2) 1 (omega (arith, added-first, even))

  pub added-layout : layout_of (with_block p (past_contributors p))
      ≡ record {
        cc = count_of p;
        x = true;
        tag = 0xBEDE;
        contributors = 12;
        extension = past_contributors p;
        block = past_contributors p + 4;
        payload = past_contributors p + 4 + 4 * 0;
      }
  added-layout =
      let q : List ℕ = with_block p (past_contributors p) in
      let c : count_of q ≡ count_of p = count-raised p q added-first in
      let a : field16 q (past_contributors p) ≡ 0xBEDE
      = field-from q (past_contributors p) 0xBE 0xDE (after (past_contributors p) 0 (omega arith)) (after (past_contributors p + 1) 1 (omega arith)) in
      let b : field16 q (past_contributors p + 2) ≡ 0
      = field-from q (past_contributors p + 2) 0 0 (after (past_contributors p + 2) 2 (omega arith)) (after (past_contributors p + 2 + 1) 3 (omega arith)) in
      with-x q added-x ∙ rw (c, a, b)

  module _ (version : version_of p ≡ 2) (bytes : (i : ℕ) → get_or p i 0 < 256) where
    raised_byte : (i : ℕ) → get_or raised i 0 < 256
    unfolding raised
    raised_byte zero = rw (get_or-set_same p 0 (get_or p 0 0 + 16) 0 (omega arith)) (omega (arith, even))
    raised_byte (suc i) = rw (get_or-set_other p 0 (suc i) (get_or p 0 0 + 16) 0 (λ e. omega arith)) (bytes (suc i))

    back-byte : (k : ℕ) → get_or (0xBE ∷ 0xDE ∷ 0x00 ∷ 0x00 ∷ drop (past_contributors p) p) k 0 < 256
    back-byte zero = omega arith
    back-byte (suc zero) = omega arith
    back-byte (suc (suc zero)) = omega arith
    back-byte (suc (suc (suc zero))) = omega arith
    back-byte (suc (suc (suc (suc k)))) = rw (get_or-drop (past_contributors p) p k 0) (bytes (past_contributors p + k))

    added-byte : (i : ℕ) → get_or (with_block p (past_contributors p)) i 0 < 256
    added-byte i =
        elim (dec_lt i (past_contributors p)) [
          | yes h ↦ rw (before i h) (raised_byte i)
          | no h ↦ rw (after i (i - past_contributors p) (omega arith)) (back-byte (i - past_contributors p))
        ]

pub record GivenBack (policy : Policy) (p q : List ℕ) : Type 0 where
  pub ready : Ready policy q
  -- under Cryptex contributors have an extension beside them
  pub covered : uses_cryptex policy ≡ true → (layout_of q).x ≡ false → (layout_of q).cc ≡ 0
  pub size : length q ≡ length p + pick (adds_block policy (layout_of p)) 4 0
  pub fixed : (i : ℕ) → 0 < i → i < 12 → get_or q i 0 ≡ get_or p i 0

given_by : (policy : Policy) (p : List ℕ) → Ready policy p → (t : Bool) → adds_block policy (layout_of p) ≡ t → GivenBack policy p (given_back_of policy p)
unfolding given_back_of
given_by policy p d true e =
    let n : (not (layout_of p).x && ltb 0 (layout_of p).cc) ≡ true = and_right (uses_cryptex policy) (not (layout_of p).x && ltb 0 (layout_of p).cc) e in
    let x : has_extension p ≡ false = sym (layout-x p) ∙ not-true (layout_of p).x (and_left (not (layout_of p).x) (ltb 0 (layout_of p).cc) n) in
    let f : past_contributors p ≤ length p = rw (without-x p x) at d.fits in
    let l = added-layout p x f in
    let m = added-length p x f in
    let v = added-first p x f in
    let u = even p x f in
    rw (e, layout-extension p)
    (record {
      ready =
          record {
            long = omega (arith, d.long);
            version = omega (arith, d.version, d.bytes 0);
            fits = rw l (omega arith);
            profile = λ w. rw l (inl refl);
            bytes = added-byte p x f d.version d.bytes;
          };
      covered = λ w z. let y : ◌≡◌ {A = Bool} true false = rw l at z in apart cc;
      size = rw e m;
      fixed = added-fixed p x f;
    })
given_by policy p d false e =
    rw e
    (record {
      ready = d;
      covered = λ w z. let n : ltb 0 (layout_of p).cc ≡ false = rw (w, z) at e in omega (arith, ltb-false 0 (layout_of p).cc n);
      size = rw e (omega arith);
      fixed = λ i z h. refl;
    })

pub given_back : (policy : Policy) (p : List ℕ) → Ready policy p → GivenBack policy p (given_back_of policy p)
given_back policy p d = given_by policy p d (adds_block policy (layout_of p)) refl
