-- Under policy 2 whatever is accepted came with contributors and extension encrypted, or had neither.
use Rattle.bits.specs.declared.refusal.Refusal.{Refusal}
use Rattle.std.specs.Prelude.{Result, Ok, Err}
use mathlib.Core.Path.{◌≡◌, refl, sym, ap, ◌∙◌}
use mathlib.Core.Bool.{Bool, true, false}
use mathlib.Core.Logic.{◌⊎◌, inl, inr}
use mathlib.Core.List.{List, ◌++◌}
use Prim.Native.Nat.{ℕ, ◌-◌, ◌<◌}
use native.Mathlib.Omega.{arith}
use borrow.Author.Tests.{le-ltb, eqb-true, ne_eqb}
use lib.Dec.{eqb, ltb}
use lib.ListN.{length, get_or, take, drop, get_or-append}
use Rattle.bits.specs.Pick.{pick}
use Rattle.bits.specs.declared.refusal.Refusal.TheVariants as refusal
use Rattle.bits.proofs.Refusals.{above_zero}
use Rattle.rtp_header.specs.declared.header.Layout.{Layout}
use Rattle.rtp_header.specs.Header.{has_extension, count_of, seq_of, ssrc_of, layout_of, header_number}
use Rattle.replay.specs.State.{ReplayState}
use Rattle.replay.specs.Receive.{receive_of}
use Rattle.replay.specs.Window.{blocks, width}
use Rattle.policies.specs.declared.policy.Policy.{Policy}
use Rattle.policies.specs.declared.policy.Policy.TheVariants.{Plain, Cryptex, CryptexRequired, Mask}
use Rattle.policies.specs.declared.policy.Way.TheVariants.{Receiving}
use Rattle.policies.specs.Policies.{policy_number, uses_cryptex}
use Rattle.policies.specs.Cryptex.{is_cryptex_tag, is_cryptex}
use Rattle.policies.specs.Judging.{profile_fits, judged_of}
use Rattle.policies.proofs.Layouts.{apart, layout-x, layout-count, sound}
use Rattle.policies.proofs.Verdicts.{profile-refused, judged-plain}
use Rattle.suites.specs.Suites.{tag_length_of}
use Rattle.wire.specs.Wire.{restore_of, tag_fits}
use Rattle.wire.proofs.RoundTrips.{Passed, passed, not-both, or-equal}
use Rattle.wire.proofs.Restoring.{restored-plain, tagged-plain, restored-length, contributors-came, block-came}
use Rattle.session.specs.Session.{Record, Setup, Session}
use Rattle.session.specs.Records.{Found, none, some, record_for}
use Rattle.session.specs.Packets.{listed_by, Effect, refuse, give, unprotect_at, unprotect_in, unprotect_read, settled, unprotect_of}
use Rattle.session.proofs.Ways.{effect_is, done_by, outcome-is}
use Rattle.theorems.proofs.Settling.{answer-settled}
use Rattle.theorems.specs.Required.{CameEncrypted, HadNeither, plain_of, Alike, RequiredMeansRequired}

is-required : (policy : Policy) → policy_number policy ≡ 2 → policy ≡ CryptexRequired
is-required Plain e = absurd (omega arith)
is-required Cryptex e = absurd (omega arith)
is-required CryptexRequired e = refl
is-required Mask e = absurd (omega arith)

-- ---- what is accepted

module _ (s : Session) (buf : List ℕ) (n : ℕ) (required : s.setup.policy ≡ CryptexRequired) where
  abbrev setup : Setup
  setup = s.setup

  abbrev w : List ℕ
  w = take n buf

  abbrev Allowed : List ℕ → Type 0
  Allowed after = CameEncrypted s w after ⊎ HadNeither w

  abbrev AllowedBy : Effect → Type 0
  AllowedBy (refuse r) = Unit {0}
  AllowedBy (give m b t) = Allowed b

  module _ (d : Passed Receiving setup.policy (tag_length_of setup.suite) w) (r : Record) (found : record_for s.records (ssrc_of w) Receiving ≡ some r) where
    -- the packet as it is given back under an index, and what follows it in the buffer
    abbrev given : ℕ → List ℕ
    given i = restore_of setup.suite setup.keys setup.policy (listed_by setup) (ssrc_of w) i w

    abbrev after : ℕ → List ℕ
    after i = given i ++ drop (n - tag_length_of setup.suite) buf

    by-x : (i : ℕ) → (receive_of blocks width r.replay r.rollover (seq_of w)).judged ≡ Ok i → (x : Bool) → (layout_of w).x ≡ x
        → pick x (is_cryptex_tag (layout_of w).tag) (eqb (layout_of w).cc 0) ≡ true
        → Allowed (after i)
    by-x i j true x says =
        let c : is_cryptex setup.policy (layout_of w) ≡ true = rw (required, x) says in
        let o = sound w in
        let long : length (given i) ≡ length w - tag_length_of setup.suite = restored-length setup.suite setup.keys setup.policy (listed_by setup) (ssrc_of w) i w d c in
        let front : (k : ℕ) → k < (layout_of w).payload → get_or (after i) k 0 ≡ get_or (given i) k 0
        = λ k b. get_or-append (given i) (drop (n - tag_length_of setup.suite) buf) 0 k (omega (arith, d.fits)) in
        inl
        (record {
          extension = sym (layout-x w) ∙ x;
          tag = or-equal (layout_of w).tag 0xC0DE 0xC2DE says;
          stream = r;
          found = found;
          index = i;
          judged = j;
          contributors =
              λ k a b. rw (front k (omega (arith, o.block, o.payload)))
              (contributors-came setup.suite setup.keys setup.policy (listed_by setup) (ssrc_of w) i w d c k a b);
          block = λ k a b. rw (front k b) (block-came setup.suite setup.keys setup.policy (listed_by setup) (ssrc_of w) i w d c k a b);
        })
    by-x i j false x says = inr (record { extension = sym (layout-x w) ∙ x; contributors = sym (layout-count w) ∙ eqb-true (layout_of w).cc 0 says })

    by-tag : (i : ℕ) → (receive_of blocks width r.replay r.rollover (seq_of w)).judged ≡ Ok i → (t : ReplayState) (fits : Bool)
        → AllowedBy (pick fits (give (n - tag_length_of setup.suite) (after i) t) (refuse refusal.Tag))
    by-tag i j t true = by-x i j (layout_of w).x refl (rw required at d.profile)
    by-tag i j t false = tt

    by_index : (j : Result ℕ Refusal) → (receive_of blocks width r.replay r.rollover (seq_of w)).judged ≡ j → (t : ReplayState)
        → AllowedBy (unprotect_at setup.suite setup.keys setup.policy (listed_by setup) buf n j t)
    by_index (Err q) e t = tt
    by_index (Ok i) e t = by-tag i e t (tag_fits setup.suite setup.keys setup.policy (ssrc_of w) i w)

  by-record : Passed Receiving setup.policy (tag_length_of setup.suite) w → (found : Found) → record_for s.records (ssrc_of w) Receiving ≡ found
      → AllowedBy (unprotect_in setup.suite setup.keys setup.policy (listed_by setup) buf n found)
  by-record d none e = tt
  by-record d (some r) e = by_index d r e _ refl _

  abbrev there : Found
  there = record_for s.records (ssrc_of w) Receiving

  by-header : (h : Result Layout Refusal) → judged_of Receiving setup.policy (tag_length_of setup.suite) w ≡ h
      → AllowedBy (unprotect_read setup.suite setup.keys setup.policy (listed_by setup) buf n h there)
  by-header (Err r) e = tt
  by-header (Ok h) e = by-record (passed Receiving setup.policy (tag_length_of setup.suite) w (ap header_number e)) there refl

  by_length : (longer : Bool)
      → AllowedBy (pick longer (refuse refusal.Length) (unprotect_read setup.suite setup.keys setup.policy (listed_by setup) buf n (judged_of Receiving setup.policy (tag_length_of setup.suite) w) there))
  by_length true = tt
  by_length false = by-header _ refl

  allowed : AllowedBy (done_by Receiving s buf n)
  allowed = rw (effect_is setup buf n Receiving there) (by_length (ltb (length buf) n))

  answered : (d : Effect) → AllowedBy d → (settled s buf (ssrc_of w) Receiving d).answer.number ≡ 0
      → Allowed (settled s buf (ssrc_of w) Receiving d).answer.buffer
  answered (refuse r) a z = absurd (omega (arith, above_zero r))
  answered (give m b t) a z = a

-- ---- what is handled as under policy 0

fits-without : (policy : Policy) (h : Layout) → uses_cryptex policy ≡ true → h.x ≡ false → (policy_number policy ≡ 2 → h.cc ≡ 0) → profile_fits Receiving policy h ≡ true
fits-without Plain h u x c = apart cc
fits-without Cryptex h u x c = refl
fits-without CryptexRequired h u x c = rw (x, c refl)
fits-without Mask h u x c = apart cc

module _ (s : Session) (buf : List ℕ) (n : ℕ) (uses : uses_cryptex s.setup.policy ≡ true) (x : has_extension (take n buf) ≡ false)
    (bare : policy_number s.setup.policy ≡ 2 → count_of (take n buf) ≡ 0) where
  none-there : (layout_of (take n buf)).x ≡ false
  none-there = layout-x (take n buf) ∙ x

  no-cryptex : is_cryptex s.setup.policy (layout_of (take n buf)) ≡ false
  no-cryptex = rw (uses, none-there)

  same-judged : judged_of Receiving s.setup.policy (tag_length_of s.setup.suite) (take n buf) ≡ judged_of Receiving Plain (tag_length_of s.setup.suite) (take n buf)
  same-judged =
      judged-plain s.setup.policy (tag_length_of s.setup.suite) (take n buf) (not-both s.setup.policy uses)
      (fits-without s.setup.policy (layout_of (take n buf)) uses none-there (λ two. layout-count (take n buf) ∙ bare two))

  same_at : Passed Receiving s.setup.policy (tag_length_of s.setup.suite) (take n buf) → (j : Result ℕ Refusal) (t : ReplayState)
      → unprotect_at s.setup.suite s.setup.keys s.setup.policy (listed_by s.setup) buf n j t ≡ unprotect_at s.setup.suite s.setup.keys Plain (listed_by s.setup) buf n j t
  same_at d (Err r) t = refl
  same_at d (Ok i) t =
      rw (
        restored-plain s.setup.suite s.setup.keys s.setup.policy (listed_by s.setup) (ssrc_of (take n buf)) i (take n buf) d (not-both s.setup.policy uses) no-cryptex,
        tagged-plain s.setup.suite s.setup.keys s.setup.policy (listed_by s.setup) (ssrc_of (take n buf)) i (take n buf) d no-cryptex,
      )

  same_in : Passed Receiving s.setup.policy (tag_length_of s.setup.suite) (take n buf) → (found : Found)
      → unprotect_in s.setup.suite s.setup.keys s.setup.policy (listed_by s.setup) buf n found ≡ unprotect_in s.setup.suite s.setup.keys Plain (listed_by s.setup) buf n found
  same_in d none = refl
  same_in d (some r) = same_at d (receive_of blocks width r.replay r.rollover (seq_of (take n buf))).judged _

  same_read : (found : Found) (h : Result Layout Refusal) → judged_of Receiving s.setup.policy (tag_length_of s.setup.suite) (take n buf) ≡ h
      → unprotect_read s.setup.suite s.setup.keys s.setup.policy (listed_by s.setup) buf n h found ≡ unprotect_read s.setup.suite s.setup.keys Plain (listed_by s.setup) buf n h found
  same_read found (Err r) e = refl
  same_read found (Ok h) e = same_in (passed Receiving s.setup.policy (tag_length_of s.setup.suite) (take n buf) (ap header_number e)) found

  same-done : done_by Receiving s buf n ≡ done_by Receiving (plain_of s) buf n
  same-done =
      let found = record_for s.records (ssrc_of (take n buf)) Receiving in
      effect_is s.setup buf n Receiving found
      ∙ ap (λ (d : Effect). pick (ltb (length buf) n) (refuse refusal.Length) d)
      (same_read found _ refl
      ∙ ap (λ (h : Result Layout Refusal). unprotect_read s.setup.suite s.setup.keys Plain (listed_by s.setup) buf n h found) same-judged)
      ∙ sym (effect_is (plain_of s).setup buf n Receiving found)

  same-records : (d : Effect) → (settled s buf (ssrc_of (take n buf)) Receiving d).session.records ≡ (settled (plain_of s) buf (ssrc_of (take n buf)) Receiving d).session.records
  same-records (refuse r) = refl
  same-records (give m b t) = refl

  as_plain : Alike (unprotect_of s buf n) (unprotect_of (plain_of s) buf n)
  as_plain =
      rw (outcome-is Receiving s buf n, outcome-is Receiving (plain_of s) buf n, same-done)
      (answer-settled s (plain_of s) buf (ssrc_of (take n buf)) Receiving (done_by Receiving (plain_of s) buf n), same-records (done_by Receiving (plain_of s) buf n))

-- ---- all three

pub required-means-required : RequiredMeansRequired
required-means-required =
    record {
      accepted =
          λ s buf n two z.
          let required = is-required s.setup.policy two in
          rw (outcome-is Receiving s buf n)
          (answered s buf n required (done_by Receiving s buf n) (allowed s buf n required) (rw (outcome-is Receiving s buf n) at z));
      refused =
          λ s buf n two inside read x more.
          let w = take n buf in
          let none : (layout_of w).x ≡ false = layout-x w ∙ x in
          let some : eqb (layout_of w).cc 0 ≡ false = ne_eqb (layout_of w).cc 0 (λ z. omega (arith, layout-count w)) in
          let wrong : profile_fits Receiving s.setup.policy (layout_of w) ≡ false = rw (is-required s.setup.policy two, none) some in
          rw (outcome-is Receiving s buf n, effect_is s.setup buf n Receiving (record_for s.records (ssrc_of w) Receiving), le-ltb (length buf) n inside, profile-refused Receiving s.setup.policy (tag_length_of s.setup.suite) w read wrong);
      as_plain = λ s buf n uses x bare. as_plain s buf n uses x bare;
    }
