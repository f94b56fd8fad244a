-- What judging a packet answers at each of its ends: g is the header as it was read.
use Rattle.std.specs.Prelude.{Result, Ok, Err}
use mathlib.Core.Path.{◌≡◌, refl, sym, ap, ◌∙◌}
use mathlib.Core.Bool.{true, false}
use mathlib.Core.List.{List}
use Prim.Native.Nat.{ℕ, ◌+◌, ◌≤◌, ◌<◌}
use native.Mathlib.Omega.{arith}
use borrow.Author.Tests.{lt-ltb, le-ltb}
use lib.ListN.{length}
use Rattle.bits.specs.declared.refusal.Refusal.{Refusal}
use Rattle.bits.specs.declared.refusal.Refusal.TheVariants as refusal
use Rattle.bits.proofs.Refusals.{above_zero}
use Rattle.rtp_header.specs.declared.header.Layout.{Layout}
use Rattle.rtp_header.specs.Header.{layout_of, header_of, header_number}
use Rattle.rtp_header.proofs.Reading.{header-cases}
use Rattle.policies.specs.declared.policy.Policy.{Policy}
use Rattle.policies.specs.declared.policy.Policy.TheVariants.{Plain}
use Rattle.policies.specs.declared.policy.Way.{Way}
use Rattle.policies.specs.declared.policy.Way.TheVariants.{Receiving}
use Rattle.policies.specs.Policies.{uses_mask}
use Rattle.policies.specs.Judging.{tail_of, profile_fits, elements_fit, added_of, judged_after, judged_of}

module _ (way : Way) (policy : Policy) (t : ℕ) (p : List ℕ) (g : Result Layout Refusal) (k : ℕ) (tail : k ≡ tail_of way t) (read : g ≡ header_of p k) where
  by-tail : header_of p (tail_of way t) ≡ g
  by-tail = ap (header_of p) (sym tail) ∙ sym read

  pub is-refused : (r : Refusal) → g ≡ Err r → g ≡ judged_of way policy t p
  unfolding judged_of
  is-refused r e = rw (by-tail, e)

  module _ (h : Layout) (found : g ≡ Ok h) where
    pub no-profile : profile_fits way policy h ≡ false → Err refusal.Profile ≡ judged_of way policy t p
    unfolding judged_of
    no-profile a = rw (by-tail, found, a)

    module _ (a : profile_fits way policy h ≡ true) where
      pub no-elements : elements_fit policy h p ≡ false → Err refusal.Element ≡ judged_of way policy t p
      unfolding judged_of
      no-elements b = rw (by-tail, found, a, b)

      module _ (b : elements_fit policy h p ≡ true) where
        pub too_large : 2048 < length p + added_of way policy t h → Err refusal.Large ≡ judged_of way policy t p
        unfolding judged_of
        too_large c = rw (by-tail, found, a, b, lt-ltb 2048 (length p + added_of way policy t h) c)

        pub all-fits : length p + added_of way policy t h ≤ 2048 → Ok h ≡ judged_of way policy t p
        unfolding judged_of
        all-fits c = rw (by-tail, found, a, b, le-ltb 2048 (length p + added_of way policy t h) c)

-- ---- PROFILE

-- a header that can be read, of a packet that PROFILE refuses
pub profile-refused : (way : Way) (policy : Policy) (t : ℕ) (p : List ℕ) → header_number (header_of p (tail_of way t)) ≡ 0
    → profile_fits way policy (layout_of p) ≡ false → judged_of way policy t p ≡ Err refusal.Profile
unfolding judged_of
profile-refused way policy t p =
    header-cases (λ h. header_number h ≡ 0 → profile_fits way policy (layout_of p) ≡ false → judged_after way policy t p h ≡ Err refusal.Profile)
    (λ r z. absurd (omega (arith, above_zero r))) p (tail_of way t) (λ z e. rw e)

-- a received packet that PROFILE does not refuse, without a mask: judged as under policy 0
pub judged-plain : (policy : Policy) (t : ℕ) (p : List ℕ) → uses_mask policy ≡ false → profile_fits Receiving policy (layout_of p) ≡ true
    → judged_of Receiving policy t p ≡ judged_of Receiving Plain t p
unfolding judged_of
judged-plain policy t p m e =
    header-cases (λ h. judged_after Receiving policy t p h ≡ judged_after Receiving Plain t p h) (λ r. refl) p t (rw (e, m))
