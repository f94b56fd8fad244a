-- One law for each way that add ends, and one over all of them.
use mathlib.Core.Path.{◌≡◌, refl}
use mathlib.Core.Bool.{Bool, true, false, not}
use mathlib.Core.List.{[], ◌∷◌}
use Prim.Native.Nat.{ℕ}
use lib.ListN.{set}
use Rattle.bits.specs.Pick.{pick}
use Rattle.bits.specs.Refusals.{number_of}
use Rattle.bits.specs.declared.refusal.Refusal.{Refusal}
use Rattle.bits.specs.declared.refusal.Refusal.TheVariants as refusal
use Rattle.rtp_elements.specs.Mask.{among}
use Rattle.policies.specs.declared.policy.Way.{Way}
use Rattle.session.specs.Session.{Session, Made}
use Rattle.session.specs.Adding.{not_added, add_of}
use Rattle.session.specs.Records.{fresh_record, has_ssrc, is_full, placed}
use Rattle.session.proofs.Places.{First, free, not_full}

module _ (s : Session) (ssrc : ℕ) (way : Way) (rollover : ℕ) where
  pub add-unmade : s.setup.made ≡ false → add_of s ssrc way rollover ≡ not_added s refusal.Keys
  unfolding add_of
  add-unmade m = rw m

  pub add_twice : s.setup.made ≡ true → has_ssrc s.records ssrc ≡ true → add_of s ssrc way rollover ≡ not_added s refusal.Twice
  unfolding add_of
  add_twice m h = rw (m, h)

  pub add-full : s.setup.made ≡ true → has_ssrc s.records ssrc ≡ false → is_full s.records ≡ true → add_of s ssrc way rollover ≡ not_added s refusal.Full
  unfolding add_of
  add-full m h f = rw (m, h, f)

  pub add-placed : s.setup.made ≡ true → has_ssrc s.records ssrc ≡ false → (i : ℕ) → First free s.records i
      → add_of s ssrc way rollover ≡ record { number = 0; session = record { setup = s.setup; records = set s.records i (fresh_record ssrc way rollover) } }
  unfolding add_of
  add-placed m h i p = rw (m, h, not_full s.records _ p.found, p.changed (λ r. fresh_record ssrc way rollover))

  -- P of what add gives: of a refusal, and of the session with the new record
  module _ (P : Made → Type 0) (refused : (r : Refusal) → among (15 ∷ 17 ∷ 18 ∷ []) (number_of r) ≡ true → P (not_added s r))
      (done : s.setup.made ≡ true → has_ssrc s.records ssrc ≡ false → is_full s.records ≡ false
      → P (record { number = 0; session = record { setup = s.setup; records = placed s.records (fresh_record ssrc way rollover) } })) where
    pub add-cases : P (add_of s ssrc way rollover)
    unfolding add_of
    add-cases = go s.setup.made (has_ssrc s.records ssrc) (is_full s.records) refl refl refl
      where
        go : (a b c : Bool) → s.setup.made ≡ a → has_ssrc s.records ssrc ≡ b → is_full s.records ≡ c
            → P (pick (not a) (not_added s refusal.Keys) (pick b (not_added s refusal.Twice) (pick c (not_added s refusal.Full)
            (record { number = 0; session = record { setup = s.setup; records = placed s.records (fresh_record ssrc way rollover) } }))))
        go false b c e f g = refused refusal.Keys refl
        go true true c e f g = refused refusal.Twice refl
        go true false true e f g = refused refusal.Full refl
        go true false false e f g = done e f g
