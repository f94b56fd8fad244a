-- A packet of a stream whose record is known: its effect, by what was judged of it, and one law for each way that a core ends.
use Rattle.std.specs.Prelude.{Ok, Err}
use mathlib.Core.Path.{◌≡◌, refl, sym, ap, ◌∙◌}
use mathlib.Core.Bool.{Bool, true, false}
use mathlib.Core.List.{List}
use Prim.Native.Nat.{ℕ, ◌+◌, ◌-◌}
use lib.ListN.{take}
use Rattle.bits.specs.Pick.{pick}
use Rattle.bits.specs.Refusals.{number_of}
use Rattle.bits.specs.declared.refusal.Refusal.{Refusal}
use Rattle.bits.specs.declared.refusal.Refusal.TheVariants as refusal
use Rattle.memory.specs.Words.{word}
use Rattle.rtp_header.specs.declared.header.Layout.{Layout}
use Rattle.rtp_header.specs.Header.{seq_of, ssrc_of}
use Rattle.rtp_elements.specs.Mask.{listed_in}
use Rattle.replay.specs.Window.{blocks, width}
use Rattle.replay.proofs.Tracks.{received-state, sent-state}
use Rattle.policies.specs.declared.policy.Policy.{Policy}
use Rattle.policies.specs.declared.policy.Way.{Way}
use Rattle.policies.specs.declared.policy.Way.TheVariants.{Sending, Receiving}
use Rattle.policies.specs.Judging.{added_of, judged_of}
use Rattle.wire.specs.Wire.{tag_fits}
use Rattle.wire.proofs.Tagging.{judged-layout}
use Rattle.session.specs.Calls.{Gives}
use Rattle.suites.specs.declared.suite.Suite.{Suite}
use Rattle.suites.specs.Suites.{tag_length_of}
use Rattle.session.specs.Memory.{suite_at, policy_at, setup_at}
use Rattle.session.specs.Packets.{wire_length, refuse, give}
use Rattle.records.specs.Tracks.{record_in, judged_by, committed_by}
use Rattle.session.specs.Calls.{with_replay_at}
use Rattle.streams.specs.Steps.{effect_at, left_by, sent_as, received_as}

-- ---- the effect

-- the protected length, in the layout that was read
pub wire-length : (suite : Suite) (policy : Policy) (buf : List ℕ) (n : ℕ) (h : Layout) → judged_of Sending policy (tag_length_of suite) (take n buf) ≡ Ok h
    → wire_length suite policy buf n ≡ n + added_of Sending policy (tag_length_of suite) h
wire-length suite policy buf n h read =
    ap (λ (l : Layout). n + added_of Sending policy (tag_length_of suite) l) (sym (judged-layout Sending policy (tag_length_of suite) (take n buf) h read))

module _ (words : List ℕ) (i : ℕ) (buf : List ℕ) (n : ℕ) where
  abbrev suite : Suite
  suite = suite_at (word words 0)

  abbrev policy : Policy
  policy = policy_at (word words 0)

  abbrev listed : ℕ → Bool
  listed = listed_in (setup_at words).ids

  abbrev seq : ℕ
  seq = seq_of (take n buf)

  -- no index
  pub not_taken : (way : Way) (q : Refusal) → judged_by way (record_in words i) seq ≡ Err q → effect_at way words i buf n ≡ refuse q
  not_taken Sending q e = rw e
  not_taken Receiving q e = rw e

  module _ (k : ℕ) where
    sent-effect : judged_by Sending (record_in words i) seq ≡ Ok k
        → effect_at Sending words i buf n ≡ give (wire_length suite policy buf n) (sent_as words k buf n) (committed_by Sending (record_in words i) k)
    sent-effect e = rw (e, sent-state (record_in words i).replay (record_in words i).rollover seq k e)

    received-effect : judged_by Receiving (record_in words i) seq ≡ Ok k
        → effect_at Receiving words i buf n
        ≡ pick (tag_fits suite (setup_at words).keys policy (ssrc_of (take n buf)) k (take n buf)) (give (n - tag_length_of suite) (received_as words k buf n) (committed_by Receiving (record_in words i) k)) (refuse refusal.Tag)
    received-effect e = rw (e, received-state blocks width (record_in words i).replay (record_in words i).rollover seq k e)

  -- ---- how a core ends

  module _ (k : ℕ) (after : List ℕ) where
    pub is-sent : judged_by Sending (record_in words i) seq ≡ Ok k → (m : ℕ) → m ≡ wire_length suite policy buf n → after ≡ sent_as words k buf n
        → (memory : List ℕ) → memory ≡ with_replay_at words i (committed_by Sending (record_in words i) k)
        → Gives (left_by words i buf (effect_at Sending words i buf n)) (record { number = 0; length = m }) after memory
    is-sent index m long written memory stored = rw (sent-effect k index, stored, written, long) (record { answer = refl; buffer = refl; words = refl })

    module _ (index : judged_by Receiving (record_in words i) seq ≡ Ok k) (fits : Bool) (is_fits : fits ≡ tag_fits suite (setup_at words).keys policy (ssrc_of (take n buf)) k (take n buf))
        (written : after ≡ pick fits (received_as words k buf n) buf) where
      pub wrong-tag : fits ≡ false → Gives (left_by words i buf (effect_at Receiving words i buf n)) (record { number = number_of refusal.Tag; length = 0 }) after words
      wrong-tag f =
          let t : tag_fits suite (setup_at words).keys policy (ssrc_of (take n buf)) k (take n buf) ≡ false = sym is_fits ∙ f in
          let a : after ≡ buf = rw f at written in
          rw (received-effect k index, t, a) (record { answer = refl; buffer = refl; words = refl })

      pub is-received : fits ≡ true → (t : ℕ) → t ≡ tag_length_of suite → (memory : List ℕ) → memory ≡ with_replay_at words i (committed_by Receiving (record_in words i) k)
          → Gives (left_by words i buf (effect_at Receiving words i buf n)) (record { number = 0; length = n - t }) after memory
      is-received f t is_t memory stored =
          let p : tag_fits suite (setup_at words).keys policy (ssrc_of (take n buf)) k (take n buf) ≡ true = sym is_fits ∙ f in
          let a : after ≡ received_as words k buf n = rw f at written in
          rw (received-effect k index, p, a, stored, is_t) (record { answer = refl; buffer = refl; words = refl })
