-- A packet call for both ways at once: protect where the way is sending, unprotect where it is receiving.
use Rattle.rtp_header.specs.declared.header.Layout.{Layout}
use Rattle.std.specs.Prelude.{Result, Ok, Err}
use mathlib.Core.Path.{◌≡◌, refl}
use mathlib.Core.Bool.{Bool, true, false}
use mathlib.Core.List.{List}
use Prim.Native.Nat.{ℕ}
use lib.Dec.{eqb, ltb}
use lib.ListN.{length, take}
use Rattle.bits.specs.Pick.{pick}
use Rattle.bits.specs.Refusals.{wrong_memory}
use Rattle.bits.specs.declared.refusal.Refusal.{Refusal}
use Rattle.bits.specs.declared.refusal.Refusal.TheVariants as refusal
use Rattle.rtp_header.specs.Header.{seq_of, ssrc_of}
use Rattle.replay.specs.Receive.{receive_of}
use Rattle.replay.specs.Send.{send_of}
use Rattle.replay.specs.State.{ReplayState}
use Rattle.replay.specs.Window.{blocks, width}
use Rattle.policies.specs.declared.policy.Way.{Way}
use Rattle.policies.specs.declared.policy.Way.TheVariants.{Sending, Receiving}
use Rattle.policies.specs.Judging.{judged_of}
use Rattle.suites.specs.Suites.{tag_length_of}
use Rattle.wire.specs.Wire.{tag_fits}
use Rattle.session.specs.Session.{Record, Setup, Session}
use Rattle.session.specs.Records.{Found, none, some, record_for}
use Rattle.session.specs.Packets.{listed_by, Effect, refuse, give, wire_length, protect_at, protect_in, protect_read, protect_effect, unprotect_at, unprotect_in, unprotect_read, unprotect_effect, Outcome, settled, protect_of, unprotect_of}
use Rattle.session.specs.Calls.{Left, refused_with, settled_in, protect_call, unprotect_call}
use Rattle.session.specs.Memory.{size, decode}

-- the replay state of a record once its packet, with this sequence number, is taken
abbrev pub state_by : Way → Record → ℕ → ReplayState
state_by Sending r seq = (send_of r.replay r.rollover seq).state
state_by Receiving r seq = (receive_of blocks width r.replay r.rollover seq).state

module _ (setup : Setup) (buf : List ℕ) (n : ℕ) where
  -- STREAM and what comes after it; SHORT to ROOM; LENGTH
  abbrev pub in_by : Way → Found → Effect
  in_by Sending found = protect_in setup.suite setup.keys setup.policy (listed_by setup) buf n found
  in_by Receiving found = unprotect_in setup.suite setup.keys setup.policy (listed_by setup) buf n found

  abbrev pub read_by : Way → Result Layout Refusal → Found → Effect
  read_by Sending h found = protect_read setup.suite setup.keys setup.policy (listed_by setup) buf n h found
  read_by Receiving h found = unprotect_read setup.suite setup.keys setup.policy (listed_by setup) buf n h found

  abbrev pub effect_by : Way → Found → Effect
  effect_by Sending found = protect_effect setup.suite setup.keys setup.policy (listed_by setup) buf n found
  effect_by Receiving found = unprotect_effect setup.suite setup.keys setup.policy (listed_by setup) buf n found

  pub effect_is : (way : Way) (found : Found)
      → effect_by way found ≡ pick (ltb (length buf) n) (refuse refusal.Length) (read_by way (judged_of way setup.policy (tag_length_of setup.suite) (take n buf)) found)
  unfolding protect_effect unprotect_effect
  effect_is Sending found = refl
  effect_is Receiving found = refl

  -- P of an effect: of every refusal, and of what a record's packet gives
  module _ (P : Effect → Type 0) (refused : (r : Refusal) → P (refuse r)) where
    abbrev OfGiven : Way → Record → Type 0
    OfGiven way r = (m : ℕ) (b : List ℕ) → P (give m b (state_by way r (seq_of (take n buf))))

    picked : (b : Bool) (d e : Effect) → P d → P e → P (pick b d e)
    picked true d e p q = p
    picked false d e p q = q

    sent-cases : (r : Record) (j : Result ℕ Refusal) → OfGiven Sending r → P (protect_at setup.suite setup.keys setup.policy (listed_by setup) buf n j (state_by Sending r (seq_of (take n buf))))
    sent-cases r (Err q) p = refused q
    sent-cases r (Ok i) p = p _ _

    received-cases : (r : Record) (j : Result ℕ Refusal) → OfGiven Receiving r → P (unprotect_at setup.suite setup.keys setup.policy (listed_by setup) buf n j (state_by Receiving r (seq_of (take n buf))))
    received-cases r (Err q) p = refused q
    received-cases r (Ok i) p = picked (tag_fits setup.suite setup.keys setup.policy (ssrc_of (take n buf)) i (take n buf)) _ (refuse refusal.Tag) (p _ _) (refused refusal.Tag)

    in-cases : (way : Way) (found : Found) → ((r : Record) → found ≡ some r → OfGiven way r) → P (in_by way found)
    in-cases Sending none p = refused refusal.Stream
    in-cases Receiving none p = refused refusal.Stream
    in-cases Sending (some r) p = sent-cases r (send_of r.replay r.rollover (seq_of (take n buf))).judged (p r refl)
    in-cases Receiving (some r) p = received-cases r (receive_of blocks width r.replay r.rollover (seq_of (take n buf))).judged (p r refl)

    read-cases : (way : Way) (h : Result Layout Refusal) (found : Found) → P (in_by way found) → P (read_by way h found)
    read-cases Sending (Err r) found p = refused r
    read-cases Receiving (Err r) found p = refused r
    read-cases Sending (Ok l) found p = picked (ltb (length buf) (wire_length setup.suite setup.policy buf n)) (refuse refusal.Room) (in_by Sending found) (refused refusal.Room) p
    read-cases Receiving (Ok l) found p = p

    pub effect-cases : (way : Way) (found : Found) → ((r : Record) → found ≡ some r → OfGiven way r) → P (effect_by way found)
    effect-cases way found p =
        let j : Result Layout Refusal = judged_of way setup.policy (tag_length_of setup.suite) (take n buf) in
        rw (effect_is way found)
        (picked (ltb (length buf) n) (refuse refusal.Length) (read_by way j found) (refused refusal.Length) (read-cases way j found (in-cases way found p)))

-- ---- the calls

-- on a session, and on the memory that holds it
abbrev pub outcome_by : Way → Session → List ℕ → ℕ → Outcome
outcome_by Sending s buf n = protect_of s buf n
outcome_by Receiving s buf n = unprotect_of s buf n

abbrev pub call_by : Way → List ℕ → List ℕ → ℕ → Left
call_by Sending words buf n = protect_call words buf n
call_by Receiving words buf n = unprotect_call words buf n

-- what a packet call does, in its session
abbrev pub done_by : Way → Session → List ℕ → ℕ → Effect
done_by way s buf n = effect_by s.setup buf n way (record_for s.records (ssrc_of (take n buf)) way)

pub call-is : (way : Way) (words buf : List ℕ) (n : ℕ) → call_by way words buf n
    ≡ pick (eqb (length words) size) (settled_in words (ssrc_of (take n buf)) way (outcome_by way (decode words) buf n)) (refused_with wrong_memory words buf)
unfolding protect_call unprotect_call
call-is Sending words buf n = refl
call-is Receiving words buf n = refl

pub outcome-is : (way : Way) (s : Session) (buf : List ℕ) (n : ℕ) → outcome_by way s buf n ≡ settled s buf (ssrc_of (take n buf)) way (done_by way s buf n)
unfolding protect_of unprotect_of
outcome-is Sending s buf n = refl
outcome-is Receiving s buf n = refl
