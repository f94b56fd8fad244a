-- Document 01, "Numbers given back", 1 to 14, with document 02, CR 3: protect and unprotect in a buffer whose first n bytes are the packet.
use Rattle.rtp_header.specs.declared.header.Layout.{Layout}
use Rattle.std.specs.Prelude.{Bool, List, ◌++◌, ℕ, ◌+◌, ◌-◌, ltb, length, take, drop, Result, Ok, Err}
use Rattle.bits.specs.Pick.{pick}
use Rattle.bits.specs.Refusals.{number_of}
use Rattle.bits.specs.declared.refusal.Refusal.{Refusal}
use Rattle.bits.specs.declared.refusal.Refusal.TheVariants as refusal
use Rattle.rtp_header.specs.Header.{seq_of, ssrc_of, layout_of}
use Rattle.rtp_elements.specs.Mask.{listed_in}
use Rattle.replay.specs.State.{ReplayState}
use Rattle.replay.specs.Receive.{receive_of}
use Rattle.replay.specs.Send.{send_of}
use Rattle.replay.specs.Window.{blocks, width}
use Rattle.packet_cipher.specs.declared.keys.Keys.{Keys}
use Rattle.suites.specs.declared.suite.Suite.{Suite}
use Rattle.suites.specs.Suites.{tag_length_of}
use Rattle.policies.specs.declared.policy.Policy.{Policy}
use Rattle.policies.specs.declared.policy.Way.{Way}
use Rattle.policies.specs.declared.policy.Way.TheVariants.{Sending, Receiving}
use Rattle.policies.specs.Judging.{added_of, judged_of}
use Rattle.wire.specs.Wire.{wire_of, restore_of, tag_fits}
use Rattle.session.specs.Session.{Setup, Session}
use Rattle.session.specs.Records.{Found, none, some, record_for, store_for}

-- What a call does to its buffer and its stream's record: a refusal, or a length, and buffer and replay state afterwards.
pub data Effect : Type 0 where
  refuse : Refusal → Effect
  give : ℕ → List ℕ → ReplayState → Effect

-- whether an id is in the session's set
abbrev pub listed_by : Setup → ℕ → Bool
listed_by setup = listed_in setup.ids

-- the protected length
abbrev pub wire_length : Suite → Policy → List ℕ → ℕ → ℕ
wire_length suite policy buf n = n + added_of Sending policy (tag_length_of suite) (layout_of (take n buf))

module _ (suite : Suite) (keys : Keys) (policy : Policy) (listed : ℕ → Bool) (buf : List ℕ) (n : ℕ) where
  -- ---- protect

  -- ORDER and WORN; then the wire bytes, and what follows them in the buffer stays
  abbrev pub protect_at : Result ℕ Refusal → ReplayState → Effect
  protect_at (Err r) state = refuse r
  protect_at (Ok i) state =
      give (wire_length suite policy buf n)
      (wire_of suite keys policy listed (ssrc_of (take n buf)) i (take n buf) ++ drop (wire_length suite policy buf n) buf)
      state

  -- STREAM
  abbrev pub protect_in : Found → Effect
  protect_in none = refuse refusal.Stream
  protect_in (some r) =
      protect_at (send_of r.replay r.rollover (seq_of (take n buf))).judged (send_of r.replay r.rollover (seq_of (take n buf))).state

  -- SHORT to LARGE, then ROOM
  abbrev pub protect_read : Result Layout Refusal → Found → Effect
  protect_read (Err r) found = refuse r
  protect_read (Ok h) found = pick (ltb (length buf) (wire_length suite policy buf n)) (refuse refusal.Room) (protect_in found)

  -- LENGTH
  unfoldable pub protect_effect : Found → Effect
  protect_effect found =
      pick (ltb (length buf) n) (refuse refusal.Length)
      (protect_read (judged_of Sending policy (tag_length_of suite) (take n buf)) found)

  -- ---- unprotect

  -- WORN, OLD and REPEAT; then TAG; then the packet that is given back, and what follows it in the buffer, the tag too, stays
  abbrev pub unprotect_at : Result ℕ Refusal → ReplayState → Effect
  unprotect_at (Err r) state = refuse r
  unprotect_at (Ok i) state =
      pick (tag_fits suite keys policy (ssrc_of (take n buf)) i (take n buf))
      (give (n - tag_length_of suite)
      (restore_of suite keys policy listed (ssrc_of (take n buf)) i (take n buf) ++ drop (n - tag_length_of suite) buf)
      state)
      (refuse refusal.Tag)

  -- STREAM
  abbrev pub unprotect_in : Found → Effect
  unprotect_in none = refuse refusal.Stream
  unprotect_in (some r) =
      unprotect_at (receive_of blocks width r.replay r.rollover (seq_of (take n buf))).judged
      (receive_of blocks width r.replay r.rollover (seq_of (take n buf))).state

  -- SHORT to LARGE
  abbrev pub unprotect_read : Result Layout Refusal → Found → Effect
  unprotect_read (Err r) found = refuse r
  unprotect_read (Ok h) found = unprotect_in found

  -- LENGTH
  unfoldable pub unprotect_effect : Found → Effect
  unprotect_effect found =
      pick (ltb (length buf) n) (refuse refusal.Length)
      (unprotect_read (judged_of Receiving policy (tag_length_of suite) (take n buf)) found)

-- ---- the calls

-- what a call gives back, and what the buffer holds afterwards
pub record Answer : Type 0 where
  pub number : ℕ
  pub length : ℕ
  pub buffer : List ℕ

pub record Outcome : Type 0 where
  pub answer : Answer
  pub session : Session

-- "A refusal returns its number and length 0; buffer and session are unchanged." Otherwise one record changes.
abbrev pub settled : Session → List ℕ → ℕ → Way → Effect → Outcome
settled s buf ssrc way (refuse r) = record { answer = record { number = number_of r; length = 0; buffer = buf }; session = s }
settled s buf ssrc way (give m after state) =
    record {
      answer = record { number = 0; length = m; buffer = after };
      session = record { setup = s.setup; records = store_for s.records ssrc way state };
    }

unfoldable pub protect_of : Session → List ℕ → ℕ → Outcome
protect_of s buf n =
    settled s buf (ssrc_of (take n buf)) Sending
    (protect_effect s.setup.suite s.setup.keys s.setup.policy (listed_by s.setup) buf n (record_for s.records (ssrc_of (take n buf)) Sending))

unfoldable pub unprotect_of : Session → List ℕ → ℕ → Outcome
unprotect_of s buf n =
    settled s buf (ssrc_of (take n buf)) Receiving
    (unprotect_effect s.setup.suite s.setup.keys s.setup.policy (listed_by s.setup) buf n (record_for s.records (ssrc_of (take n buf)) Receiving))
