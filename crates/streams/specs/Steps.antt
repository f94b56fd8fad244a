-- What a packet call does behind its front.
use Rattle.std.specs.Prelude.{List, ◌++◌, ℕ, ◌-◌, take, drop}
use Rattle.bits.specs.Refusals.{number_of}
use Rattle.memory.specs.Words.{word}
use Rattle.rtp_header.specs.Header.{ssrc_of}
use Rattle.rtp_elements.specs.Mask.{listed_in}
use Rattle.policies.specs.declared.policy.Way.{Way}
use Rattle.policies.specs.declared.policy.Way.TheVariants.{Sending, Receiving}
use Rattle.wire.specs.Wire.{wire_of, restore_of}
use Rattle.session.specs.Calls.{Left, refused_with, with_replay_at}
use Rattle.suites.specs.Suites.{tag_length_of}
use Rattle.session.specs.Memory.{suite_at, policy_at, setup_at}
use Rattle.session.specs.Packets.{wire_length, Effect, refuse, give, protect_in, unprotect_in}
use Rattle.session.specs.Records.{some}
use Rattle.records.specs.Tracks.{record_in}

-- what the packet does to its buffer and to record i, once its header was read and its record found
abbrev pub effect_at : Way → List ℕ → ℕ → List ℕ → ℕ → Effect
effect_at Sending words i buf n =
    protect_in (suite_at (word words 0)) (setup_at words).keys (policy_at (word words 0)) (listed_in (setup_at words).ids) buf n (some (record_in words i))
effect_at Receiving words i buf n =
    unprotect_in (suite_at (word words 0)) (setup_at words).keys (policy_at (word words 0)) (listed_in (setup_at words).ids) buf n (some (record_in words i))

-- the buffer with the packet under an index: as it is sent, and as it is given back; what follows it stays
abbrev pub sent_as : List ℕ → ℕ → List ℕ → ℕ → List ℕ
sent_as words index buf n =
    wire_of (suite_at (word words 0)) (setup_at words).keys (policy_at (word words 0)) (listed_in (setup_at words).ids) (ssrc_of (take n buf)) index (take n buf)
    ++ drop (wire_length (suite_at (word words 0)) (policy_at (word words 0)) buf n) buf

abbrev pub received_as : List ℕ → ℕ → List ℕ → ℕ → List ℕ
received_as words index buf n =
    restore_of (suite_at (word words 0)) (setup_at words).keys (policy_at (word words 0)) (listed_in (setup_at words).ids) (ssrc_of (take n buf)) index (take n buf)
    ++ drop (n - tag_length_of (suite_at (word words 0))) buf

-- what that gives back and leaves: a refusal nothing, a result record i with its new replay state
abbrev pub left_by : List ℕ → ℕ → List ℕ → Effect → Left
left_by words i buf (refuse r) = refused_with (number_of r) words buf
left_by words i buf (give m after state) =
    record { answer = record { number = 0; length = m; buffer = after }; words = with_replay_at words i state }
