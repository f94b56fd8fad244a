-- Document 02, CR 2, "Required has to mean required": what unprotect accepts under policy 2, and what becomes of packets with X = 0, in any session and with
-- anything in the buffer. That a packet which an honest sender protected is accepted, is `DemandThree`.
use Rattle.std.specs.Prelude.{◌≡◌, true, false, ◌⊎◌, List, ℕ, ◌-◌, ◌≤◌, ◌<◌, length, get_or, take, Ok}
use Rattle.bits.specs.Xor.{◌⊕◌}
use Rattle.rtp_header.specs.Header.{has_extension, count_of, seq_of, ssrc_of, layout_of, header_of, header_number}
use Rattle.replay.specs.Receive.{receive_of}
use Rattle.replay.specs.Window.{blocks, width}
use Rattle.policies.specs.declared.policy.Policy.TheVariants.{Plain}
use Rattle.policies.specs.declared.policy.Way.TheVariants.{Receiving}
use Rattle.policies.specs.Policies.{policy_number, uses_cryptex}
use Rattle.suites.specs.Suites.{tag_length_of}
use Rattle.packet_cipher.specs.Cipher.{stream_of}
use Rattle.session.specs.Session.{Record, Session}
use Rattle.session.specs.Records.{some, record_for}
use Rattle.session.specs.Packets.{Outcome, unprotect_of}

-- The packet w came with contributors and extension encrypted: X = 1, the tag says so (RFC 9335, 5.1), and each byte of its contributors and of its
-- extension's block is the byte given back under the keystream of its SSRC and of the index that its stream's record gives it. That is one keystream (6.2),
-- which starts at byte 12 and passes over the four bytes between the two. `after` is the buffer afterwards, where the packet given back stands first.
pub record CameEncrypted (s : Session) (w after : List ℕ) : Type 0 where
  pub extension : has_extension w ≡ true
  pub tag : ((layout_of w).tag ≡ 0xC0DE) ⊎ ((layout_of w).tag ≡ 0xC2DE)
  pub stream : Record
  pub found : record_for s.records (ssrc_of w) Receiving ≡ some stream
  pub index : ℕ
  pub judged : (receive_of blocks width stream.replay stream.rollover (seq_of w)).judged ≡ Ok index
  pub contributors : (i : ℕ) → 12 ≤ i → i < (layout_of w).extension → get_or w i 0 ≡ get_or after i 0 ⊕ stream_of s.setup.suite s.setup.keys (ssrc_of w) index (i - 12)
  pub block : (i : ℕ) → (layout_of w).block ≤ i → i < (layout_of w).payload → get_or w i 0 ≡ get_or after i 0 ⊕ stream_of s.setup.suite s.setup.keys (ssrc_of w) index (i - 16)

-- or it had neither: X = 0 and CC = 0
pub record HadNeither (w : List ℕ) : Type 0 where
  pub extension : has_extension w ≡ false
  pub contributors : count_of w ≡ 0

-- the session with policy 0
abbrev pub plain_of : Session → Session
plain_of s =
    record {
      setup =
          record { made = s.setup.made; suite = s.setup.suite; policy = Plain; key = s.setup.key; salt = s.setup.salt; ids = s.setup.ids; keys = s.setup.keys };
      records = s.records;
    }

-- one number, length and buffer, and the same records afterwards
abbrev pub Alike : Outcome → Outcome → Type 0
Alike o q = (o.answer ≡ q.answer) × (o.session.records ≡ q.session.records)

pub record RequiredMeansRequired : Type 0 where
  -- whatever is accepted under policy 2 came with its contributors and extension encrypted, or had neither
  pub accepted : (s : Session) (buf : List ℕ) (n : ℕ) → policy_number s.setup.policy ≡ 2
      → (unprotect_of s buf n).answer.number ≡ 0
      → CameEncrypted s (take n buf) (unprotect_of s buf n).answer.buffer ⊎ HadNeither (take n buf)
  -- "Under policy 2 a received packet with X = 0 and contributors is to be refused": with PROFILE, where LENGTH, SHORT, VERSION and HEADER do not apply
  pub refused : (s : Session) (buf : List ℕ) (n : ℕ) → policy_number s.setup.policy ≡ 2
      → n ≤ length buf → header_number (header_of (take n buf) (tag_length_of s.setup.suite)) ≡ 0
      → has_extension (take n buf) ≡ false → 0 < count_of (take n buf)
      → (unprotect_of s buf n).answer.number ≡ 5
  -- PROFILE refuses no other packet with X = 0: without contributors, and under policy 1 with them too, all goes as under policy 0
  pub as_plain : (s : Session) (buf : List ℕ) (n : ℕ) → uses_cryptex s.setup.policy ≡ true
      → has_extension (take n buf) ≡ false → (policy_number s.setup.policy ≡ 2 → count_of (take n buf) ≡ 0)
      → Alike (unprotect_of s buf n) (unprotect_of (plain_of s) buf n)
