-- A session that is written to memory and read back is the same; memory that holds none is the unmade session.
use Rattle.std.specs.Prelude.{◌≡◌, true, false, List, ℕ, ◌^◌, ◌<◌, length}
use Rattle.bits.specs.Lists.{Each}
use Rattle.memory.specs.Words.{word, Array}
use Rattle.packet_cipher.specs.declared.keys.Keys.{Keys}
use Rattle.replay.specs.Track.{Blocks}
use Rattle.replay.specs.Window.{blocks}
use Rattle.session.specs.Session.{Record, Setup, Session}
use Rattle.session.specs.Making.{unmade, session_of}
use Rattle.session.specs.Memory.{is_mark, size, encode, decode}

-- ---- the values that the code's types allow. Definitions speak of lists of numbers, so this has to be said.

pub record KeysFit (k : Keys) : Type 0 where
  pub cipher : Array 16 256 k.cipher
  pub salt : Array 14 256 k.salt
  pub header-cipher : Array 16 256 k.header_cipher
  pub header-salt : Array 14 256 k.header_salt
  pub inner : Array 5 (2 ^ 32) k.auth.inner
  pub outer : Array 5 (2 ^ 32) k.auth.outer
  pub hash : Array 16 256 k.hash

pub record SetupFits (s : Setup) : Type 0 where
  pub key : Array 16 256 s.key
  pub salt : Array 14 256 s.salt
  pub ids : length s.ids ≡ 4
  pub keys : KeysFit s.keys

pub record RecordFits (r : Record) : Type 0 where
  pub ssrc : r.ssrc < 2 ^ 32
  pub rollover : r.rollover < 2 ^ 32
  pub replay : Blocks blocks r.replay

pub record Fits (s : Session) : Type 0 where
  pub setup : SetupFits s.setup
  pub places : length s.records ≡ 32
  pub records : Each RecordFits s.records

-- ---- the claim

pub record SessionsLast : Type 0 where
  pub made : (s : Session) → s.setup.made ≡ true → Fits s → decode (encode s) ≡ s
  -- without a mark nothing that stands in memory counts, not even a key that was left there
  pub unmarked : (words : List ℕ) → is_mark (word words 0) ≡ false → decode words ≡ session_of unmade
  pub unmade : decode (encode (session_of unmade)) ≡ session_of unmade
  -- a session fills the memory that is asked for
  pub long : (s : Session) → Fits s → length (encode s) ≡ size
