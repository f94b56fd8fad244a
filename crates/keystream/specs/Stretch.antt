-- Document 02, CR 6: the keystream part, which is a stretch (stretches/Stretch) of RFC 3711's keystream for one packet index (aes_counter/Keystream).
use Rattle.std.specs.Prelude.{List, ℕ}
use Rattle.aes_counter.specs.Keystream.{keystream_of}
use Rattle.stretches.specs.Stretch.{Stretched, stretch_by}

-- From a session key, a session salt, an SSRC, an index, the number of the first keystream byte and a buffer: 0 and the buffer under the keystream, or LARGE and the
-- buffer as it was. The index of a packet is below 2^48; another is no packet's.
abbrev pub stretch_of : List ℕ → List ℕ → ℕ → ℕ → ℕ → List ℕ → Stretched
stretch_of key salt ssrc index = stretch_by (keystream_of key salt ssrc index)
