-- Document 01, "Sums on the bench": G1 to G7, S1, S2 and M1 to M4, one table of the written meanings.
use Rattle.std.specs.Prelude.{◌≡◌, List, [], ◌∷◌, map, ℕ, ◌-◌, ◌^◌, ℤ, pos, negsuc, Ok}
use Rattle.bits.specs.Pick.{pick}
use Rattle.bits.specs.Lists.{Each}
use Rattle.rtp_elements.specs.Elements.{whole_of}
use Rattle.rtp_elements.specs.Mask.{among, mask_of}
use Rattle.replay.specs.declared.answer.Told.{Told}
use Rattle.replay.specs.Receive.{Received, receive_of}
use Rattle.replay.specs.Answers.{told_of}
use Rattle.replay.specs.Guess.{guess_of}
use Rattle.replay.specs.Send.{sent_of, send_of}
use Rattle.replay.specs.State.{fresh_of, accept_of}
use Rattle.replay.specs.Window.{blocks, width}

-- ---- a row

pub data Question : Type 0 where
  -- SEQ received beside the highest index h, the only one accepted
  received : ℕ → ℕ → Question
  -- each SEQ sent where the last index sent is h
  sent : ℕ → List ℕ → Question
  -- a one-byte block under a set of ids
  masked : List ℕ → List ℕ → Question

pub data Result : Type 0 where
  -- the guessed index and its distance from the highest; the answer: number, and index where it is 0
  guessed : ℤ → ℤ → Told → Result
  sends : List Told → Result
  mask : List ℕ → Result
  element : Result

abbrev pub received_at : ℕ → ℕ → Received
received_at h seq = receive_of blocks width (accept_of blocks (fresh_of blocks) h) 0 seq

abbrev pub sent_after : ℕ → ℕ → Told
sent_after h seq = told_of (send_of (sent_of (fresh_of blocks) (Ok h)) 0 seq).judged

abbrev pub result_of : Question → Result
result_of (received h seq) = guessed (guess_of h seq) (received_at h seq).distance (told_of (received_at h seq).judged)
result_of (sent h seqs) = sends (map (sent_after h) seqs)
result_of (masked block ids) = pick (whole_of 0xBEDE block) (mask (mask_of (among ids) 0xBEDE block)) element

-- ---- the table

abbrev pub taken : ℕ → Told
taken i = record { number = 0; index = i }

abbrev pub refused_with : ℕ → Told
refused_with n = record { number = n; index = 0 }

-- document 01's names of the rows
pub data Name : Type 0 where
  G1 G2 G3 G4 G5 G6 G7 S1 S2 M1 M2 M3 M4 : Name

pub record Row : Type 0 where
  pub name : Name
  pub question : Question
  pub result : Result

abbrev pub row : Name → Question → Result → Row
row name q r = record { name = name; question = q; result = r }

abbrev pub table : List Row
table =
    row G1 (received 65535 0) (guessed (pos 65536) (pos 1) (taken 65536))
    ∷ row G2 (received 65536 65535) (guessed (pos 65535) (negsuc 0) (taken 65535))
    ∷ row G3 (received 0 65535) (guessed (negsuc 0) (negsuc 0) (refused_with 12))
    ∷ row G4 (received 0 32768) (guessed (pos 32768) (pos 32768) (taken 32768))
    ∷ row G5 (received 32768 0) (guessed (pos 0) (negsuc 32767) (refused_with 12))
    ∷ row G6 (received 32769 0) (guessed (pos 65536) (pos 32767) (taken 65536))
    ∷ row G7 (received (2 ^ 48 - 1) 0) (guessed (pos (2 ^ 48)) (pos 1) (refused_with 11))
    ∷ row S1 (sent 0 (32767 ∷ 32768 ∷ [])) (sends (taken 32767 ∷ refused_with 10 ∷ []))
    ∷ row S2 (sent 65535 (0 ∷ [])) (sends (taken 65536 ∷ []))
    ∷ row M1 (masked (0x10 ∷ 0xab ∷ 0x00 ∷ 0x21 ∷ 0xcd ∷ 0xef ∷ 0x30 ∷ 0x77 ∷ []) (2 ∷ [])) (mask (0x00 ∷ 0x00 ∷ 0x00 ∷ 0x00 ∷ 0xff ∷ 0xff ∷ 0x00 ∷ 0x00 ∷ []))
    ∷ row M2 (masked (0x10 ∷ 0xab ∷ 0x00 ∷ 0x21 ∷ 0xcd ∷ 0xef ∷ 0x30 ∷ 0x77 ∷ []) (1 ∷ 3 ∷ [])) (mask (0x00 ∷ 0xff ∷ 0x00 ∷ 0x00 ∷ 0x00 ∷ 0x00 ∷ 0x00 ∷ 0xff ∷ []))
    ∷ row M3 (masked (0x10 ∷ 0xab ∷ 0xf1 ∷ 0x21 ∷ []) (1 ∷ 2 ∷ 15 ∷ [])) (mask (0x00 ∷ 0xff ∷ 0x00 ∷ 0x00 ∷ []))
    ∷ row M4 (masked (0x13 ∷ 0xab ∷ 0xcd ∷ 0xef ∷ []) []) element
    ∷ []

unfoldable pub SumsHold : Type 0
SumsHold = Each (λ (r : Row). result_of r.question ≡ r.result) table
