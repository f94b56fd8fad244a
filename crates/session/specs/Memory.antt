-- A session in the words that a caller lends: how it is written there, and which session any words are.
-- A layout says how many words each field has. It, what is written and what is read have a line for each field, in the same order.
use Rattle.std.specs.Prelude.{Bool, true, ◌&&◌, List, [], ◌∷◌, ◌++◌, ℕ, ◌+◌, ◌-◌, ◌*◌, ◌/◌, ◌%◌, ◌^◌, eqb, leb, get_or, drop, replicate}
use Rattle.bits.specs.Pick.{pick}
use Rattle.memory.specs.Parts.{cells_of, total, cut, join}
use Rattle.memory.specs.Words.{word, bytes_in, halves, five}
use Rattle.replay.specs.Track.{state_in, state_words}
use Rattle.replay.specs.Window.{blocks}
use Rattle.suites.specs.declared.suite.Suite.{Suite}
use Rattle.suites.specs.declared.suite.Suite.TheVariants.{CmHmac}
use Rattle.suites.specs.Suites.{suite_number, suite_of}
use Rattle.policies.specs.declared.policy.Policy.{Policy}
use Rattle.policies.specs.declared.policy.Policy.TheVariants.{Plain}
use Rattle.policies.specs.Policies.{policy_number}
use Rattle.packet_cipher.specs.declared.keys.Keys.{Keys}
use Rattle.session.specs.Session.{Kind, Free, Sender, Receiver, Record, Setup, Session}
use Rattle.session.specs.Making.{policy_of, unmade, session_of}

-- the number in word 0 of field k
abbrev pub number : List (List ℕ) → ℕ → ℕ
number fields k = word (get_or fields k []) 0

-- ---- a record

abbrev pub record_layout : List ℕ
record_layout =
    1  -- kind and SSRC
    ∷ 1  -- starting rollover
    ∷ (2 + (blocks + blocks))  -- replay state: whether it had a packet, highest index, stamps, bits
    ∷ []

abbrev pub the_head : ℕ
the_head = 0

abbrev pub the_rollover : ℕ
the_rollover = 1

abbrev pub the_replay : ℕ
the_replay = 2

abbrev pub kind_number : Kind → ℕ
kind_number Free = 0
kind_number Sender = 1
kind_number Receiver = 2

-- any other number is a free place
abbrev pub kind_at : ℕ → Kind
kind_at n = pick (eqb n 1) Sender (pick (eqb n 2) Receiver Free)

abbrev pub head_word : Kind → ℕ → ℕ
head_word kind ssrc = kind_number kind * 2 ^ 32 + ssrc

abbrev pub record_fields : Record → List (List ℕ)
record_fields r =
    (head_word r.kind r.ssrc ∷ [])
    ∷ (r.rollover ∷ [])
    ∷ state_words r.replay
    ∷ []

abbrev pub record_from : List (List ℕ) → Record
record_from fields =
    record {
      ssrc = number fields the_head % 2 ^ 32;
      kind = kind_at (number fields the_head / 2 ^ 32);
      rollover = number fields the_rollover % 2 ^ 32;
      replay = state_in (get_or fields the_replay []);
    }

-- the words of a record
abbrev pub each : ℕ
each = total record_layout

unfoldable pub record_words : Record → List ℕ
record_words r = join (record_fields r)

-- the record that words are
unfoldable pub record_at : List ℕ → Record
record_at words = record_from (cut record_layout words)

-- ---- what the session was made from

abbrev pub setup_layout : List ℕ
setup_layout =
    1  -- the mark, plus the number of the policy and four times that of the suite
    ∷ 2  -- master key
    ∷ 2  -- master salt
    ∷ 4  -- ids, a bit each
    ∷ 2  -- cipher key
    ∷ 2  -- salt
    ∷ 2  -- header cipher key
    ∷ 2  -- header salt
    ∷ 5  -- HMAC, inner state
    ∷ 5  -- HMAC, outer state
    ∷ 2  -- GCM, hash subkey
    ∷ []

abbrev pub the_mark : ℕ
the_mark = 0

abbrev pub the_key : ℕ
the_key = 1

abbrev pub the_salt : ℕ
the_salt = 2

abbrev pub the_ids : ℕ
the_ids = 3

abbrev pub the_cipher : ℕ
the_cipher = 4

abbrev pub the_own_salt : ℕ
the_own_salt = 5

abbrev pub the_header_cipher : ℕ
the_header_cipher = 6

abbrev pub the_header_salt : ℕ
the_header_salt = 7

abbrev pub the_inner : ℕ
the_inner = 8

abbrev pub the_outer : ℕ
the_outer = 9

abbrev pub the_hash : ℕ
the_hash = 10

-- "Delugash" in ASCII. Memory whose first word is none of the eight marks, as memory full of zeros, is no made session. No call writes the last one, the mask with
-- GCM: who writes it himself has a session that hides nothing of a header.
abbrev pub mark : ℕ
mark = 0x44656C7567617368

abbrev pub mark_of : Suite → Policy → ℕ
mark_of suite policy = mark + (policy_number policy + 4 * suite_number suite)

abbrev pub is_mark : ℕ → Bool
is_mark m = leb mark m && leb m (mark + 7)

abbrev pub suite_in : ℕ → Suite
suite_in m = suite_of ((m - mark) / 4)

abbrev pub policy_in : ℕ → Policy
policy_in m = policy_of ((m - mark) % 4)

-- the unmade session has the first suite and policy 0
abbrev pub suite_at : ℕ → Suite
suite_at m = pick (is_mark m) (suite_in m) CmHmac

abbrev pub policy_at : ℕ → Policy
policy_at m = pick (is_mark m) (policy_in m) Plain

abbrev pub setup_fields : Setup → List (List ℕ)
setup_fields s =
    (mark_of s.suite s.policy ∷ [])
    ∷ halves s.key
    ∷ halves s.salt
    ∷ s.ids
    ∷ halves s.keys.cipher
    ∷ halves s.keys.salt
    ∷ halves s.keys.header_cipher
    ∷ halves s.keys.header_salt
    ∷ s.keys.auth.inner
    ∷ s.keys.auth.outer
    ∷ halves s.keys.hash
    ∷ []

-- n bytes of field k
abbrev pub bytes_at : ℕ → List (List ℕ) → ℕ → List ℕ
bytes_at n fields k = bytes_in n (word (get_or fields k []) 0) (word (get_or fields k []) 1)

abbrev pub keys_from : List (List ℕ) → Keys
keys_from fields =
    record {
      cipher = bytes_at 16 fields the_cipher;
      salt = bytes_at 14 fields the_own_salt;
      header_cipher = bytes_at 16 fields the_header_cipher;
      header_salt = bytes_at 14 fields the_header_salt;
      auth = record { inner = five (get_or fields the_inner []); outer = five (get_or fields the_outer []) };
      hash = bytes_at 16 fields the_hash;
    }

abbrev pub setup_from : List (List ℕ) → Setup
setup_from fields =
    record {
      made = true;
      suite = suite_in (number fields the_mark);
      policy = policy_in (number fields the_mark);
      key = bytes_at 16 fields the_key;
      salt = bytes_at 14 fields the_salt;
      ids = get_or fields the_ids [];
      keys = keys_from fields;
    }

-- the words before the records
abbrev pub front : ℕ
front = total setup_layout

-- ---- a session

abbrev pub size : ℕ
size = front + 32 * each

-- where record i begins
abbrev pub record_place : ℕ → ℕ
record_place i = front + each * i

unfoldable pub records_words : List Record → List ℕ
records_words [] = []
records_words (r ∷ l) = record_words r ++ records_words l

-- the unmade session is zeros
unfoldable pub encode : Session → List ℕ
encode s = pick s.setup.made (join (setup_fields s.setup) ++ records_words s.records) (replicate size 0)

-- 32 records after the words of the setup
unfoldable pub records_in : List ℕ → List Record
records_in words = cells_of each 32 record_at (drop front words)

unfoldable pub setup_at : List ℕ → Setup
setup_at words = setup_from (cut setup_layout words)

-- any words
unfoldable pub decode : List ℕ → Session
decode words = pick (is_mark (word words 0)) (record { setup = setup_at words; records = records_in words }) (session_of unmade)
