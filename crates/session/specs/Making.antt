-- Document 01, "The library's work" and numbers 15 and 16, with document 02, CR 3: a session from a suite, a master key, a master salt, a policy and element ids.
use Rattle.std.specs.Prelude.{Bool, true, false, not, ◌&&◌, List, ◌++◌, ℕ, ◌+◌, ◌-◌, ◌*◌, eqb, ltb, length, replicate}
use Rattle.bits.specs.Bits.{packed}
use Rattle.bits.specs.Lists.{tabulate}
use Rattle.bits.specs.Pick.{pick}
use Rattle.bits.specs.Refusals.{number_of}
use Rattle.bits.specs.declared.refusal.Refusal.{Refusal}
use Rattle.bits.specs.declared.refusal.Refusal.TheVariants as refusal
use Rattle.aes_cm.specs.Derivation.{session_keys_of}
use Rattle.hmac.specs.Steps.{key_states_of}
use Rattle.gcm.specs.Gcm.{subkey_of}
use Rattle.suites.specs.declared.suite.Suite.{Suite}
use Rattle.suites.specs.declared.suite.Suite.TheVariants.{CmHmac}
use Rattle.suites.specs.Suites.{salt_length_of, last_policy_of}
use Rattle.rtp_elements.specs.Mask.{among}
use Rattle.packet_cipher.specs.declared.keys.Keys.{Keys}
use Rattle.policies.specs.declared.policy.Policy.{Policy}
use Rattle.policies.specs.declared.policy.Policy.TheVariants.{Plain, Cryptex, CryptexRequired, Mask}
use Rattle.session.specs.Session.{Made, Setup, Session}
use Rattle.session.specs.Records.{free_place}

-- RFC 7714, 11, takes RFC 3711's key derivation and does not say how a master salt of twelve bytes becomes one of fourteen; the session keys in RFC 9335, A.2, show it:
-- two zero bytes after it. One of fourteen stays as it is.
abbrev pub full_salt : List ℕ → List ℕ
full_salt salt = salt ++ replicate (14 - length salt) 0

-- The session keys (RFC 3711, 4.3.1), and GCM's hash subkey (SP 800-38D, 7.1, step 1). RFC 7714 uses those under labels 0 and 2, of the salt its first twelve bytes.
abbrev pub keys_of : List ℕ → List ℕ → Keys
keys_of key salt =
    record {
      cipher = (session_keys_of key salt).cipher;
      salt = (session_keys_of key salt).salt;
      header_cipher = (session_keys_of key salt).header_cipher;
      header_salt = (session_keys_of key salt).header_salt;
      auth = key_states_of (session_keys_of key salt).auth;
      hash = subkey_of (session_keys_of key salt).cipher;
    }

-- the ids that count: a 0 is ignored, and so are repeats
abbrev pub counts : List ℕ → ℕ → Bool
counts ids id = not (eqb id 0) && among ids id

-- The set of ids from 1 to 255 in four words of 64 bits: bit k of word j says whether id 64 * j + k is in it.
unfoldable pub ids_of : List ℕ → List ℕ
ids_of ids = tabulate 4 (λ j. packed 64 (λ k. counts ids (64 * j + k)))

-- policies 0 to 3; a higher number is refused (POLICY) before this is asked
abbrev pub policy_of : ℕ → Policy
policy_of n = pick (eqb n 0) Plain (pick (eqb n 1) Cryptex (pick (eqb n 2) CryptexRequired Mask))

abbrev pub setup_of : Suite → List ℕ → List ℕ → ℕ → List ℕ → Setup
setup_of suite key salt policy ids =
    record {
      made = true;
      suite = suite;
      policy = policy_of policy;
      key = key;
      salt = full_salt salt;
      ids = ids_of ids;
      keys = keys_of key (full_salt salt);
    }

-- "one fixed unmade session of policy 0", which takes no stream; "an unmade session counts as first suite". Its key, salt, ids and session keys are left free by the papers: zeros and no id.
abbrev pub unmade_keys : Keys
unmade_keys =
    record {
      cipher = replicate 16 0;
      salt = replicate 14 0;
      header_cipher = replicate 16 0;
      header_salt = replicate 14 0;
      auth = record { inner = replicate 5 0; outer = replicate 5 0 };
      hash = replicate 16 0;
    }

abbrev pub unmade : Setup
unmade = record { made = false; suite = CmHmac; policy = Plain; key = replicate 16 0; salt = replicate 14 0; ids = replicate 4 0; keys = unmade_keys }

-- no stream yet
abbrev pub session_of : Setup → Session
session_of setup = record { setup = setup; records = replicate 32 free_place }

-- ---- the call

abbrev pub not_made : Refusal → Made
not_made r = record { number = number_of r; session = session_of unmade }

-- KEYS: master key not 16 bytes, or the salt not of the suite's length. POLICY: policy above 3, or 3 with GCM.
unfoldable pub make_of : Suite → List ℕ → List ℕ → ℕ → List ℕ → Made
make_of suite key salt policy ids =
    pick (not (eqb (length key) 16 && eqb (length salt) (salt_length_of suite))) (not_made refusal.Keys)
    (pick (ltb (last_policy_of suite) policy) (not_made refusal.Policy)
    (record { number = 0; session = session_of (setup_of suite key salt policy ids) }))
