-- A session written to memory and read back is the same.
use mathlib.Core.Path.{◌≡◌, refl, sym, ap, ap₂, ◌∙◌}
use mathlib.Core.Bool.{Bool, true, false}
use mathlib.Core.List.{List, [], ◌∷◌, ◌++◌, map}
use Prim.Native.Nat.{ℕ, ◌+◌, ◌*◌}
use native.Mathlib.Omega.{arith}
use lib.ListN.{length, replicate, length-append}
use lib.Seq.{take_at, drop_at}
use Rattle.bits.specs.Lists.{Each}
use Rattle.memory.specs.Parts.{cells_of, join}
use Rattle.memory.specs.Words.{Lasts, Numbers5}
use Rattle.memory.proofs.Bytes.{bytes-kept, five-kept}
use Rattle.memory.proofs.Parts.{cut-joined, join-length}
use Rattle.policies.specs.declared.policy.Policy.{Policy}
use Rattle.policies.specs.declared.policy.Policy.TheVariants.{Plain, Cryptex, CryptexRequired, Mask}
use Rattle.suites.specs.declared.suite.Suite.{Suite}
use Rattle.suites.specs.declared.suite.Suite.TheVariants.{CmHmac, Gcm}
use Rattle.session.specs.Session.{Record, Setup, Session}
use Rattle.session.specs.Making.{unmade, session_of}
use Rattle.session.specs.Memory.{each, record_words, record_at, setup_layout, mark_of, is_mark, suite_in, policy_in, setup_fields, setup_from, front, size, records_words, encode, records_in, setup_at, decode}
use Rattle.session.specs.RoundTrip.{SetupFits, RecordFits, Fits, SessionsLast}
use Rattle.session.proofs.Memory.{not_made}
use Rattle.session.proofs.Records.{record-kept, record-length}

-- ---- records

records-kept : (l : List Record) → Each RecordFits l → cells_of each (length l) record_at (records_words l) ≡ l
unfolding cells_of records_words
records-kept [] f = refl
records-kept (r ∷ l) f =
    ap₂ (λ (a : Record) (b : List Record). a ∷ b)
    (ap record_at (take_at (record_words r) (records_words l) each (record-length r f.0)) ∙ record-kept r f.0)
    (ap (cells_of each (length l) record_at) (drop_at (record_words r) (records_words l) each (record-length r f.0)) ∙ records-kept l f.1)

records-long : (l : List Record) → Each RecordFits l → length (records_words l) ≡ each * length l
unfolding records_words
records-long [] f = refl
records-long (r ∷ l) f = length-append (record_words r) (records_words l) ∙ (let e = records-long l f.1 in omega (arith, record-length r f.0))

-- ---- what the session was made from

-- the eight marks
each-mark : (P : Suite → Policy → Type 0) → P CmHmac Plain → P CmHmac Cryptex → P CmHmac CryptexRequired → P CmHmac Mask → P Gcm Plain → P Gcm Cryptex → P Gcm CryptexRequired → P Gcm Mask
    → (s : Suite) (p : Policy) → P s p
each-mark P a b c d e f g h CmHmac Plain = a
each-mark P a b c d e f g h CmHmac Cryptex = b
each-mark P a b c d e f g h CmHmac CryptexRequired = c
each-mark P a b c d e f g h CmHmac Mask = d
each-mark P a b c d e f g h Gcm Plain = e
each-mark P a b c d e f g h Gcm Cryptex = f
each-mark P a b c d e f g h Gcm CryptexRequired = g
each-mark P a b c d e f g h Gcm Mask = h

policy-kept : (s : Suite) (p : Policy) → policy_in (mark_of s p) ≡ p
policy-kept = each-mark (λ s p. policy_in (mark_of s p) ≡ p) refl refl refl refl refl refl refl refl

suite-kept : (s : Suite) (p : Policy) → suite_in (mark_of s p) ≡ s
suite-kept = each-mark (λ s p. suite_in (mark_of s p) ≡ s) refl refl refl refl refl refl refl refl

marked : (s : Suite) (p : Policy) → is_mark (mark_of s p) ≡ true
marked = each-mark (λ s p. is_mark (mark_of s p) ≡ true) refl refl refl refl refl refl refl refl

-- what has to come back of a setup's words, one array at a time
pub record SetupLasts (s : Setup) : Type 0 where
  pub key : Lasts 16 s.key
  pub salt : Lasts 14 s.salt
  pub ids : length s.ids ≡ 4
  pub cipher : Lasts 16 s.keys.cipher
  pub own-salt : Lasts 14 s.keys.salt
  pub header-cipher : Lasts 16 s.keys.header_cipher
  pub header-salt : Lasts 14 s.keys.header_salt
  pub inner : Numbers5 s.keys.auth.inner
  pub outer : Numbers5 s.keys.auth.outer
  pub hash : Lasts 16 s.keys.hash

fits_last : (s : Setup) → SetupFits s → SetupLasts s
fits_last s f =
    record {
      key = bytes-kept 16 (omega arith) s.key f.key;
      salt = bytes-kept 14 (omega arith) s.salt f.salt;
      ids = f.ids;
      cipher = bytes-kept 16 (omega arith) s.keys.cipher f.keys.cipher;
      own-salt = bytes-kept 14 (omega arith) s.keys.salt f.keys.salt;
      header-cipher = bytes-kept 16 (omega arith) s.keys.header_cipher f.keys.header-cipher;
      header-salt = bytes-kept 14 (omega arith) s.keys.header_salt f.keys.header-salt;
      inner = five-kept s.keys.auth.inner f.keys.inner;
      outer = five-kept s.keys.auth.outer f.keys.outer;
      hash = bytes-kept 16 (omega arith) s.keys.hash f.keys.hash;
    }

module _ (s : Setup) (lasts : SetupLasts s) where
  sizes : map length (setup_fields s) ≡ setup_layout
  sizes = rw (lasts.ids, lasts.inner.long, lasts.outer.long)

  fields-kept : s.made ≡ true → setup_from (setup_fields s) ≡ s
  fields-kept m =
      rw (
        sym m,
        suite-kept s.suite s.policy,
        policy-kept s.suite s.policy,
        lasts.key,
        lasts.salt,
        lasts.cipher,
        lasts.own-salt,
        lasts.header-cipher,
        lasts.header-salt,
        lasts.inner.kept,
        lasts.outer.kept,
        lasts.hash,
      )

  pub setup-long : length (join (setup_fields s)) ≡ front
  setup-long = join-length setup_layout (setup_fields s) sizes

  pub session-kept : (l : List Record) → s.made ≡ true → length l ≡ 32 → Each RecordFits l → decode (join (setup_fields s) ++ records_words l) ≡ record { setup = s; records = l }
  unfolding decode records_in setup_at
  session-kept l m n f =
      rw (marked s.suite s.policy)
      (ap₂ (λ (a : Setup) (b : List Record). record { setup = a; records = b })
      (ap setup_from (cut-joined setup_layout (setup_fields s) (records_words l) sizes) ∙ fields-kept m)
      (ap (cells_of each 32 record_at) (drop_at (join (setup_fields s)) (records_words l) front setup-long)
      ∙ ap (λ (k : ℕ). cells_of each k record_at (records_words l)) (sym n) ∙ records-kept l f))

-- ---- the claim

encode-made : (s : Session) → s.setup.made ≡ true → encode s ≡ join (setup_fields s.setup) ++ records_words s.records
unfolding encode
encode-made s m = rw m

pub encode-unmade : encode (session_of unmade) ≡ replicate size 0
unfolding encode
encode-unmade = refl

encode-not : (s : Session) → s.setup.made ≡ false → length (encode s) ≡ size
unfolding encode
encode-not s m = rw m

pub sessions-last : SessionsLast
unfolding decode
sessions-last =
    record {
      made = λ s m f. ap decode (encode-made s m) ∙ session-kept s.setup (fits_last s.setup f.setup) s.records m f.places f.records;
      unmade = ap decode encode-unmade;
      unmarked = not_made;
      long = λ s f. long s f s.setup.made refl;
    }
  where
    long : (s : Session) → Fits s → (b : Bool) → s.setup.made ≡ b → length (encode s) ≡ size
    long s f true e =
        ap length (encode-made s e) ∙ length-append (join (setup_fields s.setup)) (records_words s.records)
        ∙ ap₂ (λ (a b : ℕ). a + b) (setup-long s.setup (fits_last s.setup f.setup)) (records-long s.records f.records ∙ ap (λ (k : ℕ). each * k) f.places)
    long s f false e = encode-not s e
