-- What is sent ends with the tag that its suite gives.
use mathlib.Core.Path.{refl, ◌∙◌}
use mathlib.Core.List.{List, [], ◌∷◌}
use Prim.Native.Nat.{ℕ}
use Rattle.bits.specs.Lists.{Each}
use Rattle.aes_cm.proofs.Derived.{derived-front}
use Rattle.rtp_elements.specs.Mask.{listed_in}
use Rattle.suites.specs.declared.suite.Suite.{Suite}
use Rattle.suites.specs.Suites.{salt_length_of}
use Rattle.suites.proofs.Lengths.{salt-short}
use Rattle.packet_cipher.specs.declared.keys.Keys.{Keys}
use Rattle.packet_cipher.proofs.Tagging.{tag-standard}
use Rattle.wire.proofs.Wires.{Ends, wire-ends}
use Rattle.session.specs.Making.{full_salt, keys_of, ids_of, policy_of}
use Rattle.theorems.specs.Lists.{just_made, events_of}
use Rattle.theorems.specs.Sent.{Sent, none_sent, sent_from, SentAs, SentUnderItsIndex}
use Rattle.theorems.specs.Tags.{authentication_key, session_salt, before_tag, Tagged, TagsAreTheStandards}
use Rattle.theorems.proofs.Sending.{sent-under-its-index}

module _ (suite : Suite) (key salt : List ℕ) (policy : ℕ) (ids : List ℕ) (x : ℕ) where
  abbrev keys : Keys
  keys = keys_of key (full_salt salt)

  tagged : (s : Sent) → SentAs suite key salt policy ids x s → Tagged suite key salt policy ids x s
  tagged s o =
      let e : Ends suite keys (policy_of policy) x s.index s.wire
      = rw o.wire (wire-ends suite keys (policy_of policy) x s.index (listed_in (ids_of ids)) s.packet) in
      record {
        long = e.long;
        tag =
            e.tag
            ∙ tag-standard suite keys (authentication_key key salt) (session_salt suite key salt) refl refl
            (derived-front key (full_salt salt) 2 (salt_length_of suite) 14 (salt-short suite)) (policy_of policy) x s.index (before_tag suite s);
      }

  all-tagged : (l : List Sent) → Each (SentAs suite key salt policy ids x) l → Each (Tagged suite key salt policy ids x) l
  all-tagged [] o = tt
  all-tagged (s ∷ l) (o, os) = (tagged s o, all-tagged l os)

pub tags-are-the-standards : TagsAreTheStandards
unfolding TagsAreTheStandards SentUnderItsIndex
tags-are-the-standards suite key salt policy ids others calls bytes x rollover i large q =
    all-tagged suite key salt policy ids x (sent_from x rollover none_sent (events_of (just_made suite key salt policy ids others) calls))
    (sent-under-its-index suite key salt policy ids others calls bytes x rollover i large q)
