-- Document 01, "Numbers given back", 15, 17 and 18: a stream added to a session.
use Rattle.std.specs.Prelude.{not, ℕ}
use Rattle.bits.specs.Pick.{pick}
use Rattle.bits.specs.Refusals.{number_of}
use Rattle.bits.specs.declared.refusal.Refusal.{Refusal}
use Rattle.bits.specs.declared.refusal.Refusal.TheVariants as refusal
use Rattle.policies.specs.declared.policy.Way.{Way}
use Rattle.session.specs.Session.{Made, Session}
use Rattle.session.specs.Records.{has_ssrc, is_full, placed, fresh_record}

abbrev pub not_added : Session → Refusal → Made
not_added s r = record { number = number_of r; session = s }

-- KEYS: session unmade. TWICE: SSRC already in the session, either way. FULL: 32 records already.
unfoldable pub add_of : Session → ℕ → Way → ℕ → Made
add_of s ssrc way rollover =
    pick (not s.setup.made) (not_added s refusal.Keys)
    (pick (has_ssrc s.records ssrc) (not_added s refusal.Twice)
    (pick (is_full s.records) (not_added s refusal.Full)
    (record { number = 0; session = record { setup = s.setup; records = placed s.records (fresh_record ssrc way rollover) } })))
