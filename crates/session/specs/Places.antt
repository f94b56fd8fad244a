-- The places of records, counted from 0: where a stream's record stands, and where one can be added.
use Rattle.std.specs.Prelude.{Bool, false, List, [], ◌∷◌, ℕ, suc, ◌<◌, Option, Some, None}
use Rattle.bits.specs.Pick.{pick}
use Rattle.policies.specs.declared.policy.Way.{Way}
use Rattle.session.specs.Session.{Free, Record}
use Rattle.session.specs.Records.{is_free, is_for}

-- what is read past the end of a list of records
abbrev pub no_record : Record
no_record = record { ssrc = 0; kind = Free; rollover = 0; replay = record { started = false; highest = 0; window = record { stamps = []; bits = [] } } }

-- one of the 32
abbrev pub Inside : Option ℕ → Type 0
Inside (Some i) = i < 32
Inside None = Unit {0}

-- the place of the first record that passes a test, in a list whose first place is k
abbrev pub first_from : (Record → Bool) → ℕ → List Record → Option ℕ
first_from test k [] = None
first_from test k (r ∷ l) = pick (test r) (Some k) (first_from test (suc k) l)

-- that of the record for an SSRC and a way, and the first free one
abbrev pub place_from : ℕ → List Record → ℕ → Way → Option ℕ
place_from k l ssrc way = first_from (λ r. is_for r ssrc way) k l

abbrev pub free_from : ℕ → List Record → Option ℕ
free_from k l = first_from (λ r. is_free r.kind) k l
