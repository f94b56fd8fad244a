-- A packet beside its stream's record, sent or received: its index or the refusal (document 01, numbers 10 to 13), and the replay state once it was taken.
use Rattle.bits.specs.declared.refusal.Refusal.{Refusal}
use Rattle.std.specs.Prelude.{List, ℕ, get_or, Result, Ok}
use Rattle.replay.specs.Receive.{receive_of}
use Rattle.replay.specs.Send.{send_of, sent_of}
use Rattle.replay.specs.State.{ReplayState, accept_of}
use Rattle.replay.specs.Window.{blocks, width}
use Rattle.policies.specs.declared.policy.Way.{Way}
use Rattle.policies.specs.declared.policy.Way.TheVariants.{Sending, Receiving}
use Rattle.session.specs.Memory.{records_in}
use Rattle.session.specs.Places.{no_record}
use Rattle.session.specs.Session.{Record}

-- record i of a session's memory
abbrev pub record_in : List ℕ → ℕ → Record
record_in words i = get_or (records_in words) i no_record

abbrev pub judged_by : Way → Record → ℕ → Result ℕ Refusal
judged_by Sending r seq = (send_of r.replay r.rollover seq).judged
judged_by Receiving r seq = (receive_of blocks width r.replay r.rollover seq).judged

abbrev pub committed_by : Way → Record → ℕ → ReplayState
committed_by Sending r index = sent_of r.replay (Ok index)
committed_by Receiving r index = accept_of blocks r.replay index
