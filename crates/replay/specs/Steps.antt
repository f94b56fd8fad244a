-- What the code's own steps mean.
use Rattle.std.specs.Prelude.{ℕ}
use Rattle.replay.specs.declared.receive.Arrival.{Arrival}
use Rattle.replay.specs.State.{ReplayState}
use Rattle.replay.specs.Receive.{receive_of}

-- what a receiver tells of `receive_of` before anything is written
abbrev pub arrival_of : ℕ → ℕ → ReplayState → ℕ → ℕ → Arrival
arrival_of b W s rollover seq = record { judged = (receive_of b W s rollover seq).judged; distance = (receive_of b W s rollover seq).distance }
