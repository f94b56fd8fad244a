-- `ledger::claims::steps_are_sound`: the laws of the steps.
use Rattle.ledger.proofs.Indices.{receiving, sending}
use Rattle.ledger.proofs.claims.steps_are_sound.Goals as goal

pub returns : goal.returns
returns c = record { receiving = receiving; sending = sending }
