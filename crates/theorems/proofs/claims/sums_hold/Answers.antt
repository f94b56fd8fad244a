-- `theorems::claims::sums_hold`: each row computes.
use mathlib.Core.Path.{refl}
use Rattle.rtp_elements.specs.Elements.{whole_of}
use Rattle.rtp_elements.specs.Mask.{mask_of}
use Rattle.replay.specs.Guess.{guess_of, distance_of}
use Rattle.replay.specs.Receive.{receive_of}
use Rattle.replay.specs.Send.{step_of, next_of, send_of}
use Rattle.replay.specs.State.{judge_of, accept_of}
use Rattle.replay.specs.Window.{seen_in, mark_of}
use Rattle.theorems.specs.Sums.{SumsHold}
use Rattle.theorems.proofs.claims.sums_hold.Goals as goal

pub returns : goal.returns
unfolding SumsHold whole_of mask_of guess_of distance_of receive_of step_of next_of send_of judge_of accept_of seen_in mark_of
returns c = (refl, (refl, (refl, (refl, (refl, (refl, (refl, (refl, (refl, (refl, (refl, (refl, (refl, tt)))))))))))))
