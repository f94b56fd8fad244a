-- `gcm::claims::in_place_is_algorithm_4` meets its contract.
use Rattle.bits.proofs.Xor.{pad-twice}
use Rattle.aes_cm.specs.Portion.{portion_pad}
use Rattle.gcm.specs.Gctr.{inc32, gctr_stream}
use Rattle.gcm.specs.Gcm.{j0_of}
use Rattle.gcm.proofs.InPlace.{inside_is, outside-is}
use Rattle.gcm.proofs.claims.in_place_is_algorithm_4.Goals as goal

pub returns : goal.returns
returns c =
    record {
      inside = λ key iv l first stop rest up on in-it. inside_is l first stop rest (gctr_stream key (inc32 (j0_of iv))) up on in-it;
      outside = λ key iv l first stop rest up on in-it. outside-is l first stop rest (gctr_stream key (inc32 (j0_of iv))) up on in-it;
      undone = λ key iv l first stop rest. pad-twice (portion_pad first stop rest (gctr_stream key (inc32 (j0_of iv)))) l;
    }
