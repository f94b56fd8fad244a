-- `stretches::claims::stretches_meet`: the laws of stretches.
use Rattle.stretches.proofs.Parts.{refused, served, length-stretch, stretch-twice, neighbours-join, stretch-placed}
use Rattle.stretches.proofs.claims.stretches_meet.Goals as goal

pub returns : goal.returns
returns c =
    record {
      joined = neighbours-join;
      large = refused;
      taken = served;
      same_length = length-stretch;
      undone = stretch-twice;
      placed = stretch-placed;
    }
