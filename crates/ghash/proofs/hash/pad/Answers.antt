-- `ghash::hash::pad` meets its contract.
use Rattle.std.proofs.Common.{arith}
use Rattle.ghash.proofs.Feeding.{no-zeros, with-zeros}
use Rattle.ghash.proofs.hash.pad.Goals as goal

pub returns-then-whole : goal.returns-then-whole
returns-then-whole c = record { begun_value = c.if-whole.true; by_index = λ h l k f. no-zeros h l c.args.s c.if-whole.true f }

pub returns : goal.returns
returns c =
    record {
      begun_value = omega arith;
      by_index = λ h l k f. with-zeros h l c.args.s _ c.if-whole.false (omega arith) (c.multiplied-padded.ensures h k) f;
    }
