-- `sha1_digest::digest::digest`: the bytes of the words written, and zeros.
use Rattle.std.proofs.Common.{◌≡◌, ◌++◌, ◌*◌, ◌-◌, replicate}
use Rattle.sha1_digest.proofs.Words.{bytes_until}
use Rattle.sha1_digest.proofs.digest.digest.Given as goal

abbrev pub invariant-loop-i : goal.invariant-loop-i
invariant-loop-i l = l.out ≡ bytes_until l.i l.fn.h ++ replicate (20 - 4 * l.i) 0
