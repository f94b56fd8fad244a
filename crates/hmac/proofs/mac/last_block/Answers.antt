-- `hmac::mac::last_block` meets its contract.
use Prim.Native.Nat.{ℕ}
use mir.Syntax.{w32}
use mir.Val.{Fits}
use borrow.Author.Rules.{rules}
use lib.ListN.{get_or}
use Rattle.sha1_compress.proofs.Digests.{last-is}
use Rattle.hmac.proofs.mac.last_block.Goals as goal

pub returns : goal.returns
returns c =
    let f : (i : ℕ) → Fits w32 (get_or c.args.h i 0) = λ i. search rules in
    last-is c.args.h (λ i. (f i).fits)
