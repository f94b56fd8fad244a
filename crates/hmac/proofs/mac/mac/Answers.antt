-- `hmac::mac::mac` meets its contract: the inner hash, and the outer one's one block.
use mathlib.Core.Path.{ap, sym, ◌∙◌}
use mathlib.Core.List.{List}
use Prim.Native.Nat.{ℕ}
use Rattle.sha1_compress.specs.Hash.{compress_of, digest_of}
use Rattle.sha1_compress.specs.Steps.{hash_from}
use Rattle.sha1_compress.proofs.Digests.{last-hash}
use Rattle.hmac.specs.Steps.{mac_of}
use Rattle.hmac.proofs.mac.mac.Goals as goal

pub returns : goal.returns
unfolding mac_of
returns c =
    let states = c.args.states in
    c.digest.ensures
    ∙ ap digest_of
    (c.compress-e.ensures
    ∙ ap (compress_of states.outer) c.last_block.ensures
    ∙ sym (last-hash states.outer c.finish-h.result)
    ∙ ap (λ (u : List ℕ). hash_from 64 states.outer (digest_of u)) c.finish-h.ensures)
