-- `sha1_digest::digest::sha1` meets its contract: the message is one part, and the other is empty.
use mathlib.Core.Path.{ap₂, ◌∙◌}
use Rattle.sha1_compress.specs.Steps.{hash_from}
use Rattle.sha1_compress.proofs.Padding.{tail_none, sha1-is}
use Rattle.sha1_digest.proofs.digest.sha1.Goals as goal

pub returns : goal.returns
returns c =
    let m = c.args.m.now in
    c.digest.ensures
    ∙ sha1-is m c.finish.result
    (c.finish.ensures ∙ ap₂ (hash_from 0) c.start.ensures (tail_none m))
