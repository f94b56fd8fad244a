-- `gcm::tag::tag_parts` meets its contract.
use mathlib.Core.Path.{ap₂, ◌∙◌}
use mathlib.Core.List.{append-nil}
use Rattle.bits.specs.BigEndian.{from_bytes}
use Rattle.gcm_hash.specs.Hash.{hash_of}
use Rattle.gcm.proofs.Counters.{tagged}
use Rattle.gcm.proofs.tag.tag_parts.Goals as goal

pub returns : goal.returns
returns c =
    let g = c.args in
    let a = g.a.now in
    let b = g.c.now in
    tagged g.key g.iv g.subkey c.hash_parts.result c.hidden.result a b
    (c.hash_parts.ensures ∙ ap₂ (hash_of (from_bytes g.subkey)) (append-nil a) (append-nil b)) c.hidden.ensures
