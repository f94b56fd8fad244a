-- `gcm_hash::hash::hash` meets its contract: the parts are those of the buffer.
use Rattle.std.proofs.Common.{ℕ, List, ap, ap₂, ◌∙◌}
use Rattle.bits.specs.BigEndian.{from_bytes}
use Rattle.bits.specs.Portion.{Bounds}
use Rattle.gcm_hash.specs.Hash.{hash_of}
use Rattle.gcm_hash.specs.Portion.{outside_of, inside_of}
use Rattle.gcm_hash.proofs.Hashes.{outside-cut, inside-cut, outside-one, inside_one}
use Rattle.gcm_hash.proofs.hash.hash.Goals as goal

-- the hash of a buffer by the bounds of its portion
abbrev hash_by : List ℕ → List ℕ → Bounds → List ℕ
hash_by subkey l p = hash_of (from_bytes subkey) (outside_of p.first p.stop p.rest l) (inside_of p.first p.stop p.rest l)

pub returns-then-none_before : goal.returns-then-none_before
returns-then-none_before c =
    let a = c.args in
    let p = c.portion.inside in
    let l = a.buf.now in
    c.hash_parts.ensures
    ∙ ap₂ (hash_of (from_bytes a.subkey)) (outside-one p.first p.stop p.rest l c.if-none_before.true c.portion.invariant.1) (inside_one p.first p.stop p.rest l c.if-none_before.true)
    ∙ ap (hash_by a.subkey l) c.portion.view_is

pub returns : goal.returns
returns c =
    let a = c.args in
    let p = c.portion.inside in
    let l = a.buf.now in
    c.hash_parts-2.ensures
    ∙ ap₂ (hash_of (from_bytes a.subkey)) (outside-cut p.first p.stop p.rest l) (inside-cut p.first p.stop p.rest l)
    ∙ ap (hash_by a.subkey l) c.portion.view_is
