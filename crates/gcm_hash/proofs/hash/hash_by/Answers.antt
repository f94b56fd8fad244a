-- `gcm_hash::hash::hash_by` meets its contract.
use Rattle.std.proofs.Common.{◌∙◌, [], ◌++◌}
use Rattle.ghash.specs.Ghash.{padded_of}
use Rattle.gcm_hash.proofs.Hashes.{padded-whole, fed-is-hashed}
use Rattle.gcm_hash.proofs.hash.hash_by.Goals as goal

pub returns : goal.returns
returns c =
    let g = c.args in
    let x = g.a.now ++ g.b.now in
    let y = (padded_of x ++ g.c.now) ++ g.d.now in
    λ h q.
    c.to_be_bytes.ensures
    ∙ c.finish-last.ensures h (padded_of y) q (c.feed_two-u.ensures h (padded_of x) q (c.feed_two-t.ensures h [] q (c.start-s.ensures.by_index h))) (padded-whole y)
    ∙ fed-is-hashed g.a.now g.b.now g.c.now g.d.now h
