-- `gcm::tag::tag` meets its contract.
use Rattle.gcm_hash.specs.Portion.{outside_of, inside_of}
use Rattle.gcm.proofs.Counters.{tagged}
use Rattle.gcm.proofs.tag.tag.Goals as goal

pub returns : goal.returns
returns c =
    let a = c.args in
    let p = a.portion in
    tagged a.key a.iv a.subkey c.hash.result c.hidden.result (outside_of p.first p.stop p.rest a.buf.now) (inside_of p.first p.stop p.rest a.buf.now) c.hash.ensures c.hidden.ensures
