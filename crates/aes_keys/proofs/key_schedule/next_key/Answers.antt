-- `aes_keys::key_schedule::next_key` meets its contract.
use Rattle.aes_keys.proofs.Schedule.{next-key}
use Rattle.aes_keys.proofs.key_schedule.next_key.Goals as goal

pub returns : goal.returns
returns c =
    let w2 = c in
    let w1 = w2 in
    let w0 = w1 in
    let t = w0 in
    let s = t in
    let a = s.args in
    next-key a.k a.x s.substitute.result t.xor-temp.result w0.xor-a.result w1.xor-b.result w2.xor-c.result c.xor-d.result
    s.substitute.ensures t.xor-temp.ensures w0.xor-a.ensures w1.xor-b.ensures w2.xor-c.ensures c.xor-d.ensures
