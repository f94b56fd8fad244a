-- `aes_keys::key_schedule::expand` meets its contract: each call makes the next round key, and its number is the next power of x.
use mathlib.Core.Path.{◌≡◌, refl, sym, ◌∙◌}
use native.Mathlib.Omega.{arith}
use borrow.Author.Rules.{rules}
use lib.ListN.{length}
use Rattle.bits.proofs.Lists.{length-mapped}
use Rattle.aes_tables.proofs.Rounds.{round-keys-are}
use Rattle.aes_keys.proofs.Schedule.{cons, power, next-round, round-zero}
use Rattle.aes_keys.proofs.key_schedule.expand.Goals as goal

pub returns : goal.returns
returns c =
    let four-words : length c.args.key ≡ 4 = search (rules, length-mapped) in
    let n10 = c in
    let n9 = n10 in
    let n8 = n9 in
    let n7 = n8 in
    let n6 = n7 in
    let n5 = n6 in
    let n4 = n5 in
    let n3 = n4 in
    let n2 = n3 in
    let n1 = n2 in
    let key = n1.args.key in
    let four = four-words in
    let e1 = next-round key four 0 0x01 (key) n1.next_key-k1.result (omega arith) (power 0) (round-zero key four) n1.next_key-k1.ensures in
    let e2 = next-round key four 1 0x02 n1.next_key-k1.result n2.next_key-k2.result (omega arith) (power 1) e1 n2.next_key-k2.ensures in
    let e3 = next-round key four 2 0x04 n2.next_key-k2.result n3.next_key-k3.result (omega arith) (power 2) e2 n3.next_key-k3.ensures in
    let e4 = next-round key four 3 0x08 n3.next_key-k3.result n4.next_key-k4.result (omega arith) (power 3) e3 n4.next_key-k4.ensures in
    let e5 = next-round key four 4 0x10 n4.next_key-k4.result n5.next_key-k5.result (omega arith) (power 4) e4 n5.next_key-k5.ensures in
    let e6 = next-round key four 5 0x20 n5.next_key-k5.result n6.next_key-k6.result (omega arith) (power 5) e5 n6.next_key-k6.ensures in
    let e7 = next-round key four 6 0x40 n6.next_key-k6.result n7.next_key-k7.result (omega arith) (power 6) e6 n7.next_key-k7.ensures in
    let e8 = next-round key four 7 0x80 n7.next_key-k7.result n8.next_key-k8.result (omega arith) (power 7) e7 n8.next_key-k8.ensures in
    let e9 = next-round key four 8 0x1b n8.next_key-k8.result n9.next_key-k9.result (omega arith) (power 8) e8 n9.next_key-k9.ensures in
    let e10 = next-round key four 9 0x36 n9.next_key-k9.result n10.next_key-k10.result (omega arith) (power 9) e9 n10.next_key-k10.ensures in
    cons (round-zero key four) (cons e1 (cons e2 (cons e3 (cons e4 (cons e5 (cons e6 (cons e7 (cons e8 (cons e9 (cons e10 refl))))))))))
    ∙ sym (round-keys-are key)
