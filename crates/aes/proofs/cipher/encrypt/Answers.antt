-- `aes::cipher::encrypt` meets its contract: each call is a round more.
use mathlib.Core.Path.{refl}
use mathlib.Core.List.{[]}
use lib.ListN.{get_or}
use Rattle.aes_tables.specs.Cipher.{add_round_key}
use Rattle.aes.proofs.Rounds.{next, begun, ended}
use Rattle.aes.proofs.cipher.encrypt.Goals as goal

pub returns : goal.returns
returns c =
    let a = c.args in
    let ks = a.keys.now in
    let s = add_round_key a.block (get_or ks 0 []) in
    let s0 = c.add_round_key-s0 in
    let e2 = begun ks s s0.result c.first_round-s1.result c.second_round-s2.result a.begun s0.ensures c.requires
    (c.first_round-s1.ensures (get_or ks 1 []) (get_or ks 2 [])) (c.second_round-s2.ensures s0.result (get_or ks 1 []) (get_or ks 2 [])) in
    let e3 = next ks s c.second_round-s2.result c.round-s3.result 2 e2 c.round-s3.ensures in
    let e4 = next ks s c.round-s3.result c.round-s4.result 3 e3 c.round-s4.ensures in
    let e5 = next ks s c.round-s4.result c.round-s5.result 4 e4 c.round-s5.ensures in
    let e6 = next ks s c.round-s5.result c.round-s6.result 5 e5 c.round-s6.ensures in
    let e7 = next ks s c.round-s6.result c.round-s7.result 6 e6 c.round-s7.ensures in
    let e8 = next ks s c.round-s7.result c.round-s8.result 7 e7 c.round-s8.ensures in
    let e9 = next ks s c.round-s8.result c.round-s9.result 8 e8 c.round-s9.ensures in
    ended ks a.block s c.round-s9.result c.last_round.result refl e9 c.last_round.ensures
