-- antt computes each.
use Rattle.std.proofs.Common.{refl}
use Rattle.aes_tables.specs.Field.{◌•◌, inverse_of}
use Rattle.aes_tables.specs.Cipher.{sbox_of, round_of, last_round_of, rounds_of, cipher_of}
use Rattle.aes_tables.specs.Keys.{words_of, round_keys_of}
use Rattle.fips197.proofs.examples.worked_examples_hold.Goals as goal

pub returns : goal.returns
unfolding ◌•◌ inverse_of sbox_of words_of round_keys_of round_of last_round_of rounds_of cipher_of
returns c = record { sum = refl; product = refl; by-xtime = refl; sbox = refl; last_word = refl; cipher = refl }
