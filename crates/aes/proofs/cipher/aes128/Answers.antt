-- `aes::cipher::aes128` meets its contract: the round keys are those of the key.
use mathlib.Core.Path.{ap, subst, ◌∙◌}
use mathlib.Core.List.{List, []}
use Prim.Native.Nat.{ℕ}
use lib.ListN.{get_or}
use Rattle.aes_tables.specs.Cipher.{cipher_of}
use Rattle.aes_begin.specs.Steps.{Begins}
use Rattle.aes.proofs.cipher.aes128.Goals as goal

pub encrypt-requires : goal.encrypt-requires
encrypt-requires c =
    let ks = c.expand-keys.result in
    subst (λ (s : List (List ℕ)). Begins s (get_or ks 1 []) (get_or ks 2 []) c.begin-begun.result) c.add_round_key.ensures c.begin-begun.ensures

pub returns : goal.returns
returns c = c.encrypt.ensures ∙ ap (cipher_of c.args.block) c.expand-keys.ensures
