-- `aes_rounds::round::last_round` meets its contract.
use mathlib.Core.Path.{sym, ap, ◌∙◌}
use mathlib.Core.List.{List}
use Prim.Native.Nat.{ℕ}
use Rattle.aes_tables.specs.Cipher.{add_round_key}
use Rattle.aes_tables.proofs.Rounds.{last-round-is}
use Rattle.aes_tables.proofs.Words.{cons4}
use Rattle.aes_rounds.proofs.round.last_round.Goals as goal

pub returns : goal.returns
returns c =
    c.add_round_key.ensures
    ∙ ap (λ (x : List (List ℕ)). add_round_key x c.args.k)
    (cons4 c.substitute.ensures c.substitute-2.ensures c.substitute-3.ensures c.substitute-4.ensures)
    ∙ sym (last-round-is _ _)
