-- `aes_shared::columns::whole_columns` meets its contract.
use mathlib.Core.Path.{sym, ap, ◌∙◌}
use mathlib.Core.List.{List, []}
use Prim.Native.Nat.{ℕ}
use lib.ListN.{get_or}
use Rattle.aes_tables.proofs.Rounds.{round_is}
use Rattle.aes_tables.proofs.Words.{cons2}
use Rattle.aes_shared.proofs.columns.whole_columns.Goals as goal

pub returns : goal.returns
returns c =
    let e = sym (round_is c.args.s c.args.k) in
    cons2 (c.round_column.ensures ∙ ap (λ (x : List (List ℕ)). get_or x 2 []) e) (c.round_column-2.ensures ∙ ap (λ (x : List (List ℕ)). get_or x 3 []) e)
