-- `aes_begin::begin::begin` meets its contract.
use mathlib.Core.Path.{ap}
use mathlib.Core.List.{List, []}
use Prim.Native.Nat.{ℕ}
use lib.ListN.{get_or}
use Rattle.aes_begin.proofs.begin.begin.Goals as goal

pub returns : goal.returns
returns c =
    let w = c.whole_columns.ensures in
    record {
      first = c.first_columns-first.ensures;
      column2 = ap (λ (x : List (List ℕ)). get_or x 0 []) w;
      column3 = ap (λ (x : List (List ℕ)). get_or x 1 []) w;
      second = c.second_columns-second.ensures;
    }
