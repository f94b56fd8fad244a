-- `aes_begin::begin::first_round` meets its contract: the sums of the code, unpacked.
use mathlib.Core.Path.{refl, ◌∙◌}
use lib.ListN.{get_or}
use Rattle.aes_tables.proofs.Words.{both}
use Rattle.aes_begin.proofs.Beginning.{after_first}
use Rattle.aes_begin.proofs.begin.first_round.Goals as goal

pub returns : goal.returns
returns c =
    let a = c.args in
    λ k l h. after_first a.s k l a.begun h c.unpack.result c.unpack-2.result
    (c.unpack.ensures ∙ both (get_or a.begun.first 0 0) c.row.result _ _ refl c.row.ensures)
    (c.unpack-2.ensures ∙ both (get_or a.begun.first 1 0) c.row-2.result _ _ refl c.row-2.ensures)
