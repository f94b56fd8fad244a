-- `aes_begin::begin::second_round` meets its contract: the sums of the code, unpacked.
use mathlib.Core.Path.{refl, ◌∙◌}
use lib.ListN.{get_or}
use Rattle.bits.specs.Xor.{◌⊕◌}
use Rattle.aes_tables.proofs.Words.{both}
use Rattle.aes_begin.proofs.Beginning.{left, after-second}
use Rattle.aes_begin.proofs.begin.second_round.Goals as goal

pub returns : goal.returns
returns c =
    let a = c.args in
    let j0 = get_or a.begun.second 0 0 in
    let j1 = get_or a.begun.second 1 0 in
    let j2 = get_or a.begun.second 2 0 in
    let j3 = get_or a.begun.second 3 0 in
    λ t k l h e. after-second a.s l a.begun (left t k a.s l a.begun e h)
    c.unpack.result c.unpack-2.result c.unpack-3.result c.unpack-4.result
    record {
      is_c = c.unpack.ensures ∙ both (c.row.result ⊕ c.row-2.result) j0 _ _ (both c.row.result c.row-2.result _ _ c.row.ensures c.row-2.ensures) refl;
      is-d = c.unpack-2.ensures ∙ both (c.row-3.result ⊕ j1) c.row-4.result _ _ (both c.row-3.result j1 _ _ c.row-3.ensures refl) c.row-4.ensures;
      is-e = c.unpack-3.ensures ∙ both (j2 ⊕ c.row-5.result) c.row-6.result _ _ (both j2 c.row-5.result _ _ refl c.row-5.ensures) c.row-6.ensures;
      is_f = c.unpack-4.ensures ∙ both (j3 ⊕ c.row-7.result) c.row-8.result _ _ (both j3 c.row-7.result _ _ refl c.row-7.ensures) c.row-8.ensures;
    }
