-- `packet_form::form::raise` meets its contract.
use mathlib.Core.Path.{sym, ap, ◌∙◌}
use mathlib.Core.List.{List, ◌++◌}
use Prim.Native.Nat.{ℕ, ◌+◌}
use native.Mathlib.Omega.{arith}
use lib.ListN.{take-append-drop, drop}
use Rattle.packet_cipher.proofs.Passes.{sound-read}
use Rattle.wire.proofs.Tagging.{read, not-added, places, first_below, is-added}
use Rattle.packet_form.proofs.Shaping.{raised, not-raised}
use Rattle.packet_form.proofs.form.raise.Goals as goal

pub add_block-requires : goal.add_block-requires
add_block-requires c =
    let a = sym c.adds_block.ensures ∙ c.if-adds_block.true in
    let q = places c.requires.n_in_bounds.1.t c.args.policy c.args.buf.now c.args.n c.args.h c.requires.n_in_bounds.0 c.requires.n_in_bounds.1.judged a in
    (q.0, (q.1, (rw a at c.requires.h_in_bounds, first_below c.requires.n_in_bounds.1.t c.args.policy c.args.buf.now c.args.n c.args.h c.requires.n_in_bounds.0 c.requires.n_in_bounds.1.judged a)))

pub overflow_add-g : goal.overflow_add-g
overflow_add-g c =
    omega (arith, places c.requires.n_in_bounds.1.t c.args.policy c.args.buf.now c.args.n c.args.h c.requires.n_in_bounds.0 c.requires.n_in_bounds.1.judged (sym c.adds_block.ensures ∙ c.if-adds_block.true), c.requires.n_in_bounds.0)

pub overflow_add-g-then-adds_block : goal.overflow_add-g-then-adds_block
overflow_add-g-then-adds_block c =
    omega (arith, places c.requires.n_in_bounds.1.t c.args.policy c.args.buf.now c.args.n c.args.h c.requires.n_in_bounds.0 c.requires.n_in_bounds.1.judged (sym c.adds_block.ensures ∙ c.if-adds_block.true), c.requires.n_in_bounds.0)

pub returns-then-adds_block : goal.returns-then-adds_block
returns-then-adds_block c =
    let a = sym c.adds_block.ensures ∙ c.if-adds_block.true in
    let g = is-added c.requires.n_in_bounds.1.t c.args.policy c.args.buf.now c.args.n c.args.h c.requires.n_in_bounds.0 c.requires.n_in_bounds.1.judged a in
    record {
      length_value = rw a;
      buf_after = c.add_block.ensures ∙ ap (λ (l : List ℕ). l ++ drop (c.args.n + 4) c.args.buf.now) g;
      shaped = rw (sound-read _ _ (read c.requires.n_in_bounds.1.t c.args.policy c.args.buf.now c.args.n c.args.h c.requires.n_in_bounds.0 c.requires.n_in_bounds.1.judged)).contributors
          (raised c.args.policy c.args.buf.now c.args.n c.args.h c.requires.n_in_bounds.0 c.requires.n_in_bounds.1 a);
    }

pub returns : goal.returns
returns c =
    let a = sym c.adds_block.ensures ∙ c.if-adds_block.false in
    let g = not-added c.requires.n_in_bounds.1.t c.args.policy c.args.buf.now c.args.n c.args.h c.requires.n_in_bounds.0 c.requires.n_in_bounds.1.judged a in
    record {
      length_value = rw a (omega arith);
      buf_after = sym (take-append-drop c.args.n c.args.buf.now) ∙ ap (λ (l : List ℕ). l ++ drop c.args.n c.args.buf.now) g;
      shaped = not-raised c.args.policy c.args.buf.now c.args.n c.args.h c.requires.n_in_bounds.0 c.requires.n_in_bounds.1 a;
    }
