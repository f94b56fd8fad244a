-- `making::make::make` meets its contract.
use mathlib.Core.Path.{◌≡◌, refl, sym, ap, ◌∙◌}
use Prim.Native.Nat.{ℕ}
use native.Mathlib.Omega.{arith}
use lib.ListN.{length, replicate}
use mathlib.Core.List.{List}
use Rattle.memory.specs.Parts.{with_part}
use Rattle.memory.proofs.Parts.{came-back}
use Rattle.session.specs.Memory.{front}
use Rattle.suites.specs.Suites.{suite_of}
use Rattle.bits.specs.Refusals.{number_of}
use Rattle.making.proofs.Making.{make-memory, make-suite, make-refused-in, make-made-in}
use borrow.Author.Rules.{rules}
use Rattle.making.proofs.make.make.Goals as goal

pub returns-then-session-ne-SIZE-clause-leaves : goal.returns-then-session-ne-SIZE-clause-leaves
returns-then-session-ne-SIZE-clause-leaves c =
    let a = c.args in rw c.from.ensures (make-memory a.session.now a.key.now a.salt.now a.policy a.ids.now a.suite c.if-session-ne-SIZE.true)

pub returns-then-unknown-clause-leaves : goal.returns-then-unknown-clause-leaves
returns-then-unknown-clause-leaves c =
    let a = c.args in rw c.from-then-unknown.ensures (make-suite a.session.now a.key.now a.salt.now a.policy a.ids.now a.suite c.if-session-ne-SIZE.false c.if-unknown.true)

pub returns-in-Err : goal.returns-in-Err
returns-in-Err c =
    let a = c.args in
    let i : c.from-in-Err.result ≡ number_of c.in-Err.refusal = search rules in
    let w = make-refused-in a.session.now a.key.now a.salt.now a.policy a.ids.now a.suite c.if-session-ne-SIZE.false (omega (arith, c.if-unknown.false)) _ (c.from-suite.ensures ∙ ap suite_of c.from-2.ensures) c.from-in-Err.result
    (i ∙ sym c.in-Err.ensures.0) (λ e. absurd (omega (arith, i, e, c.in-Err.ensures.1))) _ (c.fill.ensures.after (λ y e. e)) in
    record { leaves = w.0; session_after = λ e h. w.1 }

pub returns : goal.returns
returns c =
    let a = c.args in
    let l : length c.front_words-front.result ≡ front = search rules in
    let w = make-made-in a.session.now a.key.now a.salt.now a.policy a.ids.now a.suite c.if-session-ne-SIZE.false (omega (arith, c.if-unknown.false)) _ (c.from-suite.ensures ∙ ap suite_of c.from-2.ensures) 0 (sym c.in_default.ensures) refl c.front_words-front.result c.fill.new.self _
    c.front_words-front.ensures c.array-key.ensures c.filled-salt.ensures c.flags.ensures c.session_keys-keys.ensures
    (came-back 0 front c.fill.new.self c.copy_from_slice.new.self (omega (arith, l, ap length c.copy_from_slice.ensures.after)) ∙ ap (λ (r : List ℕ). with_part 0 r c.fill.new.self) c.copy_from_slice.ensures.after)
    (c.fill.ensures.after (λ y e. e) ∙ ap (λ (k : ℕ). replicate k 0) c.if-session-ne-SIZE.false) in
    record { leaves = w.0; session_after = λ e h. w.1 }
