-- `keystream::call::stretch_call` meets its contract.
use mathlib.Core.Path.{◌≡◌, sym, ap, ◌∙◌}
use borrow.Author.Rules.{rules}
use lib.ListN.{length}
use Rattle.stretches.specs.Stretch.{Stretched}
use Rattle.keystream.proofs.Calls.{wrong-key, wrong-salt, as-arrays}
use Rattle.keystream.proofs.call.stretch_call.Goals as goal
use Rattle.keystream.proofs.call.stretch_call.Goals.{then-key-ne16, else-key-ne16}

-- number and bytes of what was given, by the definition
told : (s t : Stretched) → s ≡ t → (s.number ≡ t.number) × (s.bytes ≡ t.bytes)
told s t e = (ap (λ (u : Stretched). u.number) e, ap (λ (u : Stretched). u.bytes) e)

pub returns-then-wrong : goal.returns-then-wrong
returns-then-wrong c =
    let a = c.args in
    elim c.if-key-ne16.branch [
      | then-key-ne16 w ↦ let t = told _ _ (sym (wrong-key a.key.now a.salt.now a.ssrc a.index a.start a.buf.now w.if-key-ne16.true)) in (c.from.ensures ∙ t.0, t.1)
      | else-key-ne16 w ↦ let unequal : length a.salt.now ≡ 14 → ⊥ = search rules in
          let t = told _ _ (sym (wrong-salt a.key.now a.salt.now a.ssrc a.index a.start a.buf.now w.if-key-ne16.false unequal)) in (c.from.ensures ∙ t.0, t.1)
    ]

pub returns-in-Ok : goal.returns-in-Ok
returns-in-Ok c =
    let a = c.args in
    let k : length a.key.now ≡ 16 = search rules in
    let s : length a.salt.now ≡ 14 = search rules in
    let t = told _ _ (as-arrays a.key.now a.salt.now a.ssrc a.index a.start a.buf.now c.array.result c.array-2.result k s c.array.ensures c.array-2.ensures) in
    (c.in-Ok.ensures.0 ∙ t.0, c.in-Ok.ensures.1 ∙ t.1)

pub returns-in-Err : goal.returns-in-Err
returns-in-Err c =
    let a = c.args in
    let k : length a.key.now ≡ 16 = search rules in
    let s : length a.salt.now ≡ 14 = search rules in
    let t = told _ _ (as-arrays a.key.now a.salt.now a.ssrc a.index a.start a.buf.now c.array.result c.array-2.result k s c.array.ensures c.array-2.ensures) in
    (c.from-in-Err.ensures ∙ c.in-Err.ensures.0 ∙ t.0, c.in-Err.ensures.1 ∙ t.1)
