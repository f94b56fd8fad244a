-- `adding::add::place_for` meets its contract.
use Rattle.std.specs.Prelude.{Option, Some, None, Result, MatchResult, ok_or}
use mathlib.Core.Path.{◌≡◌, refl, sym, ◌∙◌}
use mathlib.Core.Bool.{true, false}
use mathlib.Core.List.{List}
use Prim.Native.Nat.{ℕ, ◌<◌, ◌≤◌}
use lib.ListN.{length}
use borrow.Author.Rules.{rules}
use Rattle.bits.specs.Refusals.{number_of}
use Rattle.bits.specs.declared.refusal.Refusal.{Refusal}
use Rattle.bits.specs.declared.refusal.Refusal.TheVariants as refusal
use Rattle.memory.specs.Words.{word}
use Rattle.session.specs.Calls.{Leaves, add_call}
use Rattle.session.specs.Memory.{size, is_mark, decode}
use Rattle.session.specs.Places.{Inside, free_from}
use Rattle.session.specs.Records.{has_ssrc}
use Rattle.adding.proofs.Ends.{add-unmade-in, add-twice-in, add-full-in}
use Rattle.adding.proofs.add.place_for.Goals as goal

pub returns-then-not-is_made : goal.returns-then-not-is_made
returns-then-not-is_made c way rollover known =
    add-unmade-in c.args.session.now c.args.ssrc way rollover (search rules) known (sym c.is_made.ensures ∙ c.if-not-is_made.true)

pub returns-then-has_ssrc : goal.returns-then-has_ssrc
returns-then-has_ssrc c way rollover known =
    add-twice-in c.args.session.now c.args.ssrc way rollover (search rules) known (sym c.is_made.ensures ∙ c.if-not-is_made.false) (sym c.has_ssrc.ensures ∙ c.if-has_ssrc.true)

abbrev Placed : List ℕ → ℕ → Result ℕ Refusal → Type 0
Placed w x r =
    MatchResult r (λ i. (i < 32) × (is_mark (word w 0) ≡ true) × (has_ssrc (decode w).records x ≡ false) × (free_from 0 (decode w).records ≡ Some i))
    (λ q. (way rollover : ℕ) → way ≤ 1 → Leaves (add_call w x way rollover) (number_of q) w)

placed : (w : List ℕ) → length w ≡ size → (x : ℕ) → is_mark (word w 0) ≡ true → has_ssrc (decode w).records x ≡ false
    → (p : Option ℕ) → p ≡ free_from 0 (decode w).records → Inside p → (r : Result ℕ Refusal) → r ≡ ok_or p refusal.Full → Placed w x r
placed w sized x m once None e t r f = rw f (λ way rollover known. add-full-in w x way rollover sized known m once None e refl)
placed w sized x m once (Some i) e t r f = rw f (t, m, once, sym e)

pub returns : goal.returns
returns c =
    placed c.args.session.now (search rules) c.args.ssrc (sym c.is_made.ensures ∙ c.if-not-is_made.false) (sym c.has_ssrc.ensures ∙ c.if-has_ssrc.false)
    c.free_place.result c.free_place.ensures.value c.free_place.ensures.inside c.ok_or.result c.ok_or.ensures.value
