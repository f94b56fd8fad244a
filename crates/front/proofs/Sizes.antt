-- The memory's size first, and then what the front of a session answers.
use Rattle.std.specs.Prelude.{Result, Ok, Err}
use mathlib.Core.Path.{◌≡◌, sym, ap, ◌∙◌}
use mathlib.Core.Bool.{Bool}
use mathlib.Core.List.{List}
use Prim.Native.Nat.{ℕ}
use borrow.Author.Tests.{eq-eqb, ne_eqb}
use lib.ListN.{length}
use Rattle.bits.specs.Pick.{pick}
use Rattle.bits.specs.declared.refusal.Border.{Border}
use Rattle.bits.specs.declared.refusal.Border.TheVariants as border
use Rattle.bits.specs.declared.refusal.Refusal.{Refusal}
use Rattle.policies.specs.declared.policy.Way.{Way}
use Rattle.session.specs.Memory.{size}
use Rattle.front.specs.declared.open.Opened.{Opened}
use Rattle.front.specs.Opening.{opened_by, in_session_of, open_of}

module _ (way : Way) (words buf : List ℕ) (n : ℕ) where
  abbrev by_size : Bool → Result Opened Border
  by_size b = pick b (Ok (opened_by (in_session_of way words buf n))) (Err border.Memory)

  pub other-size : (length words ≡ size → ⊥) → Err border.Memory ≡ open_of way words buf n
  unfolding open_of
  other-size h = sym (ap by_size (ne_eqb (length words) size h))

  pub right-size : length words ≡ size → (j : Result Opened Refusal) → j ≡ in_session_of way words buf n → Ok (opened_by j) ≡ open_of way words buf n
  unfolding open_of
  right-size e j q = ap (λ (o : Result Opened Refusal). Ok (opened_by o)) q ∙ sym (ap by_size (eq-eqb (length words) size e))
