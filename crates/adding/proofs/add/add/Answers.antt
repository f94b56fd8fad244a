-- `adding::add::add` meets its contract.
use mathlib.Core.Path.{◌≡◌, refl, sym, ap, ap₂, ◌∙◌}
use mathlib.Core.List.{List}
use Prim.Native.Nat.{ℕ, ◌+◌}
use native.Mathlib.Omega.{arith}
use lib.ListN.{length}
use Rattle.policies.specs.declared.policy.Way.{Way}
use Rattle.session.specs.Records.{fresh_record}
use Rattle.session.specs.Calls.{way_of}
use Rattle.session.specs.Memory.{each, record_words}
use Rattle.adding.proofs.Ends.{fresh-long, add-memory, add-way, add-placed-in}
use Rattle.memory.specs.Parts.{with_part}
use Rattle.memory.proofs.Parts.{came-back}
use Rattle.adding.proofs.add.add.Goals as goal

pub returns-in_default : goal.returns-in_default
returns-in_default c = let a = c.args in rw c.from.ensures (add-memory a.session.now a.ssrc a.way a.rollover c.in_default.ensures.cases)

pub returns-in_default-way_of : goal.returns-in_default-way_of
returns-in_default-way_of c =
    let a = c.args in
    let e = c.in-Some.ensures.cases in
    rw (e.same, c.from-in_default-way_of.ensures) (add-way a.session.now a.ssrc a.way a.rollover e.long c.in_default-way_of.ensures)

pub returns-in-Ok : goal.returns-in-Ok
returns-in-Ok c =
    let a = c.args in
    let i = c.in-Ok.i in
    let e = c.in-Some.ensures.cases in
    let k = c.in-Some-way_of.ensures in
    let f = rw e.same at c.in-Ok.ensures in
    let is : c.copy_from_slice.new.self ≡ record_words (fresh_record a.ssrc (way_of a.way) a.rollover) =
    c.copy_from_slice.ensures.after ∙ c.fresh_record.ensures ∙ ap (λ (x : Way). record_words (fresh_record a.ssrc x a.rollover)) k.1 in
    let l : length c.copy_from_slice.new.self ≡ each = ap length is ∙ fresh-long a.ssrc (way_of a.way) a.rollover in
    add-placed-in a.session.now a.ssrc a.way a.rollover e.long k.0 f.1 f.2 _ (sym f.3) i refl _
    (rw e.same (came-back c.record_place-at.result (c.record_place-at.result + 8) a.session.now c.copy_from_slice.new.self (omega (arith, l)))
    ∙ ap₂ (λ (b : ℕ) (p : List ℕ). with_part b p a.session.now) c.record_place-at.ensures is)
