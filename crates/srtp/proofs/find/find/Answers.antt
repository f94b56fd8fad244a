-- `srtp::find::find` meets its contract.
use mathlib.Core.Path.{sym, ap, ◌∙◌}
use Prim.Native.Nat.{ℕ, ◌-◌}
use native.Mathlib.Omega.{arith}
use Rattle.rtp.specs.Finding.{Part as Located, located_of}
use Rattle.rtp_header.specs.Header.{header_number}
use Rattle.rtp.proofs.Handing.{refused-part, not-read, read, inside-packet}
use Rattle.srtp.specs.declared.find.Part.{Part}
use Rattle.srtp.proofs.Asking.{asked, part_bytes}
use Rattle.srtp.proofs.find.find.Goals as goal

-- the part, as the call returns it
abbrev found : Located → Part
found x = record { number = x.number; begin = x.begin; length = x.length }

pub returns-in_default : goal.returns-in_default
returns-in_default c =
    let p = c.args.packet.now in
    let id = c.args.id in
    let r = c.in_default.is in
    c.no_part.ensures
    ∙ ap (λ (k : ℕ). record { number = k; begin = 0; length = 0 }) (c.header_number.ensures ∙ ap header_number r)
    ∙ sym (ap found (not-read p id _ (sym c.read_header-header.ensures.value ∙ r)))

pub slice_bounds-locate-count : goal.slice_bounds-locate-count
slice_bounds-locate-count c =
    let o = rw c.in-Ok.is at c.read_header-header.ensures.ordered in o.1.1.0

pub slice_bounds-locate-start : goal.slice_bounds-locate-start
slice_bounds-locate-start c =
    let o = rw c.in-Ok.is at c.read_header-header.ensures.ordered in omega (arith, o)

pub slice_bounds-locate-end : goal.slice_bounds-locate-end
slice_bounds-locate-end c =
    let o = rw c.in-Ok.is at c.read_header-header.ensures.ordered in omega (arith, o)

pub returns-in_default-found : goal.returns-in_default-found
returns-in_default-found c =
    let p = c.args.packet.now in
    let id = c.args.id in
    let bytes = part_bytes c.in-Ok.layout.block (c.in-Ok.layout.payload - c.in-Ok.layout.block) p (λ k. (c.shared_slice_known-1.given k).fits) in
    let f = c.locate-found.result in
    c.no_part-in_default-found.ensures
    ∙ ap (λ (k : ℕ). record { number = k; begin = 0; length = 0 }) c.found_number.ensures
    ∙ sym (ap found (read p id c.in-Ok.layout f (sym c.read_header-header.ensures.value ∙ c.in-Ok.is) (c.locate-found.ensures.value ∙ ap (located_of _ _) c.asked_id.ensures ∙ asked _ _ bytes id) ∙ refused-part f _ c.in_default-found.not-Ok))

pub overflow_add-result : goal.overflow_add-result
overflow_add-result c =
    let p = c.args.packet.now in
    let id = c.args.id in
    omega (arith, inside-packet p c.in-Ok.layout _ _ (rw c.in-Ok.is at c.read_header-header.ensures.ordered) c.locate-found.ensures.inside c.in-Ok-found.is)

pub returns : goal.returns
returns c =
    let p = c.args.packet.now in
    let id = c.args.id in
    let bytes = part_bytes c.in-Ok.layout.block (c.in-Ok.layout.payload - c.in-Ok.layout.block) p (λ k. (c.shared_slice_known-1.given k).fits) in
    sym (ap found (read p id c.in-Ok.layout _ (sym c.read_header-header.ensures.value ∙ c.in-Ok.is) (sym c.in-Ok-found.is ∙ (c.locate-found.ensures.value ∙ ap (located_of _ _) c.asked_id.ensures ∙ asked _ _ bytes id))))
