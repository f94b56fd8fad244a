-- `rtp::find::find` meets its contract.
use mathlib.Core.Path.{refl, sym, ap, ◌∙◌}
use native.Mathlib.Nat.{add-sub_cancel_left}
use native.Mathlib.Omega.{arith}
use Rattle.rtp_header.specs.Header.{header_number}
use Rattle.rtp.proofs.Handing.{refused-part, not-read, read, handed, inside-packet}
use Rattle.rtp.proofs.find.find.Goals as goal

pub returns-in_default : goal.returns-in_default
returns-in_default c =
    let packet = c.args.packet in
    let r = c.in_default.is in
    handed packet _ _ _ _ (not-read packet.now _ _ (sym c.read_header-header.ensures.value ∙ r)) (c.header_number.ensures ∙ ap header_number r) (omega arith) refl refl (omega arith)

pub slice_bounds-locate-count : goal.slice_bounds-locate-count
slice_bounds-locate-count c = let o = rw c.in-Ok.is at c.read_header-header.ensures.ordered in o.1.1.0

pub slice_bounds-locate-start : goal.slice_bounds-locate-start
slice_bounds-locate-start c = let o = rw c.in-Ok.is at c.read_header-header.ensures.ordered in omega (arith, o)

pub slice_bounds-locate-end : goal.slice_bounds-locate-end
slice_bounds-locate-end c = let o = rw c.in-Ok.is at c.read_header-header.ensures.ordered in omega (arith, o)

pub returns-in_default-found : goal.returns-in_default-found
returns-in_default-found c =
    let packet = c.args.packet in
    let f = c.locate-found.result in
    handed packet _ _ _ _ (read packet.now _ _ f (sym c.read_header-header.ensures.value ∙ c.in-Ok.is) c.locate-found.ensures.value ∙ refused-part f _ c.in_default-found.not-Ok) c.found_number.ensures (omega arith) refl refl (omega arith)

pub overflow_add-begin : goal.overflow_add-begin
overflow_add-begin c = omega (arith, inside-packet c.args.packet.now c.in-Ok.layout _ _ (rw c.in-Ok.is at c.read_header-header.ensures.ordered) c.locate-found.ensures.inside c.in-Ok-found.is)

pub overflow_add-result : goal.overflow_add-result
overflow_add-result c = omega (arith, inside-packet c.args.packet.now c.in-Ok.layout _ _ (rw c.in-Ok.is at c.read_header-header.ensures.ordered) c.locate-found.ensures.inside c.in-Ok-found.is)

pub slice_bounds-result-end-2 : goal.slice_bounds-result-end-2
slice_bounds-result-end-2 c = omega (arith, inside-packet c.args.packet.now c.in-Ok.layout _ _ (rw c.in-Ok.is at c.read_header-header.ensures.ordered) c.locate-found.ensures.inside c.in-Ok-found.is)

pub returns : goal.returns
returns c =
    let packet = c.args.packet in
    handed packet _ _ _ _
    (read packet.now _ _ _ (sym c.read_header-header.ensures.value ∙ c.in-Ok.is) (sym c.in-Ok-found.is ∙ c.locate-found.ensures.value))
    refl (inside-packet c.args.packet.now c.in-Ok.layout _ _ (rw c.in-Ok.is at c.read_header-header.ensures.ordered) c.locate-found.ensures.inside c.in-Ok-found.is) (rw (add-sub_cancel_left _ _)) refl (omega arith)
