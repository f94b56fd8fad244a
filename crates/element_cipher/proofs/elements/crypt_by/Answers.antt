-- `element_cipher::elements::crypt_by` meets its contract.
use Rattle.std.specs.Prelude.{Ok}
use mathlib.Core.Path.{refl, sym, ap, ◌∙◌}
use native.Mathlib.Omega.{arith}
use Rattle.rtp_elements.specs.declared.element.Element.{Element}
use Rattle.aes.specs.Blocks.{byte_from}
use Rattle.aes_keystream.proofs.Walks.{fresh}
use Rattle.rtp_elements.proofs.Stepping.{Stepped, next-at}
use Rattle.element_cipher.proofs.Masking.{masking-start, masking-end, masking-ok, masking-over, masking-next, stretched-element}
use Rattle.element_cipher.proofs.elements.crypt_by.Goals as goal

pub loop-element-init : goal.loop-element-init
loop-element-init c = (masking-start _ _ _ _ c.requires.block_value.0, (omega arith, fresh _ _ _ 0 refl))

pub unwrap-requires : goal.unwrap-requires
unwrap-requires c = rw c.next.ensures (masking-ok _ _ _ _ _ _ c.loop-element.invariant.0)

pub overflow_add-end : goal.overflow_add-end
overflow_add-end c =
    let s = next-at _ _ _ _ (sym c.next.ensures ∙ c.unwrap.ensures ∙ ap Ok c.in-Some.is) in
    omega (arith, s.inside, c.loop-element.invariant.0.size)

pub crypt_element-t-requires : goal.crypt_element-t-requires
crypt_element-t-requires c =
    let element : Element = c.in-Some.element in
    let stepped : Stepped (c).args.tag c.loop-element.block c.loop-element.i element = next-at _ _ _ _ (sym c.next.ensures ∙ c.unwrap.ensures ∙ ap Ok c.in-Some.is) in
    let p = c.requires in
    let s = stepped in
    let v = c.loop-element.invariant in
    record { at_le_begin = (omega (arith, s.after, v.1.0), (omega arith, (s.inside, omega (arith, v.0.size, p.block_value.1)))); holds = v.1.1 }

pub loop-element-smaller-then-is_listed : goal.loop-element-smaller-then-is_listed
loop-element-smaller-then-is_listed c =
    let element : Element = c.in-Some.element in
    let stepped : Stepped (c).args.tag c.loop-element.block c.loop-element.i element = next-at _ _ _ _ (sym c.next.ensures ∙ c.unwrap.ensures ∙ ap Ok c.in-Some.is) in
    let s = stepped in
    omega (arith, s.inside, s.after, c.loop-element.invariant.0.size)

pub loop-element-preserved-then-is_listed : goal.loop-element-preserved-then-is_listed
loop-element-preserved-then-is_listed c =
    let element : Element = c.in-Some.element in
    let stepped : Stepped (c).args.tag c.loop-element.block c.loop-element.i element = next-at _ _ _ _ (sym c.next.ensures ∙ c.unwrap.ensures ∙ ap Ok c.in-Some.is) in
    let x = c.crypt_element-t in
    let e = element in
    let a = c.args in
    let stream = byte_from a.blocks.now.cipher.key a.blocks.now.block in (
      masking-next _ _ _ _ _ _ _ c.loop-element.invariant.0 stepped (sym c.is_listed.ensures ∙ c.if-is_listed.true) _ refl _
          (stretched-element stream c.loop-element.block e.begin e.length _ stepped.inside x.ensures.block_after),
      (omega (arith, x.ensures.at_value.0), x.ensures.at_value.1),
    )

pub loop-element-smaller : goal.loop-element-smaller
loop-element-smaller c =
    let element : Element = c.in-Some.element in
    let stepped : Stepped (c).args.tag c.loop-element.block c.loop-element.i element = next-at _ _ _ _ (sym c.next.ensures ∙ c.unwrap.ensures ∙ ap Ok c.in-Some.is) in
    let s = stepped in
    omega (arith, s.inside, s.after, c.loop-element.invariant.0.size)

pub loop-element-preserved : goal.loop-element-preserved
loop-element-preserved c =
    let element : Element = c.in-Some.element in
    let stepped : Stepped (c).args.tag c.loop-element.block c.loop-element.i element = next-at _ _ _ _ (sym c.next.ensures ∙ c.unwrap.ensures ∙ ap Ok c.in-Some.is) in
    let s = stepped in
    (masking-over _ _ _ _ _ _ _ c.loop-element.invariant.0 s (sym c.is_listed.ensures ∙ c.if-is_listed.false), (omega (arith, s.after, c.loop-element.invariant.1.0), c.loop-element.invariant.1.1))

pub shape_of-block : goal.shape_of-block
shape_of-block c = c.loop-element.invariant.0.size

pub returns : goal.returns
returns c = masking-end _ _ _ _ _ _ c.loop-element.invariant.0 (sym c.next.ensures ∙ c.unwrap.ensures ∙ ap Ok c.in_default.is)
