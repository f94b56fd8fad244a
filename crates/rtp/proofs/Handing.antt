-- From what was found in the block to the part of the packet that is handed back.
use Rattle.std.specs.Prelude.{Result, Ok, Err}
use mathlib.Core.Path.{◌≡◌, refl}
use mathlib.Core.List.{List}
use Prim.Native.Nat.{ℕ, ◌+◌, ◌-◌, ◌≤◌}
use native.Mathlib.Omega.{arith}
use denote.Ref.{Bor}
use lib.ListN.{length, take, drop, length-drop}
use lib.Seq.{length-take-le}
use Rattle.bits.specs.Refusals.{number_of}
use Rattle.bits.specs.declared.refusal.Refusal.{Refusal}
use Rattle.rtp_elements.specs.declared.element.Element.{Element}
use Rattle.rtp_header.specs.declared.header.Layout.{Layout}
use Rattle.rtp.specs.Finding.{located_of, Part, refused_part, part_of, find_of, HandedBack}
use Rattle.rtp_elements.specs.Numbers.{found_number}
use Rattle.rtp_header.specs.Header.{header_of, block_of}
use Rattle.rtp.specs.Steps.{Inside}
use Rattle.rtp_header.specs.Order.{Ordered}

-- an answer that is not an element is a refusal
pub refused-part : (f : Result Element Refusal) (block : ℕ) → ((e : Element) → f ≡ Ok e → ⊥) → part_of block f ≡ refused_part (found_number f)
refused-part (Ok e) block o = absurd (o e refl)
refused-part (Err r) block o = refl

module _ (p : List ℕ) (id : ℕ) where
  pub not-read : (r : Refusal) → header_of p 0 ≡ Err r → find_of p id ≡ refused_part (number_of r)
  unfolding find_of
  not-read r e = rw e

  pub read : (h : Layout) (f : Result Element Refusal) → header_of p 0 ≡ Ok h → f ≡ located_of h.tag (block_of h p) id → find_of p id ≡ part_of h.block f
  unfolding find_of
  read h f e l = rw (e, l)

pub handed : (packet r : Bor (List ℕ)) (id answer : ℕ) (part : Part) → find_of packet.now id ≡ part
    → answer ≡ part.number → part.begin + part.length ≤ length packet.now → r.now ≡ take part.length (drop part.begin packet.now)
    → r.ref_ptr.0 ≡ packet.ref_ptr.0 → r.ref_ptr.1 ≡ packet.ref_ptr.1 + part.begin
    → HandedBack packet (find_of packet.now id) answer r
handed packet r id answer part e a i b o p = rw e (record { answered = a; inside = i; bytes = b; object = o; place = p })

-- an element that ends within its block ends within the packet
pub inside-packet : (p : List ℕ) (h : Layout) (f : Result Element Refusal) (e : Element) → Ordered (length p - 0) (Ok h) → Inside (length (block_of h p)) f → f ≡ Ok e
    → h.block + e.begin + e.length ≤ length p
inside-packet p h f e o i q =
    let n : length (drop h.block p) ≡ length p - h.block = length-drop h.block p in
    let m : length (block_of h p) ≡ h.payload - h.block = length-take-le (h.payload - h.block) (drop h.block p) (omega (arith, o)) in
    let j : e.begin + e.length ≤ length (block_of h p) = rw q at i in
    omega (arith, o)
