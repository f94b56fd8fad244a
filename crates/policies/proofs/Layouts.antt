-- Laws of a packet's layout, which is total: it has a value for every list of bytes.
use mathlib.Core.Path.{◌≡◌, refl}
use mathlib.Core.Bool.{Bool, true, false}
use mathlib.Core.List.{List}
use Prim.Native.Nat.{ℕ, ◌+◌, ◌*◌, ◌≤◌, ◌<◌}
use native.Mathlib.Omega.{arith}
use lib.ListN.{get_or}
use Rattle.rtp_header.specs.declared.header.Layout.{Layout}
use Rattle.rtp_header.specs.Header.{has_extension, count_of, past_contributors, layout_by, layout_of}
use Rattle.rtp_claims.proofs.Alike.{header-alone}

pub apart : {A : Type 0} → ◌≡◌ {A = ℕ} 0 1 → A
apart z = absurd (omega arith)

-- the parts stand in order
pub record Sound (h : Layout) : Type 0 where
  pub contributors : h.contributors ≡ 12
  pub count : h.extension ≡ 12 + 4 * h.cc
  pub near : h.extension ≤ 72
  pub block : h.extension ≤ h.block
  pub payload : h.block ≤ h.payload
  pub four : h.x ≡ true → h.block ≡ h.extension + 4
  pub none : h.x ≡ false → h.payload ≡ h.extension

sound-by : (t : Bool) (p : List ℕ) → Sound (layout_by t p)
sound-by true p =
    record {
      contributors = refl;
      count = refl;
      near = omega arith;
      block = omega arith;
      payload = omega arith;
      four = λ e. refl;
      none = λ e. apart cc;
    }
sound-by false p =
    record {
      contributors = refl;
      count = refl;
      near = omega arith;
      block = omega arith;
      payload = omega arith;
      four = λ e. apart cc;
      none = λ e. refl;
    }

pub sound : (p : List ℕ) → Sound (layout_of p)
unfolding layout_of
sound p = sound-by (has_extension p) p

x-by : (t : Bool) (p : List ℕ) → (layout_by t p).x ≡ t
x-by true p = refl
x-by false p = refl

count_by : (t : Bool) (p : List ℕ) → (layout_by t p).cc ≡ count_of p
count_by true p = refl
count_by false p = refl

past_by : (t : Bool) (p : List ℕ) → (layout_by t p).extension ≡ past_contributors p
past_by true p = refl
past_by false p = refl

pub layout-x : (p : List ℕ) → (layout_of p).x ≡ has_extension p
unfolding layout_of
layout-x p = x-by (has_extension p) p

pub layout-count : (p : List ℕ) → (layout_of p).cc ≡ count_of p
unfolding layout_of
layout-count p = count_by (has_extension p) p

pub layout-extension : (p : List ℕ) → (layout_of p).extension ≡ past_contributors p
unfolding layout_of
layout-extension p = past_by (has_extension p) p

pub with-x : (p : List ℕ) → has_extension p ≡ true → layout_of p ≡ layout_by true p
unfolding layout_of
with-x p x = rw x

pub without-x : (p : List ℕ) → has_extension p ≡ false → layout_of p ≡ layout_by false p
unfolding layout_of
without-x p x = rw x

-- it depends on the first byte and, with X = 1, on the four bytes of the extension header
pub layout-same : (p q : List ℕ) → get_or q 0 0 ≡ get_or p 0 0
    → ((layout_of p).x ≡ true → (i : ℕ) → (layout_of p).extension ≤ i → i < (layout_of p).extension + 4 → get_or q i 0 ≡ get_or p i 0)
    → layout_of q ≡ layout_of p
layout-same p q e h =
    header-alone.layout p q
    (record { version = rw e; x = rw e; cc = rw e; extension = λ x. rw (layout-x p, layout-extension p) at h x })
