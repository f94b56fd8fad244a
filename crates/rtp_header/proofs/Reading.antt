-- What the header reader answers at each of its ends.
use Rattle.rtp_header.specs.declared.header.Layout.{Layout}
use Rattle.std.specs.Prelude.{Result, Ok, Err}
use mathlib.Core.Path.{◌≡◌, ap, ◌∙◌}
use mathlib.Core.Bool.{Bool, true, false, not}
use mathlib.Core.List.{List, [], ◌∷◌}
use Prim.Native.Nat.{ℕ, ◌+◌, ◌-◌, ◌*◌, ◌/◌, ◌≤◌, ◌<◌}
use native.Mathlib.Omega.{arith}
use borrow.Author.Tests.{lt-ltb, le-ltb}
use lib.Dec.{eqb, ltb}
use lib.ListN.{length, get_or}
use Rattle.bits.specs.BigEndian.{from_bytes}
use Rattle.bits.specs.Pick.{pick}
use Rattle.bits.specs.declared.refusal.Refusal.{Refusal}
use Rattle.bits.specs.declared.refusal.Refusal.TheVariants as refusal
use Rattle.rtp_header.specs.Header.{version_of, has_extension, past_contributors, field16, layout_by, layout_of, bounded_of, header_of}

module _ (p : List ℕ) (t : ℕ) where
  pub is-short : length p < 12 + t → Err refusal.Short ≡ header_of p t
  unfolding header_of
  is-short h = simp (lt-ltb (length p) (12 + t) h)

  pub other-version : 12 + t ≤ length p → eqb (get_or p 0 0 / 64) 2 ≡ false → Err refusal.Version ≡ header_of p t
  unfolding header_of
  other-version long v = simp (le-ltb (length p) (12 + t) long, v)

  pub right-version : 12 + t ≤ length p → eqb (get_or p 0 0 / 64) 2 ≡ true → bounded_of p (length p - t) ≡ header_of p t
  unfolding header_of
  right-version long v = simp (le-ltb (length p) (12 + t) long, v)

-- P of the answer: of every refusal, and of the packet's layout
module _ (P : Result Layout Refusal → Type 0) (refused : (r : Refusal) → P (Err r)) where
  picked : (b : Bool) (r : Refusal) (h : Result Layout Refusal) → P h → P (pick b (Err r) h)
  picked true r h d = refused r
  picked false r h d = d

  pub header-cases : (p : List ℕ) (t : ℕ) → P (Ok (layout_of p)) → P (header_of p t)
  unfolding header_of bounded_of
  header-cases p t d =
      picked (ltb (length p) (12 + t)) refusal.Short _
      (picked (not (eqb (version_of p) 2)) refusal.Version _ (picked (ltb (length p - t) (layout_of p).payload) refusal.Header _ d))

module _ (p : List ℕ) (end : ℕ) where
  past : (x : Bool) → has_extension p ≡ x → end < (layout_by x p).payload → Err refusal.Header ≡ bounded_of p end
  unfolding bounded_of layout_of
  past x e h = simp (e, lt-ltb end (layout_by x p).payload h)

  inside : (x : Bool) → has_extension p ≡ x → (layout_by x p).payload ≤ end → Ok (layout_by x p) ≡ bounded_of p end
  unfolding bounded_of layout_of
  inside x e h = simp (e, le-ltb end (layout_by x p).payload h)

  -- h is the layout without an extension
  module _ (h : Layout) (e : h ≡ layout_by false p) where
    -- X = 0
    module _ (x : has_extension p ≡ false) where
      pub contributors-past : end < h.extension → Err refusal.Header ≡ bounded_of p end
      contributors-past b = past false x (rw e at b)

      pub plain : h.extension ≤ end → Ok h ≡ bounded_of p end
      plain b = rw e (inside false x (rw e at b))

    -- X = 1: the extension's tag and its length in words are read after the contributing sources
    module _ (x : has_extension p ≡ true) where
      pub extension-past : end < h.extension + 4 → Err refusal.Header ≡ bounded_of p end
      extension-past b = let l : end < past_contributors p + 4 = rw e at b in past true x (omega arith)

      module _ (tag words : ℕ) (et : tag ≡ field16 p h.extension) (ew : words ≡ from_bytes (get_or p (h.extension + 2) 0 ∷ get_or p (h.extension + 3) 0 ∷ [])) where
        tag-read : tag ≡ field16 p (past_contributors p)
        tag-read = rw e at et

        words-read : words ≡ field16 p (past_contributors p + 2)
        words-read =
            ew ∙ ap (λ (k : ℕ). from_bytes (get_or p (h.extension + 2) 0 ∷ get_or p k 0 ∷ [])) (omega arith)
            ∙ ap (λ (k : Layout). field16 p (k.extension + 2)) e

        pub block-past : end < h.extension + 4 + 4 * words → Err refusal.Header ≡ bounded_of p end
        block-past b = let w = words-read in let l : end < past_contributors p + 4 + 4 * words = rw e at b in past true x (omega arith)

        pub extended : h.extension + 4 + 4 * words ≤ end
            → Ok (record { cc = h.cc; x = true; tag = tag; contributors = h.contributors; extension = h.extension; block = h.extension + 4; payload = h.extension + 4 + 4 * words })
            ≡ bounded_of p end
        extended b =
            let w = words-read in
            let l : past_contributors p + 4 + 4 * words ≤ end = rw e at b in
            rw (e, w, tag-read) (inside true x (omega arith))
