-- The walk's next element, from any place of a block: by its bytes, and what it leaves of the elements, the ELEMENT test and the mask.
use Rattle.std.specs.Prelude.{Option, Some, None, Result, Ok, Err}
use mathlib.Core.Path.{◌≡◌, refl, sym, ap, ap₂, ◌∙◌, fun_ext}
use mathlib.Core.Bool.{Bool, true, false, not}
use mathlib.Core.List.{List, [], ◌∷◌, ◌++◌, append_assoc}
use Prim.Native.Nat.{ℕ, suc, ◌+◌, ◌-◌, ◌≤◌, ◌<◌}
use native.Mathlib.Numerals.{add-one}
use native.Mathlib.Omega.{arith}
use borrow.Author.Tests.{ne_eqb, leb-true, leb-false}
use lib.Dec.{eqb, leb}
use lib.ListN.{length, get_or, take, drop, length-append, length-drop, take-append-drop, drop_of_length-le}
use lib.Seq.{drop-cons, drop-drop, take-add, take_at, drop_at}
use Rattle.bits.specs.Pick.{pick}
use Rattle.bits.specs.Xor.{xor_pad}
use Rattle.bits.specs.declared.refusal.Refusal.{Refusal}
use Rattle.bits.specs.declared.refusal.Refusal.TheVariants as refusal
use Rattle.rtp_elements.specs.declared.element.Element.{Element}
use Rattle.rtp_elements.specs.Elements.{NextByte, Between, Length, two_byte, has_elements, start_of, data_of, opens, end_of, within, whole_from, begun_of, elements_from}
use Rattle.rtp_elements.specs.Next.{next_by, next_of}
use Rattle.rtp_elements.proofs.Walks.{masked_from, data-elements, data-end, data-cut, data-masked, ended-elements, ended-end, ended-masked, Head, head_of, none-masked}

-- ---- by the bytes, ahead of an element

abbrev ahead : Bool → ℕ → ℕ → List ℕ → Result (Option Element) Refusal
ahead two size i l = next_by size (whole_from two Between l) (elements_from two Between i l)

ahead-padding : (two : Bool) (size i x : ℕ) (l : List ℕ) → x ≡ 0 → ahead two size i (x ∷ l) ≡ ahead two size (i + 1) l
ahead-padding true size i x l e = rw e
ahead-padding false size i x l e = rw e

ahead-one : (o : Bool) (size i x : ℕ) (l : List ℕ) → opens x ≡ o → eqb x 0 ≡ false
    → next_by size true (begun_of false Between i x) ≡ ahead false size i (x ∷ l)
ahead-one true size i x l o z = simp (z, o)
ahead-one false size i x l o z = simp (z, o, ended-elements false l (i + 1), ended-end false l)

ahead-cut : (size i x : ℕ) → eqb x 0 ≡ false → Err refusal.Element ≡ ahead true size i (x ∷ [])
ahead-cut size i x z = simp z

ahead-two : (size i x n : ℕ) (l : List ℕ) → eqb x 0 ≡ false → next_by size true (begun_of true (Length x) (i + 1) n) ≡ ahead true size i (x ∷ n ∷ l)
ahead-two size i x n l z = simp z

module _ (tag : ℕ) (block : List ℕ) where
  none_here : (t : Bool) → has_elements tag ≡ t → (i : ℕ) → length block ≤ i → Ok None ≡ next_of tag block i
  unfolding next_of
  none_here true h i o = simp (h, drop_of_length-le block o)
  none_here false h i o = simp (h, drop_of_length-le block o)

  pub next-over : (i : ℕ) → length block ≤ i → Ok None ≡ next_of tag block i
  next-over i o = none_here (has_elements tag) refl i o

  pub next-none : has_elements tag ≡ false → (i : ℕ) → Ok None ≡ next_of tag block i
  unfolding next_of
  next-none h i = simp (h, ended-elements (two_byte tag) (drop i block) i, ended-end (two_byte tag) (drop i block))

  module _ (h : has_elements tag ≡ true) (i : ℕ) (b : i < length block) where
    cut : drop i block ≡ get_or block i 0 ∷ drop (i + 1) block
    cut = rw (add-one) (drop-cons block i 0 b)

    pub next-padding : get_or block i 0 ≡ 0 → next_of tag block i ≡ next_of tag block (i + 1)
    unfolding next_of
    next-padding z = rw (h, cut) (ahead-padding (two_byte tag) (length block) i (get_or block i 0) (drop (i + 1) block) z)

    module _ (z : get_or block i 0 ≡ 0 → ⊥) where
      not-zero : eqb (get_or block i 0) 0 ≡ false
      not-zero = ne_eqb (get_or block i 0) 0 z

      pub next_one : two_byte tag ≡ false → next_by (length block) true (begun_of false Between i (get_or block i 0)) ≡ next_of tag block i
      unfolding next_of
      next_one t = rw (h, t, cut) (ahead-one (opens (get_or block i 0)) (length block) i (get_or block i 0) (drop (i + 1) block) refl not-zero)

      pub next-cut : two_byte tag ≡ true → i + 1 ≡ length block → Err refusal.Element ≡ next_of tag block i
      unfolding next_of
      next-cut t e =
          let o : length block ≤ i + 1 = omega arith in
          rw (h, t, cut, drop_of_length-le block o) (ahead-cut (length block) i (get_or block i 0) not-zero)

      pub next-two : two_byte tag ≡ true → i + 1 < length block
          → next_by (length block) true (begun_of true (Length (get_or block i 0)) (i + 1) (get_or block (i + 1) 0)) ≡ next_of tag block i
      unfolding next_of
      next-two t l =
          rw (h, t, cut, drop-cons block (i + 1) 0 l)
          (ahead-two (length block) i (get_or block i 0) (get_or block (i + 1) 0) (drop (suc (i + 1)) block) not-zero)

-- ---- what an answer says of the elements

apart : {A : Type 0} → ◌≡◌ {A = ℕ} 0 1 → A
apart z = absurd (omega arith)

module _ (size : ℕ) where
  by-fit : (t : Bool) (f e : Element) → leb (f.begin + f.length) size ≡ t → pick t (Ok (Some f)) (Err refusal.Element) ≡ Ok (Some e) → (f ≡ e) × (f.begin + f.length ≤ size)
  by-fit true f e l q = (cc, leb-true (f.begin + f.length) size l)
  by-fit false f e l q = apart cc

  no-element : (w : Bool) (e : Element) → pick w (Ok None) (Err refusal.Element) ≡ Ok (Some e) → ◌≡◌ {A = ℕ} 0 1
  no-element true e q = cc
  no-element false e q = cc

  pub at_first : (w : Bool) (es : List Element) (e : Element) → next_by size w es ≡ Ok (Some e)
      → (r : List Element) × ((es ≡ e ∷ r) × (e.begin + e.length ≤ size))
  at_first w [] e q = apart (no-element w e q)
  at_first w (f ∷ r) e q =
      let s = by-fit (leb (f.begin + f.length) size) f e refl q in
      (r, (ap (λ (x : Element). x ∷ r) s.0, rw (← s.0) s.1))

  not-fitted : (t : Bool) (f : Element) → pick t (Ok (Some f)) (Err refusal.Element) ≡ Ok None → ◌≡◌ {A = ℕ} 0 1
  not-fitted true f q = cc
  not-fitted false f q = cc

  none_left : (w : Bool) → next_by size w [] ≡ Ok None → w ≡ true
  none_left true q = refl
  none_left false q = apart cc

  pub at_none : (w : Bool) (es : List Element) → next_by size w es ≡ Ok None → (es ≡ []) × (w ≡ true)
  at_none w [] q = (refl, none_left w q)
  at_none w (f ∷ r) q = apart (not-fitted (leb (f.begin + f.length) size) f q)

  some_left : (w : Bool) (r : Refusal) → next_by size w [] ≡ Err r → w ≡ false
  some_left true r q = apart cc
  some_left false r q = refl

  too_long : (t : Bool) (f : Element) (r : Refusal) → leb (f.begin + f.length) size ≡ t → pick t (Ok (Some f)) (Err refusal.Element) ≡ Err r → size < f.begin + f.length
  too_long true f r l q = apart cc
  too_long false f r l q = leb-false (f.begin + f.length) size l

  fit-refusal : (t : Bool) (a : Option Element) (r : Refusal) → pick t (Ok a) (Err refusal.Element) ≡ Err r → r ≡ refusal.Element
  fit-refusal true a r q = apart cc
  fit-refusal false a r q = cc

  -- the one refusal
  pub at-refusal : (w : Bool) (es : List Element) (r : Refusal) → next_by size w es ≡ Err r → r ≡ refusal.Element
  at-refusal w [] r q = fit-refusal w None r q
  at-refusal w (f ∷ l) r q = fit-refusal (leb (f.begin + f.length) size) (Some f) r q

  -- an element that runs past, unless one without a length does
  pub at-past : (w : Bool) (es : List Element) (r : Refusal) → next_by size w es ≡ Err r
      → ((f : Element) (l : List Element) → es ≡ f ∷ l → size < f.begin + f.length → w ≡ false) → w ≡ false
  at-past w [] r q by = some_left w r q
  at-past w (f ∷ l) r q by = by f l refl (too_long (leb (f.begin + f.length) size) f r refl q)

-- ---- what it leaves

-- the mask, still to be put on the bytes from i on
abbrev pub to_mask : (ℕ → Bool) → ℕ → (ℕ → ℕ) → List ℕ → ℕ → List ℕ
to_mask listed tag pad l i = take i l ++ masked_from listed (two_byte tag) (start_of tag) (λ k. pad (i + k)) (drop i l)

module _ (tag : ℕ) (block : List ℕ) (i : ℕ) where
  pub record Stepped (e : Element) : Type 0 where
    pub after : i < e.begin
    pub inside : e.begin + e.length ≤ length block
    pub elements : elements_from (two_byte tag) (start_of tag) i (drop i block)
        ≡ e ∷ elements_from (two_byte tag) (start_of tag) (e.begin + e.length) (drop (e.begin + e.length) block)
    pub end : end_of (two_byte tag) (start_of tag) (drop i block) ≡ end_of (two_byte tag) (start_of tag) (drop (e.begin + e.length) block)
    pub masked : (listed : ℕ → Bool) (pad : ℕ → ℕ)
        → to_mask listed tag pad block i
        ≡ take e.begin block
        ++ (xor_pad (λ k. pick (listed e.id) (pad (e.begin + k)) 0) (take e.length (drop e.begin block))
        ++ masked_from listed (two_byte tag) (start_of tag) (λ k. pad (e.begin + e.length + k)) (drop (e.begin + e.length) block))

  module _ (e : Element) (h : Head (two_byte tag) (drop i block) i e) where
    back_is : h.back ≡ drop e.begin block
    back_is =
        sym (drop_at h.front h.back (length h.front) refl) ∙ ap (drop (length h.front)) (sym h.joined)
        ∙ drop-drop (length h.front) i block ∙ ap (λ (k : ℕ). drop k block) (sym h.begins)

    front-is : take i block ++ h.front ≡ take e.begin block
    front-is =
        ap (λ (f : List ℕ). take i block ++ f) (sym (take_at h.front h.back (length h.front) refl) ∙ ap (take (length h.front)) (sym h.joined))
        ∙ sym (take-add i (length h.front) block) ∙ ap (λ (k : ℕ). take k block) (sym h.begins)

    module _ (fits : e.begin + e.length ≤ length block) where
      room : e.length ≤ length (drop e.begin block)
      room = let n : length (drop e.begin block) ≡ length block - e.begin = length-drop e.begin block in omega arith

      on : drop e.length (drop e.begin block) ≡ drop (e.begin + e.length) block
      on = drop-drop e.length e.begin block

      shift : (pad : ℕ → ℕ) → ◌≡◌ {A = ℕ → ℕ} (λ k. pad (i + (length h.front + k))) (λ k. pad (e.begin + k))
      shift pad = fun_ext (λ k. ap pad (omega (arith, h.begins)))

      shift-on : (pad : ℕ → ℕ) → ◌≡◌ {A = ℕ → ℕ} (λ k. pad (e.begin + (e.length + k))) (λ k. pad (e.begin + e.length + k))
      shift-on pad = fun_ext (λ k. ap pad (omega arith))

      stepped : has_elements tag ≡ true → Stepped e
      stepped t =
          record {
            after = omega (arith, h.begins, h.some);
            inside = fits;
            elements = rw t (h.elements ∙ ap (λ (r : List Element). e ∷ r) (rw back_is (data-elements (two_byte tag) e.id e.length (drop e.begin block) e.begin room ∙ rw on)));
            end = rw t (h.end ∙ rw back_is (data-end (two_byte tag) e.id e.length (drop e.begin block) room ∙ rw on));
            masked =
                λ listed pad.
                rw t
                (ap (λ (r : List ℕ). take i block ++ r) (h.masked listed (λ k. pad (i + k)))
                ∙ sym (append_assoc (take i block) h.front (masked_from listed (two_byte tag) (data_of e.id e.length) (λ k. pad (i + (length h.front + k))) h.back))
                ∙ ap₂ (λ (f r : List ℕ). f ++ r) front-is
                (ap₂ (λ (g : ℕ → ℕ) (r : List ℕ). masked_from listed (two_byte tag) (data_of e.id e.length) g r) (shift pad) back_is
                ∙ data-masked (two_byte tag) listed e.id e.length (λ k. pad (e.begin + k)) (drop e.begin block) room
                ∙ ap₂ (λ (g : ℕ → ℕ) (r : List ℕ). xor_pad (λ k. pick (listed e.id) (pad (e.begin + k)) 0) (take e.length (drop e.begin block)) ++ masked_from listed (two_byte tag) Between g r) (shift-on pad) on));
          }

    cut_short : length block < e.begin + e.length → whole_from (two_byte tag) Between (drop i block) ≡ false
    cut_short long =
        let n : length (drop i block) ≡ length block - i = length-drop i block in
        let m : length (drop i block) ≡ length h.front + length h.back = ap length h.joined ∙ length-append h.front h.back in
        ap (λ (p : NextByte). not (within p)) h.end ∙ ap not (data-cut (two_byte tag) e.id e.length h.back (omega (arith, h.begins, h.some)))

  pub record Over : Type 0 where
    pub elements : elements_from (two_byte tag) (start_of tag) i (drop i block) ≡ []
    pub whole : whole_from (two_byte tag) (start_of tag) (drop i block) ≡ true
    pub masked : (listed : ℕ → Bool) (pad : ℕ → ℕ) → to_mask listed tag pad block i ≡ block

  over : (t : Bool) → has_elements tag ≡ t → next_of tag block i ≡ Ok None → Over
  unfolding next_of
  over true t q =
      let s = at_none (length block) (whole_from (two_byte tag) Between (drop i block)) (elements_from (two_byte tag) Between i (drop i block)) (rw t at q) in
      record {
        elements = rw t s.0;
        whole = rw t s.1;
        masked =
            λ listed pad.
            rw t
            (ap (λ (r : List ℕ). take i block ++ r) (none-masked (two_byte tag) listed (λ k. pad (i + k)) (drop i block) i s.0) ∙ take-append-drop i block);
      }
  over false t q =
      record {
        elements = rw t (ended-elements (two_byte tag) (drop i block) i);
        whole = rw t (ap (λ (p : NextByte). not (within p)) (ended-end (two_byte tag) (drop i block)));
        masked =
            λ listed pad.
            rw t (ap (λ (r : List ℕ). take i block ++ r) (ended-masked (two_byte tag) listed (λ k. pad (i + k)) (drop i block)) ∙ take-append-drop i block);
      }

  at : (t : Bool) → has_elements tag ≡ t → (e : Element) → next_of tag block i ≡ Ok (Some e) → Stepped e
  unfolding next_of
  at true t e q =
      let s = at_first (length block) (whole_from (two_byte tag) Between (drop i block)) (elements_from (two_byte tag) Between i (drop i block)) e (rw t at q) in
      stepped e (head_of (two_byte tag) (drop i block) i e s.0 s.1.0) s.1.1 t
  at false t e q = let n : ◌≡◌ {A = Result (Option Element) Refusal} (Ok None) (Ok (Some e)) = next-none tag block t i ∙ q in apart cc

  past : (t : Bool) → has_elements tag ≡ t → (r : Refusal) → next_of tag block i ≡ Err r → whole_from (two_byte tag) (start_of tag) (drop i block) ≡ false
  unfolding next_of
  past true t r q =
      rw t
      (at-past (length block) (whole_from (two_byte tag) Between (drop i block)) (elements_from (two_byte tag) Between i (drop i block)) r (rw t at q)
      (λ f l s long. cut_short f (head_of (two_byte tag) (drop i block) i f l s) long))
  past false t r q = let n : ◌≡◌ {A = Result (Option Element) Refusal} (Ok None) (Err r) = next-none tag block t i ∙ q in apart cc

  pub next-at : (e : Element) → next_of tag block i ≡ Ok (Some e) → Stepped e
  next-at e q = at (has_elements tag) refl e q

  pub next-absent : next_of tag block i ≡ Ok None → Over
  next-absent q = over (has_elements tag) refl q

  pub next_past : (r : Refusal) → next_of tag block i ≡ Err r → whole_from (two_byte tag) (start_of tag) (drop i block) ≡ false
  next_past r q = past (has_elements tag) refl r q

  pub next-refusal : (r : Refusal) → next_of tag block i ≡ Err r → r ≡ refusal.Element
  unfolding next_of
  next-refusal r q =
      at-refusal (length block) (whole_from (two_byte tag) (start_of tag) (drop i block)) (elements_from (two_byte tag) (start_of tag) i (drop i block)) r q
