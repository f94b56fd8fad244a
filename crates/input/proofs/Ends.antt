-- How a line's end is found and taken off: by its last byte, and by how much was read.
use Rattle.std.proofs.Common.{◌≡◌, ◌≢◌, ℕ, zero, suc, ◌+◌, ◌-◌, ◌^◌, ◌<◌, ◌≤◌, min, Bool, true, false, nat_eq, eqb, cond, List, [], ◌∷◌, ◌++◌, All, None, Some, IfSome, Bor, length, take, refl, sym, ap, subst, ◌∙◌, arith, slice_index, take_all, zero-le}
use mathlib.Core.Logic.{◌⊎◌, inl, inr}
use Rattle.std.specs.declared.option.Option.{Option}
use Rattle.std.specs.Option.{option_copied, option_eq, option_map}
use Rattle.std.specs.List.{slice_get}
use Rattle.std.specs.Io.{StopsAt}
use Rattle.std.specs.Io.BufRead.{take_through, ends_with_byte, strip_last}
use Rattle.std.proofs.Transfers.{All-of_StopsAt}
use Rattle.std.proofs.lemmas.Bool.{cases_lt}
use Rattle.std.proofs.lemmas.List.Elements.{All-nil}
use Rattle.std.proofs.lemmas.Option.{slice_get_within, get_or_from_slice_get, slice_get-get_or}
use Rattle.std.proofs.lemmas.Bool.Decides.{nat_tests}
use Rattle.std.proofs.lemmas.Grind.{get_or_default_zero}
use Rattle.input.specs.Lines.{next_line_of}

-- the last byte, compared with a line feed
pub last-feed : (xs : List ℕ) (last : Option (Bor ℕ)) (feed : Bor ℕ) → feed.now ≡ 10 → option_copied last ≡ slice_get xs (length xs - 1)
    → option_eq (λ (x : Bor ℕ) (y : Bor ℕ). nat_eq x.now y.now) last (Some feed) ≡ ends_with_byte 10 xs
last-feed [] None feed ten is = refl
last-feed [] (Some x) feed ten is = absurd (omega (arith, slice_get_within [] 0 x.now (sym is)))
last-feed (x ∷ xs) None feed ten is = let there = is ∙ slice_get-get_or (x ∷ xs) (length (x ∷ xs) - 1) 0 (omega arith) in cc
last-feed (x ∷ xs) (Some y) feed ten is =
    let l = get_or_from_slice_get (x ∷ xs) (length (x ∷ xs) - 1) y.now 0 (sym is) in
    let n : 0 < length (x ∷ xs) = omega arith in
    rw (ten, l) (grind (arith, nat_tests))

-- what is read up to a line feed has none once the last one is off
pub without-feed : (xs : List ℕ) → StopsAt xs 10 → All (λ b. b ≢ 10) (strip_last 10 xs)
without-feed [] stops = All-nil (λ b. b ≢ 10)
without-feed (x ∷ xs) stops = by (ends_with_byte 10 (x ∷ xs)) refl
  where
    by : (t : Bool) → ends_with_byte 10 (x ∷ xs) ≡ t → All (λ b. b ≢ 10) (cond t (take (length (x ∷ xs) - 1) (x ∷ xs)) (x ∷ xs))
    by true e = stops
    by false e =
        let n = length (x ∷ xs) in
        let last : slice_index (x ∷ xs) (n - 1) ≢ 10 = λ h. grind (arith, nat_tests, h, e) in
        All-of_StopsAt (x ∷ xs) 10 n (slice_index (x ∷ xs) (n - 1)) refl (omega arith) (sym (get_or_default_zero (x ∷ xs) (n - 1) _ (omega arith))) last stops

-- a limit that was not reached is none
unlimited : (b n k : ℕ) (xs : List ℕ) → n ≤ k → length (take_through b (take n xs)) < n → take_through b (take n xs) ≡ take_through b (take k xs)
unlimited b zero k xs le short = absurd (omega arith)
unlimited b (suc n) zero xs le short = absurd (omega arith)
unlimited b (suc n) (suc k) [] le short = refl
unlimited b (suc n) (suc k) (x ∷ xs) le short = by (unlimited b n k xs (omega arith)) (eqb x b) short
  where
    by : (length (take_through b (take n xs)) < n → take_through b (take n xs) ≡ take_through b (take k xs)) → (t : Bool)
        → length (cond t (x ∷ []) (x ∷ take_through b (take n xs))) < suc n
        → cond t (x ∷ []) (x ∷ take_through b (take n xs)) ≡ cond t (x ∷ []) (x ∷ take_through b (take k xs))
    by next true h = refl
    by next false h = ap (λ l. x ∷ l) (next (omega arith))

-- the limit is one more than `most`, but for the largest number, which no line reaches
limit-met : (most limit : ℕ) (xs ls : List ℕ) → limit ≡ min (most + 1) (2 ^ 64 - 1) → length ls < 2 ^ 64 - 1 → ls ≡ take_through 10 (take limit xs)
    → ls ≡ take_through 10 (take (most + 1) xs)
limit-met most limit xs ls is short read = by (cases_lt most (2 ^ 64 - 1))
  where
    by : (most < 2 ^ 64 - 1) ⊎ (2 ^ 64 - 1 ≤ most) → ls ≡ take_through 10 (take (most + 1) xs)
    by (inl h) = let e : limit ≡ most + 1 = omega arith in read ∙ ap (λ n. take_through 10 (take n xs)) e
    by (inr h) = read ∙ unlimited 10 limit (most + 1) xs (omega arith) (omega (arith, ap length read))

-- what is answered of known bytes, of which `old ++ ..` is what the buffer holds
pub line-known : (a : Option (List ℕ)) (most limit : ℕ) (old ls : List ℕ) (next : Option (Bor (List ℕ))) → limit ≡ min (most + 1) (2 ^ 64 - 1)
    → length ls < 2 ^ 64 - 1 → old ≡ [] → IfSome (option_map (take limit) a) (λ xs. ls ≡ old ++ take_through 10 xs)
    → (length ls ≡ 0 → next ≡ None) → (0 < length ls → option_copied next ≡ Some (strip_last 10 ls)) → IfSome a (λ bytes. option_copied next ≡ next_line_of most bytes)
line-known None most limit old ls next is short empty read none some = tt
line-known (Some []) most limit old ls next is short empty read none some =
    let nothing = read ∙ ap (λ l. l ++ take_through 10 (take limit [])) empty ∙ ap (take_through 10) (take_all limit [] zero-le) in
    ap option_copied (none (ap length nothing))
line-known (Some (x ∷ xs)) most limit old ls next is short empty read none some =
    let whole = limit-met most limit (x ∷ xs) ls is short (read ∙ ap (λ l. l ++ take_through 10 (take limit (x ∷ xs))) empty) in
    some (begun most xs ls whole) ∙ ap (λ l. Some (strip_last 10 l)) whole
  where
    some-byte : (t : Bool) (l : List ℕ) → 0 < length (cond t (x ∷ []) (x ∷ l))
    some-byte true l = omega arith
    some-byte false l = omega arith

    begun : (most : ℕ) (xs ls : List ℕ) → ls ≡ take_through 10 (take (most + 1) (x ∷ xs)) → 0 < length ls
    begun most xs ls whole =
        let one : most + 1 ≡ suc most = omega arith in
        subst (λ l. 0 < length l) (sym (whole ∙ ap (λ n. take_through 10 (take n (x ∷ xs))) one)) (some-byte (eqb x 10) (take_through 10 (take most xs)))
