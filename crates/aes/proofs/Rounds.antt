-- The chain of the rounds.
use mathlib.Core.Path.{◌≡◌, sym, ap, subst, ◌∙◌}
use mathlib.Core.List.{List, []}
use Prim.Native.Nat.{ℕ, suc}
use lib.ListN.{get_or}
use Rattle.aes_tables.specs.Cipher.{add_round_key, round_of, last_round_of, rounds_of, cipher_of}
use Rattle.aes_tables.proofs.Rounds.{rounds-none, rounds-next, cipher-is}
use Rattle.aes_begin.specs.declared.begin.Begun.{Begun}
use Rattle.aes_begin.specs.Steps.{Begins}

-- one round more
pub next : (ks : List (List (List ℕ))) (s t u : List (List ℕ)) (n : ℕ) → t ≡ rounds_of s ks n → u ≡ round_of t (get_or ks (suc n) []) → u ≡ rounds_of s ks (suc n)
next ks s t u n e f = f ∙ ap (λ (x : List (List ℕ)). round_of x (get_or ks (suc n) [])) e ∙ sym (rounds-next s ks n)

-- the first two rounds, of a state that was begun
pub begun : (ks : List (List (List ℕ))) (s t u v : List (List ℕ)) (b : Begun) → t ≡ s → Begins s (get_or ks 1 []) (get_or ks 2 []) b
    → (Begins t (get_or ks 1 []) (get_or ks 2 []) b → u ≡ round_of t (get_or ks 1 []))
    → (Begins t (get_or ks 1 []) (get_or ks 2 []) b → u ≡ round_of t (get_or ks 1 []) → v ≡ round_of u (get_or ks 2 []))
    → v ≡ rounds_of s ks 2
begun ks s t u v b e h f g =
    let j = subst (λ (x : List (List ℕ)). Begins x (get_or ks 1 []) (get_or ks 2 []) b) (sym e) h in
    next ks s u v 1 (next ks s t u 0 (e ∙ sym (rounds-none s ks)) (f j)) (g j (f j))

-- nine rounds from the first AddRoundKey, and the last
pub ended : (ks : List (List (List ℕ))) (block s t r : List (List ℕ)) → s ≡ add_round_key block (get_or ks 0 []) → t ≡ rounds_of s ks 9
    → r ≡ last_round_of t (get_or ks 10 []) → r ≡ cipher_of block ks
ended ks block s t r e f g =
    g ∙ ap (λ (x : List (List ℕ)). last_round_of x (get_or ks 10 [])) (f ∙ ap (λ (x : List (List ℕ)). rounds_of x ks 9) e) ∙ sym (cipher-is block ks)
