-- `setup_words::words::front_words` meets its contract.
use mathlib.Core.Path.{◌≡◌, refl, sym, ap₂, subst}
use mathlib.Core.List.{List, [], ◌∷◌}
use Prim.Native.Nat.{ℕ, ◌+◌, ◌*◌}
use native.Mathlib.Omega.{arith}
use lib.ListN.{length, replicate}
use Rattle.memory.specs.Parts.{place_in}
use Rattle.memory.specs.Words.{Lasts}
use Rattle.memory.proofs.Parts.{stored}
use Rattle.memory.proofs.Writing.{then}
use Rattle.session.specs.Memory.{front, mark, setup_layout, the_mark, the_key, the_salt, the_ids, the_cipher, the_own_salt, the_header_cipher, the_header_salt, the_inner, the_outer, the_hash}
use Rattle.session.proofs.Making.{policy-number}
use Rattle.setup_words.specs.Steps.{setup_with}
use Rattle.setup_words.proofs.Storing.{front-stored}
use borrow.Author.Rules.{rules}
use Rattle.setup_words.proofs.words.front_words.Goals as goal

sized : (n : ℕ) (l : List ℕ) → length l ≡ n → Lasts (length l) l → Lasts n l
sized n l e h = subst (λ (k : ℕ). Lasts k l) e h

pub returns : goal.returns
returns c =
    let a = c.args in
    let n : length a.ids ≡ 4 = search rules in
    front-stored (setup_with a.suite a.policy a.key a.salt a.ids a.keys)
    (record {
      key = sized 16 a.key (search rules) c.halves.ensures.lasts;
      salt = sized 14 a.salt (search rules) c.halves-2.ensures.lasts;
      ids = n;
      cipher = sized 16 a.keys.cipher (search rules) c.halves-3.ensures.lasts;
      own-salt = sized 14 a.keys.salt (search rules) c.halves-4.ensures.lasts;
      header-cipher = sized 16 a.keys.header_cipher (search rules) c.halves-5.ensures.lasts;
      header-salt = sized 14 a.keys.header_salt (search rules) c.halves-6.ensures.lasts;
      inner = c.wide.ensures.numbers5;
      outer = c.wide-2.ensures.numbers5;
      hash = sized 16 a.keys.hash (search rules) c.halves-7.ensures.lasts;
    }) refl _
    (then (place_in setup_layout the_hash) c.put-10.ensures c.halves-7.ensures.value
    (then (place_in setup_layout the_outer) c.put-9.ensures c.wide-2.ensures.value
    (then (place_in setup_layout the_inner) c.put-8.ensures c.wide.ensures.value
    (then (place_in setup_layout the_header_salt) c.put-7.ensures c.halves-6.ensures.value
    (then (place_in setup_layout the_header_cipher) c.put-6.ensures c.halves-5.ensures.value
    (then (place_in setup_layout the_own_salt) c.put-5.ensures c.halves-4.ensures.value
    (then (place_in setup_layout the_cipher) c.put-4.ensures c.halves-3.ensures.value
    (then (place_in setup_layout the_ids) {p = a.ids} c.put-3.ensures refl
    (then (place_in setup_layout the_salt) c.put-2.ensures c.halves-2.ensures.value
    (then (place_in setup_layout the_key) c.put.ensures c.halves.ensures.value
    (then (place_in setup_layout the_mark) {before = replicate front 0} (stored (replicate front 0) 0 (mark + (a.policy + 4 * c.from.result)) (omega arith)) (ap₂ (λ (p q : ℕ). (mark + (p + 4 * q)) ∷ []) (sym (policy-number a.policy c.requires)) c.from.ensures.0) refl)))))))))))
