-- One law for each way that add on session memory ends, from the laws of the definition.
use Rattle.std.specs.Prelude.{Option, Some, None}
use mathlib.Core.Path.{◌≡◌, refl, sym, ap, ◌∙◌}
use mathlib.Core.Bool.{Bool, true, false}
use mathlib.Core.List.{List, append-nil}
use Prim.Native.Nat.{ℕ, ◌≤◌, ◌<◌}
use native.Mathlib.Omega.{arith}
use borrow.Author.Tests.{eq-eqb, ne_eqb, lt-ltb, le-ltb}
use lib.Dec.{eqb}
use lib.ListN.{length, set, replicate}
use Rattle.bits.specs.Pick.{pick}
use Rattle.bits.specs.Refusals.{number_of, wrong_memory, wrong_way}
use Rattle.bits.specs.declared.refusal.Refusal.{Refusal}
use Rattle.bits.specs.declared.refusal.Refusal.TheVariants as refusal
use Rattle.bits.proofs.Refusals.{above_zero}
use Rattle.memory.specs.Words.{word}
use Rattle.policies.specs.declared.policy.Way.{Way}
use Rattle.replay.specs.Window.{blocks}
use Rattle.replay.proofs.Tracks.{fresh-words}
use Rattle.session.specs.Session.{Made, Session}
use Rattle.session.specs.Adding.{not_added, add_of}
use Rattle.session.specs.Calls.{way_of, Leaves, with_record_at, placed_at, added_in, add_call}
use Rattle.session.specs.Memory.{head_word, each, record_words, is_mark, size, setup_at, decode}
use Rattle.session.specs.Places.{free_from}
use Rattle.session.specs.Records.{kind_of, fresh_record, has_ssrc}
use Rattle.session.proofs.Adding.{add-unmade, add_twice, add-full, add-placed}
use Rattle.session.proofs.Memory.{made, not_made}
use Rattle.session.proofs.Places.{first-here, nowhere, free, full}

-- zeros with the head word and the rollover
pub fresh-is : (ssrc : ℕ) (way : Way) (rollover : ℕ) → set (set (replicate each 0) 0 (head_word (kind_of way) ssrc)) 1 rollover ≡ record_words (fresh_record ssrc way rollover)
unfolding record_words
fresh-is ssrc way rollover = rw (fresh-words blocks, append-nil)

pub fresh-long : (ssrc : ℕ) (way : Way) (rollover : ℕ) → length (record_words (fresh_record ssrc way rollover)) ≡ each
fresh-long ssrc way rollover = sym (ap length (fresh-is ssrc way rollover))

module _ (words : List ℕ) (ssrc way rollover : ℕ) where
  abbrev added : Made
  added = add_of (decode words) ssrc (way_of way) rollover

  pub add-memory : (length words ≡ size → ⊥) → Leaves (add_call words ssrc way rollover) wrong_memory words
  unfolding add_call
  add-memory h = rw (ne_eqb (length words) size h) (record { number = refl; words = refl })

  module _ (sized : length words ≡ size) where
    pub add-way : 1 < way → Leaves (add_call words ssrc way rollover) wrong_way words
    unfolding add_call
    add-way h = rw (eq-eqb (length words) size sized, le-ltb way 2 (omega arith)) (record { number = refl; words = refl })

    module _ (known : way ≤ 1) where
      on-memory : {r : ℕ} {memory : List ℕ} → Leaves (added_in words (fresh_record ssrc (way_of way) rollover) added) r memory → Leaves (add_call words ssrc way rollover) r memory
      unfolding add_call
      on-memory l = rw (eq-eqb (length words) size sized, lt-ltb way 2 (omega arith)) l

      refused : (q : Refusal) → added ≡ not_added (decode words) q → Leaves (add_call words ssrc way rollover) (number_of q) words
      refused q e =
          let n : added.number ≡ number_of q = ap (λ (m : Made). m.number) e in
          on-memory
          (record {
            number = sym n;
            words = sym (ap (λ (b : Bool). pick b (placed_at words (free_from 0 (decode words).records) (fresh_record ssrc (way_of way) rollover)) words)
                (ap (λ (k : ℕ). eqb k 0) n ∙ ne_eqb (number_of q) 0 (λ z. omega (arith, above_zero q))));
          })

      pub add-unmade-in : is_mark (word words 0) ≡ false → Leaves (add_call words ssrc way rollover) (number_of refusal.Keys) words
      add-unmade-in e = refused refusal.Keys (add-unmade (decode words) ssrc (way_of way) rollover (ap (λ (s : Session). s.setup.made) (not_made words e)))

      module _ (marked : is_mark (word words 0) ≡ true) where
        is_made : (decode words).setup.made ≡ true
        unfolding setup_at
        is_made = ap (λ (s : Session). s.setup.made) (made words marked)

        pub add-twice-in : has_ssrc (decode words).records ssrc ≡ true → Leaves (add_call words ssrc way rollover) (number_of refusal.Twice) words
        add-twice-in t = refused refusal.Twice (add_twice (decode words) ssrc (way_of way) rollover is_made t)

        module _ (once : has_ssrc (decode words).records ssrc ≡ false) (p : Option ℕ) (is_place : p ≡ free_from 0 (decode words).records) where
          pub add-full-in : p ≡ None → Leaves (add_call words ssrc way rollover) (number_of refusal.Full) words
          add-full-in e = refused refusal.Full (add-full (decode words) ssrc (way_of way) rollover is_made once (full (decode words).records (nowhere free 0 (decode words).records (sym is_place ∙ e)).found))

          pub add-placed-in : (i : ℕ) → p ≡ Some i → (memory : List ℕ) → memory ≡ with_record_at words i (fresh_record ssrc (way_of way) rollover)
              → Leaves (add_call words ssrc way rollover) 0 memory
          add-placed-in i e memory is =
              let f : free_from 0 (decode words).records ≡ Some i = sym is_place ∙ e in
              let n : added.number ≡ 0 =
              ap (λ (m : Made). m.number) (add-placed (decode words) ssrc (way_of way) rollover is_made once i (first-here free (decode words).records i f)) in
              on-memory (record { number = sym n; words = is ∙ sym (rw (n, f)) })
