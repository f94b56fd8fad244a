-- Demand 1: one answer, and a refusal changes nothing.
use Rattle.rtp_header.specs.declared.header.Layout.{Layout}
use Rattle.bits.specs.declared.refusal.Refusal.{Refusal}
use Rattle.std.specs.Prelude.{Result, Ok, Err}
use mathlib.Core.Path.{◌≡◌, refl}
use mathlib.Core.Bool.{Bool, true, false}
use mathlib.Core.List.{List, [], ◌∷◌}
use Prim.Native.Nat.{ℕ, ◌≤◌}
use borrow.Author.Tests.{eq-eqb, le-ltb}
use lib.Dec.{eqb}
use lib.ListN.{length, take}
use Rattle.bits.specs.Refusals.{number_of}
use Rattle.bits.specs.Pick.{pick}
use Rattle.bits.specs.declared.refusal.Refusal.TheVariants as refusal
use Rattle.rtp_elements.specs.Elements.{whole_of, elements_of}
use Rattle.rtp_elements.specs.Mask.{among}
use Rattle.rtp_elements.specs.declared.element.Element.{Element}
use Rattle.rtp.specs.Finding.{first_with, located_of, Part, part_of, found_in, find_of}
use Rattle.rtp_header.specs.Header.{block_of, header_of, ssrc_of}
use Rattle.policies.specs.declared.policy.Way.{Way}
use Rattle.policies.specs.declared.policy.Way.TheVariants.{Sending, Receiving}
use Rattle.session.specs.Session.{Setup, Session}
use Rattle.session.specs.Records.{Found, record_for}
use Rattle.suites.specs.declared.suite.Suite.{Suite}
use Rattle.suites.specs.Suites.{salt_length_of, last_policy_of}
use Rattle.session.specs.Making.{unmade, session_of, make_of}
use Rattle.session.specs.Adding.{add_of}
use Rattle.session.specs.Packets.{Effect, refuse, give, Outcome, settled}
use Rattle.session.proofs.Making.{make-cases}
use Rattle.session.proofs.Adding.{add-cases}
use Rattle.session.proofs.Ways.{effect_by, outcome_by, done_by, outcome-is}
use Rattle.theorems.specs.Answers.{numbers_for, buffer_of, Settled, OneAnswerEach}
use Rattle.theorems.specs.Lists.{End, Call, add, protect, unprotect, add_outcome, outcome_of}
use Rattle.theorems.proofs.Refusing.{within, widen, HeaderIn, two-to-four, early_numbers, late_numbers, Refuses, refuses-within, Timing, early, later, timing}

-- ---- refused, and not

refused : (s : Session) (c : Call) (k : ℕ) → among (numbers_for c) k ≡ true → Settled s c (record { answer = record { number = k; length = 0; buffer = buffer_of c }; session = s })
refused s c k p = record { number = p; length = λ z. refl; buffer = λ z. refl; session = λ z. refl }

gave : (s : Session) (c : Call) (o : Outcome) → o.answer.number ≡ 0 → among (numbers_for c) 0 ≡ true → Settled s c o
gave s c o z p = record { number = rw z p; length = λ f. absurd (f z); buffer = λ f. absurd (f z); session = λ f. absurd (f z) }

-- ---- protect and unprotect

abbrev packet_call : Way → End → List ℕ → ℕ → Call
packet_call Sending e buf n = protect e buf n
packet_call Receiving e buf n = unprotect e buf n

module _ (e : End) (buf : List ℕ) (n : ℕ) where
  abbrev numbers : Way → List ℕ
  numbers way = numbers_for (packet_call way e buf n)

  early-among : (way : Way) → within early_numbers (numbers way) ≡ true
  early-among Sending = refl
  early-among Receiving = refl

  late-among : (way : Way) → within (late_numbers way) (numbers way) ≡ true
  late-among Sending = refl
  late-among Receiving = refl

  number-among : (h : Setup) (way : Way) (found : Found) → Timing (late_numbers way) (effect_by h buf n way) → Refuses (numbers way) (effect_by h buf n way found)
  number-among h way found (early f) = rw (f.refuses found) (widen early_numbers (numbers way) (early-among way) (number_of f.reason) f.number)
  number-among h way found (later f) = refuses-within (late_numbers way) (numbers way) (late-among way) (effect_by h buf n way found) (f found)

  packet-settled : (way : Way) (s : Session) (d : Effect) → Refuses (numbers way) d → Settled s (packet_call way e buf n) (settled s buf (ssrc_of (take n buf)) way d)
  packet-settled Sending s (refuse r) p = refused s (protect e buf n) (number_of r) p
  packet-settled Receiving s (refuse r) p = refused s (unprotect e buf n) (number_of r) p
  packet-settled Sending s (give m b t) p = gave s (protect e buf n) _ refl refl
  packet-settled Receiving s (give m b t) p = gave s (unprotect e buf n) _ refl refl

  packet-answered : (way : Way) (s : Session) → Settled s (packet_call way e buf n) (outcome_by way s buf n)
  packet-answered way s =
      rw (outcome-is way s buf n)
      (packet-settled way s (done_by way s buf n) (number-among s.setup way (record_for s.records (ssrc_of (take n buf)) way) (timing s.setup buf n way)))

-- ---- add

add-settled : (s : Session) (e : End) (x : ℕ) (w : Way) (rollover : ℕ) → Settled s (add e x w rollover) (add_outcome (add_of s x w rollover))
add-settled s e x w rollover =
    add-cases s x w rollover (λ m. Settled s (add e x w rollover) (add_outcome m))
    (λ r n. refused s (add e x w rollover) (number_of r) (widen (15 ∷ 17 ∷ 18 ∷ []) (numbers_for (add e x w rollover)) refl (number_of r) n))
    (λ m h f. gave s (add e x w rollover) _ refl refl)

answered : (s : Session) (c : Call) → Settled s c (outcome_of s c)
answered s (add e x w rollover) = add-settled s e x w rollover
answered s (protect e buf n) = packet-answered e buf n Sending s
answered s (unprotect e buf n) = packet-answered e buf n Receiving s

-- ---- find

record Finds (p : Part) : Type 0 where
  number : among (0 ∷ 2 ∷ 3 ∷ 4 ∷ 6 ∷ 19 ∷ []) p.number ≡ true
  none : (p.number ≡ 0 → ⊥) → p.length ≡ 0

first-finds : (block id : ℕ) (es : List Element) → Finds (part_of block (first_with id es))
first-finds block id [] = record { number = refl; none = λ z. refl }
first-finds block id (e ∷ es) = by-match (eqb e.id id) (first-finds block id es)
  where
    by-match : (t : Bool) → Finds (part_of block (first_with id es)) → Finds (part_of block (pick t (Ok e) (first_with id es)))
    by-match true h = record { number = refl; none = λ z. absurd (z refl) }
    by-match false h = h

located-finds : (begin tag : ℕ) (block : List ℕ) (id : ℕ) → Finds (part_of begin (located_of tag block id))
unfolding located_of
located-finds begin tag block id = by-whole (whole_of tag block) (first-finds begin id (elements_of tag block))
  where
    found : Result Element Refusal
    found = first_with id (elements_of tag block)

    by-whole : (w : Bool) → Finds (part_of begin found) → Finds (part_of begin (pick w found (Err refusal.Element)))
    by-whole true h = h
    by-whole false h = record { number = refl; none = λ z. refl }

in-finds : (p : List ℕ) (id : ℕ) (h : Result Layout Refusal) → HeaderIn (2 ∷ 3 ∷ 4 ∷ []) h → Finds (found_in p id h)
in-finds p id (Err r) e = record { number = widen (2 ∷ 3 ∷ 4 ∷ []) (0 ∷ 2 ∷ 3 ∷ 4 ∷ 6 ∷ 19 ∷ []) refl (number_of r) e; none = λ z. refl }
in-finds p id (Ok h) e = located-finds h.block h.tag (block_of h p) id

finds : (p : List ℕ) (id : ℕ) → Finds (find_of p id)
unfolding find_of
finds p id = in-finds p id (header_of p 0) (two-to-four p 0)

-- ---- make

made-number : (suite : Suite) (key salt : List ℕ) (policy : ℕ) (ids : List ℕ) → among (0 ∷ 15 ∷ 16 ∷ []) (make_of suite key salt policy ids).number ≡ true
made-number suite key salt policy ids =
    make-cases suite key salt policy ids (λ m. among (0 ∷ 15 ∷ 16 ∷ []) m.number ≡ true) (λ r n. widen (15 ∷ 16 ∷ []) (0 ∷ 15 ∷ 16 ∷ []) refl (number_of r) n) (λ l. refl)

made-taken : (suite : Suite) (key salt : List ℕ) (policy : ℕ) (ids : List ℕ) → length key ≡ 16 → length salt ≡ salt_length_of suite → policy ≤ last_policy_of suite
    → (make_of suite key salt policy ids).number ≡ 0
unfolding make_of
made-taken suite key salt policy ids k s p = rw (eq-eqb (length key) 16 k, eq-eqb (length salt) (salt_length_of suite) s, le-ltb (last_policy_of suite) policy p)

made-refused : (suite : Suite) (key salt : List ℕ) (policy : ℕ) (ids : List ℕ) → ((make_of suite key salt policy ids).number ≡ 0 → ⊥) → (make_of suite key salt policy ids).session ≡ session_of unmade
made-refused suite key salt policy ids = make-cases suite key salt policy ids (λ m. (m.number ≡ 0 → ⊥) → m.session ≡ session_of unmade) (λ r n z. refl) (λ l z. absurd (z refl))

pub one-answer-each : OneAnswerEach
unfolding add_of
one-answer-each =
    record {
      calls = answered;
      find-number = λ p id. (finds p id).number;
      find-refused = λ p id. (finds p id).none;
      number = made-number;
      taken = made-taken;
      refused = made-refused;
      no_stream = λ s e ssrc way rollover. rw e;
    }
