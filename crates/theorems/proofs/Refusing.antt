-- Which numbers a call gives back, and which of them it gives without looking at the record.
use Rattle.std.specs.Prelude.{Result, Ok, Err}
use mathlib.Core.Path.{◌≡◌, refl, ◌∙◌}
use mathlib.Core.Bool.{Bool, true, false, not, ◌&&◌, ◌||◌}
use mathlib.Core.List.{List, [], ◌∷◌}
use Prim.Native.Nat.{ℕ, ◌+◌, ◌-◌, ◌*◌, ◌^◌}
use borrow.Author.Tests.{eqb-true}
use lib.Dec.{eqb, ltb, leb}
use lib.IntN.{ℤ, pos, negsuc}
use lib.ListN.{length, take}
use Rattle.bits.specs.Pick.{pick}
use Rattle.bits.specs.Refusals.{number_of}
use Rattle.bits.specs.declared.refusal.Refusal.{Refusal}
use Rattle.bits.specs.declared.refusal.Refusal.TheVariants.{Length, Short, Version, Header as NoHeader, Profile, Element, Large, Room, Order, Worn, Old, Repeat, Tag}
use Rattle.rtp_header.specs.declared.header.Layout.{Layout}
use Rattle.rtp_header.specs.Header.{version_of, layout_of, bounded_of, header_of, seq_of, ssrc_of}
use Rattle.rtp_elements.specs.Mask.{among}
use Rattle.replay.specs.State.{ReplayState, judge_of}
use Rattle.replay.specs.Receive.{index_for, judge_index, receive_of}
use Rattle.replay.specs.Send.{step_of, next_of, send_of}
use Rattle.replay.specs.Window.{blocks, width, seen_in}
use Rattle.policies.specs.declared.policy.Policy.{Policy}
use Rattle.policies.specs.declared.policy.Way.{Way}
use Rattle.policies.specs.declared.policy.Way.TheVariants.{Sending, Receiving}
use Rattle.policies.specs.Judging.{tail_of, profile_fits, elements_fit, size_fits, judged_after, judged_of}
use Rattle.packet_cipher.proofs.Crypting.{and_left, and_right}
use Rattle.suites.specs.Suites.{tag_length_of}
use Rattle.wire.specs.Wire.{tag_fits}
use Rattle.session.specs.Session.{Setup}
use Rattle.session.specs.Records.{Found, none, some}
use Rattle.session.specs.Packets.{listed_by, Effect, refuse, give, wire_length, protect_at, unprotect_at}
use Rattle.session.proofs.Ways.{state_by, in_by, read_by, effect_by, effect_is}
use Rattle.theorems.proofs.Records.{clash}

-- ---- numbers in a list

abbrev pub NumberIn : List ℕ → Refusal → Type 0
NumberIn l r = among l (number_of r) ≡ true

-- each number of a list is in another: a test that computes
abbrev pub within : List ℕ → List ℕ → Bool
within [] m = true
within (y ∷ l) m = among m y && within l m

pub widen : (l m : List ℕ) → within l m ≡ true → (x : ℕ) → among l x ≡ true → among m x ≡ true
widen [] m w x e = clash false e refl
widen (y ∷ l) m w x e = go (eqb x y) refl e (widen l m (and_right (among m y) (within l m) w) x)
  where
    go : (b : Bool) → eqb x y ≡ b → (b || among l x) ≡ true → (among l x ≡ true → among m x ≡ true) → among m x ≡ true
    go true q e rest = rw (eqb-true x y q) (and_left (among m y) (within l m) w)
    go false q e rest = rest e

-- ---- the parts of a call

abbrev pub HeaderIn : List ℕ → Result Layout Refusal → Type 0
HeaderIn l (Ok h) = Unit {0}
HeaderIn l (Err r) = NumberIn l r

abbrev IndexIn : List ℕ → Result ℕ Refusal → Type 0
IndexIn l (Ok i) = Unit {0}
IndexIn l (Err r) = NumberIn l r

header-by : (a b c : Bool) (h : Layout) → HeaderIn (2 ∷ 3 ∷ 4 ∷ []) (pick a (Err Short) (pick b (Err Version) (pick c (Err NoHeader) (Ok h))))
header-by true b c h = refl
header-by false true c h = refl
header-by false false true h = refl
header-by false false false h = tt

pub two-to-four : (p : List ℕ) (t : ℕ) → HeaderIn (2 ∷ 3 ∷ 4 ∷ []) (header_of p t)
unfolding header_of bounded_of
two-to-four p t = header-by (ltb (length p) (12 + t)) (not (eqb (version_of p) 2)) (ltb (length p - t) (layout_of p).payload) (layout_of p)

-- 1 to 7, which no record decides
abbrev pub early_numbers : List ℕ
early_numbers = 1 ∷ 2 ∷ 3 ∷ 4 ∷ 5 ∷ 6 ∷ 7 ∷ []

judged-by : (a b c : Bool) (h : Layout) → HeaderIn early_numbers (pick a (Err Profile) (pick b (Err Element) (pick c (Err Large) (Ok h))))
judged-by true b c h = refl
judged-by false true c h = refl
judged-by false false true h = refl
judged-by false false false h = tt

after-by : (way : Way) (policy : Policy) (t : ℕ) (p : List ℕ) (h : Result Layout Refusal) → HeaderIn (2 ∷ 3 ∷ 4 ∷ []) h → HeaderIn early_numbers (judged_after way policy t p h)
after-by way policy t p (Err r) e = widen (2 ∷ 3 ∷ 4 ∷ []) early_numbers refl (number_of r) e
after-by way policy t p (Ok h) e = judged-by (not (profile_fits way policy h)) (not (elements_fit policy h p)) (not (size_fits way policy t h p)) h

two-to-seven : (way : Way) (policy : Policy) (t : ℕ) (p : List ℕ) → HeaderIn early_numbers (judged_of way policy t p)
unfolding judged_of
two-to-seven way policy t p = after-by way policy t p (header_of p (tail_of way t)) (two-to-four p (tail_of way t))

sent-by : (a b c : Bool) (i j : ℕ) → IndexIn (10 ∷ 11 ∷ []) (pick a (pick b (Err Order) (pick c (Err Worn) (Ok i))) (Ok j))
sent-by true true c i j = refl
sent-by true false true i j = refl
sent-by true false false i j = tt
sent-by false b c i j = tt

ten-or-eleven : (s : ReplayState) (rollover seq : ℕ) → IndexIn (10 ∷ 11 ∷ []) (send_of s rollover seq).judged
unfolding send_of next_of
ten-or-eleven s rollover seq =
    sent-by s.started (not (leb 1 (step_of s.highest seq) && leb (step_of s.highest seq) 32767))
    (leb (2 ^ 48) (s.highest + step_of s.highest seq)) (s.highest + step_of s.highest seq) (rollover * 65536 + seq)

got-by : (a b c d : Bool) (i : ℕ) → IndexIn (11 ∷ 12 ∷ 13 ∷ []) (pick d (Err Worn) (pick a (pick b (Err Old) (pick c (Err Repeat) (Ok i))) (Ok i)))
got-by a b c true i = refl
got-by true true c false i = refl
got-by true false true false i = refl
got-by true false false false i = tt
got-by false b c false i = tt

index-by : (b W : ℕ) (s : ReplayState) (z : ℤ) → IndexIn (11 ∷ 12 ∷ 13 ∷ []) (judge_index b W s z)
unfolding judge_of
index-by b W s (pos i) = got-by s.started (leb (i + W) s.highest) (seen_in b s.window i) (leb (2 ^ 48) i) i
index-by b W s (negsuc n) = refl

eleven-to-thirteen : (b W : ℕ) (s : ReplayState) (rollover seq : ℕ) → IndexIn (11 ∷ 12 ∷ 13 ∷ []) (receive_of b W s rollover seq).judged
unfolding receive_of
eleven-to-thirteen b W s rollover seq = index-by b W s (index_for s rollover seq)

-- ---- a call, seen from its record

abbrev pub Refuses : List ℕ → Effect → Type 0
Refuses l (refuse r) = NumberIn l r
Refuses l (give m b t) = Unit {0}

pub refuses-within : (l m : List ℕ) → within l m ≡ true → (d : Effect) → Refuses l d → Refuses m d
refuses-within l m w (refuse r) p = widen l m w (number_of r) p
refuses-within l m w (give n b t) p = tt

-- ROOM, and what the record decides
abbrev pub late_numbers : Way → List ℕ
late_numbers Sending = 8 ∷ 9 ∷ 10 ∷ 11 ∷ []
late_numbers Receiving = 9 ∷ 11 ∷ 12 ∷ 13 ∷ 14 ∷ []

-- refused with one refusal, whatever the record
pub record Early (act : Found → Effect) : Type 0 where
  pub reason : Refusal
  pub number : NumberIn early_numbers reason
  pub refuses : (found : Found) → act found ≡ refuse reason

-- 1 to 7 are early; or the numbers are late ones
pub data Timing (late : List ℕ) (act : Found → Effect) : Type 0 where
  early : Early act → Timing late act
  later : ((found : Found) → Refuses late (act found)) → Timing late act

module _ (setup : Setup) (buf : List ℕ) (n : ℕ) where
  sent-late : (j : Result ℕ Refusal) (t : ReplayState) → IndexIn (10 ∷ 11 ∷ []) j → Refuses (late_numbers Sending) (protect_at setup.suite setup.keys setup.policy (listed_by setup) buf n j t)
  sent-late (Ok i) t e = tt
  sent-late (Err r) t e = widen (10 ∷ 11 ∷ []) (late_numbers Sending) refl (number_of r) e

  tag-late : (fits : Bool) (m : ℕ) (b : List ℕ) (t : ReplayState) → Refuses (late_numbers Receiving) (pick fits (give m b t) (refuse Tag))
  tag-late true m b t = tt
  tag-late false m b t = refl

  received-late : (j : Result ℕ Refusal) (t : ReplayState) → IndexIn (11 ∷ 12 ∷ 13 ∷ []) j → Refuses (late_numbers Receiving) (unprotect_at setup.suite setup.keys setup.policy (listed_by setup) buf n j t)
  received-late (Ok i) t e = tag-late (tag_fits setup.suite setup.keys setup.policy (ssrc_of (take n buf)) i (take n buf)) _ _ t
  received-late (Err r) t e = widen (11 ∷ 12 ∷ 13 ∷ []) (late_numbers Receiving) refl (number_of r) e

  in-late : (way : Way) (found : Found) → Refuses (late_numbers way) (in_by setup buf n way found)
  in-late Sending none = refl
  in-late Receiving none = refl
  in-late Sending (some r) =
      sent-late (send_of r.replay r.rollover (seq_of (take n buf))).judged (state_by Sending r (seq_of (take n buf))) (ten-or-eleven r.replay r.rollover (seq_of (take n buf)))
  in-late Receiving (some r) =
      received-late (receive_of blocks width r.replay r.rollover (seq_of (take n buf))).judged (state_by Receiving r (seq_of (take n buf)))
      (eleven-to-thirteen blocks width r.replay r.rollover (seq_of (take n buf)))

  room-late : (room : Bool) (found : Found) → Refuses (late_numbers Sending) (pick room (refuse Room) (in_by setup buf n Sending found))
  room-late true found = refl
  room-late false found = in-late Sending found

  read-timing : (way : Way) (h : Result Layout Refusal) → HeaderIn early_numbers h → Timing (late_numbers way) (read_by setup buf n way h)
  read-timing Sending (Err r) e = early (record { reason = r; number = e; refuses = λ found. refl })
  read-timing Receiving (Err r) e = early (record { reason = r; number = e; refuses = λ found. refl })
  read-timing Sending (Ok h) e = later (room-late (ltb (length buf) (wire_length setup.suite setup.policy buf n)))
  read-timing Receiving (Ok h) e = later (in-late Receiving)

  first-timing : (way : Way) (c : Bool) (h : Result Layout Refusal) → HeaderIn early_numbers h → Timing (late_numbers way) (λ found. pick c (refuse Length) (read_by setup buf n way h found))
  first-timing way true h e = early (record { reason = Length; number = refl; refuses = λ found. refl })
  first-timing way false h e = read-timing way h e

  pub timing : (way : Way) → Timing (late_numbers way) (effect_by setup buf n way)
  timing way = go (first-timing way (ltb (length buf) n) (judged_of way setup.policy (tag_length_of setup.suite) (take n buf)) (two-to-seven way setup.policy (tag_length_of setup.suite) (take n buf)))
    where
      go : Timing (late_numbers way) (λ found. pick (ltb (length buf) n) (refuse Length) (read_by setup buf n way (judged_of way setup.policy (tag_length_of setup.suite) (take n buf)) found))
          → Timing (late_numbers way) (effect_by setup buf n way)
      go (early e) = early (record { reason = e.reason; number = e.number; refuses = λ found. effect_is setup buf n way found ∙ e.refuses found })
      go (later l) = later (λ found. rw (effect_is setup buf n way found) (l found))
