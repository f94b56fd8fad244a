-- A packet call in its session: what it leaves, and a protect with a result read backwards.
use Rattle.rtp_header.specs.declared.header.Layout.{Layout}
use Rattle.bits.specs.declared.refusal.Refusal.{Refusal}
use Rattle.std.specs.Prelude.{Result, Ok, Err}
use mathlib.Core.Path.{◌≡◌, refl, sym, ap}
use mathlib.Core.Bool.{Bool, true, false}
use mathlib.Core.List.{List, ◌++◌}
use Prim.Native.Nat.{ℕ, ◌≤◌}
use borrow.Author.Tests.{ltb-false}
use lib.Dec.{ltb}
use lib.ListN.{length, take, drop}
use Rattle.bits.specs.Pick.{pick}
use Rattle.bits.specs.declared.refusal.Refusal.TheVariants as refusal
use Rattle.rtp_header.specs.Header.{header_number, seq_of, ssrc_of}
use Rattle.replay.specs.State.{ReplayState}
use Rattle.replay.specs.Send.{send_of}
use Rattle.policies.specs.declared.policy.Way.{Way}
use Rattle.policies.specs.declared.policy.Way.TheVariants.{Sending}
use Rattle.policies.specs.Judging.{judged_of}
use Rattle.suites.specs.Suites.{tag_length_of}
use Rattle.wire.specs.Wire.{wire_of}
use Rattle.policies.proofs.Layouts.{apart}
use Rattle.session.specs.Session.{Record, Setup, Session}
use Rattle.session.specs.Records.{none, some, record_for}
use Rattle.session.specs.Packets.{listed_by, Effect, refuse, give, wire_length, protect_at, protect_in, protect_read, protect_effect, settled}
use Rattle.session.proofs.Ways.{effect_by, effect-cases}
use Rattle.theorems.proofs.Records.{found-other, stores-commute}

-- ---- what a call leaves

pub setup-settled : (s : Session) (buf : List ℕ) (x : ℕ) (w : Way) (e : Effect) → (settled s buf x w e).session.setup ≡ s.setup
setup-settled s buf x w (refuse r) = refl
setup-settled s buf x w (give m b t) = refl

pub answer-settled : (s t : Session) (buf : List ℕ) (x : ℕ) (w : Way) (e : Effect) → (settled s buf x w e).answer ≡ (settled t buf x w e).answer
answer-settled s t buf x w (refuse r) = refl
answer-settled s t buf x w (give m b a) = refl

module _ (x y : ℕ) (w v : Way) (differ : w ≡ v → x ≡ y → ⊥) where
  pub found-settled : (s : Session) (buf : List ℕ) (e : Effect) → record_for (settled s buf x w e).session.records y v ≡ record_for s.records y v
  found-settled s buf (refuse r) = refl
  found-settled s buf (give m b t) = found-other x y w v differ t s.records

  pub settled-commute : (s : Session) (b c : List ℕ) (d e : Effect)
      → (settled (settled s b x w d).session c y v e).session ≡ (settled (settled s c y v e).session b x w d).session
  settled-commute s b c (refuse r) (refuse q) = refl
  settled-commute s b c (refuse r) (give m f t) = refl
  settled-commute s b c (give m f t) (refuse r) = refl
  settled-commute s b c (give m f t) (give n g o) =
      ap (λ (l : List Record). record { setup = s.setup; records = l }) (stores-commute x y w v differ t o s.records)

-- ---- a protect with a result

module _ (setup : Setup) (buf : List ℕ) (n : ℕ) where
  pub record Given (r : Record) (m : ℕ) (b : List ℕ) (t : ReplayState) : Type 0 where
    pub inside : n ≤ length buf
    pub passes : header_number (judged_of Sending setup.policy (tag_length_of setup.suite) (take n buf)) ≡ 0
    pub index : ℕ
    pub step : (send_of r.replay r.rollover (seq_of (take n buf))).judged ≡ Ok index
    pub size : m ≡ wire_length setup.suite setup.policy buf n
    pub buffer : b ≡ wire_of setup.suite setup.keys setup.policy (listed_by setup) (ssrc_of (take n buf)) index (take n buf) ++ drop (wire_length setup.suite setup.policy buf n) buf
    pub state : t ≡ (send_of r.replay r.rollover (seq_of (take n buf))).state

  module _ (r : Record) (m : ℕ) (b : List ℕ) (t : ReplayState) (inside : n ≤ length buf) where
    given-at : header_number (judged_of Sending setup.policy (tag_length_of setup.suite) (take n buf)) ≡ 0
        → (j : Result ℕ Refusal) → (send_of r.replay r.rollover (seq_of (take n buf))).judged ≡ j
        → protect_at setup.suite setup.keys setup.policy (listed_by setup) buf n j (send_of r.replay r.rollover (seq_of (take n buf))).state ≡ give m b t → Given r m b t
    given-at p (Err q) e g = apart cc
    given-at p (Ok i) e g =
        let x : wire_length setup.suite setup.policy buf n ≡ m = cc in
        let y : wire_of setup.suite setup.keys setup.policy (listed_by setup) (ssrc_of (take n buf)) i (take n buf) ++ drop (wire_length setup.suite setup.policy buf n) buf ≡ b = cc in
        let z : (send_of r.replay r.rollover (seq_of (take n buf))).state ≡ t = cc in
        record { inside = inside; passes = p; index = i; step = e; size = sym x; buffer = sym y; state = sym z }

    given-in : (c : Bool) → header_number (judged_of Sending setup.policy (tag_length_of setup.suite) (take n buf)) ≡ 0
        → pick c (refuse refusal.Room) (protect_in setup.suite setup.keys setup.policy (listed_by setup) buf n (some r)) ≡ give m b t → Given r m b t
    given-in true p g = apart cc
    given-in false p g = given-at p _ refl g

    given-read : (h : Result Layout Refusal) → judged_of Sending setup.policy (tag_length_of setup.suite) (take n buf) ≡ h → protect_read setup.suite setup.keys setup.policy (listed_by setup) buf n h (some r) ≡ give m b t → Given r m b t
    given-read (Err q) e g = apart cc
    given-read (Ok h) e g = given-in (ltb (length buf) (wire_length setup.suite setup.policy buf n)) (ap header_number e) g

  given-first : (r : Record) (m : ℕ) (b : List ℕ) (t : ReplayState) (c : Bool) → ltb (length buf) n ≡ c
      → pick c (refuse refusal.Length) (protect_read setup.suite setup.keys setup.policy (listed_by setup) buf n (judged_of Sending setup.policy (tag_length_of setup.suite) (take n buf)) (some r)) ≡ give m b t → Given r m b t
  given-first r m b t true e g = apart cc
  given-first r m b t false e g = given-read r m b t (ltb-false (length buf) n e) _ refl g

  pub given : (r : Record) (m : ℕ) (b : List ℕ) (t : ReplayState) → protect_effect setup.suite setup.keys setup.policy (listed_by setup) buf n (some r) ≡ give m b t → Given r m b t
  unfolding protect_effect
  given r m b t g = given-first r m b t (ltb (length buf) n) refl g

-- without a record there is none, either way
pub none-given : (setup : Setup) (buf : List ℕ) (n : ℕ) (way : Way) (m : ℕ) (b : List ℕ) (t : ReplayState) → effect_by setup buf n way none ≡ give m b t → ⊥
none-given setup buf n way m b t = effect-cases setup buf n (λ d. d ≡ give m b t → ⊥) (λ r g. apart cc) way none (λ r e k c g. apart cc)
