-- The ring of every record that memory holds, and of every state that a call makes of it, has two blocks.
use mathlib.Core.Path.{◌≡◌, refl}
use mathlib.Core.Bool.{Bool, true, false}
use mathlib.Core.List.{List, [], ◌∷◌}
use Prim.Native.Nat.{ℕ, zero, suc, ◌<◌}
use native.Mathlib.Omega.{arith}
use lib.ListN.{length, get_or, take, replicate}
use Rattle.bits.specs.Pick.{pick}
use Rattle.memory.specs.Words.{word}
use Rattle.rtp_header.specs.Header.{seq_of}
use Rattle.replay.specs.Track.{Blocks}
use Rattle.replay.specs.Window.{blocks, width}
use Rattle.replay.proofs.Tracks.{fresh-blocks, send-blocks, receive-blocks}
use Rattle.policies.specs.declared.policy.Way.{Way}
use Rattle.policies.specs.declared.policy.Way.TheVariants.{Sending, Receiving}
use Rattle.session.specs.Session.{Record, Setup}
use Rattle.session.specs.Packets.{Effect, refuse, give}
use Rattle.session.specs.Records.{Found, none, some, is_for, record_for, free_place}
use Rattle.session.specs.Memory.{is_mark, size, records_in, decode}
use Rattle.session.specs.Places.{no_record}
use Rattle.session.proofs.Memory.{made, not_made}
use Rattle.session.proofs.Ways.{effect_by, state_by, effect-cases}
use Rattle.session.proofs.Records.{records-length, replay-blocks}

-- ---- what is found

abbrev FoundFits : Found → Type 0
FoundFits none = Unit {0}
FoundFits (some r) = Blocks blocks r.replay

picked : (b : Bool) (r : Record) (f : Found) → Blocks blocks r.replay → FoundFits f → FoundFits (pick b (some r) f)
picked true r f p q = p
picked false r f p q = q

in-records : (l : List Record) → ((i : ℕ) → i < length l → Blocks blocks (get_or l i no_record).replay) → (x : ℕ) (w : Way) → FoundFits (record_for l x w)
in-records [] f x w = tt
in-records (r ∷ l) f x w = picked (is_for r x w) r (record_for l x w) (f 0 (omega arith)) (in-records l (λ i h. f (suc i) (omega arith)) x w)

in-free : (n x : ℕ) (w : Way) → FoundFits (record_for (replicate n free_place) x w)
in-free zero x w = tt
in-free (suc n) x w = picked (is_for free_place x w) free_place (record_for (replicate n free_place) x w) (fresh-blocks blocks) (in-free n x w)

pub found-fits : (words : List ℕ) → length words ≡ size → (x : ℕ) (w : Way) → FoundFits (record_for (decode words).records x w)
found-fits words sized x w = go (is_mark (word words 0)) refl
  where
    go : (b : Bool) → is_mark (word words 0) ≡ b → FoundFits (record_for (decode words).records x w)
    go true e = rw (made words e) (in-records (records_in words) (λ i h. replay-blocks words sized i (omega (arith, records-length words))) x w)
    go false e = rw (not_made words e) (in-free 32 x w)

-- ---- what a call makes of it

abbrev pub EffectFits : Effect → Type 0
EffectFits (refuse r) = Unit {0}
EffectFits (give m b s) = Blocks blocks s

state-fits : (way : Way) (r : Record) (seq : ℕ) → Blocks blocks r.replay → Blocks blocks (state_by way r seq)
state-fits Sending r seq f = send-blocks blocks r.replay f r.rollover seq
state-fits Receiving r seq f = receive-blocks blocks r.replay f width r.rollover seq

pub effect-fits : (setup : Setup) (buf : List ℕ) (n : ℕ) (way : Way) (found : Found) → FoundFits found → EffectFits (effect_by setup buf n way found)
effect-fits setup buf n way found f =
    effect-cases setup buf n EffectFits (λ r. tt) way found (λ r e m b. state-fits way r (seq_of (take n buf)) (rw e at f))
