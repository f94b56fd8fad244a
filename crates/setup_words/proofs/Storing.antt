-- The words put before zeros are the memory of a session with no stream.
use mathlib.Core.Path.{◌≡◌, refl, sym, ap, ◌∙◌}
use mathlib.Core.Bool.{true}
use mathlib.Core.List.{List, ◌++◌, append-nil, map}
use Prim.Native.Nat.{ℕ, zero, suc, ◌+◌, ◌*◌}
use native.Mathlib.Nat.{mul-suc}
use native.Mathlib.Omega.{arith}
use lib.ListN.{length, drop, replicate, length-replicate, replicate-append-replicate}
use Rattle.bits.specs.Lists.{Each}
use Rattle.memory.specs.Parts.{with_part, join}
use Rattle.replay.specs.Track.{state_words}
use Rattle.replay.specs.Window.{blocks}
use Rattle.replay.proofs.Tracks.{fresh-blocks}
use Rattle.session.specs.Session.{Setup}
use Rattle.session.specs.Records.{free_place}
use Rattle.session.specs.Memory.{each, record_words, setup_layout, setup_fields, front, size, records_words, encode, decode}
use Rattle.session.specs.RoundTrip.{RecordFits}
use Rattle.session.proofs.RoundTrip.{SetupLasts, setup-long, session-kept}
use Rattle.setup_words.specs.Steps.{Stored}
use Rattle.memory.proofs.Writing.{puts, put_all}

-- a place without a record is zeros
free-words : (n : ℕ) → records_words (replicate n free_place) ≡ replicate (each * n) 0
unfolding records_words record_words state_words
free-words zero = refl
free-words (suc n) =
    let z : each + each * n ≡ each * suc n = omega (arith, mul-suc each n) in
    ap (λ (l : List ℕ). replicate each 0 ++ l) (free-words n) ∙ replicate-append-replicate {A = ℕ} each (each * n) 0 ∙ ap (λ (k : ℕ). replicate k 0) z

free-fit : (n : ℕ) → Each RecordFits (replicate n free_place)
free-fit zero = tt
free-fit (suc n) = (record { ssrc = omega arith; rollover = omega arith; replay = fresh-blocks blocks }, free-fit n)

pub front-stored : (s : Setup) → SetupLasts s → s.made ≡ true → (words : List ℕ) → words ≡ puts setup_layout 0 (setup_fields s) (replicate front 0)
    → Stored s (with_part 0 words (replicate size 0))
unfolding encode
front-stored s l m words e =
    let sizes : map length (setup_fields s) ≡ setup_layout = rw (l.ids, l.inner.long, l.outer.long) in
    let is : words ≡ join (setup_fields s) =
    e ∙ put_all setup_layout (setup_fields s) sizes (replicate front 0) (omega (arith, length-replicate {A = ℕ} front 0))
    ∙ ap (λ (k : ℕ). join (setup_fields s) ++ drop (0 + k) (replicate front 0)) (setup-long s l) ∙ append-nil (join (setup_fields s)) in
    let laid : with_part 0 words (replicate size 0) ≡ join (setup_fields s) ++ records_words (replicate 32 free_place) =
    ap (λ (w : List ℕ). with_part 0 w (replicate size 0)) is
    ∙ ap (λ (k : ℕ). join (setup_fields s) ++ drop (0 + k) (replicate size 0)) (setup-long s l) ∙ ap (λ (r : List ℕ). join (setup_fields s) ++ r) (sym (free-words 32)) in
    record { written = laid ∙ rw m; read = ap decode laid ∙ session-kept s l (replicate 32 free_place) m refl (free-fit 32) }
