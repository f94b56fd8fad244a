-- Document 02, CR 6: the keystream part as a call, on a key and a salt of any length.
use Rattle.std.specs.Prelude.{◌&&◌, List, ℕ, eqb, length}
use Rattle.bits.specs.Pick.{pick}
use Rattle.bits.specs.Refusals.{wrong_sizes}
use Rattle.stretches.specs.Stretch.{Stretched}
use Rattle.keystream.specs.Stretch.{stretch_of}

-- A key that is not 16 bytes, or a salt that is not 14, is refused before LARGE is asked, and the buffer stays as it is.
unfoldable pub stretch_call : List ℕ → List ℕ → ℕ → ℕ → ℕ → List ℕ → Stretched
stretch_call key salt ssrc index start l =
    pick (eqb (length key) 16 && eqb (length salt) 14)
    (stretch_of key salt ssrc index start l)
    (record { number = wrong_sizes; bytes = l })
