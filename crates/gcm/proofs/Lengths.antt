-- The tag: its length, and that it is the standard's with the subkey of the key.
use mathlib.Core.Path.{◌≡◌, ◌∙◌}
use mathlib.Core.List.{List}
use lib.ListN.{length}
use Prim.Native.Nat.{ℕ}
use Rattle.bits.specs.BigEndian.{from_bytes}
use Rattle.bits.proofs.Xor.{length-pad}
use Rattle.gcm_hash.specs.Hash.{hash_of}
use Rattle.gcm_hash.proofs.Lengths.{length-hash}
use Rattle.gcm.specs.Gctr.{gctr_stream}
use Rattle.gcm.specs.Gcm.{j0_of, tag_by, subkey_of, tag_of}

pub length-tag : (key h iv a c : List ℕ) → length (tag_by key h iv a c) ≡ 16
unfolding tag_by
length-tag key h iv a c = length-pad (gctr_stream key (j0_of iv)) (hash_of (from_bytes h) a c) ∙ length-hash (from_bytes h) a c

pub tag-by : (key h : List ℕ) → h ≡ subkey_of key → (iv a c : List ℕ) → tag_by key h iv a c ≡ tag_of key iv a c
unfolding tag_of
tag-by key h e iv a c = rw e
