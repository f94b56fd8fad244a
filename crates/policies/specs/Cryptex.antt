-- RFC 9335, section 5: the header of a packet under Cryptex, on sending (5.1) and receiving (5.2).
use Rattle.std.specs.Prelude.{Bool, not, ◌&&◌, ◌||◌, List, ◌∷◌, ◌++◌, ℕ, ◌+◌, ◌/◌, ◌%◌, eqb, ltb, get_or, set, take, drop}
use Rattle.bits.specs.Pick.{pick}
use Rattle.rtp_header.specs.declared.header.Layout.{Layout}
use Rattle.rtp_header.specs.Header.{layout_of}
use Rattle.policies.specs.declared.policy.Policy.{Policy}
use Rattle.policies.specs.Policies.{uses_cryptex}

-- ---- the empty block

-- "If the packet contains CSRCs but no header extensions, an empty extension block .. MUST be appended"
abbrev pub adds_block : Policy → Layout → Bool
adds_block policy h = uses_cryptex policy && (not h.x && ltb 0 h.cc)

-- an empty block at a place, in its plain form BEDE 0000, and X = 1: X is worth 16 in the first byte, and was 0
abbrev pub with_block : List ℕ → ℕ → List ℕ
with_block p at = take at (set p 0 (get_or p 0 0 + 16)) ++ (0xBE ∷ 0xDE ∷ 0x00 ∷ 0x00 ∷ drop at p)

-- ---- the tag

-- 0xC0DE instead of 0xBEDE, 0xC2DE instead of 0x1000, and back. Sending has no other tag (PROFILE).
abbrev pub cryptex_tag : ℕ → ℕ
cryptex_tag tag = pick (eqb tag 0xBEDE) 0xC0DE 0xC2DE

abbrev pub plain_tag : ℕ → ℕ
plain_tag tag = pick (eqb tag 0xC0DE) 0xBEDE 0x1000

abbrev pub is_cryptex_tag : ℕ → Bool
is_cryptex_tag tag = eqb tag 0xC0DE || eqb tag 0xC2DE

-- a number of 16 bits written at place i
unfoldable pub written16 : List ℕ → ℕ → ℕ → List ℕ
written16 p i v = set (set p i (v / 256)) (i + 1) (v % 256)

-- on sending under Cryptex: every packet with an extension
unfoldable pub tagged_of : Policy → List ℕ → List ℕ
tagged_of policy p = pick (uses_cryptex policy && (layout_of p).x) (written16 p (layout_of p).extension (cryptex_tag (layout_of p).tag)) p

-- in its wire form, both ways: a packet whose tag says so. On receiving, any other that passes PROFILE is handled as policy 0 (document 01, "What is encrypted").
abbrev pub is_cryptex : Policy → Layout → Bool
is_cryptex policy h = uses_cryptex policy && (h.x && is_cryptex_tag h.tag)

unfoldable pub untagged_of : Policy → List ℕ → List ℕ
untagged_of policy p = pick (is_cryptex policy (layout_of p)) (written16 p (layout_of p).extension (plain_tag (layout_of p).tag)) p
