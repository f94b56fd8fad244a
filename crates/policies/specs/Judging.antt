-- Document 01, "Numbers given back", with document 02, CR 2: refusals 2 to 7, for both ways. t is the length of the authentication tag.
use Rattle.bits.specs.declared.refusal.Refusal.{Refusal}
use Rattle.std.specs.Prelude.{Bool, true, not, ◌&&◌, ◌||◌, List, ℕ, ◌+◌, eqb, ltb, length, Result, Ok, Err}
use Rattle.bits.specs.Pick.{pick}
use Rattle.bits.specs.declared.refusal.Refusal.TheVariants as refusal
use Rattle.rtp_header.specs.declared.header.Layout.{Layout}
use Rattle.rtp_elements.specs.Elements.{whole_of}
use Rattle.rtp_header.specs.Header.{block_of, header_of}
use Rattle.policies.specs.declared.policy.Policy.{Policy}
use Rattle.policies.specs.declared.policy.Policy.TheVariants.{Plain, Cryptex, CryptexRequired, Mask}
use Rattle.policies.specs.declared.policy.Way.{Way}
use Rattle.policies.specs.declared.policy.Way.TheVariants.{Sending, Receiving}
use Rattle.policies.specs.Policies.{uses_cryptex, uses_mask}
use Rattle.policies.specs.Cryptex.{adds_block, is_cryptex_tag}

-- the bytes of authentication tag that a packet has already
abbrev pub tail_of : Way → ℕ → ℕ
tail_of Sending t = 0
tail_of Receiving t = t

-- PROFILE: "protect, policy 1 or 2, X = 1, tag neither BEDE nor 1000; unprotect, policy 2, X = 1, tag neither C0DE nor C2DE"; and since document 02's CR 2
-- "unprotect, policy 2, X = 0, CC > 0"
abbrev pub profile_fits : Way → Policy → Layout → Bool
profile_fits Sending policy h = not (uses_cryptex policy && h.x) || (eqb h.tag 0xBEDE || eqb h.tag 0x1000)
profile_fits Receiving Plain h = true
profile_fits Receiving Cryptex h = true
profile_fits Receiving CryptexRequired h = pick h.x (is_cryptex_tag h.tag) (eqb h.cc 0)
profile_fits Receiving Mask h = true

-- ELEMENT: policy 3, X = 1, an element runs past its block. Without X the block is empty and has tag 0.
abbrev pub elements_fit : Policy → Layout → List ℕ → Bool
elements_fit policy h p = not (uses_mask policy) || whole_of h.tag (block_of h p)

-- what protecting adds to the length
abbrev pub added_of : Way → Policy → ℕ → Layout → ℕ
added_of Sending policy t h = pick (adds_block policy h) 4 0 + t
added_of Receiving policy t h = 0

-- LARGE: protected length (unprotect: n) is over 2,048
abbrev pub size_fits : Way → Policy → ℕ → Layout → List ℕ → Bool
size_fits way policy t h p = not (ltb 2048 (length p + added_of way policy t h))

abbrev pub judged_after : Way → Policy → ℕ → List ℕ → Result Layout Refusal → Result Layout Refusal
judged_after way policy t p (Err r) = Err r
judged_after way policy t p (Ok h) =
    pick (not (profile_fits way policy h)) (Err refusal.Profile)
    (pick (not (elements_fit policy h p)) (Err refusal.Element)
    (pick (not (size_fits way policy t h p)) (Err refusal.Large)
    (Ok h)))

-- the layout, or the first of refusals 2 to 7 that applies
unfoldable pub judged_of : Way → Policy → ℕ → List ℕ → Result Layout Refusal
judged_of way policy t p = judged_after way policy t p (header_of p (tail_of way t))
