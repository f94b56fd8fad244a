-- Document 01, "The library's work": the policies (that paper's word), their numbers, and which of them use Cryptex or the mask.
use Rattle.std.specs.Prelude.{Bool, true, false, ℕ}
use Rattle.policies.specs.declared.policy.Policy.{Policy}
use Rattle.policies.specs.declared.policy.Policy.TheVariants.{Plain, Cryptex, CryptexRequired, Mask}

-- the paper's number
abbrev pub policy_number : Policy → ℕ
policy_number Plain = 0
policy_number Cryptex = 1
policy_number CryptexRequired = 2
policy_number Mask = 3

-- RFC 9335
abbrev pub uses_cryptex : Policy → Bool
uses_cryptex Plain = false
uses_cryptex Cryptex = true
uses_cryptex CryptexRequired = true
uses_cryptex Mask = false

-- RFC 6904
abbrev pub uses_mask : Policy → Bool
uses_mask Plain = false
uses_mask Cryptex = false
uses_mask CryptexRequired = false
uses_mask Mask = true
