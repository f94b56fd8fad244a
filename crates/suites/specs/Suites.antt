-- Document 02, CR 3: the two suites, and the numbers that each of them sets.
use Rattle.std.specs.Prelude.{ℕ, eqb}
use Rattle.bits.specs.Pick.{pick}
use Rattle.suites.specs.declared.suite.Suite.{Suite}
use Rattle.suites.specs.declared.suite.Suite.TheVariants.{CmHmac, Gcm}

-- The papers give no number. Callers pass these, and any other is refused (`bits/Refusals.wrong_suite`) before `suite_of` is asked.
abbrev pub suite_number : Suite → ℕ
suite_number CmHmac = 0
suite_number Gcm = 1

abbrev pub suite_of : ℕ → Suite
suite_of n = pick (eqb n 0) CmHmac Gcm

-- the master salt and the session salt, in bytes: document 01, "The library's work" and "Keys and cipher"; document 02, CR 3, and RFC 7714, 12
abbrev pub salt_length_of : Suite → ℕ
salt_length_of CmHmac = 14
salt_length_of Gcm = 12

-- t, the authentication tag, in bytes: 80 bits (document 01), and 128 (document 02, CR 3)
abbrev pub tag_length_of : Suite → ℕ
tag_length_of CmHmac = 10
tag_length_of Gcm = 16

-- "a second suite for policies 0 to 2": the highest policy that each takes
abbrev pub last_policy_of : Suite → ℕ
last_policy_of CmHmac = 3
last_policy_of Gcm = 2
