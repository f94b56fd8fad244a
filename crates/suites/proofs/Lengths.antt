-- What holds of the numbers of every suite.
use Prim.Native.Nat.{◌≤◌}
use native.Mathlib.Omega.{arith}
use Rattle.suites.specs.declared.suite.Suite.{Suite}
use Rattle.suites.specs.declared.suite.Suite.TheVariants.{CmHmac, Gcm}
use Rattle.suites.specs.Suites.{salt_length_of, tag_length_of, last_policy_of}

pub salt-short : (s : Suite) → salt_length_of s ≤ 14
salt-short CmHmac = omega arith
salt-short Gcm = omega arith

pub tag-short : (s : Suite) → tag_length_of s ≤ 16
tag-short CmHmac = omega arith
tag-short Gcm = omega arith

pub policy-last : (s : Suite) → last_policy_of s ≤ 3
policy-last CmHmac = omega arith
policy-last Gcm = omega arith
