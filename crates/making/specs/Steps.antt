-- What the code's own steps mean.
use Rattle.std.specs.Prelude.{not, ◌&&◌, ℕ, ◌%◌, ◌^◌, eqb, ltb}
use Rattle.std.specs.Int.Bits.{bit_or}
use Rattle.bits.specs.Pick.{pick}
use Rattle.bits.specs.Refusals.{number_of}
use Rattle.bits.specs.declared.refusal.Refusal.TheVariants as refusal
use Rattle.suites.specs.declared.suite.Suite.{Suite}
use Rattle.suites.specs.Suites.{salt_length_of, last_policy_of}

-- a word of a set of ids with one id more: a 0 is ignored
abbrev pub with_id : ℕ → ℕ → ℕ
with_id word id = pick (eqb id 0) word (bit_or word (2 ^ (id % 64)))

-- what make gives back for a suite, a key and a salt of these lengths, and a policy
abbrev pub make_number : Suite → ℕ → ℕ → ℕ → ℕ
make_number suite key salt policy =
    pick (not (eqb key 16 && eqb salt (salt_length_of suite))) (number_of refusal.Keys) (pick (ltb (last_policy_of suite) policy) (number_of refusal.Policy) 0)
