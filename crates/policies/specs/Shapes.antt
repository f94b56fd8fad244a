-- A packet that was judged: what the code that goes on with it can rely on.
use Rattle.std.specs.Prelude.{◌≡◌, true, List, ℕ, ◌≤◌, length, Ok}
use Rattle.rtp_header.specs.declared.header.Layout.{Layout}
use Rattle.rtp_header.specs.Header.{layout_of}
use Rattle.policies.specs.declared.policy.Policy.{Policy}
use Rattle.policies.specs.declared.policy.Way.TheVariants.{Sending}
use Rattle.policies.specs.Judging.{elements_fit, judged_of}

-- p was judged for sending, with tags of some length t, and has layout h
pub record Sendable (policy : Policy) (p : List ℕ) (h : Layout) : Type 0 where
  pub t : ℕ
  pub judged : judged_of Sending policy t p ≡ Ok h

-- p has n bytes, at most 2,048, and layout h; its block does not pass its end, and no element its block where there is a mask
pub record Shaped (policy : Policy) (p : List ℕ) (n : ℕ) (h : Layout) : Type 0 where
  pub long : length p ≡ n
  pub small : n ≤ 2048
  pub layout : h ≡ layout_of p
  pub inside : h.payload ≤ n
  pub elements : elements_fit policy h p ≡ true
