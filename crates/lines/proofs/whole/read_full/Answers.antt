-- `lines::whole::read_full` meets its contract.
use Rattle.std.proofs.Common.{◌≡◌, ℕ, ◌+◌, ◌-◌, ◌≤◌, List, ◌++◌, rules, length, take, drop, sym, ap, subst, ◌∙◌, le_refl, drop_at, length-take-le}
use Rattle.std.proofs.lemmas.Slice.{take-put_mid_below}
use Rattle.std.specs.Io.KnownBytes.{Consumes}
use Rattle.std.proofs.KnownBytes.{Consumes-trans, Consumes-kept}
use borrow.Rule.Slice.PartMut.{put_mid, post_of}
use lib.Seq.{take-add, take-append-le}
use Rattle.lines.proofs.whole.read_full.Goals.{in-Ok, in-Err}
use Rattle.lines.proofs.whole.read_full.Goals as goal

-- what is read behind the first d bytes stands behind them
placed : (d n k : ℕ) (xs ys : List ℕ) → d ≤ length xs → n ≤ length ys → take d xs ++ take n ys ≡ take (d + n) (put_mid d k xs ys)
placed d n k xs ys within fits =
    let rest = post_of d k xs in
    let behind : drop d (put_mid d k xs ys) ≡ ys ++ rest = drop_at (take d xs) (ys ++ rest) d (length-take-le d xs within) in
    sym (take-add d n (put_mid d k xs ys)
    ∙ ap (λ l. l ++ take n (drop d (put_mid d k xs ys))) (take-put_mid_below d k xs ys d (le_refl d) within)
    ∙ ap (λ l. take d xs ++ l) (ap (take n) behind ∙ take-append-le n ys rest fits))

pub loop-preserved : goal.loop-preserved
loop-preserved g c =
    let d = c.loop.done in
    let k = length c.loop.buf - d in
    let xs = c.loop.buf in
    let ys = c.read.new.buf in
    let within : d ≤ length xs = c.loop.invariant.1 in
    elim c.match-read.branch [
      | in-Ok w ↦
          let all = placed d w.in-Ok.got k xs ys within w.in-Ok.ensures.bound.0 in
          rw w.done-is (search rules, search rules, subst (Consumes _ _) all (Consumes-trans _ _ _ _ _ c.loop.invariant.2 w.in-Ok.ensures.bytes.0))
      | in-Err w ↦
          let same = sym (take-put_mid_below d k xs ys d (le_refl d) within) in
          rw w.done-is (search rules, search rules, subst (Consumes _ _) same (Consumes-kept _ _ _ _ c.loop.invariant.2 w.in-Err.ensures.bytes))
    ]
