-- `input::lines::next_line` meets its contract.
use Rattle.std.proofs.Common.{rules, ◌≡◌, ◌≢◌, ◌-◌, All, IfSome, Some, Bool, length, cond, take, drop, sym, ap, subst, ◌∙◌, arith}
use Rattle.std.specs.List.{slice_get}
use Rattle.std.specs.Option.{option_copied}
use Rattle.std.specs.Io.{StopsAt}
use Rattle.std.specs.Io.BufRead.{strip_last}
use Rattle.input.specs.Lines.{next_line_of}
use Rattle.input.proofs.Ends.{last-feed, without-feed, line-known}
use Rattle.input.proofs.lines.next_line.Given as given
use Rattle.input.proofs.lines.next_line.Goals.{then-eq, else-eq+then-read-most+in_ok-skip_until, else-eq+else-read-most, then-at_end, else-at_end}
use Rattle.input.proofs.lines.next_line.Goals as goal

-- what stands of the line once its line feed is off
cut : (g : given.Over) (c : goal.Joined-at_end g) → c.if-eq.line.items ≡ strip_last 10 c.read_until.new.buf.items
cut g c =
    let xs = c.read_until.new.buf.items in
    let tested = c.eq.ensures ∙ last-feed xs c.last.result _ (search rules) (c.last.ensures.value ∙ ap (λ l. slice_get l (length l - 1)) c.deref.ensures.value) in
    let by = λ (b : Bool). cond b (take (length xs - 1) xs) xs in
    elim c.if-eq.branch [
      | then-eq w ↦ ap (λ v. v.items) w.line-is ∙ w.pop.ensures.rest ∙ ap (λ n. take (n - 1) xs) (sym c.deref.ensures.len ∙ ap length c.deref.ensures.value) ∙ ap by (sym w.if-eq.true ∙ tested)
      | else-eq+then-read-most+in_ok-skip_until w ↦ ap (λ v. v.items) w.line-is ∙ ap by (sym w.if-eq.false ∙ tested)
      | else-eq+else-read-most w ↦ ap (λ v. v.items) w.line-is ∙ ap by (sym w.if-eq.false ∙ tested)
    ]

pub returns-clause-no_feed : goal.returns-clause-no_feed
returns-clause-no_feed g c =
    let xs = c.read_until.new.buf.items in
    let stops : StopsAt xs 10 = subst (λ l. StopsAt l 10) (ap (λ l. drop (length l) xs) c.clear.ensures.items) c.read_until.ensures.stops in
    elim c.if-at_end.branch [
      | then-at_end w ↦ rw w.result-is tt
      | else-at_end w ↦ rw w.result-is (subst (All (λ b. b ≢ 10)) (sym (cut g c) ∙ sym w.as_slice.ensures.value) (without-feed xs stops))
    ]

pub returns-clause-known : goal.returns-clause-known
returns-clause-known g c =
    let b = c.read_until.new.buf in
    let t = c.take.result in
    let same : t.inner.now ≡ c.args.input.now = ap (λ r. r.now) c.take.ensures.inner in
    let held : length b.items ≡ c.in_ok-read.read = omega (arith, b.ok, c.in_ok-read.ensures.ok, c.clear.ensures.len) in
    subst (λ a. IfSome a (λ bytes. option_copied c.if-at_end.result ≡ next_line_of c.args.most bytes)) (ap g.R.Read.remaining same)
    (line-known (g.R.Read.remaining t.inner.now) c.args.most t.limit c.clear.new.self.items b.items c.if-at_end.result (search rules) (omega (arith, b.ok, b.small))
    c.clear.ensures.items c.in_ok-read.ensures.bytes
    (elim c.if-at_end.branch [
      | then-at_end w ↦ λ _. w.result-is
      | else-at_end w ↦ λ none. absurd (omega (arith, w.if-at_end.false, held))
    ])
    (elim c.if-at_end.branch [
      | then-at_end w ↦ λ some. absurd (omega (arith, w.if-at_end.true, held))
      | else-at_end w ↦ λ _. ap option_copied w.result-is ∙ ap Some (w.as_slice.ensures.value ∙ cut g c)
    ]))
