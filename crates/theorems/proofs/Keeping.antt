-- What holds of every session: its keys, its 32 places, and no SSRC twice. And sets of ids: equal ones give equal sessions.
use mathlib.Core.Path.{◌≡◌, refl, sym, ap, ◌∙◌}
use mathlib.Core.Bool.{Bool, true, false, not, ◌&&◌, ◌||◌}
use mathlib.Core.List.{List, [], ◌∷◌}
use Prim.Native.Nat.{ℕ, zero, suc, ◌+◌, ◌*◌, ◌≤◌, ◌<◌}
use native.Mathlib.Omega.{arith}
use borrow.Author.Tests.{ne_eqb, eqb-false}
use lib.Dec.{eqb}
use lib.ListN.{length, take, replicate}
use Rattle.bits.proofs.Bits.{packed-ext}
use Rattle.bits.proofs.Lists.{tabulate-ext}
use Rattle.bits.specs.Bits.{packed}
use Rattle.bits.specs.Pick.{pick}
use Rattle.rtp_header.specs.Header.{ssrc_of}
use Rattle.replay.specs.State.{ReplayState}
use Rattle.policies.specs.declared.policy.Way.{Way}
use Rattle.policies.specs.declared.policy.Way.TheVariants.{Sending, Receiving}
use Rattle.session.specs.Session.{Record, Session}
use Rattle.session.specs.Records.{is_free, is_for, free_place, fresh_record, none, change_first, record_for, with_replay, store_for, has_ssrc, placed}
use Rattle.suites.specs.declared.suite.Suite.{Suite}
use Rattle.suites.specs.Suites.{last_policy_of}
use Rattle.suites.proofs.Lengths.{policy-last}
use Rattle.policies.specs.Policies.{policy_number}
use Rattle.session.specs.Making.{policy_of, counts, ids_of, unmade, session_of, make_of}
use Rattle.session.specs.Adding.{add_of}
use Rattle.session.specs.Packets.{Effect, refuse, give, settled, protect_of, unprotect_of}
use Rattle.session.proofs.Making.{policy-number, make-cases}
use Rattle.session.proofs.Adding.{add-cases}
use Rattle.session.proofs.Ids.{ids-listed}
use Rattle.session.proofs.Ways.{done_by}
use Rattle.theorems.specs.Lists.{End, sender, receiver, Call, add, protect, unprotect, end_of, Sessions, session_at, with_session, outcome_of, next, after, just_made, EqualSets}
use Rattle.theorems.specs.Sessions.{NoSsrcTwice, Sound, SessionsAreSound, EqualSetsEqualSessions, WordsAreTheSet}
use Rattle.theorems.proofs.Records.{clash, or-false, free-for, stored-ssrc}
use Rattle.theorems.proofs.Settling.{none-given}
use Rattle.theorems.proofs.Holding.{setup-outcome}

-- ---- no SSRC twice

once-free : (k : ℕ) → NoSsrcTwice (replicate k free_place)
once-free zero = tt
once-free (suc k) = (λ e. clash true refl e, once-free k)

once-stored : (x : ℕ) (w : Way) (t : ReplayState) (l : List Record) → NoSsrcTwice l → NoSsrcTwice (store_for l x w t)
once-stored x w t [] o = tt
once-stored x w t (q ∷ l) o = go (is_for q x w) (once-stored x w t l o.1)
  where
    go : (b : Bool) → NoSsrcTwice (store_for l x w t) → NoSsrcTwice (pick b (with_replay q t ∷ l) (q ∷ store_for l x w t))
    go true rec = o
    go false rec = (λ e. stored-ssrc q.ssrc x w t l ∙ o.0 e, rec)

-- an SSRC that is neither there nor the new record's is not there afterwards
not-placed : (y : ℕ) (n : Record) (l : List Record) → has_ssrc l y ≡ false → eqb n.ssrc y ≡ false → has_ssrc (placed l n) y ≡ false
not-placed y n [] h e = refl
not-placed y n (q ∷ l) h e = go (is_free q.kind) refl (not-placed y n l)
  where
    rest : has_ssrc l y ≡ false
    rest = or-false (not (is_free q.kind) && eqb q.ssrc y) (has_ssrc l y) h

    and_no : (a : Bool) → (a && false) ≡ false
    and_no true = refl
    and_no false = refl

    first-no : (a b : Bool) → (a || b) ≡ false → a ≡ false
    first-no true b z = clash true refl z
    first-no false b z = refl

    go : (b : Bool) → is_free q.kind ≡ b → (has_ssrc l y ≡ false → eqb n.ssrc y ≡ false → has_ssrc (placed l n) y ≡ false)
        → has_ssrc (pick b (n ∷ l) (q ∷ placed l n)) y ≡ false
    go true f rec = rw (e, and_no (not (is_free n.kind))) rest
    go false f rec = rw (first-no (not (is_free q.kind) && eqb q.ssrc y) (has_ssrc l y) h) (rec rest e)

once-placed : (n : Record) (l : List Record) → has_ssrc l n.ssrc ≡ false → NoSsrcTwice l → NoSsrcTwice (placed l n)
once-placed n [] h o = tt
once-placed n (q ∷ l) h o = go (is_free q.kind) refl (once-placed n l)
  where
    rest : has_ssrc l n.ssrc ≡ false
    rest = or-false (not (is_free q.kind) && eqb q.ssrc n.ssrc) (has_ssrc l n.ssrc) h

    differs : (k : Bool) (b : Bool) → k ≡ false → ((not k && b) || has_ssrc l n.ssrc) ≡ false → b ≡ false
    differs true b f z = clash true refl f
    differs false true f z = clash true refl z
    differs false false f z = refl

    turned : eqb q.ssrc n.ssrc ≡ false → eqb n.ssrc q.ssrc ≡ false
    turned e = ne_eqb n.ssrc q.ssrc (λ z. eqb-false q.ssrc n.ssrc e (sym z))

    go : (b : Bool) → is_free q.kind ≡ b → (has_ssrc l n.ssrc ≡ false → NoSsrcTwice l → NoSsrcTwice (placed l n)) → NoSsrcTwice (pick b (n ∷ l) (q ∷ placed l n))
    go true f rec = (λ e. rest, o.1)
    go false f rec = (λ e. not-placed q.ssrc n l (o.0 e) (turned (differs (is_free q.kind) (eqb q.ssrc n.ssrc) e h)), rec rest o.1)

-- ---- 32 places

length-changed : (test : Record → Bool) (f : Record → Record) (l : List Record) → length (change_first test f l) ≡ length l
length-changed test f [] = refl
length-changed test f (q ∷ l) = go (test q) (length-changed test f l)
  where
    go : (b : Bool) → length (change_first test f l) ≡ length l → length (pick b (f q ∷ l) (q ∷ change_first test f l)) ≡ length (q ∷ l)
    go true rec = refl
    go false rec = ap suc rec

-- ---- the unmade session stays

none_free : (k x : ℕ) (w : Way) → record_for (replicate k free_place) x w ≡ none
none_free zero x w = refl
none_free (suc k) x w = rw (free-for free_place x w refl) (none_free k x w)

left : (s : Session) (buf : List ℕ) (x : ℕ) (w : Way) (d : Effect) → ((m : ℕ) (b : List ℕ) (t : ReplayState) → d ≡ give m b t → ⊥) → (settled s buf x w d).session ≡ s
left s buf x w (refuse r) never = refl
left s buf x w (give m b t) never = absurd (never m b t refl)

packet-left : (way : Way) (s : Session) (buf : List ℕ) (n : ℕ) → s ≡ session_of unmade → (settled s buf (ssrc_of (take n buf)) way (done_by way s buf n)).session ≡ s
packet-left way s buf n e =
    left s buf (ssrc_of (take n buf)) way (done_by way s buf n)
    (λ m b t g.
    let free : record_for s.records (ssrc_of (take n buf)) way ≡ none = rw e (none_free 32 (ssrc_of (take n buf)) way) in
    none-given s.setup buf n way m b t (rw free at g))

-- ---- each call

unmade-sound : Sound (session_of unmade)
unmade-sound = record { policy = omega arith; keys = λ e. clash false e refl; not_made = λ e. refl; places = refl; once = once-free 32 }

made : (suite : Suite) (key salt : List ℕ) (policy : ℕ) (ids : List ℕ) → Sound (make_of suite key salt policy ids).session
made suite key salt policy ids =
    make-cases suite key salt policy ids (λ m. Sound m.session) (λ r n. unmade-sound)
    (λ l. record { policy = fits l; keys = λ e. refl; not_made = λ e. clash true refl e; places = refl; once = once-free 32 })
  where
    fits : policy ≤ last_policy_of suite → policy_number (policy_of policy) ≤ last_policy_of suite
    fits l = let p = policy-last suite in rw (policy-number policy (omega arith)) l

add-sound : (s : Session) (x : ℕ) (w : Way) (rollover : ℕ) → Sound s → Sound (add_of s x w rollover).session
add-sound s x w rollover o =
    add-cases s x w rollover (λ m. Sound m.session) (λ r n. o)
    (λ m h f. record {
      policy = o.policy;
      keys = o.keys;
      not_made = λ z. clash _ m z;
      places = length-changed (λ r. is_free r.kind) (λ r. fresh_record x w rollover) s.records ∙ o.places;
      once = once-placed (fresh_record x w rollover) s.records h o.once;
    })

settled-sound : (s : Session) (buf : List ℕ) (x : ℕ) (w : Way) (d : Effect) → (s ≡ session_of unmade → (settled s buf x w d).session ≡ s) → Sound s
    → Sound (settled s buf x w d).session
settled-sound s buf x w (refuse r) f o = o
settled-sound s buf x w (give m b t) f o =
    record {
      policy = o.policy;
      keys = o.keys;
      not_made = λ z. f (o.not_made z) ∙ o.not_made z;
      places = length-changed (λ r. is_for r x w) (λ r. with_replay r t) s.records ∙ o.places;
      once = once-stored x w t s.records o.once;
    }

kept : (s : Session) (c : Call) → Sound s → Sound (outcome_of s c).session
unfolding protect_of unprotect_of
kept s (add e x w rollover) o = add-sound s x w rollover o
kept s (protect e buf n) o = settled-sound s buf (ssrc_of (take n buf)) Sending (done_by Sending s buf n) (packet-left Sending s buf n) o
kept s (unprotect e buf n) o = settled-sound s buf (ssrc_of (take n buf)) Receiving (done_by Receiving s buf n) (packet-left Receiving s buf n) o

-- ---- and every list

record BothSound (s : Sessions) : Type 0 where
  at_sender : Sound s.at_sender
  at_receiver : Sound s.at_receiver

at-end : (e : End) (s : Sessions) → BothSound s → Sound (session_at e s)
at-end sender s o = o.at_sender
at-end receiver s o = o.at_receiver

with-sound : (e : End) (s : Sessions) (t : Session) → BothSound s → Sound t → BothSound (with_session e s t)
with-sound sender s t o p = record { at_sender = p; at_receiver = o.at_receiver }
with-sound receiver s t o p = record { at_sender = o.at_sender; at_receiver = p }

next-sound : (s : Sessions) (c : Call) → BothSound s → BothSound (next s c)
next-sound s c o = with-sound (end_of c) s (outcome_of (session_at (end_of c) s) c).session o (kept (session_at (end_of c) s) c (at-end (end_of c) s o))

after-sound : (calls : List Call) (s : Sessions) → BothSound s → BothSound (after s calls)
after-sound [] s o = o
after-sound (c ∷ calls) s o = after-sound calls (next s c) (next-sound s c o)

pub sessions-are-sound : SessionsAreSound
sessions-are-sound =
    record {
      made = made;
      kept = kept;
      setup = setup-outcome;
      always =
          λ suite key salt policy ids others calls e.
          at-end e (after (just_made suite key salt policy ids others) calls)
          (after-sound calls (just_made suite key salt policy ids others) (record { at_sender = made suite key salt policy ids; at_receiver = made suite key salt policy others }));
    }

-- ---- sets of ids

same-ids : (ids others : List ℕ) → EqualSets ids others → ids_of ids ≡ ids_of others
unfolding ids_of
same-ids ids others e =
    tabulate-ext 4 (λ j. packed 64 (λ k. counts ids (64 * j + k))) (λ j. packed 64 (λ k. counts others (64 * j + k)))
    (λ j h. packed-ext 64 (λ k. counts ids (64 * j + k)) (λ k. counts others (64 * j + k)) (λ k b. go (64 * j + k) (omega arith)))
  where
    go : (id : ℕ) → id < 256 → counts ids id ≡ counts others id
    go zero h = refl
    go (suc id) h = rw (e (suc id) (omega arith) h)

pub equal-sets : EqualSetsEqualSessions
unfolding make_of
equal-sets = record { equal = λ suite key salt policy ids others e. rw (same-ids ids others e) }

pub words-are-the-set : WordsAreTheSet
words-are-the-set = record { listed = ids-listed }
