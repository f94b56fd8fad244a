-- Two neighbouring packet calls for different streams change places on memories: the words come out the same.
use Rattle.std.specs.Prelude.{Option, Some, None}
use mathlib.Core.Path.{◌≡◌, refl, sym, ap, ap₂, ◌∙◌, subst}
use mathlib.Core.List.{List, [], ◌∷◌}
use mathlib.Core.Logic.{⊎_elim}
use Prim.Native.Nat.{ℕ, zero, suc, ◌<◌}
use lib.ListN.{length, get_or}
use Rattle.bits.specs.Lists.{Each}
use Rattle.policies.specs.declared.policy.Way.{Way}
use Rattle.policies.specs.declared.policy.Way.TheVariants.{Sending, Receiving}
use Rattle.session.specs.Session.{Setup, Session}
use Rattle.session.specs.Records.{is_for, record_for}
use Rattle.session.specs.Places.{no_record, place_from}
use Rattle.session.specs.Memory.{size, decode}
use Rattle.session.specs.Packets.{Effect, refuse, give, Outcome, settled}
use Rattle.session.proofs.Shapes.{EffectFits}
use Rattle.session.proofs.Places.{first-here, place_kept}
use Rattle.session.proofs.Decoding.{Holds, placed_by, refused-there, found_in, call-words, done-fits, places-apart}
use Rattle.theorems.specs.Answers.{buffer_of}
use Rattle.theorems.specs.Lists.{End, sender, receiver, Call, add, protect, unprotect, end_of, Sessions, session_at, outcome_of, answer_of, next, Event, no_event, events_of, Run}
use Rattle.theorems.specs.Places.{IsPacketCall, ssrc_in, way_in, DifferentStreams, exchanged, NeighboursChangePlaces}
use Rattle.theorems.specs.Memories.{Memories, memory_at, with_memory, left_by, next_in, after_in, decoded, run_in, Sized, Words32, AnswersAsSessions}
use Rattle.theorems.proofs.Records.{clash, other}
use Rattle.theorems.proofs.Refusing.{Early}
use Rattle.theorems.proofs.Holding.{setup-next}
use Rattle.theorems.proofs.Exchanging.{effect_in, effect_of, packet-call, effect-kept, unread-early, second-early, Neighbours, exchange}
use Rattle.theorems.proofs.Memories.{holds, sized-at, at-end, next-sized, next-decoded, answer-as-sessions}

-- ---- in one memory

small-packet : (c : Call) → IsPacketCall c → Words32 c
small-packet (add e x w r) k = absurd k
small-packet (protect e buf n) k = tt
small-packet (unprotect e buf n) k = tt

abbrev place_of : List ℕ → Call → Option ℕ
place_of words c = place_from 0 (decode words).records (ssrc_in c) (way_in c)

abbrev effect_at : List ℕ → Call → Effect
effect_at words c = effect_of (decode words) c

words-after : (words : List ℕ) → length words ≡ size → (c : Call) → IsPacketCall c → (left_by words c).words ≡ placed_by words (place_of words c) (effect_at words c)
words-after words sized (add e x w r) k = absurd k
words-after words sized (protect e buf n) k = call-words words sized buf n Sending
words-after words sized (unprotect e buf n) k = call-words words sized buf n Receiving

fits_after : (words : List ℕ) → length words ≡ size → (c : Call) → IsPacketCall c → EffectFits (effect_at words c)
fits_after words sized (add e x w r) k = absurd k
fits_after words sized (protect e buf n) k = done-fits words sized buf n Sending
fits_after words sized (unprotect e buf n) k = done-fits words sized buf n Receiving

place-settled : (s : Session) (buf : List ℕ) (x y : ℕ) (w v : Way) (d : Effect) → place_from 0 (settled s buf x w d).session.records y v ≡ place_from 0 s.records y v
place-settled s buf x y w v (refuse r) = refl
place-settled s buf x y w v (give m b t) = place_kept x y w v t 0 s.records

-- c, and then d
twice : (words : List ℕ) → length words ≡ size → (c d : Call) → IsPacketCall c → IsPacketCall d → (way_in c ≡ way_in d → ssrc_in c ≡ ssrc_in d → ⊥)
    → (left_by (left_by words c).words d).words ≡ placed_by (placed_by words (place_of words c) (effect_at words c)) (place_of words d) (effect_at words d)
twice words sized c d kc kd differ =
    let o : Holds (left_by words c) (outcome_of (decode words) c).session = holds words sized c (small-packet c kc) in
    let w : List ℕ = (left_by words c).words in
    let s : decode w ≡ (settled (decode words) (buffer_of c) (ssrc_in c) (way_in c) (effect_at words c)).session
    = o.session ∙ ap (λ (t : Outcome). t.session) (packet-call (decode words) c kc) in
    words-after w o.long d kd
    ∙ ap (λ (t : Session). placed_by w (place_from 0 t.records (ssrc_in d) (way_in d)) (effect_of t d)) s
    ∙ ap₂ (placed_by w) (place-settled (decode words) (buffer_of c) (ssrc_in c) (ssrc_in d) (way_in c) (way_in d) (effect_at words c)) (effect-kept (decode words) c d kc kd differ)
    ∙ ap (λ (u : List ℕ). placed_by u (place_of words d) (effect_at words d)) (words-after words sized c kc)

module _ (words : List ℕ) (sized : length words ≡ size) where
  placed-commute : (p q : Option ℕ) (d e : Effect) → ((i : ℕ) → p ≡ Some i → i < 32) → ((i : ℕ) → q ≡ Some i → i < 32) → ((i : ℕ) → p ≡ Some i → q ≡ Some i → ⊥)
      → EffectFits d → EffectFits e → placed_by (placed_by words p d) q e ≡ placed_by (placed_by words q e) p d
  placed-commute None q d e a b differ f g = refl
  placed-commute (Some i) None d e a b differ f g = refl
  placed-commute (Some i) (Some j) (refuse r) e a b differ f g = refl
  placed-commute (Some i) (Some j) (give m c t) (refuse r) a b differ f g = refl
  placed-commute (Some i) (Some j) (give m c t) (give n k u) a b differ f g =
      places-apart words sized i j (a i refl) (b j refl) (λ z. differ i refl (ap Some (sym z))) t u f g

  words-commute : (c d : Call) → IsPacketCall c → IsPacketCall d → (way_in c ≡ way_in d → ssrc_in c ≡ ssrc_in d → ⊥)
      → (left_by (left_by words c).words d).words ≡ (left_by (left_by words d).words c).words
  words-commute c d kc kd differ =
      twice words sized c d kc kd differ
      ∙ placed-commute (place_of words c) (place_of words d) (effect_at words c) (effect_at words d)
      (found_in words sized (buffer_of c) (ssrc_in c) (way_in c)) (found_in words sized (buffer_of d) (ssrc_in d) (way_in d))
      (λ i e f.
      let p = (first-here (λ r. is_for r (ssrc_in c) (way_in c)) (decode words).records i e).passes in
      let q = (first-here (λ r. is_for r (ssrc_in d) (way_in d)) (decode words).records i f).passes in
      clash _ q (other (ssrc_in c) (ssrc_in d) (way_in c) (way_in d) differ (get_or (decode words).records i no_record) p))
      (fits_after words sized c kc) (fits_after words sized d kd)
      ∙ sym (twice words sized d c kd kc (λ w y. differ (sym w) (sym y)))

-- ---- in two memories

in-commute : (e f : End) (m : Memories) (F G : List ℕ → List ℕ) → (e ≡ f → G (F (memory_at e m)) ≡ F (G (memory_at e m)))
    → with_memory f (with_memory e m (F (memory_at e m))) (G (memory_at f (with_memory e m (F (memory_at e m)))))
    ≡ with_memory e (with_memory f m (G (memory_at f m))) (F (memory_at e (with_memory f m (G (memory_at f m)))))
in-commute sender sender m F G h = ap (λ (t : List ℕ). record { at_sender = t; at_receiver = m.at_receiver }) (h refl)
in-commute sender receiver m F G h = refl
in-commute receiver sender m F G h = refl
in-commute receiver receiver m F G h = ap (λ (t : List ℕ). record { at_sender = m.at_sender; at_receiver = t }) (h refl)

in-own : (e : End) (m : Memories) → with_memory e m (memory_at e m) ≡ m
in-own sender m = refl
in-own receiver m = refl

-- refused before its record is looked at, a call leaves every word
early-in : (m : Memories) → Sized m → (c : Call) → IsPacketCall c → Early (effect_in (session_at (end_of c) (decoded m)).setup c) → next_in m c ≡ m
early-in m s c k e =
    let words : List ℕ = memory_at (end_of c) m in
    let f : Early (effect_in (decode words).setup c) = subst (λ (t : Session). Early (effect_in t.setup c)) (sym (at-end (end_of c) m)) e in
    let z : (left_by words c).words ≡ words
    = words-after words (sized-at (end_of c) m s) c k
    ∙ ap (placed_by words (place_of words c)) (f.refuses (record_for (decode words).records (ssrc_in c) (way_in c)))
    ∙ refused-there words (place_of words c) f.reason in
    ap (with_memory (end_of c) m) z ∙ in-own (end_of c) m

early-commute-in : (m : Memories) → Sized m → (c d : Call) → IsPacketCall c → IsPacketCall d → Early (effect_in (session_at (end_of c) (decoded m)).setup c)
    → next_in (next_in m c) d ≡ next_in (next_in m d) c
early-commute-in m s c d kc kd e =
    let h : (session_at (end_of c) (decoded (next_in m d))).setup ≡ (session_at (end_of c) (decoded m)).setup
    = ap (λ (t : Sessions). (session_at (end_of c) t).setup) (next-decoded m s d (small-packet d kd)) ∙ setup-next (end_of c) (decoded m) d in
    ap (λ (t : Memories). next_in t d) (early-in m s c kc e)
    ∙ sym (early-in (next_in m d) (next-sized m s d (small-packet d kd)) c kc (subst (λ (t : Setup). Early (effect_in t c)) (sym h) e))

commute-in : (m : Memories) → Sized m → (c d : Call) → IsPacketCall c → IsPacketCall d
    → DifferentStreams c (answer_of (decoded m) c) d (answer_of (next (decoded m) c) d) → next_in (next_in m c) d ≡ next_in (next_in m d) c
commute-in m s c d kc kd a =
    ⊎_elim
    (λ f. in-commute (end_of c) (end_of d) m (λ w. (left_by w c).words) (λ w. (left_by w d).words)
    (λ e. words-commute (memory_at (end_of c) m) (sized-at (end_of c) m s) c d kc kd (f e)))
    (λ b. ⊎_elim
    (λ f. early-commute-in m s c d kc kd (unread-early (session_at (end_of c) (decoded m)) c kc f))
    (λ f. sym (early-commute-in m s d c kd kc (second-early (decoded m) c d kd f)))
    b)
    a

-- ---- along the list

words-along : (k : ℕ) (calls : List Call) (m : Memories) → Sized m → Each Words32 calls
    → Neighbours (get_or (events_of (decoded m) calls) k no_event) (get_or (events_of (decoded m) calls) (suc k) no_event) → after_in m (exchanged k calls) ≡ after_in m calls
words-along k [] m s small o = absurd o.first
words-along zero (c ∷ []) m s small o = absurd o.second
words-along zero (c ∷ d ∷ calls) m s small o = ap (λ (t : Memories). after_in t calls) (sym (commute-in m s c d o.first o.second o.differ))
words-along (suc k) (c ∷ calls) m s small o =
    words-along k calls (next_in m c) (next-sized m s c small.0) small.1
    (subst (λ (t : Sessions). Neighbours (get_or (events_of t calls) k no_event) (get_or (events_of t calls) (suc k) no_event)) (sym (next-decoded m s c small.0)) o)

each-exchanged : (P : Call → Type 0) (k : ℕ) (l : List Call) → Each P l → Each P (exchanged k l)
each-exchanged P k [] e = tt
each-exchanged P zero (c ∷ []) e = e
each-exchanged P zero (c ∷ d ∷ l) (e, (f, g)) = (f, (e, g))
each-exchanged P (suc k) (c ∷ l) (e, f) = (e, each-exchanged P k l f)

pub exchange-in : (m : Memories) → Sized m → (calls : List Call) → Each Words32 calls → NeighboursChangePlaces (run_in m) calls
unfolding AnswersAsSessions
exchange-in m s calls small k c d a b e f kc kd differ =
    let same : (l : List Call) → Each Words32 l → (run_in m l).events ≡ events_of (decoded m) l = λ l w. ap (λ (r : Run Sessions). r.events) (answer-as-sessions m s l w) in
    let p = ap (λ (l : List Event). get_or l k no_event) (sym (same calls small)) ∙ e in
    let q = ap (λ (l : List Event). get_or l (suc k) no_event) (sym (same calls small)) ∙ f in
    let o : Neighbours (get_or (events_of (decoded m) calls) k no_event) (get_or (events_of (decoded m) calls) (suc k) no_event)
    = rw (p, q) (record { first = kc; second = kd; differ = differ }) in
    let events : (run_in m (exchanged k calls)).events ≡ exchanged k (run_in m calls).events
    = same (exchanged k calls) (each-exchanged Words32 k calls small)
    ∙ ap (λ (r : Run Sessions). r.events) (exchange (decoded m) calls k c d a b p q kc kd differ)
    ∙ ap (exchanged k) (sym (same calls small)) in
    ap₂ (λ (l : List Event) (t : Memories). record { events = l; left = t }) events (words-along k calls m s small o)
