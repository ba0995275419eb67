-- Which cycles a record makes busy, and for which slot: what the judge charges is what the recording has. Assumes nothing.
use Prim.Native.Nat.{ℕ, zero, suc, ◌+◌, ◌≤◌, ◌<◌}
use mathlib.Core.Bool.{Bool, true, false, not, cond, ◌||◌}
use mathlib.Core.Path.{◌≡◌, refl, sym, ap, subst, ◌∙◌}
use mathlib.Core.Logic.{◌⊎◌, inl, inr}
use native.Mathlib.Omega.{arith}
use lib.Dec.{eqb, ltb}
use borrow.Author.Tests.{eqb-true, eqb-false, ltb-true, ltb-false, not-true}
use Rattle.basics.specs.Lines.{one}
use Rattle.basics.proofs.Bools.{by-test, and_both, cond-true, cond-false}
use Rattle.rules.specs.declared.Judge.{Judge}
use Rattle.rules.specs.declared.Transfer.{Transfer}
use Rattle.rules.specs.declared.Transfer.TheVariants.{Idle, Open}
use Rattle.rules.specs.Recording.{Lines, gap, cycle, Opened}
use Rattle.rules.specs.Totals.{Number}
use Rattle.rules.specs.Thirteen.{Rule4}
use Rattle.rules.proofs.Places.{below, clash, or_split}
use Rattle.rules.proofs.Hold.{Held, opened-only}
use Rattle.rules.proofs.Ride.{Forward, later}
use Rattle.usage.specs.Using.{StartOf, Ends, attention, answered, aborted, Busy, cycles_of}
use Rattle.usage.specs.Charge.{slot_of, starts_in, charged_to, busy_to, busy_in}
use Rattle.usage.proofs.Counts.{number-map, number-all, number-to}
use Rattle.usage.proofs.Starting.{start-only, start-starts, starts_in_lem, charged-owner, Carries}

-- ---- ends
-- no START while a transfer is open, where the record has no RESET
abbrev pub Alone : Lines → ℕ → Type 0
Alone r i = (r i).reset ≡ false → Rule4 r i

-- an attention cycle while a transfer is open is none
met : (r : Lines) (i s k m : ℕ) → Alone r i → StartOf r s k → k ≡ i → Opened r i m → ⊥
met r i s k m lone a e o =
    let h = start-starts r k s a in
    clash (subst (λ x. (r x).start ≡ true) e h.active) (lone (subst (λ x. (r x).reset ≡ false) e h.alive) m o)

-- one thing at most ends at a record
ends-only : (r : Lines) (i s t k m : ℕ) → Alone r i → StartOf r s k → StartOf r t m → Ends r k i → Ends r m i → k ≡ m
ends-only r i s t k m lone a b (attention e _) (attention f _) = e ∙ sym f
ends-only r i s t k m lone a b (attention e _) (answered o _) = absurd (met r i s k m lone a e o)
ends-only r i s t k m lone a b (attention e _) (aborted o _) = absurd (met r i s k m lone a e o)
ends-only r i s t k m lone a b (answered o _) (attention e _) = absurd (met r i t m k lone b e o)
ends-only r i s t k m lone a b (aborted o _) (attention e _) = absurd (met r i t m k lone b e o)
ends-only r i s t k m lone a b (answered o _) (answered q _) = opened-only r i k m o q
ends-only r i s t k m lone a b (answered o _) (aborted q _) = opened-only r i k m o q
ends-only r i s t k m lone a b (aborted o _) (answered q _) = opened-only r i k m o q
ends-only r i s t k m lone a b (aborted o _) (aborted q _) = opened-only r i k m o q

-- every end has ACK or RESET
ends_by : (r : Lines) (k i : ℕ) → Ends r k i → ((r i).ack ≡ true) ⊎ ((r i).reset ≡ true)
ends_by r k i (attention _ a) = inl a
ends_by r k i (answered _ a) = inl a
ends_by r k i (aborted _ a) = inr a

-- what ended before record i ended before the START of what is open there
pub ends-before : (r : Lines) (i k m e : ℕ) → Opened r i k → Ends r m e → e < i → e < k
ends-before r i k m e o h lt =
    by-test (ltb e k) (ltb-true e k) (λ f. absurd (late (ltb-false e k f) (ends_by r m e h)))
  where
    late : k ≤ e → ((r e).ack ≡ true) ⊎ ((r e).reset ≡ true) → ⊥
    late le (inl a) =
        below k e (let z : k < suc e = omega arith in z) (λ gt. clash a (o.unanswered e gt lt)) (λ q. clash a (subst (λ x. (r x).ack ≡ false) q o.lasts))
    late le (inr a) = clash a (o.unbroken e le lt)

-- ---- busy cycles
-- what is busy was so before record i
pub busy_below : (r : Lines) (s i c : ℕ) → Forward r i → Busy r s i c → c < cycle r i
busy_below r s i c f b = let z = later r i b.end f b.within in let h = b.high in omega arith

busy-within : (r : Lines) (s i c : ℕ) → Forward r i → Busy r s i c → c < cycles_of r i
busy-within r s zero c f b = absurd (let z = b.within in omega arith)
busy-within r s (suc n) c f b =
    let h = b.high in
    below b.end n b.within
    (λ lt. let z = later r n b.end (λ m x y. f m x (omega arith)) lt in omega arith)
    (λ e. let z : cycle r b.end ≡ cycle r n = ap (cycle r) e in omega arith)

-- before the START of what is open nothing is busy from there on
pub busy-before : (r : Lines) (s i k c : ℕ) → Forward r k → Opened r i k → Busy r s i c → c < cycle r k
busy-before r s i k c f o b =
    let lt = ends-before r i k b.start b.end o b.ends b.within in
    let z = later r k b.end f lt in
    let h = b.high in
    omega arith

busy-more : (r : Lines) (s i c : ℕ) → Busy r s i c → Busy r s (suc i) c
busy-more r s i c b =
    record { start = b.start; end = b.end; within = omega (arith, b.within); slot = b.slot; ends = b.ends; low = b.low; high = b.high }

-- busy with record i is busy without it, or ends there
busy_split : {A : Type 0} (r : Lines) (s i c : ℕ) → Busy r s (suc i) c → (Busy r s i c → A) → ((k : ℕ) → StartOf r s k → Ends r k i → cycle r k ≤ c → A) → A
busy_split r s i c b p q =
    below b.end i b.within
    (λ lt. p (record { start = b.start; end = b.end; within = lt; slot = b.slot; ends = b.ends; low = b.low; high = b.high }))
    (λ e. q b.start b.slot (subst (λ x. Ends r b.start x) e b.ends) (let z = b.low in omega arith))

-- ---- what a record closes
-- something of this slot, so many cycles long, both ends counted; or nothing, which adds nothing
pub data Closes (r : Lines) (i slot n : ℕ) : Type 0 where
  ending : (k : ℕ) → StartOf r slot k → Ends r k i → cycle r k + n ≡ cycle r i + 1 → ((s c : ℕ) → Busy r s i c → c < cycle r k) → Closes r i slot n
  nothing : ((s k : ℕ) → StartOf r s k → Ends r k i → ⊥) → n ≡ 0 → Closes r i slot n

-- no more cycles are busy
still : (r : Lines) (s i c : ℕ) → Forward r i → ((k : ℕ) → StartOf r s k → Ends r k i → ⊥) → Number (Busy r s i) (cycles_of r i) c → Number (Busy r s (suc i)) (cycle r i + 1) c
still r s i c f not-ended h =
    number-map (Busy r s i) (Busy r s (suc i)) (cycle r i + 1) c
    (λ x _. (busy-more r s i x, λ b. busy_split r s i x b (λ y. y) (λ k a e _. absurd (not-ended k a e))))
    (number-to (Busy r s i) (cycles_of r i) (cycle r i + 1) c (λ x. busy-within r s i x f) (λ x b. let z = busy_below r s i x f b in omega arith) h)

-- n more are
closed : (r : Lines) (s i c n k : ℕ) → Forward r i → Alone r i → StartOf r s k → Ends r k i → cycle r k + n ≡ cycle r i + 1 → ((x : ℕ) → Busy r s i x → x < cycle r k)
    → Number (Busy r s i) (cycles_of r i) c → Number (Busy r s (suc i)) (cycle r i + 1) (c + n)
closed r s i c n k f lone a e sum old h =
    subst (λ x. Number (Busy r s (suc i)) x (c + n)) sum
    (number-all (Busy r s (suc i)) (cycle r k) n c
    (λ x low lt. record { start = k; end = i; within = omega arith; slot = a; ends = e; low = low; high = omega arith })
    (number-map (Busy r s i) (Busy r s (suc i)) (cycle r k) c
    (λ x lt. (
      busy-more r s i x,
      λ b. busy_split r s i x b (λ y. y) (λ m d g low.
          let same : cycle r m ≡ cycle r k = ap (cycle r) (ends-only r i s s m k lone d a g e) in absurd (omega arith)),
    ))
    (number-to (Busy r s i) (cycles_of r i) (cycle r k) c (λ x. busy-within r s i x f) old h)))

pub busy-next : (r : Lines) (s i c slot n : ℕ) → Forward r i → Alone r i → Closes r i slot n → Number (Busy r s i) (cycles_of r i) c → Number (Busy r s (suc i)) (cycle r i + 1) (c + cond (eqb slot s) n 0)
busy-next r s i c slot n f lone (nothing none z) h =
    let e : c ≡ c + cond (eqb slot s) n 0 = same (eqb slot s) in
    subst (Number (Busy r s (suc i)) (cycle r i + 1)) e (still r s i c f (none s) h)
  where
    same : (b : Bool) → c ≡ c + cond b n 0
    same true = omega arith
    same false = omega arith
busy-next r s i c slot n f lone (ending k a e sum old) h =
    by-test (eqb slot s)
    (λ b. subst (λ x. Number (Busy r s (suc i)) (cycle r i + 1) (c + x)) (sym (cond-true n 0 b))
    (closed r s i c n k f lone (subst (λ x. StartOf r x k) (eqb-true slot s b) a) e sum (old s) h))
    (λ b. let z : c ≡ c + cond (eqb slot s) n 0 = (let y : cond (eqb slot s) n 0 ≡ 0 = cond-false n 0 b in omega arith) in
    subst (Number (Busy r s (suc i)) (cycle r i + 1)) z
    (still r s i c f (λ m d g. eqb-false slot s b (start-only r k slot s a (subst (StartOf r s) (ends-only r i s slot m k lone d a g e) d))) h))

-- ---- what the judge charges
module _ (r : Lines) (i : ℕ) (j : Judge) (f : Forward r i) (held : Held r i j.transfer) (carries : Carries r i j) where
  -- a record without ACK and RESET ends nothing
  none-ends : (r i).ack ≡ false → (r i).reset ≡ false → (s k : ℕ) → StartOf r s k → Ends r k i → ⊥
  none-ends na nr s k a e = by_line (ends_by r k i e)
    where
      by_line : ((r i).ack ≡ true) ⊎ ((r i).reset ≡ true) → ⊥
      by_line (inl x) = clash x na
      by_line (inr x) = clash x nr

  -- a START ends itself where it has ACK
  closes_start : (slot : ℕ) → StartOf r slot i → Closes r i slot (one (r i).ack)
  closes_start slot a = by_ack (r i).ack refl
    where
      by_ack : (b : Bool) → (r i).ack ≡ b → Closes r i slot (one b)
      by_ack true e = ending i a (attention refl e) refl (λ s c. busy_below r s i c f)
      by_ack false e = nothing (none-ends e (start-starts r i slot a).alive) refl

  -- ACK and RESET end what is open, which is the owner's
  closes_open : starts_in (r i) ≡ false → ((r i).ack || (r i).reset) ≡ true → Closes r i (slot_of j.wave.owner) (busy_to j.transfer (gap r i))
  closes_open ns e = by_transfer j.transfer held
    where
      by_transfer : (t : Transfer) → Held r i t → Closes r i (slot_of j.wave.owner) (busy_to t (gap r i))
      by_transfer Idle h = nothing by_end refl
        where
          by_end : (s k : ℕ) → StartOf r s k → Ends r k i → ⊥
          by_end s k a (attention q _) =
              let here = start-starts r k s a in
              clash (starts_in_lem r i (subst (λ x. (r x).start ≡ true) q here.active) (subst (λ x. (r x).reset ≡ false) q here.alive)) ns
          by_end s k a (answered o _) = h k o
          by_end s k a (aborted o _) = h k o
      by_transfer (Open w n a b) (k, h) =
          ending k (carries k h.since) (or_split (r i).ack (r i).reset e (answered h.since) (aborted h.since)) (omega (arith, h.spent)) (λ s c. busy-before r s i k c (λ m x y. f m x (let u = h.since.earlier in omega arith)) h.since)

  pub closes : ((r i).start ≡ true → (r i).reset ≡ false → StartOf r (charged_to j.wave (r i) (gap r i)) i) → Closes r i (charged_to j.wave (r i) (gap r i)) (busy_in j.transfer (r i) (gap r i))
  unfolding busy_in
  closes starting =
      by-test (starts_in (r i))
      (λ e. let z = and_both (r i).start (not (r i).reset) e in
      subst (Closes r i slot) (sym (cond-true _ _ e)) (closes_start slot (starting z.0 (not-true (r i).reset z.1))))
      (λ e. subst (Closes r i slot) (sym (cond-false _ _ e))
      (by-test ((r i).ack || (r i).reset)
      (λ x. subst (Closes r i slot) (sym (cond-true _ _ x)) (subst (λ (k : ℕ). Closes r i k (busy_to j.transfer (gap r i))) (sym (charged-owner j.wave (r i) (gap r i) e)) (closes_open e x)))
      (λ x. subst (Closes r i slot) (sym (cond-false _ _ x)) (nothing (none-ends (neither (r i).ack (r i).reset x).0 (neither (r i).ack (r i).reset x).1) refl))))
    where
      slot : ℕ
      slot = charged_to j.wave (r i) (gap r i)

      neither : (a b : Bool) → (a || b) ≡ false → (a ≡ false) × (b ≡ false)
      neither true b e = clash refl e
      neither false b e = (refl, e)
