-- The bounds of a state as facts; an open transfer keeps them and comes nearer its end. Assumes nothing.
use Rattle.std.specs.Prelude.{Option, Some, None}
use Prim.Native.Nat.{ℕ, zero, suc, ◌+◌, ◌-◌, ◌*◌, ◌^◌, ◌<◌, ◌≤◌}
use mathlib.Core.Path.{◌≡◌, refl, ap, ◌∙◌}
use mathlib.Core.Bool.{Bool, true, false, cond, not, ◌||◌}
use mathlib.Core.List.{List}
use native.Mathlib.Omega.{arith}
use native.Mathlib.Decide.{ℕ_discrete}
use lib.ListN.{get_or}
use lib.Dec.{eqb, ltb}
use borrow.Author.Tests.{eqb-true, eqb-false, ltb-true}
use Rattle.basics.proofs.Bools.{choice, and_both}
use Rattle.slots.specs.Set.{mem}
use Rattle.cycle.specs.declared.Bus.{Bus}
use Rattle.cycle.specs.declared.Progress.{Progress}
use Rattle.cycle.specs.declared.Event.{Event}
use Rattle.cycle.specs.declared.Event.TheVariants.{Nothing, Strobe, Finish}
use Rattle.cycle.specs.declared.Transfer.{Transfer}
use Rattle.cycle.specs.declared.Transfer.TheVariants.{Idle, Open}
use Rattle.cycle.specs.declared.Note.{Note}
use Rattle.cycle.specs.declared.Note.TheVariants.{Clear, Extra}
use Rattle.basics.specs.Numbers.{watchdog, transfer_most}
use Rattle.cycle.specs.Bounds.{lawful_word, lawful_below, lawful_words}
use Rattle.cycle.specs.Arbitration.{attends}
use Rattle.cycle.specs.Transfers.{expires, opened, watched, struck, going_on, progress_of}

-- the cycles that an open transfer may still last: the watchdog's for each word owed
unfoldable pub left : Transfer → ℕ
left Idle = 0
left (Open w a) = watchdog * w - a

abbrev pub OwnerIn : Option ℕ → Type 0
OwnerIn None = Unit {0}
OwnerIn (Some s) = s < 16

abbrev pub TransferIn : Transfer → Type 0
TransferIn Idle = Unit {0}
TransferIn (Open w a) = (1 ≤ w) × (w ≤ 16) × (a < watchdog)

-- the bounds under "One bus cycle"
pub record Sound (b : Bus) : Type 0 where
  pub slots : b.wave < 2 ^ 16
  pub settled : b.settling ≤ 2
  pub turns : b.turn < b.limit
  pub limited : b.limit ≤ 16
  pub owned : OwnerIn b.owner
  pub aging : TransferIn b.transfer
  pub rest : b.wave ≡ 0 → b.turn ≡ 0
  pub still : b.wave ≡ 0 → b.settling ≡ 0

pub left_most : (t : Transfer) → TransferIn t → left t ≤ transfer_most
unfolding left
left_most Idle h = omega arith
left_most (Open w a) h = omega (arith, h.1)

-- what an open transfer with w words owed and of age a becomes: within the bounds, and nearer its end
abbrev Older : ℕ → ℕ → Transfer → Type 0
Older w a t = TransferIn t × (suc (left t) ≤ watchdog * w - a)

over_older : (w a : ℕ) → 1 ≤ w → a < watchdog → Older w a Idle
unfolding left
over_older w a k h = (tt, omega arith)

watched_older : (w a : ℕ) (n : Note) → 1 ≤ w → w ≤ 16 → a < watchdog → Older w a (watched w a n).transfer
unfolding watched left
watched_older w a n k l h =
    choice (λ (p : Progress). Older w a p.transfer) (expires a)
    (λ e. over_older w a k h)
    (λ e. let d : a + 1 ≡ watchdog → ⊥ = eqb-false (a + 1) watchdog e in ((k, l, omega arith), omega arith))

struck_older : (w a : ℕ) → 1 ≤ w → w ≤ 16 → a < watchdog → Older w a (struck w a).transfer
unfolding struck left
struck_older w a k l h =
    choice (λ (p : Progress). Older w a p.transfer) (ltb 1 w)
    (λ e. let q : 1 < w = ltb-true 1 w e in ((omega arith, omega arith, omega arith), omega arith))
    (λ e. watched_older w a Extra k l h)

going_older : (e : Event) (w a : ℕ) → 1 ≤ w → w ≤ 16 → a < watchdog → Older w a (going_on e w a).transfer
unfolding going_on
going_older (Finish s) w a k l h = over_older w a k h
going_older Strobe w a k l h = struck_older w a k l h
going_older Nothing w a k l h = watched_older w a Clear k l h

-- the words of a slot
word_at : (k : ℕ) (words : List ℕ) (i : ℕ) → i < k → lawful_below k words ≡ true → lawful_word (get_or words i 0) ≡ true
unfolding lawful_below
word_at zero words i l e = absurd (omega arith)
word_at (suc k) words i l e =
    let h = and_both (lawful_word (get_or words k 0)) (lawful_below k words) e in
    elim (ℕ_discrete i k) [ yes q ↦ ap (λ (n : ℕ). lawful_word (get_or words n 0)) q ∙ h.0 | no d ↦ word_at k words i (omega arith) h.1 ]

word-le : (n : ℕ) → lawful_word n ≡ true → n ≤ 16
unfolding lawful_word
word-le n e = go (eqb n 0) refl (eqb n 1) refl (eqb n 2) refl (eqb n 4) refl (eqb n 8) refl e
  where
    go : (p : Bool) → eqb n 0 ≡ p → (q : Bool) → eqb n 1 ≡ q → (r : Bool) → eqb n 2 ≡ r → (s : Bool) → eqb n 4 ≡ s → (t : Bool) → eqb n 8 ≡ t
        → (p || q || r || s || t || eqb n 16) ≡ true → n ≤ 16
    go true f q g r h s j t k x = omega (arith, eqb-true n 0 f)
    go false f true g r h s j t k x = omega (arith, eqb-true n 1 g)
    go false f false g true h s j t k x = omega (arith, eqb-true n 2 h)
    go false f false g false h true j t k x = omega (arith, eqb-true n 4 j)
    go false f false g false h false j true k x = omega (arith, eqb-true n 8 k)
    go false f false g false h false j false k x = omega (arith, eqb-true n 16 x)

opened_in : (s : Option ℕ) (wants : ℕ) (words : List ℕ) → OwnerIn s → lawful_words words ≡ true → TransferIn (opened s wants words)
unfolding opened attends
opened_in None wants words o w = tt
opened_in (Some i) wants words o w = go (mem i wants) (eqb (get_or words i 0) 0) refl
  where
    go : (c d : Bool) → eqb (get_or words i 0) 0 ≡ d → TransferIn (cond (not c || d) Idle (Open (get_or words i 0) 0))
    go false d q = tt
    go true true q = tt
    go true false q =
        let n : get_or words i 0 ≡ 0 → ⊥ = eqb-false (get_or words i 0) 0 q in
        (omega arith, word-le (get_or words i 0) (word_at 16 words i o w), omega arith)

pub progress_in : (t : Transfer) (e : Event) (s : Option ℕ) (wants : ℕ) (words : List ℕ) → TransferIn t → OwnerIn s → lawful_words words ≡ true
    → TransferIn (progress_of t e s wants words).transfer
unfolding progress_of
progress_in Idle e s wants words h o w = opened_in s wants words o w
progress_in (Open n a) e s wants words h o w = (going_older e n a h.0 h.1 h.2).0

-- with no START, an idle transfer stays idle and an open one comes nearer its end
pub progress_left : (t : Transfer) (e : Event) (wants : ℕ) (words : List ℕ) → TransferIn t → left (progress_of t e None wants words).transfer ≤ left t - 1
unfolding progress_of opened left
progress_left Idle e wants words h = omega arith
progress_left (Open n a) e wants words h = let g = going_older e n a h.0 h.1 h.2 in omega (arith, g.1)
