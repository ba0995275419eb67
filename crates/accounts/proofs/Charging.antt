-- Laws of the pass: what is left to charge leads to the same account, and no sum gets too great. Assumes nothing.
use Rattle.std.proofs.Common.{◌≡◌, ℕ, suc, ◌+◌, ◌-◌, ◌*◌, ◌^◌, ◌<◌, ◌≤◌, true, false, not, ◌&&◌, eqb, List, length, get_or, take, drop, set, sym, refl, ap, ◌∙◌, subst, arith, take-take, drop-drop}
use native.Mathlib.Nat.{sub-zero}
use Rattle.basics.specs.Lines.{one}
use Rattle.basics.proofs.Bools.{choice, cond-true, cond-false}
use Rattle.basics.proofs.Bits.{one-most}
use Rattle.record.specs.declared.Record.{Record}
use Rattle.record.specs.Layout.{record_in}
use Rattle.entries.specs.declared.Entry.{Entry}
use Rattle.entries.specs.Entries.{zero_entry}
use Rattle.rules.specs.declared.Judge.{Judge}
use Rattle.rules.specs.Bounds.{SoundJudge}
use Rattle.rules.specs.Rules.{difference}
use Rattle.rules.specs.Run.{records_in}
use Rattle.rules.proofs.Laws.{arb-le}
use Rattle.rules.proofs.Stamps.{difference_less}
use Rattle.usage.specs.Charge.{added, added_at, Passes, account_of}
use Rattle.usage.proofs.Starting.{owner-most}
use Rattle.usage.proofs.Running.{added_at_lem, added-length}
use Rattle.accounts.specs.declared.charge.Shown.{Shown}
use Rattle.accounts.specs.declared.charge.Watch.{Watch}
use Rattle.accounts.specs.Watch.{shown_of, watch_of, idled_of, charged_of, slot_by, busy_by, next_watch, next_entries, charged_by, Within, Roomy, Chargeable}
use Rattle.accounts.proofs.Watched.{stamp-lt, account-same, first_watches, first-apart}

-- the record at place i
abbrev pub lines_at : List ℕ → ℕ → Record
lines_at bytes i = record_in (take 16 (drop (i * 16) bytes))

-- from the sixteen bytes that the code lends
pub shown_at : (bytes : List ℕ) (i : ℕ) → shown_of (record_in (take 16 (take (i * 16 + 16 - i * 16) (drop (i * 16) bytes)))) ≡ shown_of (lines_at bytes i)
shown_at bytes i =
    let sixteen : i * 16 + 16 - i * 16 ≡ 16 = omega arith in
    ap (λ (k : ℕ). shown_of (record_in (take 16 (take k (drop (i * 16) bytes))))) sixteen ∙ ap (λ (x : List ℕ). shown_of (record_in x)) (take-take 16 16 (drop (i * 16) bytes) (omega arith))

-- ---- bounds
slot-most : (w : Watch) (s : Shown) → w.slot ≤ 15 → s.arb ≤ 15 → slot_by w s ≤ 15
unfolding slot_by
slot-most w s a b = choice (λ (k : ℕ). k ≤ 15) (s.start && not s.reset && (eqb (difference w.stamp s.stamp) 1 && w.rqst)) (λ _. b) (λ _. a)

busy_less : (w : Watch) (s : Shown) → busy_by w s < 2 ^ 32
unfolding busy_by
busy_less w s =
    let P : ℕ → Type 0 = λ k. k < 2 ^ 32 in
    choice P (s.start && not s.reset) (λ _. let l = one-most s.ack in omega arith)
    (λ _. choice P w.opened (λ _. difference_less w.began s.stamp) (λ _. omega arith))

pub next-slot : (w : Watch) (s : Shown) → w.slot ≤ 15 → s.arb ≤ 15 → (next_watch w s).slot ≤ 15
unfolding next_watch
next-slot w s a b =
    choice (λ (x : Watch). x.slot ≤ 15) s.counts (λ _. choice (λ (x : Watch). x.slot ≤ 15) s.reset (λ _. omega arith) (λ _. slot-most w s a b)) (λ _. a)

-- what is added to one entry stays within a little more
within-added : (es : List Entry) (slot starts busy m n : ℕ) → slot < length es → starts ≤ 1 → busy ≤ 2 ^ 32 → Within m n es → Within (m + 1) (n + 2 ^ 32) (added_at es slot starts busy)
within-added es slot starts busy m n lt a b h k =
    let w = h k in
    subst (λ (e : Entry). (e.starts ≤ m + 1) × (e.busy ≤ n + 2 ^ 32)) (sym (added_at_lem es slot starts busy k lt)) (
      choice (λ (x : ℕ). (get_or es k zero_entry).starts + x ≤ m + 1) (eqb slot k) (λ _. omega arith) (λ _. omega arith),
      choice (λ (x : ℕ). (get_or es k zero_entry).busy + x ≤ n + 2 ^ 32) (eqb slot k) (λ _. omega arith) (λ _. omega arith),
    )

within_more : (es : List Entry) (m n : ℕ) → Within m n es → Within (m + 1) (n + 2 ^ 32) es
within_more es m n h k = let w = h k in (omega arith, omega arith)

pub next-within : (w : Watch) (es : List Entry) (s : Shown) (m n : ℕ) → length es ≡ 16 → w.slot ≤ 15 → s.arb ≤ 15 → Within m n es → Within (m + 1) (n + 2 ^ 32) (next_entries w es s)
unfolding next_entries
next-within w es s m n size a b h =
    choice (Within (m + 1) (n + 2 ^ 32)) s.counts
    (λ _. let slot = slot-most w s a b in let l = busy_less w s in within-added es (slot_by w s) (one (s.start && not s.reset)) (busy_by w s) m n (omega arith) (one-most (s.start && not s.reset)) (omega arith) h)
    (λ _. within_more es m n h)

pub next-length : (w : Watch) (es : List Entry) (s : Shown) → length (next_entries w es s) ≡ length es
unfolding next_entries
next-length w es s = choice (λ (x : List Entry). length x ≡ length es) s.counts (λ _. added-length es (slot_by w s) (one (s.start && not s.reset)) (busy_by w s)) (λ _. refl)

-- ---- the loop
-- i of n records are charged
pub record Charging (bytes : List ℕ) (n : ℕ) (begun : List Entry) (first : Watch) (es : List Entry) (w : Watch) (i : ℕ) : Type 0 where
  pub fits : n * 16 ≤ length bytes
  pub few : n ≤ 2 ^ 30
  pub le : i ≤ n
  pub size : length es ≡ 16
  pub slot : w.slot ≤ 15
  pub room : Within (2 ^ 31 + 1 + i) (2 ^ 62 + 2 ^ 32 + i * 2 ^ 32) es
  pub same : charged_by w es (records_in (n - i) (drop (i * 16) bytes)) ≡ charged_by first begun (records_in n bytes)

pub charging_starts : (bytes : List ℕ) (n : ℕ) (es : List Entry) (w : Watch) → Roomy bytes n w es → length es ≡ 16 → Charging bytes n es w es w 0
charging_starts bytes n es w h size =
    record {
      fits = h.fits;
      few = h.few;
      le = omega arith;
      size = size;
      slot = h.slot;
      room = λ k. let l = h.room k in (omega arith, omega arith);
      same = ap (λ (k : ℕ). charged_by w es (records_in k bytes)) (sub-zero n);
    }

-- the slot and the entry of the record at place i
module _ (bytes : List ℕ) (n : ℕ) (begun : List Entry) (first : Watch) (es : List Entry) (w : Watch) (i : ℕ) (g : Charging bytes n begun first es w i) (s : Shown) (e : s ≡ shown_of (lines_at bytes i)) where
  arb-most : s.arb ≤ 15
  arb-most = subst (λ (x : Shown). x.arb ≤ 15) (sym e) (arb-le (take 16 (drop (i * 16) bytes)))

  pub place_in : slot_by w s < 16
  place_in = let l = slot-most w s g.slot arb-most in omega arith

  pub charging_again : i < n → Charging bytes n begun first (next_entries w es s) (next_watch w s) (i + 1)
  charging_again lt =
      let fits = g.fits in
      let more : n - i ≡ suc (n - (i + 1)) = omega arith in
      let on : i * 16 + 16 ≡ (i + 1) * 16 = omega arith in
      let m : ℕ = n - (i + 1) in
      record {
        fits = g.fits;
        few = g.few;
        le = omega arith;
        size = next-length w es s ∙ g.size;
        slot = next-slot w s g.slot arb-most;
        room = λ k. let l = next-within w es s (2 ^ 31 + 1 + i) (2 ^ 62 + 2 ^ 32 + i * 2 ^ 32) g.size g.slot arb-most g.room k in (omega arith, omega arith);
        same = ap (λ (x : Shown). charged_by (next_watch w x) (next_entries w es x) (records_in m (drop ((i + 1) * 16) bytes))) e
            ∙ ap (λ (x : List ℕ). charged_by (next_watch w (shown_of (lines_at bytes i))) (next_entries w es (shown_of (lines_at bytes i))) (records_in m x)) (ap (λ (k : ℕ). drop k bytes) (sym on) ∙ sym (drop-drop 16 (i * 16) bytes))
            ∙ ap (λ (k : ℕ). charged_by w es (records_in k (drop (i * 16) bytes))) (sym more)
            ∙ g.same;
      }

  -- by the two ways of the code
  pub charged-one : i < n → (slot busy : ℕ) (entry : Entry) (x : List Entry) (v : Watch) → s.counts ≡ true → slot ≡ slot_by w s → busy ≡ busy_by w s → entry ≡ added (get_or es slot zero_entry) (one (s.start && not s.reset)) busy
      → x ≡ set es slot entry → v ≡ charged_of s slot → Charging bytes n begun first x v (i + 1)
  unfolding next_entries next_watch added_at
  charged-one lt slot busy entry x v c se be ee xe ve =
      let one_of : ℕ = one (s.start && not s.reset) in
      let same_entries : x ≡ next_entries w es s =
      xe ∙ ap (set es slot) ee
      ∙ ap (λ (b : ℕ). added_at es slot one_of b) be
      ∙ ap (λ (k : ℕ). added_at es k one_of (busy_by w s)) se
      ∙ sym (cond-true _ _ c) in
      let same-watch : v ≡ next_watch w s = ve ∙ ap (charged_of s) se ∙ sym (cond-true _ _ c) in
      subst (λ (y : List Entry). Charging bytes n begun first y v (i + 1)) (sym same_entries)
      (subst (λ (y : Watch). Charging bytes n begun first (next_entries w es s) y (i + 1)) (sym same-watch) (charging_again lt))

  pub idled_one : i < n → (x : List Entry) (v : Watch) → s.counts ≡ false → x ≡ es → v ≡ idled_of w s → Charging bytes n begun first x v (i + 1)
  unfolding next_entries next_watch
  idled_one lt x v c xe ve =
      subst (λ (y : List Entry). Charging bytes n begun first y v (i + 1)) (sym (xe ∙ sym (cond-false _ _ c)))
      (subst (λ (y : Watch). Charging bytes n begun first (next_entries w es s) y (i + 1)) (sym (ve ∙ sym (cond-false _ _ c))) (charging_again lt))

-- nothing is left
pub charging_ends : (bytes : List ℕ) (n : ℕ) (begun : List Entry) (first : Watch) (es : List Entry) (w : Watch) (i : ℕ) → Charging bytes n begun first es w i → n ≤ i
    → record { watch = w; entries = es } ≡ charged_by first begun (records_in n bytes)
charging_ends bytes n begun first es w i g le =
    let none : 0 ≡ n - i = omega arith in
    ap (λ (k : ℕ). charged_by w es (records_in k (drop (i * 16) bytes))) none ∙ g.same

-- ---- from the judge's state
pub watch_slot : (j : Judge) (stamp : ℕ) (w : Watch) → SoundJudge j → w ≡ watch_of j stamp → w.slot ≤ 15
watch_slot j stamp w h e = subst (λ (x : Watch). x.slot ≤ 15) (sym e) (owner-most j.wave.owner h.owner)

pub roomy : (bytes : List ℕ) (n : ℕ) (j : Judge) (es : List Entry) (w : Watch) (stamp : ℕ) → Chargeable bytes n j es → w ≡ watch_of j stamp → Roomy bytes n w es
roomy bytes n j es w stamp h e =
    record { fits = h.fits; few = h.few; slot = watch_slot j stamp w h.sound e; room = λ k. let l = h.room k in (omega arith, omega arith) }

-- what is charged from there is the account
pub counted-all : (bytes : List ℕ) (n : ℕ) (j : Judge) (es : List Entry) (w : Watch) → SoundJudge j → j.stamp < 2 ^ 32 → w ≡ watch_of j (record_in (take 16 bytes)).stamp → Passes j (records_in n bytes)
    → (charged_by w es (records_in n bytes)).entries ≡ account_of j es (records_in n bytes)
counted-all bytes n j es w sound was e p =
    let is : (record_in (take 16 bytes)).stamp < 2 ^ 32 = stamp-lt (take 16 bytes) in
    ap (λ (x : Watch). (charged_by x es (records_in n bytes)).entries) e
    ∙ account-same n bytes (watch_of j (record_in (take 16 bytes)).stamp) j es (first_watches j (record_in (take 16 bytes)).stamp sound was is) (λ _. first-apart j (record_in (take 16 bytes)).stamp is) sound p
