-- What charging keeps of the records before is what the judge's state says, so its working form charges as `charged` does. Assumes nothing.
use Rattle.std.proofs.Common.{◌≡◌, ℕ, zero, suc, ◌+◌, ◌*◌, ◌/◌, ◌%◌, ◌^◌, ◌<◌, ◌≤◌, Bool, true, false, cond, not, ◌&&◌, ◌||◌, eqb, List, length, get_or, take, drop, set, sym, refl, ap, ◌∙◌, subst, arith, eq-eqb, ne_eqb, eqb-true}
use mathlib.Core.Bool.{false≢true}
use lib.Seq.{set-get_or}
use borrow.Author.Tests.{eqb-false}
use Rattle.std.specs.Prelude.{Option, Some, None}
use Rattle.std.specs.Option.{unwrap_or}
use Rattle.basics.specs.Lines.{one}
use Rattle.basics.specs.Numbers.{transfer_most}
use Rattle.basics.proofs.Bools.{by-test, cond-true, cond-false, choice}
use Rattle.record.specs.declared.Record.{Record}
use Rattle.record.specs.Digits.{number}
use Rattle.record.specs.Layout.{bytes as bytesWide, record_in, fields_in}
use Rattle.record.proofs.Bytes.{AllBytes, record_is}
use Rattle.entries.specs.declared.Entry.{Entry}
use Rattle.entries.specs.Entries.{zero_entry}
use Rattle.rules.specs.declared.Judge.{Judge}
use Rattle.rules.specs.declared.Transfer.{Transfer}
use Rattle.rules.specs.declared.Transfer.TheVariants.{Idle, Open}
use Rattle.rules.specs.Bounds.{SoundTransfer, SoundJudge}
use Rattle.rules.specs.Rules.{difference}
use Rattle.rules.specs.State.{is_open, open_busy, aged_of, transfer_of, asked_of, diff_of, reset_of, moved_of, judge_of}
use Rattle.rules.specs.Run.{Taken, taken_in, records_in, rule_of}
use Rattle.rules.proofs.Laws.{stamp-holds, diff_le, judge-kept, arb-le}
use Rattle.rules.proofs.Stamps.{difference_less}
use Rattle.codes.specs.Owed.{words_of}
use Rattle.usage.proofs.Starting.{owner-charged}
use Rattle.usage.proofs.Running.{added_none}
use Rattle.usage.specs.Charge.{slot_of, starts_in, charged_to, busy_to, busy_in, added_at, charged, next_judge, Passes, account_of}
use Rattle.accounts.specs.declared.charge.Shown.{Shown}
use Rattle.accounts.specs.declared.charge.Watch.{Watch}
use Rattle.accounts.specs.Watch.{shown_of, last_of, watch_of, idled_of, cleared_of, slot_by, busy_by, next_watch, next_entries, charged_by}

-- ---- stamps
-- "The stamp's difference .., modulo 2^32": two differences in a row are the difference over both, if it is below 2^32
pub over_both : (a b c : ℕ) → a < 2 ^ 32 → b < 2 ^ 32 → c < 2 ^ 32 → difference a b + difference b c < 2 ^ 32 → difference a b + difference b c ≡ difference a c
over_both a b c la lb lc lt = omega arith

pub back_again : (n last : ℕ) → n < 2 ^ 32 → last < 2 ^ 32 → n ≡ difference (difference n last) last
back_again n last ln ll = omega arith

pub none_between : (stamp : ℕ) → stamp < 2 ^ 32 → 0 ≡ difference stamp stamp
none_between stamp l = omega arith

-- a stamp is 32 bits
low_bits : (n : ℕ) → n % 2 ^ 32 < 2 ^ 32
low_bits n = omega arith

pub stamp-lt : (bytes : List ℕ) → (record_in bytes).stamp < 2 ^ 32
unfolding record_in fields_in
stamp-lt bytes = low_bits (number bytesWide bytes / 2 ^ 96)

-- the owner's slot, as `unwrap_or` gives it
pub owners_slot : (o : Option ℕ) → unwrap_or o 0 ≡ slot_of o
owners_slot None = refl
owners_slot (Some slot) = refl

-- ---- what of a record an account hangs on
bit-zero : (n : ℕ) → (n % 2 ≡ 1 → ⊥) → n % 2 ≡ 0
bit-zero n ne = omega arith

two-bits : (b : ℕ) → b / 2 % 2 ≡ 0 → b % 2 ≡ 0 → b % 4 ≡ 0
two-bits b x y = omega arith

top_bit : (b : ℕ) → b < 256 → b / 128 % 2 ≡ 0 → b / 128 ≡ 0
top_bit b lt z = omega arith

-- START, ACK and RESET, by one test of their byte
counted-byte : (b : ℕ) → b < 256 → not (eqb (b / 128 * 128 + b % 4) 0) ≡ (eqb (b / 2 % 2) 1 || eqb (b % 2) 1 || eqb (b / 128 % 2) 1)
counted-byte b lt =
    by-test (eqb (b / 2 % 2) 1)
    (λ e. let z = eqb-true (b / 2 % 2) 1 e in some (omega arith) ∙ sym (ap (λ (x : Bool). x || eqb (b % 2) 1 || eqb (b / 128 % 2) 1) e))
    (λ e. by-test (eqb (b % 2) 1)
    (λ f. let z = eqb-true (b % 2) 1 f in some (omega arith) ∙ sym (ap (λ (x : Bool). x || eqb (b % 2) 1 || eqb (b / 128 % 2) 1) e ∙ ap (λ (x : Bool). x || eqb (b / 128 % 2) 1) f))
    (λ f. by-test (eqb (b / 128 % 2) 1)
    (λ g. let z = eqb-true (b / 128 % 2) 1 g in some (omega arith) ∙ sym (ap (λ (x : Bool). x || eqb (b % 2) 1 || eqb (b / 128 % 2) 1) e ∙ ap (λ (x : Bool). x || eqb (b / 128 % 2) 1) f ∙ g))
    (λ g. none (eqb-false (b / 2 % 2) 1 e) (eqb-false (b % 2) 1 f) (eqb-false (b / 128 % 2) 1 g) ∙ sym (ap (λ (x : Bool). x || eqb (b % 2) 1 || eqb (b / 128 % 2) 1) e ∙ ap (λ (x : Bool). x || eqb (b / 128 % 2) 1) f ∙ g))))
  where
    some : (b / 128 * 128 + b % 4 ≡ 0 → ⊥) → not (eqb (b / 128 * 128 + b % 4) 0) ≡ true
    some ne = ap not (ne_eqb (b / 128 * 128 + b % 4) 0 ne)

    none : (b / 2 % 2 ≡ 1 → ⊥) → (b % 2 ≡ 1 → ⊥) → (b / 128 % 2 ≡ 1 → ⊥) → not (eqb (b / 128 * 128 + b % 4) 0) ≡ false
    none x y z =
        let two : b % 4 ≡ 0 = two-bits b (bit-zero (b / 2) x) (bit-zero b y) in
        let high : b / 128 ≡ 0 = top_bit b lt (bit-zero (b / 128) z) in
        ap not (eq-eqb (b / 128 * 128 + b % 4) 0 (omega (arith, two, high)))

-- from the bytes that the code reads
pub shown-bytes : (xs : List ℕ) → 16 ≤ length xs → AllBytes xs → (stamp : ℕ) → stamp ≡ get_or xs 0 0 * 16777216 + get_or xs 1 0 * 65536 + get_or xs 2 0 * 256 + get_or xs 3 0
    → record { stamp = stamp; reset = eqb (get_or xs 4 0 / 128 % 2) 1; rqst = eqb (get_or xs 4 0 / 64 % 2) 1; arb = get_or xs 4 0 / 4 % 16; start = eqb (get_or xs 4 0 / 2 % 2) 1; ack = eqb (get_or xs 4 0 % 2) 1; counts = not (eqb (get_or xs 4 0 / 128 * 128 + get_or xs 4 0 % 4) 0) }
    ≡ shown_of (record_in (take 16 xs))
shown-bytes xs enough byte stamp e =
    let b : ℕ = get_or xs 4 0 in
    ap (λ (n : ℕ). record { stamp = n; reset = eqb (b / 128 % 2) 1; rqst = eqb (b / 64 % 2) 1; arb = b / 4 % 16; start = eqb (b / 2 % 2) 1; ack = eqb (b % 2) 1; counts = not (eqb (b / 128 * 128 + b % 4) 0) }) e
    ∙ ap (λ (x : Bool). record { stamp = get_or xs 0 0 * 16777216 + get_or xs 1 0 * 65536 + get_or xs 2 0 * 256 + get_or xs 3 0; reset = eqb (b / 128 % 2) 1; rqst = eqb (b / 64 % 2) 1; arb = b / 4 % 16; start = eqb (b / 2 % 2) 1; ack = eqb (b % 2) 1; counts = x }) (counted-byte b (byte 4))
    ∙ sym (ap shown_of (record_is xs enough byte))

-- ---- what is kept of the judge's state
pub record Watches (w : Watch) (j : Judge) : Type 0 where
  pub stamp : w.stamp < 2 ^ 32
  pub began : w.began < 2 ^ 32
  pub rqst : w.rqst ≡ j.wave.rqst
  pub slot : w.slot ≡ slot_of j.wave.owner
  pub opened : w.opened ≡ is_open j.transfer
  pub busy : is_open j.transfer ≡ true → open_busy j.transfer ≡ difference w.began w.stamp

-- the next record's difference
abbrev pub Apart : Watch → Judge → ℕ → Type 0
Apart w j stamp = diff_of j stamp ≡ difference w.stamp stamp

-- ---- transfers
busy-most : (t : Transfer) → SoundTransfer t → open_busy t ≤ transfer_most + 1
busy-most Idle h = omega arith
busy-most (Open words strobes age busy) h = omega (arith, h.high, h.few, h.young, h.spent)

busy_open : (t : Transfer) (d : ℕ) → is_open t ≡ true → busy_to t d ≡ open_busy t + d
busy_open Idle d e = absurd (false≢true e)
busy_open (Open words strobes age busy) d e = refl

busy-idle : (t : Transfer) (d : ℕ) → is_open t ≡ false → 0 ≡ busy_to t d
busy-idle Idle d e = refl
busy-idle (Open words strobes age busy) d e = absurd (false≢true (sym e))

aged_open : (t : Transfer) (tm0 : Bool) (d : ℕ) → is_open t ≡ is_open (aged_of t false false tm0 d)
aged_open Idle tm0 d = refl
aged_open (Open words strobes age busy) tm0 d = refl

aged-busy : (t : Transfer) (tm0 : Bool) (d : ℕ) → open_busy (aged_of t false false tm0 d) ≡ busy_to t d
aged-busy Idle tm0 d = refl
aged-busy (Open words strobes age busy) tm0 d = refl

-- a START without ACK opens one, which is busy in one cycle
moved_open : (t : Transfer) (start ack tm0 : Bool) (words d : ℕ) → (start || ack) ≡ true → (start && not ack) ≡ is_open (transfer_of t start ack tm0 words d)
moved_open t true true tm0 words d e = refl
moved_open t true false tm0 words d e = refl
moved_open t false true tm0 words d e = refl
moved_open t false false tm0 words d e = absurd (false≢true e)

moved_busy : (t : Transfer) (start ack tm0 : Bool) (words d : ℕ) → (start || ack) ≡ true → is_open (transfer_of t start ack tm0 words d) ≡ true → open_busy (transfer_of t start ack tm0 words d) ≡ 1
moved_busy t true true tm0 words d e o = absurd (false≢true o)
moved_busy t true false tm0 words d e o = refl
moved_busy t false true tm0 words d e o = absurd (false≢true o)
moved_busy t false false tm0 words d e o = absurd (false≢true e)

-- ---- tests
-- a record that changes an entry and is no START has ACK or RESET
ends_by : (start ack reset : Bool) → (start || ack || reset) ≡ true → (start && not reset) ≡ false → (ack || reset) ≡ true
ends_by start true reset c n = refl
ends_by start false true c n = refl
ends_by true false false c n = absurd (false≢true (sym n))
ends_by false false false c n = absurd (false≢true c)

-- one that changes none has none of them
none_of : (start ack reset : Bool) → (start || ack || reset) ≡ false → (start ≡ false) × (ack ≡ false) × (reset ≡ false)
none_of false false false e = (refl, refl, refl)
none_of false false true e = absurd (false≢true (sym e))
none_of false true reset e = absurd (false≢true (sym e))
none_of true ack reset e = absurd (false≢true (sym e))

without-reset : (start ack reset : Bool) → (start || ack || reset) ≡ true → reset ≡ false → (start || ack) ≡ true
without-reset true ack reset c n = refl
without-reset false true reset c n = refl
without-reset false false true c n = absurd (false≢true (sym n))
without-reset false false false c n = absurd (false≢true c)

added-nothing : (es : List Entry) (slot : ℕ) → added_at es slot 0 0 ≡ es
unfolding added_at
added-nothing es slot = ap (set es slot) (added_none (get_or es slot zero_entry)) ∙ set-get_or es slot zero_entry

none-busy_in : (t : Transfer) (r : Record) (d : ℕ) → starts_in r ≡ false → (r.ack || r.reset) ≡ false → busy_in t r d ≡ 0
unfolding busy_in
none-busy_in t r d a b = cond-false _ _ a ∙ cond-false _ _ b

idle-transfer : (t : Transfer) (start ack tm0 : Bool) (words d : ℕ) → start ≡ false → ack ≡ false → transfer_of t start ack tm0 words d ≡ aged_of t false false tm0 d
idle-transfer t false false tm0 words d e f = refl
idle-transfer t true ack tm0 words d e f = absurd (false≢true (sym e))
idle-transfer t false true tm0 words d e f = absurd (false≢true (sym f))

-- ---- one record
module _ (w : Watch) (j : Judge) (r : Taken) (h : Watches w j) (apart : Apart w j r.lines.stamp) (sound : SoundJudge j) (keeps : (rule_of j r (diff_of j r.lines.stamp)).number ≡ 0) (stamped : r.lines.stamp < 2 ^ 32) where
  abbrev d : ℕ
  d = diff_of j r.lines.stamp

  abbrev s : Shown
  s = shown_of r.lines

  -- what is open has been busy since the cycle before its START
  ended-busy : is_open j.transfer ≡ true → busy_to j.transfer d ≡ difference w.began s.stamp
  ended-busy o =
      let le : d ≤ 2 ^ 31 = diff_le j r.lines.stamp (stamp-holds j r d keeps) in
      let few = busy-most j.transfer sound.transfer in
      let was = h.busy o in
      let e : open_busy j.transfer + d ≡ difference w.began w.stamp + difference w.stamp s.stamp = ap (λ (k : ℕ). k + d) was ∙ ap (λ (k : ℕ). difference w.began w.stamp + k) apart in
      busy_open j.transfer d o ∙ e ∙ over_both w.began w.stamp s.stamp h.began h.stamp stamped (omega arith)

  pub slot_same : slot_by w s ≡ charged_to j.wave r.lines d
  unfolding slot_by charged_to
  slot_same =
      ap (λ (k : ℕ). cond (starts_in r.lines && (eqb k 1 && w.rqst)) s.arb w.slot) (sym apart)
      ∙ ap (λ (b : Bool). cond (starts_in r.lines && (eqb d 1 && b)) s.arb w.slot) h.rqst
      ∙ ap (cond (starts_in r.lines && (eqb d 1 && j.wave.rqst)) s.arb) h.slot

  busy-same : s.counts ≡ true → busy_by w s ≡ busy_in j.transfer r.lines d
  unfolding busy_by busy_in
  busy-same c =
      by-test (starts_in r.lines) (λ e. cond-true _ _ e ∙ sym (cond-true _ _ e))
      (λ e. cond-false _ _ e ∙ ended (ends_by s.start s.ack s.reset c e) ∙ sym (cond-false _ _ e))
    where
      ended : (s.ack || s.reset) ≡ true → cond w.opened (difference w.began s.stamp) 0 ≡ cond (s.ack || s.reset) (busy_to j.transfer d) 0
      ended f =
          by-test (is_open j.transfer)
          (λ o. cond-true _ _ (h.opened ∙ o) ∙ sym (ended-busy o) ∙ sym (cond-true _ _ f))
          (λ o. cond-false _ _ (h.opened ∙ o) ∙ busy-idle j.transfer d o ∙ sym (cond-true _ _ f))

  -- the account after it is the one that is meant
  pub entries-same : (es : List Entry) → next_entries w es s ≡ charged es j r.lines d
  unfolding next_entries charged
  entries-same es =
      choice (λ (x : List Entry). x ≡ charged es j r.lines d) s.counts
      (λ c. ap (λ (k : ℕ). added_at es k (one (starts_in r.lines)) (busy_by w s)) slot_same ∙ ap (added_at es (charged_to j.wave r.lines d) (one (starts_in r.lines))) (busy-same c))
      (λ c. sym (quiet (none_of s.start s.ack s.reset c)))
    where
      quiet : (s.start ≡ false) × (s.ack ≡ false) × (s.reset ≡ false) → charged es j r.lines d ≡ es
      quiet e =
          let starts : starts_in r.lines ≡ false = ap (λ (b : Bool). b && not s.reset) e.0 in
          let ends : (s.ack || s.reset) ≡ false = ap (λ (b : Bool). b || s.reset) e.1 ∙ e.2 in
          ap (λ (b : Bool). added_at es (charged_to j.wave r.lines d) (one b) (busy_in j.transfer r.lines d)) starts
          ∙ ap (added_at es (charged_to j.wave r.lines d) 0) (none-busy_in j.transfer r.lines d starts ends)
          ∙ added-nothing es (charged_to j.wave r.lines d)

  -- and what is kept after it is what the judge's next state says
  pub next_watches : Watches (next_watch w s) (judge_of j r.lines d)
  unfolding next_watch judge_of
  next_watches =
      choice (λ (x : Watch). Watches x (cond s.reset (reset_of j s.stamp) (moved_of j r.lines d))) s.counts
      (λ c. by-test s.reset
      (λ e. subst (λ (x : Watch). Watches x (cond s.reset (reset_of j s.stamp) (moved_of j r.lines d))) (sym (cond-true _ _ e)) (subst (Watches (cleared_of s)) (sym (cond-true _ _ e)) reset))
      (λ nr. subst (λ (x : Watch). Watches x (cond s.reset (reset_of j s.stamp) (moved_of j r.lines d))) (sym (cond-false _ _ nr)) (subst (Watches started) (sym (cond-false _ _ nr)) (moved nr (without-reset s.start s.ack s.reset c nr)))))
      (λ c. idle (none_of s.start s.ack s.reset c))
    where
      reset : Watches (cleared_of s) (reset_of j s.stamp)
      reset = record { stamp = stamped; began = stamped; rqst = refl; slot = refl; opened = refl; busy = λ o. absurd (false≢true o) }

      started : Watch
      started = record { stamp = s.stamp; rqst = s.rqst; slot = slot_by w s; opened = s.start && not s.ack; began = difference 1 s.stamp }

      owner : s.reset ≡ false → slot_by w s ≡ slot_of (moved_of j r.lines d).wave.owner
      owner nr = slot_same ∙ owner-charged j.wave r.lines d nr

      moved : s.reset ≡ false → (s.start || s.ack) ≡ true → Watches started (moved_of j r.lines d)
      moved nr some =
          let words : ℕ = words_of r.lines.tm0 r.lines.ad in
          record {
            stamp = stamped;
            began = difference_less 1 s.stamp;
            rqst = refl;
            slot = owner nr;
            opened = moved_open j.transfer s.start s.ack r.lines.tm0 words d some;
            busy = λ o. moved_busy j.transfer s.start s.ack r.lines.tm0 words d some o ∙ back_again 1 s.stamp (omega arith) stamped;
          }

      idle : (s.start ≡ false) × (s.ack ≡ false) × (s.reset ≡ false) → Watches (idled_of w s) (cond s.reset (reset_of j s.stamp) (moved_of j r.lines d))
      idle e =
          let stays : transfer_of j.transfer s.start s.ack r.lines.tm0 (words_of r.lines.tm0 r.lines.ad) d ≡ aged_of j.transfer false false r.lines.tm0 d = idle-transfer j.transfer s.start s.ack r.lines.tm0 (words_of r.lines.tm0 r.lines.ad) d e.0 e.1 in
          subst (Watches (idled_of w s)) (sym (cond-false _ _ e.2))
          (record {
            stamp = stamped;
            began = h.began;
            rqst = refl;
            slot = h.slot ∙ ap slot_of (sym (cond-false _ _ (ap (λ (b : Bool). b && asked_of j.wave d) e.0)));
            opened = h.opened ∙ aged_open j.transfer r.lines.tm0 d ∙ ap is_open (sym stays);
            busy = λ o. ap open_busy stays ∙ aged-busy j.transfer r.lines.tm0 d ∙ ended-busy (aged_open j.transfer r.lines.tm0 d ∙ ap is_open (sym stays) ∙ o);
          })

-- the difference of the record after it
next-apart : (w : Watch) (j : Judge) (r : Record) (d stamp : ℕ) → Apart (next_watch w (shown_of r)) (judge_of j r d) stamp
unfolding next_watch judge_of diff_of
next-apart w j r d stamp =
    let P : Watch → Type 0 = λ x. cond (cond r.reset (reset_of j r.stamp) (moved_of j r d)).seen (difference (cond r.reset (reset_of j r.stamp) (moved_of j r d)).stamp stamp) 0 ≡ difference x.stamp stamp in
    choice P (shown_of r).counts (λ _. choice P r.reset (λ _. here) (λ _. here)) (λ _. here)
  where
    here : cond (cond r.reset (reset_of j r.stamp) (moved_of j r d)).seen (difference (cond r.reset (reset_of j r.stamp) (moved_of j r d)).stamp stamp) 0 ≡ difference r.stamp stamp
    here = choice (λ (k : Judge). cond k.seen (difference k.stamp stamp) 0 ≡ difference r.stamp stamp) r.reset (λ _. refl) (λ _. refl)

-- ---- one record after another
pub account-same : (n : ℕ) (bytes : List ℕ) (w : Watch) (j : Judge) (es : List Entry) → Watches w j → (0 < n → Apart w j (record_in (take 16 bytes)).stamp) → SoundJudge j → Passes j (records_in n bytes)
    → (charged_by w es (records_in n bytes)).entries ≡ account_of j es (records_in n bytes)
account-same zero bytes w j es h apart sound p = refl
account-same (suc n) bytes w j es h apart sound p =
    let r : Taken = taken_in (take 16 bytes) in
    let d : ℕ = diff_of j r.lines.stamp in
    let first : Apart w j r.lines.stamp = apart (omega arith) in
    let lt : r.lines.stamp < 2 ^ 32 = stamp-lt (take 16 bytes) in
    account-same n (drop 16 bytes) (next_watch w (shown_of r.lines)) (next_judge j r) (next_entries w es (shown_of r.lines))
    (next_watches w j r h first sound p.0 lt)
    (λ _. next-apart w j r.lines d (record_in (take 16 (drop 16 bytes))).stamp)
    (judge-kept j r d sound (arb-le (take 16 bytes)) p.0) p.1
    ∙ ap (λ (x : List Entry). account_of (next_judge j r) x (records_in n (drop 16 bytes))) (entries-same w j r h first sound p.0 lt es)

-- from a state of the judge
pub first_watches : (j : Judge) (first : ℕ) → SoundJudge j → j.stamp < 2 ^ 32 → first < 2 ^ 32 → Watches (watch_of j first) j
first_watches j first sound was is =
    let last : last_of j first < 2 ^ 32 = choice (λ (k : ℕ). k < 2 ^ 32) j.seen (λ _. was) (λ _. is) in
    let few = busy-most j.transfer sound.transfer in
    record {
      stamp = last;
      began = difference_less (open_busy j.transfer) (last_of j first);
      rqst = refl;
      slot = refl;
      opened = refl;
      busy = λ _. back_again (open_busy j.transfer) (last_of j first) (omega arith) last;
    }

pub first-apart : (j : Judge) (first : ℕ) → first < 2 ^ 32 → Apart (watch_of j first) j first
unfolding diff_of
first-apart j first lt = go j.seen
  where
    go : (b : Bool) → cond b (difference j.stamp first) 0 ≡ difference (cond b j.stamp first) first
    go true = refl
    go false = none_between first lt
