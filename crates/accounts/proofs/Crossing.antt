-- A torn record that a piece completes, and the records behind it in the piece: what the code puts together is what the definitions say. Assumes nothing.
use Rattle.std.proofs.Common.{◌≡◌, ℕ, suc, ◌+◌, ◌-◌, ◌^◌, ◌<◌, ◌≤◌, List, [], ◌∷◌, ◌++◌, length, take, drop, sym, ap, ◌∙◌, subst, arith, length-append, length-drop, length-take-le, take_all, take-take}
use lib.Seq.{paste, take-paste, length-paste, take-append-add, drop-append-add}
use Rattle.record.specs.Layout.{record_in}
use Rattle.entries.specs.declared.Entry.{Entry}
use Rattle.rules.specs.declared.Judge.{Judge}
use Rattle.rules.specs.Run.{Taken, taken_in, records_in}
use Rattle.rules.proofs.Laws.{arb-le}
use Rattle.judge.proofs.Runs.{rest_is}
use Rattle.usage.specs.Charge.{account_of}
use Rattle.accounts.specs.declared.charge.Watch.{Watch}
use Rattle.accounts.specs.declared.charge.Charged.{Charged}
use Rattle.accounts.specs.Watch.{shown_of, watch_of, next_watch, next_entries, charged_by, Within, Roomy, Chargeable}
use Rattle.accounts.proofs.Charging.{next-within, next-slot, watch_slot, counted-all}

module _ (torn piece : List ℕ) (held n : ℕ) (j : Judge) (es : List Entry) (sixteen : length torn ≡ 16) (part : held < 16) (h : Chargeable (take held torn ++ piece) n j es) (some : 1 ≤ n) where
  abbrev all : List ℕ
  all = take held torn ++ piece

  size : length all ≡ held + length piece
  size = length-append (take held torn) piece ∙ ap (λ (k : ℕ). k + length piece) (length-take-le held torn (omega arith))

  pub lacks : 16 - held ≤ length piece
  lacks = let s = size in let f = h.fits in omega arith

  lacking-size : length (take (16 - held) piece) ≡ 16 - held
  lacking-size = length-take-le (16 - held) piece lacks

  pub fills : held + length (take (16 - held) piece) ≤ 16
  fills = let l = lacking-size in omega arith

  -- the sixteen bytes that are put together
  abbrev front : List ℕ
  front = paste torn held (take (16 - held) piece) (length (take (16 - held) piece))

  front_is : front ≡ take 16 all
  front_is =
      let l = lacking-size in
      let full : held + length (take (16 - held) piece) ≡ 16 = omega arith in
      let long : length front ≡ 16 = length-paste torn held (take (16 - held) piece) (length (take (16 - held) piece)) (omega arith) (omega arith) ∙ sixteen in
      let held_size : length (take held torn) ≡ held = length-take-le held torn (omega arith) in
      let sum : length (take held torn) + (16 - held) ≡ 16 = omega arith in
      sym (take_all 16 front (omega arith))
      ∙ ap (λ (k : ℕ). take k front) (sym full)
      ∙ take-paste torn held (take (16 - held) piece) (length (take (16 - held) piece)) (omega arith) (omega arith)
      ∙ ap (λ (x : List ℕ). take held torn ++ x) (take_all (length (take (16 - held) piece)) (take (16 - held) piece) (omega arith))
      ∙ sym (take-append-add (take held torn) piece (16 - held))
      ∙ ap (λ (k : ℕ). take k all) sum

  behind : drop 16 all ≡ drop (16 - held) piece
  behind =
      let held_size : length (take held torn) ≡ held = length-take-le held torn (omega arith) in
      let sum : length (take held torn) + (16 - held) ≡ 16 = omega arith in
      ap (λ (k : ℕ). drop k all) (sym sum) ∙ drop-append-add (take held torn) piece (16 - held)

  -- the completed record is the first one of all
  abbrev first : Taken
  first = taken_in (take 16 all)

  records_are : records_in n all ≡ first ∷ records_in (n - 1) (drop (16 - held) piece)
  records_are =
      let one_more : n ≡ suc (n - 1) = omega arith in
      ap (λ (k : ℕ). records_in k all) one_more ∙ ap (λ (x : List ℕ). first ∷ records_in (n - 1) x) behind

  module _ (w : Watch) (we : w ≡ watch_of j (record_in (take 16 front)).stamp) where
    front-take : take 16 front ≡ take 16 all
    front-take = ap (take 16) front_is ∙ take-take 16 16 all (omega arith)

    watch_is : w ≡ watch_of j (record_in (take 16 all)).stamp
    watch_is = we ∙ ap (λ (x : List ℕ). watch_of j (record_in x).stamp) front-take

    slot_in : w.slot ≤ 15
    slot_in = watch_slot j _ w h.sound we

    pub roomy_front : Roomy front 1 w es
    roomy_front =
        let l = lacking-size in
        let long : length front ≡ 16 = length-paste torn held (take (16 - held) piece) (length (take (16 - held) piece)) (omega arith) (omega arith) ∙ sixteen in
        record { fits = omega arith; few = omega arith; slot = slot_in; room = λ k. let r = h.room k in (omega arith, omega arith) }

    module _ (long : length es ≡ 16) (one : Charged) (oe : one ≡ charged_by w es (records_in 1 front)) where
      one_is : one ≡ record { watch = next_watch w (shown_of first.lines); entries = next_entries w es (shown_of first.lines) }
      one_is = oe ∙ ap (λ (x : List ℕ). charged_by w es (taken_in x ∷ [])) front-take

      pub roomy_rest : Roomy (take (length piece - (16 - held)) (drop (16 - held) piece)) (n - 1) one.watch one.entries
      roomy_rest =
          let s = size in
          let f = h.fits in
          let few = h.few in
          let d : length (take (length piece - (16 - held)) (drop (16 - held) piece)) ≡ length piece - (16 - held) = ap length (rest_is piece (16 - held)) ∙ length-drop (16 - held) piece in
          record {
            fits = omega arith;
            few = omega arith;
            slot = subst (λ (x : Charged). x.watch.slot ≤ 15) (sym one_is) (next-slot w (shown_of first.lines) slot_in (arb-le (take 16 all)));
            room = subst (λ (x : Charged). Within (2 ^ 31 + 1) (2 ^ 62 + 2 ^ 32) x.entries) (sym one_is) (next-within w es (shown_of first.lines) (2 ^ 31) (2 ^ 62) long slot_in (arb-le (take 16 all)) h.room);
          }

      pub across : j.stamp < 2 ^ 32 → (end : Charged) → end ≡ charged_by one.watch one.entries (records_in (n - 1) (take (length piece - (16 - held)) (drop (16 - held) piece))) → end.entries ≡ account_of j es (records_in n all)
      across was end ee =
          ap (λ (x : Charged). x.entries) (ee ∙ ap (λ (x : List ℕ). charged_by one.watch one.entries (records_in (n - 1) x)) (rest_is piece (16 - held)) ∙ ap (λ (x : Charged). charged_by x.watch x.entries (records_in (n - 1) (drop (16 - held) piece))) one_is)
          ∙ ap (λ (rs : List Taken). (charged_by w es rs).entries) (sym records_are)
          ∙ counted-all all n j es w h.sound was watch_is h.passes
