-- What a piece that is fed leaves to charge, and that it may be charged. Assumes nothing.
use Rattle.std.proofs.Common.{◌≡◌, ℕ, ◌-◌, ◌^◌, ◌<◌, ◌≤◌, true, false, List, ◌++◌, take, sym, ap, ◌∙◌, subst, arith}
use Rattle.std.specs.Prelude.{Result}
use Rattle.std.specs.Result.{result_unwrap_or}
use Rattle.basics.specs.Answers.{answered}
use Rattle.basics.specs.declared.refusal.Refusal.{Refusal}
use Rattle.basics.proofs.Bools.{by-test, and_both, cond-true, cond-false}
use Rattle.entries.specs.declared.Entry.{Entry}
use Rattle.rules.specs.declared.Tally.{Tally}
use Rattle.rules.specs.Bounds.{SoundJudge, SoundTally}
use Rattle.rules.specs.declared.Verdict.TheVariants.{OutOfBounds}
use Rattle.rules.specs.Run.{records_in}
use Rattle.rules.specs.State.{zero_tally}
use Rattle.rules.specs.Verdict.{most_records}
use Rattle.feeding.specs.declared.Stream.{Stream}
use Rattle.feeding.specs.declared.Ending.{Ending}
use Rattle.feeding.specs.State.{goes, torn_of, stream_bounds, taken_in, gone_on, feed_of, fed_of, finish_of}
use Rattle.feeding.proofs.Bounds.{bounds_are}
use Rattle.feeding.proofs.GoOn.{taken-fits, gone_sound}
use Rattle.usage.specs.declared.Ledger.{Ledger}
use Rattle.usage.specs.declared.Closing.{Closing}
use Rattle.usage.specs.Charge.{none_used, account_of}
use Rattle.usage.specs.Calls.{entries_bounds}
use Rattle.usage.specs.Pieces.{ledger_bounds, post_of, closing_of}
use Rattle.stream.proofs.Calls.{fed_or}
use Rattle.usage.proofs.Running.{passed}
use Rattle.accounts.specs.Watch.{Within, Chargeable}
use Rattle.accounts.proofs.Calls.{bounds_room}

module _ (l : Ledger) (piece : List ℕ) (b : ledger_bounds l ≡ true) where
  abbrev s : Stream
  s = l.stream

  abbrev all : List ℕ
  all = torn_of s ++ piece

  both : (stream_bounds s ≡ true) × (entries_bounds s.tally l.entries ≡ true)
  unfolding ledger_bounds
  both = and_both (stream_bounds s) (entries_bounds s.tally l.entries) b

  pub sound : SoundJudge s.judge × (SoundTally s.tally × ((s.tally.records ≤ most_records) × (s.held < 16)))
  sound = bounds_are s both.0

  -- how many records are counted more
  record Counted (next : Stream) : Type 0 where
    pub more : s.tally.records ≤ next.tally.records
    pub may : Chargeable all (next.tally.records - s.tally.records) s.judge l.entries

  room : Within (2 ^ 31) (2 ^ 62) l.entries
  room = bounds_room s.tally l.entries sound.1.0 sound.1.1.0 both.1

  counted-going : Counted (gone_on s.judge s.tally all)
  unfolding gone_on
  counted-going =
      let p = passed (taken_in s.tally all) s.judge s.tally all in
      let fits = taken-fits s.tally all in
      let most = p.most in
      let kept = (gone_sound s.judge s.tally all sound.0 sound.1.0 sound.1.1.0).1.1 in
      record { more = p.more; may = record { sound = sound.0; fits = omega arith; few = omega arith; passes = p.pass; room = room } }

  counted-ended : Counted s
  counted-ended =
      let none : 0 ≡ s.tally.records - s.tally.records = omega arith in
      record {
        more = omega arith;
        may = subst (λ (n : ℕ). Chargeable all n s.judge l.entries) none (record { sound = sound.0; fits = omega arith; few = omega arith; passes = tt; room = room });
      }

  counted : Counted (feed_of s piece)
  unfolding feed_of
  counted =
      by-test (goes s.stop)
      (λ g. subst Counted (sym (cond-true _ _ g)) counted-going)
      (λ g. subst Counted (sym (cond-false _ _ g)) counted-ended)

  -- of the answer of `feed`
  module _ (r : Result Stream Refusal) (answers : answered s r ≡ fed_of s piece) (next : Stream) (e : next ≡ result_unwrap_or r s) where
    next_is : next ≡ feed_of s piece
    next_is = fed_or s piece r next answers e both.0

    pub no_fewer : s.tally.records ≤ next.tally.records
    no_fewer = subst (λ (x : Stream). s.tally.records ≤ x.tally.records) (sym next_is) counted.more

    pub may_charge : Chargeable all (next.tally.records - s.tally.records) s.judge l.entries
    may_charge = subst (λ (x : Stream). Chargeable all (x.tally.records - s.tally.records) s.judge l.entries) (sym next_is) counted.may

    pub posts : (entries : List Entry) → entries ≡ account_of s.judge l.entries (records_in (next.tally.records - s.tally.records) all) → record { stream = next; entries = entries } ≡ post_of l piece
    unfolding post_of
    posts entries x =
        ap (λ (y : List Entry). record { stream = next; entries = y }) x
        ∙ ap (λ (y : Stream). record { stream = y; entries = account_of s.judge l.entries (records_in (y.tally.records - s.tally.records) all) }) next_is

-- where no torn record is held, the piece is all
pub whole_piece : (s : Stream) (piece : List ℕ) → s.held ≡ 0 → torn_of s ++ piece ≡ piece
whole_piece s piece e = ap (λ (k : ℕ). take k s.torn ++ piece) e

-- ---- the end of the input
pub closes_in : (l : Ledger) (ending : Ending) → ledger_bounds l ≡ true → ending ≡ finish_of l.stream → ◌≡◌ {A = Closing} (record { ending = ending; entries = l.entries }) (closing_of l)
unfolding closing_of
closes_in l ending b e = ap (λ (x : Ending). record { ending = x; entries = l.entries }) e ∙ sym (cond-true _ _ b)

pub closes_out : (l : Ledger) (t : Tally) (entries : List Entry) → ledger_bounds l ≡ false → t ≡ zero_tally → entries ≡ none_used → ◌≡◌ {A = Closing} (record { ending = record { verdict = OutOfBounds; tally = t; opened = false }; entries = entries }) (closing_of l)
unfolding closing_of
closes_out l t entries b te ee =
    ap (λ (x : Tally). record { ending = record { verdict = OutOfBounds; tally = x; opened = false }; entries = entries }) te
    ∙ ap (λ (x : List Entry). record { ending = record { verdict = OutOfBounds; tally = zero_tally; opened = false }; entries = x }) ee
    ∙ sym (cond-false _ _ b)
