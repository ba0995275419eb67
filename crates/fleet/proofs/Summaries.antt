-- The summary of some numbers says what is so, and no other does. Assumes nothing.
use Prim.Native.Nat.{ℕ, ◌≤◌, ◌<◌}
use mathlib.Core.List.{List}
use mathlib.Core.Path.{◌≡◌, refl, sym, ◌∙◌}
use native.Mathlib.Omega.{arith}
use native.Mathlib.Nat.{mod-lt, div-add-mod'}
use lib.ListN.{length}
use Rattle.fleet.specs.declared.Summary.{Summary}
use Rattle.fleet.specs.Figures.{total_of, summary_of}
use Rattle.fleet.specs.Meaning.{Summarizes}
use Rattle.fleet.proofs.Dividing.{mean_of, rest_of}
use Rattle.fleet.proofs.Members.{least_is, greatest_is}
use Rattle.fleet.proofs.Medians.{median_is}

-- two summaries with the same figures are the same
pub same-figures : (s t : Summary)
    → s.count ≡ t.count → s.least ≡ t.least → s.median ≡ t.median → s.greatest ≡ t.greatest → s.mean ≡ t.mean → s.remainder ≡ t.remainder → s ≡ t
same-figures s t a b c d e f = listed s.count s.least s.median s.greatest s.mean s.remainder a b c d e f
  where
    listed : (k l m g q r : ℕ) → k ≡ t.count → l ≡ t.least → m ≡ t.median → g ≡ t.greatest → q ≡ t.mean → r ≡ t.remainder
        → ◌≡◌ {A = Summary} (record { count = k; least = l; median = m; greatest = g; mean = q; remainder = r }) t
    listed k l m g q r a b c d e f = rw (a, b, c, d, e, f)

-- THE FIGURES MEAN WHAT THEY ARE CALLED, for one number or more
pub summarizes : (xs : List ℕ) → 0 < length xs → Summarizes xs (summary_of xs)
unfolding summary_of
summarizes xs h =
    record {
      number = refl;
      lowest = least_is xs h;
      middle = median_is xs h;
      highest = greatest_is xs h;
      average = record { sum = div-add-mod' (total_of xs) (length xs); rest = mod-lt (total_of xs) h };
    }

-- AND NO OTHER FIGURES DO
pub only : (xs : List ℕ) (s t : Summary) → Summarizes xs s → Summarizes xs t → s ≡ t
only xs s t a b =
    same-figures s t (a.number ∙ sym b.number)
    (both (a.lowest.none_below _ b.lowest.member) (b.lowest.none_below _ a.lowest.member))
    (both (a.middle.first _ b.middle.member b.middle.half) (b.middle.first _ a.middle.member a.middle.half))
    (both (b.highest.none_above _ a.highest.member) (a.highest.none_above _ b.highest.member))
    (mean_of _ _ _ _ a.average.sum a.average.rest ∙ sym (mean_of _ _ _ _ b.average.sum b.average.rest))
    (rest_of _ _ _ _ a.average.sum a.average.rest ∙ sym (rest_of _ _ _ _ b.average.sum b.average.rest))
  where
    both : {m n : ℕ} → m ≤ n → n ≤ m → m ≡ n
    both h k = omega arith
