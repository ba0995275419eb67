-- A transfer that conforms lasts at most the watchdog's cycles for each word of the largest block: the busy cycles that the judge keeps of it are within
-- their bound. Assumes nothing.
use Prim.Native.Nat.{ℕ, ◌+◌, ◌≤◌}
use mathlib.Core.Bool.{Bool, true, false, cond, false≢true}
use mathlib.Core.List.{[]}
use mathlib.Core.Path.{◌≡◌, sym, ap}
use native.Mathlib.Omega.{arith}
use Rattle.basics.specs.Numbers.{transfer_most}
use Rattle.rules.specs.declared.Transfer.{Transfer}
use Rattle.rules.specs.declared.Transfer.TheVariants.{Idle, Open}
use Rattle.rules.specs.Bounds.{SoundTransfer}
use Rattle.rules.specs.Recording.{Lines, recording_in, cycle}
use Rattle.rules.specs.Thirteen.{Rule12, from_third, AllKept}
use Rattle.rules.specs.Longest.{Longest}
use Rattle.rules.proofs.Hold.{Held, opened-only}
use Rattle.rules.proofs.Exactly.{comes_to}

pub longest : (limit : ℕ) → 1 ≤ limit → limit ≤ 16 → Longest limit
longest limit low high bytes i k keeps nr o =
    let x = comes_to limit bytes i low high (λ m lt. keeps m (omega arith)) in
    by_transfer x.0.transfer x.1.transfer x.1.sound.transfer
  where
    l : Lines
    l = (recording_in bytes).lines

    twelfth : Rule12 l i
    twelfth = in_list (l i).reset nr (keeps i (omega arith)).1.1
      where
        in_list : (b : Bool) → b ≡ false → AllKept (cond b [] (from_third limit l i)) → Rule12 l i
        in_list true e a = absurd (false≢true (sym e))
        in_list false e a = a.1.1.1.1.1.1.1.1.1.1.1.0

    by_transfer : (t : Transfer) → Held l i t → SoundTransfer t → cycle l i ≤ cycle l k + transfer_most
    by_transfer Idle h s = absurd (h k o)
    by_transfer (Open w strobes age busy) (n, h) s =
        let young = twelfth n h.word h.since h.from in
        let same : cycle l n ≡ cycle l k = ap (cycle l) (opened-only l i n k h.since o) in
        omega (arith, h.spent, h.aged, s.spent, s.few, s.high)
