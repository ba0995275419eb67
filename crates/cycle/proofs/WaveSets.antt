-- Laws of a wave as a set of sixteen slots: its highest member, and its size without that one. Assumes nothing.
use Prim.Native.Nat.{ℕ, suc, ◌^◌, ◌<◌}
use mathlib.Core.Path.{◌≡◌, sym}
use mathlib.Core.Bool.{true, false}
use native.Mathlib.Omega.{arith}
use lib.Pow
use Rattle.basics.proofs.Bools.{not-true}
use Rattle.basics.proofs.Bits.{weight_le, active-bit}
use Rattle.slots.specs.Set.{mem, without, top, card}
use Rattle.slots.proofs.MemberLaws.{empty_is_zero, mem-small}
use Rattle.slots.proofs.TopLaws.{Top, found, bare, top_view, top_most}
use Rattle.slots.proofs.SizeLaws.{card_less}

-- a wave with members has its highest member among them
pub record Highest (w : ℕ) : Type 0 where
  pub is_in : mem (top w) w ≡ true
  pub small : top w < 16

pub highest : (w : ℕ) → w < 2 ^ 16 → (w ≡ 0 → ⊥) → Highest w
highest w h n = go (top_view 16 w)
  where
    go : Top 16 w → Highest w
    go (found m l) = record { is_in = m; small = l }
    go (bare f) = absurd (n (empty_is_zero 16 w h f))

pub above-top : (m w : ℕ) → w < 2 ^ 16 → top w < m → mem m w ≡ false
above-top m w h l =
    not-true (mem m w) (λ (e : mem m w ≡ true). omega (arith, top_most 16 w m (mem-small m w h e) e))

-- an empty wave has no member
pub mem-zero : (m w : ℕ) → w ≡ 0 → mem m w ≡ true → ⊥
mem-zero m w z e = omega (arith, weight_le m w (active-bit m w e), lib.Pow.pow_pos m)

-- of a wave that has members, one is the highest, and without it there is one fewer
pub card-top : (w : ℕ) → w < 2 ^ 16 → (w ≡ 0 → ⊥) → card w ≡ suc (card (without (top w) w))
card-top w h n = let t = highest w h n in sym (card_less 16 w (top w) t.small t.is_in)
