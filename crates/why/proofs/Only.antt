-- A record has one pair of figures for a rule: no two satisfy `Found`. Assumes nothing.
use Prim.Native.Nat.{ℕ, suc, ◌+◌}
use mathlib.Core.Path.{◌≡◌, refl, ap, ◌∙◌}
use native.Mathlib.Omega.{arith}
use Rattle.rules.specs.declared.Rule.{Rule}
use Rattle.rules.specs.Recording.{Lines, Recording, cycle, words_at, strobe_of, count}
use Rattle.rules.proofs.Hold.{opened-only, ages_only}
use Rattle.rules.proofs.Ride.{began_only, last-only}
use Rattle.why.specs.declared.Figures.{Figures}
use Rattle.why.specs.Figures.{figures}
use Rattle.why.specs.Found.{Found, spare, stamp, parity, opened, soon, above, often, old, strobes, fifth, sixth, seventh, parked, brief, ninth}

-- from one record to record i there is one number of cycles
ago-only : (l : Lines) (i m n x y : ℕ) → m ≡ n → cycle l m + x ≡ cycle l i → cycle l n + y ≡ cycle l i → x ≡ y
ago-only l i m n x y s e d = let t : cycle l m ≡ cycle l n = rw s in omega arith

pub found-only : (limit : ℕ) (r : Recording) (i : ℕ) (rule : Rule) (f g : Figures) → Found limit r i rule f → Found limit r i rule g → f ≡ g
found-only limit r i _ _ _ spare spare = refl
found-only limit r i _ _ _ stamp stamp = refl
found-only limit r i _ _ _ parity parity = refl
found-only limit r i _ _ _ (opened k x o e) (opened n y q d) =
    rw (ago-only r.lines i k n x y (opened-only r.lines i k n o q) e d)
found-only limit r i _ _ _ (soon b m x h l e) (soon c n y g q d) =
    let s = began_only r.lines i b c h g in
    rw (ago-only r.lines i m n x y (last-only r.lines i b m n l (rw s q)) e d)
found-only limit r i _ _ _ (above b m h l) (above c n g q) =
    let s = began_only r.lines i b c h g in
    let v = last-only r.lines i b m n l (rw s q) in
    rw v
found-only limit r i _ _ _ (often b h) (often c g) = let s = began_only r.lines i b c h g in rw s
found-only limit r i _ _ _ (old k m x o f e) (old n p y q g d) =
    let s = opened-only r.lines i k n o q in
    rw (ago-only r.lines i m p x y (ages_only r.lines i k m p f (rw s g)) e d)
found-only limit r i _ _ _ (strobes k x o e) (strobes n y q d) =
    let s = opened-only r.lines i k n o q in
    let t : words_at r.lines k ≡ words_at r.lines n = rw s in
    let u : x ≡ y = omega arith in
    ap (λ (m : ℕ). figures (count (strobe_of r.lines m) (suc i)) x) s
    ∙ ap (λ (b : ℕ). figures (count (strobe_of r.lines n) (suc i)) b) u
found-only limit r i _ _ _ fifth fifth = refl
found-only limit r i _ _ _ sixth sixth = refl
found-only limit r i _ _ _ seventh seventh = refl
found-only limit r i _ _ _ parked parked = refl
found-only limit r i _ _ _ brief brief = refl
found-only limit r i _ _ _ ninth ninth = refl
