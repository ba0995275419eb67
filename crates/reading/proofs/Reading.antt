-- Laws of a program's reads. Assumes nothing.
use Prim.Native.Nat.{ℕ, suc, ◌+◌, ◌≤◌, min}
use mathlib.Core.Bool.{Bool, true, false, false≢true}
use mathlib.Core.List.{List, [], ◌∷◌, ◌++◌, append-nil}
use mathlib.Core.Path.{◌≡◌, refl, sym, ap, subst, ◌∙◌}
use native.Mathlib.Omega.{arith}
use lib.IntN.{ℤ}
use lib.ListN.{length, take, length-append}
use lib.Dec.{eqb}
use borrow.Author.Tests.{eq-eqb, ne_eqb, eqb-true, eqb-false, leb-true}
use Rattle.basics.proofs.Bools.{by-test, cond-true, cond-false, not-true}
use Rattle.io.specs.Counts.{clamp_len}
use Rattle.std.specs.Prelude.{Result, Ok, Err, pos, negsuc, cond}
use Rattle.std.specs.Result.{result_unwrap_or, is_err}
use Rattle.reading.specs.declared.CantRead.{CantRead}
use Rattle.reading.specs.Reads.{Read, fails, brought_by, brought, Feeder, Standing, started, ended_by, fed_by, taken_in, after_read, Heard, start, later, ReadOut, Piecewise, bytes_most}

-- ---- a read
pub none_taken : (r : Read) (got : ℤ) → got ≡ r.got → fails got ≡ true → Err (record {}) ≡ brought_by r
none_taken r got ge e = sym (cond-true _ _ (ap fails (sym ge) ∙ e))

pub some_taken : (r : Read) (n : ℕ) (got : ℤ) → got ≡ r.got → n ≡ clamp_len got (length r.buffer) → fails got ≡ false → Ok n ≡ brought_by r
some_taken r n got ge ne e = ap Ok (ne ∙ ap (λ (z : ℤ). clamp_len z (length r.buffer)) ge) ∙ sym (cond-false _ _ (ap fails (sym ge) ∙ e))

-- a read that failed brought no bytes
failed_or : (got : ℤ) (most : ℕ) → result_unwrap_or {E = CantRead} (cond (fails got) (Err (record {})) (Ok (clamp_len got most))) 0 ≡ clamp_len got most
failed_or (pos k) most =
    ap (λ (b : Bool). result_unwrap_or {E = CantRead} (cond b (Err (record {})) (Ok (min k most))) 0)
    (not-true (fails (pos k)) (λ e. let h = leb-true (suc k) 0 e in omega arith))
failed_or (negsuc k) most = refl

has_failed : (b : Bool) (n : ℕ) → is_err {E = CantRead} (cond b (Err (record {})) (Ok n)) ≡ b
has_failed true n = refl
has_failed false n = refl

-- ---- what is fed
module _ {S : Type 0} (p : Feeder S) where
  pub taken_none : (i : Standing S) (f : Bool) (bytes : List ℕ) → length bytes ≡ 0 → taken_in p i f bytes ≡ ended_by i f
  unfolding taken_in
  taken_none i f bytes z = cond-true _ _ (eq-eqb _ 0 z)

  pub taken-some : (i : Standing S) (f : Bool) (bytes : List ℕ) → (length bytes ≡ 0 → ⊥) → taken_in p i f bytes ≡ fed_by p i bytes
  unfolding taken_in
  taken-some i f bytes ne = cond-false _ _ (ne_eqb _ 0 ne)

  -- what a program puts together
  pub took_some : (i : Standing S) (f go : Bool) (next : S) (bytes : List ℕ) → (length bytes ≡ 0 → ⊥) → next ≡ p.fed i.state bytes → go ≡ p.going next
      → ◌≡◌ {A = Standing S} (record { state = next; more = go; failed = false }) (taken_in p i f bytes)
  took_some i f go next bytes ne is goes =
      ap (λ (b : Bool). record { state = next; more = b; failed = false }) goes
      ∙ ap (λ (s : S). record { state = s; more = p.going s; failed = false }) is
      ∙ sym (taken-some i f bytes ne)

  pub took_read : (i after : Standing S) (r : Read) (b : Result ℕ CantRead) (failed : Bool) (size : ℕ) → b ≡ brought_by r → failed ≡ is_err b → size ≡ result_unwrap_or b 0
      → after ≡ taken_in p i failed (take size r.buffer) → after ≡ after_read p i r
  unfolding after_read
  took_read i after r b failed size e fe se is =
      is
      ∙ ap (λ (x : Bool). taken_in p i x (take size r.buffer)) (fe ∙ ap is_err e ∙ has_failed (fails r.got) _)
      ∙ ap (λ (n : ℕ). taken_in p i (fails r.got) (take n r.buffer)) (se ∙ ap (λ (x : Result ℕ CantRead). result_unwrap_or x 0) e ∙ failed_or r.got (length r.buffer))

no_bytes : (bytes : List ℕ) → length bytes ≡ 0 → bytes ≡ []
no_bytes [] e = refl
no_bytes (b ∷ bytes) e = absurd (omega arith)

-- ---- what the reads come to
module _ {S : Type 0} (p : Feeder S) (begun : S) (laws : Piecewise p begun) where
  -- the state is that of all the bytes that the reads brought
  pub record Holds (bytes : List ℕ) (i : Standing S) : Type 0 where
    pub state : i.state ≡ p.fed begun bytes
    pub going : i.more ≡ true → p.going i.state ≡ true

  holds-none : (bytes piece : List ℕ) (i after : Standing S) (f : Bool) → Holds bytes i → piece ≡ [] → after ≡ ended_by i f → Holds (bytes ++ piece) after
  holds-none bytes piece i after f h none e =
      record {
        state = ap (λ (x : Standing S). x.state) e ∙ h.state ∙ ap (p.fed begun) (sym (ap (λ (l : List ℕ). bytes ++ l) none ∙ append-nil bytes));
        going = λ more. absurd (false≢true (sym (ap (λ (x : Standing S). x.more) e) ∙ more));
      }

  holds-some : (bytes piece : List ℕ) (i after : Standing S) → Holds bytes i → after ≡ fed_by p i piece → Holds (bytes ++ piece) after
  holds-some bytes piece i after h e =
      record {
        state = ap (λ (x : Standing S). x.state) e ∙ ap (λ (s : S). p.fed s piece) h.state ∙ laws.more bytes piece;
        going = λ more. ap (λ (x : Standing S). p.going x.state) e ∙ sym (ap (λ (x : Standing S). x.more) e) ∙ more;
      }

  pub heard-holds : (bytes : List ℕ) (i : Standing S) → Heard p begun bytes i → Holds bytes i
  unfolding after_read
  heard-holds bytes i start = record { state = sym laws.none; going = λ _. laws.goes }
  heard-holds _ _ (later {bytes} {i} r more h) =
      let before = heard-holds bytes i h in
      by-test (eqb (length (brought r)) 0)
      (λ e. let z = eqb-true (length (brought r)) 0 e in holds-none bytes (brought r) i _ _ before (no_bytes (brought r) z) (taken_none p i _ (brought r) z))
      (λ e. holds-some bytes (brought r) i _ before (taken-some p i _ (brought r) (eqb-false (length (brought r)) 0 e)))

-- ---- the loop
-- so many turns are left, and are enough
pub record Turning {S : Type 0} (p : Feeder S) (begun : S) (turns : ℕ) (i : Standing S) : Type 0 where
  pub bytes : List ℕ
  pub heard : Heard p begun bytes i
  pub enough : i.more ≡ true → bytes_most ≤ turns + length bytes

module _ {S : Type 0} (p : Feeder S) (begun : S) where
  -- a read after which more is wanted brought a byte or more
  brings_one : (i : Standing S) (r : Read) → (after_read p i r).more ≡ true → 1 ≤ length (brought r)
  unfolding after_read
  brings_one i r more =
      by-test (eqb (length (brought r)) 0)
      (λ e. absurd (false≢true (sym (ap (λ (x : Standing S). x.more) (taken_none p i _ (brought r) (eqb-true (length (brought r)) 0 e))) ∙ more)))
      (λ e. let ne = eqb-false (length (brought r)) 0 e in omega arith)

  pub turns-start : (turns : ℕ) → bytes_most ≤ turns → Turning p begun turns (started begun)
  turns-start turns h = record { bytes = []; heard = start; enough = λ _. omega arith }

  pub turns_on : (turns next : ℕ) (i after : Standing S) (r : Read) → Turning p begun turns i → i.more ≡ true → after ≡ after_read p i r → turns ≤ next + 1 → Turning p begun next after
  turns_on turns next i after r t more e le =
      subst (Turning p begun next) (sym e)
      (record {
        bytes = t.bytes ++ brought r;
        heard = later r more t.heard;
        enough = λ again. let one = brings_one i r again in let size = length-append t.bytes (brought r) in let had = t.enough more in omega arith;
      })

  pub turns_stop : (fresh : S) → begun ≡ fresh → (turns : ℕ) (i : Standing S) → Turning p begun turns i → i.more ≡ false → ReadOut p fresh i
  turns_stop fresh e turns i t last = subst (λ (s : S). ReadOut p s i) e (record { bytes = t.bytes; heard = t.heard; last = last })

  -- the turns are never used up while more is wanted
  pub turns-end : (fresh : S) → begun ≡ fresh → Piecewise p fresh → (turns : ℕ) (i : Standing S) → Turning p begun turns i → turns ≡ 0 → ReadOut p fresh i
  turns-end fresh e pieces turns i t z = turns_stop fresh e turns i t (not-true i.more used_up)
    where
      used_up : i.more ≡ true → ⊥
      used_up more =
          let laws = subst (Piecewise p) (sym e) pieces in
          let h = heard-holds p begun laws t.bytes i t.heard in
          let within = laws.within t.bytes (ap p.going (sym h.state) ∙ h.going more) in
          let had = t.enough more in
          omega arith
