-- What a program makes of its reads. No contract can say which bytes a call of the system reads: a read is taken as what it answers and the
-- buffer that it leaves, and all that follows from these is proved.
use Rattle.std.specs.Prelude.{ℕ, ◌+◌, ◌*◌, ◌<◌, Bool, true, false, cond, List, [], ◌++◌, ◌≡◌, ℤ, pos, length, take, eqb, Result, Ok, Err}
use Rattle.std.specs.Int.Signed.{lt_z}
use Rattle.io.specs.Counts.{clamp_len}
use Rattle.rules.specs.Verdict.{most_records}
use Rattle.reading.specs.declared.CantRead.{CantRead}
use Rattle.reading.specs.declared.Input.{Input}

-- ---- a read
-- one call of `read`: its answer, negative where it failed, and the buffer after it
pub record Read : Type 0 where
  pub got : ℤ
  pub buffer : List ℕ

abbrev pub fails : ℤ → Bool
fails got = lt_z got (pos 0)

-- how many bytes it brought, where it did not fail: as many as it answers
abbrev pub brought_by : Read → Result ℕ CantRead
brought_by r = cond (fails r.got) (Err (record {})) (Ok (clamp_len r.got (length r.buffer)))

-- these bytes: the buffer's first, none where it failed
abbrev pub brought : Read → List ℕ
brought r = take (clamp_len r.got (length r.buffer)) r.buffer

-- ---- what is fed
-- what a program feeds, whatever its states are: what a piece makes of one, and whether more of the input counts after it
pub record Feeder (S : Type 0) : Type 0 where
  pub fed : S → List ℕ → S
  pub going : S → Bool

-- a program's input so far: the state, whether to read on, and whether the last read failed
abbrev pub Standing : Type 0 → Type 0
Standing S = Input S

abbrev pub started : {S : Type 0} → S → Standing S
started begun = record { state = begun; more = true; failed = false }

-- a read that brings nothing is the input's end, or one that failed
abbrev pub ended_by : {S : Type 0} → Standing S → Bool → Standing S
ended_by i failed = record { state = i.state; more = false; failed = failed }

-- what any other brings is fed, and more is read where it counts
abbrev pub fed_by : {S : Type 0} → Feeder S → Standing S → List ℕ → Standing S
fed_by p i bytes = record { state = p.fed i.state bytes; more = p.going (p.fed i.state bytes); failed = false }

unfoldable pub taken_in : {S : Type 0} → Feeder S → Standing S → Bool → List ℕ → Standing S
taken_in p i failed bytes = cond (eqb (length bytes) 0) (ended_by i failed) (fed_by p i bytes)

unfoldable pub after_read : {S : Type 0} → Feeder S → Standing S → Read → Standing S
after_read p i r = taken_in p i (fails r.got) (brought r)

-- ---- all the reads
-- the program has made some reads, one after another and none after the last one that it needs; `bytes` are all the bytes that they brought, in order
pub data Heard {S : Type 0} (p : Feeder S) (begun : S) : List ℕ → Standing S → Type 0 where
  start : Heard p begun [] (started begun)
  later : {bytes : List ℕ} {i : Standing S} (r : Read) → i.more ≡ true → Heard p begun bytes i → Heard p begun (bytes ++ brought r) (after_read p i r)

-- the program reads no more: all that its reads brought, in order, has been fed
pub record ReadOut {S : Type 0} (p : Feeder S) (begun : S) (i : Standing S) : Type 0 where
  pub bytes : List ℕ
  pub heard : Heard p begun bytes i
  pub last : i.more ≡ false

-- as many bytes as one record past 2^30 has
abbrev pub bytes_most : ℕ
bytes_most = (most_records + 1) * 16

-- what a program has to know of what it feeds: pieces come to all their bytes at once, and only so many bytes count
pub record Piecewise {S : Type 0} (p : Feeder S) (begun : S) : Type 0 where
  pub goes : p.going begun ≡ true
  pub none : p.fed begun [] ≡ begun
  pub more : (bytes piece : List ℕ) → p.fed (p.fed begun bytes) piece ≡ p.fed begun (bytes ++ piece)
  pub within : (bytes : List ℕ) → p.going (p.fed begun bytes) ≡ true → length bytes < bytes_most
