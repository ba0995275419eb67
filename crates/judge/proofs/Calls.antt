-- Laws of a call: refused or judged, and what its caller is told of the recording. Assumes nothing.
use Prim.Native.Nat.{ℕ, ◌+◌, ◌/◌, ◌^◌, ◌≤◌}
use mathlib.Core.List.{List}
use mathlib.Core.Path.{◌≡◌, sym, ap, subst, ◌∙◌}
use lib.ListN.{length}
use Rattle.rules.specs.declared.Judge.{Judge}
use Rattle.rules.specs.declared.Tally.{Tally}
use Rattle.rules.specs.declared.Progress.{Progress}
use Rattle.rules.specs.declared.Verdict.{Verdict}
use Rattle.rules.specs.declared.Outcome.{Outcome}
use Rattle.rules.specs.Bounds.{SoundJudge, SoundTally}
use Rattle.rules.specs.Run.{from, records_in, run_of}
use Rattle.rules.specs.Verdict.{refusal_of, refused_by, verdict_of, outcome_in, outcome_of}
use Rattle.rules.specs.Exact.{After, Told}
use Rattle.rules.proofs.Laws.{none-refused, outcome-judged, outcome-refused}
use Rattle.rules.proofs.Told.{told}

-- what a caller learns of an answer: it is the call's outcome, and that of the whole recording
abbrev pub Answered : List ℕ → Judge → Tally → Outcome → Type 0
Answered bytes j t o = (o ≡ outcome_of bytes j t) × ((limit : ℕ) (past : List ℕ) → After limit past j t → Told limit past bytes j t o)

pub answered : (bytes : List ℕ) (j : Judge) (t : Tally) (o : Outcome) → o ≡ outcome_of bytes j t → Answered bytes j t o
answered bytes j t o e = (e, λ limit past a. subst (Told limit past bytes j t) (sym e) (told limit past bytes j t a))

pub refused_call : (bytes : List ℕ) (j : Judge) (t : Tally) (n : ℕ) (v : Verdict) → n ≡ refusal_of (length bytes) j t → (n ≡ 0 → ⊥) → v ≡ refused_by n → Answered bytes j t (record { verdict = v; judge = j; tally = t })
refused_call bytes j t n v e ne ev =
    answered bytes j t (record { verdict = v; judge = j; tally = t })
    (ap (λ (x : Verdict). record { verdict = x; judge = j; tally = t }) (ev ∙ ap refused_by e) ∙ sym (outcome-refused bytes j t (λ z. ne (e ∙ z))))

pub judged_call : (bytes : List ℕ) (j : Judge) (t : Tally) (n : ℕ) (v : Verdict) (p : Progress) → n ≡ refusal_of (length bytes) j t → n ≡ 0 → p ≡ run_of (from j t) (records_in (length bytes / 16) bytes) → v ≡ verdict_of p
    → Answered bytes j t (record { verdict = v; judge = p.judge; tally = p.tally })
judged_call bytes j t n v p e z ep ev =
    answered bytes j t (record { verdict = v; judge = p.judge; tally = p.tally })
    (ap (λ (x : Verdict). record { verdict = x; judge = p.judge; tally = p.tally }) ev ∙ ap outcome_in ep ∙ sym (outcome-judged bytes j t (sym e ∙ z)))

pub call_sound : (size : ℕ) (j : Judge) (t : Tally) (n : ℕ) → n ≡ refusal_of size j t → n ≡ 0 → SoundJudge j × (SoundTally t × (t.records + size / 16 ≤ 2 ^ 30))
call_sound size j t n e z = let h = none-refused size j t (sym e ∙ z) in (h.0, (h.1.0, h.1.1.0))
