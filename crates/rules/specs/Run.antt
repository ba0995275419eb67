-- Document 01, "The judge": "For each record, lowest number first: ..", and "judged in one call or many, the outcome is the same".
-- One record judged, and a recording up to its first breach.
use Rattle.std.specs.Prelude.{ℕ, zero, suc, ◌+◌, Bool, cond, List, [], ◌∷◌, take, drop, eqb, leb}
use Rattle.record.specs.declared.Record.{Record}
use Rattle.record.specs.Layout.{record_in, spare_in}
use Rattle.codes.specs.Owed.{words_of}
use Rattle.codes.specs.Parity.{parity_of}
use Rattle.rules.specs.declared.Judge.{Judge}
use Rattle.rules.specs.declared.Tally.{Tally}
use Rattle.rules.specs.declared.Rule.{Rule}
use Rattle.rules.specs.declared.Progress.{Progress}
use Rattle.rules.specs.Names.{only, kind8a, kind8b, kind8c, no_rule}
use Rattle.rules.specs.Rules.{rule1, rule2, rule3, rule4, rule5, rule6, rule7, rule8a, rule8b, rule8c, rule9, rule10, rule11, rule12, rule13}
use Rattle.rules.specs.State.{is_open, open_words, open_strobes, open_age, is_owned, asked_of, twice_of, diff_of, judge_of, tally_of}

-- a record as sixteen bytes have it: its lines and its spare bits
pub record Taken : Type 0 where
  pub lines : Record
  pub spare : ℕ

abbrev pub taken_in : List ℕ → Taken
taken_in bytes = record { lines = record_in bytes; spare = spare_in bytes }

-- the first n records of a recording's bytes
abbrev pub records_in : ℕ → List ℕ → List Taken
records_in zero bytes = []
records_in (suc n) bytes = taken_in (take 16 bytes) ∷ records_in n (drop 16 bytes)

-- the first rule of a list that does not hold
abbrev pub lowest : List (Rule × Bool) → Rule
lowest [] = no_rule
lowest (rule ∷ rest) = cond rule.1 (lowest rest) rule.0

-- the rules from 3 up, of a record without RESET that stands d cycles after the last one
abbrev pub later_rules : Judge → Record → ℕ → List (Rule × Bool)
later_rules j r d =
    (only 3, rule3 r.spv r.sp (parity_of r.ad))
    ∷ (only 4, rule4 (is_open j.transfer) r.start)
    ∷ (only 5, rule5 (is_open j.transfer) r.start r.ack)
    ∷ (only 6, rule6 r.start r.ack r.tm1 r.tm0)
    ∷ (only 7, rule7 r.start r.ack (words_of r.tm0 r.ad))
    ∷ (kind8a, rule8a r.start (asked_of j.wave d) (is_owned j.wave.owner))
    ∷ (kind8b, rule8b r.start (asked_of j.wave d) (twice_of j.wave d))
    ∷ (kind8c, rule8c r.start (asked_of j.wave d) (j.wave.since + d))
    ∷ (only 9, rule9 j.wave.rqst d r.rqst r.start)
    ∷ (only 10, rule10 r.start (asked_of j.wave d) r.arb j.wave.arb)
    ∷ (only 11, rule11 j.limit r.start (asked_of j.wave d) r.arb j.wave.arb j.wave.turn)
    ∷ (only 12, rule12 (is_open j.transfer) (open_age j.transfer) d)
    ∷ (only 13, rule13 (is_open j.transfer) (open_words j.transfer) (open_strobes j.transfer) r.start r.ack r.tm1 r.tm0)
    ∷ []

-- "If RESET is active, .. no further rule applies"
abbrev pub rules_of : Judge → Taken → ℕ → List (Rule × Bool)
rules_of j r d =
    (only 1, rule1 r.spare)
    ∷ (only 2, rule2 j.seen d)
    ∷ cond r.lines.reset [] (later_rules j r.lines d)

-- the lowest rule that the record breaks
unfoldable pub rule_of : Judge → Taken → ℕ → Rule
rule_of j r d = lowest (rules_of j r d)

-- document 02, wish 2: "The breach also tells the span at its record ..; at record 0 or a breach of rule 1 or 2 it is the tally's.": at record 0 the
-- difference is 0
abbrev pub span_of : Tally → ℕ → ℕ → ℕ
span_of t number d = cond (leb number 2) t.span (t.span + d)

-- nothing broken so far
abbrev pub from : Judge → Tally → Progress
from j t = record { rule = 0; kind = 0; span = 0; judge = j; tally = t }

-- a breach of this rule by a record d cycles after the last one
abbrev pub broken : Rule → ℕ → Judge → Tally → Progress
broken rule d j t = record { rule = rule.number; kind = rule.kind; span = span_of t rule.number d; judge = j; tally = t }

-- one record judged: "A breach names its rule .., and leaves the judge's state as it was before it"; the tally is "untouched by a breach"
unfoldable pub step_of : Judge → Tally → Taken → Progress
step_of j t r =
    let d = diff_of j r.lines.stamp in
    cond (eqb (rule_of j r d).number 0)
    (from (judge_of j r.lines d) (tally_of t (is_open j.transfer) r.lines.reset r.lines.start r.lines.ack d))
    (broken (rule_of j r d) d j t)

-- the next record, unless a rule was broken before it
unfoldable pub next_of : Progress → Taken → Progress
next_of p r = cond (eqb p.rule 0) (step_of p.judge p.tally r) p

abbrev pub run_of : Progress → List Taken → Progress
run_of p [] = p
run_of p (r ∷ rs) = run_of (next_of p r) rs
