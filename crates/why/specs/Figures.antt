-- What a record that breaks a rule had, and what would have conformed, as two figures: in the judge's terms. Of the recording itself: the file Found.
use Rattle.std.specs.Prelude.{ℕ, ◌+◌, ◌-◌, ◌^◌, Bool, cond, ◌&&◌, List, [], ◌∷◌, eqb}
use Rattle.basics.specs.Lines.{one}
use Rattle.basics.specs.Numbers.{watchdog}
use Rattle.codes.specs.Parity.{parity_of}
use Rattle.rules.specs.declared.Judge.{Judge}
use Rattle.rules.specs.declared.Rule.{Rule}
use Rattle.rules.specs.Names.{only, kind8c}
use Rattle.rules.specs.Rules.{strobe}
use Rattle.rules.specs.State.{open_words, open_strobes, open_age, open_busy}
use Rattle.rules.specs.Run.{Taken}
use Rattle.why.specs.declared.Figures.{Figures}

-- what was found, and the bound that it had to keep
abbrev pub figures : ℕ → ℕ → Figures
figures found bound = record { found = found; bound = bound }

-- the rules that are about a number, with the figures of a record that stands d cycles after the last one, the judge's state before it being j
abbrev pub rows_of : Judge → Taken → ℕ → List (Rule × Figures)
rows_of j r d =
    -- the spare bits as a number; they are to be 0
    (only 1, figures r.spare 0)
    -- the stamp's difference; it is to be 1 to 2^31
    ∷ (only 2, figures d (2 ^ 31))
    -- SP; what it is to be
    ∷ (only 3, figures (one r.lines.sp) (one (parity_of r.lines.ad)))
    -- cycles since the open transfer's START; none is to be open
    ∷ (only 4, figures (open_busy j.transfer + d - 1) 0)
    -- cycles since the wave's last START; they are to be 3 or more
    ∷ (kind8c, figures (j.wave.since + d) 3)
    -- ARB at this START; at most the one at the wave's last START
    ∷ (only 10, figures r.lines.arb j.wave.arb)
    -- STARTs of the wave with this ARB, this one counted; at most the hold limit
    ∷ (only 11, figures (j.wave.turn + 1) j.limit)
    -- the open transfer's age at this record; at most 256
    ∷ (only 12, figures (open_age j.transfer + d) watchdog)
    -- strobes of the open transfer, this record's counted where it is one; its words less one
    ∷ (only 13, figures (open_strobes j.transfer + one (strobe (open_words j.transfer) r.lines.start r.lines.ack r.lines.tm0)) (open_words j.transfer - 1))
    ∷ []

abbrev pub same_rule : Rule → Rule → Bool
same_rule a b = eqb a.number b.number && eqb a.kind b.kind

-- the figures that the rows have for a rule, both 0 where they have none
abbrev pub figures_in : Rule → List (Rule × Figures) → Figures
figures_in rule [] = figures 0 0
figures_in rule (row ∷ rows) = cond (same_rule rule row.0) row.1 (figures_in rule rows)

-- WHAT THE RECORD HAD, AND WHAT WOULD HAVE CONFORMED, for the rule that it breaks
unfoldable pub figures_of : Rule → Judge → Taken → ℕ → Figures
figures_of rule j r d = figures_in rule (rows_of j r d)
