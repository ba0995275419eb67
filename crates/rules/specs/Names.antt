-- How a rule is named: by its number in document 01 and, of rule 8, by its kind. Document 02, wish 2: "Rule 8 says three things at once .. Split it:
-- 8a, parking with no owner since reset; 8b, RQST active for too few cycles; 8c, too soon after the wave's last START."
use Rattle.std.specs.Prelude.{ℕ}
use Rattle.rules.specs.declared.Rule.{Rule}
use Rattle.rules.specs.declared.Broken.{Broken}

-- a rule of one kind
abbrev pub only : ℕ → Rule
only number = record { number = number; kind = 0 }

-- the three kinds of rule 8
abbrev pub kind8a : Rule
kind8a = record { number = 8; kind = 1 }

abbrev pub kind8b : Rule
kind8b = record { number = 8; kind = 2 }

abbrev pub kind8c : Rule
kind8c = record { number = 8; kind = 3 }

-- none
abbrev pub no_rule : Rule
no_rule = record { number = 0; kind = 0 }

-- the rule that a breach names
abbrev pub rule_in : Broken → Rule
rule_in b = record { number = b.rule; kind = b.kind }
