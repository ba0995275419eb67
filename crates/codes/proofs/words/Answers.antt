use mathlib.Core.Path.{ap}
use Rattle.codes.specs.declared.Measures.{Measures}
use Rattle.codes.proofs.words.Goals as goal

pub returns : goal.returns
returns c = ap (λ (m : Measures). m.1) c.measured-words.ensures
