-- `spurshow::show_piece` meets its contract: what is left of the piece brings the walk and the text to where they have to come. Assumes nothing.
use Rattle.spurshow.proofs.Showing.{Along}
use Rattle.spurshow.proofs.show_piece.Given as goal

abbrev pub invariant-loop-i : goal.invariant-loop-i
invariant-loop-i l = Along l.asked l.initial.state l.piece l.initial.text l.n l.i l.state l.text l.place
