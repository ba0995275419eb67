-- `witness::byte_at` meets its contract. Assumes nothing.
use native.Mathlib.Omega.{arith}
use lib.ListN.{length}
use mathlib.Core.Path.{◌≡◌}
use Rattle.witness.proofs.Bytes.{in_torn, in_piece, in_none}
use borrow.Author.Rules.{rules}
use Rattle.witness.proofs.byte_at.Goals as goal

pub returns-then-at-before : goal.returns-then-at-before
returns-then-at-before c = let a = c.args.before in let long : length a.torn ≡ 16 = search rules in in_torn a.torn c.args.piece.now a.held long c.requires c.args.at c.if-at-before.true

pub returns-then-behind-piece : goal.returns-then-behind-piece
returns-then-behind-piece c = let a = c.args.before in let long : length a.torn ≡ 16 = search rules in in_piece a.torn c.args.piece.now a.held long c.requires c.args.at (omega arith)

pub returns : goal.returns
returns c = let a = c.args.before in let long : length a.torn ≡ 16 = search rules in in_none a.torn c.args.piece.now a.held long c.requires c.args.at (omega arith) (omega arith)
